use Rattle.std.proofs.Common.{◌≡◌, length, map, arith}
use Rattle.std.proofs.lemmas.List.{length-map}
use Rattle.std.proofs.lemmas.Result.{IfOk-weaker}
use Rattle.patch_log.specs.State.{LogView}
use Rattle.turn_cell.specs.Sights.{Made}
use Rattle.hall_logs.specs.Files.{AreOpened}
use Rattle.hall_logs.proofs.Opens.{as_many}
use Rattle.hall_tests.proofs.Passes.{both}
use Rattle.hall_tests.proofs.halls.open.Goals as goal

pub returns-clause-logs : goal.returns-clause-logs
returns-clause-logs g c =
    let disks = c.args.disks in
    let e = c.open_on.ensures in
    let origin = λ (log : Made (LogView g.row.D.Denot)). log.origin in
    both c.open_on.result (λ r. length r.0.logs ≡ 2) (λ r. r.0.seats ≡ 2)
    (IfOk-weaker c.open_on.result (λ r. AreOpened g.D.Disk _ 1 disks.items (map origin r.0.logs)) (λ r. length r.0.logs ≡ 2)
    (λ r are. omega (arith, as_many g.D.Disk _ 1 disks.items (map origin r.0.logs) are, length-map r.0.logs origin, disks.ok.0, c.requires)) e.logs)
    e.seats

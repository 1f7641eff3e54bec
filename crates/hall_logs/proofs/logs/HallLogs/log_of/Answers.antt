use Rattle.std.proofs.Common.{◌≡◌, ◌-◌, slice_index_or, subst}
use Rattle.hall_logs.specs.Slots.{LogsOfHall}
use Rattle.hall_logs.proofs.Parts.{has_part}
use Rattle.hall_logs.proofs.logs.HallLogs.log_of.Goals as goal

pub returns : goal.returns
returns g c =
    let log = c.index.result.now in
    has_part g.D.Disk c.args.self.now.logs c.args.pass.now c.args.slot log c.requires.of c.requires.slot (subst (λ (h : LogsOfHall g.row.D.Denot). log ≡ slice_index_or h.logs (c.args.slot - 1) log) c.self.view_is c.index.ensures)

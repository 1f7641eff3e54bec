use Rattle.std.proofs.Common.{◌≡◌, List, sym, subst, ap, ◌∙◌, arith}
use Rattle.std.specs.Prelude.{reverse}
use Rattle.std.specs.List.{AllZip}
use Rattle.std.proofs.lemmas.List.{reverse-reverse}
use Rattle.std.proofs.lemmas.Result.{IfErr-weaker, IfOk-weaker}
use Rattle.patch_log.specs.State.{LogView}
use Rattle.turn_cell.specs.Turns.{AllOf}
use Rattle.turn_cell.specs.Sights.{Made}
use Rattle.hall_logs.specs.Files.{AreOpened, IsFresh, IsDiskOf}
use Rattle.hall_logs.proofs.Opens.{all_fresh, as_many, left_still, left_same, left_refused, all_reverse}
use Rattle.hall_logs.proofs.Shares.{all_new}
use Rattle.hall_logs.proofs.logs.HallLogs.open_on.Goals as goal

pub returns-in_default-clause-want : goal.returns-in_default-clause-want
returns-in_default-clause-want g c = λ told. left_same g.D.Disk c.args.limits c.args.disks.items

pub share-requires-clause-room : goal.share-requires-clause-room
share-requires-clause-room g c =
    let o = c.in-Ok-open_files.ensures in
    let many = as_many g.D.Disk c.args.limits 1 c.args.disks.items c.open_files.new.opened.items o.ok.0 in
    (omega (arith, many, c.reverse.ensures.len, c.open_files.new.opened.ok.0, c.args.disks.ok.0, c.args.disks.ok.1, o.room), omega (arith, many, c.reverse.ensures.len, c.open_files.new.opened.ok.0, c.args.disks.ok.0, c.requires.files.1))

pub share-requires-clause-fresh : goal.share-requires-clause-fresh
share-requires-clause-fresh g c =
    let P = IsFresh g.D.Disk in
    let opened : List (LogView g.row.D.Denot) = c.open_files.new.opened.items in
    subst (AllOf P) (sym c.reverse.ensures.items) (all_reverse P opened (all_fresh g.D.Disk c.args.limits 1 c.args.disks.items opened c.in-Ok-open_files.ensures.ok.0))

pub returns-in-Ok-open_files-clause-logs : goal.returns-in-Ok-open_files-clause-logs
returns-in-Ok-open_files-clause-logs g c =
    let opened : List (LogView g.row.D.Denot) = c.open_files.new.opened.items in
    let turned : List (LogView g.row.D.Denot) = c.reverse.new.self.items in
    let origin = λ (log : Made (LogView g.row.D.Denot)). log.origin in
    let again : reverse turned ≡ opened = ap (λ (l : List (LogView g.row.D.Denot)). reverse l) c.reverse.ensures.items ∙ reverse-reverse opened in
    IfOk-weaker c.share.result _ _ (λ r is. subst (AreOpened g.D.Disk c.args.limits 1 c.args.disks.items) (sym (is ∙ again)) c.in-Ok-open_files.ensures.ok.0) c.share.ensures.logs

pub returns-in-Ok-open_files-clause-passes : goal.returns-in-Ok-open_files-clause-passes
returns-in-Ok-open_files-clause-passes g c =
    IfOk-weaker c.share.result _ _ (λ r new. all_new g.D.Disk r.0.logs c.args.seats r.1.items new.1 (sym r.1.ok.0 ∙ new.0)) c.share.ensures.new

pub returns-in-Ok-open_files-clause-want : goal.returns-in-Ok-open_files-clause-want
returns-in-Ok-open_files-clause-want g c =
    let opened : List (LogView g.row.D.Denot) = c.open_files.new.opened.items in
    let turned : List (LogView g.row.D.Denot) = c.reverse.new.self.items in
    let again : reverse turned ≡ opened = ap (λ (l : List (LogView g.row.D.Denot)). reverse l) c.reverse.ensures.items ∙ reverse-reverse opened in
    IfErr-weaker c.share.result _ _
    (λ refusal still told. left_still g.D.Disk c.args.limits 1 c.args.disks.items opened refusal.disks.items c.in-Ok-open_files.ensures.ok.0 (subst (λ (l : List (LogView g.row.D.Denot)). AllZip (IsDiskOf g.D.Disk) l refusal.disks.items) again still)) c.share.ensures.still

pub returns-in-Err-clause-want : goal.returns-in-Err-clause-want
returns-in-Err-clause-want g c = λ told.
    left_refused g.D.Disk c.args.limits 1 c.in-Err.field-0.file c.in-Err.field-0.fault c.args.disks.items c.open_files.new.disks.items c.in-Err.ensures.refused

use Rattle.std.proofs.Common.{◌≡◌, ℕ, Bool, sym, subst}
use Rattle.disk_model.specs.Past.{reads}
use Rattle.zone_files.specs.Generation.{number_of}
use Rattle.zone_beside.specs.Finding.{IsCurrent}
use Rattle.std.proofs.Common.{true, false}
use Rattle.paired_zone.specs.Fault.{none_current}
use Rattle.paired_zone.specs.Opening.{FailsAtOne, RefusedDisk}
use Rattle.paired_zone.specs.declared.fault.PairFault.TheVariants.{Failed}
use Rattle.paired_zone.proofs.Opened.{here_in, is_opened, has_fault, both_refused, in_order_so, finding_failed}
use Rattle.paired_zone.proofs.zone.PairedZone.open_pair.Goals as goal

pub open_current-requires-clause-in_generation : goal.open_current-requires-clause-in_generation
open_current-requires-clause-in_generation g c =
    let f = c.in-Ok.field-0 in
    here_in g.D.Disk f.beside.on_second c.args.first c.args.second f.current f.beside.disk c.in-Ok.ensures.first c.in-Ok.ensures.second f.beside.generation c.in-Ok.ensures.current

pub returns-in-Ok-open_current-clause-opened : goal.returns-in-Ok-open_current-clause-opened
returns-in-Ok-open_current-clause-opened g c =
    let f = c.in-Ok.field-0 in
    is_opened g.D.Disk f.beside.on_second c.args.first c.args.second f.current f.beside.disk c.in-Ok.ensures.first c.in-Ok.ensures.second f.beside.generation c.args.limits c.in-Ok-open_current.zone c.in-Ok-open_current.ensures.opened

pub returns-in-Ok-open_current-clause-current : goal.returns-in-Ok-open_current-clause-current
returns-in-Ok-open_current-clause-current g c told =
    let f = c.in-Ok.field-0 in
    let zone = c.in-Ok-open_current.zone in
    let opened = c.in-Ok-open_current.ensures.opened in
    let first = reads (g.D.Disk.past c.args.first) in
    let second = reads (g.D.Disk.past c.args.second) in
    subst (λ (b : Bool). IsCurrent first second b zone.generation) (sym opened.second_is) (subst (λ (n : ℕ). IsCurrent first second f.beside.on_second n) (sym opened.generation_is) (c.in-Ok.ensures.current told))

pub returns-in-Err-open_current-clause-fault : goal.returns-in-Err-open_current-clause-fault
returns-in-Err-open_current-clause-fault g c =
    let f = c.in-Ok.field-0 in
    let r = c.in-Err-open_current.field-0 in
    has_fault g.D.Disk f.beside.on_second c.args.first c.args.second f.current f.beside.disk c.in-Ok.ensures.first c.in-Ok.ensures.second c.args.limits r.fault r.current c.in-Err-open_current.ensures.refused f.beside.generation c.in-Ok.ensures.current

pub returns-in-Err-open_current-clause-first_refused : goal.returns-in-Err-open_current-clause-first_refused
returns-in-Err-open_current-clause-first_refused g c =
    let f = c.in-Ok.field-0 in
    let r = c.in-Err-open_current.field-0 in
    let both = both_refused g.D.Disk f.beside.on_second c.args.first c.args.second f.current f.beside.disk c.in-Ok.ensures.first c.in-Ok.ensures.second c.args.limits r.fault r.current c.in-Err-open_current.ensures.refused in
    subst (λ d. RefusedDisk g.D.Disk (r.fault ≡ Failed (number_of false)) c.args.first d) (sym (in_order_so f.beside r.beside r.current c.in_order-first.result c.in-Err-open_current.ensures.beside c.in_order-first.ensures).0) both.0

pub returns-in-Err-open_current-clause-second_refused : goal.returns-in-Err-open_current-clause-second_refused
returns-in-Err-open_current-clause-second_refused g c =
    let f = c.in-Ok.field-0 in
    let r = c.in-Err-open_current.field-0 in
    let both = both_refused g.D.Disk f.beside.on_second c.args.first c.args.second f.current f.beside.disk c.in-Ok.ensures.first c.in-Ok.ensures.second c.args.limits r.fault r.current c.in-Err-open_current.ensures.refused in
    subst (λ d. RefusedDisk g.D.Disk (r.fault ≡ Failed (number_of true)) c.args.second d) (sym (in_order_so f.beside r.beside r.current c.in_order-first.result c.in-Err-open_current.ensures.beside c.in_order-first.ensures).1) both.1

pub returns-in-Err-clause-fault : goal.returns-in-Err-clause-fault
returns-in-Err-clause-fault g c told = none_current c.in-Err.field-0.fault c.of_finding.ensures (c.in-Err.ensures.fault told)

pub returns-in-Err-open_current-clause-failed : goal.returns-in-Err-open_current-clause-failed
returns-in-Err-open_current-clause-failed g c file is = (c.in-Ok.field-0.beside.on_second, c.in-Err-open_current.ensures.refused.in_current file is)

pub returns-in-Err-clause-failed : goal.returns-in-Err-clause-failed
returns-in-Err-clause-failed g c = subst FailsAtOne (sym c.of_finding.ensures) (finding_failed c.in-Err.field-0.fault)

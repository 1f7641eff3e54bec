use Rattle.std.proofs.Common.{◌≤◌, ℕ, Option, sym, subst, arith}
use Rattle.log_base.specs.Journals.{payloads_length}
use Rattle.log_base.specs.declared.limits.TheConstants.{ZONE_FILE_LIMIT}
use Rattle.disk_model.specs.Past.{reads}
use Rattle.log_journal.specs.File.{Holds}
use Rattle.log_journal.specs.StandsFor.{length_of}
use Rattle.log_journal.specs.Written.{Reopened}
use Rattle.paired_reading.specs.Fault.{HasPayloadsFault}
use Rattle.paired_zone.specs.Fault.{of_payloads}
use Rattle.paired_zone.specs.Opening.{IsInFile, RefusesCurrent}
use Rattle.paired_zone.specs.declared.fault.PairFault.{PairFault}
use Rattle.paired_zone.specs.declared.fault.PairFault.TheVariants.{BrokenCheckpoint}
use Rattle.zone_state.proofs.Readings.{true_and_false}
use Rattle.paired_zone.proofs.Opened.{kept_made, opens_made, in_file, refuses_payloads, refuses_changed}
use Rattle.paired_zone.proofs.zone.PairedZone.open_current.Goals as goal

pub invariant_of-result : goal.invariant_of-result
invariant_of-result g c =
    let e = c.in-Ok.ensures.received in
    let holds = c.in-Ok-finish.ensures.ok c.new-reading.result e.0 e.1 in
    kept_made c.new.result c.args.beside c.in-Ok-finish.field-0 c.args.limits e.0 c.requires.small c.new-reading.ensures.countable c.new-reading.result.reading.most c.new-reading.ensures.most holds (c.is_beside.ensures.0 c.if-is_beside.true) c.in-Ok-finish.ensures.unstaged
    c.new.ensures.beside c.requires.behind c.in-Ok.journal c.new.ensures.current c.file_number-number.result c.file_number-number.ensures e.2 e.3 c.in-Ok.ensures.limit c.none.result.patch c.none.ensures

pub returns-in-Ok-finish-clause-opened : goal.returns-in-Ok-finish-clause-opened
returns-in-Ok-finish-clause-opened g c =
    let e = c.in-Ok.ensures.received in
    let holds = c.in-Ok-finish.ensures.ok c.new-reading.result e.0 e.1 in
    opens_made c.new.result c.args.beside c.in-Ok-finish.field-0 c.args.limits e.0 c.requires.small c.new-reading.ensures.countable c.new-reading.result.reading.most c.new-reading.ensures.most holds (c.is_beside.ensures.0 c.if-is_beside.true) c.in-Ok-finish.ensures.unstaged
    c.new.ensures.beside c.requires.behind c.in-Ok.journal c.new.ensures.current c.file_number-number.result c.file_number-number.ensures e.2 e.3 c.in-Ok.ensures.limit c.none.result.patch c.none.ensures c.args.current c.in-Ok.ensures.reopened e.4

pub returns-in-Ok-2-clause-refused : goal.returns-in-Ok-2-clause-refused
returns-in-Ok-2-clause-refused g c =
    let e = c.in-Ok.ensures.received in
    let beside = c.args.beside in
    let number = c.file_number-number.ensures in
    let holds = c.in-Ok-finish.ensures.ok c.new-reading.result e.0 e.1 in
    let reopened = subst (λ d. Reopened g.D.Disk c.args.current d (length_of c.in-Ok.journal)) (sym c.close.ensures) c.in-Ok.ensures.reopened in
    subst (λ (n : ℕ). RefusesCurrent g.D.Disk c.args.current beside.on_second c.args.limits (BrokenCheckpoint n) c.close.result) (sym number)
    (refuses_changed g.D.Disk c.args.current beside.on_second c.args.limits c.close.result (length_of c.in-Ok.journal) reopened (λ told.
    let file = subst (λ (n : ℕ). Holds (reads (g.D.Disk.past c.args.current)) n e.0) number (e.4 told) in
    let here = in_file (reads (g.D.Disk.past c.args.current)) beside.on_second beside.generation holds.generation holds.start holds.texts e.0 (c.requires.in_generation told) file holds.begins in
    true_and_false c.is_beside.result (c.is_beside.ensures.1 (subst (λ (o : Option ℕ). IsInFile o beside.on_second beside.generation) (sym holds.shown_is) here)) c.if-is_beside.false))

pub returns-in-Err-finish-clause-refused : goal.returns-in-Err-finish-clause-refused
returns-in-Err-finish-clause-refused g c =
    let e = c.in-Ok.ensures.received in
    let beside = c.args.beside in
    let number = c.file_number-number.ensures in
    let reopened = subst (λ d. Reopened g.D.Disk c.args.current d (length_of c.in-Ok.journal)) (sym c.close-in-Err-finish.ensures) c.in-Ok.ensures.reopened in
    let has = subst (λ (n : ℕ). HasPayloadsFault e.0 n c.args.limits.bytes c.in-Err-finish.fault) c.new-reading.ensures.most (c.in-Err-finish.ensures.fault c.new-reading.result e.0 e.1) in
    let short : payloads_length e.0 ≤ ZONE_FILE_LIMIT = omega (arith, e.3, c.in-Ok.ensures.within) in
    subst (λ (f : PairFault). RefusesCurrent g.D.Disk c.args.current beside.on_second c.args.limits f c.close-in-Err-finish.result) (sym c.of_payloads.ensures)
    (subst (λ (n : ℕ). RefusesCurrent g.D.Disk c.args.current beside.on_second c.args.limits (of_payloads n c.in-Err-finish.fault) c.close-in-Err-finish.result) (sym number)
    (refuses_payloads g.D.Disk c.args.current beside.on_second c.args.limits c.in-Err-finish.fault e.0 c.close-in-Err-finish.result (length_of c.in-Ok.journal) reopened
    (λ told. subst (λ (n : ℕ). Holds (reads (g.D.Disk.past c.args.current)) n e.0) number (e.4 told)) short has))

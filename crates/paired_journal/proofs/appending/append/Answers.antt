use Rattle.std.proofs.Common.{refl, sym, subst, true≢false}
use Rattle.std.specs.Prelude.{IsErr}
use Rattle.paired_journal.proofs.Pairs.{none_made, as_failed, one_went, other_went, not_asked}
use Rattle.log_journal.specs.Payload.{payload_of}
use Rattle.log_journal.specs.StandsFor.{disk_of}
use Rattle.paired_journal.proofs.appending.append.Goals as goal

pub returns-in-Err-clause-on_current : goal.returns-in-Err-clause-on_current
returns-in-Err-clause-on_current g c = λ told number payloads doubt stands. none_made c.args.current.now number payloads doubt (payload_of c.args.block.now) told stands

pub returns-in-Ok-clause-went : goal.returns-in-Ok-clause-went
returns-in-Ok-clause-went g c = one_went g.D.Disk _ (IsErr c.settle-beside.result.1) _ _ _ _ (λ err. true≢false (sym (subst IsErr c.in-Ok.is err))) c.write-written.ensures.went c.settle-beside.ensures.went

pub returns-in-Err-clause-went : goal.returns-in-Err-clause-went
returns-in-Err-clause-went g c =
    as_failed g.D.Disk (IsErr c.settle-beside.result.1) _ _ _ _ _ (λ err. refl) (λ told. subst IsErr (sym c.in-Err.is) refl)
    (other_went g.D.Disk (IsErr c.settle-beside.result.1) ⊥ _ _ _ _ (λ none. none) (not_asked g.D.Disk (disk_of c.args.current.now)) c.settle-beside.ensures.went)

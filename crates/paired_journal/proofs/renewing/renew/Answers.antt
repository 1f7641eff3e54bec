use Rattle.std.specs.Prelude.{IsErr, IsErrOf, is_ok}
use Rattle.std.proofs.Common.{true≢false, ◌≡◌, cond, inl, inr, ℕ, List, Option, None, refl, sym, ◌∙◌, ap, subst}
use Rattle.disk_model.specs.Past.{LeavesOnly}
use Rattle.log_journal.specs.StandsFor.{StandsFor, length_of, limit_of, disk_of}
use Rattle.log_journal.specs.Writing.{StandsWith}
use Rattle.zone_files.specs.Generation.{number_of}
use Rattle.zone_beside.specs.declared.fault.WriteFault.TheVariants as WriteFault
use Rattle.paired_journal.specs.Pair.{HoldsWith, IsLeft, DisksWent}
use Rattle.paired_journal.proofs.Pairs.{as_failed, one_went, other_went, not_asked, settling, settled, unsettled, other_kept, same_disk, err_from}
use Rattle.paired_journal.proofs.renewing.renew.Goals as goal

-- ---- the current file is settled

pub returns-in-Ok-clause-done : goal.returns-in-Ok-clause-done
returns-in-Ok-clause-done g c = λ payloads doubt stands shows.
    c.begin_anew.ensures.done payloads (settled c.args.current.now c.settle.new.self (number_of c.args.beside.on_second) payloads doubt c.settle.ensures.nothing_to_do c.in-Ok.ensures.ok stands) shows

pub returns-in-Ok-clause-stands : goal.returns-in-Ok-clause-stands
returns-in-Ok-clause-stands g c = λ number payloads doubt stands.
    err_from c.begin_anew.result.1 (c.begin_anew.new.current ≡ c.settle.new.self) ((left : Option (List ℕ)) × IsLeft doubt left × StandsWith c.begin_anew.new.current number payloads left)
    (λ same. (None, inr refl, subst (λ journal. StandsFor journal number payloads) (sym same) (settled c.args.current.now c.settle.new.self number payloads doubt c.settle.ensures.nothing_to_do c.in-Ok.ensures.ok stands)))
    c.begin_anew.ensures.same

pub returns-in-Ok-clause-same_length : goal.returns-in-Ok-clause-same_length
returns-in-Ok-clause-same_length g c =
    err_from c.begin_anew.result.1 (c.begin_anew.new.current ≡ c.settle.new.self) (length_of c.begin_anew.new.current ≡ length_of c.args.current.now)
    (λ same. ap (λ journal. length_of journal) same ∙ c.settle.ensures.same_length) c.begin_anew.ensures.same

pub returns-in-Ok-clause-same_limit : goal.returns-in-Ok-clause-same_limit
returns-in-Ok-clause-same_limit g c =
    err_from c.begin_anew.result.1 (c.begin_anew.new.current ≡ c.settle.new.self) (limit_of c.begin_anew.new.current ≡ limit_of c.args.current.now)
    (λ same. ap (λ journal. limit_of journal) same ∙ c.settle.ensures.limit) c.begin_anew.ensures.same

pub returns-in-Ok-clause-on_current : goal.returns-in-Ok-clause-on_current
returns-in-Ok-clause-on_current g c = λ told number payloads doubt stands.
    same_disk (λ disk. LeavesOnly (HoldsWith number payloads doubt) (g.D.Disk.past c.args.current.now.disk) (g.D.Disk.past disk)) c.begin_anew.result.1 c.begin_anew.result.0.disk c.settle.new.self c.begin_anew.new.current
    c.begin_anew.ensures.old_disk c.begin_anew.ensures.same
    (settling c.args.current.now c.settle.new.self number payloads doubt told c.settle.ensures.nothing_to_do c.settle.ensures.any_moment stands)

pub returns-in-Ok-clause-on_other : goal.returns-in-Ok-clause-on_other
returns-in-Ok-clause-on_other g c = c.begin_anew.ensures.on_other

pub returns-in-Ok-clause-went : goal.returns-in-Ok-clause-went
returns-in-Ok-clause-went g c =
    same_disk (λ disk. DisksWent g.D.Disk (IsErrOf c.begin_anew.result.1 WriteFault.Failed) (disk_of c.args.current.now) disk c.args.beside.disk (cond (is_ok c.begin_anew.result.1) (disk_of c.begin_anew.new.current) c.begin_anew.result.0.disk))
    c.begin_anew.result.1 c.begin_anew.result.0.disk c.settle.new.self c.begin_anew.new.current c.begin_anew.ensures.old_disk c.begin_anew.ensures.same
    (other_went g.D.Disk _ (IsErr c.settle.result) _ _ _ _ (λ err. true≢false (sym (subst IsErr c.in-Ok.is err))) c.settle.ensures.went c.begin_anew.ensures.went)

-- ---- it isn't

pub returns-in-Err-clause-stands : goal.returns-in-Err-clause-stands
returns-in-Err-clause-stands g c = λ number payloads doubt stands.
    (doubt, inl refl, unsettled c.args.current.now c.settle.new.self number payloads doubt c.settle.ensures.nothing_to_do c.in-Err.ensures.failed stands)

pub returns-in-Err-clause-beside : goal.returns-in-Err-clause-beside
returns-in-Err-clause-beside g c = λ doubt stands. (doubt, inl refl, stands)

pub returns-in-Err-clause-on_current : goal.returns-in-Err-clause-on_current
returns-in-Err-clause-on_current g c = λ told number payloads doubt stands.
    settling c.args.current.now c.settle.new.self number payloads doubt told c.settle.ensures.nothing_to_do c.settle.ensures.any_moment stands

pub returns-in-Err-clause-on_other : goal.returns-in-Err-clause-on_other
returns-in-Err-clause-on_other g c = λ told doubt stands. other_kept c.args.beside doubt c.args.payload.now told stands

pub returns-in-Err-clause-went : goal.returns-in-Err-clause-went
returns-in-Err-clause-went g c =
    as_failed g.D.Disk (IsErr c.settle.result) _ _ _ _ _ (λ err. refl) (λ told. subst IsErr (sym c.in-Err.is) refl)
    (one_went g.D.Disk (IsErr c.settle.result) ⊥ _ _ _ _ (λ none. none) c.settle.ensures.went (not_asked g.D.Disk c.args.beside.disk))

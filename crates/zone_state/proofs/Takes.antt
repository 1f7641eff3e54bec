-- What taking the next patch comes to, by its answer.
use Rattle.std.proofs.Common.{◌≡◌, ◌⊎◌, inl, inr, ⊎_elim, ℕ, true, false, List, Option, Some, Result, Ok, Err, refl, sym, ◌∙◌, ap, subst}
use Rattle.std.specs.Prelude.{IsErr}
use Rattle.disk_model.specs.declared.disk.Disk.{Ghosts}
use Rattle.term_table.specs.Table.{most}
use Rattle.dataset_tx.specs.Held.{AreMet, AreMore}
use Rattle.log_base.specs.declared.phase.Phase.{Phase}
use Rattle.log_journal.specs.Writing.{doubt_left, failing}
use Rattle.log_journal.specs.Written.{DiskWent}
use Rattle.log_journal.proofs.Disks.{went_by, not_asked}
use Rattle.patch_meaning.specs.Checked.{CheckedPatch}
use Rattle.zone_state.specs.declared.answer.TakeAnswer.{TakeAnswer}
use Rattle.zone_state.specs.declared.answer.TakeAnswer.TheVariants.{Applied, Diverged, Repeated, Full, TermsFull, OutOfMemory, DiskFault}
use Rattle.zone_state.specs.Zone.{ZoneView, StandsForZone}
use Rattle.zone_state.specs.Stay.{decided, answer_by, TookOne}
use Rattle.zone_state.specs.Takes.{LeavesInDoubt, TakesPatch}
use Rattle.zone_state.proofs.Decisions.{IsRefused}
use Rattle.zone_state.proofs.Readings.{meets_none}
use Rattle.zone_state.proofs.Written.{brief_after, took_nothing}

-- whatever patches the zone stood for, this was one stay
abbrev pub IsOneStay : {D : Type 0} → Ghosts D → ZoneView D → ZoneView D → CheckedPatch → TakeAnswer → Type 0
IsOneStay disks old new patch answer = (taken : List CheckedPatch) (doubt : Option CheckedPatch) → StandsForZone disks.tells (disks.past old.disk) old taken doubt → TookOne disks old new taken doubt patch answer

-- the same patch is in doubt where the patch was refused, and where memory or numbers were wanting
same_doubt : (answer : TakeAnswer) (patch : CheckedPatch) (doubt : Option CheckedPatch) → ((version : ℕ) → answer ≡ Applied version → ⊥) → (answer ≡ DiskFault → ⊥) → LeavesInDoubt answer doubt patch doubt
same_doubt (Applied version) patch doubt never no_fault = absurd (never version refl)
same_doubt (Diverged have prev) patch doubt never no_fault = refl
same_doubt (Repeated version) patch doubt never no_fault = refl
same_doubt (Full what have limit) patch doubt never no_fault = refl
same_doubt TermsFull patch doubt never no_fault = refl
same_doubt OutOfMemory patch doubt never no_fault = refl
same_doubt DiskFault patch doubt never no_fault = absurd (no_fault refl)

-- a phase that failed is the error
pub failed_in : (written : Result (Unit {0}) Phase) (phase : Phase) → failing written ≡ Some phase → written ≡ Err phase
failed_in (Ok done) phase is = absurd (cc)
failed_in (Err failed) phase is = let same : failed ≡ phase = cc in ap (λ (p : Phase). Err p) same

no_truth : false ≡ true → ⊥
no_truth same = cc

-- memory or numbers for terms were wanting
abbrev pub IsWanting : TakeAnswer → Type 0
IsWanting answer = (answer ≡ TermsFull) ⊎ (answer ≡ OutOfMemory)

never_applied : (answer : TakeAnswer) → IsWanting answer → (other : ℕ) → answer ≡ Applied other → ⊥
never_applied answer (inl terms) other is = let no : TermsFull ≡ Applied other = sym terms ∙ is in absurd (cc)
never_applied answer (inr want) other is = let no : OutOfMemory ≡ Applied other = sym want ∙ is in absurd (cc)

never_failed : (answer : TakeAnswer) → IsWanting answer → answer ≡ DiskFault → ⊥
never_failed answer (inl terms) is = let no : TermsFull ≡ DiskFault = sym terms ∙ is in absurd (cc)
never_failed answer (inr want) is = let no : OutOfMemory ≡ DiskFault = sym want ∙ is in absurd (cc)

module _ {D : Type 0} (disks : Ghosts D) (old : ZoneView D) (patch : CheckedPatch) where
  -- ---- it isn't the next one

  pub takes_refused : (answer : TakeAnswer) → IsRefused answer → answer ≡ decided old patch → TakesPatch disks old old patch answer
  takes_refused answer told made = record {
    decided = inl made;
    stay = λ taken doubt stands no_terms no_want. took_nothing old taken doubt patch answer stands told made;
    want = λ either. ⊎_elim (λ is. absurd (told.no_terms is)) (λ is. absurd (told.no_want is)) either;
    terms_full = λ is. absurd (told.no_terms is);
    terms = meets_none patch.meaning.changes old.terms;
    applied = λ version is. absurd (told.no_version version is);
    refused = λ never. refl;
    untouched = λ fault never. refl;
    doubt = same_doubt answer patch old.doubt told.no_version told.no_fault;
    went = not_asked disks old.disk (answer ≡ DiskFault) told.no_fault;
    limits = refl;
  }

  module _ (version : ℕ) (next : decided old patch ≡ Applied version) where
    -- ---- it is the next one, and memory or numbers are wanting

    pub takes_wanting : (new : ZoneView D) (answer : TakeAnswer) → IsWanting answer → new ≡ record old { terms = new.terms } → (answer ≡ TermsFull → AreMore most patch.meaning.changes old.terms)
        → AreMet patch.meaning.changes old.terms new.terms → TakesPatch disks old new patch answer
    takes_wanting new answer lacks same full met = record {
      decided = inr ((version, next), inr lacks);
      stay = λ taken doubt stands no_terms no_want. absurd (⊎_elim no_terms no_want lacks);
      want = λ either. ((version, next), either);
      terms_full = full;
      terms = met;
      applied = λ other is. absurd (never_applied answer lacks other is);
      refused = λ never. λ i. (same i).brief;
      untouched = λ fault never. same;
      doubt = subst (λ (doubt : Option CheckedPatch). LeavesInDoubt answer old.doubt patch doubt) (λ i. (sym same i).doubt) (same_doubt answer patch old.doubt (never_applied answer lacks) (never_failed answer lacks));
      went = subst (λ (disk : D). DiskWent disks (answer ≡ DiskFault) old.disk disk) (λ i. (sym same i).disk) (not_asked disks old.disk (answer ≡ DiskFault) (never_failed answer lacks));
      limits = λ i. (same i).limits;
    }

    -- ---- it is the next one, and was written

    pub takes_written : (new : ZoneView D) (written : Result (Unit {0}) Phase) → new.brief ≡ brief_after (failing written) old.brief patch → new.doubt ≡ doubt_left (failing written) old.doubt patch → new.limits ≡ old.limits
        → AreMet patch.meaning.changes old.terms new.terms → DiskWent disks (IsErr written) old.disk new.disk → IsOneStay disks old new patch (answer_by (failing written) version) → TakesPatch disks old new patch (answer_by (failing written) version)
    takes_written new (Ok done) brief doubt limits met went stay = record {
      decided = inl (sym next);
      stay = λ taken doubt stands no_terms no_want. stay taken doubt stands;
      want = λ either. absurd (⊎_elim (λ (is : Applied version ≡ TermsFull). cc) (λ (is : Applied version ≡ OutOfMemory). cc) either);
      terms_full = λ is. absurd (cc);
      terms = met;
      applied = λ other is. brief;
      refused = λ never. absurd (never version refl);
      untouched = λ fault never. absurd (never version refl);
      doubt = doubt;
      went = went_by disks old.disk new.disk (IsErr {T = Unit {0}} {E = Phase} (Ok done)) (Applied version ≡ DiskFault) (λ (is : Applied version ≡ DiskFault). absurd (cc)) (λ is. absurd (no_truth is)) went;
      limits = limits;
    }
    takes_written new (Err phase) brief doubt limits met went stay = record {
      decided = inr ((version, next), inl refl);
      stay = λ taken doubt stands no_terms no_want. stay taken doubt stands;
      want = λ either. absurd (⊎_elim (λ (is : DiskFault ≡ TermsFull). cc) (λ (is : DiskFault ≡ OutOfMemory). cc) either);
      terms_full = λ is. absurd (cc);
      terms = met;
      applied = λ other is. absurd (cc);
      refused = λ never. brief;
      untouched = λ fault never. absurd (fault refl);
      doubt = (phase, doubt);
      went = went_by disks old.disk new.disk (IsErr {T = Unit {0}} {E = Phase} (Err phase)) (DiskFault ≡ DiskFault) (λ is. refl) (λ is. refl) went;
      limits = limits;
    }

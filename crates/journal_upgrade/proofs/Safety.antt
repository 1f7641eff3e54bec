-- The payloads of files under an upgrade.
use Rattle.std.proofs.Common.{◌≡◌, ℕ, ◌+◌, List, length, sym, subst, arith}
use Rattle.std.specs.Prelude.{slice_index}
use Rattle.disk_model.specs.Past.{Past, reads, MayLeave, EveryImage, Keeps}
use Rattle.disk_model.proofs.Moments.{leaves}
use Rattle.log_journal.specs.File.{HoldsIn}
use Rattle.log_journal.specs.declared.form.Form.{Form}
use Rattle.log_journal.specs.declared.form.Form.TheVariants.{Old, New}
use Rattle.log_journal.specs.Front.{HoldsNothing}
use Rattle.log_journal.proofs.OneReading.{one_form, one_list}
use Rattle.log_journal.proofs.FrontLaws.{never_nothing}
use Rattle.journal_upgrade.specs.Copies.{past_at, AreKept, AreCopies}
use Rattle.journal_upgrade.specs.Marker.{IsMarked}
use Rattle.journal_upgrade.specs.Safe.{AreHeld, AreSafe}
use Rattle.journal_upgrade.proofs.Brought.{may_read}

-- a file holds one list of payloads, in whichever form
one_held : (a b : Form) (file : List ℕ) (number : ℕ) (ps qs : List (List ℕ)) → HoldsIn a file number ps → HoldsIn b file number qs → ps ≡ qs
one_held Old Old file number ps qs first second = one_list Old file number ps qs first second
one_held New New file number ps qs first second = one_list New file number ps qs first second
one_held Old New file number ps qs first second = absurd (one_form file number number ps qs first second)
one_held New Old file number ps qs first second = absurd (one_form file number number qs ps second first)

module _ {D : Type 0} (past : D → Past) (numbers : List ℕ) (payloads : ℕ → List (List ℕ)) where
  -- what is kept is held
  pub held_kept : (more : ℕ) (old new : List D) → length old ≡ length numbers → AreKept past old new → AreHeld past more numbers old payloads → AreHeld past more numbers new payloads
  held_kept more old new many kept held i within image left = held i within image (leaves (MayLeave (past_at past old i)) (past_at past old i) (past_at past new i) (kept.each i (omega (arith, within, many))).images image left)

  pub held_same : (more : ℕ) (old new : List D) → new ≡ old → AreHeld past more numbers old payloads → AreHeld past more numbers new payloads
  held_same more old new same held = subst (λ (l : List D). AreHeld past more numbers l payloads) (sym same) held

  -- what is copied is held on the other side
  pub held_copied : ((disk : D) → MayLeave (past disk) (reads (past disk))) → (from_more to_more : ℕ) (froms tos : List D) → AreCopies past from_more to_more numbers froms tos → AreHeld past from_more numbers froms payloads → AreHeld past to_more numbers tos payloads
  held_copied may from_more to_more froms tos copies held i within image left =
      let copy = copies i within in
      let file = reads (past_at past froms i) in
      let here = may_read past may froms i in
      let mine = held i within file here in
      let its = copy.of_from file here in
      let same : copy.payloads ≡ payloads i = one_held its.0 mine.0 file (slice_index numbers i + from_more) copy.payloads (payloads i) its.1 mine.1 in
      (New, subst (λ (ps : List (List ℕ)). HoldsIn New image (slice_index numbers i + to_more) ps) same (copy.of_to image left))

  module _ (files spares : List D) (marker : Past) (number : ℕ) where
    -- on either side
    pub safe_on_both : AreHeld past 0 numbers files payloads → AreHeld past 2000 numbers spares payloads → AreSafe past numbers files spares marker number payloads
    safe_on_both in_files in_spares = record { unmarked = λ image left none. in_files; marked = λ image left one. in_spares }

    pub safe_unmarked : EveryImage marker (λ image. HoldsNothing image number) → AreHeld past 0 numbers files payloads → AreSafe past numbers files spares marker number payloads
    safe_unmarked nothing in_files = record {
      unmarked = λ image left none. in_files;
      marked = λ image left one. absurd (never_nothing image number one.0 (nothing image left) one.1);
    }

    pub safe_marked : EveryImage marker (λ image. IsMarked image number) → AreHeld past 2000 numbers spares payloads → AreSafe past numbers files spares marker number payloads
    safe_marked all in_spares = record {
      unmarked = λ image left none. absurd (none (all image left).0 (all image left).1);
      marked = λ image left one. in_spares;
    }

    -- the marker is kept
    pub safe_kept : (before : Past) → Keeps before marker → AreSafe past numbers files spares before number payloads → AreSafe past numbers files spares marker number payloads
    safe_kept before keeps safe = record {
      unmarked = λ image left none. safe.unmarked image (leaves (MayLeave before) before marker keeps.images image left) none;
      marked = λ image left one. safe.marked image (leaves (MayLeave before) before marker keeps.images image left) one;
    }

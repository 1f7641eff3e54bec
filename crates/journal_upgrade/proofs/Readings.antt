-- Files that were read are read again.
use Rattle.std.proofs.Common.{◌≡◌, ℕ, ◌+◌, ◌<◌, List, length, refl, ◌∙◌, subst, arith}
use Rattle.std.specs.Prelude.{slice_index, slice_index_or}
use Rattle.disk_model.specs.Past.{Past, reads}
use Rattle.log_journal.specs.File.{HoldsIn}
use Rattle.log_journal.specs.declared.form.Form.{Form}
use Rattle.log_journal.specs.declared.form.Form.TheVariants.{Old, New}
use Rattle.log_journal.specs.declared.fault.JournalFault.{JournalFault}
use Rattle.log_journal.specs.declared.fault.JournalFault.TheVariants as journal
use Rattle.log_journal.proofs.OneReading.{one_form}
use Rattle.journal_upgrade.specs.Copies.{past_at, AreKept, IsWell, AreWell, IsBrought, AreBrought}
use Rattle.journal_upgrade.specs.Faults.{IsFaulty, HasFirstFault, IsUpgradeFault}
use Rattle.journal_upgrade.specs.declared.fault.UpgradeFault.{UpgradeFault}
use Rattle.journal_upgrade.specs.declared.fault.UpgradeFault.TheVariants.{Failed, Damaged, WrongNumber, OverLimit, OutOfMemory}
use Rattle.journal_upgrade.proofs.Sets.{kept_on}

-- a file has one form
pub same_form : (a b : Form) (file : List ℕ) (number : ℕ) (ps qs : List (List ℕ)) → HoldsIn a file number ps → HoldsIn b file number qs → a ≡ b
same_form Old Old file number ps qs first second = refl
same_form Old New file number ps qs first second = absurd (one_form file number number ps qs first second)
same_form New Old file number ps qs first second = absurd (one_form file number number qs ps second first)
same_form New New file number ps qs first second = refl

module _ {D : Type 0} (past : D → Past) (old mid : List D) (kept : AreKept past old mid) where
  pub kept_twice : (new : List D) → AreKept past mid new → AreKept past old new
  kept_twice new again = record {
    as_many = again.as_many ∙ kept.as_many;
    each = λ i within. kept_on (past_at past old i) (past_at past mid i) (past_at past new i) (kept.each i within) (again.each i (omega (arith, within, kept.as_many)));
  }

  module _ (more : ℕ) (numbers : List ℕ) (many : length old ≡ length numbers) where
    same_read : (i : ℕ) → i < length numbers → reads (past_at past mid i) ≡ reads (past_at past old i)
    same_read i within = (kept.each i (omega (arith, within, many))).reads_same

    first_before : (file : ℕ) (fault : JournalFault) → HasFirstFault past more numbers mid file fault → HasFirstFault past more numbers old file fault
    first_before file fault has = record {
      place = has.place;
      within = has.within;
      file_is = has.file_is;
      faulty = subst (λ (l : List ℕ). IsFaulty (slice_index numbers has.place) l file fault) (same_read has.place has.within) has.faulty;
      before = λ i sooner.
          let well = has.before i sooner in
          (well.0, subst (λ (l : List ℕ). IsWell well.0 (slice_index numbers i) l (slice_index numbers i + more)) (same_read i (omega (arith, sooner, has.within))) well.1);
    }

    -- the faults of the files are those that they had
    pub fault_before : (fault : UpgradeFault) → IsUpgradeFault past more numbers mid fault → IsUpgradeFault past more numbers old fault
    fault_before Failed free = tt
    fault_before OutOfMemory free = tt
    fault_before (Damaged file at) has = first_before file (journal.Damaged at) has
    fault_before (WrongNumber file found) has = first_before file (journal.WrongNumber found) has
    fault_before (OverLimit file length limit) has = first_before file (journal.OverLimit length limit) has

    -- and so are their payloads and forms
    pub brought_before : (to_more : ℕ) (forms other : List Form) (news : List D) → AreWell past more numbers old forms → AreBrought past more to_more numbers mid other news → AreBrought past more to_more numbers old forms news
    brought_before to_more forms other news well brought = record {
      as_many = well.as_many;
      each = λ i within.
          let w = well.each i within in
          let b = brought.each i within in
          let held = subst (λ (l : List ℕ). HoldsIn (slice_index_or other i New) l (slice_index numbers i + more) b.payloads) (same_read i within) b.held in
          let same : slice_index_or other i New ≡ slice_index_or forms i New = same_form (slice_index_or other i New) (slice_index_or forms i New) (reads (past_at past old i)) (slice_index numbers i + more) b.payloads w.payloads held w.holds in
          subst (λ (f : Form). IsBrought f (slice_index numbers i) (slice_index numbers i + more) (slice_index numbers i + to_more) (reads (past_at past old i)) (past_at past news i)) same
          (record { payloads = b.payloads; held = held; within = b.within; holds = b.holds });
    }

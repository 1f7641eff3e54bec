-- Files that are brought to their spares, and back.
use Rattle.std.proofs.Common.{◌≡◌, inl, inr, ℕ, zero, suc, ◌+◌, ◌-◌, ◌^◌, ◌<◌, ◌≤◌, min, cond, Ok, Err, List, [], ◌∷◌, ◌++◌, length, take, get_or, refl, sym, ◌∙◌, ap, subst, arith, append_assoc, length-append}
use Rattle.std.specs.Prelude.{slice_index, slice_index_or, All, Result, IfOk, OnOk}
use Rattle.std.proofs.lemmas.List.Sums.{get_or-le-sum_by}
use Rattle.disk_model.specs.Past.{Past, reads, MayLeave}
use Rattle.log_journal.specs.File.{header, blocks, front_in, HoldsIn, Holds, IsCutShort}
use Rattle.log_journal.specs.Reading.{HasFaultIn, length_in, limit_for}
use Rattle.log_journal.specs.declared.form.Form.{Form}
use Rattle.log_journal.specs.declared.form.Form.TheVariants.{Old, New}
use Rattle.log_journal.specs.declared.fault.JournalFault.TheVariants as journal
use Rattle.log_journal.proofs.OneReading.{one_form, one_list, one_number, never_both, never_old}
use Rattle.journal_upgrade.specs.Numbers.{IsFileNumber, limits_of}
use Rattle.journal_upgrade.specs.Copies.{past_at, AreKept, AreSynced, AreWell, AreBrought, is_old, count_old}
use Rattle.journal_upgrade.specs.Faults.{IsUpgradeFault}
use Rattle.journal_upgrade.specs.Upgraded.{IsUpgraded}
use Rattle.journal_upgrade.specs.declared.fault.UpgradeFault.{UpgradeFault}
use Rattle.journal_upgrade.specs.declared.fault.UpgradeFault.TheVariants.{Failed, Damaged, WrongNumber, OverLimit, OutOfMemory}
use Rattle.journal_upgrade.specs.declared.upgrade.Upgraded.{Upgraded}
use Rattle.journal_upgrade.specs.declared.upgrade.Upgraded.TheVariants.{Files}
use Rattle.journal_upgrade.proofs.Lengths.{new_within}

-- a number of a file is small
small : (number : ℕ) → IsFileNumber number → number ≤ 1001
small number (inl low) = omega (arith, low)
small number (inr (inl zone)) = omega (arith, zone)
small number (inr (inr zone)) = omega (arith, zone)

-- a read of each disk is an image that a crash may leave
pub may_read : {D : Type 0} (past : D → Past) → ((disk : D) → MayLeave (past disk) (reads (past disk))) → (disks : List D) (i : ℕ) → MayLeave (past_at past disks i) (reads (past_at past disks i))
may_read past left [] i = refl
may_read past left (disk ∷ disks) zero = left disk
may_read past left (disk ∷ disks) (suc i) = may_read past left disks i

-- the payloads of a file, in whichever form it is read
same_payloads : (form : Form) (file : List ℕ) (number : ℕ) (ps qs : List (List ℕ)) → Holds file number ps → HoldsIn form file number qs → qs ≡ ps
same_payloads Old file number ps qs holds held = absurd (one_form file number number qs ps held holds)
same_payloads New file number ps qs holds held = one_list New file number qs ps held holds

-- a file is whole as it is written, and within its limit
record IsWhole (number : ℕ) (file : List ℕ) (header : ℕ) : Type 0 where
  payloads : List (List ℕ)
  holds : Holds file header payloads
  within : length_in New payloads ≤ limit_for New (limits_of number)
  fits : header < 2 ^ 32

-- then it has no fault
module _ (number : ℕ) (file : List ℕ) (number_in : ℕ) where
  never_cut_old : (at : ℕ) (ps : List (List ℕ)) → Holds file number_in ps → IsCutShort Old file number_in at → ⊥
  unfolding front_in
  never_cut_old at ps holds cut =
      let whole : file ≡ header Old number_in ++ (blocks Old 0 cut.payloads ++ cut.rest) = cut.parts ∙ append_assoc (header Old number_in) (blocks Old 0 cut.payloads) cut.rest in
      never_old file number_in ps holds (record { whole = omega (arith, ap length whole, length-append (header Old number_in) (blocks Old 0 cut.payloads ++ cut.rest)); begins = ap (λ (l : List ℕ). take 4 l) whole })

  never_damaged : (at : ℕ) → IsWhole number file number_in → (form : Form) → HasFaultIn form file number_in (limit_for form (limits_of number)) (journal.Damaged at) → ⊥
  never_damaged at is New damage = never_both New file number_in at is.payloads is.holds damage
  never_damaged at is Old (inl foreign) = never_both New file number_in at is.payloads is.holds (inl foreign)
  never_damaged at is Old (inr cut) = never_cut_old at is.payloads is.holds cut

  never_wrong : (found : ℕ) → IsWhole number file number_in → (form : Form) → HasFaultIn form file number_in (limit_for form (limits_of number)) (journal.WrongNumber found) → ⊥
  never_wrong found is New has = has.1 (one_number New file number_in found is.payloads is.fits is.holds has.0)
  never_wrong found is Old has = never_old file number_in is.payloads is.holds (record { whole = has.0.whole; begins = has.0.begins })

  never_over : (size limit : ℕ) → IsWhole number file number_in → (form : Form) → HasFaultIn form file number_in (limit_for form (limits_of number)) (journal.OverLimit size limit) → ⊥
  never_over size limit is New has =
      let same : has.0 ≡ is.payloads = one_list New file number_in has.0 is.payloads has.1 is.holds in
      absurd (omega (arith, has.2, has.3, is.within, ap (length_in New) same))
  never_over size limit is Old has = one_form file number_in number_in has.0 is.payloads has.1 is.holds

-- none is of the old form
form_is : (form : Form) → cond (is_old form) 1 0 ≤ 0 → form ≡ New
form_is Old none = absurd (omega (arith, none))
form_is New none = refl

all_new : (forms : List Form) → count_old forms ≡ 0 → (i : ℕ) → i < length forms → slice_index_or forms i New ≡ New
all_new forms none i within = form_is (get_or forms i New) (omega (arith, none, get_or-le-sum_by (λ (f : Form). cond (is_old f) 1 0) forms i New within))

module _ {D : Type 0} (past : D → Past) (numbers : List ℕ) (files : List D) where
  -- where each file has the new form, it is brought to itself
  pub as_it_is : (forms : List Form) (news : List D) → length files ≡ length numbers → AreWell past 0 numbers files forms → 0 ≡ min (count_old forms) (2 ^ 32 - 1) → AreKept past files news → AreSynced past news → AreBrought past 0 0 numbers files forms news
  as_it_is forms news many well none kept synced = record {
    as_many = well.as_many;
    each = λ i within.
        let w = well.each i within in
        let there : i < length files = omega (arith, within, many) in
        let is_new = all_new forms (omega (arith, none)) i (omega (arith, within, well.as_many)) in
        let holds : Holds (reads (past_at past files i)) (slice_index numbers i + 0) w.payloads = subst (λ (f : Form). HoldsIn f (reads (past_at past files i)) (slice_index numbers i + 0) w.payloads) is_new w.holds in
        record {
          payloads = w.payloads;
          held = w.holds;
          within = w.within;
          holds = λ image left. subst (λ (l : List ℕ). Holds l (slice_index numbers i + 0) w.payloads) (sym (synced i (omega (arith, there, kept.as_many)) image left ∙ (kept.each i there).reads_same)) holds;
        };
  }

  module _ (spares : List D) (forms : List Form) (left : (disk : D) → MayLeave (past disk) (reads (past disk))) (brought : AreBrought past 0 2000 numbers files forms spares) where
    -- to its spare, and back
    pub and_back : (others : List Form) (news : List D) → AreBrought past 2000 0 numbers spares others news → AreBrought past 0 0 numbers files forms news
    and_back others news back = record {
      as_many = brought.as_many;
      each = λ i within.
          let there = brought.each i within in
          let again = back.each i within in
          let holds : Holds (reads (past_at past spares i)) (slice_index numbers i + 2000) there.payloads = there.holds (reads (past_at past spares i)) (may_read past left spares i) in
          let same : again.payloads ≡ there.payloads = same_payloads (slice_index_or others i New) (reads (past_at past spares i)) (slice_index numbers i + 2000) there.payloads again.payloads holds again.held in
          record {
            payloads = there.payloads;
            held = there.held;
            within = there.within;
            holds = λ image may. subst (λ (ps : List (List ℕ)). Holds image (slice_index numbers i + 0) ps) same (again.holds image may);
          };
    }

    -- a spare that was written has no fault that is told
    module _ (known : All IsFileNumber numbers) where
      spare_holds : (i : ℕ) (within : i < length numbers) (file : ℕ) → file ≡ slice_index numbers i + 2000 → IsWhole (slice_index numbers i) (reads (past_at past spares i)) file
      spare_holds i within file is =
          let there = brought.each i within in
          record {
            payloads = there.payloads;
            holds = subst (λ (n : ℕ). Holds (reads (past_at past spares i)) n there.payloads) (sym is) (there.holds (reads (past_at past spares i)) (may_read past left spares i));
            within = new_within (slice_index_or forms i New) (slice_index numbers i) there.payloads there.within;
            fits = omega (arith, is, small (slice_index numbers i) (known i 0 within));
          }

      pub no_spare_fault : (fault : UpgradeFault) → IsUpgradeFault past 2000 numbers spares fault → IsUpgradeFault past 0 numbers files fault
      no_spare_fault Failed free = tt
      no_spare_fault OutOfMemory free = tt
      no_spare_fault (Damaged file at) has = absurd (never_damaged (slice_index numbers has.place) (reads (past_at past spares has.place)) file at (spare_holds has.place has.within file has.file_is) has.faulty.0 has.faulty.1)
      no_spare_fault (WrongNumber file found) has = absurd (never_wrong (slice_index numbers has.place) (reads (past_at past spares has.place)) file found (spare_holds has.place has.within file has.file_is) has.faulty.0 has.faulty.1)
      no_spare_fault (OverLimit file size limit) has = absurd (never_over (slice_index numbers has.place) (reads (past_at past spares has.place)) file size limit (spare_holds has.place has.within file has.file_is) has.faulty.0 has.faulty.1)

-- what is told at Ok
pub upgraded_by : {D E : Type 0} (past : D → Past) (numbers : List ℕ) (files spares mids : List D) (forms : List Form) (news : List D) (count : ℕ) (left : (disk : D) → MayLeave (past disk) (reads (past disk))) (result : Result Upgraded E) → AreBrought past 0 2000 numbers files forms mids → count ≡ min (count_old forms) (2 ^ 32 - 1) → IfOk result (λ told. told ≡ Files count) → OnOk result ((others : List Form) × AreBrought past 2000 0 numbers mids others news) → IfOk result (IsUpgraded past numbers files spares news)
upgraded_by past numbers files spares mids forms news count left (Ok told) brought counted is back = subst (IsUpgraded past numbers files spares news) (sym is) (forms, and_back past numbers files mids forms left brought back.0 news back.1, counted)
upgraded_by past numbers files spares mids forms news count left (Err fault) brought counted is back = tt

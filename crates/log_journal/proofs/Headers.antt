-- What a file's header names.
use Rattle.std.proofs.Common.{◌≡◌, inl, inr, Err, ℕ, ◌^◌, ◌<◌, List, ◌++◌, length, take, drop, sym, ◌∙◌, ap, subst, arith, length-append, take-append-drop}
use Rattle.disk_model.specs.Past.{Past, reads}
use Rattle.std.specs.Int.{w32, to_be_bytes, from_be_bytes}
use Rattle.std.proofs.lemmas.Nat.{from_be_bytes-to_be_bytes_4}
use Rattle.log_journal.specs.File.{magic, header, HasHeader, IsOld}
use Rattle.log_journal.specs.Reading.{ReadsHeader, ReadsPayloads, HasFaultIn, HasFault}
use Rattle.log_journal.specs.declared.form.Form.{Form}
use Rattle.log_journal.specs.declared.form.Form.TheVariants.{Old, New}
use Rattle.log_journal.specs.declared.fault.JournalFault.{JournalFault}
use Rattle.log_journal.specs.declared.fault.JournalFault.TheVariants.{Failed, Damaged, OldFormat, WrongNumber, OverLimit, OutOfMemory}

pub header_old : (file : List ℕ) (number : ℕ) → file ≡ header Old number ++ drop 8 file → IsOld file
header_old file number is = record { whole = omega (arith, ap length is, length-append (header Old number) (drop 8 file)); begins = ap (λ (l : List ℕ). take 4 l) is }

pub header_found : (form : Form) (file : List ℕ) (number : ℕ) → number < 2 ^ 32 → file ≡ header form number ++ drop 8 file → HasHeader form file number
header_found Old file number fits is = record { whole = omega (arith, ap length is, length-append (header Old number) (drop 8 file)); begins = ap (λ (l : List ℕ). take 4 l) is; number_is = sym (ap (λ (l : List ℕ). from_be_bytes w32 (take 4 (drop 4 l))) is ∙ from_be_bytes-to_be_bytes_4 number fits) }
header_found New file number fits is = record { whole = omega (arith, ap length is, length-append (header New number) (drop 8 file)); begins = ap (λ (l : List ℕ). take 4 l) is; number_is = sym (ap (λ (l : List ℕ). from_be_bytes w32 (take 4 (drop 4 l))) is ∙ from_be_bytes-to_be_bytes_4 number fits) }

-- a header's fault and one of the payloads are faults of the file
pub header_fault : (form : Form) (file : List ℕ) (number limit : ℕ) (fault : JournalFault) → ReadsHeader file (Err fault) → HasFaultIn form file number limit fault
header_fault form file number limit (Damaged at) none = inl none
header_fault form file number limit OldFormat none = absurd none
header_fault form file number limit (WrongNumber found) none = absurd none
header_fault form file number limit (OverLimit length shown) none = absurd none
header_fault form file number limit Failed found = tt
header_fault form file number limit OutOfMemory found = tt

pub payloads_fault : (form : Form) (file : List ℕ) (number limit : ℕ) (fault : JournalFault) → ReadsPayloads {T = ℕ} form file number (Err fault) → HasFaultIn form file number limit fault
payloads_fault form file number limit (Damaged at) cut = inr cut
payloads_fault form file number limit OldFormat none = absurd none
payloads_fault form file number limit (WrongNumber found) none = absurd none
payloads_fault form file number limit (OverLimit length shown) none = absurd none
payloads_fault form file number limit Failed found = tt
payloads_fault form file number limit OutOfMemory found = tt

-- a fault in the new form is one of the file as it is to be written
pub new_fault : (file : List ℕ) (number limit : ℕ) (fault : JournalFault) → HasFaultIn New file number limit fault → HasFault file number limit fault
new_fault file number limit (Damaged at) has = has
new_fault file number limit OldFormat none = absurd none
new_fault file number limit (WrongNumber found) has = has
new_fault file number limit (OverLimit length shown) has = has
new_fault file number limit Failed has = tt
new_fault file number limit OutOfMemory has = tt

-- its form and its number
pub named : (past other : Past) (form : Form) (found number : ℕ) → past ≡ other → form ≡ New → found ≡ number → reads past ≡ header form found ++ drop 8 (reads past) → reads other ≡ header New number ++ drop 8 (reads other)
named past other form found number same is counted begins =
    subst (λ p. reads p ≡ header New number ++ drop 8 (reads p)) same
    (subst (λ (n : ℕ). reads past ≡ header New n ++ drop 8 (reads past)) counted
    (subst (λ (f : Form). reads past ≡ header f found ++ drop 8 (reads past)) is begins))

-- the parts of a header
pub header_parts : (head : List ℕ) (form : Form) (number : ℕ) → take 4 head ≡ magic form → to_be_bytes w32 number ≡ drop 4 head → head ≡ header form number
header_parts head form number first second = sym (take-append-drop 4 head) ∙ ap (λ (l : List ℕ). l ++ drop 4 head) first ∙ ap (λ (l : List ℕ). magic form ++ l) (sym second)

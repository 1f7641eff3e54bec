-- What stands at the front of a file.
use Rattle.std.proofs.Common.{◌≡◌, ◌≢◌, inl, inr, Ok, Err, ℕ, ◌+◌, ◌^◌, ◌<◌, ◌≤◌, List, [], ◌∷◌, ◌++◌, length, take, drop, refl, sym, ◌∙◌, ap, arith, length-drop, length-take, ⊎_elim}
use Rattle.std.proofs.lemmas.Bool.{cases_lt}
use Rattle.std.specs.Prelude.{Result, min}
use Rattle.std.proofs.lemmas.List.{take_at, take_all, take-take, length-take-le}
use Rattle.log_journal.specs.File.{front, header, head, Holds}
use Rattle.log_journal.specs.declared.form.Form.TheVariants.{New}
use Rattle.log_journal.specs.Reading.{HasByte, HasPayload, ReadsHeader, ReadsHead}
use Rattle.log_journal.specs.Front.{HasFirst, IsFront, IsFirst, IsStartFault}
use Rattle.log_journal.specs.declared.at_front.Front.{Front}
use Rattle.log_journal.specs.declared.at_front.Front.TheVariants.{Nothing, First}
use Rattle.log_journal.specs.declared.at_front.FrontFault.{FrontFault}
use Rattle.log_journal.specs.declared.at_front.FrontFault.TheVariants.{Failed, Damaged, OldFormat, WrongNumber, OutOfMemory}
use Rattle.log_journal.specs.declared.fault.JournalFault.{JournalFault}
use Rattle.log_journal.specs.declared.fault.JournalFault.TheVariants as journal
use Rattle.log_journal.proofs.Loop.{none_read, one_more, all_read}
use Rattle.log_journal.proofs.Found.{breaks_in_payload, whole_block}

-- a header and a shut gate
pub shut_front : (file : List ℕ) (number gate : ℕ) → file ≡ header New number ++ drop 8 file → HasByte file 8 gate → gate ≢ 1 → Holds file number []
shut_front file number gate begins stands shut = all_read New file number 8 gate [] (none_read New file number begins) stands shut

-- a header and a payload behind an open gate
pub first_front : (file : List ℕ) (number : ℕ) (payload : List ℕ) → file ≡ header New number ++ drop 8 file → HasPayload New file 8 0 payload → HasFirst file number payload
first_front file number payload begins stands =
    let read = one_more New file number 8 [] payload (none_read New file number begins) stands in
    record {
      begins = ap (λ (l : List ℕ). take (length (front number (payload ∷ []))) l) read.parts ∙ take_at (front number (payload ∷ [])) (drop (8 + (9 + length payload)) file) (length (front number (payload ∷ []))) refl;
      sized = stands.sized;
    }

pub front_of_first : (file : List ℕ) (number : ℕ) (result : Result Front FrontFault) → file ≡ header New number ++ drop 8 file → 9 < length file → IsFirst file result → IsFront file number result
front_of_first file number (Ok Nothing) begins long found = absurd found
front_of_first file number (Ok (First size bytes)) begins long found = (found.0, first_front file number found.0 begins found.1, found.2, found.3)
front_of_first file number (Err Failed) begins long found = tt
front_of_first file number (Err (Damaged at)) begins long found = (long, inr (record { offset = found.0; parts = begins; breaks = found.1; place = found.2 }))
front_of_first file number (Err OldFormat) begins long none = absurd none
front_of_first file number (Err (WrongNumber found)) begins long none = absurd none
front_of_first file number (Err OutOfMemory) begins long found = tt

-- a fault of the header, and of the numbers before the payload, is one of the front
pub front_of_header : (file : List ℕ) (number : ℕ) (fault : JournalFault) (told : FrontFault) → 9 < length file → ReadsHeader file (Err fault) → IsStartFault fault told → IsFront file number (Err told)
front_of_header file number journal.Failed told long found same = rw same tt
front_of_header file number (journal.Damaged at) told long none same = rw same (long, inl none)
front_of_header file number journal.OldFormat told long none same = absurd none
front_of_header file number (journal.WrongNumber found) told long none same = absurd none
front_of_header file number (journal.OverLimit limit shown) told long none same = absurd none
front_of_header file number journal.OutOfMemory told long found same = rw same tt

pub first_of_head : (file : List ℕ) (fault : JournalFault) (told : FrontFault) → ReadsHead New file 8 0 (Err fault) → IsStartFault fault told → IsFirst file (Err told)
first_of_head file journal.Failed told found same = rw same tt
first_of_head file (journal.Damaged at) told broken same = rw same broken
first_of_head file journal.OldFormat told none same = absurd none
first_of_head file (journal.WrongNumber found) told none same = absurd none
first_of_head file (journal.OverLimit limit shown) told none same = absurd none
first_of_head file journal.OutOfMemory told found same = rw same tt

take_of_take : (size : ℕ) (bytes : List ℕ) → take 64 (take size bytes) ≡ take (min size 64) bytes
take_of_take size bytes = ⊎_elim
    (λ (short : size < 64). take_all 64 (take size bytes) (omega (arith, length-take size bytes)) ∙ (let e : size ≡ min size 64 = omega arith in ap (λ (n : ℕ). take n bytes) e))
    (λ (long : 64 ≤ size). take-take 64 size bytes long ∙ (let e : 64 ≡ min size 64 = omega arith in ap (λ (n : ℕ). take n bytes) e))
    (cases_lt size 64)

-- behind the numbers of the first payload
module _ (file : List ℕ) (size : ℕ) (open_gate : HasByte file 8 1) (fits : size < 2 ^ 32) (numbers : drop 9 file ≡ head New 0 size ++ drop 17 file) (within : 17 ≤ length file) where
  pub breaks_in_first : length file < 17 + size → IsFirst file (Err (Damaged 17))
  breaks_in_first short = (9, breaks_in_payload file 8 0 open_gate New size fits (omega arith) numbers within short, refl)

  pub first_shown : (bytes : List ℕ) → 17 + size ≤ length file → bytes ≡ take (min size 64) (drop 17 file) → IsFirst file (Ok (First size bytes))
  first_shown bytes whole shown =
      let payload = take size (drop 17 file) in
      let long : length payload ≡ size = length-take-le size (drop 17 file) (omega (arith, length-drop 17 file)) in (
        payload,
        record { sized = omega (arith, long); few = omega arith; block_is = whole_block file 8 0 open_gate New size fits (omega arith) numbers within payload long refl },
        sym long,
        shown ∙ sym (take_of_take size (drop 17 file)),
      )

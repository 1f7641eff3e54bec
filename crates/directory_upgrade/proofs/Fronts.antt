-- What stands at the front of a file that holds payloads.
use Rattle.std.proofs.Common.{◌≡◌, ◌⊎◌, inl, inr, ⊎_elim, ℕ, ◌^◌, ◌<◌, List, [], ◌∷◌, ◌++◌, length, take, drop, Err, refl, sym, ◌∙◌, ap, arith, take-append-drop}
use Rattle.std.specs.Int.{w32, from_be_bytes}
use Rattle.std.proofs.lemmas.List.{take_at, append-nil}
use Rattle.std.proofs.lemmas.List.Elements.{All-from_recursion}
use Rattle.std.proofs.lemmas.Nat.{from_be_bytes-to_be_bytes_4}
use Rattle.log_journal.specs.File.{front, front_in, Holds, IsCutShort}
use Rattle.log_journal.specs.Front.{HoldsNothing, HasFirst, IsFront, BreaksInFront}
use Rattle.log_journal.specs.declared.form.Form.TheVariants.{New}
use Rattle.log_journal.specs.declared.at_front.FrontFault.{FrontFault}
use Rattle.log_journal.specs.declared.at_front.FrontFault.TheVariants.{Failed, Damaged, WrongNumber, OutOfMemory, OldFormat}
use Rattle.log_journal.proofs.FrontLaws.{first_held, never_nothing}
use Rattle.log_journal.proofs.OneReading.{never_both, never_old, one_number}

module _ (file : List ℕ) (number : ℕ) (payload rest : List ℕ) (sized : length payload < 2 ^ 32) (is : file ≡ front number (payload ∷ []) ++ rest) where
  size_shown : from_be_bytes w32 (take 4 (drop 13 file)) ≡ length payload
  unfolding front_in
  size_shown = ap (λ (l : List ℕ). from_be_bytes w32 (take 4 (drop 13 l))) is ∙ from_be_bytes-to_be_bytes_4 (length payload) sized

  bytes_shown : take (length payload) (drop 17 file) ≡ payload
  unfolding front_in
  bytes_shown = ap (λ (l : List ℕ). take (length payload) (drop 17 l)) is ∙ ap (λ (l : List ℕ). take (length payload) (l ++ rest)) (append-nil payload) ∙ take_at payload rest (length payload) refl

whole : (file : List ℕ) (number : ℕ) (payload : List ℕ) → HasFirst file number payload → file ≡ front number (payload ∷ []) ++ drop (length (front number (payload ∷ []))) file
whole file number payload first =
    sym (take-append-drop (length (front number (payload ∷ []))) file) ∙ ap (λ (l : List ℕ). l ++ drop (length (front number (payload ∷ []))) file) first.begins

-- a file has one first payload
pub one_first : (file : List ℕ) (number : ℕ) (p q : List ℕ) → HasFirst file number p → HasFirst file number q → p ≡ q
one_first file number p q of_p of_q =
    let is_p = whole file number p of_p in
    let is_q = whole file number q of_q in
    let size : length p ≡ length q = sym (size_shown file number p _ of_p.sized is_p) ∙ size_shown file number q _ of_q.sized is_q in
    sym (bytes_shown file number p _ of_p.sized is_p) ∙ ap (λ (n : ℕ). take n (drop 17 file)) size ∙ bytes_shown file number q _ of_q.sized is_q

-- the first payload of those that a file holds is the one at its front
pub first_of : (file : List ℕ) (number : ℕ) (payloads : List (List ℕ)) (payload : List ℕ) → Holds file number payloads → HasFirst file number payload
    → (more : List (List ℕ)) × (payloads ≡ payload ∷ more)
first_of file number [] payload holds first = absurd (never_nothing file number payload (inr holds) first)
first_of file number (one ∷ more) payload holds first = (more, ap (λ (p : List ℕ). p ∷ more) (one_first file number one payload (first_held file number one more holds) first))

-- where nothing stands at its front it holds nothing
pub none_of : (file : List ℕ) (number : ℕ) (payloads : List (List ℕ)) → Holds file number payloads → HoldsNothing file number → payloads ≡ []
none_of file number [] holds nothing = refl
none_of file number (one ∷ more) holds nothing = absurd (never_nothing file number one nothing (first_held file number one more holds))

-- a break in front is one behind no payloads
cut : (file : List ℕ) (number at : ℕ) → BreaksInFront file number at → IsCutShort New file number at
unfolding front_in
cut file number at broken = record {
  payloads = [];
  rest = drop 8 file;
  offset = broken.offset;
  parts = broken.parts;
  sized = All-from_recursion (λ (p : List ℕ). length p < 2 ^ 32) [] tt;
  few = omega arith;
  breaks = broken.breaks;
  place = broken.place;
}

-- its front has no fault
pub front_is_well : (file : List ℕ) (number : ℕ) (payloads : List (List ℕ)) → number < 2 ^ 32 → Holds file number payloads → (why : FrontFault) → IsFront file number (Err why) → (why ≡ Failed) ⊎ (why ≡ OutOfMemory)
front_is_well file number payloads fits holds Failed is = inl refl
front_is_well file number payloads fits holds OutOfMemory is = inr refl
front_is_well file number payloads fits holds OldFormat is = absurd (never_old file number payloads holds is.1)
front_is_well file number payloads fits holds (WrongNumber found) is = absurd (is.2 (one_number New file number found payloads fits holds is.1))
front_is_well file number payloads fits holds (Damaged at) is = ⊎_elim
    (λ foreign. absurd (never_both New file number at payloads holds (inl foreign)))
    (λ broken. absurd (never_both New file number at payloads holds (inr (cut file number at broken))))
    is.1

-- A file has one front, and one that holds payloads has no fault at its front.
use Rattle.std.proofs.Common.{◌≡◌, inl, inr, ⊎_elim, Ok, ℕ, ◌+◌, ◌^◌, ◌<◌, List, [], ◌∷◌, ◌++◌, length, take, drop, refl, sym, ◌∙◌, ap, arith, append_assoc, length-append, take-append-drop}
use Rattle.std.proofs.lemmas.List.{take_at, append-nil, append_cancel_left}
use Rattle.std.proofs.lemmas.List.Elements.{recursion_from_All, All-from_recursion}
use Rattle.log_journal.specs.File.{front, front_in, header, block, blocks, body, Holds, AreSized}
use Rattle.log_journal.specs.Journal.{HasDoubt}
use Rattle.log_journal.specs.Front.{HoldsNothing, HasFirst, HasFront, IsFront}
use Rattle.log_journal.specs.declared.at_front.Front.{Front}
use Rattle.log_journal.specs.declared.at_front.Front.TheVariants.{Nothing, First}
use Rattle.log_journal.proofs.Split.{split, held}
use Rattle.log_journal.specs.declared.form.Form.TheVariants.{New}
use Rattle.log_journal.proofs.Frames.{front-push, length-front}
use Rattle.log_journal.proofs.Steps.{either}

-- a file that holds payloads has the first of them at its front
first_of_more : (number : ℕ) (payload : List ℕ) (payloads : List (List ℕ)) (rest : List ℕ) → front number (payload ∷ payloads) ++ rest ≡ front number (payload ∷ []) ++ (blocks New 1 payloads ++ rest)
unfolding front_in
first_of_more number payload payloads rest =
    append_assoc (header New number) (block New 0 payload ++ blocks New 1 payloads) rest
    ∙ ap (λ (l : List ℕ). header New number ++ l) (append_assoc (block New 0 payload) (blocks New 1 payloads) rest)
    ∙ sym (append_assoc (header New number) (block New 0 payload) (blocks New 1 payloads ++ rest))
    ∙ ap (λ (l : List ℕ). (header New number ++ l) ++ (blocks New 1 payloads ++ rest)) (sym (append-nil (block New 0 payload)))

pub first_held : (file : List ℕ) (number : ℕ) (payload : List ℕ) (payloads : List (List ℕ)) → Holds file number (payload ∷ payloads) → HasFirst file number payload
first_held file number payload payloads holds =
    let parts = split New number (payload ∷ payloads) file holds in
    let rest = blocks New 1 payloads ++ parts.gate ∷ parts.rest in
    let whole : file ≡ front number (payload ∷ []) ++ rest = parts.whole ∙ first_of_more number payload payloads (parts.gate ∷ parts.rest) in
    record {
      begins = ap (λ (l : List ℕ). take (length (front number (payload ∷ []))) l) whole ∙ take_at (front number (payload ∷ [])) rest (length (front number (payload ∷ []))) refl;
      sized = (recursion_from_All (λ (p : List ℕ). length p < 2 ^ 32) (payload ∷ payloads) holds.sized).0;
    }

pub holds_front : (file : List ℕ) (number : ℕ) (payloads : List (List ℕ)) → Holds file number payloads → HasFront file number
holds_front file number [] holds = inl (inr holds)
holds_front file number (payload ∷ payloads) holds = inr (payload, first_held file number payload payloads holds)

-- so has one with a payload in doubt
pub doubt_front : (file : List ℕ) (number : ℕ) (payloads : List (List ℕ)) (doubt : List ℕ) → AreSized payloads → length doubt < 2 ^ 32 → length payloads + 1 < 2 ^ 32 → HasDoubt file number payloads doubt → HasFront file number
doubt_front file number payloads doubt sized fits few has = ⊎_elim
    (λ holds. holds_front file number payloads holds)
    (λ holds. holds_front file number (payloads ++ doubt ∷ []) holds)
    (either 0 number payloads doubt fits few file sized has)

-- where the front was read it has no fault
pub has_front : (file : List ℕ) (number : ℕ) (found : Front) → IsFront file number (Ok found) → HasFront file number
has_front file number Nothing found = inl found
has_front file number (First size bytes) found = inr (found.0, found.1)

-- the file up to the end of its first payload holds it alone
whole_first : (file : List ℕ) (number : ℕ) (payload : List ℕ) → HasFirst file number payload → file ≡ front number (payload ∷ []) ++ drop (length (front number (payload ∷ []))) file
whole_first file number payload first = sym (take-append-drop (length (front number (payload ∷ []))) file) ∙ ap (λ (l : List ℕ). l ++ drop (length (front number (payload ∷ []))) file) first.begins

-- with a shut gate behind it, it is a file of that payload
cut_behind : (file : List ℕ) (number : ℕ) (payload : List ℕ) → HasFirst file number payload → Holds (front number (payload ∷ []) ++ 0 ∷ []) number (payload ∷ [])
cut_behind file number payload first = held New number (payload ∷ []) (front number (payload ∷ []) ++ 0 ∷ []) 0 [] refl (λ same. absurd (omega arith)) (All-from_recursion (λ (p : List ℕ). length p < 2 ^ 32) (payload ∷ []) (first.sized, tt)) (omega arith)

-- nothing and a first payload never stand in one file
pub never_nothing : (file : List ℕ) (number : ℕ) (payload : List ℕ) → HoldsNothing file number → HasFirst file number payload → ⊥
never_nothing file number payload (inl short) first =
    let whole = whole_first file number payload first in
    absurd (omega (arith, short, ap length whole, length-append (front number (payload ∷ [])) (drop (length (front number (payload ∷ []))) file), length-front New number (payload ∷ [])))
never_nothing file number payload (inr holds) first =
    let parts = split New number [] file holds in
    let whole = whole_first file number payload first ∙ sym (front-push New number [] payload (drop (length (front number (payload ∷ []))) file)) in
    let same = append_cancel_left (front number []) (parts.gate ∷ parts.rest) (1 ∷ (body New 0 payload ++ drop (length (front number (payload ∷ []))) file)) (sym parts.whole ∙ whole) in
    parts.shut (cc)

-- What is read of a file's front is of one payload.
use Rattle.std.proofs.Common.{◌≡◌, ℕ, ◌<◌, ◌^◌, List, [], ◌∷◌, ◌++◌, take, drop, length, refl, sym, ◌∙◌, ap, take-append-drop}
use Rattle.std.specs.Int.{w32, from_be_bytes}
use Rattle.std.proofs.lemmas.List.{append_cancel_left, take_at}
use Rattle.std.proofs.lemmas.Nat.{from_be_bytes-to_be_bytes_4}
use Rattle.log_journal.specs.File.{front, block}
use Rattle.log_journal.specs.Front.{HasFirst}
use Rattle.log_journal.specs.declared.form.Form.TheVariants.{New}
use Rattle.log_journal.proofs.Frames.{front-push}

-- an empty front, the block of the payload and what follows
first_shape : (file : List ℕ) (number : ℕ) (payload : List ℕ) → HasFirst file number payload → (rest : List ℕ) × (file ≡ front number [] ++ (block New 0 payload ++ rest))
first_shape file number payload first =
    let rest = drop (length (front number (payload ∷ []))) file in
    (rest, sym (take-append-drop (length (front number (payload ∷ []))) file) ∙ ap (λ (l : List ℕ). l ++ rest) first.begins ∙ sym (front-push New number [] payload rest))

length_in : (payload rest file : List ℕ) → length payload < 2 ^ 32 → file ≡ block New 0 payload ++ rest → from_be_bytes w32 (take 4 (drop 5 file)) ≡ length payload
length_in payload rest file fits is = ap (λ (l : List ℕ). from_be_bytes w32 (take 4 (drop 5 l))) is ∙ from_be_bytes-to_be_bytes_4 (length payload) fits

payload_in_front : (payload rest file : List ℕ) → file ≡ block New 0 payload ++ rest → take (length payload) (drop 9 file) ≡ payload
payload_in_front payload rest file is = ap (λ (l : List ℕ). take (length payload) (drop 9 l)) is ∙ take_at payload rest (length payload) refl

same_block : (p q r s file : List ℕ) → length p < 2 ^ 32 → length q < 2 ^ 32 → file ≡ block New 0 p ++ r → file ≡ block New 0 q ++ s → p ≡ q
same_block p q r s file p_fits q_fits is_p is_q =
    let same_length : length p ≡ length q = sym (length_in p r file p_fits is_p) ∙ length_in q s file q_fits is_q in
    sym (payload_in_front p r file is_p) ∙ ap (λ (n : ℕ). take n (drop 9 file)) same_length ∙ payload_in_front q s file is_q

pub one_first_payload : (file : List ℕ) (number : ℕ) (p q : List ℕ) → HasFirst file number p → HasFirst file number q → take 64 p ≡ take 64 q
one_first_payload file number p q is_p is_q =
    let a = first_shape file number p is_p in
    let b = first_shape file number q is_q in
    let blocks : block New 0 p ++ a.0 ≡ block New 0 q ++ b.0 = append_cancel_left (front number []) (block New 0 p ++ a.0) (block New 0 q ++ b.0) (sym a.1 ∙ b.1) in
    ap (take 64) (same_block p q a.0 b.0 (block New 0 p ++ a.0) is_p.sized is_q.sized refl blocks)

-- Payloads one behind the other, in either form.
use Rattle.std.proofs.Common.{◌≡◌, ℕ, ◌+◌, ◌*◌, ◌^◌, ◌<◌, ◌≤◌, List, [], ◌∷◌, ◌++◌, length, refl, sym, ◌∙◌, ap, arith, append_assoc, length-append}
use Rattle.std.specs.Prelude.{sum_by}
use Rattle.std.specs.Int.{w32, to_be_bytes}
use Rattle.std.proofs.lemmas.List.{append-nil}
use Rattle.std.proofs.lemmas.List.Sums.{sum_by-cons, sum_by-append}
use Rattle.std.proofs.lemmas.List.Elements.{All-push}
use Rattle.log_journal.specs.File.{header, head, head_size, body, block, blocks, front_in, AreSized}
use Rattle.log_journal.specs.Reading.{length_in}
use Rattle.log_journal.specs.declared.form.Form.{Form}
use Rattle.log_journal.specs.declared.form.Form.TheVariants.{Old, New}

pub length-head : (form : Form) (before size : ℕ) → length (head form before size) ≡ head_size form
length-head Old before size = refl
length-head New before size = refl

pub length-block : (form : Form) (before : ℕ) (payload : List ℕ) → length (block form before payload) ≡ 1 + head_size form + length payload
length-block form before payload = omega (arith, length-append (head form before (length payload)) payload, length-head form before (length payload))

pub blocks_more : (form : Form) (before : ℕ) (payloads : List (List ℕ)) (payload : List ℕ) → blocks form before (payloads ++ payload ∷ []) ≡ blocks form before payloads ++ block form (before + length payloads) payload
blocks_more form before [] payload =
    let same : before ≡ before + 0 = omega arith in
    append-nil (block form before payload) ∙ ap (λ (n : ℕ). block form n payload) same
blocks_more form before (p ∷ payloads) payload =
    let same : before + 1 + length payloads ≡ before + length (p ∷ payloads) = omega arith in
    ap (λ (l : List ℕ). block form before p ++ l) (blocks_more form (before + 1) payloads payload)
    ∙ sym (append_assoc (block form before p) (blocks form (before + 1) payloads) (block form (before + 1 + length payloads) payload))
    ∙ ap (λ (n : ℕ). (block form before p ++ blocks form (before + 1) payloads) ++ block form n payload) same

-- the front with one payload more
pub front-push : (form : Form) (number : ℕ) (payloads : List (List ℕ)) (payload rest : List ℕ) → front_in form number payloads ++ 1 ∷ (body form (length payloads) payload ++ rest) ≡ front_in form number (payloads ++ payload ∷ []) ++ rest
unfolding front_in
front-push form number payloads payload rest =
    let here : block form (0 + length payloads) payload ≡ block form (length payloads) payload = let same : 0 + length payloads ≡ length payloads = omega arith in ap (λ (n : ℕ). block form n payload) same in
    sym (append_assoc (header form number ++ blocks form 0 payloads) (block form (length payloads) payload) rest)
    ∙ ap (λ (l : List ℕ). l ++ rest) (append_assoc (header form number) (blocks form 0 payloads) (block form (length payloads) payload) ∙ ap (λ (l : List ℕ). header form number ++ l) (ap (λ (l : List ℕ). blocks form 0 payloads ++ l) (sym here) ∙ sym (blocks_more form 0 payloads payload)))

pub length-front-push : (form : Form) (number : ℕ) (payloads : List (List ℕ)) (payload : List ℕ) → length (front_in form number (payloads ++ payload ∷ [])) ≡ length (front_in form number payloads) + (1 + head_size form + length payload)
length-front-push form number payloads payload = omega (
  arith,
  ap length (front-push form number payloads payload []),
  length-append (front_in form number payloads) (1 ∷ (body form (length payloads) payload ++ [])),
  length-append (body form (length payloads) payload) [],
  length-append (head form (length payloads) (length payload)) payload,
  length-head form (length payloads) (length payload),
  length-append (front_in form number (payloads ++ payload ∷ [])) [],
)

pub length-blocks : (form : Form) (before : ℕ) (payloads : List (List ℕ)) → length (blocks form before payloads) ≡ sum_by (λ payload. 1 + head_size form + length payload) payloads
length-blocks form before [] = refl
length-blocks form before (p ∷ payloads) = omega (
  arith,
  length-append (block form before p) (blocks form (before + 1) payloads),
  length-block form before p,
  length-blocks form (before + 1) payloads,
  sum_by-cons (λ (payload : List ℕ). 1 + head_size form + length payload) p payloads,
)

-- a journal's length is that of its front, and its last gate
pub length-front : (form : Form) (number : ℕ) (payloads : List (List ℕ)) → length (front_in form number payloads) + 1 ≡ length_in form payloads
unfolding front_in
length-front Old number payloads = omega (arith, length-append (header Old number) (blocks Old 0 payloads), length-blocks Old 0 payloads)
length-front New number payloads = omega (arith, length-append (header New number) (blocks New 0 payloads), length-blocks New 0 payloads)

pub length_more : (form : Form) (gate size : ℕ) (old new : List (List ℕ)) (payload : List ℕ) → gate + 1 ≡ length_in form old → new ≡ old ++ payload ∷ [] → size ≡ length payload → gate + (1 + head_size form + size) + 1 ≡ length_in form new
length_more form gate size old new payload so_far pushed sized =
    omega (arith, so_far, sized, ap (length_in form) pushed, sum_by-append (λ (payload : List ℕ). 1 + head_size form + length payload) old (payload ∷ []))

-- no payloads
pub front-none : (form : Form) (number : ℕ) → front_in form number [] ≡ header form number
unfolding front_in
front-none form number = append-nil (header form number)

pub sized-push : (payloads : List (List ℕ)) (payload : List ℕ) → AreSized payloads → length payload < 2 ^ 32 → AreSized (payloads ++ payload ∷ [])
sized-push payloads payload sized more = All-push (λ (p : List ℕ). length p < 2 ^ 32) payloads payload sized more

-- a block behind its running number
pub numbered_form : (count : ℕ) (payloads : List (List ℕ)) (payload bytes : List ℕ) → count ≡ length payloads → bytes ≡ body Old 0 payload ++ 0 ∷ [] → to_be_bytes w32 (count + 1) ++ bytes ≡ body New (length payloads) payload ++ 0 ∷ []
numbered_form count payloads payload bytes counted form = ap (λ (l : List ℕ). to_be_bytes w32 (count + 1) ++ l) form ∙ ap (λ (n : ℕ). to_be_bytes w32 (n + 1) ++ (body Old 0 payload ++ 0 ∷ [])) counted

-- a journal's length leaves room for its count
pub count_within : (payloads : List (List ℕ)) → 9 * length payloads ≤ sum_by (λ payload. 9 + length payload) payloads
count_within [] = omega arith
count_within (p ∷ payloads) = omega (arith, count_within payloads, sum_by-cons (λ (payload : List ℕ). 9 + length payload) p payloads)

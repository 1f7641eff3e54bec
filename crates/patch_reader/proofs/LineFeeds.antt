-- The line feeds of a text.
use Rattle.std.proofs.Common.{◌≡◌, ℕ, ◌+◌, ◌-◌, ◌≤◌, Bool, List, take, drop, sym, ap, ◌∙◌, arith}
use Rattle.std.specs.Prelude.{count_by, ◌==◌}
use Rattle.std.proofs.lemmas.List.Sums.{sum_by-append}
use Rattle.std.proofs.Math.Seq.{take-add}
use Rattle.patch_reader.specs.Places.{feeds_before, line_number}

abbrev is_feed : ℕ → Bool
is_feed b = b == 10

-- those up to a later place
pub feeds_more : (text : List ℕ) (from n : ℕ) (kept : List ℕ) → drop from text ≡ kept → feeds_before text from + count_by is_feed (take n kept) ≡ feeds_before text (from + n)
feeds_more text from n kept e =
    ap (λ (l : List ℕ). feeds_before text from + count_by is_feed (take n l)) (sym e)
    ∙ sym (ap (count_by is_feed) (take-add from n text) ∙ sum_by-append _ (take from text) (take n (drop from text)))

pub line_is : (text : List ℕ) (from place : ℕ) (kept : List ℕ) (feeds : ℕ) → feeds ≡ feeds_before text from → drop from text ≡ kept → from ≤ place → feeds + count_by is_feed (take (place - from) kept) + 1 ≡ line_number text place
line_is text from place kept feeds feeds_are e le =
    let at : from + (place - from) ≡ place = omega (arith, le) in
    ap (λ (m : ℕ). m + 1) (ap (λ (m : ℕ). m + count_by is_feed (take (place - from) kept)) feeds_are ∙ feeds_more text from (place - from) kept e ∙ ap (feeds_before text) at)

-- Facts about what is kept of a form and what is used of a piece, up to a limit.
use Rattle.std.proofs.Common.{◌≡◌, ℕ, ◌+◌, ◌-◌, ◌<◌, ◌≤◌, ◌⊎◌, List, ◌++◌, length, take, drop, min, sym, ap, ◌∙◌, inl, inr, arith, append_assoc, length-append}
use Rattle.std.proofs.lemmas.List.{take_all, take-append-le, take-append-drop, length-take-le}
use Rattle.std.proofs.Math.Seq.{take-append-add, take-append_seam}
use Rattle.http_messages.proofs.GrowLemmas.{lt_or_le, take_past}

-- as much of a piece as a limit leaves room for
pub record IsMost (kept piece : List ℕ) (limit most : ℕ) : Type 0 where
  pub short : length kept ≤ limit
  pub most_is : most ≡ min (length piece) (limit - length kept)

module _ (kept piece : List ℕ) (limit most : ℕ) (is : IsMost kept piece limit most) where
  taken_same : (limit - length kept < length piece) ⊎ (length piece ≤ limit - length kept) → take (limit - length kept) piece ≡ take most piece
  taken_same (inl below) = let same : limit - length kept ≡ most = omega (arith, is.most_is) in ap (λ k. take k piece) same
  taken_same (inr past) =
      let same : length piece ≡ most = omega (arith, is.most_is) in
      take_all (limit - length kept) piece past ∙ sym (take_all (length piece) piece (omega arith)) ∙ ap (λ k. take k piece) same

  pub most_fits : most ≤ length piece
  most_fits = omega (arith, is.most_is)

  -- what is read is the front of all that came
  pub front_taken : take limit (kept ++ piece) ≡ kept ++ take most piece
  front_taken =
      take_past limit kept piece is.short ∙ ap (λ (t : List ℕ). kept ++ t) (taken_same (lt_or_le (limit - length kept) (length piece)))

  pub length_taken : length (kept ++ take most piece) ≡ length kept + most
  length_taken = length-append kept (take most piece) ∙ ap (λ k. length kept + k) (length-take-le most piece most_fits)

  pub all_taken : (kept ++ take most piece) ++ drop most piece ≡ kept ++ piece
  all_taken = append_assoc kept (take most piece) (drop most piece) ∙ ap (λ (t : List ℕ). kept ++ t) (take-append-drop most piece)

  -- a front that isn't in what is kept ends in the piece
  pub front_is_past : (front rest : List ℕ) → kept ++ take most piece ≡ front ++ rest
      → ((after : List ℕ) → kept ≡ front ++ after → ⊥) → length kept < length front
  front_is_past front rest reads none = past (lt_or_le (length kept) (length front))
    where
      past : (length kept < length front) ⊎ (length front ≤ length kept) → length kept < length front
      past (inl below) = below
      past (inr within) =
          let head : take (length front) kept ≡ front =
          sym (take-append-le (length front) kept (take most piece) within) ∙ ap (take (length front)) reads ∙ take-append_seam front rest in
          absurd (none (drop (length front) kept) (sym (take-append-drop (length front) kept) ∙ ap (λ (t : List ℕ). t ++ drop (length front) kept) head))

  -- the front is what is kept and what is used of the piece
  pub front_is_used : (front rest : List ℕ) → kept ++ take most piece ≡ front ++ rest → length kept < length front
      → (length front - length kept ≤ length piece) × (kept ++ take (length front - length kept) piece ≡ front)
  front_is_used front rest reads past =
      let whole : length (kept ++ take most piece) ≡ length front + length rest = ap length reads ∙ length-append front rest in
      let parts = length_taken in
      let fits = most_fits in
      let used_fits : length front - length kept ≤ most = omega arith in
      let split : length front ≡ length kept + (length front - length kept) = omega arith in
      let taken : take (length front - length kept) piece ≡ take (length front - length kept) (take most piece) =
      ap (take (length front - length kept)) (sym (take-append-drop most piece))
      ∙ take-append-le (length front - length kept) (take most piece) (drop most piece) (omega (arith, length-take-le most piece fits)) in (
        omega arith,
        ap (λ (t : List ℕ). kept ++ t) taken ∙ sym (take-append-add kept (take most piece) (length front - length kept))
            ∙ ap (λ k. take k (kept ++ take most piece)) (sym split) ∙ ap (take (length front)) reads ∙ take-append_seam front rest,
      )

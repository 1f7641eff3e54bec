-- Entries of one number, by the places that it knows.
use Rattle.std.proofs.Common.{◌≡◌, ◌≢◌, ℕ, ◌+◌, Bool, true, false, cond, eqb, eq-eqb, List, [], ◌∷◌, ◌++◌, length, length-append, refl, ◌∙◌, ap, arith}
use Rattle.turn_cell.specs.declared.view.Known.{Known}
use Rattle.turn_cell.specs.Turns.{AllOf, places_by, places_from}
use Rattle.turn_cell.proofs.Views.{places_append}

module _ {C : Type 0} where
  abbrev pub IsOther : ℕ → Known C → Type 0
  IsOther n known = known.by ≢ n

  by_test : (n k : ℕ) (known : Known C) (rest : List ℕ) (test : Bool) → eqb known.by n ≡ test → length (cond test (k ∷ rest) rest) ≡ 0 → IsOther n known × (length rest ≡ 0)
  by_test n k known rest true is none = absurd (cc)
  by_test n k known rest false is none = (λ same. let yes = eq-eqb known.by n same in absurd (cc), none)

  none_from : (n k : ℕ) (more : List (Known C)) → length (places_from k n more) ≡ 0 → AllOf (IsOther n) more
  none_from n k [] none = tt
  none_from n k (known ∷ more) none =
      let so = by_test n k known (places_from (k + 1) n more) (eqb known.by n) refl none in
      (so.0, none_from n (k + 1) more so.1)

  counted_behind : (n : ℕ) (front more : List (Known C)) → length (places_by n (front ++ more)) ≡ length (places_by n front) + length (places_from (1 + length front) n more)
  counted_behind n front more = ap length (places_append n 1 front more) ∙ length-append (places_by n front) (places_from (1 + length front) n more)

  -- where the places of a number stay the same the entries behind are of others
  pub others_behind : (n : ℕ) (front more : List (Known C)) → places_by n (front ++ more) ≡ places_by n front → AllOf (IsOther n) more
  others_behind n front more same =
      let count = counted_behind n front more in
      let still = ap length same in
      none_from n (1 + length front) more (omega (arith, count, still))

  -- where one place came and the last entry has it, those before it are of others
  pub others_before : (n : ℕ) (front more : List (Known C)) (last : Known C) (mine : List ℕ) (place : ℕ) → last.by ≡ n → places_by n front ≡ mine → places_by n ((front ++ more) ++ last ∷ []) ≡ mine ++ place ∷ [] → AllOf (IsOther n) more
  others_before n front more last mine place number own grown =
      let whole = counted_behind n (front ++ more) (last ∷ []) in
      let part = counted_behind n front more in
      let one : length (places_from (1 + length (front ++ more)) n (last ∷ [])) ≡ 1 = rw (eq-eqb last.by n number) refl in
      let first = ap length own in
      let all = ap length grown ∙ length-append mine (place ∷ []) in
      none_from n (1 + length front) more (omega (arith, whole, part, one, first, all))

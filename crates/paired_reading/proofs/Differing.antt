-- Ids that differ.
use Rattle.std.proofs.Common.{◌≡◌, ◌≢◌, ◌⊎◌, inl, inr, ℕ, zero, suc, ◌+◌, ◌<◌, ◌≤◌, List, [], ◌∷◌, ◌++◌, length, take, drop, get_or, Option, None, Some, false, true≢false, refl, sym, ◌∙◌, ap, subst, arith}
use Rattle.std.specs.Option.{is_some}
use Rattle.std.specs.List.{AllByRecursion}
use Rattle.std.proofs.Math.Seq.{take-suc}
use Rattle.std.proofs.lemmas.Bool.{eqb-false}
use Rattle.std.proofs.lemmas.List.{length-take-le, take-append-le, take-append-drop}
use Rattle.delta_base.specs.declared.id.Id.{Id}
use Rattle.chain_core.specs.Breaks.{BreaksAt}
use Rattle.chain_core.specs.Ids.{version_among}
use Rattle.chain_core.specs.Links.{AllDiffer}
use Rattle.chain_core.proofs.Versions.{none-cons, new_behind}
use Rattle.paired_reading.specs.Payloads.{AreNew}

all-push : (P : Id → Type 0) (ids : List Id) (id : Id) → AllByRecursion P ids → P id → AllByRecursion P (ids ++ id ∷ [])
all-push P [] id all p = (p, tt)
all-push P (first ∷ ids) id all p = (all.0, all-push P ids id all.1 p)

pub differ-push : (ids : List Id) (id : Id) → AllDiffer ids → version_among ids id ≡ None → AllDiffer (ids ++ id ∷ [])
differ-push [] id differ none = (tt, tt)
differ-push (first ∷ ids) id differ none =
    let parts = none-cons first ids id none in
    (all-push (λ j. j ≢ first) ids id differ.0 (λ same. eqb-false _ _ parts.0 (ap (λ (i : Id). i.0) (sym same))), differ-push ids id differ.1 parts.1)

all-take : (P : Id → Type 0) (ids : List Id) (n : ℕ) → AllByRecursion P ids → AllByRecursion P (take n ids)
all-take P [] zero all = tt
all-take P [] (suc n) all = tt
all-take P (id ∷ ids) zero all = tt
all-take P (id ∷ ids) (suc n) all = (all.0, all-take P ids n all.1)

pub differ-take : (ids : List Id) (n : ℕ) → AllDiffer ids → AllDiffer (take n ids)
differ-take [] zero differ = tt
differ-take [] (suc n) differ = tt
differ-take (id ∷ ids) zero differ = tt
differ-take (id ∷ ids) (suc n) differ = (all-take (λ j. j ≢ id) ids n differ.0, differ-take ids n differ.1)

-- one more of the ids of a list
pub take-next : (ids : List Id) (n : ℕ) (id : Id) → n < length ids → get_or ids n (record { 0 = 0 }) ≡ id → take (n + 1) ids ≡ take n ids ++ id ∷ []
take-next ids n id within is = let one : n + 1 ≡ suc n = omega arith in ap (λ (k : ℕ). take k ids) one ∙ take-suc ids n (record { 0 = 0 }) within ∙ ap (λ (i : Id). take n ids ++ i ∷ []) is

abbrev none_such : Id
none_such = record { 0 = 0 }

front-take : (ids : List Id) (fewer n : ℕ) → fewer ≤ n → n ≤ length ids → take fewer ids ≡ take fewer (take n ids)
front-take ids fewer n less within =
    ap (λ (l : List Id). take fewer l) (sym (take-append-drop n ids)) ∙ take-append-le fewer (take n ids) (drop n ids) (omega (arith, less, length-take-le n ids within))

-- the first ids are new, and the next one isn't, or there are too many
pub breaks_at : (most : ℕ) (ids taken : List Id) (n : ℕ) (id : Id) → n < length ids → taken ≡ take n ids → AreNew most taken → get_or ids n (record { 0 = 0 }) ≡ id → (most ≤ length taken) ⊎ (version_among taken id ≢ None) → BreaksAt (AreNew most) ids (length taken + 1)
breaks_at most ids taken n id within is new here why =
    let count : length taken ≡ n = ap length is ∙ length-take-le n ids (omega (arith, within)) in
    record {
      within = omega (arith, within, count);
      so_before = λ fewer before.
          let less : fewer ≤ n = omega (arith, before, count) in
          let front : take fewer ids ≡ take fewer taken = front-take ids fewer n less (omega (arith, within)) ∙ ap (λ (l : List Id). take fewer l) (sym is) in
          (subst AllDiffer (sym front) (differ-take taken fewer new.0), omega (arith, length-take-le fewer ids (omega (arith, less, within)), less, count, new.1));
      broken = λ more. by why more.0 (omega (arith, more.1, length-take-le (length taken + 1) ids (omega (arith, within, count)))) (ap (λ (k : ℕ). take (k + 1) ids) count ∙ take-next ids n id within here ∙ ap (λ (l : List Id). l ++ id ∷ []) (sym is));
    }
  where
    by : (most ≤ length taken) ⊎ (version_among taken id ≢ None) → AllDiffer (take (length taken + 1) ids) → length taken + 1 ≤ most → take (length taken + 1) ids ≡ taken ++ id ∷ [] → ⊥
    by (inl full) differ few same = omega (arith, full, few)
    by (inr old) differ few same = old (new_behind taken id (subst AllDiffer same differ))

pub none_of : (o : Option ℕ) → is_some o ≡ false → o ≡ None
none_of None is = refl
none_of (Some n) is = absurd (true≢false is)

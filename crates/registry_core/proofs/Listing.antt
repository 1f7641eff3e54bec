-- Sources in the order of their names.
use Rattle.std.proofs.Common.{◌≡◌, ℕ, zero, suc, ◌<◌, ◌≤◌, Bool, true, false, cond, List, [], ◌∷◌, length, get_or, drop, refl, subst, sym, ◌∙◌, ap, arith}
use Rattle.std.specs.Prelude.{fold}
use Rattle.std.proofs.lemmas.List.{drop_all}
use Rattle.std.specs.List.{AllByRecursion, insert}
use Rattle.log_base.specs.declared.source_info.SourceInfo.{SourceInfo}
use Rattle.registry_core.specs.Sources.{is_before, put, by_name}

pub put_here : (listed : List SourceInfo) (place : ℕ) (source d : SourceInfo) → place ≤ length listed → ((k : ℕ) → k < place → is_before source (get_or listed k d) ≡ false)
    → (place < length listed → is_before source (get_or listed place d) ≡ true) → insert listed place source ≡ put listed source
put_here [] zero source d within behind before = refl
put_here (first ∷ listed) zero source d within behind before = ap (λ (b : Bool). cond b (source ∷ first ∷ listed) (first ∷ put listed source)) (sym (before (omega arith)))
put_here [] (suc place) source d within behind before = absurd (omega arith)
put_here (first ∷ listed) (suc place) source d within behind before =
    ap (λ (l : List SourceInfo). first ∷ l) (put_here listed place source d (omega arith) (λ k below. behind (suc k) (omega arith)) (λ inside. before (omega arith)))
    ∙ ap (λ (b : Bool). cond b (source ∷ first ∷ listed) (first ∷ put listed source)) (sym (behind 0 (omega arith)))

-- ---- what holds of all holds of all in their order

module _ (P : SourceInfo → Type 0) where
  all-if : (test : Bool) (source first : SourceInfo) (rest listed : List SourceInfo) → P source → P first → AllByRecursion P rest → AllByRecursion P listed
      → AllByRecursion P (cond test (source ∷ first ∷ rest) (first ∷ listed))
  all-if true source first rest listed one other all placed = (one, (other, all))
  all-if false source first rest listed one other all placed = (other, placed)

  all-put : (listed : List SourceInfo) (source : SourceInfo) → AllByRecursion P listed → P source → AllByRecursion P (put listed source)
  all-put [] source all one = (one, tt)
  all-put (first ∷ rest) source all one = all-if (is_before source first) source first rest (put rest source) one all.0 all.1 (all-put rest source all.1 one)

  all-fold : (listed living : List SourceInfo) → AllByRecursion P listed → AllByRecursion P living → AllByRecursion P (fold put listed living)
  all-fold listed [] all more = all
  all-fold listed (source ∷ living) all more = all-fold (put listed source) living (all-put listed source all more.0) more.1

  pub all-by_name : (living : List SourceInfo) → AllByRecursion P living → AllByRecursion P (by_name living)
  unfolding by_name
  all-by_name living all = all-fold [] living tt all

  -- sources of which none is left are those in their order
  pub all_listed : (listed living : List SourceInfo) (n : ℕ) → length living ≤ n → fold put listed (drop n living) ≡ by_name living → AllByRecursion P living → AllByRecursion P listed
  all_listed listed living n none is all =
      subst (AllByRecursion P) (sym (ap (fold put listed) (sym (drop_all n living none)) ∙ is)) (all-by_name living all)

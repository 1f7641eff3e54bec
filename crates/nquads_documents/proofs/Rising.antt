-- A rising list is told by its elements, and so is the canonical text of statements.
use Rattle.std.proofs.Common.{◌≡◌, ℕ, zero, suc, ◌<◌, List, [], ◌∷◌, length, map, get_or, refl, sym, ap, subst, ◌∙◌, ◌⊎◌, inl, inr, ⊎_elim, arith}
use Rattle.std.specs.Cmp.{IsTotalOrder}
use Rattle.std.specs.Cmp.Lexicographic.{slice_cmp, nat_list_cmp_total}
use Rattle.std.specs.List.{Contains, AllByRecursion, flat_map}
use Rattle.std.specs.List.Sorted.{IsStrictlySortedBy}
use Rattle.std.specs.Ordering.{nat_cmp, ordering_reverse}
use Rattle.std.specs.declared.cmp.Ordering.{Ordering}
use Rattle.std.specs.declared.cmp.Ordering.TheVariants.{Less, Equal}
use Rattle.std.proofs.lemmas.Cmp.{tied_itself}
use Rattle.std.proofs.lemmas.List.Elements.{All-contains, All-from_recursion}
use Rattle.rdf_terms.specs.Quad.{Statement}
use Rattle.nquads_documents.specs.Laws.{CanonicalOnce}
use Rattle.rdf_terms.specs.Line.{line}
use Rattle.nquads_documents.proofs.CanonicalLaws.{contains_map, from_map, later}

first : {K : Type 0} (x : K) (xs : List K) → Contains (x ∷ xs) x
first x xs = (0, omega arith, refl)

cases : {K : Type 0} (x : K) (xs : List K) (z : K) → Contains (x ∷ xs) z → (x ≡ z) ⊎ Contains xs z
cases x xs z c = by c.0 c.1 c.2
  where
    by : (k : ℕ) → k < length (x ∷ xs) → get_or (x ∷ xs) k z ≡ z → (x ≡ z) ⊎ Contains xs z
    by zero lt e = inl e
    by (suc k) lt e = inr (k, omega arith, e)

module _ {K : Type 0} (R : K → K → Ordering) (o : IsTotalOrder R) where
  below : (x : K) (xs : List K) (z : K) → AllByRecursion (λ y. R x y ≡ Less) xs → Contains xs z → R x z ≡ Less
  below x xs z a c = All-contains (λ y. R x y ≡ Less) xs z (All-from_recursion (λ y. R x y ≡ Less) xs a) c

  not_both_ways : (x y : K) → R x y ≡ Less → R y x ≡ Less → ⊥
  not_both_ways x y one two = let back : Less ≡ ordering_reverse Less = sym one ∙ o.antisymm x y ∙ ap ordering_reverse two in absurd cc

  not_itself : (x z : K) → x ≡ z → R x z ≡ Less → ⊥
  not_itself x z same less = let tied : R x x ≡ Equal = tied_itself o x in let bad : Equal ≡ Less = sym tied ∙ ap (R x) same ∙ less in absurd cc

  heads : (x y : K) (xs ys : List K) → AllByRecursion (λ z. R x z ≡ Less) xs → AllByRecursion (λ z. R y z ≡ Less) ys → Contains (y ∷ ys) x → Contains (x ∷ xs) y → x ≡ y
  heads x y xs ys a b in_ys in_xs =
      ⊎_elim (λ same. sym same)
      (λ past. ⊎_elim (λ same. same) (λ other. absurd (not_both_ways x y (below x xs y a other) (below y ys x b past))) (cases x xs y in_xs))
      (cases y ys x in_ys)

  tails : (x y : K) (xs ys : List K) → x ≡ y → AllByRecursion (λ z. R x z ≡ Less) xs → ((z : K) → Contains (x ∷ xs) z → Contains (y ∷ ys) z) → (z : K) → Contains xs z → Contains ys z
  tails x y xs ys same a into z c =
      ⊎_elim (λ first. absurd (not_itself x z (same ∙ first) (below x xs z a c))) (λ past. past) (cases y ys z (into z (later x xs z c)))

  pub same_rising : (xs ys : List K) → IsStrictlySortedBy R xs → IsStrictlySortedBy R ys → ((z : K) → Contains xs z → Contains ys z) → ((z : K) → Contains ys z → Contains xs z) → xs ≡ ys
  unfolding IsStrictlySortedBy
  same_rising [] [] s t into back = refl
  same_rising [] (y ∷ ys) s t into back = let c = back y (first y ys) in let low = c.1 in absurd (omega arith)
  same_rising (x ∷ xs) [] s t into back = let c = into x (first x xs) in let low = c.1 in absurd (omega arith)
  same_rising (x ∷ xs) (y ∷ ys) s t into back =
      let same : x ≡ y = heads x y xs ys s.0 t.0 (into x (first x xs)) (back y (first y ys)) in
      let rest : xs ≡ ys = same_rising xs ys s.1 t.1 (tails x y xs ys same s.0 into) (tails y x ys xs (sym same) t.0 back) in
      ap (λ (z : K). z ∷ xs) same ∙ ap (λ (zs : List K). y ∷ zs) rest

lines_of : (p q : List Statement) → ((s : Statement) → Contains p s → Contains q s) → (l : List ℕ) → Contains (map line p) l → Contains (map line q) l
lines_of p q into l c = let s = from_map line p l c in subst (Contains (map line q)) s.2 (contains_map line q s.0 (into s.0 s.1))

pub canonical_once : CanonicalOnce
canonical_once p q a b same c d =
    let lines = same_rising (slice_cmp nat_cmp) nat_list_cmp_total c.lines d.lines c.are.rising d.are.rising
    (λ l has. (d.are.same l).1 (lines_of p q (λ s. (same s).0) l ((c.are.same l).0 has)))
    (λ l has. (c.are.same l).1 (lines_of q p (λ s. (same s).1) l ((d.are.same l).0 has))) in
    c.joined ∙ ap (flat_map (λ (l : List ℕ). l)) lines ∙ sym d.joined

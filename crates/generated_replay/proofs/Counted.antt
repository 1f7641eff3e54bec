-- How many quads stand behind so many patches of the stream.
use Rattle.std.proofs.Common.{◌≡◌, ◌≢◌, ℕ, zero, suc, ◌+◌, ◌-◌, ◌/◌, ◌%◌, ◌^◌, ◌<◌, ◌≤◌, ◌==◌, Bool, true, false, cond, List, [], ◌∷◌, ◌++◌, length, refl, sym, ap, subst, ◌∙◌, ◌⊎◌, inl, inr, arith, true≢false}
use Rattle.std.specs.Cmp.Lexicographic.{nat_list_cmp_total, texts_ties, same_text}
use Rattle.std.specs.List.{All, count_by}
use Rattle.std.specs.Ordering.{is_eq, match_ordering}
use Rattle.std.specs.declared.cmp.Ordering.{Ordering}
use Rattle.std.specs.declared.cmp.Ordering.TheVariants.{Less, Equal, Greater}
use Rattle.std.specs.BTreeMap.{is_at}
use Rattle.std.specs.BTreeSet.{insert_key}
use Rattle.std.specs.Set.{remove_key}
use Rattle.std.proofs.lemmas.Bool.{eqb-true, cases_eq}
use Rattle.std.proofs.lemmas.Bool.Decides.{nat_tests}
use Rattle.std.proofs.lemmas.Cmp.{tied_itself}
use Rattle.std.proofs.lemmas.Fmt.{decimal_injective}
use Rattle.std.proofs.lemmas.List.{append-nil}
use Rattle.std.proofs.lemmas.List.Elements.{All-head, All-tail, All-nil, All-cons}
use Rattle.std.proofs.lemmas.List.Sums.{sum_by-cons}
use Rattle.std.proofs.lemmas.Map.Views.{All-insert_key, All-remove_key}
use Rattle.rdf_terms.specs.Dataset.{Dataset, apply, empty}
use Rattle.rdf_terms.specs.Line.{line, line_cmp}
use Rattle.rdf_terms.specs.Quad.{Statement}
use Rattle.rdf_terms.specs.declared.change.Change.TheVariants as change
use Rattle.rdf_terms.specs.declared.term.Term.{Term}
use Rattle.rdf_terms.specs.declared.term.Term.TheVariants as term
use Rattle.nquads_documents.proofs.LineLaws.{lines_apart}
use Rattle.patch_meaning.specs.Replay.{replay, replay_from}
use Rattle.generated_replay.specs.Meanings.{quad, meaning, meanings_from, meanings_to}
use Rattle.generated_replay.proofs.Values.{quad_value}

-- ---- a set of keys of which one comes or goes

abbrev one_if : Bool → ℕ
one_if b = cond b 1 0

module _ {K : Type 0} where
  count-cons : (p : K → Bool) (x : K) (xs : List K) → count_by p (x ∷ xs) ≡ cond (p x) 1 0 + count_by p xs
  count-cons p x xs = sum_by-cons (λ y. cond (p y) 1 0) x xs

  -- no key of the list is tied to this one
  abbrev IsNew : (K → K → Ordering) → K → List K → Type 0
  IsNew cmp k xs = All (λ x. is_at (cmp k) x ≡ false) xs

  module _ (cmp : K → K → Ordering) (k : K) where
    length_inserted : (xs : List K) → IsNew cmp k xs → length (insert_key cmp xs k) ≡ suc (length xs)
    length_inserted [] new = refl
    length_inserted (x ∷ xs) new =
        by (cmp k x) (All-head (λ y. is_at (cmp k) y ≡ false) x xs new) (length_inserted xs (All-tail (λ y. is_at (cmp k) y ≡ false) x xs new))
      where
        by : (r : Ordering) → is_eq r ≡ false → length (insert_key cmp xs k) ≡ suc (length xs)
            → length (match_ordering r (k ∷ x ∷ xs) (x ∷ xs) (x ∷ insert_key cmp xs k)) ≡ suc (suc (length xs))
        by Less e h = refl
        by Equal e h = absurd (true≢false e)
        by Greater e h = ap suc h

    count_inserted : (p : K → Bool) (xs : List K) → IsNew cmp k xs → count_by p (insert_key cmp xs k) ≡ cond (p k) 1 0 + count_by p xs
    count_inserted p [] new = count-cons p k []
    count_inserted p (x ∷ xs) new =
        by (cmp k x) (All-head (λ y. is_at (cmp k) y ≡ false) x xs new) (count_inserted p xs (All-tail (λ y. is_at (cmp k) y ≡ false) x xs new))
      where
        by : (r : Ordering) → is_eq r ≡ false → count_by p (insert_key cmp xs k) ≡ cond (p k) 1 0 + count_by p xs
            → count_by p (match_ordering r (k ∷ x ∷ xs) (x ∷ xs) (x ∷ insert_key cmp xs k)) ≡ cond (p k) 1 0 + count_by p (x ∷ xs)
        by Less e h = count-cons p k (x ∷ xs)
        by Equal e h = absurd (true≢false e)
        by Greater e h = omega (arith, h, count-cons p x xs, count-cons p x (insert_key cmp xs k))

  module _ (test : K → Bool) where
    -- one key passes the test: without it there is one less, and none passes
    length_removed : (xs : List K) → count_by test xs ≡ 1 → suc (length (remove_key test xs)) ≡ length xs
    length_removed [] one = absurd (omega (arith, one))
    length_removed (x ∷ xs) one = by (test x) refl (λ (behind : count_by test xs ≡ 1). length_removed xs behind)
      where
        by : (b : Bool) → test x ≡ b → (count_by test xs ≡ 1 → suc (length (remove_key test xs)) ≡ length xs)
            → suc (length (cond b xs (x ∷ remove_key test xs))) ≡ suc (length xs)
        by true e rest = refl
        by false e rest = ap suc (rest (omega (arith, one, count-cons test x xs, ap one_if e)))

    removed_once : (xs : List K) → count_by test xs ≡ 1 → count_by test (remove_key test xs) ≡ 0
    removed_once [] one = refl
    removed_once (x ∷ xs) one = by (test x) refl (λ (behind : count_by test xs ≡ 1). removed_once xs behind)
      where
        by : (b : Bool) → test x ≡ b → (count_by test xs ≡ 1 → count_by test (remove_key test xs) ≡ 0)
            → count_by test (cond b xs (x ∷ remove_key test xs)) ≡ 0
        by true e rest = omega (arith, one, count-cons test x xs, ap one_if e)
        by false e rest =
            let behind : count_by test xs ≡ 1 = omega (arith, one, count-cons test x xs, ap one_if e) in
            omega (arith, rest behind, count-cons test x (remove_key test xs), ap one_if e)

    -- whoever passes another test stays
    count_removed : (p : K → Bool) (xs : List K) → ((x : K) → test x ≡ true → p x ≡ false) → count_by p (remove_key test xs) ≡ count_by p xs
    count_removed p [] apart = refl
    count_removed p (x ∷ xs) apart = by (test x) refl (count_removed p xs apart)
      where
        by : (b : Bool) → test x ≡ b → count_by p (remove_key test xs) ≡ count_by p xs
            → count_by p (cond b xs (x ∷ remove_key test xs)) ≡ count_by p (x ∷ xs)
        by true e rest = omega (arith, count-cons p x xs, ap one_if (apart x e))
        by false e rest = omega (arith, rest, count-cons p x xs, count-cons p x (remove_key test xs))

-- ---- the quads of the stream differ

-- the quad of patch k stands there
abbrev at : ℕ → Statement → Bool
at k = is_at (line_cmp (quad k))

string_of : Term → List ℕ
string_of (term.Iri iri) = iri
string_of (term.Blank label) = label
string_of (term.Literal literal) = literal.lexical

line_tied : (p q : Statement) → is_at (line_cmp p) q ≡ true → line p ≡ line q
line_tied p q e = same_text (line p) (line q) (sym (texts_ties (line p) (line q) ∙ e))

at_one : (k j : ℕ) → k < 2 ^ 64 → j < 2 ^ 64 → at k (quad j) ≡ true → k ≡ j
unfolding string_of
at_one k j small low is =
    let same : quad k ≡ quad j = lines_apart (quad k) (quad j) [] (quad_value k small) (quad_value j low) (append-nil (line (quad k)) ∙ line_tied (quad k) (quad j) is) in
    decimal_injective k j small low (ap (λ (q : Statement). string_of q.object) same)

at_itself : (k : ℕ) → at k (quad k) ≡ true
at_itself k = ap is_eq (tied_itself nat_list_cmp_total (line (quad k)))

false_or : (b : Bool) → (b ≡ true → ⊥) → b ≡ false
false_or true never = absurd (never refl)
false_or false never = refl

at_other : (k j : ℕ) → k < 2 ^ 64 → j < 2 ^ 64 → k ≢ j → at k (quad j) ≡ false
at_other k j small low differ = false_or (at k (quad j)) (λ is. differ (at_one k j small low is))

-- ---- what stands

-- the quads of the patches behind one number and up to another, each once
record Stand (low high : ℕ) (quads : List Statement) : Type 0 where
  each : All (λ (q : Statement). (k : ℕ) × (low < k) × (k ≤ high) × (q ≡ quad k)) quads
  once : (k : ℕ) → low < k → k ≤ high → count_by (at k) quads ≡ 1
  size : length quads + low ≡ high

abbrev few : ℕ
few = 2 ^ 32

abbrev IsOneOf : ℕ → ℕ → Statement → Type 0
IsOneOf low high q = (k : ℕ) × (low < k) × (k ≤ high) × (q ≡ quad k)

one_of_more : (low high : ℕ) (xs : List Statement) → All (IsOneOf low high) xs → All (IsOneOf low (high + 1)) xs
one_of_more low high [] all = All-nil _
one_of_more low high (x ∷ xs) all =
    let one = All-head (IsOneOf low high) x xs all in
    All-cons (IsOneOf low (high + 1)) x xs (one.0, one.1, omega (arith, one.2), one.3) (one_of_more low high xs (All-tail (IsOneOf low high) x xs all))

none_tied : (low high : ℕ) (xs : List Statement) → high + 1 < few → All (IsOneOf low high) xs → IsNew line_cmp (quad (high + 1)) xs
none_tied low high [] small all = All-nil _
none_tied low high (x ∷ xs) small all =
    let one = All-head (IsOneOf low high) x xs all in
    let differ : high + 1 ≢ one.0 = λ e. omega (arith, one.2) in
    let fresh : at (high + 1) x ≡ false = ap (at (high + 1)) one.3 ∙ at_other (high + 1) one.0 (omega arith) (omega (arith, one.2)) differ in
    All-cons (λ (y : Statement). at (high + 1) y ≡ false) x xs fresh (none_tied low high xs small (All-tail (IsOneOf low high) x xs all))

none_counted : (low high : ℕ) (xs : List Statement) → IsNew line_cmp (quad (high + 1)) xs → count_by (at (high + 1)) xs ≡ 0
none_counted low high [] all = refl
none_counted low high (x ∷ xs) all =
    omega (arith, count-cons (at (high + 1)) x xs, ap one_if (All-head (λ (y : Statement). at (high + 1) y ≡ false) x xs all), none_counted low high xs (All-tail (λ (y : Statement). at (high + 1) y ≡ false) x xs all))

-- the next quad is a new one
added : (low high : ℕ) (xs : List Statement) → low ≤ high → high + 1 < few → Stand low high xs → Stand low (high + 1) (insert_key line_cmp xs (quad (high + 1)))
added low high xs order small s =
    let new = none_tied low high xs small s.each in
    record {
      each = All-insert_key line_cmp (quad (high + 1)) (IsOneOf low (high + 1)) xs (one_of_more low high xs s.each) (high + 1, omega arith, omega arith, refl);
      once = λ k above within. by k above within (cases_eq k (high + 1));
      size = omega (arith, s.size, length_inserted line_cmp (quad (high + 1)) xs new);
    }
  where
    by : (k : ℕ) → low < k → k ≤ high + 1 → (k ≡ high + 1) ⊎ (k ≢ high + 1) → count_by (at k) (insert_key line_cmp xs (quad (high + 1))) ≡ 1
    by k above within (inl same) =
        let new = none_tied low high xs small s.each in
        subst (λ (n : ℕ). count_by (at n) (insert_key line_cmp xs (quad (high + 1))) ≡ 1) (sym same)
        (omega (arith, count_inserted line_cmp (quad (high + 1)) (at (high + 1)) xs new, ap one_if (at_itself (high + 1)), none_counted low high xs new))
    by k above within (inr differ) =
        let new = none_tied low high xs small s.each in
        omega (arith, count_inserted line_cmp (quad (high + 1)) (at k) xs new, ap one_if (at_other k (high + 1) (omega arith) (omega arith) differ), s.once k above (omega (arith, differ)))

-- the first of those that stand goes
dropped : (low high : ℕ) (xs : List Statement) → low < high → high < few → Stand low high xs → Stand (low + 1) high (remove_key (at (low + 1)) xs)
dropped low high xs order small s =
    let one = s.once (low + 1) (omega arith) (omega arith) in
    record {
      each = others (remove_key (at (low + 1)) xs) (All-remove_key (at (low + 1)) (IsOneOf low high) xs s.each) (removed_once (at (low + 1)) xs one);
      once = λ k above within.
          count_removed (at (low + 1)) (at k) xs (apart k above within) ∙ s.once k (omega arith) within;
      size = omega (arith, s.size, length_removed (at (low + 1)) xs one);
    }
  where
    -- what is tied to the one isn't tied to another
    apart : (k : ℕ) → low + 1 < k → k ≤ high → (x : Statement) → at (low + 1) x ≡ true → at k x ≡ false
    apart k above within x is = false_or (at k x) (λ also.
        let first = line_tied (quad (low + 1)) x is in
        let second = line_tied (quad k) x also in
        let same : quad (low + 1) ≡ quad k = lines_apart (quad (low + 1)) (quad k) [] (quad_value (low + 1) (omega arith)) (quad_value k (omega arith)) (append-nil (line (quad (low + 1))) ∙ first ∙ sym second) in
        let number : low + 1 ≡ k = at_one (low + 1) k (omega arith) (omega arith) (subst (λ (q : Statement). at (low + 1) q ≡ true) same (at_itself (low + 1))) in
        omega (arith, number))

    others : (ys : List Statement) → All (IsOneOf low high) ys → count_by (at (low + 1)) ys ≡ 0 → All (IsOneOf (low + 1) high) ys
    others [] all none = All-nil _
    others (y ∷ ys) all none =
        let one = All-head (IsOneOf low high) y ys all in
        let count = count-cons (at (low + 1)) y ys in
        let differ : one.0 ≢ low + 1 = λ e.
        let tied : at (low + 1) y ≡ true = ap (at (low + 1)) (one.3 ∙ ap quad e) ∙ at_itself (low + 1) in
        omega (arith, none, count, ap one_if tied) in
        All-cons (IsOneOf (low + 1) high) y ys (one.0, omega (arith, one.1, differ), one.2, one.3)
        (others ys (All-tail (IsOneOf low high) y ys all) (omega (arith, none, count)))

-- ---- patches

-- one patch, whether it deletes a quad or not
patched_with : (third : Bool) (k : ℕ) (d : Dataset) → (k % 3 == 0) ≡ third → 1 ≤ k → k < few → Stand ((k - 1) / 3) (k - 1) d.quads → Stand (k / 3) k (apply (meaning k).changes d).quads
patched_with third k d is from small s = by third is
  where
    before : (k - 1) + 1 ≡ k
    before = omega arith

    more : Stand ((k - 1) / 3) k (insert_key line_cmp d.quads (quad k))
    more = subst (λ (n : ℕ). Stand ((k - 1) / 3) n (insert_key line_cmp d.quads (quad n))) before (added ((k - 1) / 3) (k - 1) d.quads (omega arith) (omega arith) s)

    applied : Bool → List Statement
    applied b = (apply (change.Begin ∷ change.Add (quad k) ∷ (cond b (change.Delete (quad (k / 3)) ∷ []) [] ++ change.Commit ∷ [])) d).quads

    by : (b : Bool) → (k % 3 == 0) ≡ b → Stand (k / 3) k (apply (meaning k).changes d).quads
    by true e =
        let zero_left : k % 3 ≡ 0 = eqb-true (k % 3) 0 e in
        let next : (k - 1) / 3 + 1 ≡ k / 3 = omega arith in
        let there = dropped ((k - 1) / 3) k (insert_key line_cmp d.quads (quad k)) (omega arith) small more in
        subst (λ b. Stand (k / 3) k (applied b)) (sym e)
        (subst (λ (n : ℕ). Stand n k (remove_key (at n) (insert_key line_cmp d.quads (quad k)))) next there)
    by false e =
        let some_left : k % 3 ≢ 0 = grind (arith, nat_tests) in
        let same : (k - 1) / 3 ≡ k / 3 = omega (arith, some_left) in
        subst (λ b. Stand (k / 3) k (applied b)) (sym e)
        (subst (λ (n : ℕ). Stand n k (insert_key line_cmp d.quads (quad k))) same more)

replayed_from : (count k : ℕ) (d : Dataset) → 1 ≤ k → k + count ≤ few → Stand ((k - 1) / 3) (k - 1) d.quads
    → Stand ((k + count - 1) / 3) (k + count - 1) (replay_from (meanings_from k count) d).quads
replayed_from zero k d from small s =
    let same : k - 1 ≡ k + 0 - 1 = omega arith in
    subst (λ (n : ℕ). Stand (n / 3) n d.quads) same s
replayed_from (suc count) k d from small s =
    let here : Stand ((k + 1 - 1) / 3) (k + 1 - 1) (apply (meaning k).changes d).quads =
    subst (λ (n : ℕ). Stand (n / 3) n (apply (meaning k).changes d).quads) (omega arith) (patched_with (k % 3 == 0) k d refl from (omega arith) s) in
    let same : k + 1 + count - 1 ≡ k + suc count - 1 = omega arith in
    subst (λ (n : ℕ). Stand (n / 3) n (replay_from (meanings_from k (suc count)) d).quads) same
    (replayed_from count (k + 1) (apply (meaning k).changes d) (omega arith) (omega arith) here)

none_yet : Stand ((1 - 1) / 3) (1 - 1) []
none_yet = record { each = All-nil _; once = λ k above within. absurd (omega arith); size = refl }

-- a third of the quads, rounded down, were deleted
pub quads_left : (n : ℕ) → n ≤ 65536 → length (replay (meanings_to n)).quads ≡ n - n / 3
quads_left n small =
    let s = replayed_from n 1 empty (omega arith) (omega arith) none_yet in
    let last : 1 + n - 1 ≡ n = omega arith in
    let there : Stand (n / 3) n (replay (meanings_to n)).quads = subst (λ (k : ℕ). Stand (k / 3) k (replay (meanings_to n)).quads) last s in
    omega (arith, there.size)

-- Runs of bytes that stand for themselves.
use Rattle.std.proofs.Common.{◌≡◌, ℕ, ◌+◌, ◌-◌, ◌<◌, ◌≤◌, Bool, true, false, List, ◌∷◌, [], ◌++◌, length, take, drop, take-add, get_or, map, nat_eq, IsTrue, refl, sym, ap, subst, ◌∙◌, ⊎_elim, arith}
use Rattle.std.specs.List.{list_all, slice_range, range_with_len}
use Rattle.std.proofs.lemmas.Bool.{and_parts, cases_lt, eqb-true, false≢true}
use Rattle.std.proofs.lemmas.List.{drop-drop, get_or_past}
use Rattle.std.proofs.lemmas.List.Edits.{between_more, between_none, length-between, get_or-between}
use Rattle.std.proofs.lemmas.List.Folds.{list_all-append, list_all_at}
use Rattle.std.proofs.lemmas.List.FromFn.{get_or-map-range_with_len}
use Rattle.nquads_text.specs.Reading.{is_at_home}

-- what stands between places, in two parts
pub slices_joined : (text : List ℕ) (at mid end : ℕ) → at ≤ mid → mid ≤ end → slice_range text at end ≡ slice_range text at mid ++ slice_range text mid end
slices_joined text at mid end low high =
    let sum : end - at ≡ (mid - at) + (end - mid) = omega arith in
    let back : at + (mid - at) ≡ mid = omega arith in
    let there : drop (mid - at) (drop at text) ≡ drop mid text = drop-drop (mid - at) at text ∙ ap (λ (k : ℕ). drop k text) back in
    ap (λ (k : ℕ). take k (drop at text)) sum ∙ take-add (mid - at) (end - mid) (drop at text) ∙ ap (λ (t : List ℕ). take (mid - at) (drop at text) ++ take (end - mid) t) there

-- a table of the bytes that pass a test, each at its own place
pub table_tells : (table : List ℕ) (test : ℕ → Bool) (b : ℕ) → map (λ (i : ℕ). nat_eq (get_or table i 0) i) (range_with_len 0 256) ≡ map test (range_with_len 0 256) → b < 256 → is_at_home table b ≡ test b
unfolding is_at_home
table_tells table test b e lt =
    let tells : (check : ℕ → Bool) → get_or (map check (range_with_len 0 256)) b Bool.false ≡ check b = λ check. get_or-map-range_with_len check 0 256 b b Bool.false lt (omega arith) in
    sym (tells (λ (i : ℕ). nat_eq (get_or table i 0) i)) ∙ ap (λ (t : List Bool). get_or t b Bool.false) e ∙ tells test

-- one more byte of a run
pub run_more : (test : ℕ → Bool) (text : List ℕ) (at i : ℕ) → at ≤ i → i < length text → IsTrue (list_all test (slice_range text at i)) → test (get_or text i 0) ≡ true
    → IsTrue (list_all test (slice_range text at (i + 1)))
run_more test text at i le lt all one =
    let joined : list_all test (slice_range text at (i + 1)) ≡ list_all test (slice_range text at i ++ get_or text i 0 ∷ []) = ap (list_all test) (between_more text at i 0 le lt) in
    joined ∙ list_all-append test (slice_range text at i) (get_or text i 0 ∷ []) ∙ rw (all, one) refl

-- the same up to a place
run_to : (test : ℕ → Bool) (text : List ℕ) (at i j : ℕ) → j ≡ i + 1 → at ≤ i → i < length text → IsTrue (list_all test (slice_range text at i)) → test (get_or text i 0) ≡ true
    → IsTrue (list_all test (slice_range text at j))
run_to test text at i j is le lt all one = subst (λ (k : ℕ). IsTrue (list_all test (slice_range text at k))) (sym is) (run_more test text at i le lt all one)

-- eight bytes more
pub run_eight : (test : ℕ → Bool) (text : List ℕ) (at : ℕ) → at + 8 ≤ length text → test (get_or text at 0) ≡ true → test (get_or text (at + 1) 0) ≡ true → test (get_or text (at + 2) 0) ≡ true
    → test (get_or text (at + 3) 0) ≡ true → test (get_or text (at + 4) 0) ≡ true → test (get_or text (at + 5) 0) ≡ true → test (get_or text (at + 6) 0) ≡ true → test (get_or text (at + 7) 0) ≡ true
    → IsTrue (list_all test (slice_range text at (at + 8)))
run_eight test text at high a b c d e f g h =
    let none : IsTrue (list_all test (slice_range text at at)) = ap (list_all test) (between_none text at) in
    let one = run_to test text at at (at + 1) refl (omega arith) (omega arith) none a in
    let two = run_to test text at (at + 1) (at + 2) (omega arith) (omega arith) (omega arith) one b in
    let three = run_to test text at (at + 2) (at + 3) (omega arith) (omega arith) (omega arith) two c in
    let four = run_to test text at (at + 3) (at + 4) (omega arith) (omega arith) (omega arith) three d in
    let five = run_to test text at (at + 4) (at + 5) (omega arith) (omega arith) (omega arith) four e in
    let six = run_to test text at (at + 5) (at + 6) (omega arith) (omega arith) (omega arith) five f in
    let seven = run_to test text at (at + 6) (at + 7) (omega arith) (omega arith) (omega arith) six g in
    run_to test text at (at + 7) (at + 8) (omega arith) (omega arith) (omega arith) seven h

-- one run behind another
pub run_joined : (test : ℕ → Bool) (text : List ℕ) (at i j : ℕ) → at ≤ i → i ≤ j → j ≤ length text → IsTrue (list_all test (slice_range text at i)) → IsTrue (list_all test (slice_range text i j))
    → IsTrue (list_all test (slice_range text at j))
run_joined test text at i j low mid high front back =
    ap (list_all test) (slices_joined text at i j low mid) ∙ list_all-append test (slice_range text at i) (slice_range text i j) ∙ rw (front, back) refl

-- bytes at their own places in a table of those that pass a test pass it
pub home_passes : (table : List ℕ) (test : ℕ → Bool) → map (λ (i : ℕ). nat_eq (get_or table i 0) i) (range_with_len 0 256) ≡ map test (range_with_len 0 256) → length table ≡ 256 → (bytes : List ℕ)
    → IsTrue (list_all (is_at_home table) bytes) → IsTrue (list_all test bytes)
unfolding is_at_home
home_passes table test e size [] all = refl
home_passes table test e size (b ∷ bytes) all =
    let p = and_parts (is_at_home table b) (list_all (is_at_home table) bytes) all in
    rw (⊎_elim (λ lt. sym (table_tells table test b e lt) ∙ p.0) (λ le. absurd (far le p.0)) (cases_lt b 256)) (home_passes table test e size bytes p.1)
  where
    far : 256 ≤ b → is_at_home table b ≡ true → ⊥
    far le home =
        let none : get_or table b 0 ≡ 0 = get_or_past table b 0 (omega (arith, size)) in
        let is : get_or table b 0 ≡ b = eqb-true (get_or table b 0) b home in
        omega (arith, none, is)

-- each byte of a run
pub run_each : (test : ℕ → Bool) (text : List ℕ) (at end : ℕ) → end ≤ length text → IsTrue (list_all test (slice_range text at end)) → (k : ℕ) → at ≤ k → k < end → IsTrue (test (get_or text k 0))
run_each test text at end high all k le lt = by (test (get_or text k 0)) refl
  where
    there : get_or (slice_range text at end) (k - at) 0 ≡ get_or text k 0
    there = get_or-between text at end (k - at) 0 (omega arith) ∙ ap (λ (j : ℕ). get_or text j 0) (omega arith)

    by : (is : Bool) → test (get_or text k 0) ≡ is → IsTrue is
    by true e = refl
    by false e =
        let inside : k - at < length (slice_range text at end) = omega (arith, length-between text at end high) in
        absurd (false≢true (sym (list_all_at test (slice_range text at end) (k - at) 0 inside (ap test there ∙ e)) ∙ all))

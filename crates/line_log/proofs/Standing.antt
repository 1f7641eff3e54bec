-- Of the edits of a line the last one decides whether it stands.
use Rattle.std.proofs.Common.{◌≡◌, ℕ, Bool, true, false, cond, not, ◌&&◌, ◌||◌, List, [], ◌∷◌, refl, sym, ap, ◌∙◌}
use Rattle.std.specs.BTreeMap.{is_at}
use Rattle.std.specs.Cmp.Lexicographic.{slice_cmp, nat_list_cmp_total}
use Rattle.std.specs.List.{filter}
use Rattle.std.specs.List.Sorted.{IsStrictlySortedBy}
use Rattle.std.specs.Ordering.{eq_by_cmp, nat_cmp}
use Rattle.std.proofs.lemmas.Map.Lookups.{exact_bytes}
use Rattle.line_log.specs.Edits.{edit_lines, edited, made}
use Rattle.line_log.proofs.Sets.{has, has-insert, has-remove, rising-insert, rising-remove, same_set}

-- whether two lines are the same
abbrev pub same : List ℕ → List ℕ → Bool
same = eq_by_cmp (slice_cmp nat_cmp)

-- lines in the order of their bytes, each once
abbrev pub AreRising : List (List ℕ) → Type 0
AreRising lines = IsStrictlySortedBy (slice_cmp nat_cmp) lines

abbrev is_line : List ℕ → List (List ℕ) → Bool
is_line = has nat_list_cmp_total

-- whether a line stands after edits, where it did or didn't before
abbrev pub stands : List ℕ → Bool → List (Bool × List ℕ) → Bool
stands q was [] = was
stands q was (e ∷ es) = stands q (cond (same q e.1) e.0 was) es

or_cond : (b c : Bool) → (b || c) ≡ cond b true c
or_cond true c = refl
or_cond false c = refl

and_cond : (b c : Bool) → (not b && c) ≡ cond b false c
and_cond true c = refl
and_cond false c = refl

rising_edit : (e : Bool × List ℕ) (lines : List (List ℕ)) → AreRising lines → AreRising (edit_lines e lines)
rising_edit (true, l) lines s = rising-insert nat_list_cmp_total l lines s
rising_edit (false, l) lines s = rising-remove nat_list_cmp_total (is_at (slice_cmp nat_cmp l)) lines s

is_edited : (e : Bool × List ℕ) (q : List ℕ) (lines : List (List ℕ)) → AreRising lines → is_line q (edit_lines e lines) ≡ cond (same q e.1) e.0 (is_line q lines)
is_edited (true, l) q lines s = has-insert nat_list_cmp_total l q lines ∙ or_cond (same q l) (is_line q lines)
is_edited (false, l) q lines s = has-remove nat_list_cmp_total l q lines s ∙ and_cond (same q l) (is_line q lines)

rising_edited : (es : List (Bool × List ℕ)) (lines : List (List ℕ)) → AreRising lines → AreRising (edited es lines)
rising_edited [] lines s = s
rising_edited (e ∷ es) lines s = rising_edited es (edit_lines e lines) (rising_edit e lines s)

has_edited : (es : List (Bool × List ℕ)) (q : List ℕ) (lines : List (List ℕ)) → AreRising lines → is_line q (edited es lines) ≡ stands q (is_line q lines) es
has_edited [] q lines s = refl
has_edited (e ∷ es) q lines s = has_edited es q (edit_lines e lines) (rising_edit e lines s) ∙ ap (λ b. stands q b es) (is_edited e q lines s)

no_lines : AreRising []
unfolding IsStrictlySortedBy
no_lines = tt

pub rising_made : (es : List (Bool × List ℕ)) → AreRising (made es)
rising_made es = rising_edited es [] no_lines

pub same_made : (es fs : List (Bool × List ℕ)) → ((q : List ℕ) → stands q false es ≡ stands q false fs) → made es ≡ made fs
same_made es fs h = same_set nat_list_cmp_total exact_bytes (made es) (made fs) (rising_made es) (rising_made fs) (λ q. has_edited es q [] no_lines ∙ h q ∙ sym (has_edited fs q [] no_lines))

-- the edits of a line alone decide of it
pub stands_only : (q : List ℕ) (was : Bool) (es : List (Bool × List ℕ)) → stands q was es ≡ stands q was (filter (λ e. same q e.1) es)
stands_only q was [] = refl
stands_only q was (e ∷ es) = by _ (same q e.1) refl (stands_only q e.0 es) (stands_only q was es)
  where
    by : (only : List (Bool × List ℕ)) (b : Bool) → same q e.1 ≡ b → stands q e.0 es ≡ stands q e.0 only → stands q was es ≡ stands q was only
        → stands q (cond b e.0 was) es ≡ stands q was (cond b (e ∷ only) only)
    by only true g h k = h ∙ ap (λ b. stands q (cond b e.0 was) only) (sym g)
    by only false g h k = k

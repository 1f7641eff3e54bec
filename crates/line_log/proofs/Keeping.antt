-- What edits make that are sorted by their lines: the line of the last edit of each, where that one adds.
use Rattle.std.proofs.Common.{◌≡◌, ℕ, Bool, true, false, cond, not, ◌&&◌, List, [], ◌∷◌, ◌++◌, refl, sym, ap, ◌∙◌, append_assoc, append-nil}
use Rattle.std.specs.BTreeMap.{is_at}
use Rattle.std.specs.BTreeSet.{insert_key}
use Rattle.std.specs.Cmp.{alike_right}
use Rattle.std.specs.Cmp.Lexicographic.{slice_cmp, nat_list_cmp_total}
use Rattle.std.specs.List.{AllByRecursion}
use Rattle.std.specs.List.Sorted.{IsStrictlySortedBy}
use Rattle.std.specs.Ordering.{is_eq, match_ordering, nat_cmp, ordering_reverse, ordering_then}
use Rattle.std.specs.Set.{remove_key}
use Rattle.std.specs.declared.cmp.Ordering.{Ordering}
use Rattle.std.specs.declared.cmp.Ordering.TheVariants.{Less, Equal, Greater}
use Rattle.std.proofs.lemmas.Cmp.{tied_itself}
use Rattle.std.proofs.lemmas.Map.Lookups.{exact_bytes}
use Rattle.line_log.specs.Edits.{edit_lines, edited, made}
use Rattle.line_log.specs.Sorting.{additions, edits_at, keep, numbered_cmp}
use Rattle.line_log.proofs.Sets.{all_more, equal}
use Rattle.line_log.proofs.Standing.{AreRising, rising_made, same}

abbrev cmp : List ℕ → List ℕ → Ordering
cmp = slice_cmp nat_cmp

-- ---- a line behind all others

-- a line is behind all of these
abbrev IsBehind : List ℕ → List (List ℕ) → Type 0
IsBehind l lines = AllByRecursion (λ k. cmp l k ≡ Greater) lines

itself : (l : List ℕ) → cmp l l ≡ Equal
itself l = tied_itself nat_list_cmp_total l

insert_behind : (l : List ℕ) (lines : List (List ℕ)) → IsBehind l lines → insert_key cmp lines l ≡ lines ++ l ∷ []
insert_behind l [] h = refl
insert_behind l (k ∷ lines) h =
    ap (λ r. match_ordering r (l ∷ k ∷ lines) (k ∷ lines) (k ∷ insert_key cmp lines l)) h.0 ∙ ap (λ (ls : List (List ℕ)). k ∷ ls) (insert_behind l lines h.1)

insert_last : (l : List ℕ) (lines : List (List ℕ)) → IsBehind l lines → insert_key cmp (lines ++ l ∷ []) l ≡ lines ++ l ∷ []
insert_last l [] h = ap (λ r. match_ordering r (l ∷ l ∷ []) (l ∷ []) (l ∷ insert_key cmp [] l)) (itself l)
insert_last l (k ∷ lines) h =
    ap (λ r. match_ordering r (l ∷ k ∷ (lines ++ l ∷ [])) (k ∷ (lines ++ l ∷ [])) (k ∷ insert_key cmp (lines ++ l ∷ []) l)) h.0
    ∙ ap (λ (ls : List (List ℕ)). k ∷ ls) (insert_last l lines h.1)

remove_behind : (l : List ℕ) (lines : List (List ℕ)) → IsBehind l lines → remove_key (is_at (cmp l)) lines ≡ lines
remove_behind l [] h = refl
remove_behind l (k ∷ lines) h =
    ap (λ r. cond (is_eq r) lines (k ∷ remove_key (is_at (cmp l)) lines)) h.0 ∙ ap (λ (ls : List (List ℕ)). k ∷ ls) (remove_behind l lines h.1)

remove_last : (l : List ℕ) (lines : List (List ℕ)) → IsBehind l lines → remove_key (is_at (cmp l)) (lines ++ l ∷ []) ≡ lines
remove_last l [] h = ap (λ r. cond (is_eq r) [] (l ∷ [])) (itself l)
remove_last l (k ∷ lines) h =
    ap (λ r. cond (is_eq r) (lines ++ l ∷ []) (k ∷ remove_key (is_at (cmp l)) (lines ++ l ∷ []))) h.0 ∙ ap (λ (ls : List (List ℕ)). k ∷ ls) (remove_last l lines h.1)

-- of two edits of a line behind all others the second decides
twice : (b : Bool) (l : List ℕ) (lines : List (List ℕ)) → IsBehind l lines → edit_lines (b, l) (lines ++ l ∷ []) ≡ edit_lines (b, l) lines
twice true l lines h = insert_last l lines h ∙ sym (insert_behind l lines h)
twice false l lines h = remove_last l lines h ∙ sym (remove_behind l lines h)

-- ---- edits whose lines don't fall

-- no edit has a line behind that of a later one
abbrev pub Rises : List (Bool × List ℕ) → Type 0
Rises [] = Unit {0}
Rises (e ∷ es) = AllByRecursion (λ f. cmp e.1 f.1 ≡ Greater → ⊥) es × Rises es

-- each of these edits is behind all of these lines
abbrev Follow : List (List ℕ) → List (Bool × List ℕ) → Type 0
Follow lines es = AllByRecursion (λ e. IsBehind e.1 lines) es

behind_more : (l k : List ℕ) (lines : List (List ℕ)) → IsBehind l lines → cmp k l ≡ Less → IsBehind l (lines ++ k ∷ [])
behind_more l k [] h less = (nat_list_cmp_total.antisymm l k ∙ ap ordering_reverse less, tt)
behind_more l k (j ∷ lines) h less = (h.0, behind_more l k lines h.1 less)

follow_more : (k : List ℕ) (lines : List (List ℕ)) (es : List (Bool × List ℕ)) → Follow lines es → AllByRecursion (λ e. cmp k e.1 ≡ Less) es → Follow (lines ++ k ∷ []) es
follow_more k lines [] f a = tt
follow_more k lines (e ∷ es) f a = (behind_more e.1 k lines f.0 a.0, follow_more k lines es f.1 a.1)

-- a line below the first is below those behind it
pub less_on : (k l m : List ℕ) → cmp k l ≡ Less → (cmp l m ≡ Greater → ⊥) → cmp k m ≡ Less
less_on k l m less up = by (cmp l m) refl
  where
    by : (r : Ordering) → cmp l m ≡ r → cmp k m ≡ Less
    by Less e = nat_list_cmp_total.trans k l m less e
    by Equal e = sym (alike_right nat_list_cmp_total l m k e) ∙ less
    by Greater e = absurd (up e)

less_all : (k l : List ℕ) (es : List (Bool × List ℕ)) → cmp k l ≡ Less → AllByRecursion (λ f. cmp l f.1 ≡ Greater → ⊥) es → AllByRecursion (λ e. cmp k e.1 ≡ Less) es
less_all k l es less up = all_more (λ f. cmp l f.1 ≡ Greater → ⊥) (λ e. cmp k e.1 ≡ Less) (λ f h. less_on k l f.1 less h) es up

less_than : (k l : List ℕ) → (cmp k l ≡ Greater → ⊥) → same k l ≡ false → cmp k l ≡ Less
less_than k l up e = by (cmp k l) refl e
  where
    by : (r : Ordering) → cmp k l ≡ r → is_eq r ≡ false → r ≡ Less
    by Less g h = refl
    by Equal g h = absurd cc
    by Greater g h = absurd (up g)

-- what sorted edits make of lines that are all before theirs
pub edited_keep : (es : List (Bool × List ℕ)) (lines : List (List ℕ)) → Rises es → Follow lines es → edited es lines ≡ lines ++ keep es
edited_keep [] lines r f = sym (append-nil lines)
edited_keep ((false, l) ∷ es) lines r f = ap (edited es) (remove_behind l lines f.0) ∙ edited_keep es lines r.1 f.1
edited_keep ((true, l) ∷ []) lines r f = insert_behind l lines f.0
edited_keep ((true, l) ∷ (b, m) ∷ es) lines r f =
    ap (λ (ls : List (List ℕ)). edited es (edit_lines (b, m) ls)) (insert_behind l lines f.0) ∙ by (same l m) refl (edited_keep ((b, m) ∷ es) lines r.1 f.1) (edited_keep ((b, m) ∷ es) (lines ++ l ∷ []) r.1)
  where
    by : (t : Bool) → same l m ≡ t → edited ((b, m) ∷ es) lines ≡ lines ++ keep ((b, m) ∷ es) → (Follow (lines ++ l ∷ []) ((b, m) ∷ es) → edited ((b, m) ∷ es) (lines ++ l ∷ []) ≡ (lines ++ l ∷ []) ++ keep ((b, m) ∷ es))
        → edited es (edit_lines (b, m) (lines ++ l ∷ [])) ≡ lines ++ cond (true && not t) (l ∷ keep ((b, m) ∷ es)) (keep ((b, m) ∷ es))
    by true g h k =
        let one : l ≡ m = exact_bytes l m (equal (cmp l m) g) in
        ap (λ (n : List ℕ). edited es (edit_lines (b, m) (lines ++ n ∷ []))) one ∙ ap (edited es) (twice b m lines f.1.0) ∙ h
    by false g h k =
        let less = less_than l m r.0.0 g in
        k (follow_more l lines ((b, m) ∷ es) f.1 (less, less_all l m es less r.1.0)) ∙ append_assoc lines (l ∷ []) (keep ((b, m) ∷ es))

no_lines : (es : List (Bool × List ℕ)) → Follow [] es
no_lines [] = tt
no_lines (e ∷ es) = (tt, no_lines es)

pub made_keep : (es : List (Bool × List ℕ)) → Rises es → made es ≡ keep es
made_keep es r = edited_keep es [] r (no_lines es)

-- ---- rows in order

not_greater : (r s : Ordering) → ordering_then r s ≡ Less → r ≡ Greater → ⊥
not_greater Less s e g = absurd cc
not_greater Equal s e g = absurd cc
not_greater Greater s e g = absurd cc

pub rows_rise : (es : List (Bool × List ℕ)) (rows : List (List ℕ × ℕ)) → IsStrictlySortedBy numbered_cmp rows → Rises (edits_at es rows)
unfolding IsStrictlySortedBy
rows_rise es [] s = tt
rows_rise es (x ∷ rows) s = (all_up rows s.0, rows_rise es rows s.1)
  where
    all_up : (ys : List (List ℕ × ℕ)) → AllByRecursion (λ y. numbered_cmp x y ≡ Less) ys → AllByRecursion (λ f. cmp x.0 f.1 ≡ Greater → ⊥) (edits_at es ys)
    all_up [] a = tt
    all_up (y ∷ ys) a = (not_greater (cmp x.0 y.0) (nat_cmp x.1 y.1) a.0, all_up ys a.1)

-- ---- lines that were kept

apart : (l m : List ℕ) → cmp l m ≡ Less → same l m ≡ false
apart l m less = ap is_eq less

pub keep_added : (lines : List (List ℕ)) → AreRising lines → keep (additions lines) ≡ lines
unfolding IsStrictlySortedBy
keep_added [] s = refl
keep_added (l ∷ []) s = refl
keep_added (l ∷ m ∷ lines) s =
    ap (λ (t : Bool). cond (true && not t) (l ∷ keep (additions (m ∷ lines))) (keep (additions (m ∷ lines)))) (apart l m s.0.0) ∙ ap (λ (ls : List (List ℕ)). l ∷ ls) (keep_added (m ∷ lines) s.1)

pub added_rise : (lines : List (List ℕ)) → AreRising lines → Rises (additions lines)
unfolding IsStrictlySortedBy
added_rise [] s = tt
added_rise (l ∷ lines) s = (all_up lines s.0, added_rise lines s.1)
  where
    all_up : (ks : List (List ℕ)) → AllByRecursion (λ k. cmp l k ≡ Less) ks → AllByRecursion (λ f. cmp l f.1 ≡ Greater → ⊥) (additions ks)
    all_up [] a = tt
    all_up (k ∷ ks) a = ((λ g. absurd cc), all_up ks a.1)

-- lines in order are made by adding each
pub made_added : (lines : List (List ℕ)) → AreRising lines → made (additions lines) ≡ lines
made_added lines s = made_keep (additions lines) (added_rise lines s) ∙ keep_added lines s

-- what stays of edits makes their lines
pub made_settled : (es : List (Bool × List ℕ)) → made (additions (made es)) ≡ made es
made_settled es = made_added (made es) (rising_made es)

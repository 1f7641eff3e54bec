-- What a dataset has at each key, and that this tells the dataset.
use Rattle.std.proofs.Common.{◌≡◌, ℕ, Bool, true, false, cond, not, ◌&&◌, ◌||◌, List, [], ◌∷◌, ◌++◌, map, Option, None, Some, refl, sym, ap, subst, ◌∙◌}
use mathlib.Core.Bool.{true≢false}
use Rattle.std.specs.List.{AllByRecursion, list_any}
use Rattle.std.specs.List.Sorted.{IsStrictlySortedBy}
use Rattle.std.specs.Cmp.{IsTotalOrder, IsEquivalence, eq_by_cmp_equiv, on_total}
use Rattle.std.specs.Cmp.Lexicographic.{slice_cmp, nat_list_cmp_total}
use Rattle.std.specs.Ordering.{eq_by_cmp, nat_cmp}
use Rattle.std.specs.declared.cmp.Ordering.TheVariants.{Less, Equal, Greater}
use Rattle.std.specs.BTreeMap.{is_at}
use Rattle.std.specs.Map.{keys_of, lookup}
use Rattle.rdf_terms.specs.Dataset.{Dataset, PrefixKey, prefix_cmp, effect, effects}
use Rattle.rdf_terms.specs.Line.{line, line_cmp, quoted, graph_text}
use Rattle.rdf_terms.specs.Quad.{Statement}
use Rattle.rdf_terms.specs.declared.change.Change.{Change}
use Rattle.rdf_terms.specs.declared.change.Change.TheVariants.{Add, Delete, PrefixAdd, PrefixDelete, Begin, Commit, Abort}
use Rattle.net_changes.specs.Writes.{last_value}
use Rattle.net_changes.specs.Keys.{ChangeKey, of_quad, of_prefix, of_nothing, change_key, same_key, has_quad, iri_of, value_at, left_by}
use Rattle.net_changes.specs.Values.{IsInOrder, HasSuch, NamesSuch}
use Rattle.net_changes.proofs.Maps.{all_inserted, all_removed, keys_inserted, keys_removed, at_inserted, at_removed, at_alike, one_map, entries, keys_entries, lookup_entries}
use Rattle.net_changes.proofs.Sets.{has-insert, has-remove, rising-insert, rising-remove}

pub line_total : IsTotalOrder line_cmp
line_total = on_total line nat_list_cmp_total

abbrev prefix_bytes : PrefixKey → List ℕ
prefix_bytes key = quoted key.1 ++ graph_text key.0

pub prefix_total : IsTotalOrder prefix_cmp
prefix_total = on_total prefix_bytes nat_list_cmp_total

-- ---- keys

abbrev line_laws : IsEquivalence (eq_by_cmp line_cmp)
line_laws = eq_by_cmp_equiv line_total

abbrev prefix_laws : IsEquivalence (eq_by_cmp prefix_cmp)
prefix_laws = eq_by_cmp_equiv prefix_total

key_refl : (k : ChangeKey) → same_key k k ≡ true
key_refl (of_quad q) = line_laws.refl q
key_refl (of_prefix p) = prefix_laws.refl p
key_refl of_nothing = refl

key_symm : (k l : ChangeKey) → same_key k l ≡ same_key l k
key_symm (of_quad q) (of_quad r) = line_laws.symm q r
key_symm (of_quad q) (of_prefix p) = refl
key_symm (of_quad q) of_nothing = refl
key_symm (of_prefix p) (of_quad q) = refl
key_symm (of_prefix p) (of_prefix r) = prefix_laws.symm p r
key_symm (of_prefix p) of_nothing = refl
key_symm of_nothing (of_quad q) = refl
key_symm of_nothing (of_prefix p) = refl
key_symm of_nothing of_nothing = refl

key_congr : (k l m : ChangeKey) → same_key k l ≡ true → same_key k m ≡ same_key l m
key_congr (of_quad q) (of_quad r) (of_quad s) e = line_laws.congr q r s e
key_congr (of_quad q) (of_quad r) (of_prefix p) e = refl
key_congr (of_quad q) (of_quad r) of_nothing e = refl
key_congr (of_quad q) (of_prefix p) m e = absurd (true≢false (sym e))
key_congr (of_quad q) of_nothing m e = absurd (true≢false (sym e))
key_congr (of_prefix p) (of_quad q) m e = absurd (true≢false (sym e))
key_congr (of_prefix p) (of_prefix r) (of_quad q) e = refl
key_congr (of_prefix p) (of_prefix r) (of_prefix s) e = prefix_laws.congr p r s e
key_congr (of_prefix p) (of_prefix r) of_nothing e = refl
key_congr (of_prefix p) of_nothing m e = absurd (true≢false (sym e))
key_congr of_nothing (of_quad q) m e = absurd (true≢false (sym e))
key_congr of_nothing (of_prefix p) m e = absurd (true≢false (sym e))
key_congr of_nothing of_nothing m e = refl

pub key_laws : IsEquivalence same_key
key_laws = record { refl = key_refl; symm = key_symm; congr = key_congr }

-- ---- what a change does at each key

or_held : (a b : Bool) (v : Option (List ℕ)) → cond (a || b) v None ≡ cond a v (cond b v None)
or_held true b v = refl
or_held false b v = refl

and_held : (a b : Bool) (v : Option (List ℕ)) → cond (not a && b) v None ≡ cond a None (cond b v None)
and_held true b v = refl
and_held false b v = refl

pub stands : (c : Change) (d : Dataset) → IsInOrder d → (k : ChangeKey) → value_at (effect c d) k ≡ cond (same_key (change_key c) k) (left_by c) (value_at d k)
stands (Add q) d o (of_quad r) =
    ap (λ b. cond b (Some []) None) (has-insert line_total q r d.quads) ∙ or_held (eq_by_cmp line_cmp r q) (has_quad d r) (Some [])
    ∙ ap (λ b. cond b (Some []) (cond (has_quad d r) (Some []) None)) (line_laws.symm r q)
stands (Add q) d o (of_prefix p) = refl
stands (Add q) d o of_nothing = refl
stands (Delete q) d o (of_quad r) =
    ap (λ b. cond b (Some []) None) (has-remove line_total q r d.quads o.quads_rise) ∙ and_held (eq_by_cmp line_cmp r q) (has_quad d r) (Some [])
    ∙ ap (λ b. cond b None (cond (has_quad d r) (Some []) None)) (line_laws.symm r q)
stands (Delete q) d o (of_prefix p) = refl
stands (Delete q) d o of_nothing = refl
stands (PrefixAdd p i g) d o (of_quad r) = refl
stands (PrefixAdd p i g) d o (of_prefix r) = at_inserted prefix_total r (g, p) i d.prefixes
stands (PrefixAdd p i g) d o of_nothing = refl
stands (PrefixDelete p g) d o (of_quad r) = refl
stands (PrefixDelete p g) d o (of_prefix r) = at_removed prefix_total r (g, p) d.prefixes o.prefixes_rise
stands (PrefixDelete p g) d o of_nothing = refl
stands Begin d o (of_quad r) = refl
stands Begin d o (of_prefix r) = refl
stands Begin d o of_nothing = refl
stands Commit d o (of_quad r) = refl
stands Commit d o (of_prefix r) = refl
stands Commit d o of_nothing = refl
stands Abort d o (of_quad r) = refl
stands Abort d o (of_prefix r) = refl
stands Abort d o of_nothing = refl

pub in_order_still : (c : Change) (d : Dataset) → IsInOrder d → IsInOrder (effect c d)
in_order_still (Add q) d o = record { quads_rise = rising-insert line_total q d.quads o.quads_rise; prefixes_rise = o.prefixes_rise }
in_order_still (Delete q) d o = record { quads_rise = rising-remove line_total (is_at (line_cmp q)) d.quads o.quads_rise; prefixes_rise = o.prefixes_rise }
in_order_still (PrefixAdd p i g) d o = record {
  quads_rise = o.quads_rise;
  prefixes_rise = subst (IsStrictlySortedBy prefix_cmp) (sym (keys_inserted prefix_cmp d.prefixes (g, p) i)) (rising-insert prefix_total (g, p) (keys_of d.prefixes) o.prefixes_rise);
}
in_order_still (PrefixDelete p g) d o = record {
  quads_rise = o.quads_rise;
  prefixes_rise = subst (IsStrictlySortedBy prefix_cmp) (sym (keys_removed (is_at (prefix_cmp (g, p))) d.prefixes)) (rising-remove prefix_total (is_at (prefix_cmp (g, p))) (keys_of d.prefixes) o.prefixes_rise);
}
in_order_still Begin d o = o
in_order_still Commit d o = o
in_order_still Abort d o = o

pub in_order_behind : (cs : List Change) (d : Dataset) → IsInOrder d → IsInOrder (effects cs d)
in_order_behind [] d o = o
in_order_behind (c ∷ cs) d o = in_order_behind cs (effect c d) (in_order_still c d o)

-- what changes leave at each key
pub stand_behind : (cs : List Change) (d : Dataset) → IsInOrder d → (k : ChangeKey) → value_at (effects cs d) k ≡ last_value change_key left_by same_key k (value_at d k) cs
stand_behind [] d o k = refl
stand_behind (c ∷ cs) d o k =
    stand_behind cs (effect c d) (in_order_still c d o) k ∙ ap (λ v. last_value change_key left_by same_key k v cs) (stands c d o k)

any_alike : (q r : Statement) (qs : List Statement) → eq_by_cmp line_cmp q r ≡ true → list_any (is_at (line_cmp q)) qs ≡ list_any (is_at (line_cmp r)) qs
any_alike q r [] e = refl
any_alike q r (s ∷ qs) e = ap (λ b. b || list_any (is_at (line_cmp q)) qs) (line_laws.congr q r s e) ∙ ap (λ b. eq_by_cmp line_cmp r s || b) (any_alike q r qs e)

pub stand_alike : (d : Dataset) (k l : ChangeKey) → same_key k l ≡ true → value_at d k ≡ value_at d l
stand_alike d (of_quad q) (of_quad r) e = ap (λ b. cond b (Some []) None) (any_alike q r d.quads e)
stand_alike d (of_quad q) (of_prefix p) e = absurd (true≢false (sym e))
stand_alike d (of_quad q) of_nothing e = absurd (true≢false (sym e))
stand_alike d (of_prefix p) (of_quad q) e = absurd (true≢false (sym e))
stand_alike d (of_prefix p) (of_prefix r) e = at_alike prefix_total p r d.prefixes e
stand_alike d (of_prefix p) of_nothing e = absurd (true≢false (sym e))
stand_alike d of_nothing (of_quad q) e = absurd (true≢false (sym e))
stand_alike d of_nothing (of_prefix p) e = absurd (true≢false (sym e))
stand_alike d of_nothing of_nothing e = refl

-- ---- datasets that are the same

module _ (Q : Statement → Type 0) (R : PrefixKey → Type 0) where
  pub such_still : (c : Change) (d : Dataset) → NamesSuch Q R c → HasSuch Q R d → HasSuch Q R (effect c d)
  such_still (Add q) d n h = record { quads_are = all_inserted Q line_cmp q d.quads h.quads_are n; prefixes_are = h.prefixes_are }
  such_still (Delete q) d n h = record { quads_are = all_removed Q (is_at (line_cmp q)) d.quads h.quads_are; prefixes_are = h.prefixes_are }
  such_still (PrefixAdd p i g) d n h = record {
    quads_are = h.quads_are;
    prefixes_are = subst (AllByRecursion R) (sym (keys_inserted prefix_cmp d.prefixes (g, p) i)) (all_inserted R prefix_cmp (g, p) (keys_of d.prefixes) h.prefixes_are n);
  }
  such_still (PrefixDelete p g) d n h = record {
    quads_are = h.quads_are;
    prefixes_are = subst (AllByRecursion R) (sym (keys_removed (is_at (prefix_cmp (g, p))) d.prefixes)) (all_removed R (is_at (prefix_cmp (g, p))) (keys_of d.prefixes) h.prefixes_are);
  }
  such_still Begin d n h = h
  such_still Commit d n h = h
  such_still Abort d n h = h

  pub such_behind : (cs : List Change) (d : Dataset) → AllByRecursion (NamesSuch Q R) cs → HasSuch Q R d → HasSuch Q R (effects cs d)
  such_behind [] d n h = h
  such_behind (c ∷ cs) d n h = such_behind cs (effect c d) n.1 (such_still c d n.0 h)

  module _ (quads_apart : (p q : Statement) → Q p → Q q → line_cmp p q ≡ Equal → p ≡ q) (prefixes_apart : (p q : PrefixKey) → R p → R q → prefix_cmp p q ≡ Equal → p ≡ q) where
    one_set : (ps qs : List Statement) → IsStrictlySortedBy line_cmp ps → IsStrictlySortedBy line_cmp qs → AllByRecursion Q ps → AllByRecursion Q qs
        → ((r : Statement) → cond {A = Option (List ℕ)} (list_any (is_at (line_cmp r)) ps) (Some []) None ≡ cond (list_any (is_at (line_cmp r)) qs) (Some []) None) → ps ≡ qs
    one_set ps qs s t a b h =
        let v : List ℕ = [] in
        let e = keys_entries v ps in let f = keys_entries v qs in
        let same = one_map line_total Q quads_apart (entries v ps) (entries v qs) (subst (IsStrictlySortedBy line_cmp) (sym e) s) (subst (IsStrictlySortedBy line_cmp) (sym f) t)
        (subst (AllByRecursion Q) (sym e) a) (subst (AllByRecursion Q) (sym f) b) (λ r. lookup_entries v (is_at (line_cmp r)) ps ∙ h r ∙ sym (lookup_entries v (is_at (line_cmp r)) qs)) in
        sym e ∙ ap keys_of same ∙ f

    -- datasets that have the same at each key are one
    pub one_dataset : (d e : Dataset) → IsInOrder d → IsInOrder e → HasSuch Q R d → HasSuch Q R e → ((k : ChangeKey) → value_at d k ≡ value_at e k) → d ≡ e
    one_dataset d e o p h g same =
        let quads = one_set d.quads e.quads o.quads_rise p.quads_rise h.quads_are g.quads_are (λ r. same (of_quad r)) in
        let prefixes = one_map prefix_total R prefixes_apart d.prefixes e.prefixes o.prefixes_rise p.prefixes_rise h.prefixes_are g.prefixes_are (λ r. same (of_prefix r)) in
        let first : d ≡ record { quads = e.quads; prefixes = d.prefixes } = ap (λ (l : List Statement). let r : Dataset = record { quads = l; prefixes = d.prefixes } in r) quads in
        first ∙ ap (λ (l : List (PrefixKey × List ℕ)). let r : Dataset = record { quads = e.quads; prefixes = l } in r) prefixes

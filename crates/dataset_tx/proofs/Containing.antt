-- Whether a quad is there, and which IRI a prefix has, over plain variables.
use Rattle.std.proofs.Common.{◌≡◌, ℕ, suc, Bool, true, false, cond, ◌||◌, List, [], ◌∷◌, length, Option, None, Some, refl, sym, ap, subst, ◌∙◌, arith}
use mathlib.Core.Bool.{true≢false}
use Rattle.std.specs.declared.cmp.Ordering.{Ordering}
use Rattle.std.specs.declared.cmp.Ordering.TheVariants.{Less, Equal, Greater}
use Rattle.std.specs.Ordering.{nat_cmp, is_eq, eq_by_cmp}
use Rattle.std.specs.Cmp.Lexicographic.{slice_cmp}
use Rattle.std.specs.List.{AllByRecursion, IsDistinct, list_any}
use Rattle.std.specs.List.Sorted.{IsStrictlySortedBy}
use Rattle.std.specs.BTreeMap.{is_at}
use Rattle.std.specs.Map.{keys_of, lookup}
use Rattle.std.specs.Set.{remove_key}
use Rattle.std.proofs.lemmas.Map.Keys.{sorted_head, sorted_tail}
use Rattle.std.proofs.lemmas.Map.Lookups.{exact_bytes}
use Rattle.rdf_terms.specs.declared.term.Term.{Term}
use Rattle.rdf_terms.specs.Dataset.{PrefixKey, prefix_cmp}
use Rattle.rdf_terms.specs.Line.{line_cmp}
use Rattle.rdf_terms.specs.Quad.{Statement}
use Rattle.nquads_documents.specs.Laws.{IsQuadValue}
use Rattle.quad_index.specs.declared.key.QuadKey.{QuadKey}
use Rattle.quad_index.specs.Key.{key_cmp, has_key}
use Rattle.quad_keys.specs.Keys.{quad_of_key, quads_of, IsNumbered, AreKnown}
use Rattle.quad_keys.proofs.Quads.{absent_quad, any_quads, own}
use Rattle.term_table.specs.Table.{same}
use Rattle.dataset_tx.specs.declared.prefixes.PrefixEntry.{PrefixEntry}
use Rattle.dataset_tx.specs.Prefixes.{PrefixRow, RowBytes, bytes_cmp, row_cmp, at_bytes, row_bytes, StandsAt, AreRows, iri_in, setting, with_entry, settings}

-- ---- quads

one_key : (terms : List Term) → IsDistinct same terms → (key : QuadKey) → IsNumbered terms key → (keys : List QuadKey) → AreKnown terms keys → list_any (λ k. is_at (line_cmp (quad_of_key terms key)) (quad_of_key terms k)) keys ≡ has_key keys key
one_key terms d key h [] ks = refl
one_key terms d key h (x ∷ keys) ks =
    ap (λ b. b || list_any (λ k. is_at (line_cmp (quad_of_key terms key)) (quad_of_key terms k)) keys) (own terms d key x h ks.0) ∙ ap (λ b. eq_by_cmp key_cmp key x || b) (one_key terms d key h keys ks.1)

pub quad_there : (terms : List Term) (key : QuadKey) (q : Statement) (keys searched : List QuadKey) (b : Bool) → IsDistinct same terms → IsNumbered terms key → quad_of_key terms key ≡ q → AreKnown terms keys → searched ≡ keys → b ≡ has_key searched key
    → b ≡ list_any (is_at (line_cmp q)) (quads_of terms keys)
quad_there terms key q keys searched b d h is ks same_keys found =
    found ∙ ap (λ (l : List QuadKey). has_key l key) same_keys ∙ sym (one_key terms d key h keys ks) ∙ sym (any_quads (is_at (line_cmp (quad_of_key terms key))) terms keys ks)
    ∙ ap (λ (s : Statement). list_any (is_at (line_cmp s)) (quads_of terms keys)) is

removed_shorter : (test : Statement → Bool) (qs : List Statement) → list_any test qs ≡ true → length qs ≡ suc (length (remove_key test qs))
removed_shorter test [] e = absurd (true≢false (sym e))
removed_shorter test (q ∷ qs) e = by (test q) e (removed_shorter test qs)
  where
    by : (b : Bool) → (b || list_any test qs) ≡ true → (list_any test qs ≡ true → length qs ≡ suc (length (remove_key test qs))) → suc (length qs) ≡ suc (length (cond b qs (q ∷ remove_key test qs)))
    by true f r = refl
    by false f r = ap suc (r f)

pub quad_absent : (terms : List Term) (q : Statement) (keys : List QuadKey) → IsQuadValue q → AreKnown terms keys → ((k : QuadKey) → IsNumbered terms k → q ≡ quad_of_key terms k → ⊥) → false ≡ list_any (is_at (line_cmp q)) (quads_of terms keys)
quad_absent terms q keys v ks never = by (list_any (is_at (line_cmp q)) (quads_of terms keys)) refl
  where
    by : (b : Bool) → list_any (is_at (line_cmp q)) (quads_of terms keys) ≡ b → false ≡ b
    by true e =
        let same_length = ap length (absent_quad terms q keys v ks never) in let less = removed_shorter (is_at (line_cmp q)) (quads_of terms keys) e in
        absurd (omega (arith, same_length, less))
    by false e = refl

-- ---- prefixes

none_behind : (bytes : List ℕ) (rows : List PrefixRow) → AllByRecursion (λ x. bytes_cmp bytes x ≡ Less) (keys_of rows) → at_bytes bytes rows ≡ None
none_behind bytes [] a = refl
none_behind bytes (row ∷ rows) a = ap (λ (o : Ordering). cond (is_eq o) (Some row.1) (at_bytes bytes rows)) a.0 ∙ none_behind bytes rows a.1

pub iri_there : (key : PrefixKey) (rows : List PrefixRow) → AreRows rows → IsStrictlySortedBy row_cmp (keys_of rows) → iri_in (at_bytes (row_bytes key) rows) ≡ lookup (is_at (prefix_cmp key)) (settings rows)
iri_there key [] st s = refl
iri_there key (row ∷ rows) st s = by (bytes_cmp (row_bytes key) row.0) refl (iri_there key rows st.1 (sorted_tail row_cmp row.0 (keys_of rows) s))
  where
    cmp_is : (entry : PrefixEntry) → StandsAt row.0.items (Some entry) → prefix_cmp key (setting entry).0 ≡ bytes_cmp (row_bytes key) row.0
    cmp_is entry at = ap (slice_cmp nat_cmp (row_bytes key)) (sym at.0)

    here : (o : Option PrefixEntry) → bytes_cmp (row_bytes key) row.0 ≡ Equal → StandsAt row.0.items o → iri_in (at_bytes (row_bytes key) rows) ≡ lookup (is_at (prefix_cmp key)) (settings rows)
        → iri_in (Some o) ≡ lookup (is_at (prefix_cmp key)) (with_entry o (settings rows))
    here None e at r =
        let above = subst (λ (b : List ℕ). AllByRecursion (λ x. bytes_cmp b x ≡ Less) (keys_of rows)) (sym (exact_bytes (row_bytes key) row.0.items e)) (sorted_head row_cmp row.0 (keys_of rows) s) in
        sym (ap iri_in (none_behind (row_bytes key) rows above)) ∙ r
    here (Some entry) e at r = sym (ap (λ (o : Ordering). cond (is_eq o) (Some entry.iri) (lookup (is_at (prefix_cmp key)) (settings rows))) (cmp_is entry at ∙ e))

    past : (o : Option PrefixEntry) (c : Ordering) → bytes_cmp (row_bytes key) row.0 ≡ c → is_eq c ≡ false → StandsAt row.0.items o → iri_in (at_bytes (row_bytes key) rows) ≡ lookup (is_at (prefix_cmp key)) (settings rows)
        → iri_in (at_bytes (row_bytes key) rows) ≡ lookup (is_at (prefix_cmp key)) (with_entry o (settings rows))
    past None c e ne at r = r
    past (Some entry) c e ne at r = r ∙ sym (ap (λ (b : Bool). cond b (Some entry.iri) (lookup (is_at (prefix_cmp key)) (settings rows))) (ap is_eq (cmp_is entry at ∙ e) ∙ ne))

    by : (c : Ordering) → bytes_cmp (row_bytes key) row.0 ≡ c → iri_in (at_bytes (row_bytes key) rows) ≡ lookup (is_at (prefix_cmp key)) (settings rows)
        → iri_in (cond (is_eq c) (Some row.1) (at_bytes (row_bytes key) rows)) ≡ lookup (is_at (prefix_cmp key)) (with_entry row.1 (settings rows))
    by Less e r = past row.1 Less e refl st.0 r
    by Equal e r = here row.1 e st.0 r
    by Greater e r = past row.1 Greater e refl st.0 r

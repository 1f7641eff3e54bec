-- A quad that goes, over plain variables.
use Rattle.std.proofs.Common.{◌≡◌, Bool, true, false, cond, List, [], ◌∷◌, sym, ap, subst, ◌∙◌}
use Rattle.std.specs.List.{IsDistinct}
use Rattle.std.specs.List.Sorted.{IsStrictlySortedBy}
use Rattle.std.specs.BTreeMap.{is_at}
use Rattle.std.specs.Set.{remove_key}
use Rattle.rdf_terms.specs.declared.term.Term.{Term}
use Rattle.rdf_terms.specs.Quad.{Statement}
use Rattle.rdf_terms.specs.Line.{line_cmp}
use Rattle.quad_index.specs.declared.key.QuadKey.{QuadKey}
use Rattle.quad_index.specs.Key.{key_cmp}
use Rattle.quad_keys.specs.Keys.{quad_of_key, quads_of, IsNumbered, AreKnown}
use Rattle.quad_keys.proofs.Quads.{quads_removed}
use Rattle.dataset_tx.proofs.Sets.{sorted_out}
use Rattle.term_table.specs.Table.{same}

known_out : (terms : List Term) (test : QuadKey → Bool) (keys : List QuadKey) → AreKnown terms keys → AreKnown terms (remove_key test keys)
known_out terms test [] ps = tt
known_out terms test (x ∷ xs) ps = by (test x) (known_out terms test xs ps.1)
  where
    by : (b : Bool) → AreKnown terms (remove_key test xs) → AreKnown terms (cond b xs (x ∷ remove_key test xs))
    by true r = ps.1
    by false r = (ps.0, r)

pub known_left : (terms : List Term) (k : QuadKey) (keys keys' : List QuadKey) → AreKnown terms keys → keys' ≡ remove_key (is_at (key_cmp k)) keys → AreKnown terms keys'
known_left terms k keys keys' ks e = subst (AreKnown terms) (sym e) (known_out terms (is_at (key_cmp k)) keys ks)

pub sorted_left : (k : QuadKey) (keys keys' : List QuadKey) → IsStrictlySortedBy key_cmp keys → keys' ≡ remove_key (is_at (key_cmp k)) keys → IsStrictlySortedBy key_cmp keys'
sorted_left k keys keys' s e = subst (IsStrictlySortedBy key_cmp) (sym e) (sorted_out keys k s)

pub quads_left : (terms : List Term) (k : QuadKey) (q : Statement) (keys keys' : List QuadKey) → IsDistinct same terms → IsNumbered terms k → quad_of_key terms k ≡ q → AreKnown terms keys → IsStrictlySortedBy key_cmp keys → keys' ≡ remove_key (is_at (key_cmp k)) keys
    → quads_of terms keys' ≡ remove_key (is_at (line_cmp q)) (quads_of terms keys)
quads_left terms k q keys keys' d known is ks s e =
    ap (quads_of terms) e ∙ quads_removed terms d k keys known ks s ∙ ap (λ (x : Statement). remove_key (is_at (line_cmp x)) (quads_of terms keys)) is

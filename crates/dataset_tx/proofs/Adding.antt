-- A quad that comes once its terms have numbers, over plain variables.
use Rattle.std.proofs.Common.{◌≡◌, List, [], ◌∷◌, refl, sym, ap, subst, ◌∙◌}
use Rattle.std.specs.declared.cmp.Ordering.{Ordering}
use Rattle.std.specs.declared.cmp.Ordering.TheVariants.{Less, Equal, Greater}
use Rattle.std.specs.Ordering.{match_ordering}
use Rattle.std.specs.List.Sorted.{IsStrictlySortedBy}
use Rattle.std.specs.BTreeSet.{insert_key}
use Rattle.rdf_terms.specs.declared.term.Term.{Term}
use Rattle.rdf_terms.specs.Quad.{Statement}
use Rattle.rdf_terms.specs.Line.{line_cmp}
use Rattle.quad_index.specs.declared.key.QuadKey.{QuadKey}
use Rattle.quad_index.specs.Key.{key_cmp}
use Rattle.quad_index.proofs.Members.{sorted_inserted}
use Rattle.quad_index.proofs.Same.{key_total}
use Rattle.quad_keys.specs.Keys.{quad_of_key, quads_of, IsNumbered, AreKnown}
use Rattle.quad_keys.proofs.Quads.{quads_inserted, quads_grow, all_grow}
use Rattle.dataset_tx.specs.Numbering.{Grows}

known_in : (terms : List Term) (k : QuadKey) (keys : List QuadKey) → IsNumbered terms k → AreKnown terms keys → AreKnown terms (insert_key key_cmp keys k)
known_in terms k [] p ps = (p, tt)
known_in terms k (x ∷ xs) p ps = by (key_cmp k x) (known_in terms k xs p ps.1)
  where
    by : (o : Ordering) → AreKnown terms (insert_key key_cmp xs k) → AreKnown terms (match_ordering o (k ∷ x ∷ xs) (x ∷ xs) (x ∷ insert_key key_cmp xs k))
    by Less r = (p, ps)
    by Equal r = ps
    by Greater r = (ps.0, r)

pub sorted_same : (keys keys' : List QuadKey) → keys' ≡ keys → IsStrictlySortedBy key_cmp keys → IsStrictlySortedBy key_cmp keys'
sorted_same keys keys' e s = subst (IsStrictlySortedBy key_cmp) (sym e) s

pub sorted_come : (k : QuadKey) (keys keys' : List QuadKey) → keys' ≡ insert_key key_cmp keys k → IsStrictlySortedBy key_cmp keys → IsStrictlySortedBy key_cmp keys'
sorted_come k keys keys' e s = subst (IsStrictlySortedBy key_cmp) (sym e) (sorted_inserted key_total k keys s)

-- the numbers that keys have stay
pub known_grown : (f a b : List Term) (keys keys' : List QuadKey) → Grows f a b → keys' ≡ keys → AreKnown a keys → AreKnown b keys'
known_grown f a b keys keys' h e ks =
    subst (AreKnown b) (sym e) (subst (λ (t : List Term). AreKnown t keys) (sym h.new_is) (all_grow a h.more keys ks))

pub quads_grown : (f a b : List Term) (keys keys' : List QuadKey) → Grows f a b → keys' ≡ keys → AreKnown a keys → quads_of b keys' ≡ quads_of a keys
quads_grown f a b keys keys' h e ks =
    ap (quads_of b) e ∙ ap (λ (t : List Term). quads_of t keys) h.new_is ∙ quads_grow a h.more keys ks

-- a key comes among them
pub known_come : (f a b : List Term) (k : QuadKey) (keys keys' : List QuadKey) → Grows f a b → IsNumbered b k → AreKnown a keys → keys' ≡ insert_key key_cmp keys k → AreKnown b keys'
known_come f a b k keys keys' h p ks e = subst (AreKnown b) (sym e) (known_in b k keys p (known_grown f a b keys keys h refl ks))

pub quads_come : (f a b : List Term) (k : QuadKey) (q : Statement) (keys keys' : List QuadKey) → Grows f a b → IsNumbered b k → quad_of_key b k ≡ q → AreKnown a keys → keys' ≡ insert_key key_cmp keys k
    → quads_of b keys' ≡ insert_key line_cmp (quads_of a keys) q
quads_come f a b k q keys keys' h p is ks e =
    ap (quads_of b) e
    ∙ quads_inserted b h.each_once k keys p (known_grown f a b keys keys h refl ks)
    ∙ ap (insert_key line_cmp (quads_of b keys)) is
    ∙ ap (λ (l : List Statement). insert_key line_cmp l q) (quads_grown f a b keys keys h refl ks)

-- Keys that are taken one after another from the end of a list.
use Rattle.std.proofs.Common.{◌≡◌, List, [], ◌∷◌, ◌++◌, length, refl, sym, ap, subst, ◌∙◌, append_assoc, append-nil}
use Rattle.rdf_terms.specs.declared.term.Term.{Term}
use Rattle.quad_index.specs.declared.key.QuadKey.{QuadKey}
use Rattle.quad_keys.specs.Keys.{IsNumbered, AreKnown}

-- the keys that were taken, which are the last ones, and what holds of them
pub record TakenSoFar (terms : List Term) (P : List QuadKey → Type 0) (all left : List QuadKey) : Type 0 where
  pub taken : List QuadKey
  pub all_is : all ≡ left ++ taken
  pub known : AreKnown terms all
  pub so_far : P taken

pub none_taken : (terms : List Term) (P : List QuadKey → Type 0) (all : List QuadKey) → AreKnown terms all → P [] → TakenSoFar terms P all all
none_taken terms P all k p = record { taken = []; all_is = sym (append-nil all); known = k; so_far = p }

known_last : (terms : List Term) (left taken : List QuadKey) → AreKnown terms (left ++ taken) → AreKnown terms taken
known_last terms [] taken h = h
known_last terms (x ∷ left) taken h = known_last terms left taken h.1

whole : (all left left' taken : List QuadKey) (k : QuadKey) → all ≡ left ++ taken → left ≡ left' ++ k ∷ [] → all ≡ left' ++ (k ∷ taken)
whole all left left' taken k a e = a ∙ ap (λ (l : List QuadKey). l ++ taken) e ∙ append_assoc left' (k ∷ []) taken

known_here : (terms : List Term) (all left left' taken : List QuadKey) (k : QuadKey) → AreKnown terms all → all ≡ left ++ taken → left ≡ left' ++ k ∷ [] → AreKnown terms (k ∷ taken)
known_here terms all left left' taken k h a e = known_last terms left' (k ∷ taken) (subst (AreKnown terms) (whole all left left' taken k a e) h)

-- the key taken next is known
pub next_known : {terms : List Term} {P : List QuadKey → Type 0} {all left : List QuadKey} {k : QuadKey} (left' : List QuadKey) → TakenSoFar terms P all left → left ≡ left' ++ k ∷ [] → IsNumbered terms k
next_known {terms = terms} {all = all} {left = left} {k = k} left' s e = let known = known_here terms all left left' s.taken k s.known s.all_is e in known.0

pub next_taken : {terms : List Term} {P : List QuadKey → Type 0} {all left left' : List QuadKey} {k : QuadKey} (Q : List QuadKey → Type 0) → TakenSoFar terms P all left → left ≡ left' ++ k ∷ []
    → ((taken : List QuadKey) → P taken → Q (k ∷ taken)) → TakenSoFar terms Q all left'
next_taken {all = all} {left = left} {left' = left'} {k = k} Q s e more = record {
  taken = k ∷ s.taken;
  all_is = whole all left left' s.taken k s.all_is e;
  known = s.known;
  so_far = more s.taken s.so_far;
}

nothing_left : (left : List QuadKey) → length left ≡ 0 → left ≡ []
nothing_left [] e = refl
nothing_left (x ∷ xs) e = absurd cc

pub all_taken : {terms : List Term} {P : List QuadKey → Type 0} {all left : List QuadKey} → TakenSoFar terms P all left → length left ≡ 0 → P all
all_taken {P = P} {left = left} s none = subst P (sym (s.all_is ∙ ap (λ (l : List QuadKey). l ++ s.taken) (nothing_left left none))) s.so_far

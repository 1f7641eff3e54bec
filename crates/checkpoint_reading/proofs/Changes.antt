-- Changes that are made one after another.
use Rattle.std.proofs.Common.{◌≡◌, inl, inr, ⊎_elim, false, List, [], ◌∷◌, ◌++◌, map, None, refl, sym, ap, subst, ◌∙◌}
use Rattle.std.specs.List.{Contains, flat_map}
use Rattle.std.specs.List.Sorted.{IsStrictlySortedBy}
use Rattle.std.specs.BTreeSet.{insert_key}
use Rattle.std.proofs.lemmas.List.{map-append}
use Rattle.std.proofs.lemmas.List.Elements.{Contains-append_left, Contains-append_right, Contains-push, Contains-push_cases}
use Rattle.std.proofs.lemmas.Grind.{flat_map-append}
use Rattle.rdf_terms.specs.declared.change.Change.{Change}
use Rattle.rdf_terms.specs.declared.change.Change.TheVariants.{Add}
use Rattle.rdf_terms.specs.declared.term.Term.{Term}
use Rattle.rdf_terms.specs.Dataset.{Dataset, prefix_cmp, effect, effects, kept, empty}
use Rattle.rdf_terms.specs.Line.{line_cmp}
use Rattle.rdf_terms.specs.Quad.{Statement}
use Rattle.net_changes.proofs.Datasets.{line_total}
use Rattle.dataset_tx.specs.Held.{Held, AreMet, terms_of}
use Rattle.dataset_tx.specs.Prefixes.{prefix_change, has_prefix}
use Rattle.checkpoint_text.specs.Text.{Setting}
use Rattle.checkpoint_reading.specs.Reading.{HasSet, HasNewQuads, IsOfChanges}
use Rattle.checkpoint_reading.proofs.Fronts.{all_before}
use Rattle.checkpoint_reading.proofs.Inserting.{came, comes, stays, put_last}
use Rattle.rdf_terms.specs.Line.{line}

effects-append : (cs ds : List Change) (d : Dataset) → effects (cs ++ ds) d ≡ effects ds (effects cs d)
effects-append [] ds d = refl
effects-append (c ∷ cs) ds d = effects-append cs ds (effect c d)

-- ---- none of them is a word of a block, so each stands

kept_settings : (settings : List Setting) (cs : List Change) → kept (map prefix_change settings ++ cs) ≡ map prefix_change settings ++ kept cs
kept_settings [] cs = refl
kept_settings (s ∷ settings) cs = ap (λ (l : List Change). prefix_change s ∷ l) (kept_settings settings cs)

kept_quads : (quads : List Statement) → kept (map Add quads) ≡ map Add quads
kept_quads [] = refl
kept_quads (q ∷ quads) = ap (λ (l : List Change). Add q ∷ l) (kept_quads quads)

-- ---- the terms that are met

pub met_joined : (cs ds : List Change) (a b d : List Term) → AreMet cs a b → AreMet ds b d → AreMet (cs ++ ds) a d
met_joined cs ds a b d one two t c =
    let from : (l : List Change) → Contains (flat_map terms_of cs ++ flat_map terms_of ds) t → Contains (flat_map terms_of (cs ++ ds)) t = λ l x. subst (λ (ts : List Term). Contains ts t) (sym (flat_map-append terms_of cs ds)) x in
    ⊎_elim (λ (old : Contains b t). ⊎_elim (λ (x : Contains a t). inl x) (λ (x : Contains (flat_map terms_of cs) t). inr (from cs (Contains-append_left (flat_map terms_of cs) (flat_map terms_of ds) t x))) (one t old))
    (λ (new : Contains (flat_map terms_of ds) t). inr (from ds (Contains-append_right (flat_map terms_of cs) (flat_map terms_of ds) t new)))
    (two t c)

pub met_none : (terms : List Term) → AreMet [] terms terms
met_none terms t c = inl c

-- ---- prefixes

pub set_none : (held : Held) → held ≡ record { contents = empty; staged = None; terms = [] } → HasSet held []
set_none held is = subst (λ (h : Held). HasSet h []) (sym is) (record {
  staged = refl;
  contents = refl;
  same = λ s. (λ c. c, λ c. c);
  no_quads = refl;
  met = met_none [];
})

pub set_more : (before after : Held) (settings : List Setting) (s : Setting) → HasSet before settings → after.staged ≡ None → after.contents ≡ effect (prefix_change s) before.contents → AreMet (prefix_change s ∷ []) before.terms after.terms → has_prefix before.contents.prefixes s.0 ≡ false → HasSet after (settings ++ s ∷ [])
set_more before after settings s set unstaged made met new =
    let changes : map prefix_change (settings ++ s ∷ []) ≡ map prefix_change settings ++ prefix_change s ∷ [] = map-append prefix_change settings (s ∷ []) in
    let prefixes : after.contents.prefixes ≡ (effect (prefix_change s) before.contents).prefixes = ap (λ (d : Dataset). d.prefixes) made in
    record {
      staged = unstaged;
      contents = made
          ∙ ap (effect (prefix_change s)) set.contents
          ∙ sym (effects-append (map prefix_change settings) (prefix_change s ∷ []) empty)
          ∙ ap (λ (l : List Change). effects l empty) (sym changes);
      same = λ z. (
        λ c. ⊎_elim (λ (same : s ≡ z). subst (Contains (settings ++ s ∷ [])) same (Contains-push settings s)) (λ (old : Contains before.contents.prefixes z). Contains-append_left settings (s ∷ []) z ((set.same z).0 old)) (came prefix_cmp s.0 s.1 before.contents.prefixes z new (subst (λ (l : List Setting). Contains l z) prefixes c)),
        λ c. subst (λ (l : List Setting). Contains l z) (sym prefixes) (⊎_elim (λ (old : Contains settings z). stays prefix_cmp s.0 s.1 before.contents.prefixes z new ((set.same z).1 old)) (λ (same : s ≡ z). subst (Contains (effect (prefix_change s) before.contents).prefixes) same (comes prefix_cmp s.0 s.1 before.contents.prefixes new)) (Contains-push_cases settings s z c)),
      );
      no_quads = ap (λ (d : Dataset). d.quads) made ∙ set.no_quads;
      met = subst (λ (l : List Change). AreMet l [] after.terms) (sym changes) (met_joined (map prefix_change settings) (prefix_change s ∷ []) [] before.terms after.terms set.met met);
    }

-- ---- quads

pub added_none : (before : Held) → before.staged ≡ None → before.contents.quads ≡ [] → HasNewQuads before before []
added_none before unstaged none = record {
  staged = unstaged;
  contents = refl;
  quads_are = none;
  prefixes_are = refl;
  met = met_none before.terms;
}

pub added_more : (before held after : Held) (quads : List Statement) (q : Statement) → HasNewQuads before held quads → after.staged ≡ None → after.contents ≡ effect (Add q) held.contents → AreMet (Add q ∷ []) held.terms after.terms → IsStrictlySortedBy line_cmp (quads ++ q ∷ []) → HasNewQuads before after (quads ++ q ∷ [])
added_more before held after quads q added unstaged made met rising =
    let changes : map Add (quads ++ q ∷ []) ≡ map Add quads ++ Add q ∷ [] = map-append Add quads (q ∷ []) in
    record {
      staged = unstaged;
      contents = made
          ∙ ap (effect (Add q)) added.contents
          ∙ sym (effects-append (map Add quads) (Add q ∷ []) before.contents)
          ∙ ap (λ (l : List Change). effects l before.contents) (sym changes);
      quads_are = ap (λ (d : Dataset). d.quads) made
          ∙ ap (λ (l : List Statement). insert_key line_cmp l q) added.quads_are
          ∙ put_last line_cmp line_total q quads (all_before line quads q [] rising);
      prefixes_are = ap (λ (d : Dataset). d.prefixes) made ∙ added.prefixes_are;
      met = subst (λ (l : List Change). AreMet l before.terms after.terms) (sym changes) (met_joined (map Add quads) (Add q ∷ []) before.terms held.terms after.terms added.met met);
    }

-- both make the contents
pub made_of : (middle after : Held) (settings : List Setting) (quads : List Statement) → HasSet middle settings → HasNewQuads middle after quads → IsOfChanges after
made_of middle after settings quads set added = (
  map prefix_change settings ++ map Add quads,
  record {
    make = ap (λ (l : List Change). effects l empty) (kept_settings settings (map Add quads) ∙ ap (λ (l : List Change). map prefix_change settings ++ l) (kept_quads quads))
        ∙ effects-append (map prefix_change settings) (map Add quads) empty
        ∙ ap (effects (map Add quads)) (sym set.contents)
        ∙ sym added.contents;
    met = met_joined (map prefix_change settings) (map Add quads) [] middle.terms after.terms set.met added.met;
  },
)

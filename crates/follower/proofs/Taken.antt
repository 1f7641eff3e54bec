-- What a zone took, step by step.
use Rattle.std.proofs.Common.{◌⊎◌, inl, inr, ⊎_elim, ℕ, List, [], ◌++◌, sym, subst}
use Rattle.std.specs.List.{Contains, flat_map}
use Rattle.std.proofs.lemmas.List.{append-nil}
use Rattle.std.proofs.lemmas.Grind.{flat_map-append}
use Rattle.std.proofs.lemmas.List.Elements.{Contains-append_left, Contains-append_right}
use Rattle.rdf_terms.specs.declared.term.Term.{Term}
use Rattle.rdf_terms.specs.declared.change.Change.{Change}
use Rattle.dataset_tx.specs.Held.{terms_of, AreMet, AreMore}
use Rattle.patch_meaning.specs.Checked.{CheckedPatch}
use Rattle.zone_state.specs.Brief.{changes_taken}
use Rattle.zone_state.specs.Zone.{ZoneView}
use Rattle.follower.specs.Footing.{Footing, DisksOf, Point, ZoneStands, further}
use Rattle.follower.specs.Grown.{TookMore}
use Rattle.follower.proofs.Footings.{further_none, further_both}

module _ (on : Footing) where
  pub took_none : (zone : ZoneView (DisksOf on)) → TookMore on zone zone []
  took_none zone point stands = subst (λ (p : Point on). ZoneStands on zone p) (sym (further_none on zone point stands)) stands

  pub took_both : (old mid new : ZoneView (DisksOf on)) (more next : List CheckedPatch) → TookMore on old mid more → TookMore on mid new next → TookMore on old new (more ++ next)
  took_both old mid new more next first second point stands =
      subst (λ (p : Point on). ZoneStands on new p) (further_both on point more next mid.doubt new.doubt) (second (further on point more mid.doubt) (first point stands))

  -- a zone that stays
  pub took_still : (old mid new : ZoneView (DisksOf on)) (more : List CheckedPatch) → TookMore on old mid more → TookMore on mid new [] → TookMore on old new more
  took_still old mid new more first second =
      subst (λ (ps : List CheckedPatch). TookMore on old new ps) (append-nil more) (took_both old mid new more [] first second)

-- ---- terms

pub met_none : (terms : List Term) → AreMet [] terms terms
met_none terms t is = inl is

-- terms that were met behind changes and others
met_behind : (first second : List Change) (before mid : List Term) → AreMet first before mid → (t : Term) → Contains mid t ⊎ Contains (flat_map terms_of second) t
    → Contains before t ⊎ Contains (flat_map terms_of (first ++ second)) t
met_behind first second before mid one t (inl was) =
    ⊎_elim (λ (h : Contains before t). inl h)
    (λ (h : Contains (flat_map terms_of first) t). inr (subst (λ (ts : List Term). Contains ts t) (sym (flat_map-append terms_of first second)) (Contains-append_left (flat_map terms_of first) (flat_map terms_of second) t h)))
    (one t was)
met_behind first second before mid one t (inr new) =
    inr (subst (λ (ts : List Term). Contains ts t) (sym (flat_map-append terms_of first second)) (Contains-append_right (flat_map terms_of first) (flat_map terms_of second) t new))

pub met_both : (first second : List CheckedPatch) (before mid after : List Term) → AreMet (changes_taken first) before mid → AreMet (changes_taken second) mid after → AreMet (changes_taken (first ++ second)) before after
met_both first second before mid after one two =
    subst (λ (cs : List Change). AreMet cs before after) (sym (flat_map-append (λ (patch : CheckedPatch). patch.meaning.changes) first second))
    (λ t is. met_behind (changes_taken first) (changes_taken second) before mid one t (two t is))

pub more_both : (most : ℕ) (first second : List CheckedPatch) (before mid : List Term) → AreMet (changes_taken first) before mid → AreMore most (changes_taken second) mid → AreMore most (changes_taken (first ++ second)) before
more_both most first second before mid one are = record {
  terms = are.terms;
  met = met_both first second before mid are.terms one are.met;
  each_once = are.each_once;
  many = are.many;
}

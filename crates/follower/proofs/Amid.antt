-- What a crash leaves while patches are taken.
use Rattle.std.proofs.Common.{◌≡◌, ◌⊎◌, inl, inr, ℕ, List, [], ◌++◌, None, refl, sym, subst}
use Rattle.patch_meaning.specs.Checked.{CheckedPatch}
use Rattle.zone_state.specs.Zone.{ZoneView}
use Rattle.follower.specs.Footing.{Footing, DisksOf, LeavesBehind, further, with_patches}
use Rattle.follower.specs.Grown.{TookMore, LeavesAmid, as_before, Stayed}
use Rattle.follower.proofs.Footings as laws
use Rattle.follower.proofs.Taken.{took_none, met_none}

-- nothing was taken yet, or nothing is in doubt
abbrev pub IsClear : {D : Type 0} → ZoneView D → ZoneView D → List CheckedPatch → Type 0
IsClear old now more = ((more ≡ []) × (now ≡ old)) ⊎ (now.doubt ≡ None)

module _ (on : Footing) where
  pub amid_none : (zone : ZoneView (DisksOf on)) → LeavesAmid on zone zone []
  amid_none zone point stands = laws.amid_none on zone point stands

  pub amid_both : (old mid new : ZoneView (DisksOf on)) (more tried : List CheckedPatch) → mid.brief ≡ with_patches old.brief more → TookMore on old mid more → IsClear old mid more → LeavesAmid on old mid more
      → LeavesAmid on mid new tried → LeavesAmid on old new (more ++ tried)
  amid_both old mid new more tried brief took (inl same) first second point stands =
      let here = subst (λ (zone : ZoneView (DisksOf on)). LeavesAmid on zone new tried) same.1 second in
      subst (λ (ps : List CheckedPatch). LeavesBehind on point (ps ++ tried) old new) (sym same.0) (here point stands)
  amid_both old mid new more tried brief took (inr settled) first second point stands =
      laws.amid_both on old mid new point more tried brief settled (first point stands) (second (further on point more mid.doubt) (took point stands))

  -- nothing was tried of the text, and nothing happened
  pub stayed_none : (zone : ZoneView (DisksOf on)) (text : List ℕ) → Stayed on zone zone text
  stayed_none zone text = record { brief = refl; took = took_none on zone; tried = []; was_tried = inl refl; amid = amid_none zone; met = met_none zone.terms; left_is = as_before refl refl }

  pub stayed_same : (old new : ZoneView (DisksOf on)) (text : List ℕ) → new ≡ old → Stayed on old new text
  stayed_same old new text same = subst (λ (zone : ZoneView (DisksOf on)). Stayed on old zone text) (sym same) (stayed_none old text)

-- What a zone goes through while patches are taken.
use Rattle.std.specs.Prelude.{◌≡◌, ◌⊎◌, ℕ, ◌<◌, List, [], ◌∷◌, ◌++◌, Option, Some, None, Ok}
use Rattle.std.specs.Prelude.{length}
use Rattle.delta_base.specs.declared.id.Id.{Id}
use Rattle.dataset_tx.specs.Held.{AreMet}
use Rattle.patch_meaning.specs.Checked.{AreChecked, CheckedPatch}
use Rattle.patch_meaning.specs.Patch.{IsPatch}
use Rattle.rpc_answers.specs.declared.answer.Answer.TheVariants as answer
use Rattle.zone_state.specs.declared.answer.TakeAnswer.TheVariants as take
use Rattle.zone_state.specs.Brief.{with_patch, changes_taken}
use Rattle.zone_state.specs.Stay.{decided}
use Rattle.zone_state.specs.Zone.{ZoneView}
use Rattle.delta_client.specs.Exchanges.{WasSaid}
use Rattle.follower.specs.Calls.{came}
use Rattle.follower.specs.Footing.{Footing, DisksOf, Point, ZoneStands, LeavesBehind, further}
use Rattle.follower.specs.Footing.{with_patches}

-- ---- the patch tried last

-- the text is that of this patch
abbrev pub IsText : List ℕ → CheckedPatch → Type 0
IsText text next = (next.text ≡ text) × IsPatch text next.meaning

-- the patch left in doubt behind those taken and the one tried then: none; where none was taken,
-- the one before; or the one tried
pub data LeftInDoubt (before after : Option CheckedPatch) (more tried : List CheckedPatch)
    : Type 0 where
  none : after ≡ None → LeftInDoubt before after more tried
  as_before : more ≡ [] → after ≡ before → LeftInDoubt before after more tried
  tried_last : (one : CheckedPatch) → after ≡ Some one → tried ≡ one ∷ []
      → LeftInDoubt before after more tried

module _ {D : Type 0} (zone : ZoneView D) where
  -- the patch is the next one
  abbrev pub IsNextForZone : CheckedPatch → Type 0
  IsNextForZone next = (version : ℕ) × (decided zone next ≡ take.Applied version)

  -- behind the patches taken this was said to the fetch of the zone's next version
  abbrev pub SaidToFetch : List CheckedPatch → List WasSaid → WasSaid → Type 0
  SaidToFetch more said last =
      (theirs : ℕ) × (head : Option Id) × (said ≡ came theirs head more (last ∷ []))
      × (length zone.brief.ids < theirs)

  -- it is the text of this patch
  abbrev pub Fetched : List CheckedPatch → List WasSaid → CheckedPatch → Type 0
  Fetched more said next =
      SaidToFetch more said (Ok (answer.Patch next.text)) × IsPatch next.text next.meaning

  -- no patch was tried behind those taken, or the one that was fetched, which is the next one
  pub data WasTried (more : List CheckedPatch) (said : List WasSaid) (tried : List CheckedPatch)
      : Type 0 where
    untried : tried ≡ [] → WasTried more said tried
    was_next : (next : CheckedPatch) → tried ≡ next ∷ [] → Fetched more said next
        → IsNextForZone next → WasTried more said tried

module _ (on : Footing) where
  -- for whatever the zone stood, it stands for that and these patches, and for the one in doubt
  abbrev pub TookMore : ZoneView (DisksOf on) → ZoneView (DisksOf on) → List CheckedPatch → Type 0
  TookMore old new more = (point : Point on) → ZoneStands on old point
      → ZoneStands on new (further on point more new.doubt)

  -- for whatever it stood, a crash at any moment leaves that and a front of these
  abbrev pub LeavesAmid : ZoneView (DisksOf on) → ZoneView (DisksOf on) → List CheckedPatch → Type 0
  LeavesAmid old new more =
      (point : Point on) → ZoneStands on old point → LeavesBehind on point more old new

  -- The zone took these patches, and tried one more, or none. A crash at any moment leaves a front
  -- of them all; the terms that it met are theirs; and which patch is left in doubt is known.
  pub record GrewBy (old new : ZoneView (DisksOf on)) (more : List CheckedPatch)
      (said : List WasSaid) : Type 0 where
    pub brief : new.brief ≡ with_patches old.brief more
    pub checked : AreChecked more
    pub took : TookMore old new more
    pub tried : List CheckedPatch
    pub was_tried : WasTried new more said tried
    pub amid : LeavesAmid old new (more ++ tried)
    pub met : AreMet (changes_taken (more ++ tried)) old.terms new.terms
    pub left_is : LeftInDoubt old.doubt new.doubt more tried

  -- the zone took this patch
  pub record Took (old new : ZoneView (DisksOf on)) (next : CheckedPatch) : Type 0 where
    pub brief : new.brief ≡ with_patch old.brief next
    pub took : TookMore old new (next ∷ [])
    pub amid : LeavesAmid old new (next ∷ [])
    pub met : AreMet (changes_taken (next ∷ [])) old.terms new.terms
    pub settled : new.doubt ≡ None

  -- the zone took nothing of this text: it tried its patch as the next one, or none
  pub record Stayed (old new : ZoneView (DisksOf on)) (text : List ℕ) : Type 0 where
    pub brief : new.brief ≡ old.brief
    pub took : TookMore old new []
    pub tried : List CheckedPatch
    pub was_tried : (tried ≡ [])
        ⊎ ((next : CheckedPatch) × (tried ≡ next ∷ []) × IsText text next × IsNextForZone new next)
    pub amid : LeavesAmid old new tried
    pub met : AreMet (changes_taken tried) old.terms new.terms
    pub left_is : LeftInDoubt old.doubt new.doubt [] tried

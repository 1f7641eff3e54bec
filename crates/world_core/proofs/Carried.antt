-- Disks that carry payloads, and what a stop leaves of them.
use Rattle.std.proofs.Common.{◌≡◌, inl, inr, ⊎_elim, ℕ, Bool, true, false, cond, List, [], ◌∷◌, ◌++◌, map, Option, Some, None, refl, sym, subst}
use Rattle.std.specs.Option.{option_map}
use Rattle.std.proofs.lemmas.List.{map-append}
use Rattle.disk_model.specs.Past.{Past, began, MayLeave, EveryImage, image_of}
use Rattle.disk_model.specs.Plan.{plan_past}
use Rattle.disk_model.specs.declared.plan.PlanDisk.{PlanDisk}
use Rattle.log_journal.specs.File.{Holds, header}
use Rattle.log_journal.specs.declared.form.Form.TheVariants.{New}
use Rattle.log_journal.proofs.Steps.{started}
use Rattle.log_base.specs.OneMore.{with_one_more}
use Rattle.chain_core.specs.Log.{up, down}
use Rattle.world_core.specs.Parts.{CarriesPart, KeepsPayloads, HoldsSome}
use Rattle.world_core.specs.World.{MayBeFound}

-- ---- what a stop leaves

left_by_stop : (number : ℕ) (opened : Bool) (old : PlanDisk) (payloads : List (List ℕ)) (doubt : Option (List ℕ)) (image : List ℕ) → CarriesPart number old payloads doubt → image ≡ image_of (plan_past old) (cond opened 257 0) → MayLeave (plan_past old) image
    → Holds image number (cond opened (with_one_more payloads doubt) payloads)
left_by_stop number true old payloads None image carries is may = carries.each image may
left_by_stop number false old payloads None image carries is may = carries.each image may
left_by_stop number true old payloads (Some text) image carries is may = subst (λ (file : List ℕ). Holds file number (payloads ++ text ∷ [])) (sym is) carries.leaves.1
left_by_stop number false old payloads (Some text) image carries is may = subst (λ (file : List ℕ). Holds file number payloads) (sym is) carries.leaves.0

-- a disk whose bytes are all synced keeps the payloads that they hold
pub stop_keeps : (number : ℕ) (opened : Bool) (old : PlanDisk) (payloads : List (List ℕ)) (doubt : Option (List ℕ)) (image : List ℕ) (disk : PlanDisk) → CarriesPart number old payloads doubt → image ≡ image_of (plan_past old) (cond opened 257 0) → MayLeave (plan_past old) image
    → plan_past disk ≡ began image → KeepsPayloads number disk (cond opened (with_one_more payloads doubt) payloads)
stop_keeps number opened old payloads doubt image disk carries is may fresh =
    let kept = cond opened (with_one_more payloads doubt) payloads in
    subst (λ (past : Past). EveryImage past (λ left. Holds left number kept)) (sym fresh) (λ left same. subst (λ (file : List ℕ). Holds file number kept) (sym same) (left_by_stop number opened old payloads doubt image carries is may))

-- a new journal keeps no payloads
pub new_keeps : (number : ℕ) (disk : PlanDisk) → EveryImage (plan_past disk) (λ image. image ≡ header New number ++ 0 ∷ []) → KeepsPayloads number disk []
new_keeps number disk every = (started (plan_past disk) number every).each

-- ---- the payloads of what was taken

module _ {T : Type 0} (text_of : T → List ℕ) where
  more_texts : (taken : List T) (doubt : Option T) → with_one_more (map text_of taken) (option_map text_of doubt) ≡ map text_of (with_one_more taken doubt)
  more_texts taken None = refl
  more_texts taken (Some one) = sym (map-append text_of taken (one ∷ []))

  -- what a disk keeps behind a stop
  pub kept_texts : (number : ℕ) (disk : PlanDisk) (opened : Bool) (taken : List T) (doubt : Option T) → KeepsPayloads number disk (cond opened (with_one_more (map text_of taken) (option_map text_of doubt)) (map text_of taken))
      → KeepsPayloads number disk (map text_of (cond opened (with_one_more taken doubt) taken))
  kept_texts number disk true taken doubt keeps = subst (λ (texts : List (List ℕ)). KeepsPayloads number disk texts) (more_texts taken doubt) keeps
  kept_texts number disk false taken doubt keeps = keeps

  -- each image of a disk that carries a log or a zone holds what may be found
  pub carried_images : (number : ℕ) (disk : PlanDisk) (taken : List T) (doubt : Option T) → CarriesPart number disk (map text_of taken) (option_map text_of doubt) → EveryImage (plan_past disk) (HoldsSome number text_of (MayBeFound (up taken doubt)))
  carried_images number disk taken None carries = λ image left. (taken, inl refl, carries.each image left)
  carried_images number disk taken (Some one) carries = λ image left. ⊎_elim
      (λ (without : Holds image number (map text_of taken)). let found : HoldsSome number text_of (MayBeFound (up taken (Some one))) image = (taken, inl refl, without) in found)
      (λ (having : Holds image number (map text_of taken ++ text_of one ∷ [])).
      let found : HoldsSome number text_of (MayBeFound (up taken (Some one))) image = (taken ++ one ∷ [], inr refl, subst (λ (texts : List (List ℕ)). Holds image number texts) (more_texts taken (Some one)) having) in found)
      (carries.each image left)

  pub kept_images : (number : ℕ) (disk : PlanDisk) (taken : List T) → KeepsPayloads number disk (map text_of taken) → EveryImage (plan_past disk) (HoldsSome number text_of (MayBeFound (down taken)))
  kept_images number disk taken keeps = λ image left. (taken, refl, keeps image left)

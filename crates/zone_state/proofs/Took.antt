-- What a taking shows of the disk, whether it was asked or not.
use Rattle.std.proofs.Common.{◌≡◌, ◌≢◌, ◌⊎◌, inl, inr, ⊎_elim, ℕ, ◌-◌, not, List, [], ◌∷◌, ◌++◌, map, Option, Some, None, refl, sym, ◌∙◌, ap, subst}
use Rattle.std.specs.Prelude.{IsTrue}
use Rattle.disk_model.specs.declared.disk.Disk.{Ghosts}
use Rattle.disk_model.specs.Past.{ok_syncs, EveryImage, LeavesOnly}
use Rattle.log_base.specs.declared.phase.Phase.{Phase}
use Rattle.log_journal.specs.File.{Holds}
use Rattle.log_journal.specs.Writing.{HoldsDuring, LeavesEither, payloads_left, doubt_left}
use Rattle.chain_core.specs.declared.fate.Fate.{Fate}
use Rattle.chain_core.specs.Stay.{fate_of, fate_by_syncs, fate_by_plan}
use Rattle.patch_meaning.specs.Checked.{CheckedPatch, checked_texts}
use Rattle.patch_log.specs.Log.{bare}
use Rattle.zone_state.specs.declared.answer.TakeAnswer.{TakeAnswer}
use Rattle.zone_state.specs.declared.answer.TakeAnswer.TheVariants.{Applied, Diverged, Repeated, Full, TermsFull, OutOfMemory, DiskFault}
use Rattle.zone_state.specs.Taking.{taken_then, TakeStay}
use Rattle.zone_state.specs.Zone.{ZoneView, StandsForZone, zone_number, doubt_of, text_in, zone_point}
use Rattle.zone_state.specs.Stay.{decided, answer_by, WritesNext, RefusesPatch, TookOne}
use Rattle.zone_state.proofs.Decisions.{IsDecided, IsRefused, decided as is_decided, is_refused}
use Rattle.zone_state.proofs.Growing.{texts-push}
use Rattle.zone_state.proofs.Standing.{same_fate, same_plan, payloads_are, doubts_are, still}

applied_by : (end : Option Phase) (version other : ℕ) → answer_by end version ≡ Applied other → end ≡ None
applied_by None version other is = refl
applied_by (Some phase) version other is = absurd (cc)

module _ {D : Type 0} (disks : Ghosts D) (before after : ZoneView D) (taken : List CheckedPatch) (doubt : Option CheckedPatch) (patch : CheckedPatch) (answer : TakeAnswer) (t : TookOne disks before after taken doubt patch answer) where
  abbrev Writes : Type 0
  Writes = WritesNext disks before after taken doubt patch t.fate answer

  abbrev Refuses : Type 0
  Refuses = RefusesPatch before after doubt patch answer

  refused : Refuses → IsRefused answer
  refused r = is_refused answer (subst IsDecided (sym r.told) (is_decided before.brief.ids before.brief.bytes (bare patch) before.limits)) r.never

  -- the fate of the next patch is that of the syncs which were done
  pub by_syncs : disks.tells → (version : ℕ) → decided before patch ≡ Applied version → t.fate ≡ fate_by_syncs doubt (ok_syncs (disks.past after.disk) - ok_syncs (disks.past before.disk))
  by_syncs tells version is = ⊎_elim (λ (w : Writes). w.fate_is ∙ ap fate_of (w.written.by_syncs tells) ∙ same_fate doubt _) (λ (r : Refuses). absurd (r.never version (r.told ∙ is))) t.asks

  -- where the syncs fail as planned, it is that of the plan
  pub planned : disks.plans → IsTrue (not (disks.short after.disk)) → TakeStay (decided before patch) (map bare taken) (doubt_of doubt) (bare patch) (fate_by_plan doubt (disks.next_failure before.disk)) (zone_point (taken_then answer taken patch) after.doubt) answer
  planned plans long = ⊎_elim
      (λ (w : Writes). subst (λ (fate : Fate). TakeStay (decided before patch) (map bare taken) (doubt_of doubt) (bare patch) fate (zone_point (taken_then answer taken patch) after.doubt) answer)
      (w.fate_is ∙ ap fate_of (w.written.planned plans long) ∙ same_plan doubt (disks.next_failure before.disk)) t.stay)
      (λ (r : Refuses).
      let fate = fate_by_plan doubt (disks.next_failure before.disk) in
      subst (λ (z : TakeAnswer × List CheckedPatch × Option CheckedPatch). TakeStay z.0 (map bare taken) (doubt_of doubt) (bare patch) fate (zone_point z.1 z.2) answer)
      (λ i. (r.told i, sym ((refused r).same taken patch) i, sym r.doubt_is i)) ((refused r).outcome fate (map bare taken) (doubt_of doubt) (bare patch)))
      t.asks

  -- what is applied is in every image
  pub kept : (version : ℕ) → answer ≡ Applied version → disks.tells → EveryImage (disks.past after.disk) (λ image. Holds image zone_number (checked_texts (taken ++ patch ∷ [])))
  kept version is tells = ⊎_elim
      (λ (w : Writes). subst (λ (texts : List (List ℕ)). EveryImage (disks.past after.disk) (λ image. Holds image zone_number texts)) (sym (texts-push taken patch))
      (w.written.kept (applied_by w.end w.version version (sym w.answer_is ∙ is)) tells))
      (λ (r : Refuses). absurd (r.never version is)) t.asks

  -- as planned, a patch that is left in doubt stands where what wasn't synced is 1, and not in what
  -- was synced
  pub images : disks.plans → disks.tells → IsTrue (not (disks.short after.disk)) → LeavesEither (disks.past before.disk) zone_number (checked_texts taken) (text_in doubt)
      → LeavesEither (disks.past after.disk) zone_number (checked_texts (taken_then answer taken patch)) (text_in after.doubt)
  images plans tells long either = ⊎_elim
      (λ (w : Writes).
      let texts : payloads_left w.end (checked_texts taken) patch.text ≡ checked_texts (taken_then answer taken patch) = payloads_are w.end w.version taken patch ∙ ap (λ (a : TakeAnswer). checked_texts (taken_then a taken patch)) (sym w.answer_is) in
      let left : doubt_left w.end (text_in doubt) patch.text ≡ text_in after.doubt = doubts_are w.end doubt patch ∙ ap text_in (sym w.doubt_is) in
      subst (λ (z : List (List ℕ) × Option (List ℕ)). LeavesEither (disks.past after.disk) zone_number z.0 z.1) (λ i. (texts i, left i)) (w.written.images plans tells long either))
      (λ (r : Refuses). subst (λ (z : ZoneView D × List CheckedPatch × Option CheckedPatch). LeavesEither (disks.past z.0.disk) zone_number (checked_texts z.1) (text_in z.2))
      (λ i. (sym r.same i, sym ((refused r).same taken patch) i, sym r.doubt_is i)) either)
      t.asks

  during : disks.tells → StandsForZone disks.tells (disks.past before.disk) before taken doubt → LeavesOnly (HoldsDuring zone_number (checked_texts taken) (text_in doubt) patch.text) (disks.past before.disk) (disks.past after.disk)
  during tells stands = ⊎_elim (λ (w : Writes). w.written.any_moment tells)
      (λ (r : Refuses). subst (λ (zone : ZoneView D). LeavesOnly (HoldsDuring zone_number (checked_texts taken) (text_in doubt) patch.text) (disks.past before.disk) (disks.past zone.disk)) (sym r.same)
      (still disks before taken doubt patch.text stands tells)) t.asks

-- the disk isn't asked, or memory isn't wanted
asked_or_not : (answer : TakeAnswer) → ((answer ≢ DiskFault) × ((version : ℕ) → answer ≢ Applied version)) ⊎ ((answer ≢ TermsFull) × (answer ≢ OutOfMemory))
asked_or_not (Applied version) = inr (λ at. cc, λ at. cc)
asked_or_not (Diverged have prev) = inr (λ at. cc, λ at. cc)
asked_or_not (Repeated version) = inr (λ at. cc, λ at. cc)
asked_or_not (Full what have limit) = inr (λ at. cc, λ at. cc)
asked_or_not TermsFull = inl (λ at. cc, λ version at. cc)
asked_or_not OutOfMemory = inl (λ at. cc, λ version at. cc)
asked_or_not DiskFault = inr (λ at. cc, λ at. cc)

-- a crash at any moment of the call leaves the patches taken, with the one in doubt, with the new
-- one, or with neither
pub any_moment : {D : Type 0} (disks : Ghosts D) (before after : ZoneView D) (patch : CheckedPatch) (answer : TakeAnswer)
    → ((taken : List CheckedPatch) (doubt : Option CheckedPatch) → StandsForZone disks.tells (disks.past before.disk) before taken doubt → answer ≢ TermsFull → answer ≢ OutOfMemory → TookOne disks before after taken doubt patch answer)
    → (answer ≢ DiskFault → ((version : ℕ) → answer ≢ Applied version) → after ≡ record before { terms = after.terms })
    → disks.tells → (taken : List CheckedPatch) (doubt : Option CheckedPatch) → StandsForZone disks.tells (disks.past before.disk) before taken doubt
    → LeavesOnly (HoldsDuring zone_number (checked_texts taken) (text_in doubt) patch.text) (disks.past before.disk) (disks.past after.disk)
any_moment {D} disks before after patch answer stay untouched tells taken doubt stands = ⊎_elim
    (λ (quiet : (answer ≢ DiskFault) × ((version : ℕ) → answer ≢ Applied version)). subst (λ (zone : ZoneView D). LeavesOnly (HoldsDuring zone_number (checked_texts taken) (text_in doubt) patch.text) (disks.past before.disk) (disks.past zone.disk))
    (sym (untouched quiet.0 quiet.1)) (still disks before taken doubt patch.text stands tells))
    (λ (has : (answer ≢ TermsFull) × (answer ≢ OutOfMemory)). during disks before after taken doubt patch answer (stay taken doubt stands has.0 has.1) tells stands)
    (asked_or_not answer)

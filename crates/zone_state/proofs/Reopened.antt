-- What opening finds in an image that a zone's disk may leave.
use Rattle.std.proofs.Common.{◌≡◌, ◌⊎◌, inl, inr, ⊎_elim, ℕ, List, [], ◌∷◌, ◌++◌, Option, Some, None, refl, sym, ◌∙◌, ap, subst, arith}
use Rattle.std.specs.List.{AllByRecursion}
use Rattle.disk_model.specs.Past.{Past, MayLeave}
use Rattle.log_base.specs.Journals.{payloads_length}
use Rattle.log_journal.specs.File.{Holds}
use Rattle.log_journal.proofs.OneReading.{one_list, one_number, never_both, never_old}
use Rattle.log_journal.specs.declared.form.Form.TheVariants.{New}
use Rattle.chain_core.specs.declared.chain.Patch.{Patch}
use Rattle.log_base.specs.declared.limits.LogLimits.{LogLimits}
use Rattle.log_base.specs.OneMore.{with_one_more}
use Rattle.chain_core.specs.Breaks.{BreaksAt}
use Rattle.chain_core.specs.Patches.{texts_of}
use Rattle.zone_state.specs.declared.fault.ZoneFault.{ZoneFault}
use Rattle.zone_state.specs.declared.fault.ZoneFault.TheVariants.{Failed, Damaged, OldFormat, WrongNumber, OverLimit, OutOfMemory, BrokenChain, TermsFull}
use Rattle.zone_state.specs.Fault.{HasZoneFault}
use Rattle.zone_state.specs.Log.{IsSoundZoneLog, StandsForZoneFile, AreChained}
use Rattle.patch_log.specs.Log.{IsSound}
use Rattle.zone_state.specs.Zone.{zone_number}
use Rattle.zone_state.proofs.Sound.{one_list as one_log, never_breaks, texts_of-push}

-- what a file that holds a zone can't tell
abbrev pub IsFree : ZoneFault → Type 0
IsFree fault = (fault ≡ Failed) ⊎ ((fault ≡ TermsFull) ⊎ (fault ≡ OutOfMemory))

-- no fault of a file that holds a zone
pub no_fault : (file : List ℕ) (limits : LogLimits) (patches : List Patch) (fault : ZoneFault) → Holds file zone_number (texts_of patches) → IsSoundZoneLog limits patches → HasZoneFault file limits fault → IsFree fault
no_fault file limits patches Failed holds log has = inl refl
no_fault file limits patches TermsFull holds log has = inr (inl refl)
no_fault file limits patches OutOfMemory holds log has = inr (inr refl)
no_fault file limits patches (Damaged at) holds log has = absurd (never_both New file zone_number at (texts_of patches) holds has)
no_fault file limits patches OldFormat holds log has = absurd (never_old file zone_number (texts_of patches) holds has)
no_fault file limits patches (WrongNumber found) holds log has = absurd (has.1 (one_number New file zone_number found (texts_of patches) (omega arith) holds has.0))
no_fault file limits patches (OverLimit size limit) holds log has =
    let same : has.0 ≡ texts_of patches = one_list New file zone_number has.0 (texts_of patches) has.1 holds in
    let room = log.log.room in
    absurd (omega (arith, has.2, has.3, room, ap payloads_length same))
no_fault file limits patches (BrokenChain version) holds log has =
    let same : has.0 ≡ texts_of patches = one_list New file zone_number has.0 (texts_of patches) has.1 holds in
    absurd (never_breaks limits patches version log (subst (λ (texts : List (List ℕ)). BreaksAt (AreChained limits.patches) texts version) same has.3))

-- the patches that an image holds
record HoldsLog (image : List ℕ) (number : ℕ) (limits : LogLimits) (chain : List Patch) (doubt : Option Patch) : Type 0 where
  patches : List Patch
  which : (patches ≡ chain) ⊎ (patches ≡ with_one_more chain doubt)
  log : IsSoundZoneLog limits patches
  holds : Holds image number (texts_of patches)

held : (past : Past) (number : ℕ) (limits : LogLimits) (chain : List Patch) (doubt : Option Patch) (image : List ℕ) → StandsForZoneFile past number limits chain doubt → MayLeave past image → HoldsLog image number limits chain doubt
held past number limits chain None image stands left = record { patches = chain; which = inl refl; log = stands.without; holds = stands.each image left }
held past number limits chain (Some doubt) image stands left = ⊎_elim
    (λ without. record { patches = chain; which = inl refl; log = stands.without; holds = without })
    (λ having. record { patches = chain ++ doubt ∷ []; which = inr refl; log = stands.having; holds = subst (λ (texts : List (List ℕ)). Holds image number texts) (sym (texts_of-push chain doubt)) having })
    (stands.each image left)

-- what is found is the chain, with the patch in doubt or without
pub found_again : (past : Past) (number : ℕ) (limits : LogLimits) (chain found : List Patch) (doubt : Option Patch) (image : List ℕ) → StandsForZoneFile past number limits chain doubt → MayLeave past image
    → Holds image number (texts_of found) → AllByRecursion IsSound found → (found ≡ chain) ⊎ (found ≡ with_one_more chain doubt)
found_again past number limits chain found doubt image stands left holds sound =
    let there = held past number limits chain doubt image stands left in
    let same : found ≡ there.patches = one_log found there.patches (one_list New image number (texts_of found) (texts_of there.patches) holds there.holds) sound there.log.sound in
    ⊎_elim (λ is. inl (same ∙ is)) (λ is. inr (same ∙ is)) there.which

pub no_fault_again : (past : Past) (limits : LogLimits) (chain : List Patch) (doubt : Option Patch) (image : List ℕ) (fault : ZoneFault) → StandsForZoneFile past zone_number limits chain doubt → MayLeave past image → HasZoneFault image limits fault → IsFree fault
no_fault_again past limits chain doubt image fault stands left has =
    let there = held past zone_number limits chain doubt image stands left in
    no_fault image limits there.patches fault there.holds there.log has

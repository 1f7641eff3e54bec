-- What opening finds in an image that a log's disk may leave.
use Rattle.std.proofs.Common.{◌≡◌, ◌⊎◌, inl, inr, ⊎_elim, ℕ, ◌^◌, ◌<◌, List, [], ◌∷◌, ◌++◌, Option, Some, None, refl, sym, ◌∙◌, ap, subst, arith}
use Rattle.std.specs.List.{AllByRecursion}
use Rattle.disk_model.specs.Past.{Past, MayLeave}
use Rattle.log_base.specs.Journals.{payloads_length}
use Rattle.log_journal.specs.File.{Holds}
use Rattle.log_journal.proofs.OneReading.{one_list, one_number, never_both, never_old}
use Rattle.log_journal.specs.declared.form.Form.TheVariants.{New}
use Rattle.chain_core.specs.declared.chain.Patch.{Patch}
use Rattle.log_base.specs.declared.limits.LogLimits.{LogLimits}
use Rattle.log_base.specs.OneMore.{with_one_more}
use Rattle.chain_core.specs.Patches.{journal_length}
use Rattle.chain_core.specs.Runs.{patches_in, run_texts}
use Rattle.chain_core.proofs.Runs.{file_shorter}
use Rattle.patch_log.specs.declared.fault.LogFault.{LogFault}
use Rattle.patch_log.specs.declared.fault.LogFault.TheVariants.{Failed, Damaged, OldFormat, WrongNumber, OverLimit, OutOfMemory, BrokenChain}
use Rattle.patch_log.specs.Fault.{HasLogFault}
use Rattle.patch_log.specs.Log.{IsSoundRun, IsSoundLog, StandsForLog, BreaksBehind}
use Rattle.patch_log.proofs.Sound.{one_list as one_log, never_breaks, runs_some, texts_of-push}

-- no fault of a file that holds a log
pub no_fault : (file : List ℕ) (number : ℕ) (limits : LogLimits) (runs : List (List Patch)) (fault : LogFault) → number < 2 ^ 32 → Holds file number (run_texts runs) → IsSoundLog limits runs → HasLogFault file number limits fault → (fault ≡ Failed) ⊎ (fault ≡ OutOfMemory)
no_fault file number limits runs Failed fits holds log has = inl refl
no_fault file number limits runs OutOfMemory fits holds log has = inr refl
no_fault file number limits runs (Damaged at) fits holds log has = absurd (never_both New file number at (run_texts runs) holds has)
no_fault file number limits runs OldFormat fits holds log has = absurd (never_old file number (run_texts runs) holds has)
no_fault file number limits runs (WrongNumber found) fits holds log has = absurd (has.1 (one_number New file number found (run_texts runs) fits holds has.0))
no_fault file number limits runs (OverLimit size limit) fits holds log (inl has) =
    let same : has.0 ≡ run_texts runs = one_list New file number has.0 (run_texts runs) has.1 holds in
    let room = log.log.room in
    absurd (omega (arith, has.2, has.3, room, ap payloads_length same, file_shorter runs (runs_some runs log.sound)))
no_fault file number limits runs (OverLimit size limit) fits holds log (inr long) =
    let same : long.payloads ≡ run_texts runs = one_list New file number long.payloads (run_texts runs) long.holds holds in
    let one : long.chained.runs ≡ runs = one_log long.chained.runs runs (long.chained.texts_are ∙ same) long.chained.sound log.sound in
    let room = log.log.room in
    absurd (omega (arith, long.passes, long.have_is, room, ap (λ (rs : List (List Patch)). journal_length (patches_in rs)) one))
no_fault file number limits runs (BrokenChain version) fits holds log has =
    let same : has.0 ≡ run_texts runs = one_list New file number has.0 (run_texts runs) has.1 holds in
    absurd (never_breaks limits runs version log (subst (λ (texts : List (List ℕ)). BreaksBehind limits.patches texts version) same has.3))

-- the patches that an image holds
record HoldsLog (image : List ℕ) (number : ℕ) (limits : LogLimits) (chain : List (List Patch)) (doubt : Option (List Patch)) : Type 0 where
  runs : List (List Patch)
  which : (runs ≡ chain) ⊎ (runs ≡ with_one_more chain doubt)
  log : IsSoundLog limits runs
  holds : Holds image number (run_texts runs)

held : (past : Past) (number : ℕ) (limits : LogLimits) (chain : List (List Patch)) (doubt : Option (List Patch)) (image : List ℕ) → StandsForLog past number limits chain doubt → MayLeave past image → HoldsLog image number limits chain doubt
held past number limits chain None image stands left = record { runs = chain; which = inl refl; log = stands.without; holds = stands.each image left }
held past number limits chain (Some doubt) image stands left = ⊎_elim
    (λ without. record { runs = chain; which = inl refl; log = stands.without; holds = without })
    (λ having. record { runs = chain ++ doubt ∷ []; which = inr refl; log = stands.having; holds = subst (λ (texts : List (List ℕ)). Holds image number texts) (sym (texts_of-push chain doubt)) having })
    (stands.each image left)

-- what is found is the chain, with the patch in doubt or without
pub found_again : (past : Past) (number : ℕ) (limits : LogLimits) (chain found : List (List Patch)) (doubt : Option (List Patch)) (image : List ℕ) → StandsForLog past number limits chain doubt → MayLeave past image
    → Holds image number (run_texts found) → AllByRecursion IsSoundRun found → (found ≡ chain) ⊎ (found ≡ with_one_more chain doubt)
found_again past number limits chain found doubt image stands left holds sound =
    let there = held past number limits chain doubt image stands left in
    let same : found ≡ there.runs = one_log found there.runs (one_list New image number (run_texts found) (run_texts there.runs) holds there.holds) sound there.log.sound in
    ⊎_elim (λ is. inl (same ∙ is)) (λ is. inr (same ∙ is)) there.which

pub no_fault_again : (past : Past) (number : ℕ) (limits : LogLimits) (chain : List (List Patch)) (doubt : Option (List Patch)) (image : List ℕ) (fault : LogFault) → number < 2 ^ 32 → StandsForLog past number limits chain doubt → MayLeave past image
    → HasLogFault image number limits fault → (fault ≡ Failed) ⊎ (fault ≡ OutOfMemory)
no_fault_again past number limits chain doubt image fault fits stands left has =
    let there = held past number limits chain doubt image stands left in
    no_fault image number limits there.runs fault fits there.holds there.log has

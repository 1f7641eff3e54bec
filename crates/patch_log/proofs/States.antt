-- What a log keeps, call by call.
use Rattle.std.proofs.Common.{◌≡◌, ◌≢◌, inl, ℕ, ◌+◌, ◌-◌, ◌^◌, ◌<◌, ◌≤◌, true, false, List, [], ◌∷◌, ◌++◌, length, Option, Some, None, Result, Ok, Err, refl, sym, ◌∙◌, ap, subst, length-append, arith}
use Rattle.log_base.specs.declared.limits.TheConstants.{PAYLOAD_FRAME}
use Rattle.std.specs.Prelude.{IsErr, is_err}
use Rattle.std.specs.List.{AllByRecursion}
use Rattle.std.proofs.lemmas.List.{length-map}
use Rattle.disk_model.specs.declared.disk.Disk.{Ghosts}
use Rattle.disk_model.specs.Past.{EveryImage}
use Rattle.log_journal.specs.declared.journal.Journal.{Journal}
use Rattle.log_journal.specs.StandsFor.{StandsFor, length_of, limit_of, count_of, is_settled, disk_of}
use Rattle.log_journal.specs.Writing.{StandsWith, failing}
use Rattle.log_journal.specs.Written.{DiskWent, Written}
use Rattle.log_journal.proofs.Disks.{went_by}
use Rattle.log_journal.proofs.Steps.{either}
use Rattle.chain_core.specs.declared.chain.Patch.{Patch}
use Rattle.chain_core.specs.declared.chain.Entry.{Entry}
use Rattle.log_base.specs.declared.limits.LogLimits.{LogLimits}
use Rattle.log_base.specs.declared.phase.Phase.{Phase}
use Rattle.log_base.specs.declared.phase.Phase.TheVariants.{Settling}
use Rattle.chain_core.specs.declared.fate.Fate.{Fate}
use Rattle.chain_core.specs.declared.fate.Fate.TheVariants.{Done, Fails}
use Rattle.chain_core.specs.declared.answer.Decision.{Decision}
use Rattle.chain_core.specs.declared.answer.Decision.TheVariants.{Accept, Known, Conflict, Full}
use Rattle.chain_core.specs.declared.answer.LogAnswer.{LogAnswer}
use Rattle.chain_core.specs.declared.answer.LogAnswer.TheVariants.{Accepted, DiskFault, OutOfMemory}
use Rattle.chain_core.specs.Chain.{IsBoundedChain}
use Rattle.chain_core.specs.Decision.{run_decision}
use Rattle.chain_core.specs.Runs.{AreWhole, entries_of, file_length, patches_in, run_text, run_texts, runs_of}
use Rattle.chain_core.specs.Log.{up, IsLog}
use Rattle.chain_core.specs.Patches.{patch_of, patches_of}
use Rattle.chain_core.specs.Stay.{Outcome, answer_of, decided_by, accepted_by, fate_of}
use Rattle.chain_core.proofs.Decided.{IsAcceptable, accepted}
use Rattle.chain_core.proofs.Fronts.{entries_kept}
use Rattle.chain_core.proofs.Runs.{file-push, file_shorter, patches_in-runs, runs_of-push, runs-some, whole-push}
use Rattle.patch_log.specs.Log.{run_payload, IsSoundRun, IsSoundLog, MayHoldChain, StandsForLog}
use Rattle.patch_log.specs.State.{LogView, JournalKeepsChain}
use Rattle.patch_log.specs.Run.{AppendedRun}
use Rattle.patch_log.proofs.Sound.{texts_of-push, log-push, run_is, runs_some}

-- ---- decisions and fates

-- a log that decides to accept
pub outcome_of : (runs : List (List Patch)) (doubt : Option (List Patch)) (run : List Patch) (limits : LogLimits) (version : ℕ) (fate : Fate) → Accept version ≡ run_decision (patches_in runs) run limits → decided_by (run_decision (patches_in runs) run limits) fate runs doubt run ≡ accepted_by version fate runs doubt run
outcome_of runs doubt run limits version fate is = ap (λ (made : Decision). decided_by made fate runs doubt run) (sym is)

-- one that decides otherwise
pub outcome_told : (made : Decision) (fate : Fate) (runs : List (List Patch)) (doubt : Option (List Patch)) (run : List Patch) → ((version : ℕ) → made ≡ Accept version → ⊥) → decided_by made fate runs doubt run ≡ (up runs doubt, Some (answer_of made))
outcome_told (Accept version) fate runs doubt run other = absurd (other version refl)
outcome_told (Known version same) fate runs doubt run other = refl
outcome_told (Conflict version head prev_version) fate runs doubt run other = refl
outcome_told (Full what have limit) fate runs doubt run other = refl

-- what is told then
pub record IsTold (answer : LogAnswer) : Type 0 where
  pub not_accepted : (version : ℕ) → answer ≡ Accepted version → ⊥
  pub no_fault : answer ≡ DiskFault → ⊥
  pub no_want : answer ≡ OutOfMemory → ⊥

pub told_is : (made : Decision) → ((version : ℕ) → made ≡ Accept version → ⊥) → IsTold (answer_of made)
told_is (Accept version) other = absurd (other version refl)
told_is (Known version same) other = record { not_accepted = λ v is. cc; no_fault = λ is. cc; no_want = λ is. cc }
told_is (Conflict version head prev_version) other = record { not_accepted = λ v is. cc; no_fault = λ is. cc; no_want = λ is. cc }
told_is (Full what have limit) other = record { not_accepted = λ v is. cc; no_fault = λ is. cc; no_want = λ is. cc }

-- what the chain decides of a run, as the log's runs decide it
pub by_runs : (entries : List Entry) (run given : List Patch) (limits : LogLimits) (made : Decision) → made ≡ run_decision (patches_of entries) given limits → given ≡ run → made ≡ run_decision (patches_in (runs_of entries)) run limits
by_runs entries run given limits made is same = is ∙ ap (λ (r : List Patch). run_decision (patches_of entries) r limits) same ∙ ap (λ (ps : List Patch). run_decision ps run limits) (sym (patches_in-runs entries))

-- ---- images

true_or_false : true ≡ false → ⊥
true_or_false same = cc

module _ {D : Type 0} {disks : Ghosts D} (number : ℕ) where
  pub each_holds : (journal : Journal D disks) (runs : List (List Patch)) (doubt : Option (List Patch)) → StandsWith journal number (run_texts runs) (run_payload doubt) → disks.tells → EveryImage (disks.past (disk_of journal)) (MayHoldChain number runs doubt)
  each_holds journal runs None stands told = (stands.1 told).each
  each_holds journal runs (Some doubt) stands told = λ image left.
      let all = stands.1 told in
      either (length_of journal) number (run_texts runs) (run_text doubt) all.doubt_sized all.few image all.sized (all.each image left)

  -- its journal has a payload for each run
  pub counted : (journal : Journal D disks) (runs : List (List Patch)) (doubt : Option (List Patch)) → StandsWith journal number (run_texts runs) (run_payload doubt) → count_of journal ≡ length runs
  counted journal runs None stands = stands.2 ∙ length-map runs run_text
  counted journal runs (Some doubt) stands = stands.2 ∙ length-map runs run_text

  -- a settling that failed had a doubt
  pub settling_fails : (journal : Journal D disks) (version : ℕ) (runs : List (List Patch)) (doubt : Option (List Patch)) (run : List Patch) → StandsWith journal number (run_texts runs) (run_payload doubt) → is_settled journal ≡ false → accepted_by version (Fails Settling) runs doubt run ≡ (up runs doubt, Some DiskFault)
  settling_fails journal version runs None run stands open_gate = absurd (true_or_false (sym stands.0 ∙ open_gate))
  settling_fails journal version runs (Some doubt) run stands open_gate = refl

-- ---- appends

-- runs are no more than their patches
runs_few : (runs : List (List Patch)) → AllByRecursion (λ (run : List Patch). 0 < length run) runs → length runs ≤ length (patches_in runs)
runs_few [] some = omega arith
runs_few (run ∷ runs) some = omega (arith, some.0, runs_few runs some.1, length-append run (patches_in runs))

module _ {D : Type 0} {disks : Ghosts D} (journal new : Journal D disks) (entries : List Entry) (doubt : Option (List Patch)) (number : ℕ) (limits : LogLimits) (kept : JournalKeepsChain journal entries doubt number limits) where
  abbrev runs : List (List Patch)
  runs = runs_of entries

  pub stands_for_log : disks.tells → StandsForLog (disks.past (disk_of journal)) number limits runs doubt
  stands_for_log told = record { each = each_holds number journal runs doubt kept.stands told; without = kept.without; having = kept.having }

  -- the entries are a chain that can be kept
  pub bounded : IsBoundedChain entries
  bounded =
      let log : IsLog limits (patches_of entries) = subst (λ (ps : List Patch). IsLog limits ps) (patches_in-runs entries) kept.without.log in
      entries_kept entries log.chain (omega (arith, log.few, kept.countable, length-map entries patch_of)) log.short

  module _ (run : List Patch) (version : ℕ) (is : Accept version ≡ run_decision (patches_in runs) run limits) (sound : IsSoundRun run) (payload : List ℕ) (payload_is : payload ≡ run_text run) where
    can : IsAcceptable (patches_in runs) run limits
    can = (accepted (patches_in runs) run limits version (sym is)).0

    more : IsSoundLog limits (runs ++ run ∷ [])
    more = log-push limits runs run version kept.without sound (sym is)

    some : 0 < length run
    some = (run_is run sound).some

    -- the runs with one more
    pub pushed : (by : ℕ) → runs_of (entries ++ entries_of run by) ≡ runs ++ run ∷ []
    pushed by = runs_of-push entries run by kept.whole some

    -- the patches with those of the run
    patches_pushed : (by : ℕ) → patches_of (entries ++ entries_of run by) ≡ patches_in (runs ++ run ∷ [])
    patches_pushed by = sym (patches_in-runs (entries ++ entries_of run by)) ∙ ap patches_in (pushed by)

    -- the chain can take the run
    pub chain_kept : (by : ℕ) → IsBoundedChain (entries ++ entries_of run by)
    chain_kept by =
        let longer = entries ++ entries_of run by in
        let log : IsLog limits (patches_of longer) = subst (λ (ps : List Patch). IsLog limits ps) (sym (patches_pushed by)) more.log in
        entries_kept longer log.chain (omega (arith, log.few, kept.countable, length-map longer patch_of)) log.short

    -- the file is no longer than with a payload for each patch
    pub room : length_of journal + PAYLOAD_FRAME + length payload ≤ limit_of journal
    room = omega (arith, more.log.room, file_shorter (runs ++ run ∷ []) (runs_some (runs ++ run ∷ []) more.sound), file-push runs run, kept.length_is, kept.limit_is, ap length payload_is)

    pub numbered : count_of journal < 2 ^ 32 - 1
    numbered = omega (arith, counted number journal runs doubt kept.stands, runs_few runs (runs-some entries), can.places, some, kept.countable)

    -- it was added
    pub kept_done : (by : ℕ) → StandsWith new number (run_texts runs ++ payload ∷ []) None → length_of new ≡ length_of journal + (PAYLOAD_FRAME + length payload) → limit_of new ≡ limit_of journal
        → JournalKeepsChain new (entries ++ entries_of run by) None number limits
    kept_done by stands length_is limit_is = record {
      whole = whole-push entries run by kept.whole;
      stands = subst (λ (texts : List (List ℕ)). StandsFor new number texts) (ap (λ (text : List ℕ). run_texts runs ++ text ∷ []) payload_is ∙ sym (texts_of-push runs run) ∙ ap run_texts (sym (pushed by))) stands;
      without = subst (λ (rs : List (List Patch)). IsSoundLog limits rs) (sym (pushed by)) more;
      having = subst (λ (rs : List (List Patch)). IsSoundLog limits rs) (sym (pushed by)) more;
      length_is = omega (arith, length_is, kept.length_is, file-push runs run, ap length payload_is, ap file_length (pushed by));
      limit_is = limit_is ∙ kept.limit_is;
      countable = kept.countable;
    }

    -- one append was made of it, by how the write ended
    module _ (by spare spare_left : ℕ) (result : Result Unit Phase) (went : DiskWent disks (IsErr result) (disk_of journal) (disk_of new))
        (written : Written disks (disk_of journal) (disk_of new) number (run_texts runs) (run_payload doubt) payload (failing result)) where
      abbrev before : LogView D
      before = record { entries = entries; doubt = doubt; number = number; limits = limits; spare = spare; disk = disk_of journal }

      abbrev left_with : List Entry → Option (List Patch) → LogView D
      left_with items left = record { entries = items; doubt = left; number = number; limits = limits; spare = spare_left; disk = disk_of new }

      made : (items : List Entry) (left : Option (List Patch)) (answer : LogAnswer) → AreWhole items → accepted_by version (fate_of (failing result)) runs doubt run ≡ (up (runs_of items) left, Some answer) → ((v : ℕ) → answer ≡ Accepted v → items ≡ entries ++ entries_of run by)
          → (((v : ℕ) → answer ≢ Accepted v) → items ≡ entries) → (answer ≢ DiskFault → ((v : ℕ) → answer ≢ Accepted v) → ⊥) → (answer ≡ DiskFault → IsErr result) → (IsErr result → answer ≡ DiskFault) → AppendedRun disks before (left_with items left) run by answer
      made items left answer whole comes accepts refuses told to from =
          let stays = outcome_of runs doubt run limits version (fate_of (failing result)) is ∙ comes in
          let text_written = subst (λ (text : List ℕ). Written disks (disk_of journal) (disk_of new) number (run_texts runs) (run_payload doubt) text (failing result)) payload_is written in
          record {
            stood = stands_for_log;
            appends = inl (fate_of (failing result), stays);
            asks = inl (record { version = version; can = sym is; end = failing result; stay = stays; written = text_written });
            found_whole = kept.whole;
            left_whole = whole;
            accepted = accepts;
            refused = refuses;
            went = went_by disks (disk_of journal) (disk_of new) (IsErr result) (answer ≡ DiskFault) to from went;
            untouched = λ other never. absurd (told other never);
            limits = refl;
            number = refl;
          }

      comes_to : (end : Option Phase) (outcome : Outcome (List Patch)) → failing result ≡ end → accepted_by version (fate_of end) runs doubt run ≡ outcome → accepted_by version (fate_of (failing result)) runs doubt run ≡ outcome
      comes_to end outcome ends is = ap (λ (e : Option Phase). accepted_by version (fate_of e) runs doubt run) ends ∙ is

      pub appended_done : result ≡ Ok tt → AppendedRun disks before (left_with (entries ++ entries_of run by) None) run by (Accepted version)
      appended_done ok =
          let comes : accepted_by version Done runs doubt run ≡ (up (runs_of (entries ++ entries_of run by)) None, Some (Accepted version)) = rw (pushed by) refl in
          let never : IsErr result → ⊥ = λ failed. let no : false ≡ true = sym (ap is_err ok) ∙ failed in cc in
          made (entries ++ entries_of run by) None (Accepted version) (whole-push entries run by kept.whole) (comes_to None _ (ap failing ok) comes) (λ v at. refl) (λ other. absurd (other version refl)) (λ other none. none version refl) (λ at. absurd (cc)) (λ at. absurd (never at))

      pub appended_failed : (phase : Phase) (left : Option (List Patch)) → result ≡ Err phase → accepted_by version (Fails phase) runs doubt run ≡ (up runs left, Some DiskFault) → AppendedRun disks before (left_with entries left) run by DiskFault
      appended_failed phase left failed comes =
          made entries left DiskFault kept.whole (comes_to (Some phase) _ (ap failing failed) comes) (λ v at. absurd (cc)) (λ other. refl) (λ other none. other refl) (λ at. ap is_err failed) (λ at. refl)

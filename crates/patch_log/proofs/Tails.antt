-- What a tail keeps, whatever entries it stands for.
use Rattle.std.proofs.Common.{◌≡◌, ℕ, ◌+◌, ◌-◌, ◌^◌, ◌<◌, ◌≤◌, false, List, ◌++◌, length, Option, Some, None, Result, Ok, Err, refl, sym, ◌∙◌, ap, subst, arith}
use Rattle.std.specs.Prelude.{IsErr}
use Rattle.disk_model.specs.declared.disk.Disk.{Ghosts}
use Rattle.log_base.specs.OneMore.{with_one_more}
use Rattle.log_base.specs.declared.limits.TheConstants.{PAYLOAD_FRAME}
use Rattle.log_base.specs.declared.phase.Phase.{Phase}
use Rattle.log_base.specs.declared.phase.Phase.TheVariants.{Settling, Body, Gate}
use Rattle.log_journal.specs.declared.journal.Journal.{Journal}
use Rattle.log_journal.specs.StandsFor.{count_of, disk_of, is_settled, length_of, limit_of}
use Rattle.log_journal.specs.Writing.{StandsWith, doubt_left, failing, longer_by, payloads_left}
use Rattle.log_journal.specs.Written.{DiskWent, Written}
use Rattle.chain_core.specs.declared.chain.Entry.{Entry}
use Rattle.chain_core.specs.declared.chain.Patch.{Patch}
use Rattle.chain_core.specs.declared.answer.Decision.TheVariants.{Accept}
use Rattle.chain_core.specs.declared.answer.LogAnswer.TheVariants.{Accepted, DiskFault}
use Rattle.chain_core.specs.declared.fate.Fate.TheVariants.{Fails}
use Rattle.chain_core.specs.Decision.{run_decision}
use Rattle.chain_core.specs.Log.{up}
use Rattle.chain_core.specs.Runs.{entries_of, patches_in, run_text, run_texts, runs_of}
use Rattle.chain_core.specs.Stay.{accepted_by}
use Rattle.chain_core.proofs.Runs.{patches_in-runs}
use Rattle.patch_log.specs.Log.{IsSoundLog, IsSoundRun, StandsForLog, run_payload}
use Rattle.patch_log.specs.Ready.{ReadyView}
use Rattle.patch_log.specs.Tail.{IsAppendOf, StandsForChain, TakesRun}
use Rattle.patch_log.specs.declared.tail.LogTail.{LogTail}
use Rattle.patch_log.proofs.Sound.{log-push}
use Rattle.patch_log.proofs.States.{appended_done, appended_failed, bounded, by_runs, chain_kept, kept_done, numbered, room, settling_fails, stands_for_log}

-- its disk stands for the log of it and the entries
pub stands_for : {D : Type 0} {disks : Ghosts D} (tail : LogTail D disks) (entries : List Entry) → StandsForChain tail entries → disks.tells → StandsForLog (disks.past (disk_of tail.journal)) tail.number tail.limits (runs_of entries) tail.doubt
stands_for tail entries kept told = stands_for_log tail.journal tail.journal entries tail.doubt tail.number tail.limits kept told

-- the entries decide as the runs that they are
accepts : (entries : List Entry) {D : Type 0} {disks : Ghosts D} (tail : LogTail D disks) (run : List Patch) (version : ℕ) → TakesRun tail entries run version → Accept version ≡ run_decision (patches_in (runs_of entries)) run tail.limits
accepts entries tail run version takes = by_runs entries run run tail.limits (Accept version) (sym takes.1) refl

module _ {D : Type 0} {disks : Ghosts D} (old : LogTail D disks) (entries : List Entry) (run : List Patch) (version : ℕ) (takes : TakesRun old entries run version) (sound : IsSoundRun run) (payload : List ℕ) (payload_is : payload ≡ run_text run) where
  -- the journal has room for it
  pub write_room : length_of old.journal + PAYLOAD_FRAME + length payload ≤ limit_of old.journal
  write_room = room old.journal old.journal entries old.doubt old.number old.limits takes.0 run version (accepts entries old run version takes) sound payload payload_is

  pub write_few : count_of old.journal < 2 ^ 32 - 1
  write_few = numbered old.journal old.journal entries old.doubt old.number old.limits takes.0 run version (accepts entries old run version takes) sound payload payload_is

-- how the write of a run ended, by the phase that failed
module _ {D : Type 0} (disks : Ghosts D) (old : LogTail D disks) (journal : Journal D disks) (entries : List Entry) (ready : ReadyView) (version : ℕ) (takes : TakesRun old entries ready.run version) (sound : IsSoundRun ready.run)
    (payload : List ℕ) (payload_is : payload ≡ run_text ready.run) (result : Result Unit Phase) (went : DiskWent disks (IsErr result) (disk_of old.journal) (disk_of journal))
    (written : Written disks (disk_of old.journal) (disk_of journal) old.number (run_texts (runs_of entries)) (run_payload old.doubt) payload (failing result))
    (stands : StandsWith journal old.number (payloads_left (failing result) (run_texts (runs_of entries)) payload) (doubt_left (failing result) (run_payload old.doubt) payload))
    (length_is : length_of journal ≡ length_of old.journal + longer_by (failing result) (length payload)) (limit_is : limit_of journal ≡ limit_of old.journal) where
  abbrev runs : List (List Patch)
  runs = runs_of entries

  abbrev left_with : Option (List Patch) → LogTail D disks
  left_with doubt = record old { journal = journal; doubt = doubt }

  can : Accept version ≡ run_decision (patches_in runs) ready.run old.limits
  can = accepts entries old ready.run version takes

  stands_at : (end : Result Unit Phase) → result ≡ end → StandsWith journal old.number (payloads_left (failing end) (run_texts runs) payload) (doubt_left (failing end) (run_payload old.doubt) payload)
  stands_at end is = subst (λ (r : Result Unit Phase). StandsWith journal old.number (payloads_left (failing r) (run_texts runs) payload) (doubt_left (failing r) (run_payload old.doubt) payload)) is stands

  length_at : (end : Result Unit Phase) → result ≡ end → length_of journal ≡ length_of old.journal + longer_by (failing end) (length payload)
  length_at end is = subst (λ (r : Result Unit Phase). length_of journal ≡ length_of old.journal + longer_by (failing r) (length payload)) is length_is

  -- it was written
  pub wrote : result ≡ Ok tt → IsAppendOf disks old (left_with None) entries (entries ++ entries_of ready.run ready.by) ready (Accepted version)
  wrote ok = record {
    stands = kept_done old.journal journal entries old.doubt old.number old.limits takes.0 ready.run version can sound payload payload_is ready.by (stands_at (Ok tt) ok) (length_at (Ok tt) ok) limit_is;
    kept = chain_kept old.journal journal entries old.doubt old.number old.limits takes.0 ready.run version can sound payload payload_is ready.by;
    appended = λ spare places. appended_done old.journal journal entries old.doubt old.number old.limits takes.0 ready.run version can sound payload payload_is ready.by spare places result went written ok;
  }

  -- a phase failed, and left this in doubt
  failed : (phase : Phase) (left : Option (List Patch)) → result ≡ Err phase → doubt_left (Some phase) (run_payload old.doubt) payload ≡ run_payload left → IsSoundLog old.limits (with_one_more runs left)
      → accepted_by version (Fails phase) runs old.doubt ready.run ≡ (up runs left, Some DiskFault) → IsAppendOf disks old (left_with left) entries entries ready DiskFault
  failed phase left is doubt_is having comes = record {
    stands = record {
      whole = takes.0.whole;
      stands = subst (λ (doubt : Option (List ℕ)). StandsWith journal old.number (run_texts runs) doubt) doubt_is (stands_at (Err phase) is);
      without = takes.0.without;
      having = having;
      length_is = omega (arith, length_at (Err phase) is, takes.0.length_is);
      limit_is = limit_is ∙ takes.0.limit_is;
      countable = takes.0.countable;
    };
    kept = bounded old.journal journal entries old.doubt old.number old.limits takes.0;
    appended = λ spare places. appended_failed old.journal journal entries old.doubt old.number old.limits takes.0 ready.run version can sound payload payload_is ready.by spare places result went written phase left is comes;
  }

  pub failed_settling : result ≡ Err Settling → is_settled old.journal ≡ false → IsAppendOf disks old (left_with old.doubt) entries entries ready DiskFault
  failed_settling is open_gate = failed Settling old.doubt is refl takes.0.having (settling_fails old.number old.journal version runs old.doubt ready.run takes.0.stands open_gate)

  pub failed_body : result ≡ Err Body → IsAppendOf disks old (left_with None) entries entries ready DiskFault
  failed_body is = failed Body None is refl takes.0.without refl

  pub failed_gate : result ≡ Err Gate → IsAppendOf disks old (left_with (Some ready.run)) entries entries ready DiskFault
  failed_gate is = failed Gate (Some ready.run) is (ap Some payload_is) (log-push old.limits runs ready.run version takes.0.without sound (sym can)) refl

-- what the runs accept, the entries accept
pub taken : {D : Type 0} {disks : Ghosts D} (tail : LogTail D disks) (entries : List Entry) (run : List Patch) (version : ℕ) → StandsForChain tail entries → run_decision (patches_in (runs_of entries)) run tail.limits ≡ Accept version
    → TakesRun tail entries run version
taken tail entries run version stands accept = (stands, rw (← patches_in-runs entries) accept)

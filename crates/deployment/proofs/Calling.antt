-- The calls of a pass: what it knows goes on, and what it brought its calls handed in.
use Rattle.std.proofs.Common.{◌≡◌, ◌⊎◌, inl, inr, ⊎_elim, ℕ, zero, suc, ◌+◌, List, [], ◌∷◌, ◌++◌, length, Option, Some, None, refl, sym, ◌∙◌, ap, subst, arith}
use Rattle.std.specs.Prelude.{slice_get}
use Rattle.std.proofs.lemmas.List.{map-append, length-map}
use mathlib.Core.List.{IsPrefix}
use Rattle.disk_model.specs.declared.disk.Disk.{Ghosts}
use Rattle.log_base.specs.declared.limits.LogLimits.{LogLimits}
use Rattle.chain_core.specs.declared.chain.Patch.{Patch}
use Rattle.chain_core.specs.declared.answer.LogAnswer.{LogAnswer}
use Rattle.chain_core.specs.declared.answer.LogAnswer.TheVariants.{Accepted, AcceptedRun, Known, Conflict, Full, DiskFault, OutOfMemory}
use Rattle.chain_core.specs.Patches.{patch_at}
use Rattle.chain_core.specs.Runs.{entries_of}
use Rattle.chain_core.specs.Replies.{LogCall, append, append_run, fetch_version, fetch_id, describe, version, LogReply, answered, as_run}
use Rattle.chain_core.proofs.Runs.{patches_of-run}
use Rattle.patch_log.specs.State.{LogView}
use Rattle.turn_cell.specs.declared.view.Known.{Known as Told}
use Rattle.turn_cell.specs.Calls.{IsReplied}
use Rattle.turn_cell.specs.Turns.{IsIn}
use Rattle.turn_cell.specs.Knowing.{SeesOn, IsQuiet, pass_number, seen_of, mine_of, failed_of}
use Rattle.turn_cell.proofs.Views.{prefix_trans, prefix_refl}
use Rattle.turn_cell.proofs.Members.{in_either}
use Rattle.shared_log.specs.declared.value.Placed.{Placed}
use Rattle.shared_log.specs.History.{LogSight, patches_known, history_of}
use Rattle.shared_log.specs.Calls.{MayWant}
use Rattle.shared_log.specs.Legal.{BroughtRun, IsAppendAnswer, IsLogTold, MayLeaveRun, places_behind}
use Rattle.shared_log.specs.Stays.{CalledOnLog}
use Rattle.shared_log.proofs.Histories.{known_chain}
use Rattle.world_core.proofs.Growing.{still_at}
use Rattle.deployment.specs.Calls.{IsToAppend, TellsAccepted, SeenCall, IsLegalCall, AreSeenCalls, HasDone, nothing, brought, doubted, IsAmid}
use Rattle.deployment.specs.Promise.{IsHandedIn}
use Rattle.deployment.proofs.Fronts.{patches_go_on}

-- ---- what a pass knows goes on

module _ {D : Type 0} (disks : Ghosts D) (origin : LogView D) where
  legal_sees : (p q : LogSight) (call : LogCall) (reply : Option LogReply) → IsReplied (CalledOnLog disks origin) MayWant p call reply q → SeesOn p q
  legal_sees p q call (Some reply) called = called.legal.0
  legal_sees p q call None wants = wants.1.0

  pub calls_go_on : (p q : LogSight) (calls : List SeenCall) → AreSeenCalls disks origin p calls q → IsPrefix (seen_of p) (seen_of q)
  calls_go_on p q [] same = subst (λ (x : LogSight). IsPrefix (seen_of p) (seen_of x)) (sym same) (prefix_refl (seen_of p))
  calls_go_on p q (seen ∷ more) are =
      let first : SeesOn seen.before seen.after = legal_sees seen.before seen.after seen.call seen.reply are.1.0 in
      let here : IsPrefix (seen_of p) (seen_of seen.after) = subst (λ (x : LogSight). IsPrefix (seen_of x) (seen_of seen.after)) are.0 first.2 in
      prefix_trans (seen_of p) (seen_of seen.after) (seen_of q) here (calls_go_on seen.after q more are.2)

  -- each of them was legal, and what the pass then knew it knew on
  pub one_call : (p q : LogSight) (calls : List SeenCall) (seen : SeenCall) → AreSeenCalls disks origin p calls q → IsIn seen calls → IsLegalCall disks origin seen × IsPrefix (seen_of seen.after) (seen_of q)
  one_call p q [] seen are i = absurd i
  one_call p q (first ∷ more) seen are i = ⊎_elim
      (λ (e : seen ≡ first). subst (λ (x : SeenCall). IsLegalCall disks origin x × IsPrefix (seen_of x.after) (seen_of q)) (sym e) (are.1, calls_go_on first.after q more are.2))
      (λ (j : IsIn seen more). one_call first.after q more seen are.2 j) i

pub amid_on : (p q : LogSight) (call : Option LogCall) → IsAmid p call q → IsPrefix (seen_of p) (seen_of q)
amid_on p q None same = subst (λ (x : LogSight). IsPrefix (seen_of p) (seen_of x)) (sym same) (prefix_refl (seen_of p))
amid_on p q (Some call) amid = amid.0

-- ---- a run that was brought

pub brought_patches : (p q : LogSight) (run : List Patch) (place : ℕ) (b : BroughtRun run place p q) → patches_known (seen_of q) ≡ patches_known b.before ++ run
brought_patches p q run place b =
    let entries = entries_of run (pass_number p) in
    ap patches_known b.sees ∙ map-append (λ (known : Told Placed). known.content.patch) b.before (history_of entries)
    ∙ ap (λ (patches : List Patch). patches_known b.before ++ patches) (known_chain entries ∙ patches_of-run run (pass_number p))

got_behind : (front run : List Patch) (k n : ℕ) → n ≡ length front + k → slice_get (front ++ run) n ≡ slice_get run k
got_behind [] run k n at = let same : n ≡ k = omega (arith, at) in ap (slice_get run) same
got_behind (x ∷ front) run k zero at = absurd (omega (arith, at))
got_behind (x ∷ front) run k (suc n) at = got_behind front run k n (omega (arith, at))

-- one of so many places behind a place
record IsPlaced (run : List Patch) (at place : ℕ) : Type 0 where
  k : ℕ
  patch : Patch
  is_at : place ≡ at + k + 1
  is_in : IsIn patch run
  got : slice_get run k ≡ Some patch

placed : (run : List Patch) (at place : ℕ) → IsIn place (places_behind at (length run)) → IsPlaced run at place
placed [] at place i = absurd i
placed (patch ∷ run) at place i = ⊎_elim
    (λ (e : place ≡ at + 1). let here : place ≡ at + 0 + 1 = omega (arith, e) in record { k = zero; patch = patch; is_at = here; is_in = inl refl; got = refl })
    (λ (j : IsIn place (places_behind (at + 1) (length run))).
    let there = placed run (at + 1) place j in
    let here : place ≡ at + suc there.k + 1 = omega (arith, there.is_at) in
    record { k = suc there.k; patch = there.patch; is_at = here; is_in = inr there.is_in; got = there.got }) i

-- at each of its places stands one of the run's patches
stands_brought : (p q : LogSight) (run : List Patch) (last : ℕ) (b : BroughtRun run last p q) (place : ℕ) → IsIn place (places_behind (length b.before) (length run)) → (patch : Patch) × IsIn patch run × (patch_at (patches_known (seen_of q)) place ≡ Some patch)
stands_brought p q run last b zero i = let there = placed run (length b.before) zero i in absurd (omega (arith, there.is_at))
stands_brought p q run last b (suc n) i =
    let there = placed run (length b.before) (suc n) i in
    let at : n ≡ length (patches_known b.before) + there.k = omega (arith, there.is_at, length-map b.before (λ (known : Told Placed). known.content.patch)) in
    (there.patch, there.is_in, ap (λ (ps : List Patch). slice_get ps n) (brought_patches p q run last b) ∙ got_behind (patches_known b.before) run there.k n at ∙ there.got)

-- ---- what a call brought

data Does (call : LogCall) (reply : Option LogReply) (p q : LogSight) : Type 0 where
  quiet : mine_of q ≡ mine_of p → failed_of q ≡ failed_of p → Does call reply p q
  accepts : (run : List Patch) (place : ℕ) → IsToAppend call run → TellsAccepted reply → BroughtRun run place p q → Does call reply p q
  faults : (run : List Patch) → IsToAppend call run → reply ≡ Some (answered DiskFault) → mine_of q ≡ mine_of p → MayLeaveRun run p q → Does call reply p q

module _ (limits : LogLimits) (p q : LogSight) where
  still : (call : LogCall) (reply : Option LogReply) → IsQuiet p q → Does call reply p q
  still call reply is = quiet is.0 is.2

  does_append : (patch : Patch) (answer : LogAnswer) → IsAppendAnswer limits (append patch) (patch ∷ []) answer p q → Does (append patch) (Some (answered answer)) p q
  does_append patch (Accepted place) is = accepts (patch ∷ []) place refl tt is.0
  does_append patch (AcceptedRun first place) is = absurd is
  does_append patch (Known place same) is = still (append patch) (Some (answered (Known place same))) is.1
  does_append patch (Conflict place head named) is = still (append patch) (Some (answered (Conflict place head named))) is.1
  does_append patch (Full what have limit) is = still (append patch) (Some (answered (Full what have limit))) is.1
  does_append patch DiskFault is = faults (patch ∷ []) refl refl is.2 is.3
  does_append patch OutOfMemory is = still (append patch) (Some (answered OutOfMemory)) is.1

  does_run : (run : List Patch) (answer : LogAnswer) → IsAppendAnswer limits (append_run run) run answer p q → Does (append_run run) (Some (answered (as_run (length run) answer))) p q
  does_run run (Accepted place) is = accepts run place refl tt is.0
  does_run run (AcceptedRun first place) is = absurd is
  does_run run (Known place same) is = still (append_run run) (Some (answered (Known place same))) is.1
  does_run run (Conflict place head named) is = still (append_run run) (Some (answered (Conflict place head named))) is.1
  does_run run (Full what have limit) is = still (append_run run) (Some (answered (Full what have limit))) is.1
  does_run run DiskFault is = faults run refl refl is.2 is.3
  does_run run OutOfMemory is = still (append_run run) (Some (answered OutOfMemory)) is.1

  does_told : (call : LogCall) (reply : LogReply) → IsLogTold limits call reply p q → Does call (Some reply) p q
  does_told (append patch) reply told = subst (λ (r : LogReply). Does (append patch) (Some r) p q) (sym told.1) (does_append patch told.0 told.2)
  does_told (append_run run) reply told = subst (λ (r : LogReply). Does (append_run run) (Some r) p q) (sym told.1) (does_run run told.0 told.2)
  does_told (fetch_version place) reply told = still (fetch_version place) (Some reply) told.1
  does_told (fetch_id id) reply told = still (fetch_id id) (Some reply) told.1
  does_told describe reply told = still describe (Some reply) told.1
  does_told version reply told = still version (Some reply) told.1

does : {D : Type 0} (disks : Ghosts D) (origin : LogView D) (p q : LogSight) (call : LogCall) (reply : Option LogReply) → IsReplied (CalledOnLog disks origin) MayWant p call reply q → Does call reply p q
does disks origin p q call (Some reply) called = does_told origin.limits p q call reply called.legal.1
does disks origin p q call None wants = still origin.limits p q call None wants.1.1

-- ---- what calls brought

-- a patch stands at this place that one of these calls handed in, and was told as accepted
pub record WasTaken (calls : List SeenCall) (q : LogSight) (place : ℕ) : Type 0 where
  pub seen : SeenCall
  pub of_calls : IsIn seen calls
  pub told : TellsAccepted seen.reply
  pub patch : Patch
  pub handed_in : IsHandedIn seen.call patch
  pub stands : patch_at (patches_known (seen_of q)) place ≡ Some patch

-- this run was told a fault of the disk
abbrev pub WasFaulted : List SeenCall → List Patch → Type 0
WasFaulted calls run = (seen : SeenCall) × IsIn seen calls × IsToAppend seen.call run × (seen.reply ≡ Some (answered DiskFault))

module _ {D : Type 0} (disks : Ghosts D) (origin : LogView D) where
  taken_on : (first : SeenCall) (more : List SeenCall) (q : LogSight) (place : ℕ) → WasTaken more q place → WasTaken (first ∷ more) q place
  taken_on first more q place was = record { seen = was.seen; of_calls = inr was.of_calls; told = was.told; patch = was.patch; handed_in = was.handed_in; stands = was.stands }

  place_of_first : (first : SeenCall) (more : List SeenCall) (q : LogSight) (place : ℕ) → AreSeenCalls disks origin first.after more q → Does first.call first.reply first.before first.after → IsIn place (mine_of first.after) → IsIn place (mine_of first.before) ⊎ WasTaken (first ∷ more) q place
  place_of_first first more q place are (quiet mine failed) i = inl (subst (IsIn place) mine i)
  place_of_first first more q place are (faults run is_to told mine failed) i = inl (subst (IsIn place) mine i)
  place_of_first first more q place are (accepts run last is_to told b) i = ⊎_elim (λ (j : IsIn place (mine_of first.before)). inl j)
      (λ (j : IsIn place (places_behind (length b.before) (length run))).
      let there = stands_brought first.before first.after run last b place j in
      let grows = patches_go_on (seen_of first.after) (seen_of q) (calls_go_on disks origin first.after q more are) in
      inr (record {
        seen = first;
        of_calls = inl refl;
        told = told;
        patch = there.0;
        handed_in = (run, is_to, there.1);
        stands = still_at (patches_known (seen_of first.after)) (patches_known (seen_of q)) place there.0 grows there.2;
      })) (in_either (mine_of first.before) (places_behind (length b.before) (length run)) place (subst (IsIn place) b.mine i))

  -- a place of its own is one that it had, or one that was told as accepted
  pub place_told : (p q : LogSight) (calls : List SeenCall) (place : ℕ) → AreSeenCalls disks origin p calls q → IsIn place (mine_of q) → IsIn place (mine_of p) ⊎ WasTaken calls q place
  place_told p q [] place same i = inl (subst (λ (x : LogSight). IsIn place (mine_of x)) same i)
  place_told p q (first ∷ more) place are i = ⊎_elim
      (λ (j : IsIn place (mine_of first.after)). ⊎_elim (λ (k : IsIn place (mine_of first.before)). inl (subst (λ (x : LogSight). IsIn place (mine_of x)) are.0 k))
      (λ (was : WasTaken (first ∷ more) q place). inr was)
      (place_of_first first more q place are.2 (does disks origin first.before first.after first.call first.reply are.1.0) j))
      (λ (was : WasTaken more q place). inr (taken_on first more q place was)) (place_told first.after q more place are.2 i)

  fault_of_first : (first : SeenCall) (more : List SeenCall) (run : List Patch) → Does first.call first.reply first.before first.after → IsIn run (failed_of first.after) → IsIn run (failed_of first.before) ⊎ WasFaulted (first ∷ more) run
  fault_of_first first more run (quiet mine failed) i = inl (subst (IsIn run) failed i)
  fault_of_first first more run (accepts other last is_to told b) i = inl (subst (IsIn run) b.failed i)
  fault_of_first first more run (faults other is_to told mine left) i = ⊎_elim
      (λ (e : failed_of first.after ≡ failed_of first.before). inl (subst (IsIn run) e i))
      (λ (e : failed_of first.after ≡ failed_of first.before ++ other ∷ []). ⊎_elim (λ (j : IsIn run (failed_of first.before)). inl j)
      (λ (j : IsIn run (other ∷ [])). ⊎_elim (λ (same : run ≡ other). inr (first, inl refl, subst (IsToAppend first.call) (sym same) is_to, told)) (λ (none : ⊥). absurd none) j)
      (in_either (failed_of first.before) (other ∷ []) run (subst (IsIn run) e i))) left

  -- a run that it left in doubt is one that it had left, or one that was told a fault
  pub fault_told : (p q : LogSight) (calls : List SeenCall) (run : List Patch) → AreSeenCalls disks origin p calls q → IsIn run (failed_of q) → IsIn run (failed_of p) ⊎ WasFaulted calls run
  fault_told p q [] run same i = inl (subst (λ (x : LogSight). IsIn run (failed_of x)) same i)
  fault_told p q (first ∷ more) run are i = ⊎_elim
      (λ (j : IsIn run (failed_of first.after)). ⊎_elim (λ (k : IsIn run (failed_of first.before)). inl (subst (λ (x : LogSight). IsIn run (failed_of x)) are.0 k))
      (λ (was : WasFaulted (first ∷ more) run). inr was)
      (fault_of_first first more run (does disks origin first.before first.after first.call first.reply are.1.0) j))
      (λ (was : WasFaulted more run). inr (was.0, inr was.1, was.2, was.3)) (fault_told first.after q more run are.2 i)

-- ---- amid a call

-- a patch that the call handed in stands at this place
abbrev pub StandsHandedIn : LogCall → LogSight → ℕ → Type 0
StandsHandedIn call q place = (patch : Patch) × IsHandedIn call patch × (patch_at (patches_known (seen_of q)) place ≡ Some patch)

place_done : (p q : LogSight) (call : LogCall) (place : ℕ) → HasDone call p q → IsIn place (mine_of q) → IsIn place (mine_of p) ⊎ StandsHandedIn call q place
place_done p q call place (nothing mine failed) i = inl (subst (IsIn place) mine i)
place_done p q call place (doubted run is_to mine failed) i = inl (subst (IsIn place) mine i)
place_done p q call place (brought run last is_to b) i = ⊎_elim (λ (j : IsIn place (mine_of p)). inl j)
    (λ (j : IsIn place (places_behind (length b.before) (length run))). let there = stands_brought p q run last b place j in inr (there.0, (run, is_to, there.1), there.2))
    (in_either (mine_of p) (places_behind (length b.before) (length run)) place (subst (IsIn place) b.mine i))

fault_done : (p q : LogSight) (call : LogCall) (run : List Patch) → HasDone call p q → IsIn run (failed_of q) → IsIn run (failed_of p) ⊎ IsToAppend call run
fault_done p q call run (nothing mine failed) i = inl (subst (IsIn run) failed i)
fault_done p q call run (brought other last is_to b) i = inl (subst (IsIn run) b.failed i)
fault_done p q call run (doubted other is_to mine failed) i = ⊎_elim (λ (j : IsIn run (failed_of p)). inl j)
    (λ (j : IsIn run (other ∷ [])). ⊎_elim (λ (same : run ≡ other). inr (subst (IsToAppend call) (sym same) is_to)) (λ (none : ⊥). absurd none) j)
    (in_either (failed_of p) (other ∷ []) run (subst (IsIn run) failed i))

pub place_amid : (p q : LogSight) (in_call : Option LogCall) (place : ℕ) → IsAmid p in_call q → IsIn place (mine_of q) → IsIn place (mine_of p) ⊎ ((call : LogCall) × (in_call ≡ Some call) × StandsHandedIn call q place)
place_amid p q None place same i = inl (subst (λ (x : LogSight). IsIn place (mine_of x)) same i)
place_amid p q (Some call) place amid i = ⊎_elim (λ (j : IsIn place (mine_of p)). inl j) (λ (there : StandsHandedIn call q place). inr (call, refl, there)) (place_done p q call place amid.1 i)

pub fault_amid : (p q : LogSight) (in_call : Option LogCall) (run : List Patch) → IsAmid p in_call q → IsIn run (failed_of q) → IsIn run (failed_of p) ⊎ ((call : LogCall) × (in_call ≡ Some call) × IsToAppend call run)
fault_amid p q None run same i = inl (subst (λ (x : LogSight). IsIn run (failed_of x)) same i)
fault_amid p q (Some call) run amid i = ⊎_elim (λ (j : IsIn run (failed_of p)). inl j) (λ (is_to : IsToAppend call run). inr (call, refl, is_to)) (fault_done p q call run amid.1 i)

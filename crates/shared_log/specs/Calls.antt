-- Many calls of one pass on one log, and what they come to together.
use Rattle.std.specs.Prelude.{◌≡◌, ◌⊎◌, ℕ, ◌+◌, ◌-◌, List, [], ◌∷◌, length}
use Rattle.std.specs.Prelude.{Bool, true, false, Option, Some}
use Rattle.std.specs.List.{flat_map}
use Rattle.disk_model.specs.declared.disk.Disk.{Ghosts}
use Rattle.chain_core.specs.declared.chain.Patch.{Patch}
use Rattle.chain_core.specs.declared.answer.LogAnswer.TheVariants.{Accepted, AcceptedRun, DiskFault}
use Rattle.chain_core.specs.Replies.{LogCall, append, append_run, fetch_version, fetch_id}
use Rattle.chain_core.specs.Replies.{describe, version, LogReply, answered}
use Rattle.patch_log.specs.State.{LogView}
use Rattle.turn_cell.specs.Calls.{CallMade, IsCalled, AreCalled, AddsUp}
use Rattle.turn_cell.specs.Calls.{faulted_by, brought_by, doubted_by}
use Rattle.shared_log.specs.History.{LogSight}
use Rattle.shared_log.specs.Legal.{places_behind}
use Rattle.shared_log.specs.Stays.{CalledOnLog}

-- a call on a log with its reply, and what it brought and left in doubt
abbrev pub CallOnLog : Type 0
CallOnLog = CallMade LogCall LogReply (List Patch)

-- A fetch may go without a reply, where memory runs out. An append answers that it ran out.
abbrev pub MayWant : LogCall → Type 0
MayWant (append patch) = ⊥
MayWant (append_run run) = ⊥
MayWant (fetch_version place) = Unit {0}
MayWant (fetch_id id) = Unit {0}
MayWant describe = ⊥
MayWant version = ⊥

module _ {D : Type 0} (disks : Ghosts D) (origin : LogView D) where
  -- one legal call
  abbrev pub IsCalledOnLog : LogSight → CallOnLog → LogSight → Type 0
  IsCalledOnLog p made q = IsCalled (CalledOnLog disks origin) MayWant p made q

  -- legal calls one after another
  abbrev pub AreCalledOnLog : LogSight → List CallOnLog → LogSight → Type 0
  AreCalledOnLog p calls q = AreCalled (CalledOnLog disks origin) MayWant p calls q

-- whether a reply tells a fault of the disk
abbrev pub tells_fault : LogReply → Bool
tells_fault (answered DiskFault) = true
tells_fault _ = false

-- the places that a reply tells as accepted
abbrev pub place_told : Option LogReply → List ℕ
place_told (Some (answered (Accepted place))) = place ∷ []
place_told (Some (answered (AcceptedRun first place))) =
    places_behind (first - 1) (place + 1 - first)
place_told _ = []

-- a call with its reply, which brought what is told as accepted, and what it left in doubt
abbrev pub call_made : LogCall → Option LogReply → List (List Patch) → CallOnLog
call_made call reply doubted =
    record { call = call; reply = reply; brought = place_told reply; doubted = doubted }

-- the run whose append met a fault of the disk
abbrev pub run_faulted : LogCall → Option LogReply → List (List Patch)
run_faulted (append patch) (Some (answered DiskFault)) = (patch ∷ []) ∷ []
run_faulted (append_run run) (Some (answered DiskFault)) = run ∷ []
run_faulted _ _ = []

-- the places that were told as accepted, in their order
abbrev pub places_told : List CallOnLog → List ℕ
places_told calls = flat_map (λ made. place_told made.reply) calls

-- the runs whose appends met a fault of the disk, in their order
abbrev pub runs_faulted : List CallOnLog → List (List Patch)
runs_faulted calls = flat_map (λ made. run_faulted made.call made.reply) calls

module _ {A : Type 0} where
  -- some of the items, in their order
  abbrev pub AreSomeOf : List A → List A → Type 0
  AreSomeOf some [] = some ≡ []
  AreSomeOf some (x ∷ xs) =
      AreSomeOf some xs ⊎ ((rest : List A) × (some ≡ x ∷ rest) × AreSomeOf rest xs)

-- What calls on a log come to. The places of what they brought are just those that were told as
-- accepted; what they left in doubt are some of the runs whose appends met a fault of the disk.
pub record LogAddsUp (p : LogSight) (calls : List CallOnLog) (q : LogSight) : Type 0 where
  pub adds : AddsUp tells_fault p calls q
  pub brought : brought_by calls ≡ places_told calls
  pub doubted : AreSomeOf (doubted_by calls) (runs_faulted calls)
  pub faulted : faulted_by tells_fault calls ≡ length (runs_faulted calls)

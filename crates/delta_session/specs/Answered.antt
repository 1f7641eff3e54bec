-- How a hall answers a request: what it asks of its lists, and what it says.
use Rattle.std.specs.Prelude.{◌≡◌, ◌≢◌, ◌⊎◌, ℕ, List, [], ◌∷◌, Option, Some, None, Result, Ok, Err}
use Rattle.chain_core.specs.Replies.{LogCall, append, append_run, describe, version}
use Rattle.chain_core.specs.Replies.{fetch_version, fetch_id}
use Rattle.disk_model.specs.declared.disk.Disk.{Ghosts}
use Rattle.shared_log.specs.Calls.{CallOnLog}
use Rattle.log_base.specs.declared.source_info.SourceInfo.{SourceInfo}
use Rattle.http_heads.specs.declared.message.RawRequest.{RawRequest}
use Rattle.http_session.specs.declared.answerer.Said.{Said}
use Rattle.http_session.specs.declared.answerer.Said.TheVariants.{OutOfMemory}
use Rattle.patch_log.specs.Log.{bare}
use Rattle.patch_log.specs.Opening.{IsRunRead}
use Rattle.patch_log.specs.RunFaults.{HasRunFault}
use Rattle.patch_log.specs.declared.run.RunFault.{RunFault}
use Rattle.patch_log.specs.declared.run.RunFault.TheVariants as run
use Rattle.patch_meaning.specs.Checked.{CheckedPatch}
use Rattle.patch_meaning.specs.Patch.{IsPatch, IsPatchFault}
use Rattle.registry_core.specs.Replies.{RegistryCall, RegistryReply, resolve, found}
use Rattle.registry_core.specs.Replies.{answered, changed, listed}
use Rattle.rpc_answers.specs.declared.answer.Answer.{Answer}
use Rattle.rpc_answers.specs.declared.answer.Answer.TheVariants.{NoSource}
use Rattle.rpc_calls.specs.Calls.{call_of}
use Rattle.rpc_calls.specs.Outcomes.{CallOutcome}
use Rattle.rpc_calls.specs.declared.call.Call.{Call}
use Rattle.shared_registry.specs.Lookups.{RegistryLookup}
use Rattle.call_replies.specs.Says.{Says, SaysOf}
use Rattle.call_replies.specs.Telling.{log_answer, patch_answer, run_answer}
use Rattle.call_replies.specs.Telling.{refusal_answer, methods_told, version_within}
use Rattle.delta_session.specs.declared.logs.SlotCall.{SlotCall}
use Rattle.delta_session.specs.declared.logs.SlotCall.TheVariants.{Describe, Version}
use Rattle.delta_session.specs.declared.logs.SlotCall.TheVariants.{FetchVersion, FetchId}
use Rattle.delta_session.specs.declared.logs.SlotCall.TheVariants.{Append, AppendRun}
use Rattle.delta_session.specs.Asking.{Asking, asks_nobody, asks_registry, asks_log}
use Rattle.delta_session.specs.Asking.{asking_of, dice_behind}
use Rattle.delta_session.specs.Steps.{HallView, HallSight, Step, of_registry, of_log, AreSteps}
use Rattle.delta_session.specs.Telling.{registry_answer}

-- ---- what a call comes to

-- the registry is asked, and its reply is said
abbrev pub ByRegistry : RegistryCall → List Step → Said → Type 0
ByRegistry call steps said =
    (made : RegistryLookup) × (made.call ≡ call) × (steps ≡ of_registry made ∷ [])
    × SaysOf registry_answer made.reply said

-- the log of a slot is asked, and its reply is said
abbrev pub ByLog : ℕ → LogCall → List Step → Said → Type 0
ByLog slot call steps said =
    (made : CallOnLog) × (made.call ≡ call)
    × (steps ≡ of_log (record { slot = slot; asked = made }) ∷ [])
    × SaysOf log_answer made.reply said

-- a look-up gave no source, and that is said; without a reply memory ran out
abbrev pub SaysNone : Option RegistryReply → Said → Type 0
SaysNone (Some (found (Some source))) said = ⊥
SaysNone (Some (found None)) said = Says NoSource None said
SaysNone (Some (answered made)) said = ⊥
SaysNone (Some (changed done)) said = ⊥
SaysNone (Some (listed sources)) said = ⊥
SaysNone None said = said ≡ OutOfMemory

-- what follows the look-up of a name: more steps, where it gave a source
abbrev pub BehindLookup : (ℕ → List Step → Said → Type 0) → Option RegistryReply
    → List Step → Said → Type 0
BehindLookup P (Some (found (Some source))) rest said = P source.slot rest said
BehindLookup P (Some (found None)) rest said =
    (rest ≡ []) × SaysNone (Some (found None)) said
BehindLookup P (Some (answered made)) rest said = ⊥
BehindLookup P (Some (changed done)) rest said = ⊥
BehindLookup P (Some (listed sources)) rest said = ⊥
BehindLookup P None rest said = (rest ≡ []) × SaysNone None said

-- A name is looked up before its log is asked. That goes on in the slot of its source, also where
-- the source is removed in between.
abbrev pub BySource : List ℕ → (ℕ → List Step → Said → Type 0) → List Step → Said → Type 0
BySource name P steps said =
    (made : RegistryLookup) × (made.call ≡ resolve name) × (rest : List Step)
    × (steps ≡ of_registry made ∷ rest) × BehindLookup P made.reply rest said

-- What a text is goes to the log of a slot by this call, or the first fault of the text is said.
-- Memory may run out before it is known.
abbrev pub ByText : {A F : Type 0} → (A → Type 0) → (A → LogCall) → (F → Type 0) → (F → Answer)
    → ℕ → List Step → Said → Type 0
ByText {A} {F} IsIt call Has answer slot steps said =
    ((it : A) × IsIt it × ByLog slot (call it) steps said)
    ⊎ ((fault : F) × Has fault × (steps ≡ []) × Says (answer fault) None said)
    ⊎ ((steps ≡ []) × (said ≡ OutOfMemory))

-- the text is this patch, and this call appends it
abbrev pub IsPatchOf : List ℕ → CheckedPatch → Type 0
IsPatchOf text patch = (patch.text ≡ text) × IsPatch text patch.meaning

abbrev pub append_of : CheckedPatch → LogCall
append_of patch = append (bare patch)

abbrev pub ByPatch : List ℕ → ℕ → List Step → Said → Type 0
ByPatch text = ByText (IsPatchOf text) append_of (IsPatchFault text) patch_answer

-- the first fault of a text that is no run
abbrev pub IsRunFault : List ℕ → RunFault → Type 0
IsRunFault text fault = (fault ≢ run.OutOfMemory) × HasRunFault text fault

abbrev pub ByRun : List ℕ → ℕ → List Step → Said → Type 0
ByRun text = ByText (IsRunRead text) append_run (IsRunFault text) run_answer

-- what a call on the log of a slot comes to
abbrev pub BySlot : SlotCall → ℕ → List Step → Said → Type 0
BySlot Describe slot steps said = ByLog slot describe steps said
BySlot Version slot steps said = ByLog slot version steps said
BySlot (FetchVersion place) slot steps said =
    ByLog slot (fetch_version (version_within place)) steps said
BySlot (FetchId id) slot steps said = ByLog slot (fetch_id id) steps said
BySlot (Append text) slot steps said = ByPatch text slot steps said
BySlot (AppendRun text) slot steps said = ByRun text slot steps said

abbrev pub ComesTo : Asking → List Step → Said → Type 0
ComesTo (asks_nobody answer) steps said = (steps ≡ []) × Says answer None said
ComesTo (asks_registry call) steps said = ByRegistry call steps said
ComesTo (asks_log name call) steps said = BySource name (BySlot call) steps said

-- ---- requests

-- A request that is no call is refused without a step. Memory may run out before it is read.
abbrev pub IsSaidTo : ℕ → CallOutcome → List Step → Said → ℕ → Type 0
IsSaidTo dice (Err refusal) steps said next =
    (steps ≡ []) × Says (refusal_answer refusal) (methods_told refusal) said × (next ≡ dice)
IsSaidTo dice (Ok call) steps said next =
    (ComesTo (asking_of dice call) steps said × (next ≡ dice_behind call dice))
    ⊎ ((steps ≡ []) × (said ≡ OutOfMemory) × (next ≡ dice))

-- Before and behind an answer the pass knows this. The steps were legal, each at its point of its
-- list and with its stay, and what they gave is said.
abbrev pub Answered : {D : Type 0} → Ghosts D → HallView D → HallSight → RawRequest → Said
    → HallSight → Type 0
Answered disks hall before request said after =
    (steps : List Step) × AreSteps disks hall before.lists steps after.lists
    × IsSaidTo before.dice (call_of request) steps said after.dice

-- ---- parts of an answer

-- the reply of a look-up; without memory there is none
abbrev pub reply_found : {E : Type 0} → Result (Option SourceInfo) E → Option RegistryReply
reply_found (Ok source) = Some (found source)
reply_found (Err fault) = None

-- a reply gives a slot, or what is said in its place
abbrev pub IsLookedUp : Option RegistryReply → Result ℕ Said → Type 0
IsLookedUp reply (Ok slot) =
    (source : SourceInfo) × (reply ≡ Some (found (Some source))) × (source.slot ≡ slot)
IsLookedUp reply (Err said) = SaysNone reply said

module _ {D : Type 0} (disks : Ghosts D) (hall : HallView D) where
  -- a call is answered, and a creation takes its number
  abbrev pub ServesCall : Call → HallSight → Said → HallSight → Type 0
  ServesCall call before said after =
      (steps : List Step) × AreSteps disks hall before.lists steps after.lists
      × ComesTo (asking_of before.dice call) steps said
      × (after.dice ≡ dice_behind call before.dice)

  -- the slot of the source with a name was found, or why none was is said
  abbrev pub LooksUp : List ℕ → HallSight → Result ℕ Said → HallSight → Type 0
  LooksUp name before result after =
      (made : RegistryLookup) × (made.call ≡ resolve name)
      × AreSteps disks hall before.lists (of_registry made ∷ []) after.lists
      × (after.dice ≡ before.dice) × IsLookedUp made.reply result

  -- steps that come to this, of a part that takes no number
  abbrev pub TakesNoNumber : (List Step → Said → Type 0) → HallSight → Said → HallSight → Type 0
  TakesNoNumber P before said after =
      (steps : List Step) × AreSteps disks hall before.lists steps after.lists × P steps said
      × (after.dice ≡ before.dice)

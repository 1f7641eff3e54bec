-- What each call asks of a hall.
use Rattle.std.specs.Prelude.{ℕ, ◌+◌, ◌%◌, ◌^◌, List, None, unwrap_or}
use Rattle.delta_base.specs.Ids.{random_id}
use Rattle.registry_core.specs.Replies as registry
use Rattle.rpc_answers.specs.declared.answer.Answer.{Answer}
use Rattle.rpc_answers.specs.declared.answer.Answer.TheVariants.{Pong}
use Rattle.rpc_calls.specs.declared.call.Call.{Call}
use Rattle.rpc_calls.specs.declared.call.Call.TheVariants as call
use Rattle.delta_session.specs.declared.logs.SlotCall.{SlotCall}
use Rattle.delta_session.specs.declared.logs.SlotCall.TheVariants.{Describe, Version}
use Rattle.delta_session.specs.declared.logs.SlotCall.TheVariants.{FetchVersion, FetchId}
use Rattle.delta_session.specs.declared.logs.SlotCall.TheVariants.{Append, AppendRun}

-- a call asks nobody, the registry, or the log of the source with a name
pub data Asking : Type 0 where
  asks_nobody : Answer → Asking
  asks_registry : registry.RegistryCall → Asking
  asks_log : List ℕ → SlotCall → Asking

-- the number behind it; behind the last one of 128 bits comes 0
abbrev pub next_dice : ℕ → ℕ
next_dice dice = (dice + 1) % 2 ^ 128

-- what a call asks, where the next id is made of this number
abbrev pub asking_of : ℕ → Call → Asking
asking_of dice call.Ping = asks_nobody Pong
asking_of dice call.List = asks_registry registry.list
asking_of dice (call.Source name) = asks_registry (registry.resolve name)
asking_of dice (call.SourceById id) = asks_registry (registry.resolve_id id)
asking_of dice (call.SourceByUri uri) = asks_registry (registry.resolve_uri uri)
asking_of dice (call.Create name uri id) =
    asks_registry (registry.create name uri (unwrap_or id (random_id dice)))
asking_of dice (call.Rename name new_name) = asks_registry (registry.rename name new_name)
asking_of dice (call.Remove name) = asks_registry (registry.remove name)
asking_of dice (call.Log name) = asks_log name Describe
asking_of dice (call.Version name) = asks_log name Version
asking_of dice (call.FetchVersion name version) = asks_log name (FetchVersion version)
asking_of dice (call.FetchId name id) = asks_log name (FetchId id)
asking_of dice (call.Append name patch) = asks_log name (Append patch)
asking_of dice (call.AppendRun name patches) = asks_log name (AppendRun patches)

-- a creation without an id of its own takes the next number
abbrev pub dice_behind : Call → ℕ → ℕ
dice_behind (call.Create name uri None) dice = next_dice dice
dice_behind other dice = dice

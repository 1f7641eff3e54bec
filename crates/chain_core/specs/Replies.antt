-- What a log replies to each call, by its chain.
use Rattle.std.specs.Prelude.{ℕ, ◌-◌, List, length, Option, Some, None}
use Rattle.delta_base.specs.declared.id.Id.{Id}
use Rattle.log_base.specs.declared.limits.LogLimits.{LogLimits}
use Rattle.chain_core.specs.declared.chain.Patch.{Patch}
use Rattle.chain_core.specs.declared.answer.LogAnswer.{LogAnswer}
use Rattle.chain_core.specs.declared.answer.LogAnswer.TheVariants.{Accepted, AcceptedRun}
use Rattle.chain_core.specs.Patches.{version_of, patch_at, patch_named, last_id}
use Rattle.chain_core.specs.Decision.{decision, run_decision}
use Rattle.chain_core.specs.Stay.{answer_of}

-- an answer as one to a run of so many patches: that it is accepted is told with the version of
-- its first patch
abbrev pub as_run : ℕ → LogAnswer → LogAnswer
as_run count (Accepted version) = AcceptedRun (version - (count - 1)) version
as_run count other = other

pub data LogCall : Type 0 where
  append : Patch → LogCall
  append_run : List Patch → LogCall
  fetch_version : ℕ → LogCall
  fetch_id : Id → LogCall
  describe : LogCall
  version : LogCall

pub data LogReply : Type 0 where
  answered : LogAnswer → LogReply
  found : Patch → LogReply
  missing : ℕ → LogReply
  described : ℕ → Option Id → LogReply
  counted : ℕ → LogReply

-- a patch, or that it is missing from a chain of this length
abbrev pub fetched : Option Patch → ℕ → LogReply
fetched (Some patch) count = found patch
fetched None count = missing count

abbrev pub log_reply : LogLimits → LogCall → List Patch → LogReply
log_reply limits (append patch) chain = answered (answer_of (decision chain patch limits))
log_reply limits (append_run run) chain =
    answered (as_run (length run) (answer_of (run_decision chain run limits)))
log_reply limits (fetch_version place) chain = fetched (patch_at chain place) (length chain)
log_reply limits (fetch_id id) chain =
    fetched (patch_named chain (version_of chain id)) (length chain)
log_reply limits describe chain = described (length chain) (last_id chain)
log_reply limits version chain = counted (length chain)

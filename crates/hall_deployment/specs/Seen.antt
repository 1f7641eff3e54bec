-- What a pass of a hall did, step by step, and which calls that were on the registry and on the log
-- of each slot.
use Rattle.std.specs.Prelude.{◌≡◌, ℕ, ◌+◌, List, [], ◌∷◌, ◌++◌, map, slice_get}
use Rattle.std.specs.Prelude.{Option, Some, if◌then◌else◌, ◌==◌}
use Rattle.disk_model.specs.declared.disk.Disk.{Ghosts}
use Rattle.chain_core.specs.Replies.{LogCall, LogReply}
use Rattle.shared_log.specs.History.{LogSight}
use Rattle.shared_log.specs.Calls.{CallOnLog}
use Rattle.delta_session.specs.Steps.{HallView, Lists, Step, of_registry, of_log, IsStep}
use Rattle.deployment.specs.Calls.{SeenCall}
use Rattle.registry_deployment.specs.Calls.{SeenOnRegistry}

-- a step, with what the pass knew before and behind it
pub record SeenStep : Type 0 where
  pub before : Lists
  pub step : Step
  pub after : Lists

-- the steps alone
abbrev pub steps_in : List SeenStep → List Step
steps_in seen = map (λ one. one.step) seen

-- the call of a step on the registry, with what the pass showed of it before and behind it
abbrev pub lookup_in : Lists → Step → Lists → List SeenOnRegistry
lookup_in before (of_registry asked) after =
    record {
      before = before.registry;
      call = asked.call;
      reply = asked.reply;
      after = after.registry;
    } ∷ []
lookup_in before (of_log visit) after = []

-- those of all steps, in their order
abbrev pub lookups_in : List SeenStep → List SeenOnRegistry
lookups_in [] = []
lookups_in (one ∷ more) = lookup_in one.before one.step one.after ++ lookups_in more

-- the call, with what the pass showed of its log before and behind it
abbrev pub seen_call : CallOnLog → Option LogSight → Option LogSight → List SeenCall
seen_call asked (Some p) (Some q) =
    record { before = p; call = asked.call; reply = asked.reply; after = q } ∷ []
seen_call asked _ _ = []

-- the call of a step on the log at a place
abbrev pub call_at : ℕ → Lists → Step → Lists → List SeenCall
call_at place before (of_registry asked) after = []
call_at place before (of_log visit) after =
    if visit.slot == place + 1
    then seen_call visit.asked (slice_get before.logs place) (slice_get after.logs place) else []

-- those of all steps, in their order
abbrev pub calls_at : ℕ → List SeenStep → List SeenCall
calls_at place [] = []
calls_at place (one ∷ more) =
    call_at place one.before one.step one.after ++ calls_at place more

-- what was asked in a call, and what it was told
abbrev pub exchange_seen : SeenCall → LogCall × Option LogReply
exchange_seen seen = (seen.call, seen.reply)

abbrev pub exchange_made : CallOnLog → LogCall × Option LogReply
exchange_made made = (made.call, made.reply)

module _ {D : Type 0} (disks : Ghosts D) (hall : HallView D) where
  -- steps, each by the pass as the one before it left it
  abbrev pub AreSeenSteps : Lists → List SeenStep → Lists → Type 0
  AreSeenSteps p [] q = q ≡ p
  AreSeenSteps p (one ∷ more) q =
      (one.before ≡ p) × IsStep disks hall one.before one.step one.after
      × AreSeenSteps one.after more q

-- A world with a mirror: one more log, which takes what the world's log has sent.
use Rattle.std.specs.Prelude.{ℕ, ◌+◌, ◌==◌, if◌then◌else◌}
use Rattle.std.specs.Prelude.{List, [], ◌∷◌, length, fold, slice_get, Option, Some, None}
use Rattle.log_base.specs.declared.limits.LogLimits.{LogLimits}
use Rattle.chain_core.specs.declared.chain.Patch.{Patch}
use Rattle.chain_core.specs.declared.fate.Fate.{Fate}
use Rattle.chain_core.specs.Log.{LogPoint, up, down, stopped, opened_again}
use Rattle.chain_core.specs.Runs.{patches_in}
use Rattle.chain_core.specs.Stay.{run_stay}
use Rattle.world_core.specs.declared.message.Message.{Message}
use Rattle.world_core.specs.declared.message.Message.TheVariants.{Item}
use Rattle.world_core.specs.declared.mirror.MirrorEvent.{MirrorEvent}
use Rattle.world_core.specs.declared.mirror.MirrorEvent.TheVariants.{Origin, Take}
use Rattle.world_core.specs.declared.mirror.MirrorEvent.TheVariants.{MirrorStop, MirrorOpen}
use Rattle.world_core.specs.declared.mirror.MirrorWorld.{MirrorWorld}
use Rattle.world_core.specs.World.{WorldPoint, step, start}
use Rattle.world_core.specs.Parts.{IsWorldOf, IsPartOf}

-- the world of the log that is mirrored, and its mirror
pub record MirrorPoint : Type 0 where
  pub origin : WorldPoint
  pub log : LogPoint (List Patch)

-- A mirror appends the patch behind its own, as a run of one, as any log does: where it names the
-- head, its id is new and there is room.
abbrev pub next_appended : LogLimits → LogPoint (List Patch) → ℕ → Patch → Fate
    → LogPoint (List Patch)
next_appended limits (up runs doubt) version patch fate =
    if version == length (patches_in runs) + 1
    then (run_stay limits (up runs doubt) (patch ∷ []) fate).0
    else up runs doubt
next_appended limits (down runs) version patch fate = down runs

-- a message that reaches a mirror; only an item is taken
abbrev pub message_taken : LogLimits → Option Message → Fate → LogPoint (List Patch)
    → LogPoint (List Patch)
message_taken limits (Some (Item version patch)) fate log =
    next_appended limits log version patch fate
message_taken limits other fate log = log

-- what an event makes of the world that is mirrored
abbrev pub origin_after : LogLimits → MirrorEvent → WorldPoint → WorldPoint
origin_after limits (Origin event) world = step limits world event
origin_after limits other world = world

-- What an event makes of the mirror, by the messages that were sent before it. Any of them may
-- reach it, as often as wanted and in any order.
abbrev pub mirror_after : LogLimits → List Message → MirrorEvent → LogPoint (List Patch)
    → LogPoint (List Patch)
mirror_after limits pool (Take message fate) log =
    message_taken limits (slice_get pool message) fate log
mirror_after limits pool (MirrorStop opened) log = stopped log opened
mirror_after limits pool MirrorOpen log = opened_again log
mirror_after limits pool (Origin event) log = log

-- an event that doesn't fit changes nothing
abbrev pub mirror_step : LogLimits → MirrorPoint → MirrorEvent → MirrorPoint
mirror_step limits point event = record {
  origin = origin_after limits event point.origin;
  log = mirror_after limits point.origin.pool event point.log;
}

-- the world at its start, and an empty mirror that is up
abbrev pub mirror_start : MirrorPoint
mirror_start = record { origin = start; log = up [] None }

-- the world and the mirror that these events make
abbrev pub mirrored : LogLimits → List MirrorEvent → MirrorPoint
mirrored limits events = fold (mirror_step limits) mirror_start events

-- the logs of the code, and the zones, are those of the world with its mirror
pub record IsMirrorWorldOf (world : MirrorWorld) (point : MirrorPoint) : Type 0 where
  pub origin_is : IsWorldOf world.origin point.origin
  pub log_is : IsPartOf world.log point.log

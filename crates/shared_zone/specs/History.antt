-- A zone as the passes of its turn know it.
use Rattle.std.specs.Prelude.{ℕ, ◌+◌, ◌-◌, ◌^◌, ◌<◌, List, [], ◌∷◌, ◌++◌}
use Rattle.std.specs.Prelude.{fold, length, map, min, Option}
use Rattle.delta_base.specs.declared.id.Id.{Id}
use Rattle.disk_model.specs.declared.disk.Disk.{Ghosts}
use Rattle.chain_core.specs.declared.chain.Patch.{Patch}
use Rattle.chain_core.specs.Ids.{last_of}
use Rattle.patch_meaning.specs.Checked.{CheckedPatch, AreChecked}
use Rattle.checkpoint_text.specs.Brief.{Brief}
use Rattle.zone_pairs.specs.Briefs.{with_patch}
use Rattle.zone_pairs.specs.Pair.{PairPoint, TakeTo}
use Rattle.zone_state.specs.declared.answer.TakeAnswer.{TakeAnswer}
use Rattle.zone_state.specs.declared.answer.TakeAnswer.TheVariants as answers
use Rattle.zone_state.specs.Zone.{doubt_of}
use Rattle.paired_zone.specs.Zone.{PairedView, StandsAt, first_in, second_in}
use Rattle.turn_cell.specs.declared.chained.Chained.{Ghosts as Shared}
use Rattle.turn_cell.specs.declared.view.Known.{Known}
use Rattle.turn_cell.specs.Sights.{Sight}
use Rattle.turn_cell.specs.Knowing.{seen_of}
use Rattle.shared_zone.specs.declared.fixed.ZoneFixed.{ZoneFixed}

-- a zone in a turn: what it kept when it was shared, and the patches taken since, each with the
-- number of the pass that took it
pub record SharedZone (D : Type 0) : Type 0 where
  pub zone : PairedView D
  pub base : Brief
  pub history : List (Known CheckedPatch)

-- a patch that was taken, and the number of the pass that took it
abbrev pub taken_entry : CheckedPatch → ℕ → Known CheckedPatch
taken_entry patch by = record { content = patch; by = by }

-- the history behind an answer to a patch, which the pass of this number had
abbrev pub history_then : TakeAnswer → List (Known CheckedPatch) → CheckedPatch → ℕ
    → List (Known CheckedPatch)
history_then (answers.Applied version) history patch by = history ++ taken_entry patch by ∷ []
history_then other history patch by = history

-- the patches of a history
abbrev pub taken_known : List (Known CheckedPatch) → List CheckedPatch
taken_known history = map (λ known. known.content) history

-- what is kept with these patches more
abbrev pub brief_behind : Brief → List CheckedPatch → Brief
brief_behind base patches = fold with_patch base patches

-- what is kept behind a history
abbrev pub brief_known : Brief → List (Known CheckedPatch) → Brief
brief_known base history = brief_behind base (taken_known history)

-- ---- what a pass shows

abbrev pub ZoneSight : Type 0
ZoneSight = Sight CheckedPatch Patch ZoneFixed

-- what the zone kept where the pass saw it last
abbrev pub brief_seen : Brief → ZoneSight → Brief
brief_seen base p = brief_known base (seen_of p)

-- how many patches it had taken then
abbrev pub version_seen : Brief → ZoneSight → ℕ
version_seen base p = length base.ids + length (seen_of p)

-- and the id of the last one
abbrev pub head_seen : Brief → ZoneSight → Option Id
head_seen base p = last_of (brief_seen base p).ids

-- ---- the zone in its turn

-- so many patches at most
abbrev pub FitsZone : ZoneFixed → List (Known CheckedPatch) → Type 0
FitsZone fixed history = length fixed.base.ids + length history < 2 ^ 32

module _ {D : Type 0} where
  -- how often the two disks have failed; the count stops at the last number of 64 bits
  abbrev pub zone_faults : Ghosts D → PairedView D → ℕ
  zone_faults disks zone = min (disks.faults zone.current + disks.faults zone.other) (2 ^ 64 - 1)

  -- what never changes
  abbrev pub zone_fixed_of : (D → Option (List ℕ × ℕ)) → SharedZone D → ZoneFixed
  zone_fixed_of mark shared = record {
    base = shared.base;
    limits = shared.zone.limits;
    first = mark (first_in shared.zone);
    second = mark (second_in shared.zone);
  }

  -- A zone that may lie in a turn. The patches of its history are patches, of which each fits what
  -- is kept behind those before it, and they take what it kept at first to what it keeps. The disks
  -- of both files stand for that, with the patch in doubt or without.
  pub record ZoneStandsInTurn (disks : Ghosts D) (shared : SharedZone D) : Type 0 where
    pub few : length shared.base.ids + length shared.history < 2 ^ 32
    pub checked : AreChecked (taken_known shared.history)
    pub take : TakeTo shared.base (taken_known shared.history) shared.zone.brief
    pub point : PairPoint
    pub stands : StandsAt disks shared.zone point

-- a zone as a value that passes share
abbrev pub shared_zone :
    {D : Type 0} → Ghosts D → Shared (SharedZone D) CheckedPatch Patch ZoneFixed
shared_zone disks = record {
  entries = λ shared. shared.history;
  fault_count = λ shared. zone_faults disks shared.zone;
  doubt = λ shared. doubt_of shared.zone.doubt;
  fixed = λ shared. zone_fixed_of disks.mark shared;
  fits = FitsZone;
  stands = λ shared. ZoneStandsInTurn disks shared;
}

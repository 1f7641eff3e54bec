-- A zone that catches up alone, as a replica.
use Rattle.std.specs.Prelude.{◌≡◌, ◌≢◌, ℕ, List, [], None, length, Option, Result, Ok, Err}
use Rattle.delta_base.specs.declared.id.Id.{Id}
use Rattle.patch_meaning.specs.Checked.{CheckedPatch}
use Rattle.chain_core.specs.Ids.{last_of}
use Rattle.zone_state.specs.Zone.{ZoneView}
use Rattle.catch_up.specs.declared.end.RunEnd.{RunEnd}
use Rattle.catch_up.specs.declared.end.RunEnd.TheVariants as ends
use Rattle.catch_up.specs.Runs.{Run, calls_in, said_in}
use Rattle.follower.specs.declared.ends.SyncEnd.TheVariants as sync
use Rattle.follower.specs.declared.ends.TextRefusal.{TextRefusal}
use Rattle.follower.specs.declared.ends.TextRefusal.TheVariants.{DiskFault}
use Rattle.follower.specs.Calls.{calls_of}
use Rattle.follower.specs.Footing.{Footing, DisksOf, ZoneWent}
use Rattle.follower.specs.Grown.{GrewBy, IsText, Stayed, Took}
use Rattle.follower.specs.Syncing.{EndIs, RefusesText, sync_end}

-- the zone shows what it has, and is as it was
abbrev pub ShowsOwn : {D : Type 0} → ZoneView D → ℕ → Option Id → ZoneView D → Type 0
ShowsOwn old version head new =
    (new ≡ old) × (version ≡ length old.brief.ids) × (head ≡ last_of old.brief.ids)

module _ (on : Footing) where
  -- the text of a version is taken, or refused for its cause
  abbrev pub TakesOwn : ZoneView (DisksOf on) → ℕ → List ℕ → Result ℕ TextRefusal
      → ZoneView (DisksOf on) → Type 0
  TakesOwn old version text (Ok reached) new =
      (reached ≡ version) × (new.limits ≡ old.limits) × ZoneWent on ⊥ old.disk new.disk
      × ((next : CheckedPatch) × IsText text next × Took on old new next)
  TakesOwn old version text (Err refusal) new =
      RefusesText old.terms [] new text refusal × Stayed on old new text
      × (new.limits ≡ old.limits) × ZoneWent on (refusal ≡ DiskFault) old.disk new.disk
      × (refusal ≢ DiskFault → new ≡ record old { terms = new.terms })

  -- What `sync` promises: the zone took the patches whose texts were said, in their order; it ended
  -- by what was said; these are the calls; and so much became of the disks.
  pub record IsSync (old : ZoneView (DisksOf on)) (run : Run) (end : RunEnd TextRefusal)
      (new : ZoneView (DisksOf on)) : Type 0 where
    pub more : List CheckedPatch
    pub grew : GrewBy on old new more (said_in run)
    pub ended : EndIs old new (said_in run) more (sync_end end)
    pub calls : (name : List ℕ)
        → calls_in name run ≡ calls_of name (length old.brief.ids) (said_in run)
    pub limits : new.limits ≡ old.limits
    pub went : ZoneWent on (sync_end end ≡ sync.DiskFault) old.disk new.disk
    pub settled : old.doubt ≡ None → sync_end end ≢ sync.DiskFault → new.doubt ≡ None
    pub link : sync_end end ≡ sync.LinkFault → end ≡ ends.LinkFault

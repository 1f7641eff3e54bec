-- What becomes of the two files of a zone that catches up with a log.
use Rattle.std.specs.Prelude.{◌≡◌, ◌⊎◌, ℕ, List, [], ◌∷◌, Option, None, length}
use mathlib.Core.List.{IsPrefix}
use Rattle.log_base.specs.declared.limits.TheConstants.{LOG_LIMITS}
use Rattle.rdf_terms.specs.declared.term.Term.{Term}
use Rattle.patch_meaning.specs.Checked.{AreChecked, CheckedPatch}
use Rattle.checkpoint_text.specs.Brief.{Brief}
use Rattle.zone_pairs.specs.Briefs.{brief_of, with_patch}
use Rattle.zone_pairs.specs.Pair.{TakeTo, start_brief}
use Rattle.zone_state.specs.Zone.{ZoneView}
use Rattle.paired_reading.specs.Payloads.{AreMetFrom}
use Rattle.delta_client.specs.Exchanges.{Exchanged, DialView, WasSaid}
use Rattle.follower.specs.Calls.{calls_of}
use Rattle.follower.specs.Footing.{with_patches}
use Rattle.follower.specs.Grown.{WasTried}
use Rattle.follower.specs.Syncing.{EndIs}
use Rattle.follower.specs.declared.ends.SyncEnd.{SyncEnd}
use Rattle.follower.specs.declared.ends.SyncEnd.TheVariants.{DiskFault}
use Rattle.zone_commands.specs.Files.{AreZoneFiles}

-- a zone that keeps this of the patches that it took and has met these terms, whatever its disks
abbrev pub zone_of : Brief → List Term → ZoneView (Unit {0})
zone_of brief terms = record {
  brief = brief;
  terms = terms;
  doubt = None;
  limits = LOG_LIMITS;
  disk = tt;
}

-- the terms are those of a checkpoint's dataset, or of none, and of patches that take its brief to
-- this one
pub record MetFor (brief : Brief) (terms : List Term) : Type 0 where
  pub start : Option Brief
  pub patches : List CheckedPatch
  pub take : TakeTo (start_brief start) patches brief
  pub met : AreMetFrom start patches terms

-- the files are those of a zone that keeps this; or a disk failed, and they are those of one that
-- keeps the patch tried too
abbrev pub AreLeftFiles : List ℕ → List ℕ → Brief → List CheckedPatch → SyncEnd → Type 0
AreLeftFiles first second brief tried end =
    AreZoneFiles first second brief
    ⊎ ((end ≡ DiskFault) × ((last : CheckedPatch) × (tried ≡ last ∷ [])
    × AreZoneFiles first second (with_patch brief last)))

-- Where the files are told, they were those of a zone, which then took these more and tried another
-- patch, or none. Catching up ended so by what was said, and where the dial tells, these calls were
-- made and no other.
pub record Followed {L : Type 0} (left sent : L → Option (List ℕ)) (tells net_tells : Type 0)
    (address name first second first' second' : List ℕ) (net net' : DialView L) (end : SyncEnd)
    : Type 0 where
  pub brief : Brief
  pub more : List CheckedPatch
  pub tried : List CheckedPatch
  pub was : tells → AreZoneFiles first second brief
  pub checked : AreChecked more
  pub is : tells → AreLeftFiles first' second' (with_patches brief more) tried end
  pub met : List Term
  pub met' : List Term
  pub are_met : MetFor brief met
  pub said : List WasSaid
  pub was_tried : WasTried (zone_of (with_patches brief more) met') more said tried
  pub ended : EndIs (zone_of brief met) (zone_of (with_patches brief more) met') said more end
  pub asked : net_tells
      → Exchanged left sent address (calls_of name (length brief.ids) said) said None net net'

-- the files are those of a zone that took patches with which the chain begins
abbrev pub AreFilesOfFront : List CheckedPatch → List ℕ → List ℕ → Type 0
AreFilesOfFront chain first second = (front : List CheckedPatch) × IsPrefix front chain
    × AreZoneFiles first second (brief_of front)

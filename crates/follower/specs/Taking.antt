-- What a zone's next patch comes to, on whatever files it stands.
use Rattle.std.specs.Prelude.{◌≡◌, ◌≢◌, ℕ, [], ◌∷◌}
use Rattle.term_table.specs.Table.{most}
use Rattle.dataset_tx.specs.Held.{AreMet, AreMore}
use Rattle.patch_meaning.specs.Checked.{CheckedPatch}
use Rattle.zone_state.specs.declared.answer.TakeAnswer.{TakeAnswer}
use Rattle.zone_state.specs.declared.answer.TakeAnswer.TheVariants.{Applied, TermsFull, DiskFault}
use Rattle.zone_state.specs.Brief.{with_patch}
use Rattle.zone_state.specs.Stay as stays
use Rattle.zone_state.specs.Taking.{IsDecidedBy, taken_then}
use Rattle.zone_state.specs.Takes.{LeavesInDoubt}
use Rattle.zone_state.specs.Zone.{ZoneView}
use Rattle.follower.specs.Footing.{Footing, DisksOf, Point, ZoneStands, ZoneWent, LeavesBehind}
use Rattle.follower.specs.Footing.{further}

pub record TakesNext (on : Footing) (old new : ZoneView (DisksOf on)) (patch : CheckedPatch)
    (answer : TakeAnswer) : Type 0 where
  -- the answer is what the zone makes of the patch, unless this is the next one and can't be taken
  pub decided : IsDecidedBy (stays.decided old patch) answer
  -- numbers for terms are wanting only where those met before and its own are more than there are
  pub terms_full : answer ≡ TermsFull → AreMore most patch.meaning.changes old.terms
  -- a term that is met then was met before, or is one of the patch's
  pub terms : AreMet patch.meaning.changes old.terms new.terms
  -- what was applied is counted, and its changes are made
  pub applied : (version : ℕ) → answer ≡ Applied version → new.brief ≡ with_patch old.brief patch
  -- what wasn't applied leaves ids and dataset as they were
  pub refused : ((version : ℕ) → answer ≢ Applied version) → new.brief ≡ old.brief
  -- where no disk was asked, nothing changes but what is known of terms
  pub untouched : answer ≢ DiskFault → ((version : ℕ) → answer ≢ Applied version)
      → new ≡ record old { terms = new.terms }
  -- where the patch isn't the next one, nothing changes
  pub same : (point : Point on) → ZoneStands on old point
      → ((version : ℕ) → stays.decided old patch ≢ Applied version) → new ≡ old
  -- the patch in doubt is none, or the one before, or this one
  pub doubt : LeavesInDoubt answer old.doubt patch new.doubt
  -- for whatever the zone stood, it stands for that, and for the patch where it was applied
  pub took : (point : Point on) → ZoneStands on old point
      → ZoneStands on new (further on point (taken_then answer [] patch) new.doubt)
  -- a crash at any moment leaves that, or that with the patch
  pub amid : (point : Point on) → ZoneStands on old point
      → LeavesBehind on point (patch ∷ []) old new
  -- a failing disk is counted, and the disks are the same files
  pub went : ZoneWent on (answer ≡ DiskFault) old.disk new.disk
  -- and limits never change
  pub limits : new.limits ≡ old.limits

-- Which of two files is current, by their generations.
use Rattle.std.proofs.Common.{◌≡◌, ℕ, Bool, true, false, List, Option, Some, refl, sym, ◌∙◌, ap, subst, arith}
use Rattle.std.specs.Prelude.{if◌then◌else◌, not}
use Rattle.disk_model.specs.declared.disk.Disk.{Ghosts}
use Rattle.disk_model.specs.Past.{Past, synced, reads, EveryImage, MayLeave}
use Rattle.disk_model.proofs.Moments.{kept}
use Rattle.log_journal.specs.Written.{RefusedOpening}
use Rattle.zone_files.specs.Generation.{IsInGeneration}
use Rattle.zone_files.specs.Pair.{IsEarlier, IsBehind}

-- a disk that wasn't asked
pub not_looked : {D : Type 0} (disks : Ghosts D) (disk : D) (failed : Type 0) → (failed → ⊥) → RefusedOpening disks failed disk disk
not_looked disks disk failed none = record {
  kept = λ told. kept (disks.past disk);
  cause = λ is. absurd (none is);
  never_falls = omega arith;
  well = λ other. refl;
  planned = λ plans is. absurd (none is);
  mark = refl;
}

-- a file that was synced, in an earlier generation
image_behind : (on_second : Bool) (generation : ℕ) (of : Option ℕ) (past before : Past) → past ≡ synced before → IsInGeneration (reads before) (not on_second) of → IsEarlier on_second generation of → EveryImage past (IsBehind on_second generation)
image_behind on_second generation of past before is in_generation earlier = λ image left.
    let same : image ≡ reads before = subst (λ (p : Past). MayLeave p image) is left in
    (of, subst (λ (i : List ℕ). IsInGeneration i (not on_second) of) (sym same) in_generation, earlier)

module _ {D : Type 0} (past : D → Past) where
  -- the other file is behind
  pub other_behind : (on_second : Bool) (generation of_first : ℕ) (of_second : Option ℕ) (current other first second : D) (before_first before_second : Past)
      → (if on_second then other else current) ≡ first → (if on_second then current else other) ≡ second → past first ≡ synced before_first → past second ≡ synced before_second
      → IsInGeneration (reads before_first) false (Some of_first) → IsInGeneration (reads before_second) true of_second → IsEarlier on_second generation (if on_second then Some of_first else of_second) → EveryImage (past other) (IsBehind on_second generation)
  other_behind true generation of_first of_second current other first second before_first before_second is_first is_second synced_first synced_second in_first in_second earlier =
      image_behind true generation (Some of_first) (past other) before_first (ap past is_first ∙ synced_first) in_first earlier
  other_behind false generation of_first of_second current other first second before_first before_second is_first is_second synced_first synced_second in_first in_second earlier =
      image_behind false generation of_second (past other) before_second (ap past is_second ∙ synced_second) in_second earlier

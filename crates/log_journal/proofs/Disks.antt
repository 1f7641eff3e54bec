-- A disk after a call, as the layers above tell of it.
use Rattle.std.proofs.Common.{ℕ, refl, arith}
use Rattle.disk_model.specs.declared.disk.Disk.{Ghosts}
use Rattle.log_journal.specs.Written.{DiskWent, Reopened, RefusedOpening}

module _ {D : Type 0} (disks : Ghosts D) (before after : D) where
  -- the same failure in other words
  pub went_by : (failed told : Type 0) → (told → failed) → (failed → told) → DiskWent disks failed before after → DiskWent disks told before after
  went_by failed told to from went = record {
    cause = λ is. went.cause (to is);
    never_falls = went.never_falls;
    well = λ none. went.well (λ is. none (from is));
    stays_short = went.stays_short;
    mark = went.mark;
  }

  pub refused_by : (failed told : Type 0) → (told → failed) → (failed → told) → RefusedOpening disks failed before after → RefusedOpening disks told before after
  refused_by failed told to from refused = record {
    kept = refused.kept;
    cause = λ is. refused.cause (to is);
    never_falls = refused.never_falls;
    well = λ none. refused.well (λ is. none (from is));
    planned = λ plans is. refused.planned plans (to is);
    mark = refused.mark;
  }

  -- it was opened, and refused for what was read
  pub refused_later : (failed : Type 0) (length : ℕ) → (failed → ⊥) → Reopened disks before after length → RefusedOpening disks failed before after
  refused_later failed length none opened = record {
    kept = opened.kept;
    cause = λ is. absurd (none is);
    never_falls = omega (arith, opened.faults);
    well = λ other. opened.faults;
    planned = λ plans is. absurd (none is);
    mark = opened.mark;
  }

-- a disk that wasn't asked
pub not_asked : {D : Type 0} (disks : Ghosts D) (disk : D) (failed : Type 0) → (failed → ⊥) → DiskWent disks failed disk disk
not_asked disks disk failed none = record {
  cause = λ is. absurd (none is);
  never_falls = omega arith;
  well = λ other. refl;
  stays_short = λ plans short. short;
  mark = refl;
}

-- What becomes of the disks of a zone's two files that is opened and only read.
use Rattle.std.proofs.Common.{◌≡◌, ℕ, Bool, true, false, Err, sym, subst, ap, arith}
use Rattle.std.specs.Prelude.{IsErrOf, if◌then◌else◌}
use Rattle.log_base.specs.declared.limits.LogLimits.{LogLimits}
use Rattle.log_base.specs.declared.limits.TheConstants.{LOG_LIMITS}
use Rattle.disk_model.specs.declared.disk.Disk.{Ghosts}
use Rattle.log_journal.specs.Written.{Reopened}
use Rattle.zone_pairs.specs.Pair.{IsWithin}
use Rattle.paired_zone.specs.Opening.{IsOpened, RefusedDisk}
use Rattle.paired_zone.specs.Zone.{PairedView, first_in, second_in}
use Rattle.paired_zone.specs.declared.fault.PairFault.{PairFault}

module _ {D : Type 0} (disks : Ghosts D) where
  -- a disk that was read without a fault
  pub read_alone : (failed : Type 0) (before after : D) (n : ℕ) → Reopened disks before after n → (failed → ⊥) → RefusedDisk disks failed before after
  read_alone failed before after n reopened never = record {
    kept = reopened.kept;
    cause = λ is. absurd (never is);
    never_falls = omega (arith, reopened.faults);
    well = λ not. reopened.faults;
    mark = reopened.mark;
  }

  -- the failure is told as the answer's
  pub told_so : {T : Type 0} (fault failure : PairFault) (before after : D) → RefusedDisk disks (fault ≡ failure) before after → RefusedDisk disks (IsErrOf {T = T} (Err fault) failure) before after
  told_so fault failure before after refused = record {
    kept = refused.kept;
    cause = λ is. refused.cause (one_fault is);
    never_falls = refused.never_falls;
    well = λ not. refused.well (λ is. not (ap (λ (f : PairFault). Err f) is));
    mark = refused.mark;
  }
    where
      one_fault : {T : Type 0} → IsErrOf {T = T} (Err fault) failure → fault ≡ failure
      one_fault is = cc

  -- each disk in its role
  abbrev BothReopened : D → D → D → D → Type 0
  BothReopened first second first' second' = ((n : ℕ) × Reopened disks first first' n) × ((n : ℕ) × Reopened disks second second' n)

  by_role : (b : Bool) (first second current other : D) (n m : ℕ) → Reopened disks (if b then second else first) current n → Reopened disks (if b then first else second) other m
      → BothReopened first second (if b then other else current) (if b then current else other)
  by_role true first second current other n m one two = ((m, two), (n, one))
  by_role false first second current other n m one two = ((n, one), (m, two))

  module _ (first second : D) (zone : PairedView D) (opened : IsOpened disks (if zone.second then second else first) (if zone.second then first else second) zone) where
    pub both_reopened : BothReopened first second (first_in zone) (second_in zone)
    both_reopened = by_role zone.second first second zone.current zone.other _ _ opened.reopened opened.other_reopened

    -- what a zone that was opened keeps is within its limits
    pub opened_within : zone.limits ≡ LOG_LIMITS → IsWithin LOG_LIMITS zone.brief
    opened_within limits = subst (λ (l : LogLimits). IsWithin l zone.brief) limits opened.stands.stands.within

    module _ (closed_first closed_second : D) (is_first : closed_first ≡ first_in zone) (is_second : closed_second ≡ second_in zone) (failed : Type 0) (never : failed → ⊥) where
      pub first_closed : RefusedDisk disks failed first closed_first
      first_closed = subst (λ d. RefusedDisk disks failed first d) (sym is_first) (read_alone failed first (first_in zone) both_reopened.0.0 both_reopened.0.1 never)

      pub second_closed : RefusedDisk disks failed second closed_second
      second_closed = subst (λ d. RefusedDisk disks failed second d) (sym is_second) (read_alone failed second (second_in zone) both_reopened.1.0 both_reopened.1.1 never)

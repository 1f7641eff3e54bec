-- Disks of the two files of a zone, taken and put back.
use Rattle.std.proofs.Common.{◌≡◌, ◌⊎◌, inl, inr, ⊎_elim, ℕ, false, ◌<◌, ◌≤◌, List, [], Option, Some, None, Result, Ok, Err, IfOk, IfErr, refl, sym, ap, subst, ◌∙◌, arith}
use Rattle.std.specs.Prelude.{unwrap_or}
use Rattle.delta_base.specs.Outside.{Rose}
use Rattle.disk_model.specs.declared.disk.Disk.{Ghosts}
use Rattle.disk_model.specs.Past.{reads}
use Rattle.disk_model.specs.Shelf.{SameOthers}
use Rattle.slot_files.specs.Files.{Files, IsKept}
use Rattle.slot_files.proofs.Steps.{other_dir, other_number}
use Rattle.log_base.specs.declared.limits.TheConstants.{LOG_LIMITS}
use Rattle.log_journal.specs.declared.at_front.FrontFault.TheVariants as front
use Rattle.zone_beside.specs.declared.fault.FindFault.TheVariants.{AtFront}
use Rattle.paired_journal.specs.Pair.{DisksWent}
use Rattle.paired_zone.specs.Fault.{HasPairFault, none_current}
use Rattle.paired_zone.specs.declared.fault.PairFault.{PairFault}
use Rattle.paired_zone.specs.declared.fault.PairFault.TheVariants.{Failed, OutOfMemory}
use Rattle.zone_commands.specs.Files.{HasFilesFault}
use Rattle.paired_zone.specs.Opening.{RefusedDisk}
use Rattle.zone_commands.specs.Disks.{AreFreshDisks, AreZoneDisks, KeepsZoneFiles, SameButZone, ZoneFilesHave, first_bytes, second_bytes}

-- ---- a file

-- it has what it had, or nothing where it wasn't there
pub had_kept : (old new : Option (List ℕ)) → new ≡ Some (unwrap_or old []) → IsKept old new
had_kept None new is = inr (refl, is)
had_kept (Some bytes) new is = inl is

-- the bytes are put back that it had
pub back_kept : (old new : Option (List ℕ)) (bytes : List ℕ) → bytes ≡ unwrap_or old [] → new ≡ Some bytes → IsKept old new
back_kept old new bytes same is = had_kept old new (is ∙ ap (λ (b : List ℕ). Some b) same)

-- ---- counts

pub rose_behind : (a b c : ℕ) → a ≤ b → Rose b c → Rose a c
rose_behind a b c low rose = ⊎_elim (λ (more : b < c). inl (omega (arith, low, more))) (λ last. inr last) rose

-- a fresh disk that failed has a fault
pub some_fault : (before after : ℕ) → before ≡ 0 → Rose before after → 0 < after
some_fault before after fresh rose = ⊎_elim (λ (more : before < after). omega (arith, fresh, more)) (λ last. omega (arith, last)) rose

-- ---- the first file was visited, and then the second

module _ (dir : List ℕ) (old mid new : Files) where
  module _ (one : SameOthers (Some (dir, 1000)) old mid) (two : SameOthers (Some (dir, 1001)) mid new) where
    pub both_visited : SameButZone dir old new
    both_visited = record {
      elsewhere = λ d n differs. other_dir dir 1001 mid new two d n differs ∙ other_dir dir 1000 old mid one d n differs;
      here = λ n out.
          other_number dir 1001 mid new two n (λ is. ⊎_elim (λ low. omega (arith, is, low)) (λ high. omega (arith, is, high)) out)
          ∙ other_number dir 1000 old mid one n (λ is. ⊎_elim (λ low. omega (arith, is, low)) (λ high. omega (arith, is, high)) out);
    }

    pub first_stays : new dir 1000 ≡ mid dir 1000
    first_stays = other_number dir 1001 mid new two 1000 (λ is. omega (arith, is))

    pub second_stayed : mid dir 1001 ≡ old dir 1001
    second_stayed = other_number dir 1000 old mid one 1001 (λ is. omega (arith, is))

    -- both were opened
    pub both_opened : mid dir 1000 ≡ Some (first_bytes old dir) → new dir 1001 ≡ Some (second_bytes mid dir) → KeepsZoneFiles dir old new
    both_opened first second = record {
      first = had_kept (old dir 1000) (new dir 1000) (first_stays ∙ first);
      second = had_kept (old dir 1001) (new dir 1001) (second ∙ ap (λ (f : Option (List ℕ)). Some (unwrap_or f [])) second_stayed);
      others = both_visited;
    }

    -- the bytes that both disks read were put back
    pub both_back : (first second : List ℕ) → mid dir 1000 ≡ Some first → new dir 1001 ≡ Some second → ZoneFilesHave dir first second old new
    both_back first second is_first is_second = record { first_has = first_stays ∙ is_first; second_has = is_second; others = both_visited }

  -- one after another they leave the others
  pub same_twice : SameButZone dir old mid → SameButZone dir mid new → SameButZone dir old new
  same_twice one two = record {
    elsewhere = λ d n differs. two.elsewhere d n differs ∙ one.elsewhere d n differs;
    here = λ n out. two.here n out ∙ one.here n out;
  }

-- the first was opened, the second wasn't, and the first was put back
pub second_refused : (dir : List ℕ) (old mid late new : Files) → SameOthers (Some (dir, 1000)) old mid → SameOthers (Some (dir, 1001)) mid late → late dir 1001 ≡ mid dir 1001
    → SameOthers (Some (dir, 1000)) late new → new dir 1000 ≡ Some (first_bytes old dir) → KeepsZoneFiles dir old new
second_refused dir old mid late new one two refused three back = record {
  first = had_kept (old dir 1000) (new dir 1000) back;
  second = inl (other_number dir 1000 late new three 1001 (λ is. omega (arith, is)) ∙ refused ∙ other_number dir 1000 old mid one 1001 (λ is. omega (arith, is)));
  others = record {
    elsewhere = λ d n differs. other_dir dir 1000 late new three d n differs ∙ other_dir dir 1001 mid late two d n differs ∙ other_dir dir 1000 old mid one d n differs;
    here = λ n out.
        other_number dir 1000 late new three n (λ is. ⊎_elim (λ low. omega (arith, is, low)) (λ high. omega (arith, is, high)) out)
        ∙ other_number dir 1001 mid late two n (λ is. ⊎_elim (λ low. omega (arith, is, low)) (λ high. omega (arith, is, high)) out)
        ∙ other_number dir 1000 old mid one n (λ is. ⊎_elim (λ low. omega (arith, is, low)) (λ high. omega (arith, is, high)) out);
  };
}

-- the first wasn't opened
pub first_refused : (dir : List ℕ) (old new : Files) → SameOthers (Some (dir, 1000)) old new → new dir 1000 ≡ old dir 1000 → KeepsZoneFiles dir old new
first_refused dir old new one refused = record {
  first = inl refused;
  second = inl (other_number dir 1000 old new one 1001 (λ is. omega (arith, is)));
  others = record {
    elsewhere = λ d n differs. other_dir dir 1000 old new one d n differs;
    here = λ n out. other_number dir 1000 old new one n (λ is. ⊎_elim (λ low. omega (arith, is, low)) (λ high. omega (arith, is, high)) out);
  };
}

-- ---- disks that were taken and put back

module _ (dir first second : List ℕ) (old mid new : Files) (taken : KeepsZoneFiles dir old mid) (back : ZoneFilesHave dir first second mid new) where
  -- the files have then what the disks read
  pub have_read : ZoneFilesHave dir first second old new
  have_read = record { first_has = back.first_has; second_has = back.second_has; others = same_twice dir old mid new taken.others back.others }

  -- what was put back is what they had
  pub files_kept : first ≡ first_bytes old dir → second ≡ second_bytes old dir → KeepsZoneFiles dir old new
  files_kept is_first is_second = record {
    first = back_kept (old dir 1000) (new dir 1000) first is_first back.first_has;
    second = back_kept (old dir 1001) (new dir 1001) second is_second back.second_has;
    others = same_twice dir old mid new taken.others back.others;
  }

module _ {D : Type 0} (disks : Ghosts D) (dir : List ℕ) (files : Files) (first second : D) (fresh : AreFreshDisks disks dir files first second) where
  pub first_read : reads (disks.past first) ≡ first_bytes files dir
  first_read = ap reads fresh.first_began

  pub second_read : reads (disks.past second) ≡ second_bytes files dir
  second_read = ap reads fresh.second_began

  -- the disks that come back are theirs too
  pub still_theirs : (first' second' : D) → disks.mark first' ≡ disks.mark first → disks.mark second' ≡ disks.mark second → AreZoneDisks disks dir first' second'
  still_theirs first' second' one two = record { first_mark = one ∙ fresh.are_theirs.first_mark; second_mark = two ∙ fresh.are_theirs.second_mark }

  -- and so are those that come back from a call that may have failed or not been made
  pub theirs_behind : {T E : Type 0} (IsFault : T → Type 0) (First Second : E → Type 0) (first' second' : D) (result : Result T E) → IfOk result (λ end. DisksWent disks (IsFault end) first first' second second')
      → IfErr result (λ fault. RefusedDisk disks (First fault) first first') → IfErr result (λ fault. RefusedDisk disks (Second fault) second second') → AreZoneDisks disks dir first' second'
  theirs_behind IsFault First Second first' second' (Ok end) went one two = still_theirs first' second' went.mark.0 went.mark.1
  theirs_behind IsFault First Second first' second' (Err fault) went one two = still_theirs first' second' one.mark two.mark

-- ---- want of memory

pub no_memory : (first second : List ℕ) → HasPairFault first second LOG_LIMITS OutOfMemory
no_memory first second = none_current (AtFront false front.OutOfMemory) refl tt

-- ---- what is told of a shelf

-- why the disks aren't taken
pub untaken_fault : (first second : List ℕ) (fault : PairFault) → (fault ≡ OutOfMemory) ⊎ ((file : ℕ) × (fault ≡ Failed file)) → HasFilesFault first second fault
untaken_fault first second fault (inl same) = subst (HasFilesFault first second) (sym same) (no_memory first second)
untaken_fault first second fault (inr (file, same)) = subst (HasFilesFault first second) (sym same) tt

-- the files have what the disks read
module _ (dir first second : List ℕ) (old new : Files) (back : ZoneFilesHave dir first second old new) where
  pub first_back : first ≡ first_bytes new dir
  first_back = sym (ap (λ (f : Option (List ℕ)). unwrap_or f []) back.first_has)

  pub second_back : second ≡ second_bytes new dir
  second_back = sym (ap (λ (f : Option (List ℕ)). unwrap_or f []) back.second_has)

-- where no disk failed no fault is counted
pub well_behind : {D T E : Type 0} (disks : Ghosts D) (IsFault : T → Type 0) (first second first' second' : D) (old mid new : ℕ) (result : Result T E) → IfOk result (λ end. DisksWent disks (IsFault end) first first' second second')
    → (disks.faults first ≡ 0) × (disks.faults second ≡ 0) → (disks.faults first' ≡ 0 → disks.faults second' ≡ 0 → new ≡ mid) → mid ≡ old → IfOk result (λ end. (IsFault end → ⊥) → new ≡ old)
well_behind disks IsFault first second first' second' old mid new (Ok end) went fresh stays same = λ not. stays ((went.well not).0 ∙ fresh.0) ((went.well not).1 ∙ fresh.1) ∙ same
well_behind disks IsFault first second first' second' old mid new (Err fault) went fresh stays same = tt

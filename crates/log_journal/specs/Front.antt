-- What stands at the front of a journal's file.
use Rattle.std.specs.Prelude.{◌≡◌, ◌≢◌, ◌⊎◌, ℕ, ◌+◌, ◌^◌, ◌<◌, ◌≤◌, List, [], ◌∷◌, ◌++◌}
use Rattle.std.specs.Prelude.{length, take, drop, Result, Ok, Err}
use Rattle.log_base.specs.declared.limits.TheConstants.{EMPTY_JOURNAL}
use Rattle.disk_model.specs.Past.{Past, MayLeave}
use Rattle.log_journal.specs.File.{front, header, Holds, BreaksOff, IsForeign, IsOld, HasHeader}
use Rattle.log_journal.specs.declared.form.Form.TheVariants.{New}
use Rattle.log_journal.specs.Reading.{HasPayload}
use Rattle.log_journal.specs.declared.at_front.Front.{Front}
use Rattle.log_journal.specs.declared.at_front.Front.TheVariants.{Nothing, First}
use Rattle.log_journal.specs.declared.at_front.FrontFault.{FrontFault}
use Rattle.log_journal.specs.declared.at_front.FrontFault.TheVariants.{Failed, Damaged, WrongNumber}
use Rattle.log_journal.specs.declared.at_front.FrontFault.TheVariants.{OutOfMemory, OldFormat}
use Rattle.log_journal.specs.declared.fault.JournalFault.{JournalFault}
use Rattle.log_journal.specs.declared.fault.JournalFault.TheVariants as journal

-- the file is no longer than an empty journal, or holds no payload
abbrev pub HoldsNothing : List ℕ → ℕ → Type 0
HoldsNothing file number = (length file ≤ EMPTY_JOURNAL) ⊎ Holds file number []

-- behind its header and an open gate stands a whole payload, whatever follows
pub record HasFirst (file : List ℕ) (number : ℕ) (payload : List ℕ) : Type 0 where
  pub begins : take (length (front number (payload ∷ []))) file ≡ front number (payload ∷ [])
  pub sized : length payload < 2 ^ 32

-- at its front stands nothing or a whole payload
abbrev pub HasFront : List ℕ → ℕ → Type 0
HasFront file number =
    HoldsNothing file number ⊎ ((payload : List ℕ) × HasFirst file number payload)

-- behind its header the file breaks off within the first payload, in the field that begins here
pub record BreaksInFront (file : List ℕ) (number at : ℕ) : Type 0 where
  pub offset : ℕ
  pub parts : file ≡ header New number ++ drop 8 file
  pub breaks : BreaksOff New 0 (drop 8 file) offset
  pub place : at ≡ 8 + offset

-- what is found at the front of a file, or the first fault up to the end of the first payload
abbrev pub IsFront : List ℕ → ℕ → Result Front FrontFault → Type 0
IsFront file number (Ok Nothing) = HoldsNothing file number
IsFront file number (Ok (First size bytes)) =
    (payload : List ℕ) × HasFirst file number payload
    × (size ≡ length payload) × (bytes ≡ take 64 payload)
IsFront file number (Err (Damaged at)) =
    (EMPTY_JOURNAL < length file)
    × ((IsForeign file × (at ≡ 0)) ⊎ BreaksInFront file number at)
IsFront file number (Err (WrongNumber found)) =
    (EMPTY_JOURNAL < length file) × HasHeader New file found × (found ≢ number)
IsFront file number (Err OldFormat) = (EMPTY_JOURNAL < length file) × IsOld file
IsFront file number (Err Failed) = Unit {0}
IsFront file number (Err OutOfMemory) = Unit {0}

-- a crash might have left the image before, or nothing stands in it
abbrev pub LeftOrNothing : Past → ℕ → List ℕ → Type 0
LeftOrNothing past number image = MayLeave past image ⊎ HoldsNothing image number

-- the fault of a file's start, told of its front
abbrev pub IsStartFault : JournalFault → FrontFault → Type 0
IsStartFault journal.Failed fault = fault ≡ Failed
IsStartFault (journal.Damaged at) fault = fault ≡ Damaged at
IsStartFault journal.OldFormat fault = fault ≡ OldFormat
IsStartFault (journal.WrongNumber found) fault = fault ≡ WrongNumber found
IsStartFault (journal.OverLimit length limit) fault = ⊥
IsStartFault journal.OutOfMemory fault = fault ≡ OutOfMemory

-- what stands behind the open gate at the front of a file
abbrev pub IsFirst : List ℕ → Result Front FrontFault → Type 0
IsFirst file (Ok Nothing) = ⊥
IsFirst file (Ok (First size bytes)) =
    (payload : List ℕ) × HasPayload New file 8 0 payload
    × (size ≡ length payload) × (bytes ≡ take 64 payload)
IsFirst file (Err (Damaged at)) =
    (offset : ℕ) × BreaksOff New 0 (drop 8 file) offset × (at ≡ 8 + offset)
IsFirst file (Err OldFormat) = ⊥
IsFirst file (Err (WrongNumber found)) = ⊥
IsFirst file (Err Failed) = Unit {0}
IsFirst file (Err OutOfMemory) = Unit {0}

-- What reading a journal's file finds.
use Rattle.std.specs.Prelude.{◌≡◌, ◌≢◌, ◌⊎◌, ℕ, ◌+◌, ◌^◌, ◌<◌, Bool, IsTrue, Result}
use Rattle.std.specs.Prelude.{Ok, Err, List, ◌∷◌, ◌++◌, [], length, drop, Vec, sum_by}
use Rattle.std.specs.declared.alloc.Global.{Global}
use Rattle.log_base.specs.declared.limits.TheConstants.{EMPTY_JOURNAL}
use Rattle.log_journal.specs.File.{front_in, header, head, head_size, block, HoldsIn}
use Rattle.log_journal.specs.File.{AreSized, AreFew, BreaksOff, IsForeign, IsOld}
use Rattle.log_journal.specs.File.{HasHeader, IsCutShort, DamageIn}
use Rattle.log_journal.specs.declared.either.FormLimits.{FormLimits}
use Rattle.log_journal.specs.declared.form.Form.{Form}
use Rattle.log_journal.specs.declared.form.Form.TheVariants.{Old, New}
use Rattle.log_journal.specs.declared.fault.JournalFault.{JournalFault}
use Rattle.log_journal.specs.declared.fault.JournalFault.TheVariants.{Failed, Damaged, OldFormat}
use Rattle.log_journal.specs.declared.fault.JournalFault.TheVariants.{WrongNumber, OverLimit}
use Rattle.log_journal.specs.declared.fault.JournalFault.TheVariants.{OutOfMemory}

-- how long a journal of these payloads is in a form
abbrev pub length_in : Form → List (List ℕ) → ℕ
length_in form payloads =
    EMPTY_JOURNAL + sum_by (λ payload. 1 + head_size form + length payload) payloads

-- how long it may be, by the limits of both forms
abbrev pub limit_for : Form → FormLimits → ℕ
limit_for Old limits = limits.old
limit_for New limits = limits.new

-- the form and the number that a file's header names; or it has none
abbrev pub ReadsHeader : List ℕ → Result (Form × ℕ) JournalFault → Type 0
ReadsHeader file (Ok found) =
    (found.1 < 2 ^ 32) × (file ≡ header found.0 found.1 ++ drop 8 file)
ReadsHeader file (Err (Damaged at)) = IsForeign file × (at ≡ 0)
ReadsHeader file (Err OldFormat) = ⊥
ReadsHeader file (Err (WrongNumber found)) = ⊥
ReadsHeader file (Err (OverLimit length limit)) = ⊥
ReadsHeader file (Err Failed) = Unit {0}
ReadsHeader file (Err OutOfMemory) = Unit {0}

-- this byte stands at a place
abbrev pub HasByte : List ℕ → ℕ → ℕ → Type 0
HasByte file at byte = drop at file ≡ byte ∷ drop (at + 1) file

-- a payload stands behind an open gate and so many others
pub record HasPayload (form : Form) (file : List ℕ) (at before : ℕ) (payload : List ℕ)
    : Type 0 where
  pub sized : length payload < 2 ^ 32
  pub few : AreFew form (before + 1)
  pub block_is : drop at file
      ≡ block form before payload ++ drop (at + 1 + head_size form + length payload) file

-- what stands at a gate's place breaks off in the field that begins here, or is whole and
-- ends the file
abbrev pub EndsFileAt : Form → List ℕ → ℕ → ℕ → ℕ → Type 0
EndsFileAt form file at before place =
    ((offset : ℕ) × BreaksOff form before (drop at file) offset × (place ≡ at + offset))
    ⊎ ((payload : List ℕ) × HasPayload form file at before payload
    × (drop (at + 1 + head_size form + length payload) file ≡ [])
    × (place ≡ at + 1 + head_size form + length payload))

-- the length of the payload behind an open gate; or the numbers before it break off
abbrev pub ReadsHead : Form → List ℕ → ℕ → ℕ → Result ℕ JournalFault → Type 0
ReadsHead form file at before (Ok size) =
    (size < 2 ^ 32) × AreFew form (before + 1)
    × (drop (at + 1) file ≡ head form before size ++ drop (at + 1 + head_size form) file)
ReadsHead form file at before (Err (Damaged place)) =
    (offset : ℕ) × BreaksOff form before (drop at file) offset × (place ≡ at + offset)
ReadsHead form file at before (Err OldFormat) = ⊥
ReadsHead form file at before (Err (WrongNumber found)) = ⊥
ReadsHead form file at before (Err (OverLimit length limit)) = ⊥
ReadsHead form file at before (Err Failed) = Unit {0}
ReadsHead form file at before (Err OutOfMemory) = Unit {0}

-- the payload behind an open gate and the byte of the next gate, or the file ends before that
abbrev pub ReadsPayload : Form → List ℕ → ℕ → ℕ → Result (Vec ℕ Global × ℕ) JournalFault → Type 0
ReadsPayload form file at before (Ok found) =
    HasPayload form file at before found.0.items
    × HasByte file (at + 1 + head_size form + length found.0.items) found.1
ReadsPayload form file at before (Err (Damaged place)) = EndsFileAt form file at before place
ReadsPayload form file at before (Err OldFormat) = ⊥
ReadsPayload form file at before (Err (WrongNumber found)) = ⊥
ReadsPayload form file at before (Err (OverLimit length limit)) = ⊥
ReadsPayload form file at before (Err Failed) = Unit {0}
ReadsPayload form file at before (Err OutOfMemory) = Unit {0}

-- where a file with a header of this form breaks off
abbrev pub ReadsPayloads : {T : Type 0} → Form → List ℕ → ℕ → Result T JournalFault → Type 0
ReadsPayloads form file number (Ok done) = Unit {0}
ReadsPayloads form file number (Err (Damaged at)) = IsCutShort form file number at
ReadsPayloads form file number (Err OldFormat) = ⊥
ReadsPayloads form file number (Err (WrongNumber found)) = ⊥
ReadsPayloads form file number (Err (OverLimit length limit)) = ⊥
ReadsPayloads form file number (Err Failed) = Unit {0}
ReadsPayloads form file number (Err OutOfMemory) = Unit {0}

-- a file of this form has this fault, and none that comes before it
abbrev pub HasFaultIn : Form → List ℕ → ℕ → ℕ → JournalFault → Type 0
HasFaultIn form file number limit (Damaged at) = DamageIn form file number at
HasFaultIn form file number limit OldFormat = ⊥
HasFaultIn form file number limit (WrongNumber found) =
    HasHeader form file found × (found ≢ number)
HasFaultIn form file number limit (OverLimit length shown) =
    (payloads : List (List ℕ)) × HoldsIn form file number payloads
    × (length ≡ length_in form payloads) × (limit < length) × (shown ≡ limit)
HasFaultIn form file number limit Failed = Unit {0}
HasFaultIn form file number limit OutOfMemory = Unit {0}

-- the file, as it is to be written, has this fault
abbrev pub HasFault : List ℕ → ℕ → ℕ → JournalFault → Type 0
HasFault file number limit OldFormat = IsOld file
HasFault file number limit (Damaged at) = HasFaultIn New file number limit (Damaged at)
HasFault file number limit (WrongNumber found) =
    HasFaultIn New file number limit (WrongNumber found)
HasFault file number limit (OverLimit length shown) =
    HasFaultIn New file number limit (OverLimit length shown)
HasFault file number limit Failed = Unit {0}
HasFault file number limit OutOfMemory = Unit {0}

-- the payloads so far stand before this gate
pub record IsRead (form : Form) (file : List ℕ) (number : ℕ) (payloads : List (List ℕ))
    (gate : ℕ) : Type 0 where
  pub parts : file ≡ front_in form number payloads ++ drop gate file
  pub place : gate ≡ length (front_in form number payloads)
  pub sized : AreSized payloads
  pub few : AreFew form (length payloads)

-- of reading no failure is planned: where it fails at the disk, that is for want of memory
abbrev pub ShortWhere : Type 0 → Bool → Bool → Type 0
ShortWhere failed before after = (failed → IsTrue after) × ((failed → ⊥) → after ≡ before)

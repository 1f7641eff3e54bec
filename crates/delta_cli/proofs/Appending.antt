-- From the fault of a text to why the input was not appended.
use Rattle.std.proofs.Common.{◌≡◌, ℕ, ◌≤◌, List, length, ⊎_elim, subst, arith}
use Rattle.log_base.specs.declared.limits.TheConstants.{PATCH_LIMIT}
use Rattle.patch_meaning.specs.Checked.{Refuses}
use Rattle.patch_meaning.specs.Patch.{IsPatchFault, IsRowsFault, too_long, rows_, no_row, refused, open_block, no_id}
use Rattle.patch_meaning.specs.declared.fault.PatchFault.{PatchFault}
use Rattle.patch_meaning.specs.declared.fault.PatchFault.TheVariants as faults
use Rattle.patch_meaning.specs.declared.fault.PatchKind.{PatchKind}
use Rattle.patch_meaning.specs.Stream.{IsStreamFault}
use Rattle.patch_reader.specs.declared.placed.PlacedRow.{PlacedRow}
use Rattle.patch_reader.specs.Places.{line_number}
use Rattle.delta_cli.specs.Asked.{HasTextFault, IsFaultyText, IsReadAs, StopsInput, StopsText}
use Rattle.delta_cli.specs.declared.append.Appended.{Appended}
use Rattle.delta_cli.specs.declared.append.Appended.TheVariants as appended
use Rattle.delta_cli.proofs.ShortStreams.{never_long}
use Rattle.command_tables.specs.Channels.{Channel}
use Rattle.command_tables.specs.declared.refusal.Refusal.{Refusal}
use Rattle.command_tables.specs.declared.refusal.Refusal.TheVariants as refusals

not_memory : (fault : PatchFault) (at : ℕ) (kind : PatchKind) → fault ≡ faults.At at kind → fault ≡ faults.OutOfMemory → ⊥
not_memory fault at kind is other = cc

at_fault : (text : List ℕ) (fault : PatchFault) (at : ℕ) (kind : PatchKind) → Refuses text fault → fault ≡ faults.At at kind → IsPatchFault text (faults.At at kind)
at_fault text fault at kind refuses is =
    ⊎_elim (λ memory. absurd (not_memory fault at kind is memory)) (λ broken. subst (IsPatchFault text) is broken) refuses

-- the first fault with its line
pub faulty : (what : Appended) (text : List ℕ) (fault : PatchFault) (line at : ℕ) (kind : PatchKind) → HasTextFault what text fault → fault ≡ faults.At at kind → line ≡ line_number text at → IsFaultyText what line at kind text
faulty appended.Patch text fault line at kind has is line_is = record { fault_is = at_fault text fault at kind has is; line_is = line_is }
faulty appended.Run text fault line at kind has is line_is = record { fault_is = subst (IsStreamFault text) is has; line_is = line_is }

not_long : (fault : PatchFault) (size limit : ℕ) → fault ≡ faults.TooLong size limit → fault ≡ faults.OutOfMemory → ⊥
not_long fault size limit is other = cc

module _ (text : List ℕ) (short : length text ≤ PATCH_LIMIT) (size limit : ℕ) where
  no_rows : (rs : List PlacedRow) (to : ℕ) → IsRowsFault text rs to (faults.TooLong size limit) → ⊥
  no_rows rs to (no_row at kind none is) = cc
  no_rows rs to (refused r end why there refuses is) = cc
  no_rows rs to (open_block over open_ is) = cc
  no_rows rs to (no_id over open_ none is) = cc

  no_patch : IsPatchFault text (faults.TooLong size limit) → ⊥
  no_patch (too_long far is) = omega (arith, far, short)
  no_patch (rows_ rs to within reads taken why) = no_rows rs to why

-- a text within the limit has no patch that is too long
pub never_too_long : (what : Appended) (text : List ℕ) (fault : PatchFault) (size limit : ℕ) → length text ≤ PATCH_LIMIT → HasTextFault what text fault → fault ≡ faults.TooLong size limit → ⊥
never_too_long appended.Patch text fault size limit short has is = ⊎_elim (not_long fault size limit is) (λ broken. no_patch text short size limit (subst (IsPatchFault text) is broken)) has
never_too_long appended.Run text fault size limit short has is = never_long text short size limit (subst (IsStreamFault text) is has)

pub stops_input : (what : Appended) (input input' : Channel) (text : List ℕ) → IsReadAs input input' text → (r : Refusal) → StopsText what text r → StopsInput what input input' r
stops_input what input input' text read (refusals.Stream line at kind) stops = (text, read, stops)
stops_input what input input' text read refusals.BadRun stops = (text, read, stops)
stops_input what input input' text read refusals.OutOfMemory stops = tt
stops_input what input input' text read other stops = absurd stops

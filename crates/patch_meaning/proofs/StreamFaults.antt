-- Where a text has its first fault as a stream.
use Rattle.std.proofs.Common.{◌≡◌, ℕ, ◌≤◌, List, length}
use Rattle.patch_rows.specs.declared.fault.RowKind.{RowKind}
use Rattle.patch_meaning.specs.declared.fault.PatchFault.{PatchFault}
use Rattle.patch_meaning.specs.declared.fault.PatchKind.TheVariants as kinds
use Rattle.patch_meaning.specs.Cutting.{AreRefused, EndsWith}
use Rattle.patch_meaning.specs.Patch.{Meaning, AreTaken}
use Rattle.patch_meaning.specs.Roles.{said}
use Rattle.patch_meaning.specs.Rows.{RowsTo}
use Rattle.patch_meaning.specs.Stream.{ArePatches, EndsAt, IsStreamFault, cut, within, refused, no_row, ended}
use Rattle.patch_reader.specs.declared.placed.PlacedRow.{PlacedRow}
use Rattle.patch_reader.specs.Rows.{RowsUpTo, NoRowAt}
use Rattle.patch_meaning.proofs.Rowed.{gap_there}

-- the last row is refused
pub refused_fault : (text : List ℕ) (rs : List PlacedRow) (end : ℕ) (fault : PatchFault) → RowsUpTo text 0 rs end → end ≤ length text → AreRefused rs fault → IsStreamFault text fault
refused_fault text rs end fault up high is =
    let gap = gap_there text end high in
    record {
      rows_ = rs;
      to = gap.0;
      reads = (end, up, gap.1);
      before = is.before;
      well = is.well;
      fault_is = refused is.front is.row_ is.kind is.rows_ is.taken is.refused is.fault_is;
    }

-- no row stands there
pub no_row_fault : (text : List ℕ) (rs : List PlacedRow) (to : ℕ) (ms : List Meaning) (at : ℕ) (kind : RowKind) (fault : PatchFault) → RowsTo text 0 rs to → ArePatches (cut rs).done (cut rs).last.from ms
    → NoRowAt text to kind at → AreTaken (said (cut rs).last.rows_) × (fault ≡ within (cut rs).last.from at (kinds.Row kind)) → IsStreamFault text fault
no_row_fault text rs to ms at kind fault reads before none (taken, is) =
    record { rows_ = rs; to = to; reads = reads; before = ms; well = before; fault_is = no_row at kind taken none is }

-- the last patch ends there
pub end_fault : (text : List ℕ) (rs : List PlacedRow) (to : ℕ) (ms : List Meaning) (fault : PatchFault) → RowsTo text 0 rs to → ArePatches (cut rs).done (cut rs).last.from ms → EndsAt text (cut rs).last to
    → EndsWith rs to fault → IsStreamFault text fault
end_fault text rs to ms fault reads before ends (taken, is) =
    record { rows_ = rs; to = to; reads = reads; before = ms; well = before; fault_is = ended taken ends is }

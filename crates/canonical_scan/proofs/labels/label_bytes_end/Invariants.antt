use Rattle.std.proofs.Common.{IsTrue}
use Rattle.std.specs.List.{list_all, slice_range}
use Rattle.canonical_scan.specs.Parts.{is_label_byte}
use Rattle.canonical_scan.proofs.labels.label_bytes_end.Given as goal

abbrev pub invariant-loop-i : goal.invariant-loop-i
invariant-loop-i l = IsTrue (list_all is_label_byte (slice_range l.text l.at l.i))

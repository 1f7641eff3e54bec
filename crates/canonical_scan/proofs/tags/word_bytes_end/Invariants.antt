use Rattle.std.proofs.Common.{IsTrue}
use Rattle.std.specs.List.{list_all, slice_range}
use Rattle.canonical_scan.specs.Parts.{is_lower_tag_byte}
use Rattle.canonical_scan.proofs.tags.word_bytes_end.Given as goal

abbrev pub invariant-loop-i : goal.invariant-loop-i
invariant-loop-i l = IsTrue (list_all (is_lower_tag_byte l.first) (slice_range l.text l.at l.i))

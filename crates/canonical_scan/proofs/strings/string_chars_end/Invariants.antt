use Rattle.std.proofs.Common.{length, ◌-◌}
use Rattle.canonical_scan.specs.Parts.{Between, InString}
use Rattle.canonical_scan.proofs.strings.string_chars_end.Given as goal

abbrev pub invariant-loop-next : goal.invariant-loop-next
invariant-loop-next l = Between InString l.text l.from l.at

abbrev pub decreases-loop-next : goal.decreases-loop-next
decreases-loop-next l = length l.text - l.at

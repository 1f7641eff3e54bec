use Rattle.std.proofs.Common.{◌≡◌, take}
use Rattle.slot_checks.specs.Lines.{lines_text}
use Rattle.slot_checks.proofs.lines.report_text.Given as goal

abbrev pub invariant-loop-line : goal.invariant-loop-line
invariant-loop-line l = l.text.items ≡ lines_text (take l.line-index l.report.items)

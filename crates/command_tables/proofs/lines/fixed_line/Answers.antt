use Rattle.std.proofs.Common.{sym, ap}
use Rattle.std.specs.Fmt.{digits}
use Rattle.command_tables.specs.Lines.{refusal_line}
use Rattle.command_tables.proofs.lines.fixed_line.Goals as goal

pub returns-in-BadRun-clause-line : goal.returns-in-BadRun-clause-line
unfolding refusal_line digits
returns-in-BadRun-clause-line c = ap refusal_line (sym c.in-BadRun.is)

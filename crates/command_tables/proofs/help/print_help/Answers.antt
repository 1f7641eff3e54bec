use Rattle.command_tables.specs.Help.{help_text}
use Rattle.command_tables.proofs.help.print_help.Goals as goal

pub returns : goal.returns
unfolding help_text
returns g c = record {
  whole = c.print_rows.ensures.whole;
  front = c.print_rows.ensures.front;
  failed = c.print_rows.ensures.failed;
  never_falls = c.print_rows.ensures.never_falls;
}

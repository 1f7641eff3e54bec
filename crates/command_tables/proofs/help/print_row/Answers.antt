use Rattle.std.proofs.Common.{List, ℕ, ◌++◌, ◌-◌, length, map, subst}
use Rattle.std.specs.Borrow.{Bor}
use Rattle.std.specs.Prelude.{codes}
use Rattle.std.specs.Io.KnownBytes.{Appends}
use Rattle.std.proofs.KnownBytes.{Appends-trans}
use Rattle.std.proofs.lemmas.Result.{on_ok_weaker}
use Rattle.sink_writing.specs.Writing.{AppendsFront}
use Rattle.command_tables.specs.Names.{words_text}
use Rattle.command_tables.specs.Help.{gap_text, help_lines}
use Rattle.command_tables.specs.declared.rows.CommandRow.{CommandRow}
use Rattle.command_tables.proofs.Printed.{front_first, front_second}
use Rattle.command_tables.proofs.help.print_row.Goals as goal

abbrev TheRow : Type 0
TheRow = CommandRow (Bor (List ℕ)) (Bor (List (Bor (List ℕ))))

abbrev words_in : TheRow → List ℕ
words_in row = codes "  " ++ words_text row.word.now (map (λ text. text.now) row.positions.now)

abbrev lines_in : TheRow → List ℕ
lines_in row = help_lines (gap_text (18 - length (words_text row.word.now (map (λ text. text.now) row.positions.now)))) (map (λ text. text.now) row.help.now)

pub returns-in_err-print_words-clause-front : goal.returns-in_err-print_words-clause-front
returns-in_err-print_words-clause-front g c =
    front_first (g.K.Sink.written c.args.out.now) (g.K.Sink.written c.print_words.new.out) (words_in c.args.row.now) (lines_in c.args.row.now) c.in_err-print_words.ensures.front

pub returns-clause-whole : goal.returns-clause-whole
returns-clause-whole g c =
    let row = c.args.row.now in
    on_ok_weaker c.print_lines.result
    (λ done. Appends-trans (g.K.Sink.written c.args.out.now) (g.K.Sink.written c.print_words.new.out) (g.K.Sink.written c.print_lines.new.out) (words_in row) (lines_in row) c.in_ok-print_words.ensures.whole
    (subst (λ (gap : List ℕ). Appends (g.K.Sink.written c.print_words.new.out) (g.K.Sink.written c.print_lines.new.out) (help_lines gap (map (λ text. text.now) row.help.now))) c.gap_behind-gap.ensures done))
    c.print_lines.ensures.whole

pub returns-clause-front : goal.returns-clause-front
returns-clause-front g c =
    let row = c.args.row.now in
    front_second (g.K.Sink.written c.args.out.now) (g.K.Sink.written c.print_words.new.out) (g.K.Sink.written c.print_lines.new.out) (words_in row) (lines_in row) c.in_ok-print_words.ensures.whole
    (subst (λ (gap : List ℕ). AppendsFront (g.K.Sink.written c.print_words.new.out) (g.K.Sink.written c.print_lines.new.out) (help_lines gap (map (λ text. text.now) row.help.now))) c.gap_behind-gap.ensures c.print_lines.ensures.front)

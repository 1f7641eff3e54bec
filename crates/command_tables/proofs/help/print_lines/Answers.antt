use Rattle.std.proofs.Common.{List, ℕ, [], ◌+◌, drop, map, ap, arith, ◌∙◌}
use Rattle.std.specs.Borrow.{Bor}
use Rattle.std.specs.Prelude.{codes}
use Rattle.std.proofs.lemmas.List.{drop_all, drop_more}
use Rattle.sink_writing.proofs.Pieces.{written_more}
use Rattle.command_tables.specs.Help.{help_lines}
use Rattle.command_tables.specs.declared.help.TheConstants.{INDENT}
use Rattle.command_tables.proofs.Printed.{front_next, two_texts}
use Rattle.command_tables.proofs.help.print_lines.Goals as goal

abbrev lines_behind : List ℕ → List (Bor (List ℕ)) → List ℕ
lines_behind gap lines = help_lines gap (map (λ text. text.now) lines)

pub returns-in_err-print_all-clause-front : goal.returns-in_err-print_all-clause-front
returns-in_err-print_all-clause-front g c =
    let lines = c.args.lines.now in
    let gap = c.loop-line.gap.now in
    let left = lines_behind INDENT.now (drop (c.loop-line.line-index + 1) lines) in
    front_next (g.K.Sink.written c.args.out.now) (g.K.Sink.written c.loop-line.out) (g.K.Sink.written c.print_all.new.out) (lines_behind c.args.gap.now lines)
    (lines_behind gap (drop c.loop-line.line-index lines)) _ left c.loop-line.invariant.written
    (ap (lines_behind gap) (drop_more lines c.loop-line.line-index _ c.loop-line-test.true) ∙ two_texts _ c.gap_before.result.now _ c.as_bytes.result.now left c.gap_before.ensures c.as_bytes.ensures.value) c.in_err-print_all.ensures.front

pub loop-line-preserved : goal.loop-line-preserved
loop-line-preserved g c =
    let lines = c.args.lines.now in
    let gap = c.loop-line.gap.now in
    let left = lines_behind INDENT.now (drop (c.loop-line.line-index + 1) lines) in
    record {
      written =
          written_more (g.K.Sink.written c.args.out.now) (g.K.Sink.written c.loop-line.out) (g.K.Sink.written c.print_all.new.out) (lines_behind c.args.gap.now lines)
          (lines_behind gap (drop c.loop-line.line-index lines)) _ left c.loop-line.invariant.written
          (ap (lines_behind gap) (drop_more lines c.loop-line.line-index _ c.loop-line-test.true) ∙ two_texts _ c.gap_before.result.now _ c.as_bytes.result.now left c.gap_before.ensures c.as_bytes.ensures.value) c.in_ok-print_all.ensures.whole;
      faults = omega (arith, c.print_all.ensures.never_falls, c.loop-line.invariant.faults);
    }

pub returns-clause-front : goal.returns-clause-front
returns-clause-front g c =
    let lines = c.args.lines.now in
    let none = ap (lines_behind c.loop-line.gap.now) (drop_all c.loop-line.line-index lines c.loop-line-test.false) in
    front_next (g.K.Sink.written c.args.out.now) (g.K.Sink.written c.loop-line.out) (g.K.Sink.written c.write_all.new.out) (lines_behind c.args.gap.now lines)
    (lines_behind c.loop-line.gap.now (drop c.loop-line.line-index lines)) (codes "\n") [] c.loop-line.invariant.written none c.write_all.ensures.front

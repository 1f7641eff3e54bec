use Rattle.std.proofs.Common.{List, ℕ, ◌++◌, ◌+◌, drop, map, ap, subst, arith}
use Rattle.std.specs.Borrow.{Bor}
use Rattle.std.specs.List.{flat_map}
use Rattle.std.proofs.lemmas.List.{drop_all, drop_more}
use Rattle.sink_writing.proofs.Pieces.{Written, written_more}
use Rattle.command_tables.specs.Help.{entry_text}
use Rattle.command_tables.specs.declared.rows.CommandRow.{CommandRow}
use Rattle.command_tables.proofs.Printed.{all_written, front_first, front_next, front_written}
use Rattle.command_tables.proofs.help.print_rows.Goals as goal

abbrev entries : List (CommandRow (Bor (List ℕ)) (Bor (List (Bor (List ℕ))))) → List ℕ
entries rows = flat_map (λ row. entry_text row.word.now (map (λ text. text.now) row.positions.now) (map (λ text. text.now) row.help.now)) rows

pub returns-in_err-write_all-clause-front : goal.returns-in_err-write_all-clause-front
returns-in_err-write_all-clause-front g c =
    front_first (g.K.Sink.written c.args.out.now) (g.K.Sink.written c.write_all.new.out) c.args.head.now (entries c.args.rows.now) c.in_err-write_all.ensures.front

pub returns-in_err-print_row-clause-front : goal.returns-in_err-print_row-clause-front
returns-in_err-print_row-clause-front g c =
    let rows = c.args.rows.now in
    front_next (g.K.Sink.written c.args.out.now) (g.K.Sink.written c.loop-row.out) (g.K.Sink.written c.print_row.new.out) (c.args.head.now ++ entries rows) (entries (drop c.loop-row.row-index rows)) _
    (entries (drop (c.loop-row.row-index + 1) rows)) c.loop-row.invariant.written (ap entries (drop_more rows c.loop-row.row-index _ c.loop-row-test.true)) c.in_err-print_row.ensures.front

pub loop-row-preserved : goal.loop-row-preserved
loop-row-preserved g c =
    let rows = c.args.rows.now in
    record {
      written =
          written_more (g.K.Sink.written c.args.out.now) (g.K.Sink.written c.loop-row.out) (g.K.Sink.written c.print_row.new.out) (c.args.head.now ++ entries rows) (entries (drop c.loop-row.row-index rows)) _
          (entries (drop (c.loop-row.row-index + 1) rows)) c.loop-row.invariant.written (ap entries (drop_more rows c.loop-row.row-index _ c.loop-row-test.true)) c.in_ok-print_row.ensures.whole;
      faults = omega (arith, c.print_row.ensures.never_falls, c.loop-row.invariant.faults);
    }

pub returns-clause-whole : goal.returns-clause-whole
returns-clause-whole g c =
    let none = drop_all c.loop-row.row-index c.args.rows.now c.loop-row-test.false in
    all_written (g.K.Sink.written c.args.out.now) (g.K.Sink.written c.loop-row.out) (c.args.head.now ++ entries c.args.rows.now)
    (subst (λ (l : List (CommandRow (Bor (List ℕ)) (Bor (List (Bor (List ℕ)))))). Written (g.K.Sink.written c.args.out.now) (g.K.Sink.written c.loop-row.out) (c.args.head.now ++ entries c.args.rows.now) (entries l)) none c.loop-row.invariant.written)

pub returns-clause-front : goal.returns-clause-front
returns-clause-front g c =
    front_written (g.K.Sink.written c.args.out.now) (g.K.Sink.written c.loop-row.out) (c.args.head.now ++ entries c.args.rows.now) (entries (drop c.loop-row.row-index c.args.rows.now)) c.loop-row.invariant.written

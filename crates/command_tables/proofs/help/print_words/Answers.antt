use Rattle.std.proofs.Common.{List, ℕ, [], ◌∷◌, ◌++◌, ◌+◌, drop, map, refl, ap, arith, ◌∙◌}
use Rattle.std.specs.Borrow.{Bor}
use Rattle.std.specs.Prelude.{codes}
use Rattle.std.specs.List.{flat_map}
use Rattle.std.proofs.lemmas.List.{drop_more}
use Rattle.sink_writing.proofs.Pieces.{written_more}
use Rattle.command_tables.proofs.Printed.{front_next, nothing_yet, two_texts}
use Rattle.command_tables.proofs.help.print_words.Goals as goal

-- positions, each behind a blank
abbrev behind : List (Bor (List ℕ)) → List ℕ
behind positions = flat_map (λ position. 32 ∷ position) (map (λ text. text.now) positions)

pub returns-in_err-print_all-clause-front : goal.returns-in_err-print_all-clause-front
returns-in_err-print_all-clause-front g c =
    let row = c.args.row.now in
    let out = g.K.Sink.written c.args.out.now in
    let whole = codes "  " ++ (row.word.now ++ behind row.positions.now) in
    front_next out out (g.K.Sink.written c.print_all.new.out) whole whole _ (behind row.positions.now) (nothing_yet out whole)
    (two_texts (codes "  ") (codes "  ") row.word.now c.as_bytes.result.now (behind row.positions.now) refl c.as_bytes.ensures.value) c.in_err-print_all.ensures.front

pub returns-in_err-print_all-2-clause-front : goal.returns-in_err-print_all-2-clause-front
returns-in_err-print_all-2-clause-front g c =
    let row = c.args.row.now in
    let left = behind (drop (c.loop-position.position-index + 1) row.positions.now) in
    front_next (g.K.Sink.written c.args.out.now) (g.K.Sink.written c.loop-position.out) (g.K.Sink.written c.print_all-in-loop-position.new.out) (codes "  " ++ (row.word.now ++ behind row.positions.now))
    (behind (drop c.loop-position.position-index row.positions.now)) _ left c.loop-position.invariant.written
    (ap behind (drop_more row.positions.now c.loop-position.position-index _ c.loop-position-test.true) ∙ two_texts (32 ∷ []) (32 ∷ []) _ c.as_bytes-in-loop-position.result.now left refl c.as_bytes-in-loop-position.ensures.value)
    c.in_err-print_all-2.ensures.front

pub loop-position-preserved : goal.loop-position-preserved
loop-position-preserved g c =
    let row = c.args.row.now in
    let left = behind (drop (c.loop-position.position-index + 1) row.positions.now) in
    record {
      written =
          written_more (g.K.Sink.written c.args.out.now) (g.K.Sink.written c.loop-position.out) (g.K.Sink.written c.print_all-in-loop-position.new.out) (codes "  " ++ (row.word.now ++ behind row.positions.now))
          (behind (drop c.loop-position.position-index row.positions.now)) _ left c.loop-position.invariant.written
          (ap behind (drop_more row.positions.now c.loop-position.position-index _ c.loop-position-test.true) ∙ two_texts (32 ∷ []) (32 ∷ []) _ c.as_bytes-in-loop-position.result.now left refl c.as_bytes-in-loop-position.ensures.value)
          c.in_ok-print_all-2.ensures.whole;
      faults = omega (arith, c.print_all-in-loop-position.ensures.never_falls, c.loop-position.invariant.faults);
    }

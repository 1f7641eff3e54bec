use Rattle.std.proofs.Common.{subst}
use Rattle.std.specs.Prelude.{IfOk}
use Rattle.std.specs.List.Sorted.{IsPermutation}
use Rattle.line_log.specs.Sorting.{HasLinesOf, lines_numbered}
use Rattle.line_log.proofs.Fronts.{made_merged}
use Rattle.line_log.proofs.Shown.{rows_are, shown_moved, shown_sorted}
use Rattle.line_log.proofs.log.LineLog.order_of.Goals as goal

pub kept-requires-clause-rows : goal.kept-requires-clause-rows
kept-requires-clause-rows c =
    rows_are c.args.self.now c.args.front _ c.requires.within
    (subst (λ l. IsPermutation l (lines_numbered c.sort_keyed.new.lines)) c.requires.rows (shown_moved c.args.rows.now c.sort_keyed.new.lines c.sort_keyed.ensures.moved))

pub returns : goal.returns
returns c =
    let es = c.args.self.now in
    let rows = lines_numbered c.sort_keyed.new.lines in
    let moved = subst (λ l. IsPermutation l rows) c.requires.rows (shown_moved c.args.rows.now c.sort_keyed.new.lines c.sort_keyed.ensures.moved) in
    let sorted = shown_sorted c.sort_keyed.new.lines c.sort_keyed.ensures.sorted in
    subst (λ lines. IfOk c.kept.result (λ order. HasLinesOf es order.items lines)) (made_merged es c.args.front rows c.requires.within c.requires.rise moved sorted) c.kept.ensures

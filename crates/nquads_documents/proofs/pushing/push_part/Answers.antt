use Rattle.std.proofs.Common.{◌+◌, ◌<◌, ◌∙◌, drop, length, sym, arith}
use Rattle.std.proofs.lemmas.Result.{err_from_is_err_and}
use Rattle.nquads_documents.proofs.Pushed.{comment_fails, comment_there, end_fails, line_there, no_line, part_fails_there}
use Rattle.nquads_documents.proofs.Steps.{part_line, part_none}
use Rattle.nquads_documents.proofs.pushing.push_part.Goals as goal

pub returns-then-at-text : goal.returns-then-at-text
returns-then-at-text c =
    no_line c.args.text.now c.args.out.now.items c.skip_blanks-at.result _ (part_none c.args.text.now (drop c.args.from c.args.text.now) c.skip_blanks-at.result c.skip_blanks-at.ensures.behind c.if-at-text.true)
    c.skip_blanks-at.ensures.high

pub returns-then-is_end : goal.returns-then-is_end
returns-then-is_end c =
    let high = c.skip_blanks-at.ensures.high in let other = c.if-at-text.false in
    let inside : c.skip_blanks-at.result < length c.args.text.now = omega arith in
    no_line c.args.text.now c.args.out.now.items (c.skip_blanks-at.result + 1) _
    (part_line c.args.text.now (drop c.args.from c.args.text.now) c.skip_blanks-at.result c.skip_blanks-at.ensures.behind inside (sym c.is_end.ensures ∙ c.if-is_end.true)) (omega arith)

pub returns-in_err-end : goal.returns-in_err-end
returns-in_err-end c =
    let high = c.skip_blanks-at.ensures.high in let other = c.if-at-text.false in
    let inside : c.skip_blanks-at.result < length c.args.text.now = omega arith in
    let p = err_from_is_err_and c.from_residual.result c.from_residual.ensures.1 in
    rw (p.1, p.2) (comment_fails c.args.text.now (drop c.args.from c.args.text.now) c.skip_blanks-at.result c.skip_blanks-at.ensures.behind inside (sym c.is_end.ensures ∙ c.if-is_end.false)
    c.in_err-end.field-0.0 c.if-text-at-eq35.true c.in_err-end.ensures.gives)

pub returns-then-text-at-eq35 : goal.returns-then-text-at-eq35
returns-then-text-at-eq35 c =
    let high = c.skip_blanks-at.ensures.high in let other = c.if-at-text.false in
    let inside : c.skip_blanks-at.result < length c.args.text.now = omega arith in
    comment_there c.args.text.now (drop c.args.from c.args.text.now) c.skip_blanks-at.result c.skip_blanks-at.ensures.behind inside (sym c.is_end.ensures ∙ c.if-is_end.false)
    c.args.out.now.items c.in_ok-end.end c.if-text-at-eq35.true c.in_ok-end.ensures.gives.0 c.in_ok-end.ensures.gives.1

pub returns-in_err-behind : goal.returns-in_err-behind
returns-in_err-behind c =
    let high = c.skip_blanks-at.ensures.high in let other = c.if-at-text.false in
    let inside : c.skip_blanks-at.result < length c.args.text.now = omega arith in
    let p = err_from_is_err_and c.from_residual-in_err-behind.result c.from_residual-in_err-behind.ensures.1 in
    rw (p.1, p.2) (part_fails_there c.args.text.now (drop c.args.from c.args.text.now) c.skip_blanks-at.result c.skip_blanks-at.ensures.behind inside (sym c.is_end.ensures ∙ c.if-is_end.false)
    c.in_err-behind.field-0.0 c.if-text-at-eq35.false c.in_err-behind.ensures)

pub returns-in_err-end-2 : goal.returns-in_err-end-2
returns-in_err-end-2 c =
    let high = c.skip_blanks-at.ensures.high in let other = c.if-at-text.false in
    let inside : c.skip_blanks-at.result < length c.args.text.now = omega arith in
    let p = err_from_is_err_and c.from_residual-in_err-end-2.result c.from_residual-in_err-end-2.ensures.1 in
    rw (p.1, p.2) (end_fails c.args.text.now (drop c.args.from c.args.text.now) c.skip_blanks-at.result c.skip_blanks-at.ensures.behind inside (sym c.is_end.ensures ∙ c.if-is_end.false)
    c.in_err-end-2.field-0.0 c.args.out.now.items c.push_statement.new.out.items c.in_ok-behind.behind c.if-text-at-eq35.false c.in_ok-behind.ensures c.in_err-end-2.ensures.gives)

pub returns : goal.returns
returns c =
    let high = c.skip_blanks-at.ensures.high in let other = c.if-at-text.false in
    let inside : c.skip_blanks-at.result < length c.args.text.now = omega arith in
    line_there c.args.text.now (drop c.args.from c.args.text.now) c.skip_blanks-at.result c.skip_blanks-at.ensures.behind inside (sym c.is_end.ensures ∙ c.if-is_end.false)
    c.args.out.now.items c.push_statement.new.out.items c.in_ok-behind.behind c.in_ok-end-2.end c.if-text-at-eq35.false c.in_ok-behind.ensures c.in_ok-end-2.ensures.gives.0 c.in_ok-end-2.ensures.gives.1

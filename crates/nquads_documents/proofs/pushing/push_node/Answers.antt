use Rattle.std.proofs.Common.{drop}
use Rattle.std.proofs.lemmas.Result.{err_from_is_err_and}
use Rattle.nquads_documents.proofs.Pushed.{node_fails, node_pushed, node_refused, term_bound}
use Rattle.nquads_documents.proofs.pushing.push_node.Goals as goal

pub returns-in_err-end : goal.returns-in_err-end
returns-in_err-end c =
    let p = err_from_is_err_and c.from_residual.result c.from_residual.ensures.1 in rw (p.1, p.2) (node_fails c.args.text.now (drop c.args.at c.args.text.now) c.in_err-end.field-0.0 c.in_err-end.ensures)

pub bounds-text-at : goal.bounds-text-at
bounds-text-at c = term_bound c.args.text.now c.args.out.now.items c.push_next_term.new.out.items c.args.at c.in_ok-end.end c.in_ok-end.ensures

pub returns-then-text-at-eq34 : goal.returns-then-text-at-eq34
returns-then-text-at-eq34 c = node_refused c.args.text.now c.args.out.now.items c.push_next_term.new.out.items c.args.at c.in_ok-end.end c.requires c.in_ok-end.ensures c.if-text-at-eq34.true

pub returns : goal.returns
returns c = node_pushed c.args.text.now c.args.out.now.items c.push_next_term.new.out.items c.args.at c.in_ok-end.end c.in_ok-end.ensures c.if-text-at-eq34.false

use Rattle.std.proofs.Common.{drop}
use Rattle.std.proofs.lemmas.Result.{err_from_is_err_and}
use Rattle.rdf_terms.specs.Quad.{statement}
use Rattle.nquads_documents.proofs.Pushed.{graph_is_missing, line_pushed, object_is_missing, predicate_is_missing, statement_fails, statement_there}
use Rattle.nquads_documents.proofs.pushing.push_statement.Goals as goal

pub returns-in_err-end : goal.returns-in_err-end
returns-in_err-end c =
    let p = err_from_is_err_and c.from_residual.result c.from_residual.ensures.1 in rw (p.1, p.2) (statement_fails c.args.text.now (drop c.args.at c.args.text.now) c.in_err-end.field-0.0 c.in_err-end.ensures)

pub returns-in_err-end-2 : goal.returns-in_err-end-2
returns-in_err-end-2 c =
    let p = err_from_is_err_and c.from_residual-in_err-end-2.result c.from_residual-in_err-end-2.ensures.1 in
    let s = c.in_ok-end.ensures in
    rw (p.1, p.2) (predicate_is_missing c.args.text.now (drop c.args.at c.args.text.now) (drop c.skip_blanks.result c.args.text.now) s.0 _ s.1 c.skip_blanks.ensures.behind c.in_err-end-2.field-0.0 c.in_err-end-2.ensures)

pub returns-in_err-end-3 : goal.returns-in_err-end-3
returns-in_err-end-3 c =
    let p = err_from_is_err_and c.from_residual-in_err-end-3.result c.from_residual-in_err-end-3.ensures.1 in
    let s = c.in_ok-end.ensures in let q = c.in_ok-end-2.ensures in
    rw (p.1, p.2) (object_is_missing c.args.text.now (drop c.args.at c.args.text.now) (drop c.skip_blanks.result c.args.text.now) s.0 _ s.1 c.skip_blanks.ensures.behind
    (drop c.skip_blanks-2.result c.args.text.now) q.0 _ q.1 c.skip_blanks-2.ensures.behind c.in_err-end-3.field-0.0 c.in_err-end-3.ensures)

pub returns-in_err-end-4 : goal.returns-in_err-end-4
returns-in_err-end-4 c =
    let p = err_from_is_err_and c.from_residual-in_err-end-4.result c.from_residual-in_err-end-4.ensures.1 in
    let s = c.in_ok-end.ensures in let q = c.in_ok-end-2.ensures in let o = c.in_ok-end-3.ensures in
    rw (p.1, p.2) (graph_is_missing c.args.text.now (drop c.args.at c.args.text.now) (drop c.skip_blanks.result c.args.text.now) s.0 _ s.1 c.skip_blanks.ensures.behind
    (drop c.skip_blanks-2.result c.args.text.now) q.0 _ q.1 c.skip_blanks-2.ensures.behind (drop c.skip_blanks-3.result c.args.text.now) o.0 _ o.1 c.skip_blanks-3.ensures.behind
    c.in_err-end-4.field-0.0 c.in_err-end-4.ensures)

pub returns : goal.returns
returns c =
    let s = c.in_ok-end.ensures in let p = c.in_ok-end-2.ensures in let o = c.in_ok-end-3.ensures in let g = c.in_ok-end-4.ensures in (
      statement s.0 p.0 o.0 g.0,
      statement_there c.args.text.now (drop c.args.at c.args.text.now) (drop c.skip_blanks.result c.args.text.now) s.0 _ s.1 c.skip_blanks.ensures.behind
          (drop c.skip_blanks-2.result c.args.text.now) p.0 _ p.1 c.skip_blanks-2.ensures.behind (drop c.skip_blanks-3.result c.args.text.now) o.0 _ o.1 c.skip_blanks-3.ensures.behind g.0 _ g.1,
      g.2,
      line_pushed c.args.out.now.items c.push_node.new.out.items c.push.new.self.items c.push_predicate.new.out.items c.push-2.new.self.items c.push_next_term.new.out.items c.push_graph.new.out.items c.extend_from_slice.new.self.items
          (statement s.0 p.0 o.0 g.0) s.3 c.in_ok-push.ensures.items p.3 c.in_ok-push-2.ensures.items o.3 g.3 c.in_ok-extend_from_slice.ensures.items,
    )

use Rattle.std.proofs.Common.{◌∙◌, drop, sym}
use Rattle.std.proofs.lemmas.Result.{err_from_is_err_and}
use Rattle.nquads_documents.proofs.Pushed.{graph_dot_fails, graph_fails, graph_node_fails, graph_none_fails, graph_none_pushed, graph_pushed}
use Rattle.nquads_documents.proofs.pushing.push_graph.Goals as goal

pub returns-in_err-c : goal.returns-in_err-c
returns-in_err-c c =
    let p = err_from_is_err_and c.from_residual.result c.from_residual.ensures.1 in rw (p.1, p.2) (graph_fails c.args.text.now (drop c.args.at c.args.text.now) c.in_err-c.field-0.0 c.in_err-c.ensures.gives)

pub returns-in_err-end : goal.returns-in_err-end
returns-in_err-end c =
    let p = err_from_is_err_and c.from_residual-in_err-end.result c.from_residual-in_err-end.ensures.1 in
    rw (p.1, p.2) (graph_node_fails c.args.text.now (drop c.args.at c.args.text.now) _ c.in_ok-c.c c.in_ok-c.ensures.gives.0 c.in_err-end.field-0.0 (sym c.begins_term.ensures ∙ c.if-begins_term.true) c.in_err-end.ensures)

pub returns-in_err-next : goal.returns-in_err-next
returns-in_err-next c =
    let p = err_from_is_err_and c.from_residual-in_err-next.result c.from_residual-in_err-next.ensures.1 in
    rw (p.1, p.2) (graph_dot_fails c.args.text.now (drop c.args.at c.args.text.now) _ c.in_ok-c.c c.in_ok-c.ensures.gives.0 c.in_err-next.field-0.0 c.push.new.self.items c.push_node.new.out.items
    (drop c.skip_blanks.result c.args.text.now) c.in_ok-end.end (sym c.begins_term.ensures ∙ c.if-begins_term.true) c.in_ok-end.ensures c.skip_blanks.ensures.behind c.in_err-next.ensures)

pub returns-then-begins_term : goal.returns-then-begins_term
returns-then-begins_term c =
    graph_pushed c.args.text.now (drop c.args.at c.args.text.now) _ c.in_ok-c.c c.in_ok-c.ensures.gives.0 c.args.out.now.items c.push_node.new.out.items (drop c.skip_blanks.result c.args.text.now) c.in_ok-end.end c.in_ok-next.next
    (sym c.begins_term.ensures ∙ c.if-begins_term.true) (rw (sym c.in_ok-push.ensures.items) c.in_ok-end.ensures) c.skip_blanks.ensures.behind c.in_ok-next.ensures.0 c.in_ok-next.ensures.1

pub returns-in_err-next-2 : goal.returns-in_err-next-2
returns-in_err-next-2 c =
    let p = err_from_is_err_and c.from_residual-in_err-next-2.result c.from_residual-in_err-next-2.ensures.1 in
    rw (p.1, p.2) (graph_none_fails c.args.text.now (drop c.args.at c.args.text.now) _ c.in_ok-c.c c.in_ok-c.ensures.gives.0 c.in_err-next-2.field-0.0 (sym c.begins_term.ensures ∙ c.if-begins_term.false) c.in_err-next-2.ensures)

pub returns : goal.returns
returns c =
    graph_none_pushed c.args.text.now (drop c.args.at c.args.text.now) _ c.in_ok-c.c c.in_ok-c.ensures.gives.0 c.args.out.now.items c.in_ok-next-2.next (sym c.begins_term.ensures ∙ c.if-begins_term.false)
    c.in_ok-next-2.ensures.0 c.in_ok-next-2.ensures.1

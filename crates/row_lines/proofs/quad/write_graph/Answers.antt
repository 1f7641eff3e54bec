use Rattle.std.proofs.Common.{drop, sym, ◌∙◌}
use Rattle.row_lines.proofs.Written.{graph_none, graph_some, space_skipped}
use Rattle.row_lines.proofs.quad.write_graph.Goals as goal

pub returns-then-not-is_term_at : goal.returns-then-not-is_term_at
returns-then-not-is_term_at c =
    graph_none c.args.text.now (drop c.args.at c.args.text.now) c.args.out.now.items c.in_ok-behind.behind (sym c.is_term_at.ensures ∙ c.if-not-is_term_at.true) c.in_ok-behind.ensures.0 c.in_ok-behind.ensures.1

pub returns : goal.returns
returns c =
    graph_some c.args.text.now (drop c.args.at c.args.text.now) c.args.out.now.items c.write_node.new.out.items c.in_ok-end.end c.in_ok-behind-2.behind (drop c.skip_space.result c.args.text.now)
    (sym c.is_term_at.ensures ∙ c.if-not-is_term_at.false) (rw (sym c.in_ok-push.ensures.items) c.in_ok-end.ensures) (space_skipped _ _ c.skip_space.ensures.only) c.in_ok-behind-2.ensures.0 c.in_ok-behind-2.ensures.1

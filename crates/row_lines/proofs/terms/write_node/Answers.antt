use Rattle.row_lines.proofs.Written.{node_written}
use Rattle.row_lines.proofs.terms.write_node.Goals as goal

pub returns : goal.returns
returns c = node_written c.args.text.now c.args.out.now.items c.push_node.new.out.items c.args.at c.in_ok-end-2.end c.in_ok-end-2.ensures (c.is_settled.ensures c.if-not-is_settled.false)

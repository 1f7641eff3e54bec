use Rattle.canonical_scan.proofs.Making.{name_there, graph_made}
use Rattle.canonical_scan.proofs.quads.graph_between.Goals as goal

pub node_between-requires : goal.node_between-requires
node_between-requires c = name_there c.args.text.now c.args.at c.args.end c.requires c.if-at-end.false

pub returns : goal.returns
returns c = graph_made c.args.text.now c.args.at c.args.end c.requires c.if-at-end.false c.in_ok-node_between.field-0 c.in_ok-node_between.ensures

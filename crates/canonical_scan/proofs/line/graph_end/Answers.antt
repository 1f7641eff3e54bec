use Rattle.canonical_scan.proofs.Lines.{no_graph_there, graph_there}
use Rattle.canonical_scan.proofs.line.graph_end.Goals as goal

pub returns-then-text-graph-eq46 : goal.returns-then-text-graph-eq46
returns-then-text-graph-eq46 c = no_graph_there c.args.text.now c.args.at c.requires

pub returns : goal.returns
returns c = graph_there c.args.text.now c.args.at c.in_ok-graph.graph c.in_ok-end.end c.in_ok-graph.ensures c.in_ok-end.ensures

use Rattle.std.proofs.Common.{◌≡◌, ◌+◌, ◌-◌, ◌≤◌, List}
use Rattle.delta_client.specs.Lines.{opens}
use Rattle.delta_client.specs.Exchanges.{dial_view}
use Rattle.catch_up.specs.Runs.{TakenText}
use Rattle.catch_up.proofs.Rest.{Gone}
use Rattle.catch_up.proofs.catching_up.take_rest.Given as goal

abbrev pub invariant-loop-reached : goal.invariant-loop-reached
invariant-loop-reached g l =
    let told = λ (net : g.row.N.Denot). dial_view g.N.Dial net in
    record {
      gone : (steps : List TakenText) × Gone (g.T.Replica.takes l.fn.replica) l.theirs g.N.Dial.tells g.N.L.Link.left g.N.L.Link.sent l.address l.name l.fn.from l.fn.state l.fn.line.open (told l.fn.net) steps l.reached l.state l.line.open (told l.net);
      ready : g.T.Replica.ready l.fn.replica l.state;
      goes_on : g.T.Replica.goes_on l.fn.replica l.state l.reached;
      enough : opens l.line.open ≤ g.N.Dial.held l.net;
      count : g.N.Dial.held l.net + opens l.fn.line.open ≡ g.N.Dial.held l.fn.net + opens l.line.open;
      link : g.N.Dial.faults l.fn.net ≤ g.N.Dial.faults l.net;
    }

abbrev pub decreases-loop-reached : goal.decreases-loop-reached
decreases-loop-reached g l = l.theirs - l.reached

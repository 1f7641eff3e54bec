use Rattle.std.proofs.Common.{◌≤◌, ◌+◌, [], ◌∷◌, ◌++◌, refl, arith}
use Rattle.delta_client.specs.Exchanges.{dial_view}
use Rattle.catch_up.specs.Runs.{TakenText}
use Rattle.catch_up.proofs.Rest.{gone_none, gone_on, gone_stopped, gone_through}
use Rattle.catch_up.proofs.catching_up.take_rest.Goals as goal

pub loop-reached-init : goal.loop-reached-init
loop-reached-init g c =
    let told = λ (net : g.row.N.Denot). dial_view g.N.Dial net in
    record {
      gone = ([], gone_none (g.T.Replica.takes c.args.replica.now) c.args.theirs g.N.Dial.tells g.N.L.Link.left g.N.L.Link.sent c.args.address.now c.args.name.now c.args.from c.args.state.now c.args.line.now.open (told c.args.net.now));
      ready = c.requires.ready;
      goes_on = c.requires.goes_on;
      enough = c.requires.count;
      count = refl;
      link = omega arith;
    }

pub loop-reached-preserved : goal.loop-reached-preserved
loop-reached-preserved g c =
    let told = λ (net : g.row.N.Denot). dial_view g.N.Dial net in
    let so = c.loop-reached.invariant in
    let e = c.in-Ok.ensures in
    let step : TakenText = record { version = c.loop-reached.reached + 1; text = e.ok.0; reached = c.in-Ok.further } in
    record {
      gone = (
        so.gone.0 ++ step ∷ [],
        gone_on (g.T.Replica.takes c.args.replica.now) c.args.theirs g.N.Dial.tells g.N.L.Link.left g.N.L.Link.sent c.args.address.now c.args.name.now c.args.from c.args.state.now c.args.line.now.open (told c.args.net.now)
            so.gone.0 c.loop-reached.reached c.loop-reached.state c.take_one.new.state c.loop-reached.line.open c.take_one.new.line.open (told c.loop-reached.net) (told c.take_one.new.net) e.ok.0 c.in-Ok.further c.loop-reached-test.true so.gone.1 e.ok.1 e.ok.2,
      );
      ready = e.ready;
      goes_on = e.goes_on;
      enough = omega (arith, so.enough, e.count);
      count = omega (arith, so.count, e.count);
      link = omega (arith, so.link, e.never_falls);
    }

pub returns-in-Err-clause-rest : goal.returns-in-Err-clause-rest
returns-in-Err-clause-rest g c =
    let told = λ (net : g.row.N.Denot). dial_view g.N.Dial net in
    let so = c.loop-reached.invariant in
    let e = c.in-Err.ensures in
    let it = gone_stopped (g.T.Replica.takes c.args.replica.now) c.args.theirs g.N.Dial.tells g.N.L.Link.left g.N.L.Link.sent c.args.address.now c.args.name.now c.args.from c.args.state.now c.args.line.now.open (told c.args.net.now)
    so.gone.0 c.loop-reached.reached c.loop-reached.state c.take_one.new.state c.loop-reached.line.open c.take_one.new.line.open (told c.loop-reached.net) (told c.take_one.new.net) e.err.0 c.in-Err.end c.loop-reached-test.true so.gone.1 e.err.1 e.err.2 in
    (so.gone.0, e.err.0, it.0, it.1)

pub returns-clause-rest : goal.returns-clause-rest
returns-clause-rest g c =
    let told = λ (net : g.row.N.Denot). dial_view g.N.Dial net in
    let so = c.loop-reached.invariant in
    let done : c.args.theirs ≤ c.loop-reached.reached = omega (arith, c.loop-reached-test.false) in
    let it = gone_through (g.T.Replica.takes c.args.replica.now) c.args.theirs g.N.Dial.tells g.N.L.Link.left g.N.L.Link.sent c.args.address.now c.args.name.now c.args.from c.args.state.now c.args.line.now.open (told c.args.net.now)
    so.gone.0 c.loop-reached.reached c.loop-reached.state c.loop-reached.line.open (told c.loop-reached.net) done so.gone.1 in
    (so.gone.0, [], it.0, it.1)

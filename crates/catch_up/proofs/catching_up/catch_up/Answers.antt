use Rattle.std.proofs.Common.{Option, None, sym, subst}
use Rattle.delta_client.specs.declared.line.Open.{Open}
use Rattle.delta_client.specs.Lines.{IsOpen}
use Rattle.delta_client.specs.Exchanges.{dial_view}
use Rattle.catch_up.specs.Runs.{calls_in, said_in}
use Rattle.catch_up.proofs.catching_up.catch_up.Goals as goal

pub returns-clause-run : goal.returns-clause-run
returns-clause-run g c =
    let told = λ (net : g.row.N.Denot). dial_view g.N.Dial net in
    let all = c.catch_up_over-end.ensures.run in
    let none = subst (λ (o : Option (Open g.row.N-L.Denot)). IsOpen g.N.L.Link.left None o) (sym c.new-line.ensures) tt in (
      all.0,
      all.1,
      λ tells. c.end.ensures.exchanged tells c.args.address.now (calls_in c.args.name.now all.0) (said_in all.0) None c.new-line.result.open (told c.args.net.now) none (all.2 tells),
    )

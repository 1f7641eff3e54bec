use Rattle.std.proofs.Common.{Option, None, [], ◌∷◌, sym, subst}
use Rattle.delta_client.specs.Exchanges.{dial_view}
use Rattle.delta_client.specs.Lines.{IsOpen}
use Rattle.delta_client.specs.declared.line.Open.{Open}
use Rattle.client_commands.proofs.commands.ask_once.Goals as goal

pub returns-clause-asks : goal.returns-clause-asks
returns-clause-asks g c tells =
    let asked = c.ask_over-ended.ensures.asks tells in
    let none = subst (λ (o : Option (Open g.row.N-L.Denot)). IsOpen g.N.L.Link.left None o) (sym c.new-line.ensures) tt in
    record {
      said = asked.said;
      asks = c.end.ensures.exchanged tells c.args.address.now (c.args.call.now ∷ []) (asked.said ∷ []) None c.new-line.result.open (dial_view g.N.Dial c.args.net.now) none asked.asks;
      ends = asked.ends;
    }

use Rattle.std.proofs.Common.{Ok, Err, ap}
use Rattle.delta_client.specs.Exchanges.{dial_view}
use Rattle.client_commands.specs.declared.fault.ClientFault.{ClientFault}
use Rattle.client_commands.proofs.Asking.{asks_one}
use Rattle.client_commands.proofs.commands.ask_over.Goals as goal

pub returns-in-Ok-clause-asks : goal.returns-in-Ok-clause-asks
returns-in-Ok-clause-asks g c tells =
    let e = c.in-Ok.ensures in
    record {
      said = Ok c.in-Ok.answer;
      asks = asks_one g.N.L.Link.left g.N.L.Link.sent c.args.address.now c.args.call.now (Ok c.in-Ok.answer) c.args.line.now.open c.ask_again.new.line.open (dial_view g.N.Dial c.args.net.now) (dial_view g.N.Dial c.ask_again.new.net)
          (record { over = e.over tells; kept = e.kept; tried = e.tried });
      ends = c.end_of.ensures;
    }

pub returns-in-Err-clause-asks : goal.returns-in-Err-clause-asks
returns-in-Err-clause-asks g c tells =
    let e = c.in-Err.ensures in
    record {
      said = Err c.in-Err.fault;
      asks = asks_one g.N.L.Link.left g.N.L.Link.sent c.args.address.now c.args.call.now (Err c.in-Err.fault) c.args.line.now.open c.ask_again.new.line.open (dial_view g.N.Dial c.args.net.now) (dial_view g.N.Dial c.ask_again.new.net)
          (record { over = e.over tells; kept = e.kept; tried = e.tried });
      ends = ap (λ (fault : ClientFault). Err fault) c.of_ask.ensures;
    }

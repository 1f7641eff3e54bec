use Rattle.delta_client.specs.Exchanges.{dial_view}
use Rattle.client_commands.proofs.Asking.{none_asked, source_asked, both_asked}
use Rattle.client_commands.proofs.commands.ask_two.Goals as goal

pub returns-in-Err-clause-asks : goal.returns-in-Err-clause-asks
returns-in-Err-clause-asks g c tells = none_asked g.N.L.Link.left g.N.L.Link.sent c.args.address.now c.args.name.now c.args.line.now.open (dial_view g.N.Dial c.args.net.now)

pub returns-clause-asks : goal.returns-clause-asks
returns-clause-asks g c tells =
    source_asked g.N.L.Link.left g.N.L.Link.sent c.args.address.now c.args.name.now c.args.line.now.open (dial_view g.N.Dial c.args.net.now) c.in-Ok.calls.source c.in-Ok.ensures.source c.ask_over.new.line.open (dial_view g.N.Dial c.ask_over.new.net) c.in-Err-ask_over.fault
    (c.in-Err-ask_over.ensures.asks tells)

pub returns-in-Ok-ask_over-clause-asks : goal.returns-in-Ok-ask_over-clause-asks
returns-in-Ok-ask_over-clause-asks g c tells =
    both_asked g.N.L.Link.left g.N.L.Link.sent c.args.address.now c.args.name.now c.args.line.now.open (dial_view g.N.Dial c.args.net.now) c.in-Ok.calls.source c.in-Ok.calls.log c.in-Ok.ensures.source c.in-Ok.ensures.log c.ask_over.new.line.open c.ask_over-second.new.line.open
    (dial_view g.N.Dial c.ask_over.new.net) (dial_view g.N.Dial c.ask_over-second.new.net) c.in-Ok-ask_over.first c.ask_over-second.result c.join.result (c.in-Ok-ask_over.ensures.asks tells) (c.ask_over-second.ensures.asks tells) c.join.ensures

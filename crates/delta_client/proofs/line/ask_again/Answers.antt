use Rattle.std.proofs.Common.{◌≡◌, None, rules}
use Rattle.std.specs.Prelude.{IsSome}
use Rattle.delta_client.specs.Lines.{told_of}
use Rattle.delta_client.proofs.LineLemmas.{over_standing, over_new}
use Rattle.delta_client.proofs.line.ask_again.Goals as goal

pub returns-then-is_some-clause-over : goal.returns-then-is_some-clause-over
returns-then-is_some-clause-over g c tells standing is =
    let told = λ (net : g.row.N.Denot). told_of (g.N.Dial.to_come net) (g.N.Dial.addresses net) (g.N.Dial.back net) in
    let some : IsSome c.args.line.now.open = search rules in
    over_standing g.N.L.Link.left g.N.L.Link.sent c.args.address.now c.args.call.now (told c.ask_open.new.net) c.ask_open.new.line.open c.ask_open.result (told c.args.net.now) standing c.args.line.now.open some is (c.ask_open.ensures.over tells)

pub returns-in-Ok-clause-over : goal.returns-in-Ok-clause-over
returns-in-Ok-clause-over g c tells standing is =
    let told = λ (net : g.row.N.Denot). told_of (g.N.Dial.to_come net) (g.N.Dial.addresses net) (g.N.Dial.back net) in
    let none : c.args.line.now.open ≡ None = search rules in
    over_new g.N.L.Link.left g.N.L.Link.sent c.args.address.now c.args.call.now (told c.ask_open-in-Ok.new.net) c.ask_open-in-Ok.new.line.open c.ask_open-in-Ok.result (told c.args.net.now) (told c.begin.new.net) standing c.args.line.now.open c.begin.new.line.open
    none is (c.in-Ok.ensures.made tells) (c.ask_open-in-Ok.ensures.over tells)

use Rattle.std.proofs.Common.{Option, refl, sym, subst}
use Rattle.delta_client.specs.declared.line.Open.{Open}
use Rattle.delta_client.specs.Lines.{IsBegun, told_of}
use Rattle.delta_client.proofs.LineLemmas.{begun, same_told}
use Rattle.delta_client.proofs.line.begin.Goals as goal

pub returns-in-None-clause-made : goal.returns-in-None-clause-made
returns-in-None-clause-made g c tells =
    let made = c.in-Ok.ensures in
    let told = λ (net : g.row.N.Denot). told_of (g.N.Dial.to_come net) (g.N.Dial.addresses net) (g.N.Dial.back net) in
    let same = same_told _ _ _ _ _ _ refl (made.address tells) (made.back tells) in
    let is = begun g.N.L.Link.left c.args.address.now (told c.args.net.now) (told c.connect.new.self) c.in-Ok.link (g.N.Dial.to_come c.connect.new.self) c.new-reader.result (made.made tells) same c.new-reader.ensures.stands in
    subst (λ (line : Option (Open g.row.N-L.Denot)). IsBegun g.N.L.Link.left c.args.address.now (told c.args.net.now) (told c.connect.new.self) line) (sym c.in-None.ensures.after) is

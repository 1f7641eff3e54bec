use Rattle.delta_client.specs.Exchanges.{dial_view}
use Rattle.delta_client.proofs.Exchanging.{exchanged}
use Rattle.delta_client.proofs.LineLemmas.{same_told}
use Rattle.delta_client.proofs.line.Line.end.Goals as goal

pub returns-clause-exchanged : goal.returns-clause-exchanged
returns-clause-exchanged g c tells address calls said standing talk before is asks =
    let view = λ (net : g.row.N.Denot). dial_view g.N.Dial net in
    let hung = c.hang_up.ensures in
    exchanged g.L.Link.left g.L.Link.sent address calls said standing talk c.args.self.open before (view c.args.net.now) (view c.hang_up.new.net) is asks (same_told _ _ _ _ _ _ (hung.to_come tells) (hung.addresses tells) (hung.back tells)) hung.tries

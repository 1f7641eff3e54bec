use Rattle.std.proofs.Common.{◌∙◌, ◌∷◌, List, sym, ap}
use Rattle.delta_session.proofs.Opens.{first_of}
use Rattle.delta_session.proofs.opening.take_first.Goals as goal

pub returns-clause-disks : goal.returns-clause-disks
returns-clause-disks g c =
    let rest : List g.row.D.Denot = c.pop.new.self.items in
    first_of c.args.disks.now.items rest c.in-Some.first (sym c.reverse.ensures.items ∙ c.in-Some.ensures.items) ∙ ap (λ (l : List g.row.D.Denot). c.in-Some.first ∷ l) (sym c.reverse-2.ensures.items)

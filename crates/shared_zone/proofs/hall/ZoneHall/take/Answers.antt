use Rattle.std.proofs.Common.{◌∙◌, sym, refl}
use Rattle.shared_zone.proofs.Taking.{in_turn, grows, fixed_still, faults_on, as_found, legal, stays}
use Rattle.shared_zone.proofs.hall.ZoneHall.take.Goals as goal

pub give_back-requires-clause-grown : goal.give_back-requires-clause-grown
give_back-requires-clause-grown g c = grows g.D.Disk c.enter-held.result.was c.take-stayed.new.self c.enter-held.new.pass.view.number c.args.patch.now c.args.version c.take-stayed.result (in_turn g.D.Disk c.value_mut.result.now c.enter-held.result.was c.take-stayed.new.self c.number-by.result c.enter-held.new.pass.view.number c.args.patch.now c.args.version c.take-stayed.result (c.number-by.ensures ∙ sym c.enter-held.ensures.enters.same.2) (c.value_mut.ensures.value ∙ c.enter-held.ensures.enters.value) c.take-stayed.ensures.does)

pub give_back-requires-clause-fixed : goal.give_back-requires-clause-fixed
give_back-requires-clause-fixed g c = fixed_still g.D.Disk c.enter-held.result.was c.take-stayed.new.self c.enter-held.new.pass.view.number c.args.patch.now c.args.version c.take-stayed.result (in_turn g.D.Disk c.value_mut.result.now c.enter-held.result.was c.take-stayed.new.self c.number-by.result c.enter-held.new.pass.view.number c.args.patch.now c.args.version c.take-stayed.result (c.number-by.ensures ∙ sym c.enter-held.ensures.enters.same.2) (c.value_mut.ensures.value ∙ c.enter-held.ensures.enters.value) c.take-stayed.ensures.does)

pub give_back-requires-clause-test : goal.give_back-requires-clause-test
give_back-requires-clause-test g c = c.take-stayed.ensures.few

pub give_back-requires-clause-faults : goal.give_back-requires-clause-faults
give_back-requires-clause-faults g c = faults_on g.D.Disk c.enter-held.result.was c.take-stayed.new.self c.enter-held.new.pass.view.number c.args.patch.now c.args.version c.take-stayed.result (in_turn g.D.Disk c.value_mut.result.now c.enter-held.result.was c.take-stayed.new.self c.number-by.result c.enter-held.new.pass.view.number c.args.patch.now c.args.version c.take-stayed.result (c.number-by.ensures ∙ sym c.enter-held.ensures.enters.same.2) (c.value_mut.ensures.value ∙ c.enter-held.ensures.enters.value) c.take-stayed.ensures.does)

pub give_back-requires-clause-as_found : goal.give_back-requires-clause-as_found
give_back-requires-clause-as_found g c none = as_found g.D.Disk c.enter-held.result.was c.take-stayed.new.self c.enter-held.new.pass.view.number c.args.patch.now c.args.version c.take-stayed.result (sym c.reaches.ensures ∙ none) (in_turn g.D.Disk c.value_mut.result.now c.enter-held.result.was c.take-stayed.new.self c.number-by.result c.enter-held.new.pass.view.number c.args.patch.now c.args.version c.take-stayed.result (c.number-by.ensures ∙ sym c.enter-held.ensures.enters.same.2) (c.value_mut.ensures.value ∙ c.enter-held.ensures.enters.value) c.take-stayed.ensures.does)

pub returns-clause-legal : goal.returns-clause-legal
returns-clause-legal g c =
    legal g.D.Disk c.args.self.now c.args.pass.now c.enter-held.new.pass c.give_back.new.pass c.enter-held.result _ c.enter-held.ensures.enters c.give_back.ensures.leaves refl c.requires.of c.args.patch.now c.args.version c.reaches.result c.give_back.ensures.quiet c.give_back.ensures.counts
    c.take-stayed.result c.reaches.ensures (in_turn g.D.Disk c.value_mut.result.now c.enter-held.result.was c.take-stayed.new.self c.number-by.result c.args.pass.now.view.number c.args.patch.now c.args.version c.take-stayed.result c.number-by.ensures (c.value_mut.ensures.value ∙ c.enter-held.ensures.enters.value) c.take-stayed.ensures.does)

pub returns-clause-stay : goal.returns-clause-stay
returns-clause-stay g c =
    stays g.D.Disk c.args.self.now c.args.pass.now c.enter-held.new.pass c.give_back.new.pass c.enter-held.result _ c.enter-held.ensures.enters c.give_back.ensures.leaves refl c.requires.of c.args.patch.now c.args.version c.reaches.result c.give_back.ensures.quiet c.give_back.ensures.counts
    c.take-stayed.result (in_turn g.D.Disk c.value_mut.result.now c.enter-held.result.was c.take-stayed.new.self c.number-by.result c.args.pass.now.view.number c.args.patch.now c.args.version c.take-stayed.result c.number-by.ensures (c.value_mut.ensures.value ∙ c.enter-held.ensures.enters.value) c.take-stayed.ensures.does)

use Rattle.std.proofs.Common.{◌∙◌, sym, refl}
use Rattle.registry_core.specs.Replies as asked
use Rattle.shared_registry.proofs.Calling.{in_turn, grows_of, as_found, turned}
use Rattle.shared_registry.proofs.shared.SharedRegistry.remove_by.Goals as goal

pub give_back-requires-clause-grown : goal.give_back-requires-clause-grown
give_back-requires-clause-grown g c = grows_of g.D.Disk c.enter-held.result.was c.remove-answer.new.self (asked.remove c.args.name.now) c.enter-held.new.pass.view.number (asked.changed c.remove-answer.result) (in_turn g.D.Disk c.value_mut.result.now c.enter-held.result.was c.remove-answer.new.self (asked.remove c.args.name.now) c.number-by.result c.enter-held.new.pass.view.number (asked.changed c.remove-answer.result) (c.number-by.ensures ∙ sym c.enter-held.ensures.enters.same.2) (c.value_mut.ensures.value ∙ c.enter-held.ensures.enters.value) c.remove-answer.ensures)

pub give_back-requires-clause-as_found : goal.give_back-requires-clause-as_found
give_back-requires-clause-as_found g c none = as_found g.D.Disk c.enter-held.result.was c.remove-answer.new.self (asked.remove c.args.name.now) c.enter-held.new.pass.view.number (asked.changed c.remove-answer.result) (in_turn g.D.Disk c.value_mut.result.now c.enter-held.result.was c.remove-answer.new.self (asked.remove c.args.name.now) c.number-by.result c.enter-held.new.pass.view.number (asked.changed c.remove-answer.result) (c.number-by.ensures ∙ sym c.enter-held.ensures.enters.same.2) (c.value_mut.ensures.value ∙ c.enter-held.ensures.enters.value) c.remove-answer.ensures) (sym (c.changes.ensures asked.removal) ∙ none)

pub returns-clause-called : goal.returns-clause-called
returns-clause-called g c =
    let called = in_turn g.D.Disk c.value_mut.result.now c.enter-held.result.was c.remove-answer.new.self (asked.remove c.args.name.now) c.number-by.result c.args.pass.now.view.number (asked.changed c.remove-answer.result) c.number-by.ensures (c.value_mut.ensures.value ∙ c.enter-held.ensures.enters.value) c.remove-answer.ensures in
    turned g.D.Disk c.args.self.now c.args.pass.now c.enter-held.new.pass c.give_back.new.pass c.enter-held.result _ c.enter-held.ensures.enters c.give_back.ensures.leaves refl c.requires.of (asked.remove c.args.name.now) (asked.changed c.remove-answer.result) called c.changes.result (c.changes.ensures asked.removal) c.give_back.ensures.quiet c.give_back.ensures.counts called (λ s. s)

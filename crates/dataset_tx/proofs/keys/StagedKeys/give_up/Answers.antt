use Rattle.std.proofs.Common.{ap, ◌∙◌}
use Rattle.dataset_tx.specs.Staging.{Staging}
use Rattle.dataset_tx.proofs.Closings.{closed, all_left}
use Rattle.dataset_tx.proofs.keys.StagedKeys.give_up.Goals as goal

pub invariant_of-self : goal.invariant_of-self
invariant_of-self c = closed c.self.inside.index c.self.inside.added.items c.remove_each.new.index c.remove_each.new.keys.items c.clear.new.self.keys c.self.invariant.sorted c.remove_each.ensures.index c.remove_each.ensures.keys c.clear.ensures.empty

pub returns-clause-contents : goal.returns-clause-contents
returns-clause-contents c = all_left c.self.inside.index c.self.inside.added.items c.remove_each.new.index c.remove_each.new.keys.items c.remove_each.ensures.index c.remove_each.ensures.keys ∙ ap (λ (s : Staging). s.contents) c.self.view_is

pub returns-clause-next : goal.returns-clause-next
returns-clause-next c = all_left c.self.inside.index c.self.inside.added.items c.remove_each.new.index c.clear.new.self.keys c.remove_each.ensures.index c.clear.ensures.empty ∙ ap (λ (s : Staging). s.contents) c.self.view_is

pub returns-clause-searched : goal.returns-clause-searched
returns-clause-searched c = c.remove_each.ensures.index ∙ ap (λ (s : Staging). s.contents) c.self.view_is

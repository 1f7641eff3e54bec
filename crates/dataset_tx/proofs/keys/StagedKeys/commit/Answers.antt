use Rattle.std.proofs.Common.{ap, ◌∙◌}
use Rattle.dataset_tx.specs.Staging.{Staging}
use Rattle.dataset_tx.proofs.Closings.{closed, all_left}
use Rattle.dataset_tx.proofs.keys.StagedKeys.commit.Goals as goal

pub invariant_of-self : goal.invariant_of-self
invariant_of-self c = closed c.self.inside.index c.self.inside.removed.keys c.remove_all.new.index c.clear.new.self.items c.remove_all.new.keys.keys c.self.invariant.sorted c.remove_all.ensures.index c.clear.ensures.items c.remove_all.ensures.keys

pub returns-clause-contents : goal.returns-clause-contents
returns-clause-contents c = all_left c.self.inside.index c.self.inside.removed.keys c.remove_all.new.index c.clear.new.self.items c.remove_all.ensures.index c.clear.ensures.items ∙ ap (λ (s : Staging). s.next) c.self.view_is

pub returns-clause-next : goal.returns-clause-next
returns-clause-next c = all_left c.self.inside.index c.self.inside.removed.keys c.remove_all.new.index c.remove_all.new.keys.keys c.remove_all.ensures.index c.remove_all.ensures.keys ∙ ap (λ (s : Staging). s.next) c.self.view_is

pub returns-clause-searched : goal.returns-clause-searched
returns-clause-searched c = c.remove_all.ensures.index ∙ ap (λ (s : Staging). s.next) c.self.view_is

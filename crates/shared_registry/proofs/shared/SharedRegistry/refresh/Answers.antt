use Rattle.std.proofs.Common.{inl}
use Rattle.shared_registry.proofs.Asking.{names_found, behind}
use Rattle.shared_registry.proofs.shared.SharedRegistry.refresh.Goals as goal

pub returns-in_err-found-clause-stay : goal.returns-in_err-found-clause-stay
returns-in_err-found-clause-stay g c = let n = c.count-count.ensures in inl (behind g.D.Disk c.args.self.now c.args.pass.now c.count-count.new.pass c.enter-held.new.pass c.give_back.new.pass c.enter-held.result c.requires.of n.same n.quiet n.later c.enter-held.ensures.enters c.give_back.ensures.leaves)

pub returns-clause-stay : goal.returns-clause-stay
returns-clause-stay g c = let n = c.count-count.ensures in inl (behind g.D.Disk c.args.self.now c.args.pass.now c.count-count.new.pass c.enter-held.new.pass c.give_back.new.pass c.enter-held.result c.requires.of n.same n.quiet n.later c.enter-held.ensures.enters c.give_back.ensures.leaves)

pub returns-clause-kept : goal.returns-clause-kept
returns-clause-kept g c = let n = c.in_ok-found.ensures in
    names_found g.D.Disk c.in_ok-found.field-0 c.count-count.new.pass c.enter-held.new.pass c.give_back.new.pass c.enter-held.result c.enter-held.ensures.enters c.give_back.ensures.leaves c.value.result.now c.value.ensures n.count n.living n.slots

pub returns-clause-fresh : goal.returns-clause-fresh
returns-clause-fresh g c = returns-clause-kept g c

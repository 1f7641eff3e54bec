use Rattle.std.proofs.Common.{arith}
use Rattle.shared_zone.proofs.Standing.{ids_count}
use Rattle.shared_zone.proofs.value.ZoneValueChained.count.Goals as goal

pub overflow_sub-version : goal.overflow_sub-version
overflow_sub-version g c = let opened = c.self.invariant.0 in let version = c.version.ensures.version in let ids = ids_count g.D.Disk _ c.self.invariant.1 in omega (arith, opened, version, ids)

pub returns : goal.returns
returns g c = let opened = c.self.invariant.0 in let version = c.version.ensures.version in let ids = ids_count g.D.Disk _ c.self.invariant.1 in let made = c.from.ensures in rw (← c.self.view_is) (omega (arith, opened, version, ids, made))

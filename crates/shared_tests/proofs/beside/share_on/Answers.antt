use Rattle.std.proofs.Common.{◌≡◌, length, arith}
use Rattle.shared_tests.proofs.Testing.{two_popped}
use Rattle.shared_tests.proofs.beside.share_on.Goals as goal

pub returns-clause-one : goal.returns-clause-one
returns-clause-one g c =
    let e = c.in-Ok-new.ensures in
    let len = e.passes.0 in
    let ok = c.in-Ok-new.passes.ok in
    let two : length c.in-Ok-new.passes.items ≡ 2 = omega arith in
    let t = two_popped c.in-Ok-new.passes.items c.pop.new.self.items c.pop-2.new.self.items c.in-Some-pop.one c.in-Some.two c.in-Some.ensures.items c.in-Some-pop.ensures.items two in
    (e.new 0 c.in-Some-pop.one t.1).0

pub returns-clause-two : goal.returns-clause-two
returns-clause-two g c =
    let e = c.in-Ok-new.ensures in
    let len = e.passes.0 in
    let ok = c.in-Ok-new.passes.ok in
    let two : length c.in-Ok-new.passes.items ≡ 2 = omega arith in
    let t = two_popped c.in-Ok-new.passes.items c.pop.new.self.items c.pop-2.new.self.items c.in-Some-pop.one c.in-Some.two c.in-Some.ensures.items c.in-Some-pop.ensures.items two in
    (e.new 1 c.in-Some.two t.2).0

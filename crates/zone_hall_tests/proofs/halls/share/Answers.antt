use Rattle.std.proofs.Common.{◌≡◌, length, arith}
use Rattle.zone_hall_tests.proofs.Passes.{two_popped}
use Rattle.zone_hall_tests.proofs.halls.share.Goals as goal

pub returns-clause-one : goal.returns-clause-one
returns-clause-one c =
    let e = c.in-Ok.ensures in
    let len = e.passes.0 in
    let ok = c.in-Ok.room.ok in
    let two : length c.in-Ok.room.items ≡ 2 = omega arith in
    let t = two_popped c.in-Ok.room.items c.pop.new.self.items c.pop-2.new.self.items c.in-Some-pop.one c.in-Some.two c.in-Some.ensures.items c.in-Some-pop.ensures.items two in
    let n = e.new 0 c.in-Some-pop.one t.1 in
    (n.0, n.1)

pub returns-clause-two : goal.returns-clause-two
returns-clause-two c =
    let e = c.in-Ok.ensures in
    let len = e.passes.0 in
    let ok = c.in-Ok.room.ok in
    let two : length c.in-Ok.room.items ≡ 2 = omega arith in
    let t = two_popped c.in-Ok.room.items c.pop.new.self.items c.pop-2.new.self.items c.in-Some-pop.one c.in-Some.two c.in-Some.ensures.items c.in-Some-pop.ensures.items two in
    let n = e.new 1 c.in-Some.two t.2 in
    (n.0, n.1)

use Rattle.std.proofs.Common.{[], sym, ◌∙◌, arith}
use Rattle.patch_log.specs.RunFaults.{breaks}
use Rattle.patch_log.proofs.Checking.{breaks_there, if_none, if_some, length-links_to, links_to, tested_there}
use Rattle.patch_log.proofs.reading.check_links.Goals as goal

pub returns-then-is_some-clause-fault : goal.returns-then-is_some-clause-fault
returns-then-is_some-clause-fault c =
    let patches = c.args.patches.now in
    let place = c.loop-place.place in
    let found = if_some c.fault_of.result _ (sym c.is_some.ensures ∙ c.if-is_some.true) c.fault_of.ensures.breaks in
    breaks (breaks_there patches place c.index-patches-place.result c.loop-place.test c.link_at-link.result c.loop-place-test.true c.index-patches-place.is c.loop-place.invariant c.link_at-link.ensures
    (found.0, found.1 (links_to patches place) [] c.loop-place.invariant))

pub push-requires : goal.push-requires
push-requires c =
    let patches = c.args.patches.now in
    let within = c.loop-place-test.true in
    record { room = omega (arith, c.loop-place.invariant.version_is, length-links_to patches c.loop-place.place (omega (arith, within)), within, c.requires.few) }

pub loop-place-preserved : goal.loop-place-preserved
loop-place-preserved c =
    let patches = c.args.patches.now in
    let place = c.loop-place.place in
    let follows = if_none c.fault_of.result _ (sym c.is_some.ensures ∙ c.if-is_some.false) c.fault_of.ensures.follows in
    let tested = c.in_ok-push.ensures.ok (links_to patches place) c.loop-place.invariant (follows (links_to patches place) c.loop-place.invariant) in
    tested_there patches place c.index-patches-place.result c.link_at-link.result c.push.new.self c.loop-place-test.true c.index-patches-place.is c.link_at-link.ensures tested

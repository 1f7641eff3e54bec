use Rattle.std.proofs.Common.{◌∙◌, refl}
use Rattle.shared_zone.proofs.Telling.{described, found_in_turn, grown_none, fixed_none, few_still, faults_none, all_none}
use Rattle.shared_zone.proofs.hall.ZoneHall.describe.Goals as goal

pub give_back-requires-clause-grown : goal.give_back-requires-clause-grown
give_back-requires-clause-grown g c = let enters = c.enter-held.ensures.enters in grown_none g.D.Disk c.enter-held.result.was c.enter-held.result.value enters.stands enters.value _

pub give_back-requires-clause-fixed : goal.give_back-requires-clause-fixed
give_back-requires-clause-fixed g c = let enters = c.enter-held.ensures.enters in fixed_none g.D.Disk c.enter-held.result.was c.enter-held.result.value enters.stands enters.value

pub give_back-requires-clause-test : goal.give_back-requires-clause-test
give_back-requires-clause-test g c = let enters = c.enter-held.ensures.enters in few_still g.D.Disk c.enter-held.result.was c.enter-held.result.value enters.stands enters.value

pub give_back-requires-clause-faults : goal.give_back-requires-clause-faults
give_back-requires-clause-faults g c = let enters = c.enter-held.ensures.enters in faults_none g.D.Disk c.enter-held.result.was c.enter-held.result.value enters.stands enters.value

pub give_back-requires-clause-as_found : goal.give_back-requires-clause-as_found
give_back-requires-clause-as_found g c none = let enters = c.enter-held.ensures.enters in all_none g.D.Disk c.enter-held.result.was c.enter-held.result.value enters.stands enters.value

pub returns-clause-legal : goal.returns-clause-legal
returns-clause-legal g c =
    let enters = c.enter-held.ensures.enters in
    described g.D.Disk c.args.self.now c.args.pass.now c.enter-held.new.pass c.give_back.new.pass c.enter-held.result _ enters c.give_back.ensures.leaves refl c.requires.of enters.value (c.give_back.ensures.quiet refl)
    c.value.result.now (c.value.ensures ∙ enters.value) c.describe-info.result c.describe-info.ensures.version c.describe-info.ensures.head

pub returns-clause-stay : goal.returns-clause-stay
returns-clause-stay g c =
    let enters = c.enter-held.ensures.enters in
    found_in_turn g.D.Disk c.args.self.now c.args.pass.now c.enter-held.new.pass c.give_back.new.pass c.enter-held.result _ enters c.give_back.ensures.leaves refl c.requires.of enters.value (c.give_back.ensures.quiet refl)

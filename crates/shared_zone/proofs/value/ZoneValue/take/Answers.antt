use Rattle.std.proofs.Common.{◌^◌, ◌<◌, List, length, sym, subst, arith}
use Rattle.patch_meaning.specs.Checked.{CheckedPatch}
use Rattle.turn_cell.specs.declared.view.Known.{Known}
use Rattle.shared_zone.specs.History.{SharedZone, ZoneStandsInTurn}
use Rattle.shared_zone.proofs.Standing.{stands_behind}
use Rattle.shared_zone.proofs.value.ZoneValue.take.Goals as goal

pub invariant_of-self : goal.invariant_of-self
invariant_of-self g c =
    let zone = c.take_next-answer.new.self in
    let found : SharedZone g.row.D.Denot = record { zone = c.self.inside.zone; base = c.self.inside.base.value.brief; history = c.self.inside.past.history } in
    let few : length zone.brief.ids < 2 ^ 32 = let fits = c.version-version.type_inv in let is = c.version-version.ensures.version in omega (arith, fits, is) in (
      c.self.invariant.0,
      subst (λ (h : List (Known CheckedPatch)). ZoneStandsInTurn g.D.Disk (record { zone = zone; base = c.self.inside.base.value.brief; history = h })) (sym c.follow.ensures)
          (stands_behind g.D.Disk found zone c.args.patch.now c.args.by c.self.invariant.1 few c.take_next-answer.result c.take_next-answer.ensures),
    )

pub returns-clause-few : goal.returns-clause-few
returns-clause-few g c = (invariant_of-self g c).1.few

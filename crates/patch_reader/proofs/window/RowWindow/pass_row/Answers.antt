use Rattle.std.proofs.Common.{◌-◌, ◌≤◌, List, ℕ, false, length, drop, refl, sym, subst}
use Rattle.patch_reader.specs.declared.front.Region.TheVariants as regions
use Rattle.patch_reader.specs.Held.{IsStuck, PassesGap}
use Rattle.patch_reader.specs.Window.{Window}
use Rattle.patch_reader.proofs.Holding.{row_passed, rest_is}
use Rattle.patch_reader.proofs.window.RowWindow.pass_row.Goals as goal

pub invariant_of-self : goal.invariant_of-self
invariant_of-self c =
    let r = c.self.inside in
    let at = c.args.end - r.from in
    let size = c.pass_front.result in
    let rest = rest_is c.deref.result.now r.kept.items at c.deref.ensures.value in
    row_passed r.fed.text r.passed r.from r.kept.items r.feeds r.at r.region c.self.invariant at c.args.end size c.pass_front.new.region
    (subst (λ (w : Window). w.kept ≤ c.args.end) (sym c.self.view_is) c.requires.low)
    (subst (λ (w : Window). c.args.end ≤ length w.fed) (sym c.self.view_is) c.requires.high) refl
    (subst (λ (t : List ℕ). size ≤ length t) rest c.pass_front.ensures.within)
    (subst (λ (t : List ℕ). PassesGap t (regions.Gap false) size c.pass_front.new.region) rest c.pass_front.ensures.passes)
    (subst (λ (t : List ℕ). IsStuck (drop size t) c.pass_front.new.region) rest c.pass_front.ensures.stuck)

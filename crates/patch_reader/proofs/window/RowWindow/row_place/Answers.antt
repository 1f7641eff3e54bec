use Rattle.std.proofs.Common.{◌+◌, None, drop, subst, arith}
use Rattle.patch_reader.specs.declared.front.Region.{Region}
use Rattle.patch_reader.specs.Held.{IsRest}
use Rattle.patch_reader.specs.Window.{Window, RowBegins}
use Rattle.patch_reader.proofs.Holding.{begins}
use Rattle.patch_reader.proofs.window.RowWindow.row_place.Goals as goal

pub returns-then-is_new-clause-begins : goal.returns-then-is_new-clause-begins
returns-then-is_new-clause-begins c =
    let r = c.self.inside in
    let place = r.from + r.at in
    let rest = drop r.at r.kept.items in
    let new = c.is_new.ensures.yes c.if-is_new.true in
    let there = begins r.fed.text r.passed place rest None (subst (λ (region : Region). IsRest r.fed.text r.passed place rest region) new c.self.invariant.rest) in
    subst (λ (w : Window). RowBegins w place) c.self.view_is (there.0, omega arith, there.1)

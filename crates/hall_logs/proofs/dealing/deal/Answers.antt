use Rattle.std.proofs.Common.{◌≡◌, ◌<◌, ◌-◌, ◌++◌, ◌∷◌, [], ℕ, List, length, refl, sym, subst, ◌∙◌, ap, arith}
use Rattle.shared_log.specs.History.{LogSight}
use Rattle.hall_logs.proofs.Deals.{Deals, deals_none, popped, row, row_is, row_has, deals_one}
use Rattle.hall_logs.proofs.dealing.deal.Goals as goal

pub loop-part-init : goal.loop-part-init
loop-part-init g c =
    let passes = c.args.passes.now in
    let parts = c.args.parts.now in
    let same : length passes.items ≡ c.len-place.result = omega (arith, passes.ok.0, c.len-place.ensures) in
    (subst (λ (n : ℕ). Deals passes.items parts.items n parts.items passes.items) same (deals_none passes.items parts.items (omega (arith, passes.ok.0, parts.ok.0, c.requires.count))), refl, refl)

pub add-requires : goal.add-requires
add-requires g c =
    let l = c.loop-part in
    let before : List (List LogSight) = c.args.passes.now.items in
    let place : ℕ = l.place - 1 in
    let d = popped before c.args.parts.now.items l.place l.parts.items c.pop.new.self.items c.in-Some.part l.passes.items l.invariant.0 c.in-Some.ensures.items in
    let here = row before c.args.parts.now.items place c.pop.new.self.items c.in-Some.part l.passes.items d in
    let is : c.index_mut.result.now ≡ here = c.index_mut.ensures.value ∙ row_is before c.args.parts.now.items place c.pop.new.self.items c.in-Some.part l.passes.items d c.index_mut.result.now in
    subst (λ (list : List LogSight). length list < 16) (sym is) (row_has before c.args.parts.now.items place c.pop.new.self.items c.in-Some.part l.passes.items d (λ (list : List LogSight). length list < 16) c.requires.room)

pub loop-part-preserved : goal.loop-part-preserved
loop-part-preserved g c =
    let l = c.loop-part in
    let before : List (List LogSight) = c.args.passes.now.items in
    let place : ℕ = l.place - 1 in
    let d = popped before c.args.parts.now.items l.place l.parts.items c.pop.new.self.items c.in-Some.part l.passes.items l.invariant.0 c.in-Some.ensures.items in
    let is = c.index_mut.ensures.value ∙ row_is before c.args.parts.now.items place c.pop.new.self.items c.in-Some.part l.passes.items d c.index_mut.result.now in (
      deals_one before c.args.parts.now.items place c.pop.new.self.items c.in-Some.part l.passes.items d c.add.new.self (c.add.ensures ∙ ap (λ (list : List LogSight). list ++ c.in-Some.part ∷ []) is),
      c.pop.ensures.capacity ∙ l.invariant.1,
      l.invariant.2,
    )

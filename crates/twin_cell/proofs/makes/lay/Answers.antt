use Rattle.std.proofs.Common.{◌≡◌, ℕ, ◌++◌, ◌∷◌, [], List, sym, ◌∙◌, ap, subst}
use Rattle.atomic_table.specs.Table.{opening}
use Rattle.turn_cell.specs.Turns.{first_seat}
use Rattle.twin_cell.specs.declared.parts.Kept.{Kept}
use Rattle.twin_cell.specs.declared.parts.Kept.TheVariants.{Work, Items}
use Rattle.twin_cell.specs.Twins.{HoldsTwinRule}
use Rattle.twin_cell.proofs.Closing.{opens}
use Rattle.twin_cell.proofs.makes.lay.Goals as goal

pub new-requires : goal.new-requires
new-requires g c = let v = c.args.work in let l = c.args.list in let w = g.W.Backed in let m = g.R.Listed in let r = c.requires in
    let of : c.of.result.value ≡ v = c.of.ensures in
    let of_list : c.of-2.result.value ≡ l = c.of-2.ensures in
    let K : Type 0 = Kept g.row.W.Denot g.row.R.Denot in
    let one : c.push_reserved.new.self.items ≡ Work v ∷ [] = c.push_reserved.ensures.items ∙ ap (λ (x : List K). x ++ Work v ∷ []) c.in-Ok.ensures.items in
    let items : c.push_reserved-2.new.self.items ≡ Work v ∷ Items l ∷ [] = c.push_reserved-2.ensures.items ∙ ap (λ (x : List K). x ++ Items l ∷ []) one in
    subst (λ (z : g.row.W.Denot × g.row.R.Denot × ℕ × ℕ × List K). HoldsTwinRule w.stands w.fault_count w.doubt w.fixed m.entries m.spare m.fits z.0 z.1 c.args.seats (opening (0 ∷ 0 ∷ 0 ∷ 0 ∷ z.2 ∷ z.3 ∷ []) z.4 (first_seat (m.entries z.1) (w.fixed z.0))))
    (λ i. (sym of i, sym of_list i, sym c.count-count.ensures i, sym c.faults-faults.ensures i, sym items i))
    (opens w.stands w.fault_count w.doubt w.fixed m.entries m.spare m.fits v l c.args.seats r.seats.0 r.entries r.test r.stands)

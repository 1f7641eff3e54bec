use Rattle.std.proofs.Common.{◌∷◌, ap, refl, sym, ◌∙◌, inl, le_refl}
use mathlib.Core.Option.{none}
use Rattle.atomic_table.specs.Table.{rest, step}
use Rattle.twin_cell.specs.declared.parts.Kept.TheVariants.{Items}
use Rattle.twin_cell.specs.Twins.{as_offered}
use Rattle.twin_cell.proofs.Leaving.{after_publish}
use Rattle.twin_cell.proofs.ends.tell.Goals as goal

pub hand_on_list-requires-clause-stands : goal.hand_on_list-requires-clause-stands
hand_on_list-requires-clause-stands g c = let m = g.R.Listed in let w = c.requires.turn in let v = c.args.seat.now.me.0 in let l = c.args.list in let slots = c.args.cell.now.table_id.slots in
    let others = rest c.args.seat.now.me.1 in
    let k = after_publish m.entries m.spare v l w.0 w.1 w.2 w.3 others c.exchange.new.seat.me c.publish.new.seat.me (step slots 4 c.count-count.result 0 none) c.publish.ensures.published.0 c.exchange.ensures.3 w.4 w.5 c.publish.ensures.published.1 in
    (l, ap (λ m. m.1) k ∙ ap (λ m. (1, Items l) ∷ rest m.1) (sym k), ap (λ m. m.0.role) k ∙ w.7, (w.1, as_offered (m.entries l) (m.spare l), ap (λ m. m.0.list) k, refl, inl (le_refl (m.spare l))))

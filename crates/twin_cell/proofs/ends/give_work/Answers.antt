use Rattle.std.proofs.Common.{◌+◌, ◌-◌, ◌∷◌, ap, refl, sym, ◌∙◌, arith}
use mathlib.Core.Option.{none}
use Rattle.atomic_table.specs.Table.{rest, step, turned}
use Rattle.twin_cell.specs.declared.parts.Kept.TheVariants.{Work}
use Rattle.twin_cell.proofs.Leaving.{after_report, after_work, own_at_last, own_before_last}
use Rattle.twin_cell.proofs.ends.give_work.Goals as goal

pub hand_on-requires-clause-stands : goal.hand_on-requires-clause-stands
hand_on-requires-clause-stands g c = let b = g.W.Backed in let w = c.requires.turn in let v = c.args.seat.now.me.0 in let x = c.args.work in let slots = c.args.cell.now.table_id.slots in
    let others = rest (turned c.args.seat.now.me.1) in
    let here = c.exchange.ensures.3 ∙ ap (λ m. (m.0, (0, Work x) ∷ rest m.1)) c.turn.ensures.2 in
    let k = after_report b.stands b.fault_count b.doubt b.fixed v x w.0 w.1 others c.exchange.new.seat.me c.report-was.new.seat.me (step slots 5 c.faults-faults.result 0 none) c.report-was.result here w.2 c.report-was.ensures.reported in
    let n = k.2.2 in
    (x, ap (λ m. m.1) n ∙ ap (λ m. (0, Work x) ∷ rest m.1) (sym n), ap (λ m. m.0.role) n ∙ w.4, (w.0, _, b.fixed x, ap (λ m. m.0.stage) n, ap (λ m. m.0.fixed) n ∙ w.5, (w.6, refl, refl, refl)))

pub overflow_sub-result : goal.overflow_sub-result
overflow_sub-result g c = let b = g.W.Backed in let w = c.requires.turn in let v = c.args.seat.now.me.0 in let x = c.args.work in let slots = c.args.cell.now.table_id.slots in
    let others = rest (turned c.args.seat.now.me.1) in
    let here = c.exchange.ensures.3 ∙ ap (λ m. (m.0, (0, Work x) ∷ rest m.1)) c.turn.ensures.2 in
    let k = after_report b.stands b.fault_count b.doubt b.fixed v x w.0 w.1 others c.exchange.new.seat.me c.report-was.new.seat.me (step slots 5 c.faults-faults.result 0 none) c.report-was.result here w.2 c.report-was.ensures.reported in
    let a = k.0 in let d = w.7 in let f = c.faults-faults.ensures in omega arith

pub overflow_add-result : goal.overflow_add-result
overflow_add-result g c = let b = g.W.Backed in let w = c.requires.turn in let v = c.args.seat.now.me.0 in let x = c.args.work in let slots = c.args.cell.now.table_id.slots in
    let others = rest (turned c.args.seat.now.me.1) in
    let here = c.exchange.ensures.3 ∙ ap (λ m. (m.0, (0, Work x) ∷ rest m.1)) c.turn.ensures.2 in
    let k = after_report b.stands b.fault_count b.doubt b.fixed v x w.0 w.1 others c.exchange.new.seat.me c.report-was.new.seat.me (step slots 5 c.faults-faults.result 0 none) c.report-was.result here w.2 c.report-was.ensures.reported in
    let a = k.0 in let d = w.7 in let f = c.faults-faults.ensures in let o = c.requires.own in let q = k.1 in let i = c.faults-faults.type_inv in omega arith

pub returns-then-faults-clause-own : goal.returns-then-faults-clause-own
returns-then-faults-clause-own g c = let b = g.W.Backed in let w = c.requires.turn in let v = c.args.seat.now.me.0 in let x = c.args.work in let slots = c.args.cell.now.table_id.slots in
    let others = rest (turned c.args.seat.now.me.1) in
    let here = c.exchange.ensures.3 ∙ ap (λ m. (m.0, (0, Work x) ∷ rest m.1)) c.turn.ensures.2 in
    let k = after_work b.stands b.fault_count b.doubt b.fixed v x w.0 w.1 others c.exchange.new.seat.me c.report-was.new.seat.me c.hand_on.new.seat.me (step slots 5 c.faults-faults.result 0 none) c.report-was.result here w.2 c.report-was.ensures.reported c.hand_on.ensures.outside in let f = c.faults-faults.ensures in
    sym (ap (λ m. m.0.own_faults) k.2.2 ∙ (own_at_last v.own_faults w.1.faults (b.fault_count x) (sym f ∙ c.if-faults.true) ∙ sym f))

pub returns-then-faults-clause-left : goal.returns-then-faults-clause-left
returns-then-faults-clause-left g c = let b = g.W.Backed in let w = c.requires.turn in let v = c.args.seat.now.me.0 in let x = c.args.work in let slots = c.args.cell.now.table_id.slots in
    let others = rest (turned c.args.seat.now.me.1) in
    let here = c.exchange.ensures.3 ∙ ap (λ m. (m.0, (0, Work x) ∷ rest m.1)) c.turn.ensures.2 in
    λ t y stage. (after_work b.stands b.fault_count b.doubt b.fixed v x t y others c.exchange.new.seat.me c.report-was.new.seat.me c.hand_on.new.seat.me (step slots 5 c.faults-faults.result 0 none) c.report-was.result here stage c.report-was.ensures.reported c.hand_on.ensures.outside).2

pub returns-else-faults-clause-own : goal.returns-else-faults-clause-own
returns-else-faults-clause-own g c = let b = g.W.Backed in let w = c.requires.turn in let v = c.args.seat.now.me.0 in let x = c.args.work in let slots = c.args.cell.now.table_id.slots in
    let others = rest (turned c.args.seat.now.me.1) in
    let here = c.exchange.ensures.3 ∙ ap (λ m. (m.0, (0, Work x) ∷ rest m.1)) c.turn.ensures.2 in
    let k = after_work b.stands b.fault_count b.doubt b.fixed v x w.0 w.1 others c.exchange.new.seat.me c.report-was.new.seat.me c.hand_on.new.seat.me (step slots 5 c.faults-faults.result 0 none) c.report-was.result here w.2 c.report-was.ensures.reported c.hand_on.ensures.outside in let f = c.faults-faults.ensures in let o = c.requires.own in
    sym (ap (λ m. m.0.own_faults) k.2.2 ∙ (own_before_last v.own_faults w.1.faults (b.fault_count x) (λ e. c.if-faults.false (f ∙ e)) ∙ (λ i. (sym o i) + ((sym f i) - (sym k.0 i)))))

pub returns-else-faults-clause-left : goal.returns-else-faults-clause-left
returns-else-faults-clause-left g c = let b = g.W.Backed in let w = c.requires.turn in let v = c.args.seat.now.me.0 in let x = c.args.work in let slots = c.args.cell.now.table_id.slots in
    let others = rest (turned c.args.seat.now.me.1) in
    let here = c.exchange.ensures.3 ∙ ap (λ m. (m.0, (0, Work x) ∷ rest m.1)) c.turn.ensures.2 in
    λ t y stage. (after_work b.stands b.fault_count b.doubt b.fixed v x t y others c.exchange.new.seat.me c.report-was.new.seat.me c.hand_on.new.seat.me (step slots 5 c.faults-faults.result 0 none) c.report-was.result here stage c.report-was.ensures.reported c.hand_on.ensures.outside).2

use Rattle.std.proofs.Common.{◌≡◌, ◌<◌, length, ap, sym, ◌∙◌, subst, arith}
use lib.ListN.{get_elem?}
use Rattle.turn_cell.proofs.Closing.{some_pass}
use Rattle.twin_cell.specs.declared.parts.Kept.{Kept}
use Rattle.twin_cell.specs.declared.parts.Kept.TheVariants.{Work, Items}
use Rattle.twin_cell.specs.Sights.{MadeTwin}
use Rattle.twin_cell.proofs.Closing.{at_end, Closed}
use Rattle.twin_cell.proofs.twin.Twin.close.Goals as goal

pub gather-seat-requires-clause-some : goal.gather-seat-requires-clause-some
gather-seat-requires-clause-some g c = let few = c.self.invariant.2 in let seats = ap (λ (z : MadeTwin g.row.W.Denot g.row.R.Denot). z.seats) c.self.view_is in
    let some : 0 < length c.args.passes.items = some_pass c.args.self.seats c.args.passes.items (omega arith) c.requires.1 in let len = c.args.passes.ok in omega arith

pub into_work-requires : goal.into_work-requires
into_work-requires g c = let w = g.W.Backed in let l = g.R.Listed in let seat = c.gather-seat.result in
    let r = at_end w.stands w.fault_count w.doubt w.fixed l.entries l.spare l.fits c.args.self _ c.self.view_is seat.id seat.me.0 c.args.passes.items _ _ c.gather-seat.ensures.gathered c.requires.0 c.requires.1 c.gather-seat.ensures.role c.close_with-closed.ensures.values.2 c.take-work_slot.result c.take-list_slot.result c.take-work_slot.ensures.value (sym (ap (λ x. get_elem? x 1) c.take-work_slot.ensures.others.0) ∙ c.take-list_slot.ensures.value) in
    (r.0, r.2)

pub into_list-requires : goal.into_list-requires
into_list-requires g c = let w = g.W.Backed in let l = g.R.Listed in let seat = c.gather-seat.result in
    let r = at_end w.stands w.fault_count w.doubt w.fixed l.entries l.spare l.fits c.args.self _ c.self.view_is seat.id seat.me.0 c.args.passes.items _ _ c.gather-seat.ensures.gathered c.requires.0 c.requires.1 c.gather-seat.ensures.role c.close_with-closed.ensures.values.2 c.take-work_slot.result c.take-list_slot.result c.take-work_slot.ensures.value (sym (ap (λ x. get_elem? x 1) c.take-work_slot.ensures.others.0) ∙ c.take-list_slot.ensures.value) in
    (r.1, r.3)

pub returns : goal.returns
returns g c = let w = g.W.Backed in let l = g.R.Listed in let seat = c.gather-seat.result in
    let r = at_end w.stands w.fault_count w.doubt w.fixed l.entries l.spare l.fits c.args.self _ c.self.view_is seat.id seat.me.0 c.args.passes.items _ _ c.gather-seat.ensures.gathered c.requires.0 c.requires.1 c.gather-seat.ensures.role c.close_with-closed.ensures.values.2 c.take-work_slot.result c.take-list_slot.result c.take-work_slot.ensures.value (sym (ap (λ x. get_elem? x 1) c.take-work_slot.ensures.others.0) ∙ c.take-list_slot.ensures.value) in
    let K : Type 0 = Kept g.row.W.Denot g.row.R.Denot in
    let both : ◌≡◌ {A = K} (Work r.0) (Work c.into_work.result) = sym r.2 ∙ c.into_work.ensures in let same : r.0 ≡ c.into_work.result = cc in
    let both_lists : ◌≡◌ {A = K} (Items r.1) (Items c.into_list.result) = sym r.3 ∙ c.into_list.ensures in let same_list : r.1 ≡ c.into_list.result = cc in
    let e = subst (λ (z : g.row.W.Denot × g.row.R.Denot). Closed w.stands w.fault_count w.doubt w.fixed l.entries l.spare l.fits c.args.self.work c.args.self.list c.args.self.seats c.args.passes.items z.0 z.1) (λ i. (same i, same_list i)) r.4 in
    record { stands = e.stands_for; history = e.history; passes = e.passes; faults = e.faults; doubt = e.doubt; fixed = e.same_fixed; test = e.test; untouched = e.untouched }

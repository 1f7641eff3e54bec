use Rattle.std.proofs.Common.{◌++◌, ◌∷◌, [], sym, ap, subst, ◌∙◌}
use Rattle.turn_cell.specs.Turns.{AllOf}
use Rattle.turn_cell.specs.Sharing.{IsPassOf}
use Rattle.zone_hall_tests.specs.Halls.{zone_in_memory}
use Rattle.zone_hall_tests.proofs.Passes.{both_numbers}
use Rattle.zone_hall_tests.proofs.halls.close.Goals as goal

pub close-requires : goal.close-requires
close-requires c =
    let r = c.requires in
    let one = c.args.passes.one in
    let two = c.args.passes.two in
    let items = c.push_reserved-2.ensures.items ∙ ap (λ l. l ++ two ∷ []) (c.push_reserved.ensures.items ∙ ap (λ l. l ++ one ∷ []) r.room.1) in
    (subst (AllOf (IsPassOf zone_in_memory c.args.hall)) (sym items) (r.one.0, (r.two.0, tt)), both_numbers c.args.hall.seats one two c.push_reserved-2.new.self.items items r.room.0 r.one.1 r.two.1)

use Rattle.std.proofs.Common.{◌≡◌, ◌++◌, ◌∷◌, [], sym, ap, subst, ◌∙◌}
use Rattle.turn_cell.specs.Turns.{AllOf}
use Rattle.registry_tests.specs.Sharing.{IsMemoryPassOf}
use Rattle.registry_tests.proofs.Testing.{both_numbers}
use Rattle.registry_tests.proofs.shared.close.Goals as goal

pub close-requires : goal.close-requires
close-requires c =
    let r = c.requires in
    let one = c.args.passes.one in
    let two = c.args.passes.two in
    let first = c.into_pass.result in
    let second = c.into_pass-2.result in
    let pushed : c.push_reserved-2.new.self.items ≡ first ∷ second ∷ [] =
    c.push_reserved-2.ensures.items ∙ ap (λ l. l ++ second ∷ []) (c.push_reserved.ensures.items ∙ ap (λ l. l ++ first ∷ []) r.room.1) in
    let items : c.push_reserved-2.new.self.items ≡ one ∷ two ∷ [] =
    pushed ∙ ap (λ p. p ∷ second ∷ []) c.into_pass.ensures ∙ ap (λ p. one ∷ p ∷ []) c.into_pass-2.ensures in
    (subst (AllOf (IsMemoryPassOf c.args.registry)) (sym items) (r.one.0, (r.two.0, tt)), both_numbers c.args.registry.seats one two c.push_reserved-2.new.self.items items r.room.0 r.one.1 r.two.1)

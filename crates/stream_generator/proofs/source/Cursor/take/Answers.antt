use Rattle.std.proofs.Common.{◌≡◌, take, ℕ, List}
use Rattle.std.proofs.Common.{drop, ap, ◌∙◌, arith, length-take-le}
use Rattle.std.proofs.lemmas.List.{take_rest}
use Rattle.stream_generator.proofs.Parts.{rest_taken}
use Rattle.stream_generator.proofs.source.Cursor.take.Goals as goal

-- src/source.rt:44:5
pub returns-clause-moved : goal.returns-clause-moved
returns-clause-moved c =
    let xs = c.args.self.now.patch.items in
    let at = c.args.self.now.at in
    let n = c.min-count.result in
    let copied : c.copy_from_slice.new.self ≡ take n (drop at xs) = c.copy_from_slice.ensures.after ∙ ap (take n) (take_rest c.deref.result.now at) ∙ ap (λ (l : List ℕ). take n (drop at l)) c.deref.ensures.value in
    rest_taken xs _ _ c.copy_from_slice.new.self at n copied (c.copy_from_slice.ensures.len ∙ length-take-le n c.args.into.now (omega (arith, c.min-count.ensures)))

use Rattle.std.proofs.Common.{ℕ, ◌++◌, List, ap, ◌∙◌, arith}
use Rattle.std.proofs.lemmas.Result.{err_from_is_err_and}
use Rattle.patch_meaning.specs.Cutting.{linked_of}
use Rattle.patch_meaning.proofs.Splits.{part_before, unfinished, finished}
use Rattle.patch_meaning.proofs.stream.Cutting.finish.Goals as goal

pub piece-text-requires : goal.piece-text-requires
piece-text-requires c =
    let r = c.requires in
    record { order = omega (arith, part_before c.args.text.now r.0 c.args.self r.1, r.1.within); within = omega arith }

pub returns-in_err-done-clause-fault : goal.returns-in_err-done-clause-fault
returns-in_err-done-clause-fault c =
    let p = err_from_is_err_and c.from_residual.result c.from_residual.ensures.1 in
    let r = c.requires in
    rw (p.1, p.2) (unfinished c.args.text.now r.0 c.args.self c.in_err-done.field-0.0 r.1 r.2 c.in_err-done.ensures.fault)

pub returns-clause-split : goal.returns-clause-split
returns-clause-split c =
    let r = c.requires in
    finished c.args.text.now r.0 c.args.self c.in_ok-done.done c.put.new.self.patches.items r.1 r.2 c.in_ok-done.ensures.ok c.in_ok-done.ensures.last
    (c.in_ok-put.ensures.patches ∙ ap (λ (text : List ℕ). c.args.self.patches.items ++ linked_of text c.in_ok-done.done) c.piece-text.ensures)

use Rattle.std.proofs.Common.{ℕ, ◌++◌, List, subst, arith}
use Rattle.std.proofs.lemmas.Result.{err_from_is_err_and}
use Rattle.patch_meaning.proofs.Splits.{part_before, unfinished}
use Rattle.patch_meaning.specs.Cutting.{linked_of}
use Rattle.stream_squash.specs.Placing.{KeepsPlaces, cutting}
use Rattle.stream_squash.proofs.Placed.{all_placed}
use Rattle.stream_squash.proofs.placing.Placing.finish.Goals as goal

pub piece-piece-requires : goal.piece-piece-requires
piece-piece-requires c =
    let r = c.requires.all in
    record { order = omega (arith, part_before c.args.text.now r.0 (cutting r.1.links c.args.self.part) r.1.cut, r.1.cut.within); within = omega arith }

pub returns-in_err-done-clause-fault : goal.returns-in_err-done-clause-fault
returns-in_err-done-clause-fault c =
    let p = err_from_is_err_and c.from_residual.result c.from_residual.ensures.1 in
    let r = c.requires.all in
    rw (p.1, p.2) (unfinished c.args.text.now r.0 (cutting r.1.links c.args.self.part) c.in_err-done.field-0.0 r.1.cut r.2 c.in_err-done.ensures.fault)

pub returns-clause-ok : goal.returns-clause-ok
returns-clause-ok c =
    all_placed c.args.text.now c.args.self c.put.new.self c.in_ok-done.done c.requires.all c.in_ok-done.ensures.ok c.in_ok-done.ensures.last
    (λ links keeps. subst (λ (text : List ℕ). KeepsPlaces (links ++ linked_of text c.in_ok-done.done) c.put.new.self) c.piece-piece.ensures (c.in_ok-put.ensures.places links keeps))

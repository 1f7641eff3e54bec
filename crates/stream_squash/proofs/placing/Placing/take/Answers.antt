use Rattle.std.proofs.Common.{ℕ, ◌++◌, List, sym, subst, arith}
use Rattle.patch_meaning.specs.Cutting.{HasTakenNext, linked_of}
use Rattle.patch_meaning.specs.declared.part.Part.{Part}
use Rattle.patch_meaning.proofs.Splits.{broken_row, part_before}
use Rattle.stream_squash.specs.Placing.{KeepsPlaces, cutting, next_of}
use Rattle.stream_squash.proofs.Placed.{placed_behind}
use Rattle.stream_squash.proofs.placing.Placing.take.Goals as goal

pub piece-piece-requires : goal.piece-piece-requires
piece-piece-requires c =
    let r = c.requires.next in
    let gap = r.2.1 in
    record { order = omega (arith, part_before c.args.text.now r.0 (cutting r.1.links c.args.self.now.part) r.1.cut, gap.1); within = gap.2 }

pub returns-in_ok-put-in-Ok-clause-ok : goal.returns-in_ok-put-in-Ok-clause-ok
returns-in_ok-put-in-Ok-clause-ok c =
    let old = c.args.self.now in
    let put = c.in_ok-put-in-Ok.ensures in
    placed_behind c.args.text.now old c.put.new.self c.args.row c.in-Ok.done c.requires.next c.in-Ok.ensures.cut
    (subst (λ (p : Part). HasTakenNext old.part c.args.row.role c.args.row.at c.in-Ok.done p) (sym put.part) c.in-Ok.ensures.ok)
    (λ links keeps. subst (λ (text : List ℕ). KeepsPlaces (links ++ linked_of text c.in-Ok.done) c.put.new.self) c.piece-piece.ensures (put.places links (record { lengths_are = keeps.lengths_are; tested = keeps.tested })))
    put.version

pub returns-in-Err-clause-fault : goal.returns-in-Err-clause-fault
returns-in-Err-clause-fault c =
    let r = c.requires.next in
    broken_row c.args.text.now r.0 (cutting r.1.links c.args.self.now.part) (next_of c.args.row) c.in-Err.fault r.2 r.1.cut c.in-Err.ensures.fault

use Rattle.std.proofs.Common.{ℕ, ◌++◌, List, sym, ap, subst, ◌∙◌, arith}
use Rattle.patch_meaning.specs.declared.part.Part.{Part}
use Rattle.patch_meaning.specs.Cutting.{HasTakenNext, linked_of}
use Rattle.patch_meaning.proofs.Splits.{part_before, broken_row, taken_behind}
use Rattle.patch_meaning.proofs.stream.Cutting.take.Goals as goal

pub piece-text-requires : goal.piece-text-requires
piece-text-requires c =
    let r = c.requires in
    let gap = r.2.1 in
    record { order = omega (arith, part_before c.args.text.now r.0 c.args.self.now r.1, gap.1); within = gap.2 }

pub returns-in_ok-put-in-Ok-clause-ok : goal.returns-in_ok-put-in-Ok-clause-ok
returns-in_ok-put-in-Ok-clause-ok c =
    let r = c.requires in
    let old = c.args.self.now in
    let put = c.in_ok-put-in-Ok.ensures in
    taken_behind c.args.text.now r.0 old c.put.new.self c.args.next c.in-Ok.done r.2 r.1 c.in-Ok.ensures.cut
    (subst (λ (p : Part). HasTakenNext old.part c.args.next.role c.args.next.at c.in-Ok.done p) (sym put.part) c.in-Ok.ensures.ok)
    (put.patches ∙ ap (λ (text : List ℕ). old.patches.items ++ linked_of text c.in-Ok.done) c.piece-text.ensures)

pub returns-in-Err-clause-fault : goal.returns-in-Err-clause-fault
returns-in-Err-clause-fault c =
    let r = c.requires in
    rw c.refuse.ensures (broken_row c.args.text.now r.0 c.args.self.now c.args.next c.in-Err.fault r.2 r.1 c.in-Err.ensures.fault)

use Rattle.std.proofs.Common.{◌≡◌, ℕ, List, [], ◌∷◌, ◌++◌, Option, Some, ap, subst, sym, ◌∙◌, rules}
use Rattle.std.proofs.lemmas.Result.{IfErr-weaker, IfOk-weaker}
use Rattle.dataset_tx.proofs.Rows.{nothing_left}
use Rattle.patch_algebra.specs.Patches.{RefusesNet}
use Rattle.patch_algebra.specs.declared.gathering.Direction.TheVariants.{Forth}
use Rattle.patch_meaning.specs.Checked.{CheckedPatch, meanings}
use Rattle.stream_squash.specs.Pieces.{GoesBack}
use Rattle.stream_squash.proofs.Texts.{ends}
use Rattle.stream_squash.proofs.Walks.{Gathers, back_all, back_first, back_more}
use Rattle.stream_squash.proofs.pieces.net_of.Goals as goal

pub overflow_sub-text : goal.overflow_sub-text
overflow_sub-text c =
    let is : c.args.lengths.now ≡ c.in-Some.before.now ++ c.in-Some.length.now ∷ [] = search rules in
    (ends c.requires.pieces.0 c.args.text.now c.args.lengths.now c.in-Some.before.now c.in-Some.length.now is c.requires.pieces.1).within

pub loop-length-init : goal.loop-length-init
loop-length-init c = λ ps pieces.
    let text = c.args.text.now in
    let d = c.args.base.now.contents in
    let size = c.in-Some.length.now in
    let link = c.in_ok-last.last in
    let is : c.args.lengths.now ≡ c.in-Some.before.now ++ size ∷ [] = search rules in
    let took = subst (λ (t : List ℕ). Gathers t d c.new-gathering.result c.gather_piece.new.gathering link) c.split_at.ensures.back (c.in_ok-last.ensures.gathers, c.in_ok-last.ensures.link) in
    subst (λ (t : List ℕ). GoesBack ps t c.in-Some.before.now d c.gather_piece.new.gathering link link) (sym c.split_at.ensures.front)
    (back_first ps text c.args.lengths.now c.in-Some.before.now size d c.new-gathering.result c.gather_piece.new.gathering link is (c.new-gathering.ensures d) took pieces)

pub overflow_sub-rest : goal.overflow_sub-rest
overflow_sub-rest c =
    let is : c.loop-length.left.now ≡ c.in-Some-split_last.others.now ++ c.in-Some-split_last.length.now ∷ [] = search rules in
    let goes = c.loop-length.invariant c.requires.pieces.0 c.requires.pieces.1 in
    (ends goes.before c.loop-length.rest.now c.loop-length.left.now c.in-Some-split_last.others.now c.in-Some-split_last.length.now is goes.pieces).within

pub loop-length-preserved : goal.loop-length-preserved
loop-length-preserved c = λ ps pieces.
    let d = c.args.base.now.contents in
    let size = c.in-Some-split_last.length.now in
    let others = c.in-Some-split_last.others.now in
    let old = c.loop-length.gathering in
    let new = c.gather_piece-in-Some-split_last.new.gathering in
    let link = c.in_ok-first.first in
    let split = c.split_at-in-Some-split_last in
    let is : c.loop-length.left.now ≡ others ++ size ∷ [] = search rules in
    let took = subst (λ (t : List ℕ). Gathers t d old new link) split.ensures.back (c.in_ok-first.ensures.gathers, c.in_ok-first.ensures.link) in
    subst (λ (t : List ℕ). GoesBack ps t others d new c.in_ok-last.last link) (sym split.ensures.front)
    (back_more ps c.loop-length.rest.now c.loop-length.left.now others size d old new c.in_ok-last.last c.loop-length.first link is took (c.loop-length.invariant ps pieces))

pub returns-clause-net : goal.returns-clause-net
returns-clause-net c =
    let d = c.args.base.now.contents in
    let none : c.loop-length.left.now ≡ [] = nothing_left c.loop-length.left.now (search rules) in
    IfOk-weaker c.patch.result _ _
    (λ net ok ps pieces.
    let g = back_all ps c.loop-length.rest.now c.loop-length.left.now d c.loop-length.gathering c.in_ok-last.last c.loop-length.first none (c.loop-length.invariant ps pieces) in
    ap Some (ok Forth d (meanings ps) g.gathers) ∙ sym g.net_is)
    c.patch.ensures.patch

pub returns-clause-fault : goal.returns-clause-fault
returns-clause-fault c =
    let d = c.args.base.now.contents in
    let none : c.loop-length.left.now ≡ [] = nothing_left c.loop-length.left.now (search rules) in
    IfErr-weaker c.patch.result _ _
    (λ fault refused ps pieces.
    let g = back_all ps c.loop-length.rest.now c.loop-length.left.now d c.loop-length.gathering c.in_ok-last.last c.loop-length.first none (c.loop-length.invariant ps pieces) in
    subst (λ (o : Option CheckedPatch). RefusesNet o fault) (sym g.net_is) (refused Forth d (meanings ps) g.gathers))
    c.patch.ensures.fault

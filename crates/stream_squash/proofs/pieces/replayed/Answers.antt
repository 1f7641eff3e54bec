use Rattle.std.proofs.Common.{◌≡◌, ℕ, List, ◌∷◌, ap, subst, sym, rules}
use Rattle.dataset_tx.proofs.Rows.{nothing_left}
use Rattle.patch_meaning.specs.Patch.{IsPatch}
use Rattle.stream_squash.specs.Pieces.{GoesForth}
use Rattle.stream_squash.proofs.Texts.{begins}
use Rattle.stream_squash.proofs.Walks.{forth_all, forth_more, forth_none}
use Rattle.stream_squash.proofs.pieces.replayed.Goals as goal

pub loop-length-init : goal.loop-length-init
loop-length-init c = (λ ps pieces. forth_none ps c.args.text.now c.args.lengths.now c.new-base.result.contents (ap (λ held. held.contents) c.new-base.ensures) pieces, ap (λ held. held.staged) c.new-base.ensures)

pub split_at-requires : goal.split_at-requires
split_at-requires c =
    let left : c.loop-length.left.now ≡ c.in-Some.length.now ∷ c.in-Some.others.now = search rules in
    let goes = c.loop-length.invariant.0 c.requires.0 c.requires.1 in
    (begins goes.behind c.loop-length.rest.now c.loop-length.left.now c.in-Some.others.now c.in-Some.length.now left goes.pieces).within

pub loop-length-preserved : goal.loop-length-preserved
loop-length-preserved c = (
  λ ps pieces.
      let left : c.loop-length.left.now ≡ c.in-Some.length.now ∷ c.in-Some.others.now = search rules in
      subst (λ (t : List ℕ). GoesForth ps t c.in-Some.others.now c.apply_piece.new.base.contents) (sym c.split_at.ensures.back)
      (forth_more ps c.loop-length.rest.now c.loop-length.left.now c.in-Some.others.now c.in-Some.length.now c.loop-length.base.contents c.apply_piece.new.base.contents left
      (λ m is. c.in_ok-apply_piece.ensures.contents m (subst (λ (t : List ℕ). IsPatch t m) (sym c.split_at.ensures.front) is))
      (c.loop-length.invariant.0 ps pieces)),
  c.in_ok-apply_piece.ensures.staged,
)

pub returns-clause-contents : goal.returns-clause-contents
returns-clause-contents c = λ ps pieces.
    forth_all ps c.loop-length.rest.now c.loop-length.left.now c.loop-length.base.contents (nothing_left c.loop-length.left.now (search rules)) (c.loop-length.invariant.0 ps pieces)

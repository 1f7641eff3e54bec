use Rattle.std.proofs.Common.{◌∙◌, sym, subst, List, ℕ}
use Rattle.http_heads.specs.Follow.{Follows}
use Rattle.http_heads.proofs.OpenHeads.{takes_fields}
use Rattle.http_messages.proofs.StepLemmas.{reads_along}
use Rattle.http_messages.proofs.stage.find_progress.Goals as goal

pub returns-then-not-ends_line-clause-follows : goal.returns-then-not-ends_line-clause-follows
returns-then-not-ends_line-clause-follows c =
    subst (λ (t : List ℕ). Follows c.args.kind t c.within_line.result) c.as_slice-then-not-ends_line.ensures.value c.within_line.ensures

pub returns-then-is_head-clause-follows : goal.returns-then-is_head-clause-follows
returns-then-is_head-clause-follows c =
    let made = c.is_head-is_head.ensures c.if-is_head.true in
    let ends = c.ends_line.ensures c.if-not-ends_line.false in
    takes_fields c.args.kind c.args.pending.now.items ends.0 made.0
    (reads_along c.args.kind _ _ made.0 _ (c.as_slice-2.ensures.value ∙ c.in_ok-push.ensures.items) made.1) (sym c.as_slice.ensures.value ∙ ends.1)

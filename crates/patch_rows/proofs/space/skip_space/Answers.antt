use Rattle.std.proofs.Common.{List, ℕ, drop, sym, subst, ◌∙◌}
use Rattle.patch_rows.specs.Grammar.{Space}
use Rattle.patch_rows.proofs.SpaceLaws.{skipped, skips, none_behind}
use Rattle.patch_rows.proofs.space.skip_space.Goals as goal

pub returns-clause-space : goal.returns-clause-space
returns-clause-space c = let from = drop c.args.at c.args.text.now in subst (λ (after : List ℕ). Space from after) (sym c.pass_space.ensures.behind) (skipped from)

pub returns-clause-only : goal.returns-clause-only
returns-clause-only c = λ after s. c.pass_space.ensures.behind ∙ skips (drop c.args.at c.args.text.now) after s

pub returns-clause-none : goal.returns-clause-none
returns-clause-none c =
    let from = drop c.args.at c.args.text.now in
    none_behind from (drop c.pass_space.result c.args.text.now) (subst (λ (after : List ℕ). Space from after) (sym c.pass_space.ensures.behind) (skipped from))

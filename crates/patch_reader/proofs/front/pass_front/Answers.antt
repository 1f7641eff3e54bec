use Rattle.std.proofs.Common.{sym, subst}
use Rattle.patch_reader.specs.declared.front.Region.{Region}
use Rattle.patch_reader.specs.Held.{PassesGap}
use Rattle.patch_reader.proofs.front.pass_front.Goals as goal

pub returns-in-Gap-clause-passes : goal.returns-in-Gap-clause-passes
returns-in-Gap-clause-passes c =
    subst (λ (r : Region). PassesGap c.args.rest.now r c.skip_gap-size.result.0 c.skip_gap-size.result.1) (sym c.in-Gap.is) c.skip_gap-size.ensures.passes

use Rattle.std.proofs.Common.{Option, sym, ap, subst, ◌∙◌}
use Rattle.patch_reader.specs.declared.front.Region.{Region}
use Rattle.patch_reader.specs.declared.front.Region.TheVariants as regions
use Rattle.patch_reader.specs.declared.progress.RowProgress.{RowProgress}
use Rattle.patch_reader.specs.Held.{DecidesNothing, IsDecided}
use Rattle.patch_reader.specs.Progress.{IsFollowed}
use Rattle.patch_reader.proofs.Decided.{row_decided}
use Rattle.patch_reader.proofs.WindowSteps.{cut_none, row_none}
use Rattle.patch_reader.proofs.front.follow_open.Goals as goal

pub returns-in-Gap-clause-quiet : goal.returns-in-Gap-clause-quiet
returns-in-Gap-clause-quiet c = λ yes. subst (λ (r : Region). DecidesNothing c.args.rest.now r) (sym c.in-Gap.is) (cut_none c.args.rest.now c.in-Gap.comment)

pub returns-in-Some-2-clause-quiet : goal.returns-in-Some-2-clause-quiet
returns-in-Some-2-clause-quiet c = λ yes.
    let region = c.in-Row.is ∙ ap (λ (o : Option RowProgress). regions.Row o) c.in-Some.is in
    let there = subst (IsFollowed c.args.rest.now c.in-Some.known) c.in-Some-2.is c.in_ok-further-in-Row.ensures in
    subst (λ (r : Region). DecidesNothing c.args.rest.now r) (sym region) (row_none c.args.rest.now c.in-Some.known (λ f. (there.1 f).1))

pub returns-in-None-clause-decided : goal.returns-in-None-clause-decided
returns-in-None-clause-decided c = λ quiet known.
    let region = c.in-Row.is ∙ ap (λ (o : Option RowProgress). regions.Row o) c.in-Some.is in
    let there = subst (IsFollowed c.args.rest.now c.in-Some.known) c.in-None.is c.in_ok-further-in-Row.ensures in
    subst (λ (r : Region). IsDecided c.args.rest.now r) (sym region) (row_decided c.args.rest.now c.in-Some.known there)

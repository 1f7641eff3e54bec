use Rattle.std.proofs.Common.{rules, ◌≡◌, ◌++◌, ◌∷◌, [], ◌∙◌, Option, ap, subst}
use Rattle.std.proofs.lemmas.Result.{IfErr-weaker, IfOk-weaker}
use Rattle.dataset_tx.proofs.Rows.{nothing_left}
use Rattle.delta_base.specs.declared.id.Id.{Id}
use Rattle.patch_meaning.specs.Checked.{CheckedPatch, meanings}
use Rattle.patch_algebra.specs.Gathered.{net_turned}
use Rattle.patch_algebra.specs.Patches.{RefusesWritten}
use Rattle.patch_algebra.specs.Written.{patch_in_block}
use Rattle.patch_algebra.specs.declared.gathering.Direction.TheVariants.{Forth}
use Rattle.patch_algebra.proofs.Ends.{all_passed, is_net, is_refused, none_passed, one_passed}
use Rattle.patch_algebra.proofs.net.net_patch.Goals as goal

pub loop-patch-init : goal.loop-patch-init
loop-patch-init c = none_passed c.args.run.now c.args.base.now.contents _ (c.new-gathering.ensures c.args.base.now.contents)

pub loop-patch-preserved : goal.loop-patch-preserved
loop-patch-preserved c =
    let rest : c.loop-patch.rest.now ≡ c.in-Some.before.now ++ c.in-Some.patch.now ∷ [] = search rules in
    one_passed c.args.run.now c.loop-patch.rest.now c.in-Some.before.now c.in-Some.patch.now c.args.base.now.contents c.loop-patch.gathering c.take.new.self rest c.loop-patch.invariant c.in_ok-take.ensures

pub returns-clause-patch : goal.returns-clause-patch
returns-clause-patch c =
    let run = c.args.run.now in let d = c.args.base.now.contents in let net = net_turned Forth d (meanings run) in
    let none : c.loop-patch.rest.now ≡ [] = nothing_left c.loop-patch.rest.now (search rules) in
    let begins : run ≡ c.in-Some-Some.first.now ∷ c.in-Some-Some._behind.now = search rules in
    let ends : run ≡ c.in-Some-Some._before.now ++ c.in-Some-Some.last.now ∷ [] = search rules in
    let all = all_passed run c.loop-patch.rest.now d c.loop-patch.gathering none c.loop-patch.invariant in
    let is : patch_in_block c.id.result c.prev.result net ≡ patch_in_block c.in-Some-Some.last.now.meaning.id c.in-Some-Some.first.now.meaning.prev net =
    ap (λ (i : Id). patch_in_block i c.prev.result net) c.id.ensures ∙ ap (λ (o : Option Id). patch_in_block c.in-Some-Some.last.now.meaning.id o net) c.prev.ensures in
    IfOk-weaker c.patch.result _ _ (λ patch ok. is_net run _ _ _ _ d begins ends patch (ok Forth d (meanings run) all ∙ is)) c.patch.ensures.patch

pub returns-clause-fault : goal.returns-clause-fault
returns-clause-fault c =
    let run = c.args.run.now in let d = c.args.base.now.contents in let net = net_turned Forth d (meanings run) in
    let none : c.loop-patch.rest.now ≡ [] = nothing_left c.loop-patch.rest.now (search rules) in
    let begins : run ≡ c.in-Some-Some.first.now ∷ c.in-Some-Some._behind.now = search rules in
    let ends : run ≡ c.in-Some-Some._before.now ++ c.in-Some-Some.last.now ∷ [] = search rules in
    let all = all_passed run c.loop-patch.rest.now d c.loop-patch.gathering none c.loop-patch.invariant in
    let is : patch_in_block c.id.result c.prev.result net ≡ patch_in_block c.in-Some-Some.last.now.meaning.id c.in-Some-Some.first.now.meaning.prev net =
    ap (λ (i : Id). patch_in_block i c.prev.result net) c.id.ensures ∙ ap (λ (o : Option Id). patch_in_block c.in-Some-Some.last.now.meaning.id o net) c.prev.ensures in
    IfErr-weaker c.patch.result _ _
    (λ fault refused. is_refused run _ _ _ _ d begins ends fault (subst (λ (p : CheckedPatch). RefusesWritten p fault) is (refused Forth d (meanings run) all))) c.patch.ensures.fault

use Rattle.std.proofs.Common.{◌≡◌, [], ◌∷◌, ◌∙◌, List, Some, ap, subst}
use Rattle.std.proofs.lemmas.Result.{IfErr-weaker, IfOk-weaker}
use Rattle.delta_base.specs.declared.id.Id.{Id}
use Rattle.patch_meaning.specs.Checked.{CheckedPatch}
use Rattle.rdf_terms.specs.declared.change.Change.{Change}
use Rattle.patch_algebra.specs.Gathered.{net_turned}
use Rattle.patch_algebra.specs.Patches.{inverse_of, RefusesWritten}
use Rattle.patch_algebra.specs.Written.{patch_in_block}
use Rattle.patch_algebra.specs.declared.gathering.Direction.TheVariants.{Back}
use Rattle.patch_algebra.proofs.Ends.{one_inverse}
use Rattle.patch_algebra.proofs.net.inverse.Goals as goal

pub returns-clause-patch : goal.returns-clause-patch
returns-clause-patch c =
    let d = c.args.base.now.contents in let m = c.args.patch.now.meaning in
    let is : patch_in_block c.args.id (Some c.id.result) (net_turned Back d (m ∷ [])) ≡ inverse_of d m c.args.id =
    ap (λ (i : Id). patch_in_block c.args.id (Some i) (net_turned Back d (m ∷ []))) c.id.ensures ∙ ap (λ (l : List Change). patch_in_block c.args.id (Some m.id) l) (one_inverse d m) in
    IfOk-weaker c.patch.result _ _ (λ other ok. ok Back d (m ∷ []) (c.in_ok-take.ensures Back [] (c.new-gathering.ensures d)) ∙ is) c.patch.ensures.patch

pub returns-clause-fault : goal.returns-clause-fault
returns-clause-fault c =
    let d = c.args.base.now.contents in let m = c.args.patch.now.meaning in
    let is : patch_in_block c.args.id (Some c.id.result) (net_turned Back d (m ∷ [])) ≡ inverse_of d m c.args.id =
    ap (λ (i : Id). patch_in_block c.args.id (Some i) (net_turned Back d (m ∷ []))) c.id.ensures ∙ ap (λ (l : List Change). patch_in_block c.args.id (Some m.id) l) (one_inverse d m) in
    IfErr-weaker c.patch.result _ _
    (λ fault refused. subst (λ (p : CheckedPatch). RefusesWritten p fault) is (refused Back d (m ∷ []) (c.in_ok-take.ensures Back [] (c.new-gathering.ensures d)))) c.patch.ensures.fault

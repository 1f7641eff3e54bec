use Rattle.std.proofs.Common.{◌++◌, ◌∙◌, List, subst}
use Rattle.std.proofs.lemmas.Result.{on_ok_weaker}
use Rattle.rdf_terms.specs.Dataset.{kept}
use Rattle.rdf_terms.specs.declared.change.Change.{Change}
use Rattle.patch_meaning.specs.Patch.{AreOutside, Meaning}
use Rattle.patch_algebra.specs.Gathered.{AreGathered, ArePlaced}
use Rattle.patch_algebra.proofs.Backwards.{patch_gathered}
use Rattle.patch_algebra.proofs.gathering.Gathering.take.Goals as goal

pub returns : goal.returns
returns c =
    let d = c.args.base.now.contents in let m : Meaning = c.args.patch.now.meaning in
    let old = c.args.self.now in let new = c.take_changes.new.self in
    on_ok_weaker c.take_changes.result
    (λ took direction behind h.
    patch_gathered direction d c.args.patch.now.text m behind old new c.text.ensures.is_patch c.take_changes.ensures.direction
    (λ cs outside placed g.
    subst (λ (l : List Change). (ds : List Change) → AreOutside l → ArePlaced (kept l) → AreGathered d ds old → AreGathered d (kept l ++ ds) new) (c.as_slice.ensures ∙ c.changes.ensures) took cs outside placed g)
    h)
    c.take_changes.ensures.ok

use Rattle.std.proofs.Common.{◌≡◌, List, [], ◌∷◌, ◌++◌, sym, ◌∙◌, ap, subst}
use Rattle.chain_core.specs.declared.chain.Patch.{Patch}
use Rattle.patch_meaning.specs.Checked.{CheckedPatch}
use Rattle.patch_meaning.specs.PartRead.{meaning_of}
use Rattle.patch_log.specs.Log.{IsSoundRun, bare}
use Rattle.patch_log.proofs.Sound.{sound_alone}
use Rattle.patch_log.proofs.reading.alone.Goals as goal

pub invariant_of-result : goal.invariant_of-result
invariant_of-result c =
    let patch : CheckedPatch = record { text = c.args.text; meaning = meaning_of c.args.link c.requires.0 } in
    let items : c.push.new.self.items ≡ bare patch ∷ [] = c.in_ok-push.ensures.ok ∙ ap (λ (ps : List Patch). ps ++ bare patch ∷ []) c.new-patches.ensures in
    subst IsSoundRun (sym items) (sound_alone patch c.requires.1)

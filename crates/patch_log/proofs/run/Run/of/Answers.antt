use Rattle.std.proofs.Common.{◌≡◌, [], ◌∷◌, sym, subst, rules}
use Rattle.patch_log.specs.Log.{IsSoundRun, bare}
use Rattle.patch_log.proofs.Sound.{sound_alone}
use Rattle.patch_log.proofs.run.Run.of.Goals as goal

pub invariant_of-result : goal.invariant_of-result
invariant_of-result c =
    let items : c.push.new.self.items ≡ bare c.args.patch.now ∷ [] = search rules in
    subst IsSoundRun (sym items) (sound_alone c.args.patch.now c.text.ensures.is_patch)

use Rattle.std.proofs.lemmas.Result.{IfErr-weaker, IfOk-weaker}
use Rattle.patch_algebra.proofs.Ends.{gathered_fault, gathered_patch}
use Rattle.patch_algebra.proofs.gathering.Gathering.patch.Goals as goal

pub returns-clause-patch : goal.returns-clause-patch
returns-clause-patch c =
    IfOk-weaker c.write_patch.result _ _ (λ patch ok direction d ms h. gathered_patch direction d ms c.args.self.now c.args.id c.args.prev patch h ok) c.write_patch.ensures.patch

pub returns-clause-fault : goal.returns-clause-fault
returns-clause-fault c =
    IfErr-weaker c.write_patch.result _ _ (λ fault refused direction d ms h. gathered_fault direction d ms c.args.self.now c.args.id c.args.prev fault h refused) c.write_patch.ensures.fault

use Rattle.std.proofs.Common.{arith}
use Rattle.patch_meaning.proofs.Cuts.{if_ok, if_err}
use Rattle.patch_meaning.proofs.Read.{lacks_end, whole_patch}
use Rattle.patch_meaning.proofs.link.check_link.Goals as goal

pub returns-clause-ok : goal.returns-clause-ok
returns-clause-ok c = if_ok c.whole.result _ _ c.whole.ensures.ok (λ link well. whole_patch c.args.text.now c.in_ok-draft.draft link (omega arith) c.in_ok-draft.ensures.ok well)

pub returns-clause-fault : goal.returns-clause-fault
returns-clause-fault c = if_err c.whole.result _ _ c.whole.ensures.fault (λ fault why. lacks_end c.args.text.now c.in_ok-draft.draft fault (omega arith) c.in_ok-draft.ensures.ok why)

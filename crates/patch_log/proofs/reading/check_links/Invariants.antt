use Rattle.chain_core.specs.Tested.{IsTested}
use Rattle.patch_log.proofs.Checking.{links_to}
use Rattle.patch_log.proofs.reading.check_links.Given as goal

abbrev pub invariant-loop-place : goal.invariant-loop-place
invariant-loop-place l = IsTested (links_to l.patches l.place) l.test

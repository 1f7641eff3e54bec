use Rattle.std.proofs.Common.{◌≡◌, ◌+◌, drop, sum_by}
use Rattle.chain_core.specs.Patches.{texts_of, framed}
use Rattle.chain_core.specs.Runs.{patches_sent}
use Rattle.chain_core.proofs.deciding.framed_length.Given as goal

abbrev pub invariant-loop-place : goal.invariant-loop-place
invariant-loop-place g l = l.sum + sum_by framed (texts_of (patches_sent g.S.Sent.link_sent g.S.Sent.text_sent (drop l.place l.run))) ≡ sum_by framed (texts_of (patches_sent g.S.Sent.link_sent g.S.Sent.text_sent l.run))

use Rattle.std.proofs.Common.{◌≡◌, ◌+◌, drop}
use Rattle.chain_core.specs.Patches.{patches_of}
use Rattle.chain_core.specs.Runs.{patches_sent}
use Rattle.chain_core.specs.Decision.{stands_at}
use Rattle.chain_core.proofs.deciding.stands_at.Given as goal

abbrev pub invariant-loop-place : goal.invariant-loop-place
invariant-loop-place g l =
    let patches = patches_of l.chain.items in
    stands_at patches l.version (patches_sent g.S.Sent.link_sent g.S.Sent.text_sent l.run) ≡ stands_at patches (l.version + l.place) (patches_sent g.S.Sent.link_sent g.S.Sent.text_sent (drop l.place l.run))

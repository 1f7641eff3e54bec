use Rattle.std.proofs.Common.{◌≡◌, drop}
use Rattle.chain_core.specs.Patches.{patches_of}
use Rattle.chain_core.specs.Runs.{patches_sent}
use Rattle.chain_core.specs.Decision.{version_known}
use Rattle.chain_core.proofs.deciding.version_known.Given as goal

abbrev pub invariant-loop-place : goal.invariant-loop-place
invariant-loop-place g l =
    let patches = patches_of (g.L.Lookup.entries l.chain) in
    version_known patches (patches_sent g.S.Sent.link_sent g.S.Sent.text_sent l.run) ≡ version_known patches (patches_sent g.S.Sent.link_sent g.S.Sent.text_sent (drop l.place l.run))

use Rattle.std.proofs.Common.{◌≡◌, length, take}
use Rattle.chain_core.specs.Runs.{run_text}
use Rattle.patch_log.proofs.ready.joined.Given as goal

-- so many bytes have the patches so far
abbrev pub invariant-loop-patch : goal.invariant-loop-patch
invariant-loop-patch l = l.length ≡ length (run_text (take l.patch-index l.run))

-- the texts so far were joined
abbrev pub invariant-loop-patch-2 : goal.invariant-loop-patch-2
invariant-loop-patch-2 l = l.text.items ≡ run_text (take l.patch-index l.run)

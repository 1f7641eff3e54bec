use Rattle.std.proofs.Common.{◌++◌, List, sym, subst}
use Rattle.chain_core.specs.declared.chain.Entry.{Entry}
use Rattle.chain_core.specs.Chain.{IsBoundedChain}
use Rattle.chain_core.specs.Runs.{entries_of}
use Rattle.patch_log.proofs.Openings.{next_kept}
use Rattle.patch_log.proofs.opening.with_next.Goals as goal

pub push_run-requires-clause-kept : goal.push_run-requires-clause-kept
push_run-requires-clause-kept c =
    subst (λ (es : List Entry). IsBoundedChain (es ++ entries_of c.in_ok-run.run' 0)) (sym c.reserve.ensures.items)
    (next_kept c.args.chain.items c.args.text c.args.most c.in_ok-run.run' c.next_run.ensures.kept c.in_ok-run.ensures.ok c.ranges.most.fits)

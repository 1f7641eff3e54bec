use Rattle.std.proofs.Common.{◌+◌, length, sym, ◌∙◌, subst}
use Rattle.chain_core.specs.Chain.{IsBoundedChain}
use Rattle.chain_core.specs.Patches.{patches_of}
use Rattle.patch_log.proofs.Openings.{is_next, next_taken, only_next}
use Rattle.patch_log.proofs.opening.next_run.Goals as goal

pub returns-in-Accept-clause-ok : goal.returns-in-Accept-clause-ok
returns-in-Accept-clause-ok c =
    is_next (patches_of c.args.chain.now.items) c.args.text c.args.most c.in-Accept.version c.in_ok-run.run' c.in_ok-run.ensures.ok (sym c.decide.ensures ∙ c.in-Accept.is)

pub returns-in_default-clause-broken : goal.returns-in_default-clause-broken
returns-in_default-clause-broken c = λ told other next.
    let run = c.in_ok-run.run' in
    let entries = c.args.chain.now.items in
    let patches = patches_of entries in
    let kept = subst IsBoundedChain c.chain.ensures c.version-version.ensures.kept in
    let there = next_taken entries c.args.text c.args.most run kept c.ranges.most.fits (only_next patches c.args.text c.args.most run other c.in_ok-run.ensures.ok next) in
    c.in_default.not-Accept (length patches + length run) (c.decide.ensures ∙ there)

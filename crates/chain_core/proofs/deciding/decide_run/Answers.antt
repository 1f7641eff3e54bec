use Rattle.std.proofs.Common.{sym, ◌∙◌}
use Rattle.chain_core.specs.Patches.{patches_of}
use Rattle.chain_core.specs.Runs.{patches_sent}
use Rattle.chain_core.proofs.Decided.{decision-known, decision-new, known_from_one}
use Rattle.chain_core.proofs.deciding.decide_run.Goals as goal

pub stands_at-requires-clause-version : goal.stands_at-requires-clause-version
stands_at-requires-clause-version g c =
    known_from_one (patches_of (g.L.Lookup.entries c.args.chain.now)) (patches_sent g.S.Sent.link_sent g.S.Sent.text_sent c.args.run.now) c.in-Some.version (sym c.version_known.ensures ∙ c.in-Some.is)

pub returns-in-Some : goal.returns-in-Some
returns-in-Some g c =
    let run = patches_sent g.S.Sent.link_sent g.S.Sent.text_sent c.args.run.now in
    let patches = patches_of (g.L.Lookup.entries c.args.chain.now) in
    rw (c.stands_at.ensures, c.chain.ensures) (sym (decision-known patches run c.args.limits.now c.in-Some.version (sym c.version_known.ensures ∙ c.in-Some.is)))

pub returns-in-None : goal.returns-in-None
returns-in-None g c =
    let run = patches_sent g.S.Sent.link_sent g.S.Sent.text_sent c.args.run.now in
    let patches = patches_of (g.L.Lookup.entries c.args.chain.now) in
    rw (c.decide_new.ensures, c.chain-in-None.ensures) (sym (decision-new patches run c.args.limits.now (sym c.version_known.ensures ∙ c.in-None.is)))

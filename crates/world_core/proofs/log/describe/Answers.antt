use Rattle.std.proofs.Common.{List, length, sym, ap, ◌∙◌}
use Rattle.chain_core.specs.declared.chain.Entry.{Entry}
use Rattle.chain_core.specs.Patches.{patch_of, patches_of, last_id}
use Rattle.std.proofs.lemmas.List.{length-map}
use Rattle.world_core.proofs.Running.{described_is}
use Rattle.world_core.proofs.log.describe.Goals as goal

pub returns-clause-told : goal.returns-clause-told
returns-clause-told c runs doubt is =
    let same = c.chain-chain.ensures.entries in
    described_is c.args.log.now.entries runs c.version.result c.head.result is.runs_are
    (c.version.ensures.version ∙ ap length same ∙ sym (length-map c.args.log.now.entries patch_of))
    (c.head.ensures ∙ ap (λ (entries : List Entry). last_id (patches_of entries)) same)

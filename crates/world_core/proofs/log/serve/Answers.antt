use Rattle.std.proofs.Common.{List, Some, None, ap, sym, ◌∙◌}
use Rattle.chain_core.specs.declared.chain.Patch.{Patch}
use Rattle.chain_core.specs.declared.chain.Entry.{Entry}
use Rattle.chain_core.specs.Patches.{patches_of, patch_at}
use Rattle.world_core.proofs.Running.{served_is, entry_sound}
use Rattle.world_core.proofs.log.serve.Goals as goal

pub returns-in_ok-copy-in-Some-clause-message : goal.returns-in_ok-copy-in-Some-clause-message
returns-in_ok-copy-in-Some-clause-message c runs doubt is =
    served_is c.args.log.now.entries runs c.args.version (Some c.in_ok-copy-in-Some.field-0) is.runs_are
    (ap (λ (p : Patch). Some p) c.in_ok-copy-in-Some.ensures ∙ c.in-Some.ensures ∙ ap (λ (entries : List Entry). patch_at (patches_of entries) c.args.version) c.chain.ensures.entries)

pub returns-in-None-clause-message : goal.returns-in-None-clause-message
returns-in-None-clause-message c runs doubt is =
    served_is c.args.log.now.entries runs c.args.version None is.runs_are (c.in-None.ensures ∙ ap (λ (entries : List Entry). patch_at (patches_of entries) c.args.version) c.chain.ensures.entries)

-- it is one of the chain's
pub returns-in_ok-copy-in-Some-clause-sound : goal.returns-in_ok-copy-in-Some-clause-sound
returns-in_ok-copy-in-Some-clause-sound c =
    entry_sound c.args.log.now.entries c.args.version c.in_ok-copy-in-Some.field-0 c.chain.ensures.log.sound
    (sym (ap (λ (p : Patch). Some p) c.in_ok-copy-in-Some.ensures ∙ c.in-Some.ensures ∙ ap (λ (entries : List Entry). patch_at (patches_of entries) c.args.version) c.chain.ensures.entries))

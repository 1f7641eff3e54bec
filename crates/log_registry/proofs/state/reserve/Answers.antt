use Rattle.std.proofs.Common.{◌<◌, ◌^◌, ℕ, length, sym, ◌∙◌, ap, subst}
use Rattle.registry_core.specs.Events.{events_of}
use Rattle.log_registry.proofs.States.{short_text}
use Rattle.log_registry.proofs.state.reserve.Goals as goal

pub make_block-requires : goal.make_block-requires
make_block-requires c =
    let s = c.args.registry.now in
    subst (λ (n : ℕ). n < 2 ^ 32) (sym (ap length (c.deref.ensures.value ∙ c.in_ok-text.ensures))) (short_text s.slots (events_of s.entries) c.args.event c.requires.next)

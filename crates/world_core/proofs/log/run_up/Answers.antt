use Rattle.std.proofs.Common.{◌≡◌, List, Option, None, refl, sym, subst}
use Rattle.std.specs.Prelude.{IfOk}
use Rattle.log_base.specs.declared.limits.TheConstants.{LOG_LIMITS}
use Rattle.chain_core.specs.declared.chain.Patch.{Patch}
use Rattle.world_core.specs.declared.event.WorldEvent.{WorldEvent}
use Rattle.world_core.specs.declared.log.LogPart.{LogPart}
use Rattle.world_core.specs.declared.log.LogPart.TheVariants.{Up, Down}
use Rattle.world_core.specs.declared.message.Message.{Message}
use Rattle.world_core.specs.Parts.{Runs, IsPartOf}
use Rattle.world_core.specs.World.{while_up}
use Rattle.world_core.proofs.log.run_up.Goals as goal

pub returns-in-Append-clause-part : goal.returns-in-Append-clause-part
returns-in-Append-clause-part c =
    subst (λ (event : WorldEvent). IfOk c.append_as.result (λ (sent : LogPart × Option Message). (runs : List (List Patch)) → (doubt : Option (List Patch)) → Runs c.args.log runs doubt
    → IsPartOf sent.0 (while_up LOG_LIMITS runs doubt event).0 × (sent.1 ≡ (while_up LOG_LIMITS runs doubt event).1))) (sym c.in-Append.is) c.append_as.ensures.part

pub returns-in_ok-message-in-Serve-clause-part : goal.returns-in_ok-message-in-Serve-clause-part
returns-in_ok-message-in-Serve-clause-part c runs doubt is =
    subst (λ (event : WorldEvent). IsPartOf (Up c.args.log) (while_up LOG_LIMITS runs doubt event).0 × (c.in_ok-message-in-Serve.message ≡ (while_up LOG_LIMITS runs doubt event).1)) (sym c.in-Serve.is)
    (is, c.in_ok-message-in-Serve.ensures.message runs doubt is)

pub returns-in_ok-stop-in-Stop-clause-part : goal.returns-in_ok-stop-in-Stop-clause-part
returns-in_ok-stop-in-Stop-clause-part c runs doubt is =
    subst (λ (event : WorldEvent). IsPartOf (Down c.in_ok-stop-in-Stop.field-0) (while_up LOG_LIMITS runs doubt event).0 × (◌≡◌ {A = Option Message} None (while_up LOG_LIMITS runs doubt event).1)) (sym c.in-Stop.is)
    (c.in_ok-stop-in-Stop.ensures runs doubt is, refl)

use Rattle.std.proofs.Common.{◌≡◌, length, ℕ, Option, IfOk, subst, sym}
use Rattle.log_base.specs.declared.limits.LogLimits.{LogLimits}
use Rattle.chain_core.specs.Patches.{patches_of, patch_named}
use Rattle.chain_core.specs.Replies.{fetched}
use Rattle.shared_log.specs.declared.replies.Fetched.{Fetched}
use Rattle.shared_log.specs.Replies.{reply_fetched}
use Rattle.shared_log.proofs.value.LogList.fetch_id.Goals as goal

pub returns-in-Some : goal.returns-in-Some
returns-in-Some c =
    let chain = patches_of c.args.self.now.chain.items in
    subst (λ (at : Option ℕ). IfOk c.fetch_version.result (λ (f : Fetched). (limits : LogLimits) → reply_fetched f ≡ fetched (patch_named chain at) (length chain))) c.in-Some.ensures c.fetch_version.ensures

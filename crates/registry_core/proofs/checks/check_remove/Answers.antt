use Rattle.std.proofs.Common.{◌≡◌, ◌+◌, ◌<◌, ◌≤◌, ℕ, length, Some, refl, sym, ◌∙◌, ap, subst}
use Rattle.log_base.specs.declared.limits.FullKind.TheVariants.{Bytes}
use Rattle.log_base.specs.declared.source_info.SourceInfo.{SourceInfo}
use Rattle.registry_core.specs.declared.event.Event.TheVariants.{Removed}
use Rattle.registry_core.specs.declared.answer.ChangeAnswer.TheVariants.{Full}
use Rattle.registry_core.specs.Checks.{IsRefusedChange}
use Rattle.registry_core.specs.Replies.{removal_answer, of_found}
use Rattle.log_base.specs.declared.limits.TheConstants.{PAYLOAD_FRAME, REGISTRY_LIMIT}
use Rattle.registry_core.specs.Sources.{source_named}
use Rattle.registry_core.specs.Texts.{event_text, length_with}
use Rattle.registry_core.proofs.Checked.{refusal, remove_no_room, can_remove}
use Rattle.registry_core.proofs.Replied.{get_there}
use Rattle.registry_core.proofs.Tables.{longer_is}
use Rattle.registry_core.proofs.checks.check_remove.Goals as goal

pub returns-then-longer-gt-REGISTRY_LIMIT-clause-refused : goal.returns-then-longer-gt-REGISTRY_LIMIT-clause-refused
returns-then-longer-gt-REGISTRY_LIMIT-clause-refused c =
    let living = c.args.living.now in
    let source = c.index-living-place.result in
    let longer = length_with c.args.bytes (Removed source.slot) in
    let found : source_named c.args.name.now living ≡ Some source = c.in-Some.ensures.some.1 ∙ get_there living c.in-Some.place source c.in-Some.ensures.some.0 c.index-living-place.is in
    let have : c.args.bytes + PAYLOAD_FRAME + c.removed_length.result ≡ longer = longer_is c.args.bytes c.removed_length.result (Removed source.slot) (c.removed_length.ensures.value ∙ ap (λ (s : SourceInfo). length (event_text (Removed s.slot))) (sym c.index-living-place.is)) in
    let above : REGISTRY_LIMIT < longer = subst (λ (n : ℕ). REGISTRY_LIMIT < n) have c.if-longer-gt-REGISTRY_LIMIT.true in
    subst (λ (n : ℕ). IsRefusedChange (of_found (removal_answer c.args.bytes) (source_named c.args.name.now living)) (Full Bytes n REGISTRY_LIMIT)) (sym have) (refusal _ _ (remove_no_room living c.args.bytes c.args.name.now source found above) refl)

pub returns-clause-ok : goal.returns-clause-ok
returns-clause-ok c =
    let living = c.args.living.now in
    let source = c.index-living-place.result in
    let longer = length_with c.args.bytes (Removed source.slot) in
    let there = get_there living c.in-Some.place source c.in-Some.ensures.some.0 c.index-living-place.is in
    let have : c.args.bytes + PAYLOAD_FRAME + c.removed_length.result ≡ longer = longer_is c.args.bytes c.removed_length.result (Removed source.slot) (c.removed_length.ensures.value ∙ ap (λ (s : SourceInfo). length (event_text (Removed s.slot))) (sym c.index-living-place.is)) in
    let within : longer ≤ REGISTRY_LIMIT = subst (λ (n : ℕ). n ≤ REGISTRY_LIMIT) have c.if-longer-gt-REGISTRY_LIMIT.false in
    (source, there, can_remove living c.args.bytes c.args.name.now source (c.in-Some.ensures.some.1 ∙ there) within)

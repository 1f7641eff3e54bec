use Rattle.std.proofs.Common.{◌≡◌, ◌+◌, ◌<◌, ◌≤◌, ℕ, sym, ◌∙◌, ap, subst, refl}
use Rattle.log_base.specs.declared.limits.FullKind.TheVariants.{Bytes}
use Rattle.log_base.specs.declared.source_info.SourceInfo.{SourceInfo}
use Rattle.registry_core.specs.declared.event.Event.TheVariants.{Created}
use Rattle.registry_core.specs.declared.answer.CreateAnswer.TheVariants.{Full}
use Rattle.registry_core.specs.Checks.{IsRefusedCreate}
use Rattle.registry_core.specs.Replies.{created}
use Rattle.log_base.specs.declared.limits.TheConstants.{PAYLOAD_FRAME, REGISTRY_LIMIT}
use Rattle.registry_core.specs.Texts.{length_with}
use Rattle.registry_core.proofs.Checked.{refused, no_room, can_make}
use Rattle.registry_core.proofs.Tables.{longer_is}
use Rattle.registry_core.proofs.checks.check_create.Goals as goal

pub returns-then-longer-gt-REGISTRY_LIMIT-clause-refused : goal.returns-then-longer-gt-REGISTRY_LIMIT-clause-refused
returns-then-longer-gt-REGISTRY_LIMIT-clause-refused c =
    let source : SourceInfo = record { slot = c.args.used + 1; id = c.args.id; name = c.args.name.now; uri = c.args.uri.now } in
    let have : c.args.bytes + PAYLOAD_FRAME + c.created_length.result ≡ length_with c.args.bytes (Created source) = longer_is c.args.bytes c.created_length.result (Created source) (c.created_length.ensures.value c.args.id) in
    let above : REGISTRY_LIMIT < length_with c.args.bytes (Created source) = subst (λ (n : ℕ). REGISTRY_LIMIT < n) have c.if-longer-gt-REGISTRY_LIMIT.true in
    let full = no_room c.args.living.now c.args.slots c.args.used c.args.bytes source (sym c.in_default.ensures.value) (sym c.in_default-uri_fault.ensures.value) c.in_default-place_named.ensures.none c.in_default-place_with_id.ensures.none c.if-used-slots.false above in
    subst (λ (n : ℕ). IsRefusedCreate (created c.args.living.now c.args.slots c.args.used c.args.bytes source) (Full Bytes n REGISTRY_LIMIT)) (sym have) (refused _ _ full refl)

pub returns-clause-free : goal.returns-clause-free
returns-clause-free c =
    let source : SourceInfo = record { slot = c.args.used + 1; id = c.args.id; name = c.args.name.now; uri = c.args.uri.now } in
    let have : c.args.bytes + PAYLOAD_FRAME + c.created_length.result ≡ length_with c.args.bytes (Created source) = longer_is c.args.bytes c.created_length.result (Created source) (c.created_length.ensures.value c.args.id) in
    let within : length_with c.args.bytes (Created source) ≤ REGISTRY_LIMIT = subst (λ (n : ℕ). n ≤ REGISTRY_LIMIT) have c.if-longer-gt-REGISTRY_LIMIT.false in
    can_make c.args.living.now c.args.slots c.args.used c.args.bytes source (sym c.in_default.ensures.value) (sym c.in_default-uri_fault.ensures.value) c.in_default-place_named.ensures.none c.in_default-place_with_id.ensures.none c.if-used-slots.false within

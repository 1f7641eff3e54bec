use Rattle.std.proofs.Common.{◌∙◌, ap, sym, subst}
use Rattle.std.proofs.lemmas.Result.{err_from_is_err_and}
use Rattle.std.proofs.lemmas.List.{take_all}
use Rattle.http_heads.specs.Heads.{HasTooManyFields, IsBadHead, request}
use Rattle.http_heads.specs.declared.message.Kind.TheVariants.{Requests}
use Rattle.http_heads.specs.declared.message.Message.TheVariants as forms
use Rattle.http_messages.proofs.FrontLemmas.{request_begins, request_framing, head_fault, request_same}
use Rattle.http_messages.proofs.front.request_front.Goals as goal

pub returns-in_err-framing-in-Whole : goal.returns-in_err-framing-in-Whole
returns-in_err-framing-in-Whole c = λ room fits.
    let found = c.in-Whole.ensures in
    let begins = request_begins _ _ room fits _ found.1.0 found.0 found.1.1 found.2 in
    let framing = request_framing _ _ _ found.1.0 _ found.1.1 c.read_framing.ensures in
    let p = err_from_is_err_and c.from_residual.result c.from_residual.ensures.1 in
    rw (p.1, p.2) (head_fault Requests room _ _ (request found.1.0) _ begins (framing ∙ c.in_err-framing-in-Whole.was))

pub returns-in_ok-request-in-Whole : goal.returns-in_ok-request-in-Whole
returns-in_ok-request-in-Whole c = λ room fits.
    let found = c.in-Whole.ensures in (
      request found.1.0,
      request_begins _ _ room fits _ found.1.0 found.0 found.1.1 found.2,
      found.1.1.len,
      request_framing _ _ _ found.1.0 _ found.1.1 c.read_framing.ensures ∙ c.in_ok-framing-in-Whole.was,
      ap forms.Request (c.in_ok-request-in-Whole.ensures ∙ request_same _ _ _ found.1.0 found.1.1),
    )

pub returns-in-TooManyFields : goal.returns-in-TooManyFields
returns-in-TooManyFields c = λ room fits. subst (HasTooManyFields Requests) (sym (take_all room c.args.text.now fits)) c.in-TooManyFields.ensures

pub returns-in-BadHead : goal.returns-in-BadHead
returns-in-BadHead c = λ room fits. subst (IsBadHead Requests) (sym (take_all room c.args.text.now fits)) c.in-BadHead.ensures

use Rattle.std.proofs.Common.{refl, inl, subst, Ok, arith}
use Rattle.http_messages.specs.Stages.{HeadStepIs}
use Rattle.http_messages.specs.declared.stage.HeadEnd.{HeadEnd}
use Rattle.http_text.proofs.ReaderLemmas.{head_goes_on, interim_passed, no_room_left, head_is_whole, ends_body}
use Rattle.http_text.proofs.reader.after_head.Goals as goal

pub returns-in-Open : goal.returns-in-Open
returns-in-Open c = λ kind rest old new piece used progress held step.
    let is = subst (λ (e : HeadEnd). HeadStepIs kind c.args.room old new piece (Ok (used, e))) c.in-Open.is step in
    inl (refl, head_goes_on kind rest old new piece c.args.room used progress held c.in-Open.progress is.1 is.2 is.3)

pub returns-then-left-eq0 : goal.returns-then-left-eq0
returns-then-left-eq0 c = λ kind rest old new piece used progress held step.
    let is = subst (λ (e : HeadEnd). HeadStepIs kind c.args.room old new piece (Ok (used, e))) c.in-Interim.is step in
    (refl, no_room_left kind rest old new piece c.args.room used progress held c.in-Interim.left is.2.0 is.1 is.2.1 is.2.2 is.2.3 is.2.4 c.if-left-eq0.true)

pub returns-else-left-eq0 : goal.returns-else-left-eq0
returns-else-left-eq0 c = λ kind rest old new piece used progress held step.
    let is = subst (λ (e : HeadEnd). HeadStepIs kind c.args.room old new piece (Ok (used, e))) c.in-Interim.is step in
    inl (refl, interim_passed kind rest old new piece c.args.room used progress held c.in-Interim.left is.2.0 is.1 is.2.1 is.2.2 is.2.3 is.2.4 (omega arith))

pub returns-in-Whole : goal.returns-in-Whole
returns-in-Whole c = λ kind rest old new piece used progress held step.
    let is = subst (λ (e : HeadEnd). HeadStepIs kind c.args.room old new piece (Ok (used, e))) c.in-Whole.is step in
    let whole = head_is_whole kind rest old new piece c.args.room used progress held c.in-Whole.message c.in-Whole.framing is.2.0 is.2.1 is.2.2 is.2.3 in
    ends_body kind _ new _ _ c.begin_body.result is.1 (c.begin_body.ensures kind _ whole)

use Rattle.std.proofs.Common.{subst, refl, inl, inr, Ok, Option}
use Rattle.std.proofs.lemmas.Result.{err_from_is_err_and}
use Rattle.http_messages.specs.Stages.{PartStepIs}
use Rattle.http_text.specs.Readers.{HoldsRest}
use Rattle.http_text.specs.declared.reader.Stage.{Stage}
use Rattle.http_messages.specs.declared.stage.BodyPart.{BodyPart}
use Rattle.http_text.proofs.ReaderLemmas.{body_goes_on, body_is_whole, body_breaks, memory_breaks, head_breaks, head_fault_tells, start_with, room_fits, uses_some}
use Rattle.http_text.proofs.StayLemmas.{head_fault_used}
use Rattle.http_text.proofs.reader.advance.Goals as goal

pub step_head-requires : goal.step_head-requires
step_head-requires c =
    let head = subst (λ (s : Stage). HoldsRest c.args.kind s c.args.pending.now.items c.requires.held.0) c.in-Head.is c.requires.held.1 in
    record { «open» = head.still; follows = head.follows; limit = room_fits c.args.kind _ _ _ _ head; piece = c.requires.piece }

pub returns-in_err-used-in-Head : goal.returns-in_err-used-in-Head
returns-in_err-used-in-Head c = λ rest held.
    let p = err_from_is_err_and c.from_residual.result c.from_residual.ensures.1 in
    let head = subst (λ (s : Stage). HoldsRest c.args.kind s c.args.pending.now.items rest) c.in-Head.is held in
    rw (p.1, p.2, c.in-Head.is) (refl, head_breaks c.args.kind _ _ (head_fault_tells c.args.kind rest c.args.pending.now.items c.args.piece.now c.in-Head.room c.in-Head.progress _ head c.in_err-used-in-Head.ensures))

pub returns-in_err-stage-in-Head : goal.returns-in_err-stage-in-Head
returns-in_err-stage-in-Head c = λ rest held.
    let p = err_from_is_err_and c.from_residual-in_err-stage-in-Head.result c.from_residual-in_err-stage-in-Head.ensures.1 in
    let head = subst (λ (s : Stage). HoldsRest c.args.kind s c.args.pending.now.items rest) c.in-Head.is held in
    let failed = c.in_err-stage-in-Head.ensures c.args.kind rest c.args.pending.now.items c.step_head.new.pending.items c.args.piece.now c.in_ok-used-in-Head.used c.in-Head.progress head c.in_ok-used-in-Head.ensures in
    rw (p.1, p.2, c.in-Head.is) (failed.0, head_breaks c.args.kind _ _ (head_fault_used c.args.kind rest c.args.piece.now c.in_ok-used-in-Head.used _ failed.1))

pub returns-in_ok-stage-in-Head : goal.returns-in_ok-stage-in-Head
returns-in_ok-stage-in-Head c = λ rest held.
    let head = subst (λ (s : Stage). HoldsRest c.args.kind s c.args.pending.now.items rest) c.in-Head.is held in (
      uses_some c.args.kind c.in-Head.room _ c.args.pending.now.items c.step_head.new.pending.items _ _ c.in_ok-used-in-Head.ensures,
      c.in_ok-stage-in-Head.ensures c.args.kind rest c.args.pending.now.items c.step_head.new.pending.items c.args.piece.now c.in_ok-used-in-Head.used c.in-Head.progress head c.in_ok-used-in-Head.ensures,
    )

pub returns-in_err-used-in-Body : goal.returns-in_err-used-in-Body
returns-in_err-used-in-Body c = λ rest held.
    let p = err_from_is_err_and c.from_residual-in_err-used-in-Body.result c.from_residual-in_err-used-in-Body.ensures.1 in
    let body = subst (λ (s : Stage). HoldsRest c.args.kind s c.args.pending.now.items rest) c.in-Body.is held in
    let failed = c.in_err-used-in-Body.ensures body.framing body.behind body.part_is in
    rw (p.1, p.2, c.in-Body.is) (refl, body_breaks c.args.kind rest c.args.piece.now c.in-Body.message c.in-Body.part c.args.pending.now.items _ _ body failed)

pub returns-in-Some : goal.returns-in-Some
returns-in-Some c = λ rest held.
    let body = subst (λ (s : Stage). HoldsRest c.args.kind s c.args.pending.now.items rest) c.in-Body.is held in
    let step = subst (λ (w : Option BodyPart). PartStepIs body.framing body.behind c.args.piece.now c.step_part.new.body.items c.step_part.new.pending.items (Ok (c.in_ok-used-in-Body.used, w)))
    c.in-Some.is (c.in_ok-used-in-Body.ensures body.framing body.behind body.part_is) in
    (step.0, inl (refl, body_goes_on c.args.kind rest _ c.in-Body.message c.in-Body.part c.in-Some.part c.args.pending.now.items _ _ _ body step.1))

pub returns-in_ok-push_back-in-None : goal.returns-in_ok-push_back-in-None
returns-in_ok-push_back-in-None c = λ rest held.
    let body = subst (λ (s : Stage). HoldsRest c.args.kind s c.args.pending.now.items rest) c.in-Body.is held in
    let step = subst (λ (w : Option BodyPart). PartStepIs body.framing body.behind c.args.piece.now c.step_part.new.body.items c.step_part.new.pending.items (Ok (c.in_ok-used-in-Body.used, w)))
    c.in-None.is (c.in_ok-used-in-Body.ensures body.framing body.behind body.part_is) in (
      step.0,
      inr (
        _,
        c.in_ok-push_back-in-None.ensures.items,
        body_is_whole c.args.kind rest _ c.in-Body.message _ c.in-Body.part c.args.pending.now.items _ _ body
            (record { request = c.with_body.ensures.request; reply = c.with_body.ensures.reply }) step.1,
        start_with c.args.kind c.at_start.result _ (c.at_start.ensures.held c.args.kind) step.2,
      ),
    )

pub returns-in_err-push_back-in-None : goal.returns-in_err-push_back-in-None
returns-in_err-push_back-in-None c = λ rest held.
    let p = err_from_is_err_and c.from_residual-in_err-push_back-in-None.result c.from_residual-in_err-push_back-in-None.ensures.1 in
    let body = subst (λ (s : Stage). HoldsRest c.args.kind s c.args.pending.now.items rest) c.in-Body.is held in
    rw (p.1, c.in-Body.is)
    (c.in_err-push_back-in-None.ensures.items, memory_breaks c.args.kind rest c.args.piece.now c.in-Body.message c.in-Body.part c.args.pending.now.items c.in-Body.body.items _ p.2 body)

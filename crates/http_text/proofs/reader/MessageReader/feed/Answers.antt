use Rattle.std.proofs.Common.{◌≡◌, ◌∙◌, ◌++◌, Some, Err, sym, ap, subst, refl}
use Rattle.http_text.specs.Readers.{HoldsStage}
use Rattle.http_text.specs.declared.reader.Stage.{Stage}
use Rattle.http_text.proofs.RunLemmas.{faulty_stage, same_fault, not_faulty, still_held, no_fault, fault_again, messages_grow, decided_open, decided_fault}
use Rattle.http_text.proofs.reader.MessageReader.feed.Goals as goal

pub returns-then-extend_body : goal.returns-then-extend_body
returns-then-extend_body c =
    let grown = c.extend_body.ensures.held c.if-extend_body.true c.args.self.now.kind c.args.self.now.pending.items in
    let old = c.requires.2 in
    record {
      kind = refl;
      reader = (
        c.requires.0 ++ c.args.piece.now,
        c.requires.1,
        (old.0 ++ c.args.piece.now, messages_grow c.args.self.now.kind _ c.requires.0 old.0 c.args.piece.now old.1, still_held c.args.self.now.kind _ _ _ (grown old.0 old.2)),
      );
      stands = λ bytes taken stands.
          (stands.0 ++ c.args.piece.now, messages_grow c.args.self.now.kind _ bytes stands.0 c.args.piece.now stands.1, still_held c.args.self.now.kind _ _ _ (grown stands.0 stands.2));
      decides = λ bytes taken stands.
          decided_open c.args.self.now.kind _ (stands.0 ++ c.args.piece.now) _ _ _ (messages_grow c.args.self.now.kind _ bytes stands.0 c.args.piece.now stands.1) (grown stands.0 stands.2);
      ok = no_fault c.args.self.now.kind _ _ _ (grown old.0 old.2);
      fault = tt;
      again = λ met is. let none = sym (c.extend_body.ensures.good c.if-extend_body.true) ∙ is in cc;
      told = refl;
    }

pub returns-in-Faulty-clause-stands : goal.returns-in-Faulty-clause-stands
returns-in-Faulty-clause-stands c = λ bytes taken stands.
    let held = subst (λ (s : Stage). HoldsStage c.args.self.now.kind s c.args.self.now.pending.items stands.0) (sym (c.replace-stage.ensures.value ∙ c.extend_body.ensures.same c.if-extend_body.false) ∙ c.in-Faulty.is) stands.2 in
    fault_again c.args.self.now.kind bytes c.args.piece.now stands.0 _ c.in-Faulty.broken stands.1 held

pub returns-in-Faulty-clause-reader : goal.returns-in-Faulty-clause-reader
returns-in-Faulty-clause-reader c =
    let stands = c.requires.2 in
    let held = subst (λ (s : Stage). HoldsStage c.args.self.now.kind s c.args.self.now.pending.items stands.0) (sym (c.replace-stage.ensures.value ∙ c.extend_body.ensures.same c.if-extend_body.false) ∙ c.in-Faulty.is) stands.2 in
    (c.requires.0 ++ c.args.piece.now, c.requires.1, fault_again c.args.self.now.kind c.requires.0 c.args.piece.now stands.0 _ c.in-Faulty.broken stands.1 held)

pub returns-in-Faulty-clause-again : goal.returns-in-Faulty-clause-again
returns-in-Faulty-clause-again c = λ met is.
    let same : c.in-Faulty.broken.fault ≡ met = same_fault c.args.self.now.stage c.in-Faulty.broken met (sym (c.replace-stage.ensures.value ∙ c.extend_body.ensures.same c.if-extend_body.false) ∙ c.in-Faulty.is) is in
    (ap Err same, ap Some same)

pub returns-in-Faulty-clause-decides : goal.returns-in-Faulty-clause-decides
returns-in-Faulty-clause-decides c = λ bytes taken stands.
    let held = subst (λ (s : Stage). HoldsStage c.args.self.now.kind s c.args.self.now.pending.items stands.0) (sym (c.replace-stage.ensures.value ∙ c.extend_body.ensures.same c.if-extend_body.false) ∙ c.in-Faulty.is) stands.2 in
    let again = fault_again c.args.self.now.kind bytes c.args.piece.now stands.0 _ c.in-Faulty.broken stands.1 held in
    decided_fault c.args.self.now.kind _ again.0 _ c.in-Faulty.broken.fault again.1 again.2.0

pub read_piece-requires : goal.read_piece-requires
read_piece-requires c =
    let stands = c.requires.2 in
    let held = subst (λ (s : Stage). HoldsStage c.args.self.now.kind s c.args.self.now.pending.items stands.0) (sym (c.replace-stage.ensures.value ∙ c.extend_body.ensures.same c.if-extend_body.false)) stands.2 in
    record { held = (stands.0, not_faulty c.args.self.now.kind _ _ stands.0 c.in_default.not-Faulty held) }

pub returns-in-Ok : goal.returns-in-Ok
returns-in-Ok c =
    let next = c.in-Ok.ensures.held in
    let old = c.requires.2 in
    let before = subst (λ (s : Stage). HoldsStage c.args.self.now.kind s c.args.self.now.pending.items old.0) (sym (c.replace-stage.ensures.value ∙ c.extend_body.ensures.same c.if-extend_body.false)) old.2 in
    let after = c.in-Ok.ensures.read c.requires.0 c.requires.1 (old.0, old.1, not_faulty c.args.self.now.kind _ _ old.0 c.in_default.not-Faulty before) in
    record {
      kind = refl;
      reader = (c.requires.0 ++ c.args.piece.now, c.requires.1, (after.0, after.1, still_held c.args.self.now.kind _ _ after.0 after.2));
      stands = λ bytes taken stands.
          let held = subst (λ (s : Stage). HoldsStage c.args.self.now.kind s c.args.self.now.pending.items stands.0) (sym (c.replace-stage.ensures.value ∙ c.extend_body.ensures.same c.if-extend_body.false)) stands.2 in
          let all = c.in-Ok.ensures.read bytes taken (stands.0, stands.1, not_faulty c.args.self.now.kind _ _ stands.0 c.in_default.not-Faulty held) in
          (all.0, all.1, still_held c.args.self.now.kind _ _ all.0 all.2);
      decides = λ bytes taken stands.
          let held = subst (λ (s : Stage). HoldsStage c.args.self.now.kind s c.args.self.now.pending.items stands.0) (sym (c.replace-stage.ensures.value ∙ c.extend_body.ensures.same c.if-extend_body.false)) stands.2 in
          let all = c.in-Ok.ensures.read bytes taken (stands.0, stands.1, not_faulty c.args.self.now.kind _ _ stands.0 c.in_default.not-Faulty held) in
          decided_open c.args.self.now.kind _ all.0 _ _ _ all.1 all.2;
      ok = no_fault c.args.self.now.kind _ _ next.0 next.1;
      fault = tt;
      again = λ met is. let was = faulty_stage c.args.self.now.stage met is in absurd (c.in_default.not-Faulty was.0 ((c.replace-stage.ensures.value ∙ c.extend_body.ensures.same c.if-extend_body.false) ∙ was.1));
      told = refl;
    }

pub returns-in-Err : goal.returns-in-Err
returns-in-Err c =
    let old = c.requires.2 in
    let before = subst (λ (s : Stage). HoldsStage c.args.self.now.kind s c.args.self.now.pending.items old.0) (sym (c.replace-stage.ensures.value ∙ c.extend_body.ensures.same c.if-extend_body.false)) old.2 in
    record {
      kind = refl;
      reader = (
        c.requires.0 ++ c.args.piece.now,
        c.requires.1,
        c.in-Err.ensures.read c.requires.0 c.requires.1 (old.0, old.1, not_faulty c.args.self.now.kind _ _ old.0 c.in_default.not-Faulty before),
      );
      stands = λ bytes taken stands.
          let held = subst (λ (s : Stage). HoldsStage c.args.self.now.kind s c.args.self.now.pending.items stands.0) (sym (c.replace-stage.ensures.value ∙ c.extend_body.ensures.same c.if-extend_body.false)) stands.2 in
          c.in-Err.ensures.read bytes taken (stands.0, stands.1, not_faulty c.args.self.now.kind _ _ stands.0 c.in_default.not-Faulty held);
      decides = λ bytes taken stands.
          let held = subst (λ (s : Stage). HoldsStage c.args.self.now.kind s c.args.self.now.pending.items stands.0) (sym (c.replace-stage.ensures.value ∙ c.extend_body.ensures.same c.if-extend_body.false)) stands.2 in
          let all = c.in-Err.ensures.read bytes taken (stands.0, stands.1, not_faulty c.args.self.now.kind _ _ stands.0 c.in_default.not-Faulty held) in
          decided_fault c.args.self.now.kind _ all.0 _ c.in-Err.broken.fault all.1 all.2.0;
      ok = tt;
      fault = refl;
      again = λ met is. let was = faulty_stage c.args.self.now.stage met is in absurd (c.in_default.not-Faulty was.0 ((c.replace-stage.ensures.value ∙ c.extend_body.ensures.same c.if-extend_body.false) ∙ was.1));
      told = refl;
    }

use Rattle.std.proofs.Common.{◌≡◌, ◌+◌, ◌∙◌, ℕ, Bool, Some, None, cond, length, sym, ap, arith}
use Rattle.std.specs.Str.Iter.{char_indices_rest, char_indices_offset}
use Rattle.std.proofs.lemmas.List.{length-append}
use Rattle.std.proofs.lemmas.Str.{IsUtf8-past_char}
use Rattle.std.specs.Char.{encode_utf8}
use Rattle.rdf_terms.specs.Label.{may_end}
use Rattle.rdf_terms.proofs.Labels.{step, label_decided}
use Rattle.rdf_terms.proofs.Misfits.{misfit_more, misfit_here, misfit_end}
use Rattle.rdf_terms.proofs.label.first_misfit.Goals as goal

pub returns-then-not-may_follow : goal.returns-then-not-may_follow
returns-then-not-may_follow c =
    let steps = c.in-Some.ensures.steps in let it = c.loop-at.at-iterator in
    let no_step = ap (λ (b : Bool). cond b (Some (Some c.in-Some.c)) None) (sym c.may_follow.ensures ∙ c.if-not-may_follow.true) in
    label_decided c.args.text.now (Some c.in-Some.at) c.utf8.text
    (misfit_here step may_end (char_indices_rest it) _ c.in-Some.c c.loop-at.invariant.1 steps.1 c.loop-at.last (char_indices_offset it) _ no_step c.loop-at.invariant.0
    ∙ ap (λ (at : ℕ). Some at) (sym steps.0))

pub loop-at-preserved : goal.loop-at-preserved
loop-at-preserved c =
    let steps = c.in-Some.ensures.steps in let it = c.loop-at.at-iterator in
    let a_step = ap (λ (b : Bool). cond b (Some (Some c.in-Some.c)) None) (sym c.may_follow.ensures ∙ c.if-not-may_follow.false) in
    let l : length (char_indices_rest it) ≡ length (encode_utf8 c.in-Some.c) + length (char_indices_rest c.next.new.self) = ap length steps.1 ∙ length-append (encode_utf8 c.in-Some.c) (char_indices_rest c.next.new.self) in
    let whole = c.loop-at.invariant.2 in let place = steps.2 in (
      misfit_more step may_end (char_indices_rest it) _ c.in-Some.c c.loop-at.invariant.1 steps.1 c.loop-at.last (Some c.in-Some.c) (char_indices_offset it) _ _ a_step steps.2 c.loop-at.invariant.0,
      IsUtf8-past_char (char_indices_rest it) _ c.in-Some.c c.loop-at.invariant.1 steps.1,
      omega arith,
    )

pub returns-then-may_end : goal.returns-then-may_end
returns-then-may_end c =
    let it = c.loop-at.at-iterator in
    label_decided c.args.text.now None c.utf8.text
    (misfit_end step may_end (char_indices_rest it) c.in-None.ensures.steps.0 c.loop-at.last (char_indices_offset it) _ c.loop-at.invariant.0
    ∙ ap (λ (b : Bool). cond b None (Some (char_indices_offset it))) (sym c.may_end.ensures ∙ c.if-may_end.true))

pub returns-else-may_end : goal.returns-else-may_end
returns-else-may_end c =
    let it = c.loop-at.at-iterator in let none = c.in-None.ensures.steps.0 in
    let place : char_indices_offset it ≡ length c.args.text.now = let whole = c.loop-at.invariant.2 in omega arith in
    label_decided c.args.text.now (Some (length c.args.text.now)) c.utf8.text
    (misfit_end step may_end (char_indices_rest it) none c.loop-at.last (char_indices_offset it) _ c.loop-at.invariant.0
    ∙ ap (λ (b : Bool). cond b None (Some (char_indices_offset it))) (sym c.may_end.ensures ∙ c.if-may_end.false) ∙ ap (λ (at : ℕ). Some at) place)

use Rattle.std.proofs.Common.{◌≡◌, ◌+◌, ◌∙◌, ℕ, Bool, Some, None, true, false, cond, length, sym, ap, arith}
use Rattle.std.specs.Char.{encode_utf8}
use Rattle.std.specs.Str.Iter.{char_indices_rest, char_indices_offset}
use Rattle.std.proofs.lemmas.List.{length-append}
use Rattle.std.proofs.lemmas.Str.{IsUtf8-past_char}
use Rattle.rdf_terms.proofs.Tags.{step, ends, step_letter, step_dash, step_none, step_other, tag_decided}
use Rattle.rdf_terms.proofs.Misfits.{misfit_more, misfit_here, misfit_end}
use Rattle.rdf_terms.proofs.tag.first_misfit.Goals as goal
use Rattle.rdf_terms.proofs.tag.first_misfit.Goals.{else-some-via-then-some+else-c-eq45, else-some-via-else-some}

pub loop-at-preserved-then-is_tag_char : goal.loop-at-preserved-then-is_tag_char
loop-at-preserved-then-is_tag_char c =
    let steps = c.in-Some.ensures.steps in let it = c.loop-at.at-iterator in
    let a_step = step_letter c.loop-at.first c.loop-at.some c.in-Some.c (sym c.is_tag_char.ensures ∙ c.if-is_tag_char.true) in
    let l : length (char_indices_rest it) ≡ length (encode_utf8 c.in-Some.c) + length (char_indices_rest c.next.new.self) = ap length steps.1 ∙ length-append (encode_utf8 c.in-Some.c) (char_indices_rest c.next.new.self) in
    let whole = c.loop-at.invariant.2 in let place = steps.2 in (
      misfit_more step ends (char_indices_rest it) _ c.in-Some.c c.loop-at.invariant.1 steps.1 (c.loop-at.first, c.loop-at.some) (c.loop-at.first, true) (char_indices_offset it) _ _ a_step steps.2 c.loop-at.invariant.0,
      IsUtf8-past_char (char_indices_rest it) _ c.in-Some.c c.loop-at.invariant.1 steps.1,
      omega arith,
    )

pub loop-at-preserved : goal.loop-at-preserved
loop-at-preserved c =
    let steps = c.in-Some.ensures.steps in let it = c.loop-at.at-iterator in
    let a_step = step_dash c.loop-at.first c.loop-at.some c.in-Some.c (sym c.is_tag_char.ensures ∙ c.if-is_tag_char.false) c.if-some.true c.if-c-eq45.true in
    let l : length (char_indices_rest it) ≡ length (encode_utf8 c.in-Some.c) + length (char_indices_rest c.next.new.self) = ap length steps.1 ∙ length-append (encode_utf8 c.in-Some.c) (char_indices_rest c.next.new.self) in
    let whole = c.loop-at.invariant.2 in let place = steps.2 in (
      misfit_more step ends (char_indices_rest it) _ c.in-Some.c c.loop-at.invariant.1 steps.1 (c.loop-at.first, c.loop-at.some) (false, false) (char_indices_offset it) _ _ a_step steps.2 c.loop-at.invariant.0,
      IsUtf8-past_char (char_indices_rest it) _ c.in-Some.c c.loop-at.invariant.1 steps.1,
      omega arith,
    )

pub returns-else-some : goal.returns-else-some
returns-else-some c =
    let steps = c.in-Some.ensures.steps in let it = c.loop-at.at-iterator in
    let other = sym c.is_tag_char.ensures ∙ c.if-is_tag_char.false in
    let no_step : step (c.loop-at.first, c.loop-at.some) c.in-Some.c ≡ None = elim c.else-some.branch [
      | else-some-via-then-some+else-c-eq45 w ↦ step_other c.loop-at.first c.loop-at.some c.in-Some.c other w.if-c-eq45.false
      | else-some-via-else-some w ↦ step_none c.loop-at.first c.loop-at.some c.in-Some.c other w.if-some.false
    ] in
    tag_decided c.args.text.now (Some c.in-Some.at) c.utf8.text
    (misfit_here step ends (char_indices_rest it) _ c.in-Some.c c.loop-at.invariant.1 steps.1 (c.loop-at.first, c.loop-at.some) (char_indices_offset it) _ no_step c.loop-at.invariant.0
    ∙ ap (λ (at : ℕ). Some at) (sym steps.0))

pub returns-then-some-2 : goal.returns-then-some-2
returns-then-some-2 c =
    let it = c.loop-at.at-iterator in
    tag_decided c.args.text.now None c.utf8.text
    (misfit_end step ends (char_indices_rest it) c.in-None.ensures.steps.0 (c.loop-at.first, c.loop-at.some) (char_indices_offset it) _ c.loop-at.invariant.0
    ∙ ap (λ (b : Bool). cond b None (Some (char_indices_offset it))) c.if-some-2.true)

pub returns-else-some-2 : goal.returns-else-some-2
returns-else-some-2 c =
    let it = c.loop-at.at-iterator in let none = c.in-None.ensures.steps.0 in
    let place : char_indices_offset it ≡ length c.args.text.now = let whole = c.loop-at.invariant.2 in omega arith in
    tag_decided c.args.text.now (Some (length c.args.text.now)) c.utf8.text
    (misfit_end step ends (char_indices_rest it) none (c.loop-at.first, c.loop-at.some) (char_indices_offset it) _ c.loop-at.invariant.0
    ∙ ap (λ (b : Bool). cond b None (Some (char_indices_offset it))) c.if-some-2.false ∙ ap (λ (at : ℕ). Some at) place)

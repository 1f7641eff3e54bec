use Rattle.std.proofs.Common.{◌∙◌, ◌||◌, ap, sym}
use Rattle.http_heads.specs.Fields.{holds_item}
use Rattle.http_heads.proofs.FieldLemmas.{holds_first, holds_one}
use Rattle.http_heads.proofs.fields.has_item.Goals as goal

pub returns-then-is_word : goal.returns-then-is_word
returns-then-is_word c =
    sym (sym c.loop-item.invariant ∙ holds_first c.args.word.now c.loop-item.left.now c.in-Some.item.now c.in-Some.rest.now c.in-Some.ensures.some c.in-Some.ensures.first
    ∙ ap (λ b. b || holds_item c.args.word.now c.in-Some.rest.now) (sym c.is_word.ensures ∙ c.if-is_word.true))

pub loop-item-preserved : goal.loop-item-preserved
loop-item-preserved c =
    sym (sym c.loop-item.invariant ∙ holds_first c.args.word.now c.loop-item.left.now c.in-Some.item.now c.in-Some.rest.now c.in-Some.ensures.some c.in-Some.ensures.first
    ∙ ap (λ b. b || holds_item c.args.word.now c.in-Some.rest.now) (sym c.is_word.ensures ∙ c.if-is_word.false))

pub returns : goal.returns
returns c = c.is_word-2.ensures ∙ sym (holds_one c.args.word.now c.loop-item.left.now c.in_default.ensures.none) ∙ c.loop-item.invariant

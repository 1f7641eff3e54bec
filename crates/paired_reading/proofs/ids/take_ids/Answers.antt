use Rattle.std.proofs.Common.{inl, inr, refl, ap, sym, subst, ◌∙◌, ◌+◌, ◌≡◌, ◌++◌, ◌∷◌, [], List, length, get_or, None, Option, ℕ, arith, length-append}
use Rattle.std.specs.Option.{is_some}
use Rattle.delta_base.specs.declared.id.Id.{Id}
use Rattle.chain_core.specs.Ids.{version_among}
use Rattle.chain_core.specs.Links.{AllDiffer}
use Rattle.zone_state.proofs.Readings.{true_and_false}
use Rattle.paired_reading.proofs.Differing.{breaks_at, differ-push, take-next, none_of}
use Rattle.paired_reading.proofs.ids.take_ids.Goals as goal

pub returns-then-len-most-clause-breaks : goal.returns-then-len-most-clause-breaks
returns-then-len-most-clause-breaks c = λ same. breaks_at c.args.most c.args.found.now c.loop-id.ids.items c.loop-id.id-index _ (omega (arith, c.loop-id-test.true, c.loop-id.auto.id-index-end)) c.loop-id.invariant.0 c.loop-id.invariant.1 refl
    (inl (omega (arith, c.if-len-most.true, c.len.ensures.len)))

pub returns-then-is_some-clause-breaks : goal.returns-then-is_some-clause-breaks
returns-then-is_some-clause-breaks c = λ same. breaks_at c.args.most c.args.found.now c.loop-id.ids.items c.loop-id.id-index _ (omega (arith, c.loop-id-test.true, c.loop-id.auto.id-index-end)) c.loop-id.invariant.0 c.loop-id.invariant.1 refl
    (inr (λ none. true_and_false c.is_some.result c.if-is_some.true (c.is_some.ensures ∙ ap is_some (c.version_of.ensures ∙ none))))

pub loop-id-preserved : goal.loop-id-preserved
loop-id-preserved c =
    let old = c.loop-id.ids.items in
    let none : Id = record { 0 = 0 } in
    let id : Id = get_or c.args.found.now c.loop-id.id-index none in
    let more : c.push.new.self.items ≡ old ++ id ∷ [] = c.push.ensures.items ∙ ap (λ (is : List Id). is ++ id ∷ []) c.reserve.ensures.items in
    let new : version_among old id ≡ None = sym c.version_of.ensures ∙ none_of c.version_of.result (sym c.is_some.ensures ∙ c.if-is_some.false) in (
      more ∙ ap (λ (is : List Id). is ++ id ∷ []) c.loop-id.invariant.0 ∙ sym (take-next c.args.found.now c.loop-id.id-index id (omega (arith, c.loop-id-test.true, c.loop-id.auto.id-index-end)) refl),
      (subst AllDiffer (sym more) (differ-push old id c.loop-id.invariant.1.0 new), omega (arith, ap length more, length-append old (id ∷ []), c.if-len-most.false, c.len.ensures.len)),
    )

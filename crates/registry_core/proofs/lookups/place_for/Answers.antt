use Rattle.std.proofs.Common.{◌≡◌, true, sym, ◌∙◌, ap, arith, subst, length}
use Rattle.std.specs.Ordering.{nat_cmp, is_lt}
use Rattle.std.specs.Cmp.Lexicographic.{slice_cmp}
use Rattle.log_base.specs.declared.source_info.SourceInfo.{SourceInfo}
use Rattle.registry_core.specs.Sources.{is_before}
use Rattle.registry_core.proofs.Listing.{put_here}
use Rattle.registry_core.proofs.lookups.place_for.Goals as goal

pub returns-then-is_lt-clause-put : goal.returns-then-is_lt-clause-put
returns-then-is_lt-clause-put c =
    let source = c.args.source.now in
    let other = c.index-listed-place.result in
    let test : is_before source other ≡ true = sym (c.is_lt.ensures ∙ ap is_lt (c.cmp.ensures ∙ (λ i. slice_cmp nat_cmp (c.as_bytes.ensures.value i) (c.as_bytes-in-loop-place.ensures.value i)))) ∙ c.if-is_lt.true in
    put_here c.args.listed.now c.loop-place.place source other (omega arith) (λ k below. c.loop-place.invariant k other below) (λ inside. subst (λ (s : SourceInfo). is_before source s ≡ true) c.index-listed-place.is test)

pub returns-clause-put : goal.returns-clause-put
returns-clause-put c = put_here c.args.listed.now (length c.args.listed.now) c.args.source.now c.args.source.now (omega arith) (λ k below. c.loop-place.invariant k c.args.source.now (omega (arith, c.loop-place-test.false))) (λ inside. absurd (omega (arith, inside)))

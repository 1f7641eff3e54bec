use Rattle.std.proofs.Common.{ℕ, ◌+◌, ◌-◌, ◌≡◌, take, drop, nat_eq, sym, ap, ◌∙◌, arith, rules}
use Rattle.std.specs.List.{count_by}
use Rattle.std.proofs.lemmas.List.Sums.{sum_by-append}
use Rattle.std.proofs.Math.Seq.{take-add}
use Rattle.patch_reader.proofs.lines.feeds_in.Goals as goal

pub loop-at-preserved : goal.loop-at-preserved
loop-at-preserved c =
    let at = c.loop-at.at in let size = c.min-size.result in let bytes = c.args.bytes.now in
    let same : (at + size) - at ≡ size = omega arith in
    record {
      within = search rules;
      value =
          ap (λ (m : ℕ). m + c.feeds_in_block.result) c.loop-at.invariant.value
          ∙ ap (λ (m : ℕ). count_by (λ b. nat_eq b 10) (take at bytes) + m) c.feeds_in_block.ensures.value
          ∙ ap (λ (n : ℕ). count_by (λ b. nat_eq b 10) (take at bytes) + count_by (λ b. nat_eq b 10) (take n (drop at bytes))) same
          ∙ sym (ap (count_by (λ b. nat_eq b 10)) (take-add at size bytes) ∙ sum_by-append _ (take at bytes) (take size (drop at bytes)));
      few = search rules;
    }

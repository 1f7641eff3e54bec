use Rattle.std.proofs.Common.{rules, arith}
use Rattle.std.proofs.lemmas.List.Sorted.{answers_always}
use Rattle.line_order.proofs.Moving.{moved, moved_on, same_moved, run_moved, sorted_lines}
use Rattle.line_order.proofs.Rising.{run_joined}
use Rattle.std.proofs.lemmas.Bool.{and_parts}
use Rattle.line_order.proofs.presort.+presort.Goals as goal

pub returns-then-lines-lt-FEW-clause-moved : goal.returns-then-lines-lt-FEW-clause-moved
returns-then-lines-lt-FEW-clause-moved g t c = moved _ _ c.sort_unstable_by_key.ensures.permutation

pub returns-then-lines-lt-FEW-clause-rise : goal.returns-then-lines-lt-FEW-clause-rise
returns-then-lines-lt-FEW-clause-rise g t c = λ _. sorted_lines g.T.Ord.cmp _ (c.sort_unstable_by_key.ensures.sorted (λ k. k.line) (answers_always _ _ _ (λ f a r h k. search rules)))

pub loop-start-init : goal.loop-start-init
loop-start-init g t c = record {
  within = search rules;
  moved = same_moved _ _ _ c.write_keys.ensures (moved _ _ c.sort_unstable_by_key-2.ensures.permutation);
  rise = λ _ k d low within. absurd (omega arith);
}

pub loop-start-preserved : goal.loop-start-preserved
loop-start-preserved g t c = record {
  within = search rules;
  moved = moved_on _ _ _ c.loop-start.invariant.moved (run_moved _ _ _ _ c.presort-run_rises.ensures.moved);
  rise = λ yes.
      let all = and_parts _ _ yes in
      let both = and_parts _ _ all.0 in
      run_joined g.T.Ord.cmp c.loop-start.start c.run_end-end.result c.loop-start.lines _ (omega arith) (omega arith) (search rules) (c.loop-start.invariant.rise both.0) (c.presort-run_rises.ensures.rise both.1)
      (c.goes_on.ensures all.1);
}

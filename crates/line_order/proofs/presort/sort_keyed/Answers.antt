use Rattle.std.proofs.Common.{rules}
use Rattle.std.proofs.lemmas.List.Sorted.{answers_always}
use Rattle.line_order.proofs.Moving.{moved, moved_on, sorted_lines}
use Rattle.line_order.proofs.presort.sort_keyed.Goals as goal

pub returns-then-not-presort-clause-moved : goal.returns-then-not-presort-clause-moved
returns-then-not-presort-clause-moved g c = moved_on _ _ _ c.presort.ensures.moved (moved _ _ c.sort_unstable_by_key.ensures.permutation)

pub returns-then-not-presort-clause-sorted : goal.returns-then-not-presort-clause-sorted
returns-then-not-presort-clause-sorted g c = sorted_lines g.T.Ord.cmp _ (c.sort_unstable_by_key.ensures.sorted (λ k. k.line) (answers_always _ _ _ (λ f a r h k. search rules)))

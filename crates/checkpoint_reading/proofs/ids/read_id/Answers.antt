use Rattle.std.proofs.Common.{arith}
use Rattle.checkpoint_reading.proofs.ReadHere.{id_long, id_cut_at}
use Rattle.checkpoint_reading.proofs.ids.read_id.Goals as goal

pub returns-then-text-lt36-clause-none : goal.returns-then-text-lt36-clause-none
returns-then-text-lt36-clause-none c = λ id rest at. omega (arith, id_long c.args.text.now id rest at)

pub returns-in_default-clause-none : goal.returns-in_default-clause-none
returns-in_default-clause-none c = λ id rest at.
    c.in_default.ensures.none id at.is (id_cut_at c.args.text.now c.split_at.result.0.now c.split_at.result.1.now id rest c.split_at.ensures.front c.split_at.ensures.back at).0

pub returns-in_default-behind_feed-clause-none : goal.returns-in_default-behind_feed-clause-none
returns-in_default-behind_feed-clause-none c = λ id rest at.
    c.in_default-behind_feed.ensures.none rest (id_cut_at c.args.text.now c.split_at.result.0.now c.split_at.result.1.now id rest c.split_at.ensures.front c.split_at.ensures.back at).1

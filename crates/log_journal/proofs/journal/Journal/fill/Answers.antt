use Rattle.std.proofs.Common.{inl, ap, arith}
use Rattle.log_base.specs.Journals.{payloads_length}
use Rattle.disk_model.proofs.Moments.{starts}
use Rattle.log_journal.specs.Filling.{HoldsNoneOrAll}
use Rattle.log_journal.proofs.Frames.{count_within}
use Rattle.log_journal.proofs.journal.Journal.fill.Goals as goal

pub returns-then-self-length-clause-any_moment : goal.returns-then-self-length-clause-any_moment
returns-then-self-length-clause-any_moment g c number stands told =
    starts (HoldsNoneOrAll number c.args.payloads.now.items) (g.D.Disk.past c.args.self.now.disk) (λ image left. inl ((stands.1 told).each image left))

pub returns-then-is_empty-clause-any_moment : goal.returns-then-is_empty-clause-any_moment
returns-then-is_empty-clause-any_moment g c number stands told =
    starts (HoldsNoneOrAll number c.args.payloads.now.items) (g.D.Disk.past c.args.self.now.disk) (λ image left. inl ((stands.1 told).each image left))

pub invariant_of-self : goal.invariant_of-self
invariant_of-self g c = record {
  gate_within = λ told. omega (arith, c.in_err-fill_behind.ensures.no_shorter told, c.args.self.now.gate_within told);
  gate_behind = c.args.self.now.gate_behind;
  within_limit = c.args.self.now.within_limit;
}

pub invariant_of-self-2 : goal.invariant_of-self-2
invariant_of-self-2 g c = record {
  gate_within = λ told. omega (arith, c.in_ok-fill_behind.ensures.reaches told, c.filled_length-length.ensures, ap payloads_length c.as_slice.ensures, ap payloads_length c.as_slice-2.ensures);
  gate_behind = omega (arith, c.filled_length-length.ensures, ap payloads_length c.as_slice.ensures, count_within c.args.payloads.now.items, c.if-self-length.false, c.requires.bounded, c.len.ensures);
  within_limit = omega (arith, c.if-self-length.false);
}

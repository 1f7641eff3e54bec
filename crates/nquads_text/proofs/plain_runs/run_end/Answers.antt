use Rattle.std.proofs.Common.{◌+◌, sym, ◌∙◌, arith}
use Rattle.nquads_text.specs.Reading.{is_at_home}
use Rattle.nquads_text.proofs.PlainRuns.{run_joined, run_more}
use Rattle.nquads_text.proofs.plain_runs.run_end.Goals as goal

pub loop-run-preserved : goal.loop-run-preserved
loop-run-preserved c = record {
  low = omega arith;
  high = omega arith;
  home = run_joined (is_at_home c.args.table.now) c.args.text.now c.args.at c.loop-run.run (c.loop-run.run + 8) (omega arith) (omega arith) (omega arith) c.loop-run.invariant.home (c.are_at_home.ensures c.if-are_at_home.true);
}

pub loop-i-preserved : goal.loop-i-preserved
loop-i-preserved c =
    run_more (is_at_home c.args.table.now) c.args.text.now c.args.at c.loop-i.i (omega arith) (omega arith) c.loop-i.invariant (sym c.is_at_home.ensures ∙ c.if-not-is_at_home.false)

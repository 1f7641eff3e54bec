use Rattle.row_lines.proofs.Written.{predicate_written}
use Rattle.row_lines.proofs.terms.write_predicate.Goals as goal

pub returns : goal.returns
returns c = predicate_written c.args.text.now c.args.out.now.items c.push_predicate.new.out.items c.args.at c.in_ok-end.end c.in_ok-end.ensures (c.is_settled.ensures c.if-not-is_settled.false)

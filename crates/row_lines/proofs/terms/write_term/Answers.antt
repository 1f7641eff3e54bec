use Rattle.row_lines.proofs.Written.{made_anywhere, term_written}
use Rattle.row_lines.proofs.terms.write_term.Goals as goal

pub returns : goal.returns
returns c = term_written c.args.text.now c.args.out.now.items c.push_next_term.new.out.items c.args.at c.in_ok-end-2.end c.in_ok-end-2.ensures (c.is_settled.ensures c.if-not-is_settled.false)

pub returns-then-is_bracketed : goal.returns-then-is_bracketed
returns-then-is_bracketed c = made_anywhere c.args.text.now c.args.out.now.items c.write_made.new.out.items c.args.at c.in_ok-end.end c.in_ok-end.ensures

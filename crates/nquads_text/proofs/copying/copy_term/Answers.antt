use Rattle.nquads_text.proofs.Copied.{literal_is_term}
use Rattle.nquads_text.proofs.copying.copy_term.Goals as goal

pub returns-then-text-at-eq34 : goal.returns-then-text-at-eq34
returns-then-text-at-eq34 c = literal_is_term c.args.text.now c.args.out.now.items c.copy_literal.new.out.items c.args.at c.copy_literal.result c.if-at-text.true c.if-text-at-eq34.true c.copy_literal.ensures

use Rattle.std.proofs.Common.{drop, sym, ◌∙◌, arith}
use Rattle.nquads_text.proofs.KindsRead.{kind_read, kind_refused}
use Rattle.nquads_text.proofs.terms.kind_of.Goals as goal

pub returns-in-Ok : goal.returns-in-Ok
returns-in-Ok c = (
  kind_read (drop c.args.start c.args.text.now) c.args.iri (drop c.args.end c.args.text.now) c.in-Ok.kind (sym c.of_datatype.ensures ∙ c.in-Ok.is),
  omega arith,
)

pub returns-in-Err : goal.returns-in-Err
returns-in-Err c = (
  kind_refused (drop c.args.start c.args.text.now) c.args.iri (drop c.args.end c.args.text.now) _ (sym c.of_datatype.ensures ∙ c.in-Err.is),
  omega arith,
)

use Rattle.std.proofs.Common.{◌∙◌, ◌++◌, sym, ap, arith, List, ℕ}
use Rattle.std.specs.Prelude.{codes}
use Rattle.std.proofs.lemmas.Bool.Decides.{Decides-eqb}
use Rattle.std.proofs.lemmas.List.{take_rest}
use Rattle.std.proofs.lemmas.Slice.Eq.{starts_is}
use Rattle.http_heads.proofs.heads.after_version.Goals as goal

pub returns-then-starts_with : goal.returns-then-starts_with
returns-then-starts_with c = (
  1,
  omega arith,
  (starts_is Decides-eqb c.args.line.now (codes "HTTP/1.1 ") _ c.starts_with.ensures.value).0 c.if-starts_with.true ∙ ap (λ (t : List ℕ). codes "HTTP/1.1 " ++ t) (sym (take_rest c.args.line.now 9)),
)

pub returns-then-starts_with-2 : goal.returns-then-starts_with-2
returns-then-starts_with-2 c = (
  0,
  omega arith,
  (starts_is Decides-eqb c.args.line.now (codes "HTTP/1.0 ") _ c.starts_with-2.ensures.value).0 c.if-starts_with-2.true ∙ ap (λ (t : List ℕ). codes "HTTP/1.0 " ++ t) (sym (take_rest c.args.line.now 9)),
)

use Rattle.std.proofs.Common.{◌∙◌, sym, subst, arith}
use Rattle.std.proofs.lemmas.List.{take_all}
use Rattle.std.specs.Char.{is_ascii_hexdigit}
use Rattle.httparse.specs.Grammar.{AllPass}
use Rattle.http_messages.proofs.LineLemmas.{digits_more}
use Rattle.http_messages.proofs.line.split_digits.Goals as goal

pub loop-end-preserved : goal.loop-end-preserved
loop-end-preserved c = digits_more c.args.text.now c.loop-end.end c.loop-end-test.true c.loop-end.invariant (sym c.is_ascii_hexdigit.ensures.value ∙ c.if-not-is_ascii_hexdigit.false)

pub returns-clause-digits : goal.returns-clause-digits
returns-clause-digits c = subst (AllPass is_ascii_hexdigit) (take_all c.loop-end.end c.args.text.now (omega arith)) c.loop-end.invariant

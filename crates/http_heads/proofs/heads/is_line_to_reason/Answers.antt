use Rattle.std.proofs.Common.{◌∙◌, sym, ap, arith}
use Rattle.std.proofs.lemmas.List.{take_rest}
use Rattle.std.specs.List.{list_all}
use Rattle.httparse.specs.Grammar.{is_value_byte}
use Rattle.http_heads.proofs.HeadLemmas.{to_reason}
use Rattle.http_heads.proofs.heads.is_line_to_reason.Goals as goal

pub returns-then-are_digits : goal.returns-then-are_digits
returns-then-are_digits c = λ passes.
    let begins = c.in-Some.ensures in
    to_reason c.args.line.now c.in-Some.rest.now begins.0 begins.1 begins.2 (omega (arith, c.if-rest-lt4.false)) c.if-rest-ne32.false (sym c.are_digits.ensures ∙ c.if-are_digits.true)
    (ap (list_all is_value_byte) (sym (take_rest c.in-Some.rest.now 4)) ∙ sym c.are_value_bytes.ensures ∙ passes)

use Rattle.std.proofs.Common.{◌≡◌, Result, Ok, sym, ap, ◌∙◌, subst, true≢false}
use Rattle.std.specs.Prelude.{IsUtf8}
use Rattle.std.specs.Fmt.{decimal}
use Rattle.std.specs.Cmp.Lexicographic.{bytes_decides}
use Rattle.std.proofs.lemmas.Fmt.{parse-decimal, IsAscii-decimal}
use Rattle.std.proofs.lemmas.Str.{IsUtf8-from_ascii}
use Rattle.checkpoint_line.proofs.first.read_number.Goals as goal

ok_is : {X E : Type 0} (x y : X) (r : Result X E) → r ≡ Ok x → r ≡ Ok y → x ≡ y
ok_is x y r p q = cc

pub returns-in_default-clause-none : goal.returns-in_default-clause-none
returns-in_default-clause-none c = λ n small is.
    (c.in_default.ensures.cases.0) (subst IsUtf8 is (IsUtf8-from_ascii (decimal n) (IsAscii-decimal n small)))

pub returns-in_default-parse-clause-none : goal.returns-in_default-parse-clause-none
returns-in_default-parse-clause-none c = λ n small is.
    c.in_default-parse.not-Ok n (parse-decimal 64 n c.in-Ok.word.now c.parse.result small small (c.in-Ok.ensures.cases.0 ∙ sym is) c.parse.ensures.value.0)

pub returns-else-eq-clause-none : goal.returns-else-eq-clause-none
returns-else-eq-clause-none c = λ n small is.
    let read = parse-decimal 64 n c.in-Ok.word.now c.parse.result small small (c.in-Ok.ensures.cases.0 ∙ sym is) c.parse.ensures.value.0 in
    let same : c.in-Ok-parse.number ≡ n = ok_is c.in-Ok-parse.number n c.parse.result c.in-Ok-parse.is read in
    let text : c.as_bytes.result.now ≡ c.args.text.now = c.as_bytes.ensures.value ∙ c.format.ensures.text ∙ ap decimal same ∙ is in
    true≢false (sym ((bytes_decides c.as_bytes.result.now c.args.text.now).1 text) ∙ sym c.eq.ensures ∙ c.if-eq.false)

use Rattle.std.proofs.Common.{◌≡◌, ◌<◌, ◌≤◌, Result, Ok, sym, ap, ◌∙◌, ⊎_elim, true≢false, arith}
use Rattle.std.specs.Fmt.{decimal}
use Rattle.std.specs.Cmp.Lexicographic.{bytes_decides}
use Rattle.std.proofs.lemmas.Fmt.{parse-decimal}
use Rattle.command_tables.proofs.number.number_in.Goals as goal

ok_is : {X E : Type 0} (x y : X) (r : Result X E) → r ≡ Ok x → r ≡ Ok y → x ≡ y
ok_is x y r p q = cc

pub returns-in_default : goal.returns-in_default
returns-in_default c = λ n low high is.
    c.in_default.not-Ok n (parse-decimal 32 n c.args.word.now c.parse.result (omega (arith, high, c.ranges.high.fits)) (omega (arith, high, c.ranges.high.fits)) is c.parse.ensures.value.0)

pub returns-then-number-low : goal.returns-then-number-low
returns-then-number-low c = λ n low high is.
    let read = parse-decimal 32 n c.args.word.now c.parse.result (omega (arith, high, c.ranges.high.fits)) (omega (arith, high, c.ranges.high.fits)) is c.parse.ensures.value.0 in
    let same : c.in-Ok.number ≡ n = ok_is c.in-Ok.number n c.parse.result c.in-Ok.is read in
    ⊎_elim (λ (below : c.in-Ok.number < c.args.low). omega (arith, below, same, low)) (λ (above : (c.args.low ≤ c.in-Ok.number) × (c.args.high < c.in-Ok.number)). omega (arith, above.1, same, high)) c.then-number-low.either

pub returns : goal.returns
returns c = λ n low high is.
    let read = parse-decimal 32 n c.args.word.now c.parse.result (omega (arith, high, c.ranges.high.fits)) (omega (arith, high, c.ranges.high.fits)) is c.parse.ensures.value.0 in
    let same : c.in-Ok.number ≡ n = ok_is c.in-Ok.number n c.parse.result c.in-Ok.is read in
    let text : c.as_str.result.now ≡ c.args.word.now = c.as_str.ensures.value ∙ c.in_ok-text.ensures.ok ∙ ap decimal same ∙ sym is in
    true≢false (sym ((bytes_decides c.as_str.result.now c.args.word.now).1 text) ∙ sym c.if-eq.ensures)

use Rattle.std.proofs.Common.{◌≡◌, drop, true, false, get_or, sym, ◌∙◌, arith}
use Rattle.std.specs.String.{string_bytes}
use Rattle.std.proofs.lemmas.Result.{err_from_is_err_and}
use Rattle.nquads_text.specs.Reading.{char_at}
use Rattle.nquads_text.specs.Terms.{tag_at, is_tag_byte}
use Rattle.std.proofs.lemmas.Str.{encode_ascii}
use Rattle.nquads_text.proofs.TagSteps.{step_letter, step_dash, step_stops, step_bad, bad_behind, bad_char, letter_bytes}
use Rattle.std.proofs.Common.{subst}
use Rattle.rdf_terms.specs.Tag.{IsTag}
use Rattle.nquads_text.proofs.TagLaws.{read_is_tag}
use Rattle.nquads_text.proofs.tags.tag.Goals as goal
use Rattle.nquads_text.proofs.tags.tag.Goals.{then-is_tag_byte+in_ok-push, else-is_tag_byte+else-not-some+then-b-eq45+in_ok-push-2}

pub returns-in_err-char_at : goal.returns-in_err-char_at
returns-in_err-char_at c =
    let p = err_from_is_err_and c.from_residual-in_err-char_at.result c.from_residual-in_err-char_at.ensures.1 in
    let bad = step_bad c.loop-at.first c.loop-at.some (drop c.args.start c.args.text.now) c.args.text.now (string_bytes c.loop-at.out) c.loop-at.at (tag_at true false (drop c.args.start c.args.text.now) (drop c.args.from c.args.text.now))
    c.loop-at-test.true (sym c.is_tag_byte.ensures ∙ c.if-is_tag_byte.false) c.if-not-some.true c.loop-at.invariant.0 in
    rw (p.1, p.2) (bad_char c.args.text.now (drop c.args.start c.args.text.now) c.in_err-char_at.field-0.0 (char_at (drop c.loop-at.at c.args.text.now)) (tag_at true false (drop c.args.start c.args.text.now) (drop c.args.from c.args.text.now)) bad c.in_err-char_at.ensures.gives)

pub returns-then-not-some : goal.returns-then-not-some
returns-then-not-some c =
    let bad = step_bad c.loop-at.first c.loop-at.some (drop c.args.start c.args.text.now) c.args.text.now (string_bytes c.loop-at.out) c.loop-at.at (tag_at true false (drop c.args.start c.args.text.now) (drop c.args.from c.args.text.now))
    c.loop-at-test.true (sym c.is_tag_byte.ensures ∙ c.if-is_tag_byte.false) c.if-not-some.true c.loop-at.invariant.0 in
    (bad_behind (c.in_ok-char_at.field-0.0, drop c.in_ok-char_at.field-0.1 c.args.text.now) (drop c.args.start c.args.text.now) (char_at (drop c.loop-at.at c.args.text.now)) (tag_at true false (drop c.args.start c.args.text.now) (drop c.args.from c.args.text.now)) bad c.in_ok-char_at.ensures.gives.0, c.requires.begins)

pub returns-else-b-eq45 : goal.returns-else-b-eq45
returns-else-b-eq45 c =
    let e = step_stops c.loop-at.first c.loop-at.some (drop c.args.start c.args.text.now) c.args.text.now (string_bytes c.loop-at.out) c.loop-at.at (tag_at true false (drop c.args.start c.args.text.now) (drop c.args.from c.args.text.now))
    c.loop-at-test.true (sym c.is_tag_byte.ensures ∙ c.if-is_tag_byte.false) c.if-not-some.false c.if-b-eq45.false c.loop-at.invariant.0 in
    (rw (c.of_checked.ensures, c.from_string.ensures) e, c.loop-at.invariant.1)

pub loop-at-preserved : goal.loop-at-preserved
loop-at-preserved c =
    elim c.if-is_tag_byte.branch [
      | then-is_tag_byte+in_ok-push w ↦
          let named : is_tag_byte c.loop-at.first (get_or c.args.text.now c.loop-at.at 0) ≡ true = sym c.is_tag_byte.ensures ∙ w.if-is_tag_byte.true in (
            rw (w.out-is, w.first-is, w.in_ok-push.ensures.bytes, letter_bytes c.loop-at.first (get_or c.args.text.now c.loop-at.at 0) w.from.result named (w.from.ensures ∙ w.to_ascii_lowercase.ensures.value))
                (step_letter c.loop-at.first c.loop-at.some c.if-is_tag_byte.some (drop c.args.start c.args.text.now) c.args.text.now (string_bytes c.loop-at.out) c.loop-at.at (tag_at true false (drop c.args.start c.args.text.now) (drop c.args.from c.args.text.now))
                c.loop-at-test.true named w.some-is c.loop-at.invariant.0),
            omega arith,
          )
      | else-is_tag_byte+else-not-some+then-b-eq45+in_ok-push-2 w ↦ (
        rw (w.out-is, w.first-is, w.some-is, w.in_ok-push-2.ensures.bytes, encode_ascii 45 (omega arith))
            (step_dash c.loop-at.first c.loop-at.some (drop c.args.start c.args.text.now) c.args.text.now (string_bytes c.loop-at.out) c.loop-at.at (tag_at true false (drop c.args.start c.args.text.now) (drop c.args.from c.args.text.now))
            c.loop-at-test.true (sym c.is_tag_byte.ensures ∙ w.if-is_tag_byte.false) w.if-not-some.false w.if-b-eq45.true c.loop-at.invariant.0),
        omega arith,
      )
    ]

pub of_checked-requires : goal.of_checked-requires
of_checked-requires c =
    let e = step_stops c.loop-at.first c.loop-at.some (drop c.args.start c.args.text.now) c.args.text.now (string_bytes c.loop-at.out) c.loop-at.at (tag_at true false (drop c.args.start c.args.text.now) (drop c.args.from c.args.text.now))
    c.loop-at-test.true (sym c.is_tag_byte.ensures ∙ c.if-is_tag_byte.false) c.if-not-some.false c.if-b-eq45.false c.loop-at.invariant.0 in
    subst IsTag (sym c.from_string.ensures) (read_is_tag (drop c.args.start c.args.text.now) (drop c.args.from c.args.text.now) (string_bytes c.loop-at.out) (drop c.loop-at.at c.args.text.now) e)

use Rattle.std.proofs.Common.{◌≡◌, ◌<◌, ℕ, List, [], length, drop, sym, subst, ap, ◌∙◌, arith, length-drop, true≢false}
use Rattle.nquads_text.specs.Grammar.{TermAt}
use Rattle.pattern_words.specs.Words.{fits_position}
use Rattle.pattern_words.proofs.words.term_of.Goals as goal
use Rattle.pattern_words.proofs.words.term_of.Goals.{then-end-text-via-then-end-text, then-end-text-via-else-end-text+then-not-allows}

rest : (text : List ℕ) (end : ℕ) → drop end text ≡ [] → end < length text → ⊥
rest text end none more = omega (arith, length-drop end text, ap length none, more)

pub returns-then-end-text : goal.returns-then-end-text
returns-then-end-text c = λ x is.
    let answer = c.in-Ok.ensures.only x [] (subst (λ (text : List ℕ). TermAt text x []) (sym c.as_bytes-text.ensures.value) is.0) in
    elim c.then-end-text.branch [
      | then-end-text-via-then-end-text w ↦ rest c.as_bytes-text.result.now c.in-Ok.end answer.1 w.if-end-text.true
      | then-end-text-via-else-end-text+then-not-allows w ↦ true≢false (sym is.1 ∙ ap (fits_position c.args.position) (sym answer.0) ∙ sym w.allows.ensures ∙ w.if-not-allows.true)
    ]

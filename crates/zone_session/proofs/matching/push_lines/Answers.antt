use Rattle.std.proofs.Common.{◌≡◌, ◌+◌, ◌<◌, ℕ, List, [], ◌∷◌, ◌++◌, length, take, get_or, sym, ap, ◌∙◌, append_assoc, arith}
use Rattle.std.specs.List.{concat}
use Rattle.std.proofs.lemmas.List.{append-nil, take_more}
use Rattle.std.proofs.lemmas.List.Folds.{concat-append}
use Rattle.zone_session.proofs.matching.push_lines.Goals as goal

-- one more line behind those that were written
one_more : (out old new line : List ℕ) (lines : List (List ℕ)) (at : ℕ) → at < length lines → old ≡ out ++ concat (take at lines) → line ≡ get_or lines at [] → new ≡ old ++ line → new ≡ out ++ concat (take (at + 1) lines)
one_more out old new line lines at within before is now =
    let taken : concat (take (at + 1) lines) ≡ concat (take at lines) ++ get_or lines at [] =
    ap concat (take_more lines at [] within) ∙ concat-append (take at lines) (get_or lines at [] ∷ []) ∙ ap (λ (t : List ℕ). concat (take at lines) ++ t) (append-nil (get_or lines at [])) in
    now ∙ ap (λ (t : List ℕ). t ++ line) before ∙ append_assoc out (concat (take at lines)) line ∙ ap (λ (t : List ℕ). out ++ (concat (take at lines) ++ t)) is ∙ ap (λ (t : List ℕ). out ++ t) (sym taken)

pub loop-at-preserved : goal.loop-at-preserved
loop-at-preserved c =
    let within : c.loop-at.at < length c.args.lines.now = omega (arith, c.loop-at-test.true, c.len-at-end.ensures) in
    one_more c.args.out.now.items c.loop-at.out.items _ c.line.result.now c.args.lines.now c.loop-at.at within c.loop-at.invariant c.line.ensures c.in_ok-extend_from_slice.ensures.items

use Rattle.std.proofs.Common.{rules, List, ℕ, ◌≡◌, ◌++◌, codes, drop, refl, ap, ◌∙◌, arith}
use Rattle.row_scan.proofs.Scanned.{behind_word, id_there}
use Rattle.row_scan.proofs.row.id_row.Goals as goal

pub returns-in-Some : goal.returns-in-Some
returns-in-Some c =
    let front = c.in-Some.ensures.cases in
    let stands : drop c.args.at c.args.text.now ≡ codes "H id <uuid:" ++ c.in-Some.value.now =
    behind_word c.args.text.now c.args.at c.as_slice.result.now c.in-Some.value.now front.0 front.1 ∙ ap (λ (t : List ℕ). t ++ c.in-Some.value.now) c.as_slice.ensures in
    id_there c.args.text.now c.args.at (codes "id") c.in_ok-id.id c.in-Some.value.now stands c.requires c.in_ok-id.ensures (search rules) (refl, refl) (omega arith)

pub returns-in-Some-strip_prefix : goal.returns-in-Some-strip_prefix
returns-in-Some-strip_prefix c =
    let front = c.in-Some-strip_prefix.ensures.cases in
    let stands : drop c.args.at c.args.text.now ≡ codes "H prev <uuid:" ++ c.in-Some-strip_prefix.value.now =
    behind_word c.args.text.now c.args.at c.as_slice-2.result.now c.in-Some-strip_prefix.value.now front.0 front.1 ∙ ap (λ (t : List ℕ). t ++ c.in-Some-strip_prefix.value.now) c.as_slice-2.ensures in
    id_there c.args.text.now c.args.at (codes "prev") c.in_ok-id-2.id c.in-Some-strip_prefix.value.now stands c.requires c.in_ok-id-2.ensures (search rules) (refl, refl) (omega arith)

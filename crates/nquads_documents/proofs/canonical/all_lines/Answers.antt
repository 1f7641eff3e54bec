use Rattle.std.proofs.Common.{◌≡◌, ◌++◌, List, ℕ, map, sym, ap, subst, ◌∙◌}
use Rattle.nquads_documents.specs.Shown.{AreLinesOf, cut_lines, shown}
use Rattle.nquads_documents.proofs.canonical.all_lines.Goals as goal

pub returns : goal.returns
returns c =
    let has = c.in_ok-lines.ensures in
    let lent = map shown c.in_ok-lines.lines.items in
    let same : map shown c.add_printed.new.lines.items ≡ lent ++ cut_lines c.shown_lines.new.printed.items 0 c.in_ok-lines.ends.items =
    c.in_ok-add_printed.ensures
    ∙ ap (λ (bytes : List ℕ). lent ++ cut_lines bytes 0 c.as_slice-2.result.now) c.as_slice.ensures.value
    ∙ ap (λ (ends : List ℕ). lent ++ cut_lines c.shown_lines.new.printed.items 0 ends) c.as_slice-2.ensures.value in
    (has.0, has.1, subst (AreLinesOf has.0) (sym same) has.3)

use Rattle.std.proofs.Common.{◌≡◌, ◌∙◌, ℕ, List, Vec, Global, ap}
use Rattle.std.specs.List.{flat_map}
use Rattle.std.proofs.lemmas.List.Elements.{same_from_all_zip}
use Rattle.std.proofs.lemmas.List.Filters.{dedup_is}
use Rattle.nquads_documents.proofs.Sorting.{made_lines, made_canonical, same_shown}
use Rattle.nquads_documents.proofs.printing.canonical.Goals as goal

abbrev Line : Type 0
Line = Vec ℕ Global

abbrev bytes_of : Line → List ℕ
bytes_of l = l.items

-- the sort only moves the lines, and `dedup` keeps one of each
pub returns-in-Ok-clause-text : goal.returns-in-Ok-clause-text
returns-in-Ok-clause-text c =
    let sorted = c.sort.new.self.items in let kept = c.dedup.new.self.items in
    made_canonical bytes_of c.args.quads.now kept c.in-Ok.text.items
    (made_lines bytes_of c.args.quads.now c.in_ok-lines.lines.items sorted kept c.in_ok-lines.ensures.text c.sort.ensures.permutation c.in_ok-sort.ensures.sorted
    (dedup_is (same_shown bytes_of) sorted kept c.dedup.ensures.filtered))
    (same_from_all_zip (λ x y. y ≡ x) (flat_map bytes_of c.deref.result.now) c.in-Ok.text.items c.in-Ok.ensures.ok (λ x y same. same) ∙ ap (flat_map bytes_of) c.deref.ensures.value)

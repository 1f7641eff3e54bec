use Rattle.std.proofs.Common.{◌≡◌, ◌++◌, List, ℕ, Option, refl, sym, ap, ◌∙◌}
use Rattle.std.specs.Prelude.{codes}
use Rattle.std.proofs.lemmas.List.{append-nil}
use Rattle.std.proofs.lemmas.Result.{on_ok_weaker}
use Rattle.delta_base.specs.Ids.{text_of}
use Rattle.delta_base.specs.declared.id.Id.{Id}
use Rattle.printed_rows.proofs.Ids.{header_line}
use Rattle.printed_rows.specs.Printed.{id_header, printed_line, printed_lines}
use Rattle.patch_algebra.specs.Written.{prev_rows}
use Rattle.patch_algebra.proofs.writing.push_prev.Goals as goal

pub returns-in-Some-clause-text : goal.returns-in-Some-clause-text
returns-in-Some-clause-text c =
    on_ok_weaker c.push_header.result
    (λ (e : c.push_header.new.text.items ≡ c.args.text.now.items ++ (codes "H prev <uuid:" ++ (text_of c.in-Some.id.0 ++ codes "> .\n"))).
    e ∙ ap (λ (t : List ℕ). c.args.text.now.items ++ t)
    (header_line (codes "prev") (codes "H prev <uuid:") (text_of c.in-Some.id.0) refl ∙ sym (append-nil (printed_line (id_header (codes "prev") c.in-Some.id))) ∙ ap (λ (o : Option Id). printed_lines (prev_rows o)) (sym c.in-Some.is)))
    c.push_header.ensures.text

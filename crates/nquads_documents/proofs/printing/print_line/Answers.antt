use Rattle.std.proofs.Common.{ℕ, List, [], ◌∷◌, sym, ap, subst, ◌∙◌}
use Rattle.std.specs.Str.{IsUtf8}
use Rattle.std.specs.Global.{Vec}
use Rattle.nquads_documents.specs.Grammar.{IsDocument}
use Rattle.nquads_documents.proofs.Again.{line_again}
use Rattle.nquads_documents.proofs.Utf8Lines.{line_utf8}
use Rattle.nquads_documents.proofs.printing.print_line.Goals as goal

pub from_utf8_unchecked-requires : goal.from_utf8_unchecked-requires
from_utf8_unchecked-requires c = subst IsUtf8 (sym c.in_ok-line.ensures.text) (line_utf8 c.args.quad.now c.in_ok-line.ensures.value)

pub returns-clause-read_again : goal.returns-clause-read_again
returns-clause-read_again c =
    let q = c.args.quad.now in
    let same = c.from_string.ensures ∙ ap (λ (v : Vec ℕ). v.items) c.from_utf8_unchecked.ensures.value ∙ c.in_ok-line.ensures.text in
    subst (λ (text : List ℕ). IsDocument text (q ∷ [])) (sym same) (line_again q c.in_ok-line.ensures.value)

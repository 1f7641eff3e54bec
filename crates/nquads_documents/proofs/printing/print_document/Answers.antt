use Rattle.std.proofs.Common.{ℕ, List, sym, ap, subst, ◌∙◌}
use Rattle.std.specs.Global.{Vec}
use Rattle.std.specs.List.{All}
use Rattle.rdf_terms.specs.Quad.{Statement}
use Rattle.nquads_documents.specs.Canonical.{IsCanonical}
use Rattle.nquads_documents.specs.Laws.{IsQuadValue}
use Rattle.nquads_documents.proofs.Again.{document_again}
use Rattle.nquads_documents.proofs.Utf8Lines.{canonical_utf8}
use Rattle.nquads_documents.proofs.printing.print_document.Goals as goal

pub from_utf8_unchecked-requires : goal.from_utf8_unchecked-requires
from_utf8_unchecked-requires c = canonical_utf8 c.as_slice.result.now _ c.in_ok-lines.ensures.values c.in_ok-lines.ensures.text

text_is : goal.returns-clause-text
text_is c =
    let same = c.from_string.ensures ∙ ap (λ (v : Vec ℕ). v.items) c.from_utf8_unchecked.ensures.value in
    subst (IsCanonical c.args.quads.now.items) (sym same)
    (subst (λ (quads : List Statement). IsCanonical quads c.in_ok-lines.lines.items) c.as_slice.ensures c.in_ok-lines.ensures.text)

pub returns-clause-text : goal.returns-clause-text
returns-clause-text c = text_is c

pub returns-clause-read_again : goal.returns-clause-read_again
returns-clause-read_again c = document_again c.args.quads.now.items _ (subst (All IsQuadValue) c.as_slice.ensures c.in_ok-lines.ensures.values) (text_is c)

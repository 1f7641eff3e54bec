-- What is printed is read again.
use Rattle.std.proofs.Common.{ℕ, List, [], ◌∷◌}
use Rattle.std.specs.List.{All}
use Rattle.rdf_terms.specs.Quad.{Statement}
use Rattle.rdf_terms.specs.Line.{line}
use Rattle.nquads_documents.specs.Canonical.{IsCanonical}
use Rattle.nquads_documents.specs.Grammar.{IsDocument}
use Rattle.nquads_documents.specs.Laws.{IsQuadValue, IsDocumentOf}
use Rattle.nquads_documents.proofs.CanonicalLaws.{canonical_read}
use Rattle.nquads_documents.proofs.DocumentLaws.{documents_found, line_is_document}
use Rattle.nquads_documents.proofs.TermsRead.{terms_found, terms_again}

pub line_again : (q : Statement) → IsQuadValue q → IsDocument (line q) (q ∷ [])
line_again = line_is_document terms_found terms_again

pub document_again : (quads : List Statement) (text : List ℕ) → All IsQuadValue quads → IsCanonical quads text → IsDocumentOf quads text
document_again quads text values canonical =
    let again = canonical_read quads text values canonical in
    (again.0, documents_found terms_found terms_again text again.0 again.1, again.2)

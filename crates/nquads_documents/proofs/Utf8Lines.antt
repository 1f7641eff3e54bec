-- Lines are text in UTF-8.
use Rattle.std.proofs.Common.{ℕ, List, [], ◌∷◌, refl, sym, subst, arith}
use Rattle.std.specs.List.{All, Contains, flat_map}
use Rattle.std.proofs.lemmas.List.Elements.{All-contains}
use Rattle.std.specs.Str.{IsUtf8}
use Rattle.std.proofs.lemmas.Str.{IsUtf8-append, IsUtf8-nil}
use Rattle.rdf_terms.specs.Quad.{Statement}
use Rattle.rdf_terms.specs.Line.{term_text, graph_text, line}
use Rattle.nquads_text.proofs.Utf8Terms.{behind, between, graph_utf8, term_utf8}
use Rattle.nquads_documents.specs.Canonical.{IsCanonical}
use Rattle.nquads_documents.specs.Laws.{IsQuadValue}
use Rattle.nquads_documents.proofs.CanonicalLaws.{from_map, later}

pub line_utf8 : (q : Statement) → IsQuadValue q → IsUtf8 (line q)
unfolding line
line_utf8 q is =
    let stop : IsUtf8 (32 ∷ 46 ∷ 10 ∷ []) = behind 32 _ (omega arith) (between 46 10 [] (omega arith) (omega arith) IsUtf8-nil) in
    IsUtf8-append (term_text q.subject) _ (term_utf8 q.subject is.1.0)
    (behind 32 _ (omega arith)
    (IsUtf8-append (term_text q.predicate) _ (term_utf8 q.predicate is.1.1)
    (behind 32 _ (omega arith) (IsUtf8-append (term_text q.object) _ (term_utf8 q.object is.1.2) (IsUtf8-append (graph_text q.graph) _ (graph_utf8 q.graph is.1.3) stop)))))

joined_utf8 : (lines : List (List ℕ)) → ((l : List ℕ) → Contains lines l → IsUtf8 l) → IsUtf8 (flat_map (λ l. l) lines)
joined_utf8 [] each = IsUtf8-nil
joined_utf8 (l ∷ lines) each = IsUtf8-append l _ (each l (0, omega arith, refl)) (joined_utf8 lines (λ m has. each m (later l lines m has)))

pub canonical_utf8 : (quads : List Statement) (text : List ℕ) → All IsQuadValue quads → IsCanonical quads text → IsUtf8 text
canonical_utf8 quads text values canonical =
    subst IsUtf8 (sym canonical.joined)
    (joined_utf8 canonical.lines
    (λ l has.
    let q = from_map line quads l ((canonical.are.same l).0 has) in
    subst IsUtf8 q.2 (line_utf8 q.0 (All-contains IsQuadValue quads q.0 values q.1))))

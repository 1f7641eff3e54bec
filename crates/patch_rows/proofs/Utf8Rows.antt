-- The text of a row is in UTF-8.
use Rattle.std.proofs.Common.{ℕ, ◌<◌, List, [], ◌∷◌, ◌++◌, arith}
use Rattle.std.specs.Str.{IsUtf8}
use Rattle.std.proofs.lemmas.Str.{IsUtf8-append, IsUtf8-nil}
use Rattle.rdf_terms.specs.declared.change.Change.{Change}
use Rattle.rdf_terms.specs.declared.change.Change.TheVariants as change
use Rattle.rdf_terms.specs.Quad.{Statement}
use Rattle.rdf_terms.specs.Line.{iri_text, quoted, term_text, graph_text}
use Rattle.nquads_text.specs.Printing.{HasTermValues}
use Rattle.nquads_text.proofs.Utf8Terms.{behind, between, graph_utf8, one, quoted_utf8, term_utf8}
use Rattle.patch_rows.specs.declared.codes.Code.{Code}
use Rattle.patch_rows.specs.declared.codes.Code.TheVariants as code
use Rattle.patch_rows.specs.declared.row.Row.{Row}
use Rattle.patch_rows.specs.declared.row.Row.TheVariants as row
use Rattle.patch_rows.specs.Grammar.{letters, code_of}
use Rattle.patch_rows.specs.Printing.{quad_text, change_text, parts_text, row_text, IsChangeValue, IsRowValue}

two : (a b : ℕ) → a < 128 → b < 128 → IsUtf8 (a ∷ b ∷ [])
two a b low low' = behind a (b ∷ []) low (one b low')

letters_utf8 : (c : Code) → IsUtf8 (letters c)
letters_utf8 code.Header = one 72 (omega arith)
letters_utf8 code.Begin = two 84 88 (omega arith) (omega arith)
letters_utf8 code.Commit = two 84 67 (omega arith) (omega arith)
letters_utf8 code.Abort = two 84 65 (omega arith) (omega arith)
letters_utf8 code.PrefixAdd = two 80 65 (omega arith) (omega arith)
letters_utf8 code.PrefixDelete = two 80 68 (omega arith) (omega arith)
letters_utf8 code.Add = one 65 (omega arith)
letters_utf8 code.Delete = one 68 (omega arith)

-- behind a space
spaced : (text : List ℕ) → IsUtf8 text → IsUtf8 (32 ∷ text)
spaced text is = behind 32 text (omega arith) is

quad_utf8 : (q : Statement) → HasTermValues q → IsUtf8 (quad_text q)
quad_utf8 q is =
    spaced _ (IsUtf8-append (term_text q.subject) _ (term_utf8 q.subject is.0)
    (spaced _ (IsUtf8-append (term_text q.predicate) _ (term_utf8 q.predicate is.1)
    (spaced _ (IsUtf8-append (term_text q.object) (graph_text q.graph) (term_utf8 q.object is.2) (graph_utf8 q.graph is.3))))))

change_utf8 : (c : Change) → IsChangeValue c → IsUtf8 (change_text c)
change_utf8 (change.Add q) is = quad_utf8 q is
change_utf8 (change.Delete q) is = quad_utf8 q is
change_utf8 (change.PrefixAdd prefix iri graph) is =
    spaced _ (IsUtf8-append (quoted prefix) _ (quoted_utf8 prefix is.0)
    (spaced _ (IsUtf8-append (iri_text iri) (graph_text graph) (between 60 62 iri (omega arith) (omega arith) is.1) (graph_utf8 graph is.3))))
change_utf8 (change.PrefixDelete prefix graph) is = spaced _ (IsUtf8-append (quoted prefix) (graph_text graph) (quoted_utf8 prefix is.0) (graph_utf8 graph is.1))
change_utf8 change.Begin is = IsUtf8-nil
change_utf8 change.Commit is = IsUtf8-nil
change_utf8 change.Abort is = IsUtf8-nil

parts_utf8 : (r : Row) → IsRowValue r → IsUtf8 (parts_text r)
parts_utf8 (row.Header key value) is = spaced _ (IsUtf8-append key _ is.0 (spaced _ (term_utf8 value is.1)))
parts_utf8 (row.Change c) is = change_utf8 c is

pub row_utf8 : (r : Row) → IsRowValue r → IsUtf8 (row_text r ++ 10 ∷ [])
unfolding row_text
row_utf8 r is =
    IsUtf8-append (letters (code_of r) ++ (parts_text r ++ 32 ∷ 46 ∷ [])) (10 ∷ [])
    (IsUtf8-append (letters (code_of r)) _ (letters_utf8 (code_of r)) (IsUtf8-append (parts_text r) _ (parts_utf8 r is) (two 32 46 (omega arith) (omega arith))))
    (one 10 (omega arith))

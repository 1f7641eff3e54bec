-- Rows and lines have bytes.
use Rattle.std.proofs.Common.{◌≡◌, ℕ, List, [], ◌++◌, refl}
use Rattle.std.specs.Cmp.Lexicographic.{slice_cmp}
use Rattle.std.specs.Ordering.{nat_cmp}
use Rattle.std.specs.declared.cmp.Ordering.TheVariants.{Less}
use Rattle.rdf_terms.specs.declared.term.Term.{Term}
use Rattle.rdf_terms.specs.declared.term.Term.TheVariants as term
use Rattle.rdf_terms.specs.Line.{line, term_text}
use Rattle.rdf_terms.specs.Quad.{Statement}
use Rattle.patch_rows.specs.Printing.{row_text}
use Rattle.checkpoint_text.specs.Text.{Setting, setting_line}

term_shown : (t : Term) (rest : List ℕ) → slice_cmp nat_cmp [] (term_text t ++ rest) ≡ Less
term_shown (term.Iri iri) rest = refl
term_shown (term.Blank label) rest = refl
term_shown (term.Literal literal) rest = refl

pub line_shown : (q : Statement) → slice_cmp nat_cmp [] (line q) ≡ Less
unfolding line
line_shown q = term_shown q.subject _

pub setting_shown : (s : Setting) → slice_cmp nat_cmp [] (setting_line s) ≡ Less
unfolding row_text
setting_shown s = refl

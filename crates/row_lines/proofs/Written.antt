-- The line of a quad is written while its row is read.
use Rattle.std.proofs.Common.{◌≡◌, ℕ, ◌≤◌, Bool, true, false, not, if◌then◌else◌, List, [], ◌∷◌, ◌++◌, length, drop, Option, Some, None, Ok, Err, refl, sym, ap, ◌∙◌, append_assoc, append-nil}
use Rattle.rdf_terms.specs.declared.term.Term.{Term}
use Rattle.rdf_terms.specs.Line.{graph_text, term_text}
use Rattle.rdf_terms.specs.Quad.{is_iri, statement}
use Rattle.nquads_text.specs.declared.fault.TextKind.TheVariants.{BadPosition, MissingDot}
use Rattle.nquads_text.specs.Fault.{Pushes}
use Rattle.nquads_text.specs.Faults.{begins_term}
use Rattle.nquads_text.specs.Statement.{node_at, predicate_at}
use Rattle.nquads_text.specs.Terms.{term_at}
use Rattle.nquads_documents.proofs.StatementLaws.{node_found, predicate_found}
use Rattle.nquads_documents.proofs.TermsRead.{terms_found, terms_again}
use Rattle.patch_rows.specs.declared.cut.TextEnd.TheVariants.{Open}
use Rattle.patch_rows.specs.declared.fault.RowKind.TheVariants.{Common}
use Rattle.patch_rows.specs.Fault.{Read, ◌>>=◌}
use Rattle.patch_rows.specs.Grammar.{Space, is_any, is_node}
use Rattle.patch_rows.specs.Reading.{dot_at, skip_space, stands}
use Rattle.patch_rows.specs.Rows.{graph_or_dot_of, placed_of, quad_of, term_of, unless_open}
use Rattle.patch_rows.proofs.SpaceLaws.{skipped}
use Rattle.row_lines.specs.Written.{SettlesTerm, WritesRead}
use Rattle.row_lines.proofs.Settled.{placed_there}

-- ---- terms

abbrev HasPushed : List ℕ → List ℕ → List ℕ → ℕ → Read Term → Type 0
HasPushed text old new end read = WritesRead term_text text old new (Ok end) read

pub term_written : (text old new : List ℕ) (at end : ℕ) → Pushes term_text text old new (Ok end) (term_at (drop at text)) → SettlesTerm (drop end text) → HasPushed text old new end (placed_of Open is_any (drop at text))
term_written text old new at end p s = (p.0, placed_there is_any (drop at text) p.0 (drop end text) (terms_found (drop at text) (drop end text) p.0 p.1) refl s, p.2, p.3)

pub node_written : (text old new : List ℕ) (at end : ℕ) → Pushes term_text text old new (Ok end) (node_at (drop at text)) → SettlesTerm (drop end text) → HasPushed text old new end (placed_of Open is_node (drop at text))
node_written text old new at end p s =
    let found = node_found terms_found terms_again (drop at text) (p.0, drop end text) p.1 in
    (p.0, placed_there is_node (drop at text) p.0 (drop end text) found.0 (ap not found.1) s, p.2, p.3)

pub predicate_written : (text old new : List ℕ) (at end : ℕ) → Pushes term_text text old new (Ok end) (predicate_at (drop at text)) → SettlesTerm (drop end text) → HasPushed text old new end (placed_of Open is_iri (drop at text))
predicate_written text old new at end p s =
    let found = predicate_found terms_found terms_again (drop at text) (p.0, drop end text) p.1 in
    (p.0, placed_there is_iri (drop at text) p.0 (drop end text) found.0 found.1 s, p.2, p.3)

-- what may stand where an IRI or a blank node is wanted may stand anywhere
node_anywhere : (rest : List ℕ) (x : Term × List ℕ) → placed_of Open is_node rest ≡ Ok x → placed_of Open is_any rest ≡ Ok x
unfolding placed_of
node_anywhere rest x e = by (term_of Open rest) e
  where
    fit : (fits : Bool) (r : Read Term) → (if fits then r else Err (Common BadPosition, rest)) ≡ Ok x → r ≡ Ok x
    fit true r e = e
    fit false r e = cc

    by : (r : Read Term) → (r >>= λ t. if is_node t.0 then unless_open Open rest t.0 t.1 else Err (Common BadPosition, rest)) ≡ Ok x
        → (r >>= λ t. unless_open Open rest t.0 t.1) ≡ Ok x
    by (Ok t) e = fit (is_node t.0) (unless_open Open rest t.0 t.1) e
    by (Err f) e = cc

pub made_anywhere : (text old new : List ℕ) (at end : ℕ) → HasPushed text old new end (placed_of Open is_node (drop at text)) → HasPushed text old new end (placed_of Open is_any (drop at text))
made_anywhere text old new at end p = (p.0, node_anywhere (drop at text) (p.0, drop end text) p.1, p.2, p.3)

-- ---- graphs

pub graph_none : (text rest old : List ℕ) (next : ℕ) → stands begins_term rest ≡ false → dot_at (Common MissingDot) rest ≡ Ok (drop next text) → next ≤ length text
    → WritesRead graph_text text old old (Ok next) (graph_or_dot_of Open rest)
unfolding graph_or_dot_of
graph_none text rest old next none dot within = (None, rw (none, dot) refl, within, sym (append-nil old))

pub graph_some : (text rest old new : List ℕ) (end next : ℕ) (dot : List ℕ) → stands begins_term rest ≡ true → HasPushed text (old ++ 32 ∷ []) new end (placed_of Open is_node rest) → dot ≡ skip_space (drop end text)
    → dot_at (Common MissingDot) dot ≡ Ok (drop next text) → next ≤ length text → WritesRead graph_text text old new (Ok next) (graph_or_dot_of Open rest)
unfolding graph_or_dot_of
graph_some text rest old new end next dot begun p skips e within = (Some p.0, rw (begun, p.1, sym skips, e) refl, within, p.3 ∙ append_assoc old (32 ∷ []) (term_text p.0))

-- ---- quads

pub quad_there : (rest first second third fourth s_end p_end o_end after : List ℕ) (s p o : Term) (g : Option Term) → first ≡ skip_space rest → placed_of Open is_node first ≡ Ok (s, s_end)
    → second ≡ skip_space s_end → placed_of Open is_iri second ≡ Ok (p, p_end) → third ≡ skip_space p_end → placed_of Open is_any third ≡ Ok (o, o_end)
    → fourth ≡ skip_space o_end → graph_or_dot_of Open fourth ≡ Ok (g, after) → quad_of Open rest ≡ Ok (statement s p o g, after)
unfolding quad_of
quad_there rest first second third fourth s_end p_end o_end after s p o g to_first subject to_second predicate to_third object to_fourth graph =
    rw (sym to_first, subject, sym to_second, predicate, sym to_third, object, sym to_fourth, graph) refl

-- what `skip_space` of the code skips
pub space_skipped : (rest behind : List ℕ) → ((after : List ℕ) → Space rest after → behind ≡ after) → behind ≡ skip_space rest
space_skipped rest behind only = only (skip_space rest) (skipped rest)

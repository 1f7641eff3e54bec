-- Lines in a text, from their parts.
use Rattle.std.proofs.Common.{◌≡◌, ℕ, ◌+◌, ◌<◌, ◌≤◌, not, true, List, ◌∷◌, [], length, get_or, Option, Some, None, refl, ap, subst, arith}
use Rattle.std.proofs.lemmas.List.{length-append}
use Rattle.rdf_terms.specs.Line.{line, term_text, graph_text, quoted, kind_text}
use Rattle.rdf_terms.specs.Quad.{Statement, statement, is_iri}
use Rattle.rdf_terms.specs.declared.term.Term.{Term}
use Rattle.rdf_terms.specs.declared.term.Term.TheVariants as term
use Rattle.canonical_scan.specs.declared.line.LinePlaces.{LinePlaces}
use Rattle.canonical_scan.specs.declared.term.TermPlaces.{TermPlaces}
use Rattle.canonical_scan.specs.Found.{IsTermThere, HasNode, HasIri, HasPlaces, IsLineThere, HasLine}
use Rattle.canonical_scan.specs.Parts.{Stands, HasGraph, HasNodeText, HasIriText, HasObject, IsTermText, IsNodeText, IsGraphText}
use Rattle.canonical_scan.specs.Places.{ArePlaces}
use Rattle.canonical_scan.proofs.Places.{behind_byte, stands_joined, stands_nothing, stands_size, slice_stands}

term_stands : (text : List ℕ) (at end : ℕ) (t : Term) → IsTermThere text at end t → Stands (term_text t) text at end
term_stands text at end t s = record { is = s.stands; low = omega (arith, s.further); high = s.within }

pub space_there : (text : List ℕ) (at end : ℕ) → at < length text → end ≡ at + 1 → get_or text at 0 ≡ 32 → Stands (32 ∷ []) text at end
space_there text at end lt e is = behind_byte 32 [] text at end end lt e is (stands_nothing text end (omega arith))

pub dot_there : (text : List ℕ) (at dot feed end : ℕ) → feed < length text → dot ≡ at + 1 → feed ≡ dot + 1 → end ≡ feed + 1 → get_or text at 0 ≡ 32 → get_or text dot 0 ≡ 46 → get_or text feed 0 ≡ 10
    → Stands (32 ∷ 46 ∷ 10 ∷ []) text at end
dot_there text at dot feed end lt a b d first second third =
    behind_byte 32 (46 ∷ 10 ∷ []) text at dot end (omega arith) a first
    (behind_byte 46 (10 ∷ []) text dot feed end (omega arith) b second (behind_byte 10 [] text feed end end lt d third (stands_nothing text end (omega arith))))

pub no_graph_there : (text : List ℕ) (at : ℕ) → at ≤ length text → HasGraph text at at
no_graph_there text at le = (None, (tt, refl, stands_nothing text at le))

pub graph_there : (text : List ℕ) (at graph end : ℕ) → Stands (32 ∷ []) text at graph → HasNode text graph end → HasGraph text at end
graph_there text at graph end space node =
    let t : Term = node.0 in
    (Some t, (node.1.value, ap not node.2, stands_joined (32 ∷ []) (term_text t) text at graph end space (term_stands text graph end t node.1)))

-- ---- what is found of a term, whatever follows it

pub node_found : (text : List ℕ) (at end : ℕ) → HasNode text at end → HasNodeText text at end
node_found text at end node = (node.0, ((node.1.value, term_stands text at end node.0 node.1), node.2))

iri_found : (text : List ℕ) (at end : ℕ) (t : Term) → IsTermThere text at end t → is_iri t ≡ true → HasIriText text at end
iri_found text at end (term.Iri iri) there is = (iri, (there.value, term_stands text at end (term.Iri iri) there))
iri_found text at end (term.Blank label) there is = absurd cc
iri_found text at end (term.Literal literal) there is = absurd cc

object_found : (text : List ℕ) (at : ℕ) (string : Option ℕ) (end : ℕ) → HasObject text at string end → (t : Term) × IsTermText text at end t
object_found text at None end node = (node.0, node.1.0)
object_found text at (Some string) end (s, k) =
    (term.Literal (record { lexical = s.0; kind = k.0 }), ((s.1, k.1.0), stands_joined (quoted s.0) (kind_text k.0) text at string end s.2 k.1.1))

pub node_places : (text : List ℕ) (at end : ℕ) → HasNode text at end → HasPlaces text at (record { string = None; end = end })
node_places text at end node = ((node.0, node.1), node_found text at end node)

-- ---- lines

-- a space is one byte
behind_space : (text : List ℕ) (at end : ℕ) (Behind : ℕ → Type 0) → Stands (32 ∷ []) text at end → Behind end → Stands (32 ∷ []) text at (at + 1) × Behind (at + 1)
behind_space text at end Behind space behind =
    let e : end ≡ at + 1 = omega (arith, stands_size (32 ∷ []) text at end space) in
    (subst (Stands (32 ∷ []) text at) e space, subst Behind e behind)

pub places_there : (text : List ℕ) (at subject second predicate third : ℕ) (object : TermPlaces) (graph end : ℕ) → HasNode text at subject → Stands (32 ∷ []) text subject second → HasIri text second predicate
    → Stands (32 ∷ []) text predicate third → HasPlaces text third object → HasGraph text object.end graph → Stands (32 ∷ 46 ∷ 10 ∷ []) text graph end
    → ArePlaces text at (record { subject = subject; predicate = predicate; string = object.string; object = object.end; graph = graph; end = end })
places_there text at subject second predicate third object graph end s one p two o g dot =
    let first = behind_space text subject second (λ k. HasIriText text k predicate) one (iri_found text second predicate p.0 p.1 p.2) in
    let next = behind_space text predicate third (λ k. HasObject text k object.string object.end) two o.1 in
    record {
      subject = node_found text at subject s;
      second = first.0;
      predicate = first.1;
      third = next.0;
      object = next.1;
      graph = g;
      dot = dot;
    }

-- terms that stand in their places make the line's quad
pub line_of : (text : List ℕ) (at : ℕ) (p : LinePlaces) (subject object : Term) (iri : List ℕ) (graph : Option Term) → ArePlaces text at p → IsNodeText text at p.subject subject
    → IsTermText text (p.subject + 1) p.predicate (term.Iri iri) → IsTermText text (p.predicate + 1) p.object object → IsGraphText text p.object p.graph graph
    → IsLineThere text at p.end (statement subject (term.Iri iri) object graph)
unfolding line
line_of text at p subject object iri graph there s i o g = record {
  quads = rw (s.1, g.1) refl;
  values = (s.0.0, i.0, o.0, g.0);
  stands = whole.is;
  bytes = slice_stands (line quad) text at p.end whole;
  further = omega (arith, stands_size (line quad) text at p.end whole, size);
  within = whole.high;
}
  where
    quad : Statement
    quad = statement subject (term.Iri iri) object graph

    size : 0 < length (line quad)
    size = simp length-append (omega arith)

    whole : Stands (line quad) text at p.end
    whole =
        stands_joined (term_text subject) _ text at p.subject p.end s.0.1
        (stands_joined (32 ∷ []) _ text p.subject (p.subject + 1) p.end there.second
        (stands_joined (term_text (term.Iri iri)) _ text (p.subject + 1) p.predicate p.end i.1
        (stands_joined (32 ∷ []) _ text p.predicate (p.predicate + 1) p.end there.third
        (stands_joined (term_text object) _ text (p.predicate + 1) p.object p.end o.1
        (stands_joined (graph_text graph) (32 ∷ 46 ∷ 10 ∷ []) text p.object p.graph p.end g.2 there.dot)))))

pub line_there : (text : List ℕ) (at : ℕ) (p : LinePlaces) → ArePlaces text at p → HasLine text at p.end
line_there text at p there =
    let s = there.subject in let i = there.predicate in let g = there.graph in
    let o = object_found text (p.predicate + 1) p.string p.object there.object in
    (statement s.0 (term.Iri i.0) o.0 g.0, line_of text at p s.0 o.0 i.0 g.0 there s.1 i.1 o.1 g.1)

-- Quads are told apart by their lines, and prefixes by their rows.
use Rattle.std.proofs.Common.{◌≡◌, ℕ, false, List, [], ◌∷◌, ◌++◌, get_or, nat_eq, Option, Some, None, Ok, refl, sym, ap, ◌∙◌, append_assoc, append-nil}
use mathlib.Core.Bool.{true≢false}
use Rattle.std.proofs.lemmas.Bool.{eq-eqb}
use Rattle.std.specs.List.Sorted.{IsStrictlySortedBy}
use Rattle.std.specs.declared.cmp.Ordering.{Ordering}
use Rattle.std.specs.declared.cmp.Ordering.TheVariants.{Equal}
use Rattle.std.proofs.lemmas.Map.Lookups.{exact_bytes}
use Rattle.rdf_terms.specs.Dataset.{Dataset, PrefixKey, prefix_cmp, apply, empty, kept}
use Rattle.rdf_terms.specs.Line.{line, line_cmp, quoted, term_text, graph_text}
use Rattle.rdf_terms.specs.Quad.{Statement}
use Rattle.rdf_terms.specs.declared.term.LiteralKind.TheVariants.{Plain}
use Rattle.rdf_terms.specs.declared.term.Term.{Term}
use Rattle.rdf_terms.specs.declared.term.Term.TheVariants as term
use Rattle.rdf_terms.specs.declared.change.Change.{Change}
use Rattle.nquads_text.specs.Fault.{TextRead}
use Rattle.nquads_text.specs.Printing.{IsTermValue, IsGraphValue, EndsTerm}
use Rattle.nquads_text.specs.Terms.{term_at}
use Rattle.nquads_text.proofs.Printed.{printed, space_ends}
use Rattle.nquads_text.proofs.TermReads.{term_is_read}
use Rattle.nquads_documents.specs.Laws.{IsQuadValue}
use Rattle.nquads_documents.proofs.LineLaws.{lines_apart}
use Rattle.net_changes.specs.Net.{net_in, inverse_in, in_block}
use Rattle.net_changes.specs.Laws.{NetsAreTheSame, NetsAreFewest, InversesUndo, EmptyIsValue, ChangesKeepValues}
use Rattle.net_changes.specs.Values.{IsInOrder, IsDatasetValue, IsNamedValue, IsPrefixValue}
use Rattle.net_changes.proofs.Datasets.{in_order_behind, such_behind}
use Rattle.net_changes.proofs.Nets.{all_kept, net_same, net_fewest, inverse_undoes}

pub quads_told : (p q : Statement) → IsQuadValue p → IsQuadValue q → line_cmp p q ≡ Equal → p ≡ q
quads_told p q v w e = lines_apart p q [] v w (append-nil (line p) ∙ exact_bytes (line p) (line q) e)

-- ---- a prefix as a term, with its graph behind it

abbrev plain : PrefixKey → Term
plain key = term.Literal (record { lexical = key.1; kind = Plain })

-- a graph, and what ends a row
abbrev behind : Option Term → List ℕ
behind g = graph_text g ++ 32 ∷ 46 ∷ []

ends : (t : Term) (g : Option Term) → EndsTerm t (behind g)
ends t None = space_ends t 46 [] refl refl
ends t (Some (term.Iri iri)) = space_ends t 60 _ refl refl
ends t (Some (term.Blank label)) = space_ends t 95 _ refl refl
ends t (Some (term.Literal literal)) = space_ends t 34 _ refl refl

read : (t : Term) (g : Option Term) → IsTermValue t → term_at (term_text t ++ behind g) ≡ Ok (t, behind g)
read t g v = term_is_read (term_text t ++ behind g) t (behind g) (printed t (behind g) v (ends t g))

ok_same : (a b : Term × List ℕ) → ◌≡◌ {A = TextRead Term} (Ok a) (Ok b) → a ≡ b
ok_same a b e = cc

terms_told : (s t : Term) (g h : Option Term) → IsTermValue s → IsTermValue t → term_text s ++ behind g ≡ term_text t ++ behind h → ◌≡◌ {A = Term × List ℕ} (s, behind g) (t, behind h)
terms_told s t g h v w e = ok_same (s, behind g) (t, behind h) (sym (read s g v) ∙ ap term_at e ∙ read t h w)

second : {a b : List ℕ} → a ≡ b → get_or a 1 0 ≡ get_or b 1 0
second e = ap (λ (l : List ℕ). get_or l 1 0) e

apart : (a b : ℕ) → nat_eq a b ≡ false → a ≡ b → ⊥
apart a b n e = true≢false (sym (eq-eqb a b e) ∙ n)

graphs_told : (g h : Option Term) → IsGraphValue g → IsGraphValue h → behind g ≡ behind h → g ≡ h
graphs_told None None v w e = refl
graphs_told None (Some (term.Iri iri)) v w e = absurd (apart 46 60 refl (second e))
graphs_told None (Some (term.Blank label)) v w e = absurd (apart 46 95 refl (second e))
graphs_told None (Some (term.Literal literal)) v w e = absurd (apart 46 34 refl (second e))
graphs_told (Some (term.Iri iri)) None v w e = absurd (apart 60 46 refl (second e))
graphs_told (Some (term.Blank label)) None v w e = absurd (apart 95 46 refl (second e))
graphs_told (Some (term.Literal literal)) None v w e = absurd (apart 34 46 refl (second e))
graphs_told (Some g) (Some h) v w e =
    let rest : term_text g ++ behind None ≡ term_text h ++ behind None = cc in
    ap (λ (x : Term × List ℕ). Some x.0) (terms_told g h None None v w rest)

string_of : Term → List ℕ
string_of (term.Iri iri) = iri
string_of (term.Blank label) = label
string_of (term.Literal literal) = literal.lexical

shape : (key : PrefixKey) → term_text (plain key) ++ behind key.0 ≡ (quoted key.1 ++ graph_text key.0) ++ 32 ∷ 46 ∷ []
shape key =
    ap (λ (t : List ℕ). t ++ behind key.0) (append-nil (quoted key.1)) ∙ sym (append_assoc (quoted key.1) (graph_text key.0) (32 ∷ 46 ∷ []))

pub prefixes_told : (p q : PrefixKey) → IsPrefixValue p → IsPrefixValue q → prefix_cmp p q ≡ Equal → p ≡ q
unfolding string_of
prefixes_told p q v w e =
    let bytes = exact_bytes (quoted p.1 ++ graph_text p.0) (quoted q.1 ++ graph_text q.0) e in
    let text = shape p ∙ ap (λ (t : List ℕ). t ++ 32 ∷ 46 ∷ []) bytes ∙ sym (shape q) in
    let both = terms_told (plain p) (plain q) p.0 q.0 (v.prefix_is, tt) (w.prefix_is, tt) text in
    let prefix : p.1 ≡ q.1 = ap (λ (x : Term × List ℕ). string_of x.0) both in
    let graph = graphs_told p.0 q.0 v.graph_is w.graph_is (ap (λ (x : Term × List ℕ). x.1) both) in
    ap (λ (g : Option Term). (g, p.1)) graph ∙ ap (λ (t : List ℕ). (q.0, t)) prefix

-- ---- the laws of values

pub nets_same : NetsAreTheSame
nets_same cmp d changes v n = net_same cmp d IsQuadValue IsPrefixValue quads_told prefixes_told v.order v.values changes n

pub nets_fewest : NetsAreFewest
nets_fewest cmp d changes others v same = net_fewest cmp d v.order changes others same

pub inverses_undo : InversesUndo
inverses_undo cmp d changes v n = inverse_undoes cmp d IsQuadValue IsPrefixValue quads_told prefixes_told v.order v.values changes n

none_rise : {K : Type 0} (c : K → K → Ordering) → IsStrictlySortedBy c []
unfolding IsStrictlySortedBy
none_rise c = tt

pub empty_value : EmptyIsValue
empty_value = record {
  order = record { quads_rise = none_rise line_cmp; prefixes_rise = none_rise prefix_cmp };
  values = record { quads_are = tt; prefixes_are = tt };
}

pub changes_keep : ChangesKeepValues
changes_keep d changes v n = record {
  order = in_order_behind (kept changes) d v.order;
  values = such_behind IsQuadValue IsPrefixValue (kept changes) d (all_kept IsNamedValue changes n) v.values;
}

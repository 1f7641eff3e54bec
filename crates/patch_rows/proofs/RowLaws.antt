-- A row is read exactly where the grammar has one, and the fault that is met is exactly the first one.
use Rattle.std.proofs.Common.{◌≡◌, ℕ, Bool, true, false, List, ◌∷◌, Option, Some, None, refl, sym, ap, subst, ◌∙◌, ◌⊎◌, inl, inr, ⊎_elim}
use Rattle.std.proofs.lemmas.Bool.{false≢true}
use Rattle.rdf_terms.specs.declared.term.Term.{Term}
use Rattle.rdf_terms.specs.declared.change.Change.{Change}
use Rattle.rdf_terms.specs.declared.change.Change.TheVariants as change
use Rattle.rdf_terms.specs.Quad.{Statement, statement, is_iri}
use Rattle.nquads_text.specs.declared.fault.TextKind.TheVariants.{MissingDot, BadToken}
use Rattle.nquads_text.specs.Grammar.{StartsWith}
use Rattle.nquads_text.specs.Faults.{begins_term}
use Rattle.patch_rows.specs.declared.codes.Code.{Code}
use Rattle.patch_rows.specs.declared.codes.Code.TheVariants as code
use Rattle.patch_rows.specs.declared.fault.RowKind.TheVariants.{Common}
use Rattle.patch_rows.specs.declared.row.Row.{Row}
use Rattle.patch_rows.specs.declared.row.Row.TheVariants as row
use Rattle.patch_rows.specs.Fault.{Fault}
use Rattle.patch_rows.specs.Grammar.{Space, Spaced, KeyAt, Placed, is_any, is_node, PrefixAt, PrefixIriAt, EndAt, GraphAt, QuadAt, code_of_change, code_of, PartsAt}
use Rattle.patch_rows.specs.Faults.{SpacedFault, KeyFault, PlacedFault, PrefixFault, PrefixIriFault, NoDot, EndFault, GraphFault, HeaderFault, QuadFault, AddedFault, RemovedFault, PartsFault}
use Rattle.patch_rows.specs.Reading.{stands, skip_space, key_at}
use Rattle.patch_rows.specs.declared.cut.TextEnd.TheVariants.{Known}
use Rattle.patch_rows.specs.Rows.{placed_of, prefix_of, prefix_iri_of, graph_or_dot_of, graph_of, header_of, quad_of, added_of, removed_of, parts_of, bare_at}
use Rattle.patch_rows.proofs.Exact.{Exact, exact_ok, restated, chained, choice}
use Rattle.patch_rows.proofs.SpaceLaws.{exact_behind}
use Rattle.patch_rows.proofs.TermLaws.{starts, started}
use Rattle.patch_rows.proofs.PartLaws.{exact_placed, exact_dot, exact_end}
use Rattle.patch_rows.proofs.RunLaws.{exact_key}
use Rattle.patch_rows.proofs.PrefixLaws.{exact_prefix, exact_prefix_iri, term_begins}

-- ---- parts behind white space and comments

spaced_key : (text : List ℕ) → Exact (key_at (skip_space text)) (λ x. Spaced KeyAt text x.0 x.1) (λ f. SpacedFault KeyFault text f)
spaced_key text = exact_behind key_at (λ from x. KeyAt from x.0 x.1) (λ from f. KeyFault from f) text (exact_key (skip_space text))

spaced_term : (fits : Term → Bool) (text : List ℕ) → Exact (placed_of Known fits (skip_space text)) (λ x. Spaced (Placed fits) text x.0 x.1) (λ f. SpacedFault (PlacedFault fits) text f)
spaced_term fits text = exact_behind (placed_of Known fits) (λ from x. Placed fits from x.0 x.1) (λ from f. PlacedFault fits from f) text (exact_placed fits (skip_space text))

spaced_prefix : (text : List ℕ) → Exact (prefix_of Known (skip_space text)) (λ x. Spaced PrefixAt text x.0 x.1) (λ f. SpacedFault PrefixFault text f)
spaced_prefix text = exact_behind (prefix_of Known) (λ from x. PrefixAt from x.0 x.1) (λ from f. PrefixFault from f) text (exact_prefix (skip_space text))

spaced_iri : (text : List ℕ) → Exact (prefix_iri_of Known (skip_space text)) (λ x. Spaced PrefixIriAt text x.0 x.1) (λ f. SpacedFault PrefixIriFault text f)
spaced_iri text = exact_behind (prefix_iri_of Known) (λ from x. PrefixIriAt from x.0 x.1) (λ from f. PrefixIriFault from f) text (exact_prefix_iri (skip_space text))

-- ---- graphs

abbrev graph_and : Option Term → List ℕ → Option Term × List ℕ
graph_and g after = (g, after)

abbrev SomeGraph : List ℕ → Option Term × List ℕ → Type 0
SomeGraph from x = (g : Term × List ℕ) × Placed is_node from g.0 g.1 × ((after : List ℕ) × EndAt g.1 after × (x ≡ graph_and (Some g.0) after))

abbrev NoGraph : List ℕ → Option Term × List ℕ → Type 0
NoGraph from x = (after : List ℕ) × (from ≡ 46 ∷ after) × (x ≡ graph_and None after)

abbrev GraphHere : List ℕ → Option Term × List ℕ → Type 0
GraphHere from x = ((stands begins_term from ≡ true) × SomeGraph from x) ⊎ ((stands begins_term from ≡ false) × NoGraph from x)

abbrev GraphFaultHere : List ℕ → Fault → Type 0
GraphFaultHere from f = ((stands begins_term from ≡ true) × (PlacedFault is_node from f ⊎ ((g : Term × List ℕ) × Placed is_node from g.0 g.1 × (EndFault (Common MissingDot) g.1 f ⊎ ((after : List ℕ) × EndAt g.1 after × ⊥)))))
    ⊎ ((stands begins_term from ≡ false) × (NoDot (Common MissingDot) from f ⊎ ((after : List ℕ) × (from ≡ 46 ∷ after) × ⊥)))

exact_graph_here : (from : List ℕ) → Exact (graph_or_dot_of Known from) (λ x. GraphHere from x) (λ f. GraphFaultHere from f)
unfolding graph_or_dot_of
exact_graph_here from =
    choice (stands begins_term from)
    (λ some. chained (exact_placed is_node from) (λ g. chained (exact_end (Common MissingDot) g.1) (λ after. exact_ok (graph_and (Some g.0) after))))
    (λ none. chained (exact_dot (Common MissingDot) from) (λ after. exact_ok (graph_and None after)))

graph_found : (text : List ℕ) (x : Option Term × List ℕ) → (from : List ℕ) × Space text from × GraphHere from x → GraphAt text x.0 x.1
graph_found text x t =
    ⊎_elim
    (λ some.
    let g = some.1 in
    subst (λ (v : Option Term × List ℕ). GraphAt text v.0 v.1) (sym g.2.2) (g.0.1, (t.0, t.1, g.1), g.2.1))
    (λ none. let d = none.1 in subst (λ (v : Option Term × List ℕ). GraphAt text v.0 v.1) (sym d.2) (t.0, t.1, d.1))
    t.2

graph_parts : (text : List ℕ) (g : Option Term) (after : List ℕ) → GraphAt text g after → (from : List ℕ) × Space text from × GraphHere from (graph_and g after)
graph_parts text None after t = (t.0, t.1, inr (ap (stands begins_term) t.2, (after, t.2, refl)))
graph_parts text (Some g) after t =
    let s = t.1 in (s.0, s.1, inl (term_begins s.0 g t.0 s.2.0, ((g, t.0), s.2, (after, t.2, refl))))

graph_fault : (text : List ℕ) (f : Fault) → (from : List ℕ) × Space text from × GraphFaultHere from f → GraphFault text f
graph_fault text f t =
    ⊎_elim
    (λ some.
    ⊎_elim
    (λ bad. GraphFault.graph t.0 t.1 (starts begins_term t.0 some.0) bad)
    (λ g. ⊎_elim (λ bad. GraphFault.end g.0.0 g.0.1 (t.0, t.1, g.1) bad) (λ none. absurd none.2) g.2)
    some.1)
    (λ none. ⊎_elim (λ bad. GraphFault.none t.0 t.1 (λ s. false≢true (sym none.0 ∙ started begins_term t.0 s)) bad) (λ nothing. absurd nothing.2) none.1)
    t.2

not_started : (text : List ℕ) (b : Bool) → stands begins_term text ≡ b → (StartsWith begins_term text → ⊥) → stands begins_term text ≡ false
not_started text true e none = absurd (none (starts begins_term text e))
not_started text false e none = e

graph_fault_parts : (text : List ℕ) (f : Fault) → GraphFault text f → (from : List ℕ) × Space text from × GraphFaultHere from f
graph_fault_parts text f (GraphFault.graph from s begins bad) = (from, s, inl (started begins_term from begins, inl bad))
graph_fault_parts text f (GraphFault.end g behind is bad) = (is.0, is.1, inl (term_begins is.0 g behind is.2.0, inr ((g, behind), is.2, inl bad)))
graph_fault_parts text f (GraphFault.none from s begins bad) = (from, s, inr (not_started from (stands begins_term from) refl begins, inl bad))

exact_graph : (text : List ℕ) → Exact (graph_of Known text) (λ x. GraphAt text x.0 x.1) (λ f. GraphFault text f)
exact_graph text =
    restated (exact_behind (graph_or_dot_of Known) (λ from x. GraphHere from x) (λ from f. GraphFaultHere from f) text (exact_graph_here (skip_space text)))
    (λ x t. graph_found text x t)
    (λ x t. graph_parts text x.0 x.1 t)
    (λ f t. graph_fault text f t)
    (λ f t. graph_fault_parts text f t)

-- ---- the parts of rows, by their codes

abbrev row_and : Row → List ℕ → Row × List ℕ
row_and r after = (r, after)

-- what stands behind a code
abbrev RowFor : Code → List ℕ → Row × List ℕ → Type 0
RowFor c text y = (code_of y.0 ≡ c) × PartsAt text y.0 y.1

abbrev HeaderShape : List ℕ → Row × List ℕ → Type 0
HeaderShape text y = (k : List ℕ × List ℕ) × Spaced KeyAt text k.0 k.1
    × ((v : Term × List ℕ) × Spaced (Placed is_any) k.1 v.0 v.1 × ((after : List ℕ) × EndAt v.1 after × (y ≡ row_and (row.Header k.0 v.0) after)))

change_is_no_header : (c : Change) → code_of_change c ≡ code.Header → ⊥
change_is_no_header change.Begin e = absurd cc
change_is_no_header change.Commit e = absurd cc
change_is_no_header change.Abort e = absurd cc
change_is_no_header (change.Add q) e = absurd cc
change_is_no_header (change.Delete q) e = absurd cc
change_is_no_header (change.PrefixAdd prefix iri graph) e = absurd cc
change_is_no_header (change.PrefixDelete prefix graph) e = absurd cc

header_parts : (text : List ℕ) (r : Row) (after : List ℕ) → code_of r ≡ code.Header → PartsAt text r after → HeaderShape text (row_and r after)
header_parts text (row.Header key value) after e p = ((key, p.0), p.2, ((value, p.1), p.3, (after, p.4, refl)))
header_parts text (row.Change c) after e p = absurd (change_is_no_header c e)

abbrev HeaderFaultShape : List ℕ → Fault → Type 0
HeaderFaultShape text f = SpacedFault KeyFault text f ⊎ ((k : List ℕ × List ℕ) × Spaced KeyAt text k.0 k.1
    × (SpacedFault (PlacedFault is_any) k.1 f ⊎ ((v : Term × List ℕ) × Spaced (Placed is_any) k.1 v.0 v.1 × (EndFault (Common MissingDot) v.1 f ⊎ ((after : List ℕ) × EndAt v.1 after × ⊥)))))

header_fault : (text : List ℕ) (f : Fault) → HeaderFaultShape text f → HeaderFault text f
header_fault text f (inl bad) = HeaderFault.key bad
header_fault text f (inr (k, is, inl bad)) = HeaderFault.value k.0 k.1 is bad
header_fault text f (inr (k, is, inr (v, there, inl bad))) = HeaderFault.end k.0 k.1 v.0 v.1 is there bad
header_fault text f (inr (k, is, inr (v, there, inr none))) = absurd none.2

header_fault_shape : (text : List ℕ) (f : Fault) → HeaderFault text f → HeaderFaultShape text f
header_fault_shape text f (HeaderFault.key bad) = inl bad
header_fault_shape text f (HeaderFault.value key k is bad) = inr ((key, k), is, inl bad)
header_fault_shape text f (HeaderFault.end key k t v is there bad) = inr ((key, k), is, inr ((t, v), there, inl bad))

exact_header : (text : List ℕ) → Exact (header_of Known text) (RowFor code.Header text) (λ f. HeaderFault text f)
unfolding header_of
exact_header text =
    restated
    (chained (spaced_key text) (λ k. chained (spaced_term is_any k.1) (λ v. chained (exact_end (Common MissingDot) v.1) (λ after. exact_ok (row_and (row.Header k.0 v.0) after)))))
    (λ y t. let v = t.2 in let e = v.2 in subst (λ (z : Row × List ℕ). RowFor code.Header text z) (sym e.2) (refl, (t.0.1, v.0.1, t.1, v.1, e.1)))
    (λ y p. header_parts text y.0 y.1 p.0 p.1)
    (λ f t. header_fault text f t)
    (λ f t. header_fault_shape text f t)

exact_bare : (c : Change) (text : List ℕ) → Exact (bare_at c text) (λ y. (y.0 ≡ row.Change c) × EndAt text y.1) (λ f. EndFault (Common BadToken) text f)
unfolding bare_at
exact_bare c text =
    restated (chained (exact_end (Common BadToken) text) (λ after. exact_ok (row_and (row.Change c) after)))
    (λ y t. (ap (λ (z : Row × List ℕ). z.0) t.2, subst (λ (s : List ℕ). EndAt text s) (ap (λ (z : Row × List ℕ). z.1) (sym t.2)) t.1))
    (λ y p. (y.1, p.1, ap (λ (r : Row). row_and r y.1) p.0))
    (λ f t. ⊎_elim (λ bad. bad) (λ none. absurd none.2) t)
    (λ f t. inl t)

begin_parts : (text : List ℕ) (r : Row) (after : List ℕ) → code_of r ≡ code.Begin → PartsAt text r after → (r ≡ row.Change change.Begin) × EndAt text after
begin_parts text (row.Change change.Begin) after e p = (refl, p)
begin_parts text r after e p = absurd cc

commit_parts : (text : List ℕ) (r : Row) (after : List ℕ) → code_of r ≡ code.Commit → PartsAt text r after → (r ≡ row.Change change.Commit) × EndAt text after
commit_parts text (row.Change change.Commit) after e p = (refl, p)
commit_parts text r after e p = absurd cc

abort_parts : (text : List ℕ) (r : Row) (after : List ℕ) → code_of r ≡ code.Abort → PartsAt text r after → (r ≡ row.Change change.Abort) × EndAt text after
abort_parts text (row.Change change.Abort) after e p = (refl, p)
abort_parts text r after e p = absurd cc

bare_of : (text : List ℕ) (r : Row) (after : List ℕ) (c : Change) (k : Code) → RowFor k text (row_and (row.Change c) after) → r ≡ row.Change c → RowFor k text (row_and r after)
bare_of text r after c k p e = subst (λ (s : Row). RowFor k text (row_and s after)) (sym e) p

-- ---- quads

abbrev quad_and : Statement → List ℕ → Statement × List ℕ
quad_and q after = (q, after)

abbrev QuadShape : List ℕ → Statement × List ℕ → Type 0
QuadShape text y = (s : Term × List ℕ) × Spaced (Placed is_node) text s.0 s.1 × ((p : Term × List ℕ) × Spaced (Placed is_iri) s.1 p.0 p.1
    × ((o : Term × List ℕ) × Spaced (Placed is_any) p.1 o.0 o.1 × ((g : Option Term × List ℕ) × GraphAt o.1 g.0 g.1 × (y ≡ quad_and (statement s.0 p.0 o.0 g.0) g.1))))

abbrev QuadFaultShape : List ℕ → Fault → Type 0
QuadFaultShape text f = SpacedFault (PlacedFault is_node) text f ⊎ ((s : Term × List ℕ) × Spaced (Placed is_node) text s.0 s.1
    × (SpacedFault (PlacedFault is_iri) s.1 f ⊎ ((p : Term × List ℕ) × Spaced (Placed is_iri) s.1 p.0 p.1
    × (SpacedFault (PlacedFault is_any) p.1 f ⊎ ((o : Term × List ℕ) × Spaced (Placed is_any) p.1 o.0 o.1 × (GraphFault o.1 f ⊎ ((g : Option Term × List ℕ) × GraphAt o.1 g.0 g.1 × ⊥)))))))

quad_fault : (text : List ℕ) (f : Fault) → QuadFaultShape text f → QuadFault text f
quad_fault text f (inl bad) = QuadFault.subject bad
quad_fault text f (inr (s, a, inl bad)) = QuadFault.predicate s.0 s.1 a bad
quad_fault text f (inr (s, a, inr (p, b, inl bad))) = QuadFault.object s.0 p.0 s.1 p.1 a b bad
quad_fault text f (inr (s, a, inr (p, b, inr (o, d, inl bad)))) = QuadFault.graph s.0 p.0 o.0 s.1 p.1 o.1 a b d bad
quad_fault text f (inr (s, a, inr (p, b, inr (o, d, inr none)))) = absurd none.2

quad_fault_shape : (text : List ℕ) (f : Fault) → QuadFault text f → QuadFaultShape text f
quad_fault_shape text f (QuadFault.subject bad) = inl bad
quad_fault_shape text f (QuadFault.predicate s b x bad) = inr ((s, b), x, inl bad)
quad_fault_shape text f (QuadFault.object s p b d x y bad) = inr ((s, b), x, inr ((p, d), y, inl bad))
quad_fault_shape text f (QuadFault.graph s p o b d e x y z bad) = inr ((s, b), x, inr ((p, d), y, inr ((o, e), z, inl bad)))

exact_quad : (text : List ℕ) → Exact (quad_of Known text) (λ x. QuadAt text x.0 x.1) (λ f. QuadFault text f)
unfolding quad_of
exact_quad text =
    restated
    (chained (spaced_term is_node text) (λ s. chained (spaced_term is_iri s.1) (λ p. chained (spaced_term is_any p.1)
    (λ o. chained (exact_graph o.1) (λ g. exact_ok (quad_and (statement s.0 p.0 o.0 g.0) g.1))))))
    (λ y t.
    let p = t.2 in let o = p.2 in let g = o.2 in
    subst (λ (z : Statement × List ℕ). QuadAt text z.0 z.1) (sym g.2) (t.0.1, p.0.1, o.0.1, t.1, p.1, o.1, g.1))
    (λ y q. let s = y.0 in ((s.subject, q.0), q.3, ((s.predicate, q.1), q.4, ((s.object, q.2), q.5, ((s.graph, y.1), q.6, refl)))))
    (λ f t. quad_fault text f t)
    (λ f t. quad_fault_shape text f t)

abbrev NoMoreFault : List ℕ → Fault → Type 0
NoMoreFault text f = QuadFault text f ⊎ ((q : Statement × List ℕ) × QuadAt text q.0 q.1 × ⊥)

add_parts : (text : List ℕ) (r : Row) (after : List ℕ) → code_of r ≡ code.Add → PartsAt text r after → (q : Statement × List ℕ) × QuadAt text q.0 q.1 × (row_and r after ≡ row_and (row.Change (change.Add q.0)) q.1)
add_parts text (row.Change (change.Add q)) after e p = ((q, after), p, refl)
add_parts text r after e p = absurd cc

delete_parts : (text : List ℕ) (r : Row) (after : List ℕ) → code_of r ≡ code.Delete → PartsAt text r after → (q : Statement × List ℕ) × QuadAt text q.0 q.1 × (row_and r after ≡ row_and (row.Change (change.Delete q.0)) q.1)
delete_parts text (row.Change (change.Delete q)) after e p = ((q, after), p, refl)
delete_parts text r after e p = absurd cc

-- ---- prefixes

abbrev AddedShape : List ℕ → Row × List ℕ → Type 0
AddedShape text y = (p : List ℕ × List ℕ) × Spaced PrefixAt text p.0 p.1 × ((i : List ℕ × List ℕ) × Spaced PrefixIriAt p.1 i.0 i.1
    × ((g : Option Term × List ℕ) × GraphAt i.1 g.0 g.1 × (y ≡ row_and (row.Change (change.PrefixAdd p.0 i.0 g.0)) g.1)))

abbrev AddedFaultShape : List ℕ → Fault → Type 0
AddedFaultShape text f = SpacedFault PrefixFault text f ⊎ ((p : List ℕ × List ℕ) × Spaced PrefixAt text p.0 p.1
    × (SpacedFault PrefixIriFault p.1 f ⊎ ((i : List ℕ × List ℕ) × Spaced PrefixIriAt p.1 i.0 i.1 × (GraphFault i.1 f ⊎ ((g : Option Term × List ℕ) × GraphAt i.1 g.0 g.1 × ⊥)))))

added_fault : (text : List ℕ) (f : Fault) → AddedFaultShape text f → AddedFault text f
added_fault text f (inl bad) = AddedFault.prefix bad
added_fault text f (inr (p, a, inl bad)) = AddedFault.iri p.0 p.1 a bad
added_fault text f (inr (p, a, inr (i, b, inl bad))) = AddedFault.graph p.0 p.1 i.0 i.1 a b bad
added_fault text f (inr (p, a, inr (i, b, inr none))) = absurd none.2

added_fault_shape : (text : List ℕ) (f : Fault) → AddedFault text f → AddedFaultShape text f
added_fault_shape text f (AddedFault.prefix bad) = inl bad
added_fault_shape text f (AddedFault.iri prefix p a bad) = inr ((prefix, p), a, inl bad)
added_fault_shape text f (AddedFault.graph prefix p iri i a b bad) = inr ((prefix, p), a, inr ((iri, i), b, inl bad))

added_parts : (text : List ℕ) (r : Row) (after : List ℕ) → code_of r ≡ code.PrefixAdd → PartsAt text r after → AddedShape text (row_and r after)
added_parts text (row.Change (change.PrefixAdd prefix iri graph)) after e p = ((prefix, p.0), p.2, ((iri, p.1), p.3, ((graph, after), p.4, refl)))
added_parts text r after e p = absurd cc

exact_added : (text : List ℕ) → Exact (added_of Known text) (RowFor code.PrefixAdd text) (λ f. AddedFault text f)
unfolding added_of
exact_added text =
    restated
    (chained (spaced_prefix text) (λ p. chained (spaced_iri p.1) (λ i. chained (exact_graph i.1) (λ g. exact_ok (row_and (row.Change (change.PrefixAdd p.0 i.0 g.0)) g.1)))))
    (λ y t. let i = t.2 in let g = i.2 in subst (λ (z : Row × List ℕ). RowFor code.PrefixAdd text z) (sym g.2) (refl, (t.0.1, i.0.1, t.1, i.1, g.1)))
    (λ y p. added_parts text y.0 y.1 p.0 p.1)
    (λ f t. added_fault text f t)
    (λ f t. added_fault_shape text f t)

abbrev RemovedShape : List ℕ → Row × List ℕ → Type 0
RemovedShape text y = (p : List ℕ × List ℕ) × Spaced PrefixAt text p.0 p.1 × ((g : Option Term × List ℕ) × GraphAt p.1 g.0 g.1 × (y ≡ row_and (row.Change (change.PrefixDelete p.0 g.0)) g.1))

abbrev RemovedFaultShape : List ℕ → Fault → Type 0
RemovedFaultShape text f = SpacedFault PrefixFault text f ⊎ ((p : List ℕ × List ℕ) × Spaced PrefixAt text p.0 p.1 × (GraphFault p.1 f ⊎ ((g : Option Term × List ℕ) × GraphAt p.1 g.0 g.1 × ⊥)))

removed_fault : (text : List ℕ) (f : Fault) → RemovedFaultShape text f → RemovedFault text f
removed_fault text f (inl bad) = RemovedFault.prefix bad
removed_fault text f (inr (p, a, inl bad)) = RemovedFault.graph p.0 p.1 a bad
removed_fault text f (inr (p, a, inr none)) = absurd none.2

removed_fault_shape : (text : List ℕ) (f : Fault) → RemovedFault text f → RemovedFaultShape text f
removed_fault_shape text f (RemovedFault.prefix bad) = inl bad
removed_fault_shape text f (RemovedFault.graph prefix p a bad) = inr ((prefix, p), a, inl bad)

removed_parts : (text : List ℕ) (r : Row) (after : List ℕ) → code_of r ≡ code.PrefixDelete → PartsAt text r after → RemovedShape text (row_and r after)
removed_parts text (row.Change (change.PrefixDelete prefix graph)) after e p = ((prefix, p.0), p.1, ((graph, after), p.2, refl))
removed_parts text r after e p = absurd cc

exact_removed : (text : List ℕ) → Exact (removed_of Known text) (RowFor code.PrefixDelete text) (λ f. RemovedFault text f)
unfolding removed_of
exact_removed text =
    restated
    (chained (spaced_prefix text) (λ p. chained (exact_graph p.1) (λ g. exact_ok (row_and (row.Change (change.PrefixDelete p.0 g.0)) g.1))))
    (λ y t. let g = t.2 in subst (λ (z : Row × List ℕ). RowFor code.PrefixDelete text z) (sym g.2) (refl, (t.0.1, t.1, g.1)))
    (λ y p. removed_parts text y.0 y.1 p.0 p.1)
    (λ f t. removed_fault text f t)
    (λ f t. removed_fault_shape text f t)

-- ---- any code

pub exact_parts : (c : Code) (text : List ℕ) → Exact (parts_of Known c text) (RowFor c text) (λ f. PartsFault c text f)
unfolding parts_of
exact_parts code.Header text = exact_header text
exact_parts code.Begin text =
    restated (exact_bare change.Begin text) (λ y p. bare_of text y.0 y.1 change.Begin code.Begin (refl, p.1) p.0) (λ y p. begin_parts text y.0 y.1 p.0 p.1) (λ f t. t) (λ f t. t)
exact_parts code.Commit text =
    restated (exact_bare change.Commit text) (λ y p. bare_of text y.0 y.1 change.Commit code.Commit (refl, p.1) p.0) (λ y p. commit_parts text y.0 y.1 p.0 p.1) (λ f t. t) (λ f t. t)
exact_parts code.Abort text =
    restated (exact_bare change.Abort text) (λ y p. bare_of text y.0 y.1 change.Abort code.Abort (refl, p.1) p.0) (λ y p. abort_parts text y.0 y.1 p.0 p.1) (λ f t. t) (λ f t. t)
exact_parts code.PrefixAdd text = exact_added text
exact_parts code.PrefixDelete text = exact_removed text
exact_parts code.Add text =
    restated (chained (exact_quad text) (λ q. exact_ok (row_and (row.Change (change.Add q.0)) q.1)))
    (λ y t. subst (λ (z : Row × List ℕ). RowFor code.Add text z) (sym t.2) (refl, t.1))
    (λ y p. add_parts text y.0 y.1 p.0 p.1)
    (λ f t. ⊎_elim (λ bad. bad) (λ none. absurd none.2) t)
    (λ f t. inl t)
exact_parts code.Delete text =
    restated (chained (exact_quad text) (λ q. exact_ok (row_and (row.Change (change.Delete q.0)) q.1)))
    (λ y t. subst (λ (z : Row × List ℕ). RowFor code.Delete text z) (sym t.2) (refl, t.1))
    (λ y p. delete_parts text y.0 y.1 p.0 p.1)
    (λ f t. ⊎_elim (λ bad. bad) (λ none. absurd none.2) t)
    (λ f t. inl t)

-- The first fault of a row stands in it: what is left from its place on is an end of the row's text.
use Rattle.std.proofs.Common.{◌≡◌, ℕ, ◌+◌, Bool, List, [], ◌∷◌, ◌++◌, drop, refl, sym, ap, subst, ◌∙◌, append_assoc, append-nil}
use Rattle.std.proofs.lemmas.List.{take-append-drop}
use Rattle.rdf_terms.specs.declared.term.Term.{Term}
use Rattle.rdf_terms.specs.Quad.{is_iri}
use Rattle.nquads_text.specs.Fault.{TextFault}
use Rattle.nquads_text.specs.Faults.{NoCharacter, Lacks as TextLacks, EscapeFault, StopsInside, IriStop, IriFault, StringStop, LabelFault, TagFault, DatatypeFault, LiteralFault, AnyTermFault}
use Rattle.nquads_text.specs.Grammar.{IriPiece, StringPiece}
use Rattle.patch_rows.specs.declared.codes.Code.{Code}
use Rattle.patch_rows.specs.declared.codes.Code.TheVariants as code
use Rattle.patch_rows.specs.declared.fault.RowKind.{RowKind}
use Rattle.patch_rows.specs.Fault.{Fault}
use Rattle.patch_rows.specs.Faults.{RowLacks, SpacedFault, RowTermFault, DotFault, PlacedFault, KeyFault, PrefixFault, PrefixIriFault, NoDot, EndFault, GraphFault, HeaderFault, QuadFault, AddedFault, RemovedFault, PartsFault, AnyRowFault, FirstFault}
use Rattle.patch_rows.specs.Grammar.{letters, is_any, is_node, row_front, row_limit}
use Rattle.patch_rows.proofs.Slices.{IsEnd, end_of_end, space_end, placed_end, key_end, prefix_end, iri_end, word_end}

-- ---- ends of texts

whole : (text : List ℕ) → IsEnd text text
whole text = ([], refl)

none : (text : List ℕ) → IsEnd [] text
none text = (text, sym (append-nil text))

-- what is left of a fault is this
abbrev Left : {K : Type 0} → K × List ℕ → List ℕ → Type 0
Left f text = IsEnd f.1 text

at : {K : Type 0} (f g : K × List ℕ) (text : List ℕ) → f ≡ g → Left g text → Left f text
at {K} f g text is e = subst (λ (h : K × List ℕ). Left h text) (sym is) e

behind_blanks : (text blanks between rest : List ℕ) → text ≡ blanks ++ 94 ∷ 94 ∷ (between ++ rest) → IsEnd rest text
behind_blanks text blanks between rest shape = (blanks ++ 94 ∷ 94 ∷ between, shape ∙ sym (append_assoc blanks (94 ∷ 94 ∷ between) rest))

-- ---- faults of terms

no_character : (rest : List ℕ) (f : TextFault) → NoCharacter rest f → Left f rest
no_character rest f (NoCharacter.ends empty is) = at f _ rest is (none rest)
no_character rest f (NoCharacter.ill_formed bad is) = at f _ rest is (whole rest)

lacks_text : (fits : ℕ → Bool) (text rest : List ℕ) (other f : TextFault) → TextLacks fits rest other f → IsEnd rest text → Left other text → Left f text
lacks_text fits text rest other f (TextLacks.nothing missing) near there = end_of_end f.1 rest text (no_character rest f missing) near
lacks_text fits text rest other f (TextLacks.another c after char unfit is) near there = at f other text is there

escape : (fits : ℕ → Bool) (text : List ℕ) (f : TextFault) → EscapeFault fits text f → Left f text
escape fits text f (EscapeFault.letter rest shape l) = lacks_text _ text rest _ f l (92 ∷ [], shape) (whole text)
escape fits text f (EscapeFault.digit u digits rest shape hex few l) = lacks_text _ text rest _ f l (92 ∷ u ∷ digits, shape) (whole text)
escape fits text f (EscapeFault.number bytes rest n shape form bad is) = at f _ text is (whole text)

inside : (Piece : List ℕ → ℕ → Type 0) (Stop : List ℕ → TextFault → Type 0) (open_byte : ℕ) (text : List ℕ) (f : TextFault) → ((rest : List ℕ) → Stop rest f → Left f rest)
    → StopsInside Piece Stop open_byte text f → Left f text
inside Piece Stop open_byte text f stop s = end_of_end f.1 s.2 text (stop s.2 s.5) (open_byte ∷ s.0, s.3)

iri_stop : (f : TextFault) (rest : List ℕ) → IriStop rest f → Left f rest
iri_stop f rest (IriStop.nothing missing) = no_character rest f missing
iri_stop f rest (IriStop.forbidden c after char bad close slash is) = at f _ rest is (whole rest)
iri_stop f rest (IriStop.escape e) = escape _ rest f e
iri_stop f rest (IriStop.named bytes after c shape u bad is) = at f _ rest is (whole rest)

iri : (text : List ℕ) (f : TextFault) → IriFault text f → Left f text
iri text f (IriFault.inside s) = inside IriPiece IriStop 60 text f (iri_stop f) s
iri text f (IriFault.relative body cs after shape spells bare is) = at f _ text is (whole text)

string_stop : (f : TextFault) (rest : List ℕ) → StringStop rest f → Left f rest
string_stop f rest (StringStop.nothing missing) = no_character rest f missing
string_stop f rest (StringStop.line_end c after ends shape is) = at f _ rest is (whole rest)
string_stop f rest (StringStop.escape e) = escape _ rest f e

label : (text : List ℕ) (f : TextFault) → LabelFault text f → Left f text
label text f (LabelFault.colon rest shape l) = lacks_text _ text rest _ f l (95 ∷ [], shape) (whole text)
label text f (LabelFault.first rest shape l) = lacks_text _ text rest _ f l (95 ∷ 58 ∷ [], shape) (whole text)

tag : (text : List ℕ) (f : TextFault) → TagFault text f → Left f text
tag text f (TagFault.first rest shape l) = lacks_text _ text rest _ f l (64 ∷ [], shape) (whole text)
tag text f (TagFault.part t rest shape form l) =
    lacks_text _ text rest _ f l (64 ∷ (t ++ 45 ∷ []), shape ∙ ap (λ (b : List ℕ). 64 ∷ b) (sym (append_assoc t (45 ∷ []) rest))) (whole text)

datatype : (text : List ℕ) (f : TextFault) → DatatypeFault text f → Left f text
datatype text f (DatatypeFault.hat blanks rest are shape l) =
    let near : IsEnd rest text = (blanks ++ 94 ∷ [], shape ∙ sym (append_assoc blanks (94 ∷ []) rest)) in lacks_text _ text rest _ f l near near
datatype text f (DatatypeFault.less blanks between rest are more shape no_blank l) =
    let near = behind_blanks text blanks between rest shape in lacks_text _ text rest _ f l near near
datatype text f (DatatypeFault.iri blanks between rest are more shape i) = end_of_end f.1 rest text (iri rest f i) (behind_blanks text blanks between rest shape)

literal : (text : List ℕ) (f : TextFault) → LiteralFault text f → Left f text
literal text f (LiteralFault.string s) = inside StringPiece StringStop 34 text f (string_stop f) s
literal text f (LiteralFault.tag bytes lexical rest is shape t) = end_of_end f.1 rest text (tag rest f t) (bytes, shape)
literal text f (LiteralFault.datatype bytes lexical rest is shape d) = end_of_end f.1 rest text (datatype rest f d) (bytes, shape)
literal text f (LiteralFault.without_tag bytes lexical rest after is shape d there) = at f _ text there (whole text)

term : (text : List ℕ) (f : TextFault) → AnyTermFault text f → Left f text
term text f (AnyTermFault.no_term l) = lacks_text _ text text _ f l (whole text) (whole text)
term text f (AnyTermFault.iri i) = iri text f i
term text f (AnyTermFault.blank b) = label text f b
term text f (AnyTermFault.literal l) = literal text f l

-- ---- faults of rows

lacks : (fits : ℕ → Bool) (text : List ℕ) (other f : Fault) → RowLacks fits text other f → Left other text → Left f text
lacks fits text other f (RowLacks.nothing g missing is) there = at f _ text is (no_character text g missing)
lacks fits text other f (RowLacks.another c after char unfit is) there = at f other text is there

dot : (text : List ℕ) (f : Fault) → DotFault text f → Left f text
dot text f d = at f _ text d.1 (whole text)

row_term : (text : List ℕ) (f : Fault) → RowTermFault text f → Left f text
row_term text f (RowTermFault.term g t other is) = at f _ text is (term text g t)
row_term text f (RowTermFault.label x after b bad is) = at f _ text is (whole text)

placed : (fits : Term → Bool) (f : Fault) (text : List ℕ) → PlacedFault fits text f → Left f text
placed fits f text (PlacedFault.dot d) = dot text f d
placed fits f text (PlacedFault.term other t) = row_term text f t
placed fits f text (PlacedFault.position t after there unfit is) = at f _ text is (whole text)

key : (f : Fault) (text : List ℕ) → KeyFault text f → Left f text
key f text (KeyFault.dot d) = dot text f d
key f text (KeyFault.other l) = lacks _ text _ f l (whole text)

prefix : (f : Fault) (text : List ℕ) → PrefixFault text f → Left f text
prefix f text (PrefixFault.dot d) = dot text f d
prefix f text (PrefixFault.other l) = lacks _ text _ f l (whole text)
prefix f text (PrefixFault.term starts t) = row_term text f t
prefix f text (PrefixFault.position t after there unfit is) = at f _ text is (whole text)

prefix_iri : (f : Fault) (text : List ℕ) → PrefixIriFault text f → Left f text
prefix_iri f text (PrefixIriFault.dot d) = dot text f d
prefix_iri f text (PrefixIriFault.term other t) = row_term text f t
prefix_iri f text (PrefixIriFault.position t after there unfit plain is) = at f _ text is (whole text)
prefix_iri f text (PrefixIriFault.forbidden string after there bad is) = at f _ text is (whole text)
prefix_iri f text (PrefixIriFault.relative string after there all bare is) = at f _ text is (whole text)

spaced : (Part : List ℕ → Fault → Type 0) (f : Fault) → ((from : List ℕ) → Part from f → Left f from) → (text : List ℕ) → SpacedFault Part text f → Left f text
spaced Part f part text s = end_of_end f.1 s.0 text (part s.0 s.2) (space_end text s.0 s.1)

no_dot : (missing : RowKind) (f : Fault) (text : List ℕ) → NoDot missing text f → Left f text
no_dot missing f text (NoDot.term starts is) = at f _ text is (whole text)
no_dot missing f text (NoDot.other l) = lacks _ text _ f l (whole text)

end : (missing : RowKind) (f : Fault) (text : List ℕ) → EndFault missing text f → Left f text
end missing f = spaced (NoDot missing) f (no_dot missing f)

graph : (f : Fault) (text : List ℕ) → GraphFault text f → Left f text
graph f text (GraphFault.graph from s starts p) = end_of_end f.1 from text (placed is_node f from p) (space_end text from s)
graph f text (GraphFault.end g b there e) = end_of_end f.1 b text (end _ f b e) (placed_end is_node g text b there)
graph f text (GraphFault.none from s other n) = end_of_end f.1 from text (no_dot _ f from n) (space_end text from s)

header : (f : Fault) (text : List ℕ) → HeaderFault text f → Left f text
header f text (HeaderFault.key s) = spaced KeyFault f (key f) text s
header f text (HeaderFault.value k b there s) = end_of_end f.1 b text (spaced (PlacedFault is_any) f (placed is_any f) b s) (key_end k text b there)
header f text (HeaderFault.end k b t v there value e) = end_of_end f.1 b text (end_of_end f.1 v b (end _ f v e) (placed_end is_any t b v value)) (key_end k text b there)

quad : (f : Fault) (text : List ℕ) → QuadFault text f → Left f text
quad f text (QuadFault.subject s) = spaced (PlacedFault is_node) f (placed is_node f) text s
quad f text (QuadFault.predicate s b one p) = end_of_end f.1 b text (spaced (PlacedFault is_iri) f (placed is_iri f) b p) (placed_end is_node s text b one)
quad f text (QuadFault.object s p b d one two o) =
    end_of_end f.1 b text (end_of_end f.1 d b (spaced (PlacedFault is_any) f (placed is_any f) d o) (placed_end is_iri p b d two)) (placed_end is_node s text b one)
quad f text (QuadFault.graph s p o b d e one two three g) =
    end_of_end f.1 b text (end_of_end f.1 d b (end_of_end f.1 e d (graph f e g) (placed_end is_any o d e three)) (placed_end is_iri p b d two)) (placed_end is_node s text b one)

added : (f : Fault) (text : List ℕ) → AddedFault text f → Left f text
added f text (AddedFault.prefix s) = spaced PrefixFault f (prefix f) text s
added f text (AddedFault.iri x p one s) = end_of_end f.1 p text (spaced PrefixIriFault f (prefix_iri f) p s) (prefix_end x text p one)
added f text (AddedFault.graph x p i q one two g) = end_of_end f.1 p text (end_of_end f.1 q p (graph f q g) (iri_end i p q two)) (prefix_end x text p one)

removed : (f : Fault) (text : List ℕ) → RemovedFault text f → Left f text
removed f text (RemovedFault.prefix s) = spaced PrefixFault f (prefix f) text s
removed f text (RemovedFault.graph x p one g) = end_of_end f.1 p text (graph f p g) (prefix_end x text p one)

parts : (c : Code) (f : Fault) (text : List ℕ) → PartsFault c text f → Left f text
parts code.Header f text p = header f text p
parts code.Begin f text p = end _ f text p
parts code.Commit f text p = end _ f text p
parts code.Abort f text p = end _ f text p
parts code.PrefixAdd f text p = added f text p
parts code.PrefixDelete f text p = removed f text p
parts code.Add f text p = quad f text p
parts code.Delete f text p = quad f text p

row : (text : List ℕ) (f : Fault) → AnyRowFault text f → Left f text
row text f (AnyRowFault.letter l) = lacks _ text _ f l (whole text)
row text f (AnyRowFault.cut word is) = at f _ text is (none text)
row text f (AnyRowFault.unknown word b there other is) = at f _ text is (whole text)
row text f (AnyRowFault.parts c b there p) = end_of_end f.1 b text (parts c f b p) (word_end (letters c) text b there)

pub first_end : (text : List ℕ) (f : Fault) → FirstFault text f → IsEnd f.1 text
unfolding row_front
first_end text f (FirstFault.short le r) = row text f r
first_end text f (FirstFault.front g lt d is) =
    let rest : List ℕ = drop (row_limit + 1) text in
    at f _ text is (subst (IsEnd (g.1 ++ rest)) (take-append-drop (row_limit + 1) text) (row (row_front text ++ rest) (g.0, g.1 ++ rest) (d rest)))
first_end text f (FirstFault.too_long lt rows_ faults is) = at f _ text is (whole text)

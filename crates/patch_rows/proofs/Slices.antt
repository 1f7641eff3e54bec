-- A row is read alike in front of less text: each condition of the grammar that speaks of what stands behind holds for less of it too.
use Rattle.std.proofs.Common.{◌≡◌, ℕ, ◌+◌, ◌≤◌, Bool, List, [], ◌∷◌, ◌++◌, length, drop, nat_eq, Option, Some, None, sym, ap, subst, refl, ◌∙◌, inl, inr, arith, append_assoc}
use Rattle.std.proofs.lemmas.List.{append_cancel_right, length-append, length-drop, drop-drop}
use Rattle.std.proofs.Math.Seq.{drop-append_seam}
use Rattle.std.specs.Char.{is_ascii_alphabetic}
use Rattle.rdf_terms.specs.declared.term.Literal.{Literal}
use Rattle.rdf_terms.specs.declared.term.LiteralKind.{LiteralKind}
use Rattle.rdf_terms.specs.declared.term.Term.{Term}
use Rattle.rdf_terms.specs.declared.term.Term.TheVariants as term
use Rattle.rdf_terms.specs.declared.change.Change.{Change}
use Rattle.rdf_terms.specs.declared.change.Change.TheVariants as change
use Rattle.rdf_terms.specs.Label.{IsLabel}
use Rattle.rdf_terms.specs.Quad.{Statement, is_iri}
use Rattle.rdf_terms.specs.Tag.{IsWord, TagForm}
use Rattle.nquads_text.specs.Grammar.{StartsWith, Longest, IriRef, BlankNode, LangTag, DatatypeAt, HatFollows, Suffix, LiteralAt, TermAt}
use Rattle.patch_rows.specs.declared.row.Row.{Row}
use Rattle.patch_rows.specs.declared.row.Row.TheVariants as row
use Rattle.patch_rows.specs.Grammar.{IsKey, IsSpace, Space, Spaced, KeyAt, letters, WordAt, InBrackets, RowTerm, Placed, is_any, is_node, plain, PrefixAt, PrefixIriAt, EndAt, GraphAt, QuadAt, code_of, ChangeAt, PartsAt, RowAt}

-- what is read in front of a text with more behind it is read in front of that text alone
abbrev pub IsLocal : (List ℕ → List ℕ → Type 0) → Type 0
IsLocal Part = (text after more : List ℕ) → Part text (after ++ more) → (shorter : List ℕ) × (text ≡ shorter ++ more) × Part shorter after

-- ---- tokens

again : (taken after more : List ℕ) → taken ++ (after ++ more) ≡ (taken ++ after) ++ more
again taken after more = sym (append_assoc taken after more)

longest : (Form : List ℕ → Type 0) (taken : List ℕ) → IsLocal (λ text after. Longest Form text taken after)
longest Form taken text after more l = (
  taken ++ after,
  l.1 ∙ again taken after more,
  (l.0, refl, λ longer rest form is. l.2 longer (rest ++ more) form (l.1 ∙ again taken after more ∙ ap (λ (t : List ℕ). t ++ more) is ∙ append_assoc longer rest more)),
)

pub space : IsLocal Space
space text after more s = let l = longest IsSpace s.0 text after more s.1 in (l.0, l.1, (s.0, l.2))

starts : (test : ℕ → Bool) (text more : List ℕ) → StartsWith test text → StartsWith test (text ++ more)
starts test [] more s = absurd s
starts test (b ∷ text) more s = s

spaced : {X : Type 0} (Part : List ℕ → X → List ℕ → Type 0) (x : X) → IsLocal (λ text after. Part text x after) → IsLocal (λ text after. Spaced Part text x after)
spaced Part x part text after more s =
    let p = part s.0 after more s.2 in
    let f = space text p.0 more (subst (Space text) p.1 s.1) in
    (f.0, f.1, (p.0, f.2, p.2))

-- ---- terms

iri_ref : (iri : List ℕ) → IsLocal (λ text after. IriRef text iri after)
iri_ref iri text after more i = (i.0 ++ after, i.2 ∙ again i.0 after more, (i.0, i.1, refl))

blank_node : (label : List ℕ) → IsLocal (λ text after. BlankNode text label after)
blank_node label text after more b =
    let l = longest IsLabel label b.0 after more b.2 in
    (95 ∷ 58 ∷ l.0, b.1 ∙ ap (λ (t : List ℕ). 95 ∷ 58 ∷ t) l.1, (l.0, refl, l.2))

lang_tag : (tag : List ℕ) → IsLocal (λ text after. LangTag text tag after)
lang_tag tag text after more t =
    let l = longest TagForm tag t.0 after more t.2 in
    (64 ∷ l.0, t.1 ∙ ap (λ (t : List ℕ). 64 ∷ t) l.1, (l.0, refl, l.2, λ s. t.3 (starts (λ b. nat_eq b 45) after more s)))

datatype : (iri : List ℕ) → IsLocal (λ text after. DatatypeAt text iri after)
datatype iri text after more d =
    let i = iri_ref iri d.2 after more d.6 in (
      d.0 ++ 94 ∷ 94 ∷ (d.1 ++ i.0),
      d.5 ∙ ap (λ (t : List ℕ). d.0 ++ 94 ∷ 94 ∷ (d.1 ++ t)) i.1 ∙ ap (λ (t : List ℕ). d.0 ++ 94 ∷ 94 ∷ t) (again d.1 i.0 more) ∙ again d.0 (94 ∷ 94 ∷ (d.1 ++ i.0)) more,
      (d.0, d.1, i.0, d.3, d.4, refl, i.2),
    )

hat : (text more : List ℕ) → HatFollows text → HatFollows (text ++ more)
hat text more h = (h.0, h.1 ++ more, h.2, ap (λ (t : List ℕ). t ++ more) h.3 ∙ append_assoc h.0 (94 ∷ h.1) more)

suffix : (kind : LiteralKind) → IsLocal (λ text after. Suffix text kind after)
suffix kind text after more (Suffix.plain no_tag no_hat is same) = (
  after,
  sym same,
  Suffix.plain (λ s. no_tag (subst (StartsWith (λ b. nat_eq b 64)) same (starts (λ b. nat_eq b 64) after more s))) (λ h. no_hat (subst HatFollows same (hat after more h))) is refl,
)
suffix kind text after more (Suffix.typed iri d other is) = let l = datatype iri text after more d in (l.0, l.1, Suffix.typed iri l.2 other is)
suffix kind text after more (Suffix.tagged tag t is) = let l = lang_tag tag text after more t in (l.0, l.1, Suffix.tagged tag l.2 is)

literal : (l : Literal) → IsLocal (λ text after. LiteralAt text l after)
literal l text after more t =
    let s = suffix l.kind t.1 after more t.4 in
    (t.0 ++ s.0, t.3 ∙ ap (λ (b : List ℕ). t.0 ++ b) s.1 ∙ again t.0 s.0 more, (t.0, s.0, t.2, refl, s.2))

term_at : (t : Term) → IsLocal (λ text after. TermAt text t after)
term_at (term.Iri iri) = iri_ref iri
term_at (term.Blank label) = blank_node label
term_at (term.Literal l) = literal l

in_brackets : (x : List ℕ) → IsLocal (λ text after. InBrackets text x after)
in_brackets x text after more b =
    (60 ∷ (b.0 ++ 62 ∷ after), b.2 ∙ ap (λ (t : List ℕ). 60 ∷ t) (again b.0 (62 ∷ after) more), (b.0, b.1, refl, b.3, b.4))

row_term : (t : Term) → IsLocal (λ text after. RowTerm text t after)
row_term t text after more (inl is) = let l = term_at t text after more is in (l.0, l.1, inl l.2)
row_term t text after more (inr b) = let l = in_brackets b.0 text after more b.1 in (l.0, l.1, inr (b.0, l.2, b.2, b.3))

placed : (fits : Term → Bool) (t : Term) → IsLocal (λ text after. Placed fits text t after)
placed fits t text after more p = let l = row_term t text after more p.0 in (l.0, l.1, (l.2, p.1))

-- ---- prefixes

prefix_at : (prefix : List ℕ) → IsLocal (λ text after. PrefixAt text prefix after)
prefix_at prefix text after more (PrefixAt.string t) = let l = row_term (plain prefix) text after more t in (l.0, l.1, PrefixAt.string l.2)
prefix_at prefix text after more (PrefixAt.word k none) =
    let l = longest IsKey prefix text after more k in (l.0, l.1, PrefixAt.word l.2 (λ s. none (starts (λ b. nat_eq b 58) after more s)))
prefix_at prefix text after more (PrefixAt.word_colon k) = let l = longest IsKey prefix text (58 ∷ after) more k in (l.0, l.1, PrefixAt.word_colon l.2)
prefix_at prefix text after more (PrefixAt.colon shape none) = (58 ∷ after, shape, PrefixAt.colon refl none)

prefix_iri : (iri : List ℕ) → IsLocal (λ text after. PrefixIriAt text iri after)
prefix_iri iri text after more (PrefixIriAt.reference t) = let l = row_term (term.Iri iri) text after more t in (l.0, l.1, PrefixIriAt.reference l.2)
prefix_iri iri text after more (PrefixIriAt.string t is) = let l = row_term (plain iri) text after more t in (l.0, l.1, PrefixIriAt.string l.2 is)

-- ---- rows

end_at : IsLocal EndAt
end_at text after more e = let s = space text (46 ∷ after) more (subst (Space text) e.2 e.1) in (s.0, s.1, (46 ∷ after, s.2, refl))

graph : (g : Option Term) → IsLocal (λ text after. GraphAt text g after)
graph None text after more e = end_at text after more e
graph (Some g) text after more b =
    let e = end_at b.0 after more b.2 in
    let l = spaced (Placed is_node) g (placed is_node g) text e.0 more (subst (Spaced (Placed is_node) text g) e.1 b.1) in
    (l.0, l.1, (e.0, l.2, e.2))

quad : (q : Statement) → IsLocal (λ text after. QuadAt text q after)
quad q text after more e =
    let g = graph q.graph e.2 after more e.6 in
    let o = spaced (Placed is_any) q.object (placed is_any q.object) e.1 g.0 more (subst (Spaced (Placed is_any) e.1 q.object) g.1 e.5) in
    let p = spaced (Placed is_iri) q.predicate (placed is_iri q.predicate) e.0 o.0 more (subst (Spaced (Placed is_iri) e.0 q.predicate) o.1 e.4) in
    let s = spaced (Placed is_node) q.subject (placed is_node q.subject) text p.0 more (subst (Spaced (Placed is_node) text q.subject) p.1 e.3) in
    (s.0, s.1, (p.0, o.0, g.0, s.2, p.2, o.2, g.2))

change_at : (c : Change) → IsLocal (λ text after. ChangeAt text c after)
change_at (change.Add q) text after more e = quad q text after more e
change_at (change.Delete q) text after more e = quad q text after more e
change_at (change.PrefixAdd prefix iri g) text after more e =
    let b = graph g e.1 after more e.4 in
    let i = spaced PrefixIriAt iri (prefix_iri iri) e.0 b.0 more (subst (Spaced PrefixIriAt e.0 iri) b.1 e.3) in
    let p = spaced PrefixAt prefix (prefix_at prefix) text i.0 more (subst (Spaced PrefixAt text prefix) i.1 e.2) in
    (p.0, p.1, (i.0, b.0, p.2, i.2, b.2))
change_at (change.PrefixDelete prefix g) text after more e =
    let b = graph g e.0 after more e.2 in
    let p = spaced PrefixAt prefix (prefix_at prefix) text b.0 more (subst (Spaced PrefixAt text prefix) b.1 e.1) in
    (p.0, p.1, (b.0, p.2, b.2))
change_at change.Begin text after more e = end_at text after more e
change_at change.Commit text after more e = end_at text after more e
change_at change.Abort text after more e = end_at text after more e

parts : (r : Row) → IsLocal (λ text after. PartsAt text r after)
parts (row.Header key value) text after more e =
    let d = end_at e.1 after more e.4 in
    let v = spaced (Placed is_any) value (placed is_any value) e.0 d.0 more (subst (Spaced (Placed is_any) e.0 value) d.1 e.3) in
    let k = spaced KeyAt key (longest IsKey key) text v.0 more (subst (Spaced KeyAt text key) v.1 e.2) in
    (k.0, k.1, (v.0, d.0, k.2, v.2, d.2))
parts (row.Change c) text after more e = change_at c text after more e

-- ---- what a part leaves is an end of its text

-- the one is an end of the other
abbrev pub IsEnd : List ℕ → List ℕ → Type 0
IsEnd rest text = (front : List ℕ) × (text ≡ front ++ rest)

pub end_of_end : (a b c : List ℕ) → IsEnd a b → IsEnd b c → IsEnd a c
end_of_end a b c near far = (far.0 ++ near.0, far.1 ∙ ap (λ (t : List ℕ). far.0 ++ t) near.1 ∙ sym (append_assoc far.0 near.0 a))

-- an end of what stands from a place on stands from a later place on
pub end_place : (text : List ℕ) (from : ℕ) (rest : List ℕ) → from ≤ length text → IsEnd rest (drop from text) → (at : ℕ) × (drop at text ≡ rest) × (from ≤ at) × (at ≤ length text)
end_place text from rest within e = (
  from + length e.0,
  sym (drop-drop (length e.0) from text) ∙ ap (drop (length e.0)) e.1 ∙ drop-append_seam e.0 rest,
  omega arith,
  omega (arith, ap length e.1, length-append e.0 rest, length-drop from text, within),
)

left : (Part : List ℕ → List ℕ → Type 0) → IsLocal Part → (text after : List ℕ) → Part text after → IsEnd after text
left Part part text after p = let l = part text [] after p in (l.0, l.1)

pub space_end : (text after : List ℕ) → Space text after → IsEnd after text
space_end = left Space space

pub placed_end : (fits : Term → Bool) (t : Term) (text after : List ℕ) → Spaced (Placed fits) text t after → IsEnd after text
placed_end fits t = left (λ text after. Spaced (Placed fits) text t after) (spaced (Placed fits) t (placed fits t))

pub key_end : (key text after : List ℕ) → Spaced KeyAt text key after → IsEnd after text
key_end key = left (λ text after. Spaced KeyAt text key after) (spaced KeyAt key (longest IsKey key))

pub prefix_end : (prefix text after : List ℕ) → Spaced PrefixAt text prefix after → IsEnd after text
prefix_end prefix = left (λ text after. Spaced PrefixAt text prefix after) (spaced PrefixAt prefix (prefix_at prefix))

pub iri_end : (iri text after : List ℕ) → Spaced PrefixIriAt text iri after → IsEnd after text
iri_end iri = left (λ text after. Spaced PrefixIriAt text iri after) (spaced PrefixIriAt iri (prefix_iri iri))

pub word_end : (word text after : List ℕ) → WordAt text word after → IsEnd after text
word_end word text after w = (word, w.0.1)

-- ---- behind a code the row's dot stands

dot_end : (text after : List ℕ) → EndAt text after → IsEnd (46 ∷ after) text
dot_end text after e = space_end text (46 ∷ after) (subst (Space text) e.2 e.1)

graph_dot : (g : Option Term) (text after : List ℕ) → GraphAt text g after → IsEnd (46 ∷ after) text
graph_dot None text after e = dot_end text after e
graph_dot (Some g) text after e = end_of_end (46 ∷ after) e.0 text (dot_end e.0 after e.2) (placed_end is_node g text e.0 e.1)

quad_dot : (q : Statement) (text after : List ℕ) → QuadAt text q after → IsEnd (46 ∷ after) text
quad_dot q text after e =
    end_of_end (46 ∷ after) e.0 text
    (end_of_end (46 ∷ after) e.1 e.0 (end_of_end (46 ∷ after) e.2 e.1 (graph_dot q.graph e.2 after e.6) (placed_end is_any q.object e.1 e.2 e.5)) (placed_end is_iri q.predicate e.0 e.1 e.4))
    (placed_end is_node q.subject text e.0 e.3)

change_dot : (c : Change) (text after : List ℕ) → ChangeAt text c after → IsEnd (46 ∷ after) text
change_dot (change.Add q) text after e = quad_dot q text after e
change_dot (change.Delete q) text after e = quad_dot q text after e
change_dot (change.PrefixAdd prefix iri g) text after e =
    end_of_end (46 ∷ after) e.0 text (end_of_end (46 ∷ after) e.1 e.0 (graph_dot g e.1 after e.4) (iri_end iri e.0 e.1 e.3)) (prefix_end prefix text e.0 e.2)
change_dot (change.PrefixDelete prefix g) text after e = end_of_end (46 ∷ after) e.0 text (graph_dot g e.0 after e.2) (prefix_end prefix text e.0 e.1)
change_dot change.Begin text after e = dot_end text after e
change_dot change.Commit text after e = dot_end text after e
change_dot change.Abort text after e = dot_end text after e

pub parts_dot : (r : Row) (text after : List ℕ) → PartsAt text r after → IsEnd (46 ∷ after) text
parts_dot (row.Header key value) text after e =
    end_of_end (46 ∷ after) e.0 text (end_of_end (46 ∷ after) e.1 e.0 (dot_end e.1 after e.4) (placed_end is_any value e.0 e.1 e.3)) (key_end key text e.0 e.2)
parts_dot (row.Change c) text after e = change_dot c text after e

some_left : (rest : List ℕ) (b : ℕ) (text : List ℕ) → IsEnd (b ∷ rest) text → text ≡ [] → ⊥
some_left rest b text is none = let size = ap length (sym none ∙ is.1) in absurd (omega (arith, size, length-append is.0 (b ∷ rest)))

-- ---- a row

row_local : (r : Row) → IsLocal (λ text after. RowAt text r after)
unfolding RowAt
row_local r text after more e =
    let p = parts r e.0 after more e.2 in
    let w = longest (IsWord is_ascii_alphabetic) (letters (code_of r)) text p.0 more (subst (Longest (IsWord is_ascii_alphabetic) text (letters (code_of r))) p.1 e.1.0) in
    (w.0, w.1, (p.0, (w.2, some_left after 46 p.0 (parts_dot r p.0 after p.2)), p.2))

pub row_shorter : (text more : List ℕ) (r : Row) (after : List ℕ) → RowAt (text ++ more) r (after ++ more) → RowAt text r after
row_shorter text more r after e =
    let l = row_local r (text ++ more) after more e in subst (λ (t : List ℕ). RowAt t r after) (sym (append_cancel_right text l.0 more l.1)) l.2

pub space_shorter : (text more after : List ℕ) → Space (text ++ more) (after ++ more) → Space text after
space_shorter text more after s =
    let l = space (text ++ more) after more s in subst (λ (t : List ℕ). Space t after) (sym (append_cancel_right text l.0 more l.1)) l.2

pub row_end : (text : List ℕ) (r : Row) (after : List ℕ) → RowAt text r after → IsEnd after text
row_end text r after e = left (λ text after. RowAt text r after) (row_local r) text after e

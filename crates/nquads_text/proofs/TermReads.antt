-- A term is read exactly where the grammar has one, and the fault that is met is exactly the first one.
use Rattle.std.proofs.Common.{◌≡◌, ℕ, Bool, true, false, ◌||◌, List, [], ◌∷◌, ◌++◌, Ok, Err, nat_eq, refl, sym, ap, subst, ◌∙◌, ◌⊎◌, inl, inr, ⊎_elim, arith}
use Rattle.std.proofs.lemmas.Bool.{eqb-true}
use Rattle.rdf_terms.specs.declared.term.Literal.{Literal}
use Rattle.rdf_terms.specs.declared.term.Term.{Term}
use Rattle.rdf_terms.specs.declared.term.Term.TheVariants as term
use Rattle.nquads_text.specs.declared.fault.TextKind.TheVariants.{BadToken}
use Rattle.nquads_text.specs.Fault.{TextFault, TextRead, ◌>>=◌}
use Rattle.nquads_text.specs.Reading.{char_at}
use Rattle.nquads_text.specs.Terms.{iri_at, iri_needed, label_at, literal_at, term_at}
use Rattle.nquads_text.specs.Grammar.{BlankNode, LiteralAt, TermAt}
use Rattle.nquads_text.specs.Faults.{Lacks, IriFault, LabelFault, LiteralFault, AnyTermFault, begins_term}
use Rattle.nquads_text.proofs.Fronts.{char_at-ascii, char_spelled}
use Rattle.nquads_text.proofs.Steps.{bind_ok, bind_err, ok_is, not_both, err_is}
use Rattle.nquads_text.proofs.Inside.{low_char}
use Rattle.nquads_text.proofs.IriLaws.{behind_open, iri_read, iri_is_read, iri_fault_met, iri_fault_is_met}
use Rattle.nquads_text.proofs.LabelReads.{label_found, label_is_read, label_fault, label_lacks}
use Rattle.nquads_text.proofs.LiteralReads.{literal_found, literal_again, literal_fault, literal_lacks}
use Rattle.nquads_text.proofs.Needed.{char_fault, no_character, char_stands}

-- what each opening byte leads to
abbrev to_iri : List ℕ → TextRead Term
to_iri rest = iri_at (60 ∷ rest) rest >>= λ (iri : List ℕ × List ℕ). Ok (term.Iri iri.0, iri.1)

abbrev to_blank : List ℕ → TextRead Term
to_blank rest = label_at (95 ∷ rest) rest >>= λ (label : List ℕ × List ℕ). Ok (term.Blank label.0, label.1)

abbrev to_literal : List ℕ → TextRead Term
to_literal rest = literal_at (34 ∷ rest) rest >>= λ (literal : Literal × List ℕ). Ok (term.Literal literal.0, literal.1)

at_iri : (rest : List ℕ) → term_at (60 ∷ rest) ≡ to_iri rest
unfolding term_at
at_iri rest = rw (char_at-ascii 60 rest (omega arith)) refl

at_blank : (rest : List ℕ) → term_at (95 ∷ rest) ≡ to_blank rest
unfolding term_at
at_blank rest = rw (char_at-ascii 95 rest (omega arith)) refl

at_literal : (rest : List ℕ) → term_at (34 ∷ rest) ≡ to_literal rest
unfolding term_at
at_literal rest = rw (char_at-ascii 34 rest (omega arith)) refl

no_term_at : (text : List ℕ) (f : TextFault) → Lacks begins_term text (BadToken, text) f → term_at text ≡ Err f
unfolding term_at
no_term_at text f (Lacks.nothing n) = rw (no_character text f n) refl
no_term_at text f (Lacks.another c after at misfit is) =
    let t = no_opening (nat_eq c 60) (nat_eq c 95) (nat_eq c 34) misfit in
    rw (char_stands text c after at, t.0, t.1, t.2) (ap (λ (g : TextFault). Err g) (sym is))
  where
    no_opening : (a b c : Bool) → (a || b || c) ≡ false → (a ≡ false) × (b ≡ false) × (c ≡ false)
    no_opening true b c e = absurd cc
    no_opening false true c e = absurd cc
    no_opening false false c e = (refl, refl, e)

data Opens (text : List ℕ) : Type 0 where
  with_iri : (rest : List ℕ) → text ≡ 60 ∷ rest → Opens text
  with_blank : (rest : List ℕ) → text ≡ 95 ∷ rest → Opens text
  with_literal : (rest : List ℕ) → text ≡ 34 ∷ rest → Opens text
  nothing : (f : TextFault) → Lacks begins_term text (BadToken, text) f → Opens text

opens : (text : List ℕ) → Opens text
opens text = by (char_at text) refl
  where
    which : (x : ℕ × List ℕ) (a b c : Bool) → char_at text ≡ Ok x → nat_eq x.0 60 ≡ a → nat_eq x.0 95 ≡ b → nat_eq x.0 34 ≡ c → Opens text
    which x true b c read e f g = Opens.with_iri x.1 (low_char text x 60 read (eqb-true x.0 60 e) (omega arith))
    which x false true c read e f g = Opens.with_blank x.1 (low_char text x 95 read (eqb-true x.0 95 f) (omega arith))
    which x false false true read e f g = Opens.with_literal x.1 (low_char text x 34 read (eqb-true x.0 34 g) (omega arith))
    which x false false false read e f g = Opens.nothing (BadToken, text) (Lacks.another x.0 x.1 (char_spelled text x.0 x.1 read) (rw (e, f, g) refl) refl)

    by : (r : TextRead ℕ) → char_at text ≡ r → Opens text
    by (Ok x) read = which x (nat_eq x.0 60) (nat_eq x.0 95) (nat_eq x.0 34) read refl refl refl
    by (Err f) read = Opens.nothing f (Lacks.nothing (char_fault text f read))

-- ---- terms

pub term_found : (text : List ℕ) (t : Term) (after : List ℕ) → term_at text ≡ Ok (t, after) → TermAt text t after
term_found text t after e = by (opens text)
  where
    by : Opens text → TermAt text t after
    by (Opens.with_iri rest shape) =
        let p = bind_ok (iri_at (60 ∷ rest) rest) (λ (iri : List ℕ × List ℕ). Ok (term.Iri iri.0, iri.1)) (t, after) (sym (at_iri rest) ∙ ap term_at (sym shape) ∙ e) in
        let x : List ℕ × List ℕ = p.0 in
        let r = iri_read rest x.0 x.1 (behind_open rest ∙ p.1) in
        let found : TermAt text (term.Iri x.0) x.1 = (r.0, r.1, shape ∙ r.2) in
        subst (λ (v : Term × List ℕ). TermAt text v.0 v.1) (ok_is (term.Iri x.0, x.1) (t, after) p.2) found
    by (Opens.with_blank rest shape) =
        let p = bind_ok (label_at (95 ∷ rest) rest) (λ (label : List ℕ × List ℕ). Ok (term.Blank label.0, label.1)) (t, after) (sym (at_blank rest) ∙ ap term_at (sym shape) ∙ e) in
        let x : List ℕ × List ℕ = p.0 in
        let found : TermAt text (term.Blank x.0) x.1 = subst (λ (s : List ℕ). BlankNode s x.0 x.1) (sym shape) (label_found rest x.0 x.1 p.1) in
        subst (λ (v : Term × List ℕ). TermAt text v.0 v.1) (ok_is (term.Blank x.0, x.1) (t, after) p.2) found
    by (Opens.with_literal rest shape) =
        let p = bind_ok (literal_at (34 ∷ rest) rest) (λ (literal : Literal × List ℕ). Ok (term.Literal literal.0, literal.1)) (t, after) (sym (at_literal rest) ∙ ap term_at (sym shape) ∙ e) in
        let x : Literal × List ℕ = p.0 in
        let found : TermAt text (term.Literal x.0) x.1 = subst (λ (s : List ℕ). LiteralAt s x.0 x.1) (sym shape) (literal_found rest x.0 x.1 p.1) in
        subst (λ (v : Term × List ℕ). TermAt text v.0 v.1) (ok_is (term.Literal x.0, x.1) (t, after) p.2) found
    by (Opens.nothing f l) = absurd (not_both (t, after) f (sym e ∙ no_term_at text f l))

pub term_is_read : (text : List ℕ) (t : Term) (after : List ℕ) → TermAt text t after → term_at text ≡ Ok (t, after)
term_is_read text (term.Iri iri) after r =
    let g = r.1 in
    let rest : List ℕ = (g.0 ++ 62 ∷ []) ++ after in
    let shape : text ≡ 60 ∷ ((g.0 ++ 62 ∷ []) ++ after) = r.2 ∙ ap (λ (s : List ℕ). s ++ after) g.2 in
    let read : iri_at (60 ∷ rest) rest ≡ Ok (iri, after) = sym (behind_open rest) ∙ ap iri_needed (sym shape ∙ r.2) ∙ iri_is_read r.0 iri after g in
    ap term_at shape ∙ at_iri rest ∙ ap (λ (x : TextRead (List ℕ)). x >>= λ (iri : List ℕ × List ℕ). Ok (term.Iri iri.0, iri.1)) read
term_is_read text (term.Blank label) after b =
    ap term_at b.1 ∙ at_blank (58 ∷ b.0) ∙ ap (λ (x : TextRead (List ℕ)). x >>= λ (label : List ℕ × List ℕ). Ok (term.Blank label.0, label.1)) (label_is_read (95 ∷ 58 ∷ b.0) b.0 label after b.2)
term_is_read text (term.Literal literal) after l =
    let r = literal_again text literal after l in
    ap term_at r.1 ∙ at_literal r.0 ∙ ap (λ (x : TextRead Literal). x >>= λ (literal : Literal × List ℕ). Ok (term.Literal literal.0, literal.1)) r.2

-- ---- faults

abbrev term_read : Term → List ℕ → TextRead Term
term_read t after = Ok (t, after)

not_read : (t : Term) (after : List ℕ) (f : TextFault) → term_read t after ≡ Err f → ⊥
not_read t after f e = not_both (t, after) f e

pub term_fault : (text : List ℕ) (f : TextFault) → term_at text ≡ Err f → AnyTermFault text f
term_fault text f e = by (opens text)
  where
    by : Opens text → AnyTermFault text f
    by (Opens.with_iri rest shape) =
        ⊎_elim
        (λ bad. AnyTermFault.iri (subst (λ (s : List ℕ). IriFault s f) (sym shape) (iri_fault_met rest f (behind_open rest ∙ bad))))
        (λ fine. absurd (not_read (term.Iri fine.0.0) fine.0.1 f fine.2))
        (bind_err (iri_at (60 ∷ rest) rest) (λ (iri : List ℕ × List ℕ). term_read (term.Iri iri.0) iri.1) f (sym (at_iri rest) ∙ ap term_at (sym shape) ∙ e))
    by (Opens.with_blank rest shape) =
        ⊎_elim
        (λ bad. AnyTermFault.blank (subst (λ (s : List ℕ). LabelFault s f) (sym shape) (label_fault rest f bad)))
        (λ fine. absurd (not_read (term.Blank fine.0.0) fine.0.1 f fine.2))
        (bind_err (label_at (95 ∷ rest) rest) (λ (label : List ℕ × List ℕ). term_read (term.Blank label.0) label.1) f (sym (at_blank rest) ∙ ap term_at (sym shape) ∙ e))
    by (Opens.with_literal rest shape) =
        ⊎_elim
        (λ bad. AnyTermFault.literal (subst (λ (s : List ℕ). LiteralFault s f) (sym shape) (literal_fault rest f bad)))
        (λ fine. absurd (not_read (term.Literal fine.0.0) fine.0.1 f fine.2))
        (bind_err (literal_at (34 ∷ rest) rest) (λ (literal : Literal × List ℕ). term_read (term.Literal literal.0) literal.1) f (sym (at_literal rest) ∙ ap term_at (sym shape) ∙ e))
    by (Opens.nothing g l) = AnyTermFault.no_term (subst (λ (h : TextFault). Lacks begins_term text (BadToken, text) h) (err_is g f (sym (no_term_at text g l) ∙ e)) l)

iri_opens : (text : List ℕ) (f : TextFault) → IriFault text f → (rest : List ℕ) × (text ≡ 60 ∷ rest)
iri_opens text f (IriFault.inside s) = (s.0 ++ s.2, s.3)
iri_opens text f (IriFault.relative body cs after shape spelled none is) = (body ++ 62 ∷ after, shape)

label_opens : (text : List ℕ) (f : TextFault) → LabelFault text f → (rest : List ℕ) × (text ≡ 95 ∷ rest)
label_opens text f (LabelFault.colon rest shape l) = (rest, shape)
label_opens text f (LabelFault.first rest shape l) = (58 ∷ rest, shape)

pub term_fault_is_met : (text : List ℕ) (f : TextFault) → AnyTermFault text f → term_at text ≡ Err f
term_fault_is_met text f (AnyTermFault.no_term l) = no_term_at text f l
term_fault_is_met text f (AnyTermFault.iri i) =
    let o = iri_opens text f i in
    let bad : iri_at (60 ∷ o.0) o.0 ≡ Err f = sym (behind_open o.0) ∙ ap iri_needed (sym o.1) ∙ iri_fault_is_met text f i in
    ap term_at o.1 ∙ at_iri o.0 ∙ ap (λ (x : TextRead (List ℕ)). x >>= λ (iri : List ℕ × List ℕ). term_read (term.Iri iri.0) iri.1) bad
term_fault_is_met text f (AnyTermFault.blank b) =
    let o = label_opens text f b in
    ap term_at o.1 ∙ at_blank o.0 ∙ ap (λ (x : TextRead (List ℕ)). x >>= λ (label : List ℕ × List ℕ). term_read (term.Blank label.0) label.1) (label_lacks o.0 f (subst (λ (s : List ℕ). LabelFault s f) o.1 b))
term_fault_is_met text f (AnyTermFault.literal l) =
    let r = literal_lacks text f l in
    ap term_at r.1 ∙ at_literal r.0 ∙ ap (λ (x : TextRead Literal). x >>= λ (literal : Literal × List ℕ). term_read (term.Literal literal.0) literal.1) r.2

-- ---- so the grammar and the table are exact

pub settled : (text : List ℕ) → ((t : Term) × (after : List ℕ) × TermAt text t after) ⊎ ((f : TextFault) × AnyTermFault text f)
settled text = by (term_at text) refl
  where
    by : (r : TextRead Term) → term_at text ≡ r → ((t : Term) × (after : List ℕ) × TermAt text t after) ⊎ ((f : TextFault) × AnyTermFault text f)
    by (Ok x) e = inl (x.0, x.1, term_found text x.0 x.1 e)
    by (Err f) e = inr (f, term_fault text f e)

pub one_term : (text : List ℕ) (t u : Term) (after rest : List ℕ) → TermAt text t after → TermAt text u rest → (t ≡ u) × (after ≡ rest)
one_term text t u after rest a b =
    let same = ok_is (t, after) (u, rest) (sym (term_is_read text t after a) ∙ term_is_read text u rest b) in
    (ap (λ (x : Term × List ℕ). x.0) same, ap (λ (x : Term × List ℕ). x.1) same)

abbrev pub failed_term : TextFault → TextRead Term
failed_term f = Err f

pub same_fault : (f g : TextFault) → failed_term f ≡ Err g → f ≡ g
same_fault f g e = err_is f g e

pub one_fault : (text : List ℕ) (f g : TextFault) → AnyTermFault text f → AnyTermFault text g → f ≡ g
one_fault text f g a b = same_fault f g (sym (term_fault_is_met text f a) ∙ term_fault_is_met text g b)

pub apart : (text : List ℕ) (t : Term) (after : List ℕ) (f : TextFault) → TermAt text t after → AnyTermFault text f → ⊥
apart text t after f a b = not_read t after f (sym (term_is_read text t after a) ∙ term_fault_is_met text f b)

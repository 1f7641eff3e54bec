-- An IRIREF is read exactly where the grammar has one, and its first fault is the one that is named.
use Rattle.std.proofs.Common.{◌≡◌, ℕ, true, cond, List, [], ◌∷◌, ◌++◌, Ok, Err, refl, sym, ap, ◌∙◌, ⊎_elim, arith, append_assoc}
use Rattle.std.specs.Str.{encode_utf8_all}
use Rattle.rdf_terms.specs.Iri.{has_scheme}
use Rattle.nquads_text.specs.declared.fault.TextKind.TheVariants.{RelativeIri}
use Rattle.nquads_text.specs.Fault.{TextFault}
use Rattle.nquads_text.specs.Grammar.{IriPiece, IsIriRef}
use Rattle.nquads_text.specs.Reading.{iri_piece, iri_body_at}
use Rattle.nquads_text.specs.Terms.{iri_at, iri_needed}
use Rattle.nquads_text.specs.Faults.{IriFault}
use Rattle.nquads_text.proofs.Fronts.{char_at-ascii}
use Rattle.nquads_text.proofs.Spelled.{body_taken, body_again}
use Rattle.nquads_text.proofs.InString.{reads_iri}
use Rattle.nquads_text.proofs.Steps.{bind_ok, bind_err, chosen, ok_is, not_ok, not_both, err_is}
use Rattle.nquads_text.proofs.PieceFaults.{iri_body_fault, iri_body_stops}

pub behind_open : (rest : List ℕ) → iri_needed (60 ∷ rest) ≡ iri_at (60 ∷ rest) rest
unfolding iri_needed
behind_open rest = rw (char_at-ascii 60 rest (omega arith)) refl

-- what is read is an IRIREF of the grammar
pub iri_read : (rest iri after : List ℕ) → iri_needed (60 ∷ rest) ≡ Ok (iri, after) → (bytes : List ℕ) × IsIriRef bytes iri × (60 ∷ rest ≡ bytes ++ after)
unfolding iri_at
iri_read rest iri after e =
    let p = bind_ok (iri_body_at rest) (λ (x : List ℕ × List ℕ). cond (has_scheme x.0) (Ok x) (Err (RelativeIri, 60 ∷ rest))) (iri, after) (sym (behind_open rest) ∙ e) in
    let b = body_taken iri_piece IriPiece 62 reads_iri 0 rest p.0 p.1 in
    ⊎_elim
    (λ yes.
    let same = ok_is p.0 (iri, after) yes.1 in
    let value : iri ≡ encode_utf8_all b.chars = ap (λ (x : List ℕ × List ℕ). x.0) (sym same) ∙ b.value in
    let left : p.0.1 ≡ after = ap (λ (x : List ℕ × List ℕ). x.1) same in
    let scheme : has_scheme iri ≡ true = ap (λ (x : List ℕ × List ℕ). has_scheme x.0) (sym same) ∙ yes.0 in
    let parts : 60 ∷ rest ≡ ((60 ∷ b.body) ++ (62 ∷ [])) ++ after =
    ap (λ (t : List ℕ). 60 ∷ t) (b.parts ∙ ap (λ (t : List ℕ). b.body ++ 62 ∷ t) left ∙ sym (append_assoc b.body (62 ∷ []) after)) in
    ((60 ∷ b.body) ++ (62 ∷ []), (b.body, b.chars, refl, b.spelled, value, scheme), parts))
    (λ other. absurd (not_ok (iri, after) (RelativeIri, 60 ∷ rest) other.1))
    (chosen (has_scheme p.0.0) (Ok p.0) (Err (RelativeIri, 60 ∷ rest)) (Ok (iri, after)) p.2)

-- an IRIREF of the grammar is read, whatever follows
pub iri_is_read : (bytes iri after : List ℕ) → IsIriRef bytes iri → iri_needed (bytes ++ after) ≡ Ok (iri, after)
unfolding iri_at
iri_is_read bytes iri after g =
    let body = g.0 in let cs = g.1 in
    let shape : bytes ++ after ≡ 60 ∷ (body ++ 62 ∷ after) = ap (λ (t : List ℕ). t ++ after) g.2 ∙ ap (λ (t : List ℕ). 60 ∷ t) (append_assoc body (62 ∷ []) after) in
    let read = body_again iri_piece IriPiece 62 reads_iri body cs after g.3 in
    let scheme : has_scheme (encode_utf8_all cs) ≡ true = ap has_scheme (sym g.4) ∙ g.5 in
    ap iri_needed shape ∙ behind_open (body ++ 62 ∷ after) ∙ rw (read, scheme) (ap (λ (i : List ℕ). Ok (i, after)) (sym g.4))

-- the fault that is met is the first one
pub iri_fault_met : (rest : List ℕ) (f : TextFault) → iri_needed (60 ∷ rest) ≡ Err f → IriFault (60 ∷ rest) f
unfolding iri_at
iri_fault_met rest f e =
    ⊎_elim
    (λ inside. IriFault.inside (iri_body_fault rest f inside))
    (λ whole.
    let x = whole.0 in
    let b = body_taken iri_piece IriPiece 62 reads_iri 0 rest x whole.1 in
    ⊎_elim
    (λ yes. absurd (not_both x f yes.1))
    (λ other.
    IriFault.relative b.body b.chars x.1 (ap (λ (t : List ℕ). 60 ∷ t) b.parts) b.spelled (ap has_scheme (sym b.value) ∙ other.0) (sym (err_is (RelativeIri, 60 ∷ rest) f other.1)))
    (chosen (has_scheme x.0) (Ok x) (Err (RelativeIri, 60 ∷ rest)) (Err f) whole.2))
    (bind_err (iri_body_at rest) (λ (x : List ℕ × List ℕ). cond (has_scheme x.0) (Ok x) (Err (RelativeIri, 60 ∷ rest))) f (sym (behind_open rest) ∙ e))

-- and the first fault is met
pub iri_fault_is_met : (text : List ℕ) (f : TextFault) → IriFault text f → iri_needed text ≡ Err f
unfolding iri_at
iri_fault_is_met text f (IriFault.inside s) =
    ap iri_needed s.3 ∙ behind_open (s.0 ++ s.2) ∙ rw (iri_body_stops s.0 s.1 s.2 f s.4 s.5) refl
iri_fault_is_met text f (IriFault.relative body cs after shape spelled no_scheme is) =
    let read = body_again iri_piece IriPiece 62 reads_iri body cs after spelled in
    ap iri_needed shape ∙ behind_open (body ++ 62 ∷ after) ∙ rw (read, no_scheme) (ap (λ (t : List ℕ). Err (RelativeIri, t)) (sym shape)) ∙ ap (λ (g : TextFault). Err g) (sym is)

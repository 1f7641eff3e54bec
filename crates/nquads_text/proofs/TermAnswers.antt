-- What the answer of a reader of terms says, by the grammar and the table of faults.
use Rattle.std.proofs.Common.{◌≡◌, ℕ, ◌<◌, ◌≤◌, List, [], ◌∷◌, ◌++◌, length, drop, Result, Ok, Err, IfOk, IfErr, refl, sym, ap, ◌∙◌, arith}
use Rattle.std.proofs.lemmas.List.{length-append, length-drop}
use Rattle.rdf_terms.specs.declared.term.LiteralKind.{LiteralKind}
use Rattle.rdf_terms.specs.declared.term.Term.{Term}
use Rattle.rdf_terms.specs.declared.term.Term.TheVariants as term
use Rattle.nquads_text.specs.declared.fault.ReadFault.{ReadFault}
use Rattle.nquads_text.specs.declared.fault.ReadFault.TheVariants as faults
use Rattle.nquads_text.specs.Fault.{TextFault, Gives, FailsBy, IsAnswer, IsFaultAnswer}
use Rattle.nquads_text.specs.Faults.{AnyTermFault}
use Rattle.nquads_text.specs.Grammar.{IriRef, Suffix, TermAt}
use Rattle.nquads_text.specs.Terms.{term_at}
use Rattle.nquads_text.proofs.Steps.{not_both, ok_is}
use Rattle.nquads_text.proofs.TermReads.{term_found, term_is_read, term_fault, term_fault_is_met, same_fault}

-- ---- a term has a byte at least

iri_shorter : (text iri after : List ℕ) → IriRef text iri after → length after < length text
iri_shorter text iri after r =
    let shape : text ≡ 60 ∷ ((r.1.0 ++ 62 ∷ []) ++ after) = r.2 ∙ ap (λ (t : List ℕ). t ++ after) r.1.2 in
    let l : length text ≡ length (60 ∷ ((r.1.0 ++ 62 ∷ []) ++ after)) = ap length shape in
    omega (arith, length-append (r.1.0 ++ 62 ∷ []) after)

suffix_shorter : (text : List ℕ) (kind : LiteralKind) (after : List ℕ) → Suffix text kind after → length after ≤ length text
suffix_shorter text kind after (Suffix.plain no_at no_hat is same) = let l : length after ≡ length text = ap length same in omega arith
suffix_shorter text kind after (Suffix.typed iri d no_lang is) =
    let l : length text ≡ length (d.0 ++ 94 ∷ 94 ∷ (d.1 ++ d.2)) = ap length d.5 in
    let m = iri_shorter d.2 iri after d.6 in
    omega (arith, length-append d.0 (94 ∷ 94 ∷ (d.1 ++ d.2)), length-append d.1 d.2)
suffix_shorter text kind after (Suffix.tagged tag t is) =
    let l : length text ≡ length (64 ∷ t.0) = ap length t.1 in
    let m : length t.0 ≡ length (tag ++ after) = ap length t.2.1 in
    omega (arith, length-append tag after)

pub term_shorter : (text : List ℕ) (t : Term) (after : List ℕ) → TermAt text t after → length after < length text
term_shorter text (term.Iri iri) after r = iri_shorter text iri after r
term_shorter text (term.Blank label) after b =
    let l : length text ≡ length (95 ∷ 58 ∷ b.0) = ap length b.1 in
    let m : length b.0 ≡ length (label ++ after) = ap length b.2.1 in
    omega (arith, length-append label after)
term_shorter text (term.Literal literal) after g =
    let shape : text ≡ 34 ∷ ((g.2.0 ++ 34 ∷ []) ++ g.1) = g.3 ∙ ap (λ (t : List ℕ). t ++ g.1) g.2.2 in
    let l : length text ≡ length (34 ∷ ((g.2.0 ++ 34 ∷ []) ++ g.1)) = ap length shape in
    let m = suffix_shorter g.1 literal.kind after g.4 in
    omega (arith, length-append (g.2.0 ++ 34 ∷ []) g.1)

-- ---- the clauses of `read_term`

abbrev TermGiven : List ℕ → ℕ → Result (Term × ℕ) ReadFault → Type 0
TermGiven text at result = Gives text (λ t. t) result (term_at (drop at text))

pub answer_ok : (text : List ℕ) (at : ℕ) (result : Result (Term × ℕ) ReadFault) → at ≤ length text → TermGiven text at result
    → IfOk result (λ r. TermAt (drop at text) r.0 (drop r.1 text) × (at < r.1) × (r.1 ≤ length text))
answer_ok text at (Ok r) le g =
    let found = term_found (drop at text) r.0 (drop r.1 text) g.0 in
    let short = term_shorter (drop at text) r.0 (drop r.1 text) found in
    let high : r.1 ≤ length text = g.1 in
    let further : at < r.1 = omega (arith, length-drop at text, length-drop r.1 text) in
    (found, further, high)
answer_ok text at (Err e) le g = tt

pub answer_only : (text : List ℕ) (at : ℕ) (result : Result (Term × ℕ) ReadFault) → TermGiven text at result
    → (t : Term) (after : List ℕ) → TermAt (drop at text) t after → IsAnswer text result t after
answer_only text at (Ok r) g t after is =
    let same = ok_is (r.0, drop r.1 text) (t, after) (sym g.0 ∙ term_is_read (drop at text) t after is) in
    (ap (λ (x : Term × List ℕ). x.0) same, ap (λ (x : Term × List ℕ). x.1) same)
answer_only text at (Err (faults.At place kind)) g t after is = absurd (not_both (t, after) (kind, drop place text) (sym (term_is_read (drop at text) t after is) ∙ g.0))
answer_only text at (Err faults.OutOfMemory) g t after is = refl

pub answer_fault : (text : List ℕ) (at : ℕ) (result : Result (Term × ℕ) ReadFault) → TermGiven text at result → IfErr result (FailsBy (AnyTermFault (drop at text)) text)
answer_fault text at (Ok r) g = tt
answer_fault text at (Err (faults.At place kind)) g = (term_fault (drop at text) (kind, drop place text) g.0, g.1)
answer_fault text at (Err faults.OutOfMemory) g = tt

pub answer_only_fault : (text : List ℕ) (at : ℕ) (result : Result (Term × ℕ) ReadFault) → TermGiven text at result
    → (f : TextFault) → AnyTermFault (drop at text) f → IsFaultAnswer text result f
answer_only_fault text at (Ok r) g f is = not_both (r.0, drop r.1 text) f (sym g.0 ∙ term_fault_is_met (drop at text) f is)
answer_only_fault text at (Err (faults.At place kind)) g f is = same_fault (kind, drop place text) f (sym g.0 ∙ term_fault_is_met (drop at text) f is)
answer_only_fault text at (Err faults.OutOfMemory) g f is = tt

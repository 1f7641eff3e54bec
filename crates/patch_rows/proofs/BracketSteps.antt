-- What stands between brackets.
use Rattle.std.proofs.Common.{◌≡◌, ℕ, ◌+◌, ◌≤◌, Bool, true, false, cond, List, [], ◌∷◌, length, drop, Ok, Err, nat_eq, refl, sym, ap, ◌∙◌, arith, eq-eqb, inl, inr}
use Rattle.std.proofs.lemmas.List.{length-drop, drop_more, drop_all}
use Rattle.std.proofs.lemmas.Bool.{ne_eqb, cases_lt, false≢true}
use Rattle.rdf_terms.specs.declared.term.Term.TheVariants as term
use Rattle.nquads_text.specs.declared.fault.TextKind.TheVariants.{BadLabel}
use Rattle.nquads_text.specs.Fault.{TextFault, TextRead}
use Rattle.nquads_text.specs.Terms.{term_at}
use Rattle.nquads_text.proofs.Allowed.{body_is_iri}
use Rattle.patch_rows.specs.declared.fault.RowKind.TheVariants.{Common}
use Rattle.patch_rows.specs.Fault.{in_row}
use Rattle.patch_rows.specs.Reading.{stands, begins_blank, whole_label, bracket_at, row_term_at}

pub two_bytes : (bytes : List ℕ) → begins_blank bytes ≡ true → 1 ≤ length bytes
two_bytes [] e = absurd cc
two_bytes (a ∷ rest) e = omega arith

pub label_whole : (start after body label : List ℕ) (read : TextRead (List ℕ)) (size : ℕ) → read ≡ Ok (label, drop size body) → size ≡ length body → whole_label start after read ≡ Ok (term.Blank label, after)
label_whole start after body label read size e all =
    let none : nat_eq (length (drop size body)) 0 ≡ true = eq-eqb (length (drop size body)) 0 (omega (arith, length-drop size body)) in rw e (rw none refl)

pub label_short : (start after body label : List ℕ) (read : TextRead (List ℕ)) (size : ℕ) → read ≡ Ok (label, drop size body) → size ≤ length body → (size ≡ length body → ⊥) → whole_label start after read ≡ Err (Common BadLabel, start)
label_short start after body label read size e le short =
    let some : nat_eq (length (drop size body)) 0 ≡ false = ne_eqb (length (drop size body)) 0 (λ none. short (omega (arith, none, length-drop size body))) in rw e (rw some refl)

pub label_bad : (start after : List ℕ) (read : TextRead (List ℕ)) (f : TextFault) → read ≡ Err f → whole_label start after read ≡ Err (Common BadLabel, start)
label_bad start after read f e = rw e refl

pub ruleset whole_steps = (label_whole, label_short, label_bad)

pub ruleset bracket_steps = (body_is_iri, two_bytes)

-- a term by its first byte
by_first : (rest : List ℕ) → row_term_at rest ≡ cond (stands (λ c. nat_eq c 60) rest) (bracket_at rest (drop 1 rest)) (in_row (term_at rest))
unfolding row_term_at
by_first [] = refl
by_first (b ∷ rest) = refl

some_left : (text : List ℕ) (at : ℕ) (test : ℕ → Bool) → stands test (drop at text) ≡ true → drop 1 (drop at text) ≡ drop (at + 1) text
some_left text at test e =
    elim (cases_lt at (length text)) [
      | inl lt ↦ let here = drop_more text at 0 lt in rw here refl
      | inr ge ↦ let none : drop at text ≡ [] = drop_all at text ge in absurd (false≢true (ap (stands test) (sym none) ∙ e))
    ]

pub in_brackets : (text : List ℕ) (at : ℕ) → stands (λ c. nat_eq c 60) (drop at text) ≡ true → row_term_at (drop at text) ≡ bracket_at (drop at text) (drop (at + 1) text)
in_brackets text at e = rw (by_first (drop at text), e, some_left text at (λ c. nat_eq c 60) e) refl

pub in_no_brackets : (text : List ℕ) (at : ℕ) → stands (λ c. nat_eq c 60) (drop at text) ≡ false → row_term_at (drop at text) ≡ in_row (term_at (drop at text))
in_no_brackets text at e = rw (by_first (drop at text), e) refl

pub ruleset term_steps = (in_brackets, in_no_brackets)

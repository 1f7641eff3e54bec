-- What stands behind a term settles it.
use Rattle.std.proofs.Common.{◌≡◌, ℕ, suc, ◌+◌, ◌<◌, ◌≤◌, Bool, true, false, List, [], ◌∷◌, length, drop, get_or, nat_lt, ◌==◌, ◌&&◌, Ok, refl, inl, sym, ap, subst, ◌∙◌, arith}
use Rattle.std.specs.List.{list_all}
use Rattle.std.proofs.lemmas.Bool.{and_parts, false≢true, ne_eqb}
use Rattle.std.proofs.lemmas.Bool.Decides.{nat_tests}
use Rattle.std.proofs.lemmas.List.{drop_more, length-drop}
use Rattle.rdf_terms.specs.declared.term.Term.{Term}
use Rattle.rdf_terms.specs.declared.term.Term.TheVariants as term
use Rattle.rdf_terms.specs.declared.term.LiteralKind.{LiteralKind}
use Rattle.rdf_terms.specs.declared.term.LiteralKind.TheVariants.{Plain, Typed, Tagged}
use Rattle.nquads_text.specs.Grammar.{TermAt, is_blank}
use Rattle.nquads_text.specs.Terms.{skip_blanks}
use Rattle.patch_rows.specs.declared.cut.TextEnd.TheVariants.{Open}
use Rattle.patch_rows.specs.Cut.{begins_name_char, blank_open, kind_open, label_open, literal_open}
use Rattle.patch_rows.specs.Rows.{open_term, placed_of}
use Rattle.patch_rows.specs.Reading.{needed_term_at, stands}
use Rattle.patch_rows.proofs.CutSteps.{dot_more, dot_stops}
use Rattle.patch_rows.proofs.TermLaws.{exact_needed}
use Rattle.row_lines.specs.Written.{SettlesTerm}

-- ---- the bytes that are looked at

all_skipped : (rest : List ℕ) → list_all is_blank rest ≡ true → skip_blanks rest ≡ []
unfolding skip_blanks
all_skipped [] e = refl
all_skipped (b ∷ rest) e = let both = and_parts (is_blank b) (list_all is_blank rest) e in rw both.0 (all_skipped rest both.1)

-- behind blanks something stands
not_blank : (text : List ℕ) (at next : ℕ) → drop next text ≡ skip_blanks (drop at text) → next < length text → list_all is_blank (drop at text) ≡ false
not_blank text at next skipped within = by (list_all is_blank (drop at text)) refl
  where
    by : (all : Bool) → list_all is_blank (drop at text) ≡ all → all ≡ false
    by false e = refl
    by true e = let none = ap length (skipped ∙ all_skipped (drop at text) e) in absurd (omega (arith, none, within, length-drop next text))

low_byte : (b : ℕ) (rest : List ℕ) → nat_lt b 128 ≡ true → begins_name_char (b ∷ rest) ≡ false
low_byte b rest low = let no : nat_lt 0xC1 b ≡ false = grind (arith, nat_tests, low) in rw no refl

no_label : (text : List ℕ) (at : ℕ) → at < length text → (get_or text at 0 ≡ 46 → ⊥) → nat_lt (get_or text at 0) 128 ≡ true → label_open (drop at text) ≡ false
no_label text at lt other low =
    sym (dot_stops text at lt other) ∙ subst (λ (t : List ℕ). begins_name_char t ≡ false) (sym (drop_more text at 0 lt)) (low_byte (get_or text at 0) (drop (at + 1) text) low)

-- by the byte behind the term, or by the one behind a dot
pub by_byte : (text : List ℕ) (at next : ℕ) → drop next text ≡ skip_blanks (drop at text) → (next ≡ length text → ⊥) → next ≤ length text → at ≤ next → (get_or text at 0 ≡ 46 → ⊥) → nat_lt (get_or text at 0) 128 ≡ true → SettlesTerm (drop at text)
by_byte text at next skipped some within low other byte = (no_label text at (omega (arith, some, within, low)) other byte, not_blank text at next skipped (omega (arith, some, within)))

pub by_dot : (text : List ℕ) (at next : ℕ) → drop next text ≡ skip_blanks (drop at text) → (next ≡ length text → ⊥) → next ≤ length text → at ≤ next → get_or text at 0 ≡ 46
    → at + 1 < length text → (get_or text (at + 1) 0 ≡ 46 → ⊥) → nat_lt (get_or text (at + 1) 0) 128 ≡ true → SettlesTerm (drop at text)
by_dot text at next skipped some within low dot lt other byte =
    (sym (dot_more text at (omega (arith, some, within, low)) dot) ∙ no_label text (at + 1) lt other byte, not_blank text at next skipped (omega (arith, some, within)))

-- ---- terms

closed_kind : (kind : LiteralKind) (quoted : Bool) (after : List ℕ) → SettlesTerm after → kind_open kind quoted after ≡ false
unfolding label_open
closed_kind Plain true after s = s.1
closed_kind Plain false after s = refl
closed_kind (Typed iri) quoted after s = refl
closed_kind (Tagged tag) quoted [] s = absurd (false≢true (sym s.0))
closed_kind (Tagged tag) quoted (b ∷ after) s = ne_eqb (suc (length after)) 0 (λ none. omega (arith, none))

closed_literal : (start : List ℕ) (t : Term) (after : List ℕ) → SettlesTerm after → literal_open start t after ≡ false
closed_literal start (term.Iri iri) after s = refl
closed_literal start (term.Blank label) after s = refl
closed_literal start (term.Literal literal) after s = closed_kind literal.kind _ after s

closed_blank : (start : List ℕ) (t : Term) (after : List ℕ) → SettlesTerm after → blank_open start t after ≡ false
closed_blank start (term.Iri iri) after s = refl
closed_blank start (term.Blank label) after s = by (stands (λ b. b == 95) start)
  where
    by : (begun : Bool) → (begun && label_open after) ≡ false
    by true = s.0
    by false = refl
closed_blank start (term.Literal literal) after s = refl

-- a term as in N-Triples stands in its place, whatever follows
pub placed_there : (fits : Term → Bool) (rest : List ℕ) (t : Term) (after : List ℕ) → TermAt rest t after → fits t ≡ true → SettlesTerm after → placed_of Open fits rest ≡ Ok (t, after)
unfolding placed_of open_term
placed_there fits rest t after is fit s =
    let needed : needed_term_at rest ≡ Ok (t, after) = (exact_needed rest).again (t, after) (inl is) in
    let literal = closed_literal rest t after s in
    let blank = closed_blank rest t after s in
    rw (needed, literal, fit, blank) refl

-- Steps over the parts of a document.
use Rattle.std.proofs.Common.{◌≡◌, ℕ, ◌+◌, ◌<◌, true, false, List, [], ◌∷◌, length, drop, get_or, None, Ok, refl, sym, ap, ◌∙◌, arith}
use Rattle.std.proofs.lemmas.List.{drop_more, drop_all}
use Rattle.std.proofs.lemmas.Bool.{ne_eqb}
use Rattle.nquads_text.specs.Terms.{skip_blanks}
use Rattle.nquads_text.specs.Grammar.{is_line_end}
use Rattle.nquads_documents.specs.Reading.{comment_at, no_end_at, end_by, line_end_at, comment_part, statement_part, part_by, document_part_at}

pub end_none : (text rest : List ℕ) (at : ℕ) → drop at text ≡ skip_blanks rest → at ≡ length text → line_end_at rest ≡ Ok (tt, drop at text)
unfolding line_end_at
end_none text rest at e le = let none : drop at text ≡ [] = drop_all at text (omega arith) in ap end_by (sym e) ∙ rw none refl

pub end_line : (text rest : List ℕ) (at : ℕ) → drop at text ≡ skip_blanks rest → at < length text → is_line_end (get_or text at 0) ≡ true → line_end_at rest ≡ Ok (tt, drop at text)
unfolding line_end_at
end_line text rest at e lt is = let here : drop at text ≡ get_or text at 0 ∷ drop (at + 1) text = drop_more text at 0 lt in ap end_by (sym e) ∙ rw (here, is) refl

pub end_comment : (text rest : List ℕ) (at : ℕ) → drop at text ≡ skip_blanks rest → at < length text → is_line_end (get_or text at 0) ≡ false → get_or text at 0 ≡ 35 → line_end_at rest ≡ comment_at 0 (drop (at + 1) text)
unfolding line_end_at
end_comment text rest at e lt is hash = let here : drop at text ≡ get_or text at 0 ∷ drop (at + 1) text = drop_more text at 0 lt in ap end_by (sym e) ∙ rw (here, is, hash) refl

pub end_bad : (text rest : List ℕ) (at : ℕ) → drop at text ≡ skip_blanks rest → at < length text → is_line_end (get_or text at 0) ≡ false → (get_or text at 0 ≡ 35 → ⊥)
    → line_end_at rest ≡ no_end_at (drop at text)
unfolding line_end_at
end_bad text rest at e lt is hash = let here : drop at text ≡ get_or text at 0 ∷ drop (at + 1) text = drop_more text at 0 lt in ap end_by (sym e) ∙ rw (here, is, ne_eqb (get_or text at 0) 35 hash) refl

pub ruleset end_steps = (end_none, end_line, end_comment, end_bad)

pub part_none : (text rest : List ℕ) (at : ℕ) → drop at text ≡ skip_blanks rest → at ≡ length text → document_part_at rest ≡ Ok (None, drop at text)
unfolding document_part_at
part_none text rest at e le = let none : drop at text ≡ [] = drop_all at text (omega arith) in ap part_by (sym e) ∙ rw none refl

pub part_line : (text rest : List ℕ) (at : ℕ) → drop at text ≡ skip_blanks rest → at < length text → is_line_end (get_or text at 0) ≡ true → document_part_at rest ≡ Ok (None, drop (at + 1) text)
unfolding document_part_at
part_line text rest at e lt is = let here : drop at text ≡ get_or text at 0 ∷ drop (at + 1) text = drop_more text at 0 lt in ap part_by (sym e) ∙ rw (here, is) refl

pub part_comment : (text rest : List ℕ) (at : ℕ) → drop at text ≡ skip_blanks rest → at < length text → is_line_end (get_or text at 0) ≡ false → get_or text at 0 ≡ 35
    → document_part_at rest ≡ comment_part (drop (at + 1) text)
unfolding document_part_at
part_comment text rest at e lt is hash = let here : drop at text ≡ get_or text at 0 ∷ drop (at + 1) text = drop_more text at 0 lt in ap part_by (sym e) ∙ rw (here, is, hash) refl

pub part_statement : (text rest : List ℕ) (at : ℕ) → drop at text ≡ skip_blanks rest → at < length text → is_line_end (get_or text at 0) ≡ false → (get_or text at 0 ≡ 35 → ⊥)
    → document_part_at rest ≡ statement_part (drop at text)
unfolding document_part_at
part_statement text rest at e lt is hash = let here : drop at text ≡ get_or text at 0 ∷ drop (at + 1) text = drop_more text at 0 lt in ap part_by (sym e) ∙ rw (here, is, ne_eqb (get_or text at 0) 35 hash) refl

pub ruleset part_steps = (part_none, part_line, part_comment, part_statement)

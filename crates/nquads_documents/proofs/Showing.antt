-- The lines of the statements that were read so far, those that are lent from the text and those that were printed.
use Rattle.std.proofs.Common.{◌≡◌, ◌↔◌, ◌⊎◌, ℕ, zero, suc, ◌<◌, ◌≤◌, Bool, true, false, List, [], ◌∷◌, ◌++◌, length, drop, map, get_or, Option, Some, None, Ok, Err, refl, sym, ap, subst, ◌∙◌, inl, inr, ⊎_elim, arith, append_assoc}
use Rattle.std.specs.List.{Contains, slice_range}
use Rattle.std.proofs.lemmas.List.{map-append, append-nil}
use Rattle.std.proofs.lemmas.List.Elements.{Contains-append_cases, Contains-append_left, Contains-append_right}
use Rattle.rdf_terms.specs.Quad.{Statement}
use Rattle.rdf_terms.specs.Line.{line, lines as lines_of}
use Rattle.canonical_scan.specs.Found.{HasLine, IsLineThere}
use Rattle.nquads_text.specs.Fault.{TextRead}
use Rattle.nquads_documents.specs.Grammar.{of_line}
use Rattle.nquads_documents.specs.Reading.{document_part_at, document_at}
use Rattle.nquads_documents.specs.Shown.{AreCuts, AreLinesOf, PushesPart, cut_lines, is_statement}
use Rattle.nquads_documents.proofs.Cuts.{cut_more, cuts_more}
use Rattle.nquads_documents.proofs.Documents.{after_part, after_quads, part_read}
use Rattle.nquads_documents.proofs.LineLaws.{line_read}
use Rattle.nquads_documents.proofs.Shorter.{part_further}

-- the lines are those of some statements, and reading goes on behind these
pub record AreShown (text printed : List ℕ) (lent : List (List ℕ)) (ends : List ℕ) (at : ℕ) : Type 0 where
  pub quads : List Statement
  pub cuts : AreCuts printed 0 ends
  pub lines : AreLinesOf quads (lent ++ cut_lines printed 0 ends)
  pub so_far : after_quads quads (document_at 0 (drop at text)) ≡ document_at 0 text
  pub within : at ≤ length text

read_all : (text : List ℕ) → after_quads [] (document_at 0 text) ≡ document_at 0 text
read_all text = by (document_at 0 text)
  where
    by : (read : TextRead (List Statement)) → after_quads [] read ≡ read
    by (Ok x) = refl
    by (Err f) = refl

pub none_shown : (text : List ℕ) → AreShown text [] [] [] 0
none_shown text = record { quads = []; cuts = refl; lines = λ l. (λ has. has, λ has. has); so_far = read_all text; within = omega arith }

-- ---- one line more

only : (x l : List ℕ) → Contains (x ∷ []) l → l ≡ x
only x l has = by has.0 has.1 has.2
  where
    by : (k : ℕ) → k < 1 → get_or (x ∷ []) k l ≡ l → l ≡ x
    by zero lt e = sym e
    by (suc k) lt e = absurd (omega arith)

itself : (x : List ℕ) → Contains (x ∷ []) x
itself x = (0, omega arith, refl)

-- the new lines are the old ones and this one
abbrev HasOneMore : List (List ℕ) → List (List ℕ) → List ℕ → Type 0
HasOneMore old new x = (l : List ℕ) → Contains new l ↔ (Contains old l ⊎ (l ≡ x))

one_more : (quads : List Statement) (old new : List (List ℕ)) (q : Statement) → HasOneMore old new (line q) → AreLinesOf quads old → AreLinesOf (quads ++ q ∷ []) new
one_more quads old new q more are l = (there, back)
  where
    shown : map line (quads ++ q ∷ []) ≡ map line quads ++ line q ∷ []
    shown = map-append line quads (q ∷ [])

    there : Contains new l → Contains (map line (quads ++ q ∷ [])) l
    there has = subst (λ (ls : List (List ℕ)). Contains ls l) (sym shown) (⊎_elim
        (λ old_one. Contains-append_left (map line quads) (line q ∷ []) l ((are l).0 old_one))
        (λ same. subst (λ (m : List ℕ). Contains (map line quads ++ line q ∷ []) m) (sym same) (Contains-append_right (map line quads) (line q ∷ []) (line q) (itself (line q))))
        ((more l).0 has))

    back : Contains (map line (quads ++ q ∷ [])) l → Contains new l
    back has = (more l).1 (⊎_elim
        (λ old_one. inl ((are l).1 old_one))
        (λ this. inr (only (line q) l this))
        (Contains-append_cases (map line quads) (line q ∷ []) l (subst (λ (ls : List (List ℕ)). Contains ls l) shown has)))

behind_all : (lines : List (List ℕ)) (x : List ℕ) → HasOneMore lines (lines ++ x ∷ []) x
behind_all lines x l = (
  λ has. ⊎_elim (λ old. inl old) (λ this. inr (only x l this)) (Contains-append_cases lines (x ∷ []) l has),
  λ either. ⊎_elim
      (λ old. Contains-append_left lines (x ∷ []) l old)
      (λ same. subst (λ (m : List ℕ). Contains (lines ++ x ∷ []) m) (sym same) (Contains-append_right lines (x ∷ []) x (itself x)))
      either,
)

between : (front back : List (List ℕ)) (x : List ℕ) → HasOneMore (front ++ back) ((front ++ x ∷ []) ++ back) x
between front back x l = (
  λ has. ⊎_elim
      (λ before. ⊎_elim (λ old. inl (Contains-append_left front back l old)) (λ same. inr same) ((behind_all front x l).0 before))
      (λ after. inl (Contains-append_right front back l after))
      (Contains-append_cases (front ++ x ∷ []) back l has),
  λ either. ⊎_elim
      (λ old. ⊎_elim
      (λ before. Contains-append_left (front ++ x ∷ []) back l ((behind_all front x l).1 (inl before)))
      (λ after. Contains-append_right (front ++ x ∷ []) back l after)
      (Contains-append_cases front back l old))
      (λ same. Contains-append_left (front ++ x ∷ []) back l ((behind_all front x l).1 (inr same)))
      either,
)

-- ---- steps

-- a canonical line is lent
pub lent_more : (text printed : List ℕ) (lent : List (List ℕ)) (ends : List ℕ) (at end : ℕ) → HasLine text at end → AreShown text printed lent ends at → AreShown text printed (lent ++ slice_range text at end ∷ []) ends end
lent_more text printed lent ends at end has are = by has.0 has.1
  where
    by : (q : Statement) → IsLineThere text at end q → AreShown text printed (lent ++ slice_range text at end ∷ []) ends end
    by q is = record {
      quads = are.quads ++ q ∷ [];
      cuts = are.cuts;
      lines = rw is.bytes (one_more are.quads (lent ++ cut_lines printed 0 ends) ((lent ++ line q ∷ []) ++ cut_lines printed 0 ends) q (between lent (cut_lines printed 0 ends) (line q)) are.lines);
      so_far =
          sym (after_part are.quads (Some q) (document_at 0 (drop end text)))
          ∙ ap (after_quads are.quads) (sym (ap (document_at 0) is.stands ∙ line_read q (drop end text) (is.quads, is.values)))
          ∙ are.so_far;
      within = is.within;
    }

pub line_further : (text : List ℕ) (at end : ℕ) → HasLine text at end → at < end
line_further text at end has = by has.0 has.1
  where
    by : (q : Statement) → IsLineThere text at end q → at < end
    by q is = is.further

pub goes_further : (text old new : List ℕ) (at : ℕ) (x : Bool × ℕ) → at < length text → PushesPart text old new (Ok x) (document_part_at (drop at text)) → at < x.1
goes_further text old new at x lt p = part_further text at x.1 p.0 lt p.2 p.1

-- a part with a line
pub printed_more : (text printed new : List ℕ) (lent : List (List ℕ)) (ends : List ℕ) (at next : ℕ) → at < length text → PushesPart text printed new (Ok (true, next)) (document_part_at (drop at text))
    → AreShown text printed lent ends at → AreShown text new lent (ends ++ length new ∷ []) next
printed_more text printed new lent ends at next lt p are = by p.0 p.1 p.3 p.4
  where
    by : (q : Option Statement) → document_part_at (drop at text) ≡ Ok (q, drop next text) → true ≡ is_statement q → new ≡ printed ++ lines_of (of_line q) → AreShown text new lent (ends ++ length new ∷ []) next
    by None e is grown = absurd cc
    by (Some q) e is grown =
        let whole : new ≡ printed ++ line q = grown ∙ ap (λ (b : List ℕ). printed ++ b) (append-nil (line q)) in
        let with_it = one_more are.quads (lent ++ cut_lines printed 0 ends) ((lent ++ cut_lines printed 0 ends) ++ line q ∷ []) q (behind_all (lent ++ cut_lines printed 0 ends) (line q)) are.lines in
        rw whole (record {
          quads = are.quads ++ q ∷ [];
          cuts = cuts_more printed (line q) ends 0 are.cuts;
          lines = subst (AreLinesOf (are.quads ++ q ∷ [])) (append_assoc lent (cut_lines printed 0 ends) (line q ∷ []) ∙ ap (λ (ls : List (List ℕ)). lent ++ ls) (sym (cut_more printed (line q) ends 0 are.cuts))) with_it;
          so_far = part_read text are.quads at next (Some q) (document_at 0 text) (goes_further text printed new at (true, next) lt p) p.2 e are.so_far;
          within = p.2;
        })

-- a part with none
pub none_more : (text printed new : List ℕ) (lent : List (List ℕ)) (ends : List ℕ) (at next : ℕ) → at < length text → PushesPart text printed new (Ok (false, next)) (document_part_at (drop at text))
    → AreShown text printed lent ends at → AreShown text new lent ends next
none_more text printed new lent ends at next lt p are = by p.0 p.1 p.3 p.4
  where
    by : (q : Option Statement) → document_part_at (drop at text) ≡ Ok (q, drop next text) → false ≡ is_statement q → new ≡ printed ++ lines_of (of_line q) → AreShown text new lent ends next
    by (Some q) e is grown = absurd cc
    by None e is grown =
        let whole : new ≡ printed = grown ∙ append-nil printed in
        rw whole (record {
          quads = are.quads;
          cuts = are.cuts;
          lines = are.lines;
          so_far =
              ap (λ (q : List Statement). after_quads q (document_at 0 (drop next text))) (sym (append-nil are.quads))
              ∙ part_read text are.quads at next None (document_at 0 text) (goes_further text printed new at (false, next) lt p) p.2 e are.so_far;
          within = p.2;
        })

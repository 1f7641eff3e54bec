-- What is read of a row whose text may go on is all that is decided of it.
use Rattle.std.proofs.Common.{◌≡◌, ℕ, ◌≤◌, Bool, true, false, List, [], ◌∷◌, ◌++◌, length, Ok, Err, refl, sym, ap, subst, ◌∙◌, ◌⊎◌, inl, inr, ⊎_elim, arith, append-nil}
use Rattle.std.proofs.lemmas.Bool.{false≢true}
use Rattle.std.proofs.lemmas.List.{length-append}
use Rattle.nquads_text.specs.declared.fault.TextKind.TheVariants.{NotUtf8, Truncated}
use Rattle.nquads_text.specs.Reading.{char_at}
use Rattle.patch_rows.specs.declared.fault.RowKind.{RowKind}
use Rattle.patch_rows.specs.declared.fault.RowKind.TheVariants.{Common}
use Rattle.patch_rows.specs.declared.row.Row.{Row}
use Rattle.patch_rows.specs.Fault.{Fault, Read}
use Rattle.patch_rows.specs.Rows.{live_row, row_at}
use Rattle.patch_rows.proofs.WholeRow.{exact_row}
use Rattle.patch_rows.specs.Cut.{AtEnd, is_front, ends_text, ends_row}
use Rattle.patch_rows.specs.Faults.{FaultDecided}
use Rattle.patch_rows.specs.Grammar.{RowDecided}
use Rattle.patch_reader.specs.Decided.{Undecided}
use Rattle.patch_reader.proofs.Completions.{stop, completed}
use Rattle.patch_reader.proofs.Opens.{row_stop, Outcome, row_ends, row_decided, fault_decided}
use Rattle.patch_reader.proofs.RowShapes.{truncated_ends, ill_formed_stands}

abbrev given : Row × List ℕ → Read Row
given x = Ok x

abbrev failed : Fault → Read Row
failed f = Err f

ok_no_err : (x : Row × List ℕ) (f : Fault) → given x ≡ failed f → ⊥
ok_no_err x f e = absurd cc

ok_is : (x y : Row × List ℕ) → given x ≡ given y → x ≡ y
ok_is x y e = cc

err_is : (f g : Fault) → failed f ≡ failed g → f ≡ g
err_is f g e = cc

-- the kinds of a text's end
data EndKind (kind : RowKind) (rest : List ℕ) : Type 0 where
  cut : kind ≡ Common Truncated → EndKind kind rest
  front : kind ≡ Common NotUtf8 → is_front rest ≡ true → EndKind kind rest

end_kind : (kind : RowKind) (rest : List ℕ) → ends_row kind rest ≡ true → EndKind kind rest
unfolding ends_row ends_text
end_kind (Common NotUtf8) rest e = EndKind.front refl e
end_kind (Common Truncated) rest e = EndKind.cut refl
end_kind _ rest e = absurd (false≢true e)

-- a fault of the text's end is none of a longer text
module _ (text : List ℕ) where
  decided_fault : (f : Fault) → FaultDecided text f → (more : List ℕ) → row_at (text ++ more) ≡ Err (f.0, f.1 ++ more)
  decided_fault f d more = (exact_row (text ++ more)).only (f.0, f.1 ++ more) (d more)

  decided_row : (r : Row) (after : List ℕ) → RowDecided text r after → (more : List ℕ) → row_at (text ++ more) ≡ Ok (r, after ++ more)
  decided_row r after d more = (exact_row (text ++ more)).again (r, after ++ more) (d more)

  no_cut : (rest : List ℕ) → FaultDecided text (Common Truncated, rest) → ⊥
  no_cut rest d =
      let none = truncated_ends (text ++ (0 ∷ [])) (rest ++ (0 ∷ [])) (decided_fault (Common Truncated, rest) d (0 ∷ [])) in
      let size = ap length none in
      absurd (omega (arith, size, length-append rest (0 ∷ [])))

  no_front : (rest : List ℕ) → is_front rest ≡ true → FaultDecided text (Common NotUtf8, rest) → ⊥
  no_front [] e d = false≢true e
  no_front (b ∷ bs) e d =
      let w = completed b bs e in
      let ill = ill_formed_stands (text ++ (w.0 ++ stop)) ((b ∷ bs) ++ (w.0 ++ stop)) (decided_fault (Common NotUtf8, b ∷ bs) d (w.0 ++ stop)) in
      char_there w.1 stop ((b ∷ bs) ++ (w.0 ++ stop)) w.2 ill
    where
      char_there : (c : ℕ) (after rest : List ℕ) → char_at rest ≡ Ok (c, after) → char_at rest ≡ Err (NotUtf8, rest) → ⊥
      char_there c after rest e f = let both = sym e ∙ f in absurd cc

  no_ended_fault : (f : Fault) → ends_row f.0 f.1 ≡ true → FaultDecided text f → ⊥
  no_ended_fault f e d = by (end_kind f.0 f.1 e)
    where
      by : EndKind f.0 f.1 → ⊥
      by (EndKind.cut is) = no_cut f.1 (subst (λ (k : RowKind). FaultDecided text (k, f.1)) is d)
      by (EndKind.front is there) = no_front f.1 there (subst (λ (k : RowKind). FaultDecided text (k, f.1)) is d)

  ended_row : AtEnd (row_at (text ++ [])) → (r : Row) (after : List ℕ) → RowDecided text r after → ⊥
  ended_row a r after d = subst AtEnd (decided_row r after d []) a

  ended_fault : AtEnd (row_at (text ++ [])) → (f : Fault) → FaultDecided text f → ⊥
  ended_fault a f d =
      let there = subst AtEnd (decided_fault f d []) a in
      no_ended_fault f (ap (ends_row f.0) (sym (append-nil f.1)) ∙ there) d

  broken_fault : (bytes : List ℕ) → 2 ≤ length bytes → row_at (text ++ bytes) ≡ Err row_stop → (f : Fault) → FaultDecided text f → ⊥
  broken_fault bytes two is f d =
      let same = err_is (f.0, f.1 ++ bytes) row_stop (sym (decided_fault f d bytes) ∙ is) in
      let size = ap (λ (g : Fault). length g.1) same in
      absurd (omega (arith, size, two, length-append f.1 bytes))

  pub undecided : (f : Fault) → live_row text ≡ Err f → ends_row f.0 f.1 ≡ true → Undecided text
  undecided f e open_end = by (row_ends text (subst AtEnd (sym e) open_end))
    where
      by : Outcome (λ bytes. row_at (text ++ bytes)) ⊥ → Undecided text
      by (Outcome.ended a) = (ended_row a, ended_fault a)
      by (Outcome.broken bytes two is) = ((λ r after d. ok_no_err (r, after ++ bytes) row_stop (sym (decided_row r after d bytes) ∙ is)), broken_fault bytes two is)
      by (Outcome.otherwise none) = absurd none

-- all that is decided is read
module _ (text : List ℕ) where
  no_open : (f : Fault) → live_row text ≡ Err f → (open_end : Bool) → ends_row f.0 f.1 ≡ open_end → Undecided text ⊎ FaultDecided text f
  no_open f e true o = inl (undecided text f e o)
  no_open f e false o = inr (fault_decided text f e o)

  pub only_row : (r : Row) (after : List ℕ) → RowDecided text r after → live_row text ≡ Ok (r, after)
  only_row r after d = by (live_row text) refl
    where
      by : (read : Read Row) → live_row text ≡ read → live_row text ≡ Ok (r, after)
      by (Ok x) e =
          let other = decided_row text x.0 x.1 (row_decided text x.0 x.1 e) [] in
          let same = ok_is (x.0, x.1 ++ []) (r, after ++ []) (sym other ∙ decided_row text r after d []) in
          let row_is = ap (λ (y : Row × List ℕ). y.0) same in
          let after_is = sym (append-nil x.1) ∙ ap (λ (y : Row × List ℕ). y.1) same ∙ append-nil after in
          e ∙ ap (λ (y : Row). Ok (y, x.1)) row_is ∙ ap (λ (s : List ℕ). Ok (r, s)) after_is
      by (Err f) e = ⊎_elim
          (λ none. absurd (none.0 r after d))
          (λ bad. absurd (ok_no_err (r, after ++ []) (f.0, f.1 ++ []) (sym (decided_row text r after d []) ∙ decided_fault text f bad [])))
          (no_open f e (ends_row f.0 f.1) refl)

  pub only_fault : (f : Fault) → FaultDecided text f → (live_row text ≡ Err f) × (ends_row f.0 f.1 ≡ false)
  only_fault f d = by (live_row text) refl
    where
      by : (read : Read Row) → live_row text ≡ read → (live_row text ≡ Err f) × (ends_row f.0 f.1 ≡ false)
      by (Ok x) e = absurd (ok_no_err (x.0, x.1 ++ []) (f.0, f.1 ++ []) (sym (decided_row text x.0 x.1 (row_decided text x.0 x.1 e) []) ∙ decided_fault text f d []))
      by (Err g) e = met (ends_row g.0 g.1) refl
        where
          met : (o : Bool) → ends_row g.0 g.1 ≡ o → (live_row text ≡ Err f) × (ends_row f.0 f.1 ≡ false)
          met true o = absurd ((undecided text g e o).1 f d)
          met false o =
              let same = err_is (g.0, g.1 ++ []) (f.0, f.1 ++ []) (sym (decided_fault text g (fault_decided text g e o) []) ∙ decided_fault text f d []) in
              let kind_is = ap (λ (h : Fault). h.0) same in
              let rest_is = sym (append-nil g.1) ∙ ap (λ (h : Fault). h.1) same ∙ append-nil f.1 in (
                e ∙ ap (λ (k : RowKind). failed (k, g.1)) kind_is ∙ ap (λ (s : List ℕ). failed (f.0, s)) rest_is,
                ap (λ (k : RowKind). ends_row k f.1) (sym kind_is) ∙ ap (ends_row g.0) (sym rest_is) ∙ o,
              )

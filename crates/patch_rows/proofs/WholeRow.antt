-- A row of any length is read exactly where the grammar has one, and else its first fault is met.
use Rattle.std.proofs.Common.{◌≡◌, ℕ, List, Option, Some, None, refl, sym, ap, subst, ◌∙◌, ◌⊎◌, inl, inr, ⊎_elim}
use Rattle.patch_rows.specs.declared.codes.Code.{Code}
use Rattle.patch_rows.specs.declared.fault.RowKind.TheVariants.{UnknownCode}
use Rattle.patch_rows.specs.declared.row.Row.{Row}
use Rattle.patch_rows.specs.Fault.{Fault}
use Rattle.patch_rows.specs.Grammar.{letters, WordAt, code_of, PartsAt, RowAt}
use Rattle.patch_rows.specs.Faults.{PartsFault, AnyRowFault}
use Rattle.patch_rows.specs.Reading.{code_named}
use Rattle.patch_rows.specs.declared.cut.TextEnd.TheVariants.{Known}
use Rattle.patch_rows.specs.Rows.{by_code, row_of, row_at}
use Rattle.patch_rows.proofs.CodeTable.{named, one_code, code_spelled}
use Rattle.patch_rows.proofs.Exact.{Exact, exact_err, restated, chained}
use Rattle.patch_rows.proofs.RowLaws.{exact_parts}
use Rattle.patch_rows.proofs.RunLaws.{exact_word, WordFault}

-- ---- by the word in front

abbrev NamedParts : List ℕ × List ℕ → Row × List ℕ → Type 0
NamedParts w y = (w.0 ≡ letters (code_of y.0)) × PartsAt w.1 y.0 y.1

abbrev NamedFault : List ℕ → List ℕ × List ℕ → Fault → Type 0
NamedFault text w f = ((c : Code) × (w.0 ≡ letters c) × PartsFault c w.1 f) ⊎ (((c : Code) → w.0 ≡ letters c → ⊥) × (f ≡ (UnknownCode, text)))

exact_named : (text : List ℕ) (w : List ℕ × List ℕ) (o : Option Code) → code_named w.0 ≡ o → Exact (by_code Known o text w.1) (NamedParts w) (NamedFault text w)
exact_named text w (Some c) e =
    let is = code_spelled w.0 c e in
    restated (exact_parts c w.1)
    (λ y p. (is ∙ ap letters (sym p.0), p.1))
    (λ y p. (one_code w.0 (code_of y.0) c p.0 is, p.1))
    (λ f bad. inl (c, is, bad))
    (λ f t. ⊎_elim (λ q. subst (λ (d : Code). PartsFault d w.1 f) (one_code w.0 q.0 c q.1 is) q.2) (λ none. absurd (none.0 c is)) t)
exact_named text w None e =
    let none : (c : Code) → w.0 ≡ letters c → ⊥ = λ c is. no_code c (sym e ∙ ap code_named is ∙ named c) in
    restated (exact_err (Row × List ℕ) (UnknownCode, text))
    (λ y bad. absurd bad)
    (λ y p. none (code_of y.0) p.0)
    (λ f is. inr (none, is))
    (λ f t. ⊎_elim (λ q. absurd (none q.0 q.1)) (λ q. q.1) t)
  where
    no_code : (c : Code) → None ≡ Some c → ⊥
    no_code c e = absurd cc

row_fault : (text : List ℕ) (f : Fault) → WordFault text f ⊎ ((w : List ℕ × List ℕ) × WordAt text w.0 w.1 × NamedFault text w f) → AnyRowFault text f
row_fault text f (inl (inl bad)) = AnyRowFault.letter bad
row_fault text f (inl (inr cut)) = AnyRowFault.cut cut.0 cut.1
row_fault text f (inr (w, at, inl p)) = AnyRowFault.parts p.0 w.1 (subst (λ (word : List ℕ). WordAt text word w.1) p.1 at) p.2
row_fault text f (inr (w, at, inr u)) = AnyRowFault.unknown w.0 w.1 at u.0 u.1

row_fault_shape : (text : List ℕ) (f : Fault) → AnyRowFault text f → WordFault text f ⊎ ((w : List ℕ × List ℕ) × WordAt text w.0 w.1 × NamedFault text w f)
row_fault_shape text f (AnyRowFault.letter bad) = inl (inl bad)
row_fault_shape text f (AnyRowFault.cut word is) = inl (inr (word, is))
row_fault_shape text f (AnyRowFault.unknown word behind at none is) = inr ((word, behind), at, inr (none, is))
row_fault_shape text f (AnyRowFault.parts c behind at bad) = inr ((letters c, behind), at, inl (c, refl, bad))

pub exact_row : (text : List ℕ) → Exact (row_at text) (λ y. RowAt text y.0 y.1) (λ f. AnyRowFault text f)
unfolding row_of RowAt
exact_row text =
    restated (chained (exact_word text) (λ w. exact_named text w (code_named w.0) refl))
    (λ y t. (t.0.1, subst (λ (word : List ℕ). WordAt text word t.0.1) t.2.0 t.1, t.2.1))
    (λ y t. ((letters (code_of y.0), t.0), t.1, (refl, t.2)))
    (λ f t. row_fault text f t)
    (λ f t. row_fault_shape text f t)

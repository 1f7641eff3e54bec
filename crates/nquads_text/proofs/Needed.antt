-- Where a character is needed: what is read there, and what fault is met.
use Rattle.std.proofs.Common.{◌≡◌, ℕ, Bool, true, cond, List, [], ◌∷◌, Option, Some, None, Ok, Err, refl, sym, ap, ◌∙◌, ◌⊎◌, inl, inr, ⊎_elim}
use Rattle.bstr.specs.Utf8.{decoded}
use Rattle.nquads_text.specs.declared.fault.TextKind.TheVariants.{NotUtf8, Truncated}
use Rattle.nquads_text.specs.Fault.{TextFault, TextRead, ◌>>=◌}
use Rattle.nquads_text.specs.Reading.{char_at, char_or_fault}
use Rattle.nquads_text.specs.Grammar.{CharAt}
use Rattle.nquads_text.specs.Faults.{IsIllFormed, NoCharacter, Lacks}
use Rattle.nquads_text.proofs.Fronts.{char_spelled, char_again}
use Rattle.nquads_text.proofs.Steps.{bind_err, chosen, not_both, err_is, cond_false}

pub char_stands : (text : List ℕ) (c : ℕ) (after : List ℕ) → CharAt text c after → char_at text ≡ Ok (c, after)
char_stands text c after at = ap char_at at.1 ∙ char_again c after at.0

or_fault : (o : Option ℕ) (size : ℕ) (rest : List ℕ) (f : TextFault) → char_or_fault o size rest ≡ Err f → f ≡ (NotUtf8, rest)
or_fault None size rest f e = sym (err_is (NotUtf8, rest) f e)
or_fault (Some c) size rest f e = absurd cc

some_text : (b : ℕ) (rest : List ℕ) → b ∷ rest ≡ [] → ⊥
some_text b rest e = cc

pub char_fault : (rest : List ℕ) (f : TextFault) → char_at rest ≡ Err f → NoCharacter rest f
unfolding char_at
char_fault [] f e = NoCharacter.ends refl (sym (err_is (Truncated, []) f e))
char_fault (b ∷ bs) f e =
    NoCharacter.ill_formed
    (some_text b bs, λ c after at. not_both (c, after) f (sym (char_stands (b ∷ bs) c after at) ∙ e))
    (or_fault (decoded (b ∷ bs)).char (decoded (b ∷ bs)).size (b ∷ bs) f e)

ended : char_at [] ≡ Err (Truncated, [])
unfolding char_at
ended = refl

abbrev fault : TextFault → TextRead ℕ
fault f = Err f

still_bad : (rest : List ℕ) (f g : TextFault) → IsIllFormed rest → f ≡ (NotUtf8, rest) → NoCharacter rest g → fault g ≡ fault f
still_bad rest f g bad is (NoCharacter.ends none _) = absurd (bad.0 none)
still_bad rest f g bad is (NoCharacter.ill_formed _ same) = ap fault (same ∙ sym is)

bad_read : (rest : List ℕ) (f : TextFault) → IsIllFormed rest → f ≡ (NotUtf8, rest) → (r : TextRead ℕ) → char_at rest ≡ r → r ≡ fault f
bad_read rest f bad is (Ok x) e = absurd (bad.1 x.0 x.1 (char_spelled rest x.0 x.1 e))
bad_read rest f bad is (Err g) e = still_bad rest f g bad is (char_fault rest g e)

pub no_character : (rest : List ℕ) (f : TextFault) → NoCharacter rest f → char_at rest ≡ Err f
no_character rest f (NoCharacter.ends e is) = ap char_at e ∙ ended ∙ ap fault (sym is)
no_character rest f (NoCharacter.ill_formed bad is) = bad_read rest f bad is (char_at rest) refl

module _ {X : Type 0} (fits : ℕ → Bool) (rest : List ℕ) (other f : TextFault) (next : ℕ × List ℕ → TextRead X) where
  abbrev pub needed : TextRead X
  needed = char_at rest >>= λ (c : ℕ × List ℕ). cond (fits c.0) (next c) (Err other)

  -- what is needed is lacking, or the fault is behind it
  pub needed_fault : needed ≡ Err f → Lacks fits rest other f ⊎ ((x : ℕ × List ℕ) × (char_at rest ≡ Ok x) × (fits x.0 ≡ true) × (next x ≡ Err f))
  needed_fault e =
      ⊎_elim
      (λ none. inl (Lacks.nothing (char_fault rest f none)))
      (λ there.
      let x = there.0 in
      ⊎_elim
      (λ yes. inr (x, there.1, yes.0, yes.1))
      (λ bad. inl (Lacks.another x.0 x.1 (char_spelled rest x.0 x.1 there.1) bad.0 (sym (err_is other f bad.1))))
      (chosen (fits x.0) (next x) (Err other) (Err f) there.2))
      (bind_err (char_at rest) (λ (c : ℕ × List ℕ). cond (fits c.0) (next c) (Err other)) f e)

  pub needed_lacks : Lacks fits rest other f → needed ≡ Err f
  needed_lacks (Lacks.nothing n) = ap (λ (r : TextRead ℕ). r >>= λ (c : ℕ × List ℕ). cond (fits c.0) (next c) (Err other)) (no_character rest f n)
  needed_lacks (Lacks.another c after at misfit is) =
      ap (λ (r : TextRead ℕ). r >>= λ (c : ℕ × List ℕ). cond (fits c.0) (next c) (Err other)) (char_stands rest c after at)
      ∙ cond_false (fits c) (next (c, after)) (Err other) misfit
      ∙ ap (λ (g : TextFault). Err g) (sym is)

-- A text that is read character by character: where it stops fitting a form.
use Rattle.std.proofs.Common.{◌≡◌, ℕ, ◌+◌, Bool, true, false, cond, List, [], ◌∷◌, ◌++◌, length, Option, Some, None, refl, sym, ap, subst, ◌∙◌, append_assoc, arith}
use Rattle.std.specs.Char.{encode_utf8}
use Rattle.std.specs.Str.{encode_utf8_all, chars, IsUtf8}
use Rattle.std.specs.Option.{MatchOption}
use Rattle.std.proofs.lemmas.List.{append-nil, length-append}
use Rattle.std.proofs.lemmas.Str.{encodes-append, chars_past_char, chars-nil}
use Rattle.rdf_terms.specs.Fit.{Begins, FirstMisfit}

module _ {S : Type 0} (step : S → ℕ → Option S) (ends : S → Bool) where
  abbrev pub after : Option S → ℕ → (S → Option ℕ) → Option ℕ
  after None at more = Some at
  after (Some s) at more = more s

  -- the place of the first character that no step takes, or of the end where none may be
  unfoldable pub misfit : S → ℕ → List ℕ → Option ℕ
  misfit s at [] = cond (ends s) None (Some at)
  misfit s at (c ∷ cs) = after (step s c) at (λ t. misfit t (at + length (encode_utf8 c)) cs)

  -- ---- the same over the bytes that are left

  front_char : (rest later : List ℕ) (c : ℕ) → IsUtf8 rest → rest ≡ encode_utf8 c ++ later → (s : S) (at : ℕ) → misfit s at (chars rest) ≡ after (step s c) at (λ t. misfit t (at + length (encode_utf8 c)) (chars later))
  unfolding misfit
  front_char rest later c u parts s at = ap (misfit s at) (chars_past_char rest later c u parts)

  pub misfit_more : (rest later : List ℕ) (c : ℕ) → IsUtf8 rest → rest ≡ encode_utf8 c ++ later → (s t : S) (at next : ℕ) (o : Option ℕ) → step s c ≡ Some t → next ≡ at + length (encode_utf8 c)
      → misfit s at (chars rest) ≡ o → misfit t next (chars later) ≡ o
  misfit_more rest later c u parts s t at next o e place so_far =
      ap (λ (n : ℕ). misfit t n (chars later)) place
      ∙ sym (ap (λ (x : Option S). after x at (λ v. misfit v (at + length (encode_utf8 c)) (chars later))) e)
      ∙ sym (front_char rest later c u parts s at) ∙ so_far

  pub misfit_here : (rest later : List ℕ) (c : ℕ) → IsUtf8 rest → rest ≡ encode_utf8 c ++ later → (s : S) (at : ℕ) (o : Option ℕ) → step s c ≡ None → misfit s at (chars rest) ≡ o → o ≡ Some at
  misfit_here rest later c u parts s at o e so_far =
      sym so_far ∙ front_char rest later c u parts s at ∙ ap (λ (x : Option S). after x at (λ v. misfit v (at + length (encode_utf8 c)) (chars later))) e

  pub misfit_end : (rest : List ℕ) → length rest ≡ 0 → (s : S) (at : ℕ) (o : Option ℕ) → misfit s at (chars rest) ≡ o → o ≡ cond (ends s) None (Some at)
  unfolding misfit
  misfit_end [] none s at o so_far = sym so_far ∙ ap (misfit s at) chars-nil
  misfit_end (b ∷ rest) none s at o so_far = absurd (omega arith)

-- Front says what was read before a state
module _ {S : Type 0} (step : S → ℕ → Option S) (ends : S → Bool) (Form : List ℕ → Type 0) (Front : S → List ℕ → Type 0)
    (begins : (s : S) (front : List ℕ) → Front s front → Begins Form front)
    (goes : (s t : S) (front : List ℕ) (c : ℕ) → Front s front → step s c ≡ Some t → Front t (front ++ c ∷ []))
    (stops : (s : S) (front : List ℕ) (c : ℕ) → Front s front → step s c ≡ None → Begins Form (front ++ c ∷ []) → ⊥)
    (whole : (s : S) (front : List ℕ) → Front s front → ends s ≡ true → Form front)
    (cut : (s : S) (front : List ℕ) → Front s front → ends s ≡ false → Form front → ⊥) where
  abbrev Spotted : List ℕ → Option ℕ → Type 0
  Spotted cs o = MatchOption o (Form cs) (FirstMisfit Form cs)

  at_end : (s : S) (front : List ℕ) (at : ℕ) → Front s front → at ≡ length (encode_utf8_all front) → (b : Bool) → ends s ≡ b → Spotted (front ++ []) (cond b None (Some at))
  at_end s front at f place true e = subst Form (sym (append-nil front)) (whole s front f e)
  at_end s front at f place false e = (front, [], refl, place, begins s front f, cut s front f e)

  one_more : (front : List ℕ) (c at : ℕ) → at ≡ length (encode_utf8_all front) → at + length (encode_utf8 c) ≡ length (encode_utf8_all (front ++ c ∷ []))
  one_more front c at place =
      let one : encode_utf8_all (front ++ c ∷ []) ≡ encode_utf8_all front ++ encode_utf8 c = encodes-append front (c ∷ []) ∙ ap (λ (b : List ℕ). encode_utf8_all front ++ b) (append-nil (encode_utf8 c)) in
      ap (λ (n : ℕ). n + length (encode_utf8 c)) place ∙ sym (length-append (encode_utf8_all front) (encode_utf8 c)) ∙ ap length (sym one)

  pub spotted : (s : S) (front cs : List ℕ) (at : ℕ) → Front s front → at ≡ length (encode_utf8_all front) → Spotted (front ++ cs) (misfit step ends s at cs)
  unfolding misfit
  spotted s front [] at f place = at_end s front at f place (ends s) refl
  spotted s front (c ∷ cs) at f place = by (step s c) refl (λ t e. spotted t (front ++ c ∷ []) cs (at + length (encode_utf8 c)) (goes s t front c f e) (one_more front c at place))
    where
      by : (o : Option S) → step s c ≡ o → ((t : S) → step s c ≡ Some t → Spotted ((front ++ c ∷ []) ++ cs) (misfit step ends t (at + length (encode_utf8 c)) cs))
          → Spotted (front ++ c ∷ cs) (after step ends o at (λ t. misfit step ends t (at + length (encode_utf8 c)) cs))
      by None e later = (front, c ∷ cs, refl, place, begins s front f, stops s front c f e)
      by (Some t) e later = subst (λ (all : List ℕ). Spotted all (misfit step ends t (at + length (encode_utf8 c)) cs)) (append_assoc front (c ∷ []) cs) (later t e)

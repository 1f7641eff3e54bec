-- The reader of blanks skips exactly the blanks of the grammar.
use Rattle.std.proofs.Common.{◌≡◌, ℕ, Bool, true, false, cond, List, [], ◌∷◌, ◌++◌, refl, sym, ap, ◌∙◌}
use Rattle.std.specs.List.{list_all}
use Rattle.std.proofs.lemmas.Bool.{and_parts, false≢true}
use Rattle.nquads_text.specs.Terms.{skip_blanks}
use Rattle.nquads_text.specs.Grammar.{is_blank, StartsWith, Blanks}

pub blanks_found : (text : List ℕ) → Blanks text (skip_blanks text)
unfolding skip_blanks
blanks_found [] = ([], refl, refl, λ s. s)
blanks_found (b ∷ rest) = by (is_blank b) refl (blanks_found rest)
  where
    by : (t : Bool) → is_blank b ≡ t → Blanks rest (skip_blanks rest) → Blanks (b ∷ rest) (cond t (skip_blanks rest) (b ∷ rest))
    by true e more = (b ∷ more.0, ap (λ (u : List ℕ). b ∷ u) more.1, rw (e, more.2) refl, more.3)
    by false e more = ([], refl, refl, λ s. false≢true (sym e ∙ s))

pub skip_again : (blanks after : List ℕ) → list_all is_blank blanks ≡ true → (StartsWith is_blank after → ⊥) → skip_blanks (blanks ++ after) ≡ after
unfolding skip_blanks
skip_again [] [] all none = refl
skip_again [] (b ∷ after) all none = by (is_blank b) refl
  where
    by : (t : Bool) → is_blank b ≡ t → cond t (skip_blanks after) (b ∷ after) ≡ b ∷ after
    by true e = absurd (none e)
    by false e = refl
skip_again (b ∷ blanks) after all none =
    let p = and_parts (is_blank b) (list_all is_blank blanks) all in
    rw p.0 (skip_again blanks after p.1 none)

pub blanks_again : (text after : List ℕ) → Blanks text after → skip_blanks text ≡ after
blanks_again text after b = ap skip_blanks b.1 ∙ skip_again b.0 after b.2 b.3

-- what begins a text begins a longer one
pub starts_more : (test : ℕ → Bool) (text more : List ℕ) → StartsWith test text → StartsWith test (text ++ more)
starts_more test [] more s = absurd s
starts_more test (b ∷ text) more s = s

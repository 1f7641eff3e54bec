-- What stands behind blanks.
use Rattle.std.proofs.Common.{◌≡◌, ℕ, Bool, true, false, cond, List, [], ◌∷◌, ◌++◌, nat_eq, refl, sym, ap, ◌∙◌}
use Rattle.std.specs.List.{list_all}
use Rattle.std.proofs.lemmas.Bool.{and_parts, false≢true}
use Rattle.nquads_text.specs.Terms.{skip_blanks}
use Rattle.nquads_text.specs.Grammar.{is_blank, AreBlanks, StartsWith, Blanks, HatFollows}

pub blanks_parted : (text : List ℕ) → Blanks text (skip_blanks text)
unfolding skip_blanks
blanks_parted [] = ([], refl, refl, λ none. none)
blanks_parted (b ∷ rest) = by (is_blank b) refl (blanks_parted rest)
  where
    by : (blank : Bool) → is_blank b ≡ blank → Blanks rest (skip_blanks rest) → Blanks (b ∷ rest) (cond blank (skip_blanks rest) (b ∷ rest))
    by true e others = (b ∷ others.0, ap (λ (t : List ℕ). b ∷ t) others.1, rw (e, others.2) refl, others.3)
    by false e others = ([], refl, refl, λ blank. false≢true (sym e ∙ blank))

nothing_skipped : (rest : List ℕ) → (StartsWith is_blank rest → ⊥) → skip_blanks rest ≡ rest
unfolding skip_blanks
nothing_skipped [] none = refl
nothing_skipped (b ∷ rest) none = by (is_blank b) refl
  where
    by : (blank : Bool) → is_blank b ≡ blank → cond (is_blank b) (skip_blanks rest) (b ∷ rest) ≡ b ∷ rest
    by true e = absurd (none e)
    by false e = rw e refl

pub blanks_skipped : (blanks rest : List ℕ) → AreBlanks blanks → (StartsWith is_blank rest → ⊥) → skip_blanks (blanks ++ rest) ≡ rest
unfolding skip_blanks
blanks_skipped [] rest all none = nothing_skipped rest none
blanks_skipped (b ∷ blanks) rest all none = let p = and_parts (is_blank b) (list_all is_blank blanks) all in rw p.0 (blanks_skipped blanks rest p.1 none)

pub blanks_skip : (text after : List ℕ) → Blanks text after → skip_blanks text ≡ after
blanks_skip text after b = ap skip_blanks b.1 ∙ blanks_skipped b.0 after b.2 b.3

-- a hat is no blank
hat_stays : (rest : List ℕ) → StartsWith is_blank (94 ∷ rest) → ⊥
hat_stays rest e = false≢true e

pub hat_behind : (text blanks rest : List ℕ) → AreBlanks blanks → text ≡ blanks ++ 94 ∷ rest → skip_blanks text ≡ 94 ∷ rest
hat_behind text blanks rest all shape = ap skip_blanks shape ∙ blanks_skipped blanks (94 ∷ rest) all (hat_stays rest)

pub no_hat_behind : (text : List ℕ) (b : ℕ) (rest : List ℕ) → skip_blanks text ≡ b ∷ rest → nat_eq b 94 ≡ false → HatFollows text → ⊥
no_hat_behind text b rest is other h =
    let same : b ∷ rest ≡ 94 ∷ h.1 = sym is ∙ hat_behind text h.0 h.1 h.2 h.3 in
    let hat : b ≡ 94 = cc in
    false≢true (sym other ∙ ap (λ (c : ℕ). nat_eq c 94) hat)

pub no_hat_at_end : (text : List ℕ) → skip_blanks text ≡ [] → HatFollows text → ⊥
no_hat_at_end text is h = let same : [] ≡ 94 ∷ h.1 = sym is ∙ hat_behind text h.0 h.1 h.2 h.3 in cc

pub nothing_behind : skip_blanks [] ≡ []
unfolding skip_blanks
nothing_behind = refl

-- Words that ask for a server.
use Rattle.std.proofs.Common.{◌≡◌, ◌≢◌, ℕ, List, [], ◌∷◌, length, get_or, refl, sym, ◌∙◌, subst, arith}
use Rattle.std.specs.Prelude.{String, string_bytes, codes}
use Rattle.std.specs.Fmt.{decimal}
use Rattle.std.specs.declared.alloc.Global.{Global}
use Rattle.std.proofs.lemmas.List.Elements.{All-nil, All-cons, All-head, All-tail}
use Rattle.command_tables.specs.Positions.{FitPositions, IsPlainWord}
use Rattle.command_tables.specs.Channels.{words_of}
use Rattle.command_tables.specs.Names.{BeginsWith, FitsName, positions_of}
use Rattle.command_tables.specs.declared.name.Name.TheVariants as names
use Rattle.command_tables.proofs.Words.{plain_number}
use Rattle.delta_server.specs.Words.{AsksToServe}

-- words that ask for a server are one for each position
pub asked_fit : (words : List (List ℕ)) (dir address : List ℕ) (workers : ℕ) → AsksToServe words dir address workers
    → FitPositions (positions_of names.Serve) words
asked_fit words dir address workers asks =
    subst (FitPositions (positions_of names.Serve)) (sym asks.0) (
      All-cons IsPlainWord dir (address ∷ decimal workers ∷ []) asks.1
          (All-cons IsPlainWord address (decimal workers ∷ []) asks.2
          (All-cons IsPlainWord (decimal workers) [] (plain_number workers (omega (arith, asks.5))) (All-nil IsPlainWord))),
      refl,
    )

-- another word in front names another command, or none
pub other_command : (words rest : List (List ℕ)) (first : List ℕ) → words ≡ first ∷ rest → first ≢ codes "serve"
    → BeginsWith words names.Serve → ⊥
other_command words rest first is differs begins = differs (heads first (codes "serve") rest begins.0 (sym is ∙ begins.1))
  where
    heads : (x y : List ℕ) (xs ys : List (List ℕ)) → x ∷ xs ≡ y ∷ ys → x ≡ y
    heads x y xs ys e = cc

-- what four words are, of which the first names the command
pub record Four (words : List (List ℕ)) (dir address workers : List ℕ) : Type 0 where
  pub words_are : words ≡ codes "serve" ∷ dir ∷ address ∷ workers ∷ []
  pub plain_dir : IsPlainWord dir
  pub plain_address : IsPlainWord address

pub four_words : (xs : List (String Global)) (dir address workers : String Global) → length xs ≡ 4
    → dir ≡ get_or xs 1 dir → address ≡ get_or xs 2 address → workers ≡ get_or xs 3 workers
    → FitsName (words_of xs) names.Serve → Four (words_of xs) (string_bytes dir) (string_bytes address) (string_bytes workers)
four_words [] dir address workers long d a w fits = absurd (omega (arith, long))
four_words (x ∷ []) dir address workers long d a w fits = absurd (omega (arith, long))
four_words (x ∷ y ∷ []) dir address workers long d a w fits = absurd (omega (arith, long))
four_words (x ∷ y ∷ z ∷ []) dir address workers long d a w fits = absurd (omega (arith, long))
four_words (x ∷ y ∷ z ∷ v ∷ u ∷ more) dir address workers long d a w fits = absurd (omega (arith, long))
four_words (x ∷ y ∷ z ∷ v ∷ []) dir address workers long d a w fits =
    let words = words_of (x ∷ y ∷ z ∷ v ∷ []) in
    let named : string_bytes x ≡ codes "serve" = heads (string_bytes x) (codes "serve") (words_of (y ∷ z ∷ v ∷ [])) fits.0.0 fits.0.1 in
    let plain = fits.1.0 in record {
      words_are =
          (λ i. named i ∷ string_bytes y ∷ string_bytes z ∷ string_bytes v ∷ [])
          ∙ (λ i. codes "serve" ∷ string_bytes (sym d i) ∷ string_bytes (sym a i) ∷ string_bytes (sym w i) ∷ []);
      plain_dir = subst (λ (s : String Global). IsPlainWord (string_bytes s)) (sym d) (All-head IsPlainWord (string_bytes y) (words_of (z ∷ v ∷ [])) plain);
      plain_address = subst (λ (s : String Global). IsPlainWord (string_bytes s)) (sym a)
          (All-head IsPlainWord (string_bytes z) (words_of (v ∷ [])) (All-tail IsPlainWord (string_bytes y) (words_of (z ∷ v ∷ [])) plain));
    }
  where
    heads : (x y : List ℕ) (xs ys : List (List ℕ)) → x ∷ xs ≡ y ∷ ys → x ≡ y
    heads x y xs ys e = cc

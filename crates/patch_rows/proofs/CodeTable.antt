-- The table of codes, and the words that are codes.
use Rattle.std.proofs.Common.{◌≡◌, ℕ, Bool, true, false, cond, List, [], ◌∷◌, Option, Some, None, refl, sym, ap, ◌∙◌, ⊎_elim}
use Rattle.nquads_text.proofs.Steps.{chosen}
use Rattle.std.specs.List.{position}
use Rattle.std.specs.Str.{bytes_eq}
use Rattle.std.proofs.lemmas.Slice.Eq.{bytes_eq-Decides}
use Rattle.case_tables.specs.Tables.{first_named}
use Rattle.case_tables.proofs.First.{position-map}
use Rattle.patch_rows.specs.declared.codes.Code.{Code}
use Rattle.patch_rows.specs.declared.codes.Code.TheVariants as code
use Rattle.patch_rows.specs.Grammar.{letters}
use Rattle.patch_rows.specs.Reading.{code_of_place, code_named}

-- the words of the table
abbrev pub words : List (List ℕ)
words = letters code.Header ∷ letters code.Begin ∷ letters code.Commit ∷ letters code.Abort ∷ letters code.PrefixAdd ∷ letters code.PrefixDelete ∷ letters code.Add ∷ letters code.Delete ∷ []

abbrev pub code_at : Option ℕ → Option Code
code_at None = None
code_at (Some place) = code_of_place place

by_tests : (a b c d e f g h : Bool) → code_at (position (λ t. t) (a ∷ b ∷ c ∷ d ∷ e ∷ f ∷ g ∷ h ∷ []))
    ≡ cond a (Some code.Header) (cond b (Some code.Begin) (cond c (Some code.Commit) (cond d (Some code.Abort) (cond e (Some code.PrefixAdd) (cond f (Some code.PrefixDelete) (cond g (Some code.Add) (cond h (Some code.Delete) None)))))))
by_tests true b c d e f g h = refl
by_tests false true c d e f g h = refl
by_tests false false true d e f g h = refl
by_tests false false false true e f g h = refl
by_tests false false false false true f g h = refl
by_tests false false false false false true g h = refl
by_tests false false false false false false true h = refl
by_tests false false false false false false false true = refl
by_tests false false false false false false false false = refl

pub found : (word : List ℕ) (table : List (List ℕ)) (place : Option ℕ) → table ≡ words → place ≡ first_named word table → code_at place ≡ code_named word
unfolding code_named
found word table place is e =
    let test : List ℕ → Bool = λ name. bytes_eq name word in
    ap code_at (e ∙ ap (first_named word) is ∙ sym (position-map (λ t. t) test words))
    ∙ by_tests (test (letters code.Header)) (test (letters code.Begin)) (test (letters code.Commit)) (test (letters code.Abort)) (test (letters code.PrefixAdd)) (test (letters code.PrefixDelete)) (test (letters code.Add)) (test (letters code.Delete))

-- ---- the words that are codes

pub named : (c : Code) → code_named (letters c) ≡ Some c
unfolding code_named
named code.Header = refl
named code.Begin = refl
named code.Commit = refl
named code.Abort = refl
named code.PrefixAdd = refl
named code.PrefixDelete = refl
named code.Add = refl
named code.Delete = refl

abbrev code_in : Option Code → Code
code_in None = code.Header
code_in (Some c) = c

some_is : (a b : Code) → Some a ≡ Some b → a ≡ b
some_is a b e = ap code_in e

pub one_code : (word : List ℕ) (a b : Code) → word ≡ letters a → word ≡ letters b → a ≡ b
one_code word a b e f = some_is a b (sym (named a) ∙ ap code_named (sym e ∙ f) ∙ named b)

-- a word whose code is found has the letters of that code
spelled : (word : List ℕ) (a c : Code) (others : Option Code) → (others ≡ Some c → word ≡ letters c) → cond (bytes_eq (letters a) word) (Some a) others ≡ Some c → word ≡ letters c
spelled word a c others later e =
    ⊎_elim
    (λ here. sym ((bytes_eq-Decides (letters a) word).0 here.0) ∙ ap letters (some_is a c here.1))
    (λ there. later there.1)
    (chosen (bytes_eq (letters a) word) (Some a) others (Some c) e)

no_code : (word : List ℕ) (c : Code) → None ≡ Some c → word ≡ letters c
no_code word c e = absurd cc

pub code_spelled : (word : List ℕ) (c : Code) → code_named word ≡ Some c → word ≡ letters c
unfolding code_named
code_spelled word c e =
    spelled word code.Header c _ (spelled word code.Begin c _ (spelled word code.Commit c _ (spelled word code.Abort c _ (spelled word code.PrefixAdd c _
    (spelled word code.PrefixDelete c _ (spelled word code.Add c _ (spelled word code.Delete c None (no_code word c)))))))) e

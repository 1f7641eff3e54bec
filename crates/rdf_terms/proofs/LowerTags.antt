-- Tags in lower case.
use Rattle.std.proofs.Common.{◌≡◌, ℕ, ◌<◌, Bool, true, false, cond, ◌&&◌, List, [], ◌∷◌, ◌++◌, length, map, nat_eq, refl, sym, ap, ◌∙◌, arith, eq-eqb}
use Rattle.std.specs.List.{list_all}
use Rattle.std.specs.Char.{is_ascii_alphabetic, is_ascii_alphanumeric, to_ascii_lowercase}
use Rattle.std.proofs.lemmas.Bool.{and_parts, false≢true, eqb-true}
use Rattle.std.proofs.lemmas.Bool.Decides.{nat_tests}
use Rattle.std.proofs.lemmas.List.{map-append, length-map}
use Rattle.rdf_terms.specs.Tag.{IsWord, AreWords, TagForm, IsTag, lower, is_tag_char}
use Rattle.rdf_terms.proofs.Tags.{dashed, spells_tag, form_of, spells_of}

lower_letter : (b : ℕ) → is_ascii_alphabetic b ≡ true → is_ascii_alphabetic (to_ascii_lowercase b) ≡ true
lower_letter b e = grind (arith, nat_tests)

lower_sign : (b : ℕ) → is_ascii_alphanumeric b ≡ true → is_ascii_alphanumeric (to_ascii_lowercase b) ≡ true
lower_sign b e = grind (arith, nat_tests)

lower_twice : (b : ℕ) → to_ascii_lowercase (to_ascii_lowercase b) ≡ to_ascii_lowercase b
lower_twice b = grind (arith, nat_tests)

lower_all : (test : ℕ → Bool) (word : List ℕ) → ((b : ℕ) → test b ≡ true → test (to_ascii_lowercase b) ≡ true) → list_all test word ≡ true → list_all test (lower word) ≡ true
lower_all test [] kept e = refl
lower_all test (b ∷ word) kept e = let p = and_parts (test b) (list_all test word) e in rw (kept b p.0, lower_all test word kept p.1) refl

lower_word : (test : ℕ → Bool) (word : List ℕ) → ((b : ℕ) → test b ≡ true → test (to_ascii_lowercase b) ≡ true) → IsWord test word → IsWord test (lower word)
lower_word test word kept w = let l : length (lower word) ≡ length word = length-map word to_ascii_lowercase in let pos : 0 < length word = w.0 in (omega arith, lower_all test word kept w.1)

lower_words : (words : List (List ℕ)) → AreWords is_ascii_alphanumeric words → AreWords is_ascii_alphanumeric (map lower words)
lower_words [] w = tt
lower_words (word ∷ words) w = (lower_word is_ascii_alphanumeric word lower_sign w.0, lower_words words w.1)

lower_dashed : (parts : List (List ℕ)) → lower (dashed parts) ≡ dashed (map lower parts)
lower_dashed [] = refl
lower_dashed (part ∷ parts) = ap (λ (u : List ℕ). 45 ∷ u) (map-append to_ascii_lowercase part (dashed parts) ∙ ap (λ (u : List ℕ). lower part ++ u) (lower_dashed parts))

lower_of_lower : (bytes : List ℕ) → lower (lower bytes) ≡ lower bytes
lower_of_lower [] = refl
lower_of_lower (b ∷ bytes) = ap (λ (c : ℕ). c ∷ lower (lower bytes)) (lower_twice b) ∙ ap (λ (u : List ℕ). to_ascii_lowercase b ∷ u) (lower_of_lower bytes)

-- a tag in lower case is one that may be kept
pub lower_is_tag : (bytes : List ℕ) → TagForm bytes → IsTag (lower bytes)
unfolding IsTag
lower_is_tag bytes f =
    let parted : lower bytes ≡ lower f.0 ++ dashed (map lower f.1) = ap lower f.4 ∙ map-append to_ascii_lowercase f.0 (dashed f.1) ∙ ap (λ (u : List ℕ). lower f.0 ++ u) (lower_dashed f.1) in
    ((lower f.0, map lower f.1, lower_word is_ascii_alphabetic f.0 lower_letter f.2, lower_words f.1 f.3, parted), lower_of_lower bytes)

-- ---- the same, character by character

-- a tag in lower case, from some part on
abbrev pub is_tag : Bool → Bool → List ℕ → Bool
is_tag first some [] = some
is_tag first some (b ∷ rest) = cond (is_tag_char first b) (nat_eq (to_ascii_lowercase b) b && is_tag first true rest) (some && nat_eq b 45 && is_tag false false rest)

kept : (first some : Bool) (cs : List ℕ) → spells_tag first some cs ≡ true → lower cs ≡ cs → is_tag first some cs ≡ true
kept first some [] e l = e
kept first some (c ∷ cs) e l =
    let tail : lower cs ≡ cs = cc in let head : to_ascii_lowercase c ≡ c = cc in
    by (is_tag_char first c) some e (λ one. kept first true cs one tail) (λ two. kept false false cs two tail) (eq-eqb (to_ascii_lowercase c) c head)
  where
    by : (b some : Bool) → cond b (spells_tag first true cs) (some && nat_eq c 45 && spells_tag false false cs) ≡ true
        → (spells_tag first true cs ≡ true → is_tag first true cs ≡ true) → (spells_tag false false cs ≡ true → is_tag false false cs ≡ true) → nat_eq (to_ascii_lowercase c) c ≡ true
        → cond b (nat_eq (to_ascii_lowercase c) c && is_tag first true cs) (some && nat_eq c 45 && is_tag false false cs) ≡ true
    by true some e one two same = rw (same, one e) refl
    by false false e one two same = absurd (false≢true e)
    by false true e one two same = let p = and_parts (nat_eq c 45) (spells_tag false false cs) e in rw (p.0, two p.1) refl

found : (first some : Bool) (cs : List ℕ) → is_tag first some cs ≡ true → (spells_tag first some cs ≡ true) × (lower cs ≡ cs)
found first some [] e = (e, refl)
found first some (c ∷ cs) e = by (is_tag_char first c) some e (found first true cs) (found false false cs)
  where
    by : (b some : Bool) → cond b (nat_eq (to_ascii_lowercase c) c && is_tag first true cs) (some && nat_eq c 45 && is_tag false false cs) ≡ true
        → (is_tag first true cs ≡ true → (spells_tag first true cs ≡ true) × (lower cs ≡ cs)) → (is_tag false false cs ≡ true → (spells_tag false false cs ≡ true) × (lower cs ≡ cs))
        → (cond b (spells_tag first true cs) (some && nat_eq c 45 && spells_tag false false cs) ≡ true) × (lower (c ∷ cs) ≡ c ∷ cs)
    by true some e one two =
        let p = and_parts (nat_eq (to_ascii_lowercase c) c) (is_tag first true cs) e in let o = one p.1 in
        (o.0, ap (λ (d : ℕ). d ∷ lower cs) (eqb-true (to_ascii_lowercase c) c p.0) ∙ ap (λ (t : List ℕ). c ∷ t) o.1)
    by false false e one two = absurd (false≢true e)
    by false true e one two =
        let p = and_parts (nat_eq c 45) (is_tag false false cs) e in let o = two p.1 in
        let dash : c ≡ 45 = eqb-true c 45 p.0 in
        (rw (p.0, o.0) refl, ap (λ (d : ℕ). to_ascii_lowercase d ∷ lower cs) dash ∙ ap (λ (d : ℕ). d ∷ lower cs) (sym dash) ∙ ap (λ (t : List ℕ). c ∷ t) o.1)

-- the two agree
pub tag_is_spelled : (tag : List ℕ) → IsTag tag → is_tag true false tag ≡ true
unfolding IsTag
tag_is_spelled tag t = kept true false tag (spells_of tag t.0) t.1

pub spelled_is_tag : (tag : List ℕ) → is_tag true false tag ≡ true → IsTag tag
unfolding IsTag
spelled_is_tag tag e = let f = found true false tag e in (form_of tag f.0, f.1)

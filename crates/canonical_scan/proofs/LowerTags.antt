-- Language tags in lower case.
use Rattle.std.proofs.Common.{◌≡◌, ℕ, ◌+◌, ◌<◌, Bool, true, false, List, [], ◌∷◌, ◌++◌, length, get_or, refl, sym, ap, subst, ◌∙◌, arith, append_assoc}
use Rattle.std.specs.List.{list_all, slice_range, flat_map}
use Rattle.std.specs.Char.{is_ascii_alphanumeric, to_ascii_lowercase}
use Rattle.std.proofs.lemmas.Bool.{and_parts}
use Rattle.std.proofs.lemmas.Bool.Decides.{nat_tests}
use Rattle.std.proofs.lemmas.List.{append-nil, map-append}
use Rattle.std.proofs.lemmas.List.Concat.{flat_map-append}
use Rattle.std.proofs.lemmas.List.Edits.{between_none, between_more}
use Rattle.rdf_terms.specs.Tag.{IsWord, AreWords, IsTag, lower, is_tag_char}
use Rattle.canonical_scan.specs.Parts.{Between, is_lower_tag_byte}
use Rattle.nquads_text.proofs.PlainRuns.{slices_joined}

part_bytes : List ℕ → List ℕ
part_bytes part = 45 ∷ part

word_is : (first : Bool) (bytes : List ℕ) → list_all (is_lower_tag_byte first) bytes ≡ true → list_all (is_tag_char first) bytes ≡ true
word_is first [] all = refl
word_is first (b ∷ bytes) all =
    let t = and_parts (is_lower_tag_byte first b) (list_all (is_lower_tag_byte first) bytes) all in
    rw ((and_parts (is_tag_char first b) _ t.0).0, word_is first bytes t.1) refl

stays : (first : Bool) (b : ℕ) → is_lower_tag_byte first b ≡ true → to_ascii_lowercase b ≡ b
stays true b e = grind (arith, nat_tests)
stays false b e = grind (arith, nat_tests)

lower_word : (first : Bool) (bytes : List ℕ) → list_all (is_lower_tag_byte first) bytes ≡ true → lower bytes ≡ bytes
lower_word first [] all = refl
lower_word first (b ∷ bytes) all =
    let t = and_parts (is_lower_tag_byte first b) (list_all (is_lower_tag_byte first) bytes) all in rw (stays first b t.0, lower_word first bytes t.1) refl

words_joined : (words : List (List ℕ)) (word : List ℕ) → AreWords is_ascii_alphanumeric words → IsWord is_ascii_alphanumeric word → AreWords is_ascii_alphanumeric (words ++ word ∷ [])
words_joined [] word a w = (w, tt)
words_joined (x ∷ words) word a w = (a.0, words_joined words word a.1 w)

first_tag : (word : List ℕ) → IsWord (is_lower_tag_byte true) word → IsTag word
unfolding IsTag
first_tag word w = ((word, [], (w.0, word_is true word w.1), tt, sym (append-nil word)), lower_word true word w.1)

longer_tag : (tag word : List ℕ) → IsTag tag → IsWord (is_lower_tag_byte false) word → IsTag (tag ++ (45 ∷ word))
unfolding IsTag
longer_tag tag word t w =
    let first = t.0.0 in let parts = t.0.1 in
    let join : List (List ℕ) → List ℕ = flat_map (λ (part : List ℕ). 45 ∷ part) in
    let one : join (word ∷ []) ≡ 45 ∷ word = append-nil (45 ∷ word) in
    let is : tag ++ (45 ∷ word) ≡ first ++ join (parts ++ word ∷ []) =
    ap (λ (b : List ℕ). b ++ (45 ∷ word)) t.0.4
    ∙ append_assoc first (join parts) (45 ∷ word)
    ∙ ap (λ (b : List ℕ). first ++ (join parts ++ b)) (sym one)
    ∙ ap (λ (b : List ℕ). first ++ b) (sym (flat_map-append (λ (part : List ℕ). 45 ∷ part) parts (word ∷ []))) in (
      (first, parts ++ word ∷ [], t.0.2, words_joined parts word t.0.3 (w.0, word_is false word w.1), is),
      map-append to_ascii_lowercase tag (45 ∷ word) ∙ rw (t.1, lower_word false word w.1) refl,
    )

pub tag_begins : (text : List ℕ) (at end : ℕ) → Between (IsWord (is_lower_tag_byte true)) text at end → Between IsTag text at end
tag_begins text at end w = record { form = first_tag (slice_range text at end) w.form; low = w.low; high = w.high }

pub tag_goes_on : (text : List ℕ) (at end next : ℕ) → Between IsTag text at end → end < length text → get_or text end 0 ≡ 45 → Between (IsWord (is_lower_tag_byte false)) text (end + 1) next
    → Between IsTag text at next
tag_goes_on text at end next t lt dash w =
    let one : slice_range text end (end + 1) ≡ 45 ∷ [] =
    between_more text end end 0 (omega arith) lt ∙ ap (λ (b : List ℕ). b ++ get_or text end 0 ∷ []) (between_none text end) ∙ ap (λ (b : ℕ). b ∷ []) dash in
    let rest : slice_range text end next ≡ 45 ∷ slice_range text (end + 1) next =
    slices_joined text end (end + 1) next (omega arith) w.low ∙ ap (λ (b : List ℕ). b ++ slice_range text (end + 1) next) one in
    let whole : slice_range text at next ≡ slice_range text at end ++ (45 ∷ slice_range text (end + 1) next) =
    slices_joined text at end next t.low (omega (arith, w.low)) ∙ ap (λ (b : List ℕ). slice_range text at end ++ b) rest in
    record {
      form = subst IsTag (sym whole) (longer_tag (slice_range text at end) (slice_range text (end + 1) next) t.form w.form);
      low = omega (arith, t.low, w.low);
      high = w.high;
    }

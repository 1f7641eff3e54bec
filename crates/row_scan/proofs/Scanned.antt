-- The text of a row stands at a place.
use Rattle.std.proofs.Common.{◌≡◌, ℕ, ◌+◌, ◌-◌, ◌≤◌, ◌<◌, Bool, true, nat_eq, List, [], ◌∷◌, ◌++◌, Option, None, Some, option_map, IfSome, codes, take, length, drop, refl, sym, ap, subst, ◌∙◌, arith, append_assoc, IsUtf8}
use Rattle.std.proofs.lemmas.List.{length-append, length-drop, drop-drop, drop_at, take_all, take-append-drop}
use Rattle.std.proofs.lemmas.Bool.Decides.{Decides-eqb}
use Rattle.std.proofs.lemmas.Slice.Eq.{starts_is, bytes_eq-Decides}
use Rattle.std.specs.Cmp.Lexicographic.{pointwise}
use Rattle.std.specs.List.{starts_with}
use Rattle.delta_base.specs.declared.id.Id.{Id}
use Rattle.delta_base.specs.Ids.{number_of}
use Rattle.rdf_terms.specs.declared.change.Change.TheVariants as change
use Rattle.nquads_text.specs.Grammar.{StartsWith}
use Rattle.patch_rows.specs.declared.row.Row.{Row}
use Rattle.patch_rows.specs.declared.row.Row.TheVariants as row
use Rattle.patch_rows.specs.Grammar.{begins_space, row_limit, IsKey}
use Rattle.patch_rows.specs.Printing.{row_text, IsRowValue, IsWritable}
use Rattle.row_scan.specs.Rows.{IsRowThere, HasIdDigits, HasIdRow, id_row}
use Rattle.row_scan.proofs.Ids.{uuid_iri, uuid_utf8}
use Rattle.row_scan.proofs.Rows.{decided}

-- ---- fronts

-- a slice from a place on
from_place : (text : List ℕ) (at : ℕ) → take (length text - at) (drop at text) ≡ drop at text
from_place text at = take_all (length text - at) (drop at text) (omega (arith, length-drop at text))

-- what begins with a word
pub begins : (text : List ℕ) (at : ℕ) (word : List ℕ) (answer : Bool) → answer ≡ starts_with nat_eq (take (length text - at) (drop at text)) word → answer ≡ true
    → drop at text ≡ word ++ drop (length word) (drop at text)
begins text at word answer says is =
    subst (λ (t : List ℕ). t ≡ word ++ drop (length word) t) (from_place text at) ((starts_is Decides-eqb (take (length text - at) (drop at text)) word answer says).0 is)

-- what stands behind a word
pub behind_word : (text : List ℕ) (at : ℕ) (word value : List ℕ) → pointwise nat_eq (take (length word) (take (length text - at) (drop at text))) word ≡ true
    → value ≡ drop (length word) (take (length text - at) (drop at text)) → drop at text ≡ word ++ value
behind_word text at word value is left =
    let rest : List ℕ = take (length text - at) (drop at text) in
    let front : take (length word) rest ≡ word = (bytes_eq-Decides (take (length word) rest) word).0 is in
    sym (from_place text at) ∙ sym (take-append-drop (length word) rest) ∙ ap (λ (t : List ℕ). t ++ drop (length word) rest) front ∙ ap (λ (t : List ℕ). word ++ t) (sym left)

-- an id that was read in front of a row's end
pub names : (text digits behind : List ℕ) (answer : Option Id) → option_map (λ (id : Id). id.0) answer ≡ number_of digits → length digits ≡ 36 → text ≡ digits ++ behind → behind ≡ drop 36 text
    → behind ≡ 62 ∷ 32 ∷ 46 ∷ 10 ∷ drop 4 behind → IfSome answer (HasIdDigits text)
names text digits behind None reads count whole back ends = tt
names text digits behind (Some id) reads count whole back ends =
    let rest : drop 4 behind ≡ drop 40 text = ap (drop 4) back ∙ drop-drop 4 36 text in
    record {
      digits = digits;
      named = sym reads;
      count = count;
      stands = whole ∙ ap (λ (t : List ℕ). digits ++ t) (ends ∙ ap (λ (t : List ℕ). 62 ∷ 32 ∷ 46 ∷ 10 ∷ t) rest);
    }

-- ---- rows

-- a row's text, of one of the kinds without a quad
there : (text : List ℕ) (at : ℕ) (r : Row) (rest : List ℕ) → drop at text ≡ row_text r ++ 10 ∷ rest → at ≤ length text → length (row_text r) ≤ row_limit → 0 < length (row_text r)
    → IsRowValue r → IsWritable r → (StartsWith begins_space (drop at text) → ⊥) → IsRowThere text at (at + length (row_text r)) r
there text at r rest stands low short some value is fresh =
    let n : ℕ = length (row_text r) in
    let size : length text - at ≡ n + length (10 ∷ rest) = sym (length-drop at text) ∙ ap length stands ∙ length-append (row_text r) (10 ∷ rest) in
    let behind : drop (at + n) text ≡ 10 ∷ rest = sym (drop-drop n at text) ∙ ap (drop n) stands ∙ drop_at (row_text r) (10 ∷ rest) n refl in
    let after : drop (at + n + 1) text ≡ rest = sym (drop-drop 1 (at + n) text) ∙ ap (drop 1) behind in
    record {
      row = decided text at (at + n) r rest (stands ∙ sym (append_assoc (row_text r) (10 ∷ []) rest)) low refl short value is;
      fresh = fresh;
      feed = behind ∙ ap (λ (t : List ℕ). 10 ∷ t) (sym after);
      further = omega (arith, some);
      within = omega (arith, size, low);
    }

-- ---- the words of blocks

pub begin_there : (text : List ℕ) (at : ℕ) (rest : List ℕ) → drop at text ≡ codes "TX ." ++ 10 ∷ rest → at ≤ length text → IsRowThere text at (at + 4) (row.Change change.Begin)
unfolding row_text
begin_there text at rest stands low =
    there text at (row.Change change.Begin) rest stands low (omega arith) (omega arith) tt tt (subst (λ (t : List ℕ). StartsWith begins_space t → ⊥) (sym stands) (λ s. cc))

pub commit_there : (text : List ℕ) (at : ℕ) (rest : List ℕ) → drop at text ≡ codes "TC ." ++ 10 ∷ rest → at ≤ length text → IsRowThere text at (at + 4) (row.Change change.Commit)
unfolding row_text
commit_there text at rest stands low =
    there text at (row.Change change.Commit) rest stands low (omega arith) (omega arith) tt tt (subst (λ (t : List ℕ). StartsWith begins_space t → ⊥) (sym stands) (λ s. cc))

pub abort_there : (text : List ℕ) (at : ℕ) (rest : List ℕ) → drop at text ≡ codes "TA ." ++ 10 ∷ rest → at ≤ length text → IsRowThere text at (at + 4) (row.Change change.Abort)
unfolding row_text
abort_there text at rest stands low =
    there text at (row.Change change.Abort) rest stands low (omega arith) (omega arith) tt tt (subst (λ (t : List ℕ). StartsWith begins_space t → ⊥) (sym stands) (λ s. cc))

-- ---- ids

id_shape : (key digits rest : List ℕ) → row_text (id_row key digits) ++ 10 ∷ rest ≡ 72 ∷ 32 ∷ (key ++ 32 ∷ 60 ∷ (codes "uuid:" ++ (digits ++ 62 ∷ 32 ∷ 46 ∷ 10 ∷ rest)))
unfolding row_text
id_shape key digits rest = simp append_assoc

id_length : (key digits : List ℕ) → length digits ≡ 36 → length (row_text (id_row key digits)) ≡ 48 + length key
unfolding row_text
id_length key digits count = simp length-append (omega (arith, count))

pub id_there : (text : List ℕ) (at : ℕ) (key : List ℕ) (id : Id) (value : List ℕ) → drop at text ≡ 72 ∷ 32 ∷ (key ++ 32 ∷ 60 ∷ (codes "uuid:" ++ value)) → at ≤ length text → HasIdDigits value id
    → IsUtf8 key → IsKey key → length key ≤ 4 → HasIdRow text at (at + (48 + length key)) key id
id_there text at key id value stands low names utf8 is small =
    let digits : List ℕ = names.digits in
    let number : ℕ = id.0 in
    let rest : List ℕ = drop 40 value in
    let count = names.count in
    let size = id_length key digits count in
    let iri = uuid_iri digits number count names.named in
    let here : drop at text ≡ row_text (id_row key digits) ++ 10 ∷ rest =
    stands ∙ ap (λ (t : List ℕ). 72 ∷ 32 ∷ (key ++ 32 ∷ 60 ∷ (codes "uuid:" ++ t))) names.stands ∙ sym (id_shape key digits rest) in (
      digits,
      names.named,
      subst (λ (n : ℕ). IsRowThere text at (at + n) (id_row key digits)) size
          (there text at (id_row key digits) rest here low (omega (arith, size, small)) (omega (arith, size)) (utf8, (uuid_utf8 digits number count names.named, iri)) is
          (subst (λ (t : List ℕ). StartsWith begins_space t → ⊥) (sym stands) (λ s. cc))),
    )

-- How long the parts of a checkpoint are.
use Rattle.std.proofs.Common.{◌≡◌, ℕ, ◌+◌, ◌*◌, ◌-◌, ◌^◌, ◌<◌, List, [], ◌∷◌, ◌++◌, length, take, get_or, refl, ap, ◌∙◌, min, arith, length-append}
use Rattle.std.specs.List.{concat, flat_map}
use Rattle.std.specs.Fmt.{decimal}
use Rattle.std.proofs.lemmas.List.{append-nil, take_more}
use Rattle.std.proofs.lemmas.List.Folds.{concat-append}
use Rattle.delta_base.specs.declared.id.Id.{Id}
use Rattle.delta_base.specs.Ids.{text_of}
use Rattle.delta_base.proofs.IdLemmas.{length-text_of}
use Rattle.checkpoint_line.specs.declared.first.FirstLine.{FirstLine}
use Rattle.checkpoint_line.specs.First.{first_line}
use Rattle.checkpoint_text.specs.Text.{line_of_id}

pub first-length : (l : FirstLine) → length (first_line l) ≡ 7 + length (decimal l.generation) + length (decimal l.patches) + length (decimal l.bytes) + length (decimal l.prefixes) + length (decimal l.quads)
first-length l =
    let quads : List ℕ = decimal l.quads ++ 10 ∷ [] in
    let prefixes : List ℕ = decimal l.prefixes ++ 32 ∷ quads in
    let bytes : List ℕ = decimal l.bytes ++ 32 ∷ prefixes in
    let patches : List ℕ = decimal l.patches ++ 32 ∷ bytes in
    omega (arith, length-append (decimal l.generation) (32 ∷ patches), length-append (decimal l.patches) (32 ∷ bytes), length-append (decimal l.bytes) (32 ∷ prefixes), length-append (decimal l.prefixes) (32 ∷ quads), length-append (decimal l.quads) (10 ∷ []))

-- one more line
pub one_longer : (lines : List (List ℕ)) (at size new : ℕ) (line : List ℕ) → at < length lines → line ≡ get_or lines at [] → size ≡ min (length (concat (take at lines))) (2 ^ 64 - 1) → new ≡ min (size + length line) (2 ^ 64 - 1) → new ≡ min (length (concat (take (at + 1) lines))) (2 ^ 64 - 1)
one_longer lines at size new line within is before now =
    let taken : concat (take (at + 1) lines) ≡ concat (take at lines) ++ get_or lines at [] =
    ap concat (take_more lines at [] within) ∙ concat-append (take at lines) (get_or lines at [] ∷ []) ∙ ap (λ (t : List ℕ). concat (take at lines) ++ t) (append-nil (get_or lines at [])) in
    omega (arith, before, now, ap length is, ap length taken, length-append (concat (take at lines)) (get_or lines at []))

-- ids have 37 bytes each
pub ids-length : (ids : List Id) → length (flat_map line_of_id ids) ≡ 37 * length ids
ids-length [] = refl
ids-length (id ∷ ids) =
    omega (arith, ids-length ids, length-text_of id.0, length-append (text_of id.0) (10 ∷ []), length-append (line_of_id id) (flat_map line_of_id ids))

-- the four parts of a text
pub parts-length : (first ids rows lines : List ℕ) → length (first ++ (ids ++ (rows ++ lines))) ≡ length first + length ids + length rows + length lines
parts-length first ids rows lines = omega (arith, length-append first (ids ++ (rows ++ lines)), length-append ids (rows ++ lines), length-append rows lines)

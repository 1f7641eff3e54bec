-- No head and no trailer section has more fields than a text has room for.
use Rattle.std.proofs.Common.{◌≡◌, ℕ, ◌+◌, ◌*◌, ◌<◌, ◌≤◌, List, [], ◌∷◌, ◌++◌, length, refl, ap, ◌∙◌, arith, length-append}
use Rattle.std.proofs.lemmas.List.{append-nil}
use Rattle.std.proofs.lemmas.List.Elements.{All-head, All-tail}
use Rattle.std.proofs.lemmas.List.Sums.{sum_by-append}
use Rattle.std.specs.List.{flat_map, All}
use Rattle.httparse.specs.Grammar.{LineEnd, crlf, lf, print_end, Field, IsField, print_field, print_section, ReadsSection, RequestHead, ReadsRequest, print_request, ResponseHead, ReadsResponse, print_response}
use Rattle.http_heads.specs.Room.{lines_in, most_spans}
use Rattle.http_heads.proofs.HeadLemmas.{length-print_end}
use Rattle.http_heads.proofs.OpenHeads.{request_start, request_parts, reply_start, reply_parts}

-- ---- how long fields are

length-print_field : (f : Field) → IsField f → 3 ≤ length (print_field f)
length-print_field f field =
    let name = field.name.0 in
    let end = length-print_end f.end in
    simp length-append (omega arith)

length-fields : (fields : List Field) → All IsField fields → 3 * length fields ≤ length (flat_map print_field fields)
length-fields [] all = omega arith
length-fields (f ∷ fields) all =
    let first = length-print_field f (All-head IsField f fields all) in
    let others = length-fields fields (All-tail IsField f fields all) in
    let both : length (flat_map print_field (f ∷ fields)) ≡ length (print_field f) + length (flat_map print_field fields) =
    length-append (print_field f) (flat_map print_field fields) in
    omega arith

-- ---- how many lines they have

lines-append : (front back : List ℕ) → lines_in (front ++ back) ≡ lines_in front + lines_in back
lines-append front back = sum_by-append _ front back

lines-print_end : (end : LineEnd) → lines_in (print_end end) ≡ 1
lines-print_end crlf = refl
lines-print_end lf = refl

lines-print_field : (f : Field) → 1 ≤ lines_in (print_field f)
lines-print_field f =
    let whole : lines_in (print_field f) ≡ lines_in (f.name ++ 58 ∷ f.raw) + lines_in (print_end f.end) = lines-append (f.name ++ 58 ∷ f.raw) (print_end f.end) in
    let end = lines-print_end f.end in
    omega arith

lines-fields : (fields : List Field) → length fields ≤ lines_in (flat_map print_field fields)
lines-fields [] = omega arith
lines-fields (f ∷ fields) =
    let first = lines-print_field f in
    let others = lines-fields fields in
    let both = lines-append (print_field f) (flat_map print_field fields) in
    omega arith

-- ---- the room

-- the front of a text has an empty line behind it, and is then fields behind some start
module _ (text front rest start : List ℕ) (room : ℕ) (fields : List Field) (last : LineEnd) (short : length text ≤ 16384) (roomy : most_spans text ≤ room)
    (is : text ≡ front ++ rest) (whole : front ++ 10 ∷ [] ≡ start ++ print_section fields last) (all : All IsField fields) where
  few_lines : length fields ≤ lines_in text
  few_lines =
      let text_lines : lines_in text ≡ lines_in front + lines_in rest = ap lines_in is ∙ lines-append front rest in
      let longer : lines_in (front ++ 10 ∷ []) ≡ lines_in front + 1 = lines-append front (10 ∷ []) in
      let parts : lines_in (front ++ 10 ∷ []) ≡ lines_in start + lines_in (print_section fields last) = ap lines_in whole ∙ lines-append start (print_section fields last) in
      let section = lines-append (flat_map print_field fields) (print_end last) in
      let end = lines-print_end last in
      let each = lines-fields fields in
      omega arith

  few_bytes : length fields ≤ 5461
  few_bytes =
      let text_long : length text ≡ length front + length rest = ap length is ∙ length-append front rest in
      let longer : length (front ++ 10 ∷ []) ≡ length front + 1 = length-append front (10 ∷ []) in
      let parts : length (front ++ 10 ∷ []) ≡ length start + length (print_section fields last) = ap length whole ∙ length-append start (print_section fields last) in
      let section = length-append (flat_map print_field fields) (print_end last) in
      let end = length-print_end last in
      let each = length-fields fields all in
      omega arith

  fit_room : room < length fields → ⊥
  fit_room over =
      let lines = few_lines in
      let bytes = few_bytes in
      omega arith

module _ (text front rest : List ℕ) (room : ℕ) (short : length text ≤ 16384) (roomy : most_spans text ≤ room) (is : text ≡ front ++ rest) where
  pub request_fits_room : (head : RequestHead) → ReadsRequest (front ++ 10 ∷ []) head [] → room < length head.fields → ⊥
  request_fits_room head reads =
      fit_room text front rest (request_start head) room head.fields head.last short roomy is (reads.1 ∙ append-nil (print_request head) ∙ request_parts head) reads.0.fields

  pub reply_fits_room : (head : ResponseHead) → ReadsResponse (front ++ 10 ∷ []) head [] → room < length head.fields → ⊥
  reply_fits_room head reads =
      fit_room text front rest (reply_start head) room head.fields head.last short roomy is (reads.1 ∙ append-nil (print_response head) ∙ reply_parts head) reads.0.fields

  pub section_fits_room : (fields : List Field) → ReadsSection (front ++ 10 ∷ []) fields lf [] → room < length fields → ⊥
  section_fits_room fields reads =
      fit_room text front rest [] room fields lf short roomy is (reads.1 ∙ append-nil (print_section fields lf)) reads.0

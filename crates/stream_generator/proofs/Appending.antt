-- Pieces that are appended one behind another, and how long a patch is.
use Rattle.std.proofs.Common.{◌≡◌, ℕ, zero, suc, pred, ◌+◌, ◌/◌, ◌%◌, ◌^◌, ◌<◌, ◌≤◌, ◌==◌, Bool, true, false, cond, List, [], ◌++◌, length, Result, Ok, Err, Vec, vec_len, vec_capacity, refl, sym, ap, ◌∙◌, arith, append_assoc, length-append}
use Rattle.std.specs.Prelude.{IsOk, codes, decimal}
use Rattle.std.specs.declared.alloc.Global.{Global}
use Rattle.std.proofs.lemmas.Fmt.{length-decimal-le}
use Rattle.delta_base.specs.Ids.{text_of}
use Rattle.delta_base.proofs.IdLemmas.{length-text_of}
use Rattle.stream_generator.specs.Appended.{AppendsPiece}
use Rattle.stream_generator.specs.Generator.{patch_number, id_line, prev_row, object_text, quad_line, quad_row, delete_row, block_rows, patch_text}

module _ {T E : Type 0} (a b c : List ℕ) (v0 v1 v2 v3 : Vec ℕ Global) (done also : T) where
  -- three pieces, of which the last one may fail
  pub three : (last : Result T E) → AppendsPiece {E = E} a v0 v1 (Ok done) → AppendsPiece {E = E} b v1 v2 (Ok also) → AppendsPiece c v2 v3 last → AppendsPiece (a ++ (b ++ c)) v0 v3 last
  three (Ok x) first second third = record {
    ok = third.ok ∙ ap (λ (l : List ℕ). l ++ c) (second.ok ∙ ap (λ (l : List ℕ). l ++ b) first.ok) ∙ append_assoc (v0.items ++ a) b c ∙ append_assoc v0.items a (b ++ c);
    longer = omega (arith, third.longer, second.longer, first.longer, length-append a (b ++ c), length-append b c);
    ready = λ fits. refl;
    room = omega (arith, first.room, second.room, third.room);
  }
  three (Err e) first second third = record {
    ok = tt;
    longer = tt;
    ready = λ fits. third.ready (omega (arith, fits, first.longer, second.longer, first.room, second.room, length-append a (b ++ c), length-append b c));
    room = omega (arith, first.room, second.room, third.room);
  }

-- ---- how long a patch is

decimal_short : (n : ℕ) → n < 2 ^ 32 → length (decimal n) ≤ 10
decimal_short n small = length-decimal-le 10 n (omega arith) (omega arith) (omega arith)

object_short : (k : ℕ) → k < 2 ^ 32 → length (object_text k) ≤ 18
object_short k small = omega (arith, decimal_short k small, length-append (codes "> \"") (decimal k ++ codes "\" .\n"), length-append (decimal k) (codes "\" .\n"))

quad_short : (code : List ℕ) (k : ℕ) → length code ≡ 1 → k < 2 ^ 32 → length (quad_row code k) ≤ 64
quad_short code k one small =
    let subject : k % 100 < 2 ^ 32 = omega arith in
    let predicate : k % 7 < 2 ^ 32 = omega arith in
    let behind = codes "> <http://g/p" ++ (decimal (k % 7) ++ object_text k) in
    omega (
      arith,
      one,
      decimal_short (k % 100) subject,
      decimal_short (k % 7) predicate,
      object_short k small,
      length-append code (quad_line k),
      length-append (codes " <http://g/s") (decimal (k % 100) ++ behind),
      length-append (decimal (k % 100)) behind,
      length-append (codes "> <http://g/p") (decimal (k % 7) ++ object_text k),
      length-append (decimal (k % 7)) (object_text k),
    )

header_short : (front : List ℕ) (k : ℕ) → length front ≤ 13 → length (front ++ (text_of (patch_number k) ++ codes "> .\n")) ≤ 53
header_short front k short =
    omega (arith, short, length-append front (text_of (patch_number k) ++ codes "> .\n"), length-append (text_of (patch_number k)) (codes "> .\n"), length-text_of (patch_number k))

either_short : (b : Bool) (most : ℕ) (x y : List ℕ) → length x ≤ most → length y ≤ most → length (cond b x y) ≤ most
either_short true most x y first second = first
either_short false most x y first second = second

pub patch_short : (k : ℕ) → k < 2 ^ 32 → length (patch_text k) ≤ 256
unfolding patch_text
patch_short k small =
    let third : k / 3 < 2 ^ 32 = omega arith in
    let prev : length (prev_row k) ≤ 53 = either_short (k == 1) 53 [] (codes "H prev <uuid:" ++ (text_of (patch_number (pred k)) ++ codes "> .\n")) (omega arith) (header_short (codes "H prev <uuid:") (pred k) (omega arith)) in
    let deleted : length (delete_row k) ≤ 64 = either_short (k % 3 == 0) 64 (quad_row (codes "D") (k / 3)) [] (quad_short (codes "D") (k / 3) refl third) (omega arith) in
    omega (
      arith,
      prev,
      deleted,
      header_short (codes "H id <uuid:") k (omega arith),
      quad_short (codes "A") k refl small,
      length-append (id_line k) (prev_row k ++ block_rows k),
      length-append (prev_row k) (block_rows k),
      length-append (codes "TX .\n") (quad_row (codes "A") k ++ (delete_row k ++ codes "TC .\n")),
      length-append (quad_row (codes "A") k) (delete_row k ++ codes "TC .\n"),
      length-append (delete_row k) (codes "TC .\n"),
    )

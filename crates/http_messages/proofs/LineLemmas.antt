-- Facts about chunk lines that are followed.
use Rattle.std.proofs.Common.{◌≡◌, ℕ, ◌+◌, ◌<◌, true, List, [], ◌∷◌, ◌++◌, length, take, get_or, None, Some, Ok, sym, ap, ◌∙◌, subst, inr, arith, append_assoc, length-append}
use Rattle.std.specs.Prelude.{IsTrue}
use Rattle.std.specs.Char.{is_ascii_hexdigit}
use Rattle.std.specs.List.{All, list_all}
use Rattle.std.proofs.lemmas.List.{append-nil, take_all, take_more}
use Rattle.std.proofs.lemmas.List.Elements.{All-append, All-cons, All-nil}
use Rattle.std.proofs.lemmas.List.Sums.{AllPass-from_list_all}
use Rattle.httparse.specs.Ascii.{crlf_bytes}
use Rattle.httparse.specs.Grammar.{AllPass, ChunkLine, ReadsChunkLine, print_chunk_line, HasNoChunkLine, NeverHasChunkLine, is_ows, is_extension_byte}
use Rattle.httparse.proofs.ChunkLemmas.{chunk_line_unique, ReadsChunkLine-append}
use Rattle.httparse.proofs.GrammarLemmas.{cons-append}
use Rattle.http_messages.specs.Chunks.{IsBadLine}
use Rattle.http_messages.specs.Line.{FollowsLine, is_followed}
use Rattle.http_messages.specs.Stages.{HoldsLine, PartStepIs}
use Rattle.http_heads.specs.declared.framing.Framing.{Framing}
use Rattle.http_messages.specs.declared.line.LineAt.{LineAt}
use Rattle.http_messages.specs.declared.line.LineAt.TheVariants.{Size, Extension, Unknown}
use Rattle.http_messages.specs.declared.stage.BodyPart.TheVariants as parts
use Rattle.http_messages.proofs.ChunkLemmas.{at_line_more}

-- ---- more bytes

pub digits_more : (text : List ℕ) (end : ℕ) → end < length text → AllPass is_ascii_hexdigit (take end text) → is_ascii_hexdigit (get_or text end 0) ≡ true
    → AllPass is_ascii_hexdigit (take (end + 1) text)
digits_more text end within passes is =
    let P : ℕ → Type 0 = λ b. IsTrue (is_ascii_hexdigit b) in
    subst (All P) (sym (take_more text end 0 within)) (All-append P (take end text) (get_or text end 0 ∷ []) passes (All-cons P (get_or text end 0) [] is (All-nil P)))

pub blanks_more : (text bytes : List ℕ) → list_all is_ows bytes ≡ true → FollowsLine text Size → FollowsLine (text ++ bytes) Size
blanks_more text bytes are (digits, pad, size, blanks, is) = (
  digits,
  pad ++ bytes,
  size,
  All-append (λ b. IsTrue (is_ows b)) pad bytes blanks (AllPass-from_list_all is_ows bytes are),
  ap (λ (t : List ℕ). t ++ bytes) is ∙ append_assoc digits pad bytes,
)

pub extension_more : (text bytes : List ℕ) → list_all is_extension_byte bytes ≡ true → FollowsLine text Extension → FollowsLine (text ++ bytes) Extension
extension_more text bytes are (digits, pad, extension, size, blanks, passes, is) = (
  digits,
  pad,
  extension ++ bytes,
  size,
  blanks,
  All-append (λ b. IsTrue (is_extension_byte b)) extension bytes passes (AllPass-from_list_all is_extension_byte bytes are),
  ap (λ (t : List ℕ). t ++ bytes) is ∙ regroup digits pad extension bytes,
)
  where
    regroup : (a b c d : List ℕ) → (a ++ (b ++ 59 ∷ c)) ++ d ≡ a ++ (b ++ 59 ∷ (c ++ d))
    regroup a b c d = simp (append_assoc, cons-append)

-- ---- a line that is followed is open

-- its line end makes it whole
ends : (text : List ℕ) (at : LineAt) → is_followed at ≡ true → FollowsLine text at → (line : ChunkLine) × ReadsChunkLine (text ++ crlf_bytes) line []
unfolding print_chunk_line
ends text Size known (digits, pad, size, blanks, is) = (
  record { digits = digits; pad = pad; extension = None },
  (record { digits = size; pad = blanks; extension = tt }, ap (λ (t : List ℕ). t ++ crlf_bytes) is ∙ regroup digits pad crlf_bytes),
)
  where
    regroup : (a b c : List ℕ) → (a ++ b) ++ c ≡ (((a ++ b) ++ []) ++ c) ++ []
    regroup a b c = simp (append_assoc, append-nil)
ends text Extension known (digits, pad, extension, size, blanks, passes, is) = (
  record { digits = digits; pad = pad; extension = Some extension },
  (record { digits = size; pad = blanks; extension = passes }, ap (λ (t : List ℕ). t ++ crlf_bytes) is ∙ regroup digits pad (59 ∷ extension) crlf_bytes),
)
  where
    regroup : (a b c d : List ℕ) → (a ++ (b ++ c)) ++ d ≡ (((a ++ b) ++ c) ++ d) ++ []
    regroup a b c d = simp (append_assoc, append-nil)
ends text Unknown known follows = cc

pub line_none : (text : List ℕ) (at : LineAt) → is_followed at ≡ true → FollowsLine text at → HasNoChunkLine text
line_none text at known follows = λ other rest reads.
    let made = ends text at known follows in
    let same = chunk_line_unique (text ++ crlf_bytes) other made.0 (rest ++ crlf_bytes) [] (ReadsChunkLine-append text other rest crlf_bytes reads) made.1 in
    let long : length rest + 2 ≡ 0 = sym (length-append rest crlf_bytes) ∙ ap length same.1 in
    omega arith

line_good : (text : List ℕ) (at : LineAt) → is_followed at ≡ true → FollowsLine text at → NeverHasChunkLine text → ⊥
line_good text at known follows never = let made = ends text at known follows in never crlf_bytes made.0 [] made.1

-- an open line that fills its limit is too long
pub full_line : (text : List ℕ) → length text ≡ 256 → HasNoChunkLine text → IsBadLine text
full_line text full none = inr (omega arith, subst HasNoChunkLine (sym (take_all 256 text (omega arith))) none)

-- bytes that were followed are kept
pub kept_line : (framing : Framing) (body behind old new bytes : List ℕ) (used : ℕ) (at : LineAt) → HoldsLine framing body behind old → new ≡ old ++ bytes
    → used ≡ length bytes → 0 < length bytes → length new < 256 → is_followed at ≡ true → FollowsLine (old ++ bytes) at
    → PartStepIs framing behind bytes body new (Ok (used, Some (parts.Line at)))
kept_line framing body behind old new bytes used at (chunked, place) is used_is some fits known follows =
    let here = subst (λ (t : List ℕ). FollowsLine t at) (sym is) follows in
    let all : old ++ take used bytes ≡ new = ap (λ (t : List ℕ). old ++ t) (take_all used bytes (omega arith)) ∙ sym is in (
      (omega arith, omega arith),
      (
        (chunked, at_line_more body behind old (take used bytes) new place all),
        record { short = fits; none = line_none new at known here; good = line_good new at known here },
        here,
      ),
    )

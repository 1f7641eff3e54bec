-- Facts about the steps in a chunked body.
use Rattle.std.proofs.Common.{◌≡◌, ◌≢◌, ℕ, ◌+◌, ◌-◌, ◌<◌, ◌≤◌, ◌⊎◌, List, [], ◌∷◌, ◌++◌, length, take, drop, get_or, refl, sym, ap, ◌∙◌, subst, inl, inr, arith, append_assoc, length-append, All}
use Rattle.std.proofs.lemmas.List.{append-nil}
use Rattle.std.proofs.lemmas.List.Elements.{All-append, All-cons, All-nil}
use Rattle.std.proofs.lemmas.Grind.{flat_map-append}
use Rattle.std.specs.Prelude.{None, IsTrue}
use Rattle.std.specs.Char.{is_ascii_hexdigit}
use Rattle.std.specs.List.{flat_map}
use Rattle.httparse.specs.Grammar.{ChunkLine, ReadsChunkLine, print_chunk_line, chunk_size, HasNoChunkLine, NeverHasChunkLine, Field, LineEnd, lf, crlf, print_end, print_section, ReadsSection, HasNoSection, NeverHasSection, IsField, print_field}
use Rattle.httparse.specs.Spans.{IsChunkLineAt}
use Rattle.httparse.proofs.ChunkLemmas.{ReadsChunkLine-append}
use Rattle.http_messages.specs.Chunks.{Chunk, IsChunk, print_chunk, data_of, IsShortLine, most_line, most_trailers, IsBadLine, AreBadTrailers, IsNoLineEnd, BeginsWithLine, IsChunkFault}
use Rattle.http_heads.specs.Framing.{most_body}
use Rattle.http_messages.specs.Messages.{IsBodyFault, IsBody}
use Rattle.http_messages.specs.Stages.{IsOpenLine, AreOpenTrailers, IsInChunk, IsAtLine, IsAtTrailers}
use Rattle.http_heads.specs.declared.framing.FrameFault.{FrameFault}
use Rattle.http_heads.specs.declared.framing.FrameFault.TheVariants.{BadChunk}
use Rattle.http_heads.specs.declared.framing.Framing.{Framing}
use Rattle.http_heads.specs.declared.framing.Framing.TheVariants.{Chunked}
use Rattle.http_messages.proofs.PieceLemmas.{IsMost, front_taken, all_taken, length_taken, most_fits, front_is_past, front_is_used}

-- a fault behind the chunks is the body's
pub fault_at_line : (framing : Framing) (body behind kept more : List ℕ) (fault : FrameFault) → framing ≡ Chunked → IsAtLine body behind kept
    → IsChunkFault (length body) (kept ++ more) fault → IsBodyFault framing (behind ++ more) fault
fault_at_line framing body behind kept more fault chunked at bad =
    subst (λ (f : Framing). IsBodyFault f (behind ++ more) fault) (sym chunked) (
      at.chunks,
      kept ++ more,
      at.before,
      ap (λ (t : List ℕ). t ++ more) at.behind_is ∙ append_assoc (flat_map print_chunk at.chunks) kept more,
      subst (λ (n : ℕ). IsChunkFault n (kept ++ more) fault) (ap length at.body_is) bad,
    )

module _ (kept piece : List ℕ) (most : ℕ) (is : IsMost kept piece most_line most) (text : List ℕ) (text_is : text ≡ kept ++ take most piece) where
  pub line_never : NeverHasChunkLine text → IsBadLine (kept ++ piece)
  line_never never = inl (subst NeverHasChunkLine (text_is ∙ sym (front_taken kept piece most_line most is)) never)

  pub line_too_long : length text ≡ 256 → HasNoChunkLine text → IsBadLine (kept ++ piece)
  line_too_long long none =
      let fits = most_fits kept piece most_line most is in
      let whole = length_taken kept piece most_line most is in
      let all = length-append kept piece in
      let same = ap length text_is in
      inr (omega arith, subst HasNoChunkLine (text_is ∙ sym (front_taken kept piece most_line most is)) none)

  pub line_begins : (len size : ℕ) (line : ChunkLine) → IsChunkLineAt text len size line → BeginsWithLine (kept ++ piece) line (drop len text ++ drop most piece)
  line_begins len size line at =
      let whole = length_taken kept piece most_line most is in
      let same = ap length text_is in
      let parts : length text ≡ length (print_chunk_line line) + length (drop len text) = ap length at.reads.1 ∙ length-append (print_chunk_line line) (drop len text) in
      record {
        reads = subst (λ (t : List ℕ). ReadsChunkLine t line (drop len text ++ drop most piece))
            (ap (λ (t : List ℕ). t ++ drop most piece) text_is ∙ all_taken kept piece most_line most is)
            (ReadsChunkLine-append text line (drop len text) (drop most piece) at.reads);
        short = omega (arith, is.short, is.most_is);
      }

  pub line_is_past : (len size : ℕ) (line : ChunkLine) → HasNoChunkLine kept → IsChunkLineAt text len size line → length kept < len
  line_is_past len size line none at =
      let past = front_is_past kept piece most_line most is (print_chunk_line line) (drop len text) (sym text_is ∙ at.reads.1)
      (λ after same. none line after (at.reads.0, same)) in
      omega (arith, at.len_is)

  pub line_is_used : (len size : ℕ) (line : ChunkLine) → HasNoChunkLine kept → IsChunkLineAt text len size line
      → (len - length kept ≤ length piece) × (kept ++ take (len - length kept) piece ≡ print_chunk_line line)
  line_is_used len size line none at =
      let past = front_is_past kept piece most_line most is (print_chunk_line line) (drop len text) (sym text_is ∙ at.reads.1)
      (λ after same. none line after (at.reads.0, same)) in
      let P : ℕ → Type 0 = λ n. (n - length kept ≤ length piece) × (kept ++ take (n - length kept) piece ≡ print_chunk_line line) in
      subst P (sym at.len_is) (front_is_used kept piece most_line most is (print_chunk_line line) (drop len text) (sym text_is ∙ at.reads.1) past)

-- more bytes stand behind the chunks
pub at_line_more : (body behind kept more next : List ℕ) → IsAtLine body behind kept → kept ++ more ≡ next → IsAtLine body (behind ++ more) next
at_line_more body behind kept more next at same = record {
  chunks = at.chunks;
  before = at.before;
  body_is = at.body_is;
  behind_is = ap (λ (t : List ℕ). t ++ more) at.behind_is ∙ append_assoc (flat_map print_chunk at.chunks) kept more
      ∙ ap (λ (t : List ℕ). flat_map print_chunk at.chunks ++ t) same;
}

-- a chunk's line was read: its data begins
pub chunk_begins : (body behind text : List ℕ) (line : ChunkLine) (size : ℕ) → IsAtLine body behind text → text ≡ print_chunk_line line
    → IsShortLine line → size ≡ chunk_size line → 0 < size → length body + size ≤ most_body → IsInChunk body behind [] size
chunk_begins body behind text line size at text_is short size_is some fits = record {
  chunks = at.chunks;
  line = line;
  before = at.before;
  short = short;
  size = omega arith;
  some = omega arith;
  fits = omega (arith, ap length at.body_is);
  body_is = at.body_is ∙ sym (append-nil (data_of at.chunks));
  behind_is = at.behind_is ∙ ap (λ (t : List ℕ). flat_map print_chunk at.chunks ++ t) (text_is ∙ sym (append-nil (print_chunk_line line)));
}

-- the last chunk's line was read
pub trailers_begin : (body behind text : List ℕ) (line : ChunkLine) → IsAtLine body behind text → text ≡ print_chunk_line line
    → IsShortLine line → chunk_size line ≡ 0 → IsAtTrailers body behind []
trailers_begin body behind text line at text_is short zero = record {
  chunks = at.chunks;
  last = line;
  before = at.before;
  short = short;
  zero = zero;
  body_is = at.body_is;
  behind_is = at.behind_is ∙ ap (λ (t : List ℕ). flat_map print_chunk at.chunks ++ t) (text_is ∙ sym (append-nil (print_chunk_line line)));
}

length_end : (end : LineEnd) → 0 < length (print_end end)
length_end lf = omega arith
length_end crlf = omega arith

no_section : HasNoSection []
no_section fields last rest reads =
    let long : 0 ≡ length (print_section fields last) + length rest = ap length reads.1 ∙ length-append (print_section fields last) rest in
    let section = length-append (flat_map print_field fields) (print_end last) in
    let end = length_end last in
    omega arith

pub open_trailers : AreOpenTrailers []
open_trailers = record {
  short = omega arith;
  none = no_section;
  good = λ never. never (10 ∷ []) [] lf [] (All-nil _, refl);
}

no_line : HasNoChunkLine []
unfolding print_chunk_line
no_line line rest reads =
    let long : 0 ≡ length (print_chunk_line line) + length rest = ap length reads.1 ∙ length-append (print_chunk_line line) rest in
    let parts = simp length-append at long in
    let end = length_end crlf in
    omega (arith, parts)

pub open_line : IsOpenLine []
unfolding print_chunk_line
open_line = record {
  short = omega arith;
  none = no_line;
  good = λ never. never (48 ∷ 13 ∷ 10 ∷ []) (record { digits = 48 ∷ []; pad = []; extension = None }) []
      (record { digits = (omega arith, omega arith, All-cons (λ b. IsTrue (is_ascii_hexdigit b)) 48 [] refl (All-nil _)); pad = All-nil _; extension = tt }, refl);
}

-- a whole line: what is used of the piece, and what is then known
module _ (kept piece : List ℕ) (most : ℕ) (is : IsMost kept piece most_line most) (text : List ℕ) (text_is : text ≡ kept ++ take most piece)
    (len size : ℕ) (line : ChunkLine) (none : HasNoChunkLine kept) (at : IsChunkLineAt text len size line)
    (body behind : List ℕ) (kept_len : ℕ) where
  pub line_step : IsAtLine body behind kept → kept_len ≡ length kept
      → ((0 < len - kept_len) × (len - kept_len ≤ length piece)) × IsAtLine body (behind ++ take (len - kept_len) piece) (kept ++ take (len - kept_len) piece)
      × (kept ++ take (len - kept_len) piece ≡ print_chunk_line line) × IsShortLine line
  line_step at_line kept_is =
      let past = line_is_past kept piece most is text text_is len size line none at in
      let used = line_is_used kept piece most is text text_is len size line none at in
      let begins = line_begins kept piece most is text text_is len size line at in
      let P : ℕ → Type 0 = λ k. kept ++ take (len - k) piece ≡ print_chunk_line line in (
        (omega arith, omega (arith, used.0)),
        at_line_more body behind kept (take (len - kept_len) piece) _ at_line refl,
        subst P (sym kept_is) used.1,
        record { line = begins.reads.0; short = begins.short },
      )

-- one more front of the data has come
pub content_more : (body behind content more : List ℕ) (left rest : ℕ) → IsInChunk body behind content left → length more + rest ≡ left
    → IsInChunk (body ++ more) (behind ++ more) (content ++ more) rest
content_more body behind content more left rest at parts = record {
  chunks = at.chunks;
  line = at.line;
  before = at.before;
  short = at.short;
  size = omega (arith, at.size, length-append content more);
  some = at.some;
  fits = at.fits;
  body_is = ap (λ (t : List ℕ). t ++ more) at.body_is ∙ append_assoc (data_of at.chunks) content more;
  behind_is = ap (λ (t : List ℕ). t ++ more) at.behind_is
      ∙ regroup (flat_map print_chunk at.chunks) (print_chunk_line at.line) content more;
}
  where
    regroup : (a b c d : List ℕ) → (a ++ (b ++ c)) ++ d ≡ a ++ (b ++ (c ++ d))
    regroup a b c d = simp append_assoc

-- a chunk's data isn't followed by its line end
pub fault_at_end : (framing : Framing) (body before behind content kept more : List ℕ) → framing ≡ Chunked → IsInChunk body before content 0
    → behind ≡ before ++ kept → IsNoLineEnd (kept ++ more) → IsBodyFault framing (behind ++ more) BadChunk
fault_at_end framing body before behind content kept more chunked at behind_is none =
    let whole : behind ++ more ≡ flat_map print_chunk at.chunks ++ (print_chunk_line at.line ++ (content ++ (kept ++ more))) =
    ap (λ (t : List ℕ). t ++ more) (behind_is ∙ ap (λ (t : List ℕ). t ++ kept) at.behind_is)
    ∙ regroup (flat_map print_chunk at.chunks) (print_chunk_line at.line) content kept more in
    subst (λ (f : Framing). IsBodyFault f (behind ++ more) BadChunk) (sym chunked) (
      at.chunks,
      print_chunk_line at.line ++ (content ++ (kept ++ more)),
      at.before,
      whole,
      inr (
        at.line,
        content ++ (kept ++ more),
        record { reads = (at.short.line, refl); short = at.short.short },
        at.fits,
        inl (content, kept ++ more, at.some, omega (arith, at.size), refl, none),
      ),
    )
  where
    regroup : (a b c d e : List ℕ) → ((a ++ (b ++ c)) ++ d) ++ e ≡ a ++ (b ++ (c ++ (d ++ e)))
    regroup a b c d e = simp append_assoc

-- the first byte of a piece
pub first_byte : (piece : List ℕ) → 0 < length piece → (rest : List ℕ) × (piece ≡ get_or piece 0 0 ∷ rest) × (take 1 piece ≡ get_or piece 0 0 ∷ [])
first_byte [] some = absurd (omega arith)
first_byte (a ∷ piece) some = (piece, refl, refl)

pub no_line_feed : (piece : List ℕ) → 0 < length piece → get_or piece 0 0 ≢ 13 → IsNoLineEnd piece
no_line_feed [] some other = absurd (omega arith)
no_line_feed (a ∷ []) some other = other
no_line_feed (a ∷ b ∷ piece) some other = inl other

pub no_line_feed_next : (piece : List ℕ) → 0 < length piece → get_or piece 0 0 ≢ 10 → IsNoLineEnd (13 ∷ piece)
no_line_feed_next [] some other = absurd (omega arith)
no_line_feed_next (b ∷ piece) some other = inr other

-- a chunk is whole once its line end has come
pub chunk_ends : (body before behind content : List ℕ) → IsInChunk body before content 0 → behind ≡ before ++ 13 ∷ 10 ∷ [] → IsAtLine body behind []
chunk_ends body before behind content at behind_is =
    let chunk : Chunk = record { line = at.line; content = content } in
    let chunks : data_of (at.chunks ++ chunk ∷ []) ≡ data_of at.chunks ++ content =
    flat_map-append (λ c. c.content) at.chunks (chunk ∷ []) ∙ ap (λ (t : List ℕ). data_of at.chunks ++ t) (append-nil content) in
    let printed : flat_map print_chunk (at.chunks ++ chunk ∷ []) ≡ flat_map print_chunk at.chunks ++ (print_chunk chunk ++ []) =
    flat_map-append print_chunk at.chunks (chunk ∷ []) in
    let size : chunk_size at.line ≡ length content = omega (arith, at.size) in
    let one : IsChunk chunk = record { line = at.short; size = size; some = omega (arith, at.some) } in
    record {
      chunks = at.chunks ++ chunk ∷ [];
      before = record {
        each = All-append IsChunk at.chunks (chunk ∷ []) at.before.each (All-cons IsChunk chunk [] one (All-nil IsChunk));
        fit = omega (arith, ap length chunks, length-append (data_of at.chunks) content, at.fits);
      };
      body_is = at.body_is ∙ sym chunks;
      behind_is = behind_is ∙ ap (λ (t : List ℕ). t ++ 13 ∷ 10 ∷ []) at.behind_is
          ∙ regroup (flat_map print_chunk at.chunks) (print_chunk_line at.line) content (13 ∷ 10 ∷ []) ∙ ap (λ (t : List ℕ). t ++ []) (sym printed);
    }
  where
    regroup : (a b c d : List ℕ) → (a ++ (b ++ c)) ++ d ≡ (a ++ ((b ++ (c ++ d)) ++ [])) ++ []
    regroup a b c d = simp (append_assoc, append-nil)

-- which part of the line end has come
pub none_of_end : (kept : List ℕ) → (kept ≡ []) ⊎ (kept ≡ 13 ∷ []) → length kept ≡ 0 → kept ≡ []
none_of_end kept (inl empty) zero = empty
none_of_end kept (inr some) zero = let one = ap length some in absurd (omega arith)

pub first_of_end : (kept : List ℕ) → (kept ≡ []) ⊎ (kept ≡ 13 ∷ []) → length kept ≢ 0 → kept ≡ 13 ∷ []
first_of_end kept (inl empty) some = absurd (some (ap length empty))
first_of_end kept (inr some) not_empty = some

-- the fault of bad trailers is the body's
pub fault_at_trailers : (framing : Framing) (body behind kept more : List ℕ) → framing ≡ Chunked → IsAtTrailers body behind kept
    → AreBadTrailers (kept ++ more) → IsBodyFault framing (behind ++ more) BadChunk
fault_at_trailers framing body behind kept more chunked at bad =
    let whole : behind ++ more ≡ flat_map print_chunk at.chunks ++ (print_chunk_line at.last ++ (kept ++ more)) =
    ap (λ (t : List ℕ). t ++ more) at.behind_is ∙ regroup (flat_map print_chunk at.chunks) (print_chunk_line at.last) kept more in
    let fits : length (data_of at.chunks) + chunk_size at.last ≤ most_body = omega (arith, at.zero, at.before.fit) in
    subst (λ (f : Framing). IsBodyFault f (behind ++ more) BadChunk) (sym chunked) (
      at.chunks,
      print_chunk_line at.last ++ (kept ++ more),
      at.before,
      whole,
      inr (at.last, kept ++ more, record { reads = (at.short.line, refl); short = at.short.short }, fits, inr (at.zero, bad)),
    )
  where
    regroup : (a b c d : List ℕ) → (a ++ (b ++ c)) ++ d ≡ a ++ (b ++ (c ++ d))
    regroup a b c d = simp append_assoc

pub trailers_more : (body behind kept more next : List ℕ) → IsAtTrailers body behind kept → kept ++ more ≡ next → IsAtTrailers body (behind ++ more) next
trailers_more body behind kept more next at same = record {
  chunks = at.chunks;
  last = at.last;
  before = at.before;
  short = at.short;
  zero = at.zero;
  body_is = at.body_is;
  behind_is = ap (λ (t : List ℕ). t ++ more) at.behind_is ∙ regroup (flat_map print_chunk at.chunks) (print_chunk_line at.last) kept more
      ∙ ap (λ (t : List ℕ). flat_map print_chunk at.chunks ++ (print_chunk_line at.last ++ t)) same;
}
  where
    regroup : (a b c d : List ℕ) → (a ++ (b ++ c)) ++ d ≡ a ++ (b ++ (c ++ d))
    regroup a b c d = simp append_assoc

-- the body is whole once the trailers are
pub body_ends : (framing : Framing) (body behind : List ℕ) (fields : List Field) (last : LineEnd) → framing ≡ Chunked
    → IsAtTrailers body behind (print_section fields last) → All IsField fields → length (print_section fields last) ≤ most_trailers
    → IsBody framing behind body
body_ends framing body behind fields last chunked at are short =
    subst (λ (f : Framing). IsBody f behind body) (sym chunked) (
      record { chunks = at.chunks; last = at.last; trailers = fields; end = last },
      record { chunks = at.before; last = at.short; zero = at.zero; trailers = are; short = short },
      at.behind_is,
      at.body_is,
    )

module _ (kept piece : List ℕ) (most : ℕ) (is : IsMost kept piece most_trailers most) (text : List ℕ) (text_is : text ≡ kept ++ take most piece) where
  pub trailers_never : NeverHasSection text → AreBadTrailers (kept ++ piece)
  trailers_never never = inl (subst NeverHasSection (text_is ∙ sym (front_taken kept piece most_trailers most is)) never)

  pub trailers_too_long : length text ≡ 16384 → HasNoSection text → AreBadTrailers (kept ++ piece)
  trailers_too_long long none =
      let fits = most_fits kept piece most_trailers most is in
      let whole = length_taken kept piece most_trailers most is in
      let all = length-append kept piece in
      let same = ap length text_is in
      inr (omega arith, subst HasNoSection (text_is ∙ sym (front_taken kept piece most_trailers most is)) none)

  pub section_step : (len kept_len : ℕ) (fields : List Field) (last : LineEnd) → HasNoSection kept → ReadsSection text fields last (drop len text)
      → len ≡ 0 + length (print_section fields last) → kept_len ≡ length kept
      → ((0 < len - kept_len) × (len - kept_len ≤ length piece)) × (kept ++ take (len - kept_len) piece ≡ print_section fields last)
      × (length (print_section fields last) ≤ most_trailers) × (kept_len ≤ len)
  section_step len kept_len fields last none reads len_is kept_is =
      let past = front_is_past kept piece most_trailers most is (print_section fields last) (drop len text) (sym text_is ∙ reads.1)
      (λ after same. none fields last after (reads.0, same)) in
      let used = front_is_used kept piece most_trailers most is (print_section fields last) (drop len text) (sym text_is ∙ reads.1) past in
      let whole = length_taken kept piece most_trailers most is in
      let parts : length text ≡ length (print_section fields last) + length (drop len text) = ap length reads.1 ∙ length-append (print_section fields last) (drop len text) in
      let same = ap length text_is in
      let P : ℕ → Type 0 = λ n. kept ++ take n piece ≡ print_section fields last in
      let count : length (print_section fields last) - length kept ≡ len - kept_len = omega arith in
      ((omega arith, omega (arith, used.0)), subst P count used.1, omega (arith, is.short, is.most_is), omega arith)

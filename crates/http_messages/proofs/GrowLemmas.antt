-- What stays when more bytes follow.
use Rattle.std.proofs.Common.{◌≡◌, ℕ, ◌+◌, ◌-◌, ◌<◌, ◌≤◌, ◌⊎◌, List, [], ◌∷◌, ◌++◌, length, take, Bool, true, false, refl, sym, ap, ◌∙◌, subst, inl, inr, arith, ltb, ltb-true, ltb-false, append_assoc, length-append}
use Rattle.std.proofs.lemmas.List.{take_all, take-append-le}
use Rattle.std.proofs.Math.Seq.{take-append-add}
use Rattle.std.specs.List.{flat_map}
use Rattle.httparse.specs.Grammar.{ChunkLine, ReadsChunkLine, chunk_size, Field, LineEnd, ReadsSection}
use Rattle.httparse.proofs.ChunkLemmas.{ReadsChunkLine-append}
use Rattle.http_heads.specs.Heads.{Head}
use Rattle.http_heads.specs.declared.message.Kind.{Kind}
use Rattle.http_messages.specs.Chunks.{most_line, most_trailers, IsBadLine, AreBadTrailers, IsNoLineEnd, BeginsWithLine, IsBadBehind, IsChunkFault, IsChunkedFault, print_chunk, data_of}
use Rattle.http_messages.specs.Messages.{BeginsWithHead, IsFaultOfHead, IsBodyFault}
use Rattle.http_heads.proofs.HeadLaws.{head_grows}
use Rattle.http_heads.specs.declared.framing.FrameFault.{FrameFault}
use Rattle.http_heads.specs.declared.framing.FrameFault.TheVariants.{BadHead, TooManyFields, HeadTooLong, BadHost, TwoLengths, BadLength, BodyTooLong, BadChunk, OutOfMemory}
use Rattle.http_heads.specs.declared.framing.Framing.{Framing}
use Rattle.http_heads.specs.declared.framing.Framing.TheVariants.{Sized, Chunked}

lt_or_le_by : (m n : ℕ) (b : Bool) → ltb m n ≡ b → (m < n) ⊎ (n ≤ m)
lt_or_le_by m n true is = inl (ltb-true m n is)
lt_or_le_by m n false is = inr (ltb-false m n is)

pub lt_or_le : (m n : ℕ) → (m < n) ⊎ (n ≤ m)
lt_or_le m n = lt_or_le_by m n (ltb m n) refl

-- the first n bytes when more follow: the same, or all and some of those that follow
pub take_grows : (n : ℕ) (text more : List ℕ) → n ≤ length text → take n (text ++ more) ≡ take n text
take_grows n text more within = take-append-le n text more within

pub take_past : (n : ℕ) (text more : List ℕ) → length text ≤ n → take n (text ++ more) ≡ text ++ take (n - length text) more
take_past n text more past =
    let split : n ≡ length text + (n - length text) = omega arith in
    ap (λ k. take k (text ++ more)) split ∙ take-append-add text more (n - length text)

pub begins_grows : (kind : Kind) (room : ℕ) (text behind more : List ℕ) (head : Head) → BeginsWithHead kind room text head behind → BeginsWithHead kind room (text ++ more) head (behind ++ more)
begins_grows kind room text behind more head begins = record {
  reads = head_grows kind text head behind more begins.reads;
  short = begins.short;
  few = begins.few;
  final = begins.final;
}

line_grows : (text behind more : List ℕ) (line : ChunkLine) → BeginsWithLine text line behind → BeginsWithLine (text ++ more) line (behind ++ more)
line_grows text behind more line begins = record {
  reads = ReadsChunkLine-append text line behind more begins.reads;
  short = begins.short;
}

-- what is refused in the first n bytes stays refused
module _ (n : ℕ) (Has : List ℕ → Type 0) (text more : List ℕ) where
  abbrev pub IsRefused : List ℕ → Type 0
  IsRefused bytes = ((after : List ℕ) → ¬ (Has (take n bytes ++ after))) ⊎ ((n ≤ length bytes) × ¬ (Has (take n bytes)))

  never_grows : (length text < n) ⊎ (n ≤ length text) → ((after : List ℕ) → ¬ (Has (take n text ++ after)))
      → (after : List ℕ) → ¬ (Has (take n (text ++ more) ++ after))
  never_grows (inl below) never after has =
      let fits : length text ≤ n = omega arith in
      let whole : take n text ≡ text = take_all n text fits in
      let grown : take n (text ++ more) ++ after ≡ take n text ++ (take (n - length text) more ++ after) =
      ap (λ (t : List ℕ). t ++ after) (take_past n text more fits) ∙ append_assoc text _ after
      ∙ ap (λ (t : List ℕ). t ++ (take (n - length text) more ++ after)) (sym whole) in
      never (take (n - length text) more ++ after) (subst Has grown has)
  never_grows (inr within) never after has = never after (subst (λ (t : List ℕ). Has (t ++ after)) (take_grows n text more within) has)

  pub refused_grows : IsRefused text → IsRefused (text ++ more)
  refused_grows (inl never) = inl (never_grows (lt_or_le (length text) n) never)
  refused_grows (inr limit) =
      let long : length (text ++ more) ≡ length text + length more = length-append text more in
      inr (omega arith, λ has. limit.1 (subst Has (take_grows n text more limit.0) has))

abbrev HasLine : List ℕ → Type 0
HasLine bytes = (line : ChunkLine) × (rest : List ℕ) × ReadsChunkLine bytes line rest

abbrev HasFields : List ℕ → Type 0
HasFields bytes = (fields : List Field) × (last : LineEnd) × (rest : List ℕ) × ReadsSection bytes fields last rest

pub bad_line_grows : (text more : List ℕ) → IsBadLine text → IsBadLine (text ++ more)
bad_line_grows text more bad = lines_back (refused_grows most_line HasLine text more (lines_to bad))
  where
    lines_to : IsBadLine text → IsRefused most_line HasLine text more text
    lines_to (inl never) = inl (λ after has. never after has.0 has.1 has.2)
    lines_to (inr limit) = inr (limit.0, λ has. limit.1 has.0 has.1 has.2)

    lines_back : IsRefused most_line HasLine text more (text ++ more) → IsBadLine (text ++ more)
    lines_back (inl never) = inl (λ after line rest reads. never after (line, rest, reads))
    lines_back (inr limit) = inr (limit.0, λ line rest reads. limit.1 (line, rest, reads))

pub bad_trailers_grow : (text more : List ℕ) → AreBadTrailers text → AreBadTrailers (text ++ more)
bad_trailers_grow text more bad = fields_back (refused_grows most_trailers HasFields text more (fields_to bad))
  where
    fields_to : AreBadTrailers text → IsRefused most_trailers HasFields text more text
    fields_to (inl never) = inl (λ after has. never after has.0 has.1 has.2 has.3)
    fields_to (inr limit) = inr (limit.0, λ has. limit.1 has.0 has.1 has.2 has.3)

    fields_back : IsRefused most_trailers HasFields text more (text ++ more) → AreBadTrailers (text ++ more)
    fields_back (inl never) = inl (λ after fields last rest reads. never after (fields, last, rest, reads))
    fields_back (inr limit) = inr (limit.0, λ fields last rest reads. limit.1 (fields, last, rest, reads))

no_line_end_grows : (text more : List ℕ) → IsNoLineEnd text → IsNoLineEnd (text ++ more)
no_line_end_grows [] more none = absurd none
no_line_end_grows (a ∷ []) [] none = none
no_line_end_grows (a ∷ []) (b ∷ more) none = inl none
no_line_end_grows (a ∷ b ∷ text) more none = none

behind_grows : (size : ℕ) (behind more : List ℕ) → IsBadBehind size behind → IsBadBehind size (behind ++ more)
behind_grows size behind more (inl (content, end, some, is_size, is, none)) =
    inl (content, end ++ more, some, is_size, ap (λ (t : List ℕ). t ++ more) is ∙ append_assoc content end more, no_line_end_grows end more none)
behind_grows size behind more (inr (zero, bad)) = inr (zero, bad_trailers_grow behind more bad)

chunk_fault_grows : (had : ℕ) (text more : List ℕ) (fault : FrameFault) → IsChunkFault had text fault → IsChunkFault had (text ++ more) fault
chunk_fault_grows had text more BadChunk (inl bad) = inl (bad_line_grows text more bad)
chunk_fault_grows had text more BadChunk (inr (line, behind, begins, fits, bad)) =
    inr (line, behind ++ more, line_grows text behind more line begins, fits, behind_grows (chunk_size line) behind more bad)
chunk_fault_grows had text more (BodyTooLong size limit) (line, behind, begins, past, size_is, limit_is) = (line, behind ++ more, line_grows text behind more line begins, past, size_is, limit_is)
chunk_fault_grows had text more BadHead fault = absurd fault
chunk_fault_grows had text more TooManyFields fault = absurd fault
chunk_fault_grows had text more HeadTooLong fault = absurd fault
chunk_fault_grows had text more BadHost fault = absurd fault
chunk_fault_grows had text more TwoLengths fault = absurd fault
chunk_fault_grows had text more BadLength fault = absurd fault
chunk_fault_grows had text more OutOfMemory fault = absurd fault

pub chunked_fault_grows : (text more : List ℕ) (fault : FrameFault) → IsChunkedFault text fault → IsChunkedFault (text ++ more) fault
chunked_fault_grows text more fault (chunks, rest, before, is, bad) =
    (chunks, rest ++ more, before, ap (λ (t : List ℕ). t ++ more) is ∙ append_assoc (flat_map print_chunk chunks) rest more, chunk_fault_grows (length (data_of chunks)) rest more fault bad)

pub body_fault_grows : (framing : Framing) (text more : List ℕ) (fault : FrameFault) → IsBodyFault framing text fault → IsBodyFault framing (text ++ more) fault
body_fault_grows (Sized size) text more fault bad = bad
body_fault_grows Chunked text more fault bad = chunked_fault_grows text more fault bad

pub head_fault_grows : (kind : Kind) (room : ℕ) (text more : List ℕ) (fault : FrameFault) → IsFaultOfHead kind room text fault → IsFaultOfHead kind room (text ++ more) fault
head_fault_grows kind room text more fault (head, behind, begins, inl own) = (head, behind ++ more, begins_grows kind room text behind more head begins, inl own)
head_fault_grows kind room text more fault (head, behind, begins, inr (framing, faultless, bad)) =
    (head, behind ++ more, begins_grows kind room text behind more head begins, inr (framing, faultless, body_fault_grows framing behind more fault bad))

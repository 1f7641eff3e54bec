-- A rest that is open has no fault.
use Rattle.std.proofs.Common.{◌≡◌, ℕ, ◌+◌, ◌-◌, ◌<◌, ◌≤◌, ◌⊎◌, List, [], ◌∷◌, ◌++◌, length, take, Ok, Err, refl, sym, ap, ◌∙◌, subst, inl, inr, arith, append_assoc, length-append, All}
use Rattle.std.proofs.lemmas.List.{append-nil, take_all}
use Rattle.std.specs.List.{flat_map}
use Rattle.httparse.specs.Ascii.{crlf_bytes}
use Rattle.httparse.specs.Grammar.{ChunkLine, ReadsChunkLine, print_chunk_line, chunk_size, NeverHasChunkLine, NeverHasSection, Field, IsField, LineEnd, print_section}
use Rattle.httparse.proofs.ChunkLemmas.{chunk_line_unique}
use Rattle.http_heads.specs.Heads.{Head, print_head, fields_of, ReadsHead, IsBadHead, room_behind}
use Rattle.http_messages.specs.Chunks.{Chunk, IsChunk, AreChunks, print_chunk, data_of, IsShortLine, most_line, most_trailers, IsBadLine, AreBadTrailers, IsNoLineEnd, IsBadBehind, IsChunkFault, IsChunkedFault}
use Rattle.http_heads.specs.Framing.{most_body}
use Rattle.http_messages.specs.Messages.{BeginsWithHead, framing_behind, IsFaultAt, IsFrameFault, IsBodyFault, IsBody, BeginsNoMessage}
use Rattle.http_messages.specs.Stages.{IsOpenHead, IsOpenLine, AreOpenTrailers, IsInChunk, HoldsPart}
use Rattle.http_text.specs.Readers.{HoldsRest}
use Rattle.http_heads.specs.declared.message.Kind.{Kind}
use Rattle.http_heads.specs.declared.framing.FrameFault.{FrameFault}
use Rattle.http_heads.specs.declared.framing.FrameFault.TheVariants as faults
use Rattle.http_heads.specs.declared.framing.Framing.{Framing}
use Rattle.http_heads.specs.declared.framing.Framing.TheVariants.{Sized, Chunked}
use Rattle.http_messages.specs.declared.stage.BodyPart.{BodyPart}
use Rattle.http_messages.specs.declared.stage.BodyPart.TheVariants as parts
use Rattle.http_text.specs.declared.reader.Stage.{Stage}
use Rattle.http_text.specs.declared.reader.Stage.TheVariants as stages
use Rattle.http_heads.proofs.HeadLaws.{head_unique, head_grows}
use Rattle.http_messages.proofs.GrowLemmas.{take_past, begins_grows}
use Rattle.http_text.proofs.PassLemmas.{passes_grow, no_interim_none, no_interim_begins, head_in_front, fault_behind}
use Rattle.http_heads.proofs.HeadLaws.{same_parts}
use Rattle.http_messages.proofs.PlaceLemmas.{HasNoChunk, same_place, line_of_chunk}
use Rattle.http_text.proofs.OpenLemmas.{line_place, chunk_place, last_place, whole_text}

-- a chunk line within its limit stands in the first bytes
line_in_front : (line : ChunkLine) (behind : List ℕ) → IsShortLine line
    → ReadsChunkLine (take most_line (print_chunk_line line ++ behind)) line (take (256 - length (print_chunk_line line)) behind)
line_in_front line behind short = (short.line, take_past most_line (print_chunk_line line) behind short.short)

pub no_bad_line : (text : List ℕ) (line : ChunkLine) (behind : List ℕ) → IsShortLine line → text ≡ print_chunk_line line ++ behind → IsBadLine text → ⊥
no_bad_line text line behind short is (inl never) =
    let reads = subst (λ (t : List ℕ). ReadsChunkLine t line (take (256 - length (print_chunk_line line)) behind)) (ap (take most_line) (sym is)) (line_in_front line behind short) in
    never [] line _ (reads.0, append-nil (take most_line text) ∙ reads.1)
no_bad_line text line behind short is (inr (long, none)) =
    none line _ (subst (λ (t : List ℕ). ReadsChunkLine t line (take (256 - length (print_chunk_line line)) behind)) (ap (take most_line) (sym is)) (line_in_front line behind short))

chunk_line_text : (text rest : List ℕ) (c : Chunk) → text ≡ print_chunk c ++ rest → text ≡ print_chunk_line c.line ++ (c.content ++ (crlf_bytes ++ rest))
chunk_line_text text rest c is = is ∙ append_assoc (print_chunk_line c.line) (c.content ++ crlf_bytes) rest
    ∙ ap (λ (t : List ℕ). print_chunk_line c.line ++ t) (append_assoc c.content crlf_bytes rest)

-- behind a chunk's line its data and its line end stand
no_bad_behind : (line : ChunkLine) (behind rest : List ℕ) (c : Chunk) → IsChunk c → c.line ≡ line → c.content ++ (crlf_bytes ++ rest) ≡ behind
    → IsBadBehind (chunk_size line) behind → ⊥
no_bad_behind line behind rest c chunk same is (inl (content, end, some, len, behind_is, none)) =
    let parts = same_parts content c.content end (crlf_bytes ++ rest) (len ∙ sym (ap chunk_size same) ∙ chunk.size) (sym behind_is ∙ sym is) in
    line_ends (subst IsNoLineEnd parts.1 none)
  where
    line_ends : IsNoLineEnd (crlf_bytes ++ rest) → ⊥
    line_ends (inl other) = other refl
    line_ends (inr other) = other refl
no_bad_behind line behind rest c chunk same is (inr (zero, bad)) = let sizes = ap chunk_size same in omega (arith, chunk.size, chunk.some)

-- where a fault stands, no chunk does
pub fault_place : (had : ℕ) (text : List ℕ) (fault : FrameFault) → IsChunkFault had text fault → HasNoChunk had text
fault_place had text faults.BadChunk (inl bad) = record {
  none = λ c rest chunk fits is. no_bad_line text c.line _ chunk.line (chunk_line_text text rest c is) bad;
}
fault_place had text faults.BadChunk (inr (line, behind, begins, fit, bad)) = record {
  none = λ c rest chunk fits is.
      let same = line_of_chunk text rest behind c line chunk is begins.reads in
      no_bad_behind line behind rest c chunk same.0 same.1 bad;
}
fault_place had text (faults.BodyTooLong size limit) (line, behind, begins, past, size_is, limit_is) = record {
  none = λ c rest chunk fits is.
      let same = line_of_chunk text rest behind c line chunk is begins.reads in
      let sizes = ap chunk_size same.0 in
      omega (arith, chunk.size);
}
fault_place had text faults.BadHead bad = absurd bad
fault_place had text faults.TooManyFields bad = absurd bad
fault_place had text faults.HeadTooLong bad = absurd bad
fault_place had text faults.BadHost bad = absurd bad
fault_place had text faults.TwoLengths bad = absurd bad
fault_place had text faults.BadLength bad = absurd bad
fault_place had text faults.OutOfMemory bad = absurd bad

-- the fault stands where the chunks end
fault_here : (chunks : List Chunk) (text behind : List ℕ) (fault : FrameFault) → AreChunks chunks → HasNoChunk (length (data_of chunks)) text
    → behind ≡ flat_map print_chunk chunks ++ text → IsChunkedFault behind fault → IsChunkFault (length (data_of chunks)) text fault
fault_here chunks text behind fault before none is (others, rest, are, behind_is, bad) =
    let same = same_place chunks others text rest before are none (fault_place (length (data_of others)) rest fault bad) (sym is ∙ behind_is) in
    let P : List Chunk → List ℕ → Type 0 = λ cs t. IsChunkFault (length (data_of cs)) t fault in
    subst (λ (t : List ℕ). P chunks t) (sym same.1) (subst (λ (cs : List Chunk). P cs rest) (sym same.0) bad)

-- ---- no fault at the place of each part

line_good : (had : ℕ) (text : List ℕ) (fault : FrameFault) → IsOpenLine text → IsChunkFault had text fault → ⊥
line_good had text faults.BadChunk still (inl (inl never)) = still.good (subst NeverHasChunkLine (take_all most_line text (omega (arith, still.short))) never)
line_good had text faults.BadChunk still (inl (inr (long, none))) = omega (arith, still.short)
line_good had text faults.BadChunk still (inr (line, behind, begins, fit, bad)) = still.none line behind begins.reads
line_good had text (faults.BodyTooLong size limit) still (line, behind, begins, past, size_is, limit_is) = still.none line behind begins.reads
line_good had text faults.BadHead still bad = bad
line_good had text faults.TooManyFields still bad = bad
line_good had text faults.HeadTooLong still bad = bad
line_good had text faults.BadHost still bad = bad
line_good had text faults.TwoLengths still bad = bad
line_good had text faults.BadLength still bad = bad
line_good had text faults.OutOfMemory still bad = bad

-- behind a line that was read, only what is behind it can be bad
behind_line : (had : ℕ) (line : ChunkLine) (behind : List ℕ) (fault : FrameFault) → IsShortLine line → had + chunk_size line ≤ most_body
    → (IsBadBehind (chunk_size line) behind → ⊥) → IsChunkFault had (print_chunk_line line ++ behind) fault → ⊥
behind_line had line behind faults.BadChunk short fits good (inl bad) = no_bad_line (print_chunk_line line ++ behind) line behind short refl bad
behind_line had line behind faults.BadChunk short fits good (inr (other, after, begins, fit, bad)) =
    let same = chunk_line_unique (print_chunk_line line ++ behind) other line after behind begins.reads (short.line, refl) in
    good (subst (λ (t : List ℕ). IsBadBehind (chunk_size line) t) same.1 (subst (λ (n : ℕ). IsBadBehind n after) (ap chunk_size same.0) bad))
behind_line had line behind (faults.BodyTooLong size limit) short fits good (other, after, begins, past, size_is, limit_is) =
    let same = chunk_line_unique (print_chunk_line line ++ behind) other line after behind begins.reads (short.line, refl) in
    let sizes = ap chunk_size same.0 in
    omega arith
behind_line had line behind faults.BadHead short fits good bad = bad
behind_line had line behind faults.TooManyFields short fits good bad = bad
behind_line had line behind faults.HeadTooLong short fits good bad = bad
behind_line had line behind faults.BadHost short fits good bad = bad
behind_line had line behind faults.TwoLengths short fits good bad = bad
behind_line had line behind faults.BadLength short fits good bad = bad
behind_line had line behind faults.OutOfMemory short fits good bad = bad

-- less than a chunk's data and its line end isn't bad
content_good : (size left : ℕ) (content kept : List ℕ) → size ≡ length content + left → 0 < size
    → ((0 < left) × (kept ≡ [])) ⊎ ((left ≡ 0) × ((kept ≡ []) ⊎ (kept ≡ 13 ∷ []))) → IsBadBehind size (content ++ kept) → ⊥
content_good size left content kept size_is some place (inr (zero, bad)) = omega arith
content_good size left content kept size_is some (inl (more, none)) (inl (front, end, had, len, is, bad)) =
    let long : length front + length end ≡ length content + length kept = sym (length-append front end) ∙ ap length (sym is) ∙ length-append content kept in
    omega (arith, ap length none)
content_good size left content kept size_is some (inr (whole, place)) (inl (front, end, had, len, is, bad)) =
    let same = same_parts front content end kept (omega arith) (sym is) in
    ends place (subst IsNoLineEnd same.1 bad)
  where
    ends : (kept ≡ []) ⊎ (kept ≡ 13 ∷ []) → IsNoLineEnd kept → ⊥
    ends (inl empty) none = subst IsNoLineEnd empty none
    ends (inr one) none = (subst IsNoLineEnd one none) refl

trailers_good : (size : ℕ) (text : List ℕ) → size ≡ 0 → AreOpenTrailers text → IsBadBehind size text → ⊥
trailers_good size text zero still (inl (front, end, had, len, is, bad)) = omega arith
trailers_good size text zero still (inr (none, inl never)) = still.good (subst NeverHasSection (take_all most_trailers text (omega (arith, still.short))) never)
trailers_good size text zero still (inr (none, inr (long, nothing))) = omega (arith, still.short)

chunk_good : (body behind content kept : List ℕ) (left : ℕ) (fault : FrameFault) → IsInChunk body behind content left → length kept ≤ 1
    → ((0 < left) × (kept ≡ [])) ⊎ ((left ≡ 0) × ((kept ≡ []) ⊎ (kept ≡ 13 ∷ []))) → IsChunkedFault (behind ++ kept) fault → ⊥
chunk_good body behind content kept left fault at short place bad =
    let text : List ℕ = print_chunk_line at.line ++ (content ++ kept) in
    let is : behind ++ kept ≡ flat_map print_chunk at.chunks ++ text =
    ap (λ (t : List ℕ). t ++ kept) at.behind_is ∙ regroup (flat_map print_chunk at.chunks) (print_chunk_line at.line) content kept in
    behind_line (length (data_of at.chunks)) at.line (content ++ kept) fault at.short at.fits
    (content_good (chunk_size at.line) left content kept at.size at.some place)
    (fault_here at.chunks text (behind ++ kept) fault at.before
    (chunk_place (length (data_of at.chunks)) at.line content kept left at.short.line at.size short) is bad)
  where
    regroup : (a b c d : List ℕ) → (a ++ (b ++ c)) ++ d ≡ a ++ (b ++ (c ++ d))
    regroup a b c d = simp append_assoc

part_no_fault : (part : BodyPart) (body pending behind : List ℕ) (framing : Framing) (fault : FrameFault) → HoldsPart part body pending framing behind
    → IsBodyFault framing behind fault → ⊥
part_no_fault (parts.Sized left) body pending behind framing fault (some, sized, is, none) bad = subst (λ (f : Framing). IsBodyFault f behind fault) sized bad
part_no_fault (parts.Line place) body pending behind framing fault ((chunked, at), still, follows) bad =
    line_good (length (data_of at.chunks)) pending fault still
    (fault_here at.chunks pending behind fault at.before (line_place (length (data_of at.chunks)) pending still.none) at.behind_is
    (subst (λ (f : Framing). IsBodyFault f behind fault) chunked bad))
part_no_fault (parts.Content left) body pending behind framing fault (chunked, some, inside, none) bad =
    chunk_good body behind inside.0 [] left fault inside.1 (omega arith) (inl (some, refl))
    (subst (λ (t : List ℕ). IsChunkedFault t fault) (sym (append-nil behind)) (subst (λ (f : Framing). IsBodyFault f behind fault) chunked bad))
part_no_fault parts.ContentEnd body pending behind framing fault (chunked, inside, kept) bad =
    chunk_good body inside.1 inside.0 pending 0 fault inside.2 (short kept) (inr (refl, kept))
    (subst (λ (t : List ℕ). IsChunkedFault t fault) inside.3 (subst (λ (f : Framing). IsBodyFault f behind fault) chunked bad))
  where
    short : (pending ≡ []) ⊎ (pending ≡ 13 ∷ []) → length pending ≤ 1
    short (inl empty) = omega (arith, ap length empty)
    short (inr one) = omega (arith, ap length one)
part_no_fault (parts.Trailers progress) body pending behind framing fault ((chunked, at), still, follows) bad =
    behind_line (length (data_of at.chunks)) at.last pending fault at.short (omega (arith, at.zero, at.before.fit)) (trailers_good (chunk_size at.last) pending at.zero still)
    (fault_here at.chunks (print_chunk_line at.last ++ pending) behind fault at.before
    (last_place (length (data_of at.chunks)) at.last pending at.short.line at.zero) at.behind_is
    (subst (λ (f : Framing). IsBodyFault f behind fault) chunked bad))

-- ---- the whole rest

head_open : (kind : Kind) (room : ℕ) (text : List ℕ) (fault : FrameFault) → IsOpenHead kind room text → IsFaultAt kind room text fault → ⊥
head_open kind room text faults.BadHead still bad = still.good (subst (IsBadHead kind) (take_all room text (omega (arith, still.short))) bad)
head_open kind room text faults.TooManyFields still (head, rest, reads, over) =
    still.none head rest (subst (λ (t : List ℕ). ReadsHead kind t head rest) (take_all room text (omega (arith, still.short))) reads)
head_open kind room text faults.HeadTooLong still (long, none, good) = omega (arith, still.short)
head_open kind room text faults.OutOfMemory still bad = bad
head_open kind room text faults.BadHost still bad = still.none bad.0 bad.1 bad.2.reads
head_open kind room text faults.TwoLengths still bad = still.none bad.0 bad.1 bad.2.reads
head_open kind room text faults.BadLength still bad = still.none bad.0 bad.1 bad.2.reads
head_open kind room text (faults.BodyTooLong size limit) still bad = still.none bad.0 bad.1 bad.2.reads
head_open kind room text faults.BadChunk still bad = still.none bad.0 bad.1 bad.2.reads

module _ (kind : Kind) (room : ℕ) (text behind : List ℕ) (head : Head) (framing : Framing)
    (begins : BeginsWithHead kind room text head behind) (ok : framing_behind head ≡ Ok framing) (held : (f : FrameFault) → IsBodyFault framing behind f → ⊥) where
  body_own : (other : Head) (after : List ℕ) (fault : FrameFault) → BeginsWithHead kind room text other after
      → (framing_behind other ≡ Err fault) ⊎ ((f : Framing) × (framing_behind other ≡ Ok f) × IsBodyFault f after fault) → ⊥
  body_own other after fault it (inl err) =
      let same = head_unique kind text head other behind after begins.reads it.reads in
      let both : Ok framing ≡ Err fault = sym ok ∙ ap framing_behind same.0 ∙ err in
      cc
  body_own other after fault it (inr (f, fine, bad)) =
      let same = head_unique kind text head other behind after begins.reads it.reads in
      let both : Ok framing ≡ Ok f = sym ok ∙ ap framing_behind same.0 ∙ fine in
      let same_framing : framing ≡ f = cc in
      held fault
      (subst (λ (g : Framing). IsBodyFault g behind fault) (sym same_framing) (subst (λ (t : List ℕ). IsBodyFault f t fault) (sym same.1) bad))

  front : ReadsHead kind (take room text) head (take (room - length (print_head head)) behind)
  front = head_in_front kind room text head behind begins.reads begins.short

  pub body_open : (fault : FrameFault) → IsFaultAt kind room text fault → ⊥
  body_open faults.BadHead bad = bad.1 [] head _ (head_grows kind (take room text) head _ [] front)
  body_open faults.TooManyFields (other, after, reads, over) =
      let same = head_unique kind (take room text) head other _ after front reads in
      omega (arith, begins.few, ap (λ (h : Head). length (fields_of h)) same.0)
  body_open faults.HeadTooLong (long, none, good) = none head _ front
  body_open faults.OutOfMemory bad = bad
  body_open faults.BadHost bad = body_own bad.0 bad.1 faults.BadHost bad.2 bad.3
  body_open faults.TwoLengths bad = body_own bad.0 bad.1 faults.TwoLengths bad.2 bad.3
  body_open faults.BadLength bad = body_own bad.0 bad.1 faults.BadLength bad.2 bad.3
  body_open (faults.BodyTooLong size limit) bad = body_own bad.0 bad.1 (faults.BodyTooLong size limit) bad.2 bad.3
  body_open faults.BadChunk bad = body_own bad.0 bad.1 faults.BadChunk bad.2 bad.3

pub open_no_fault : (kind : Kind) (stage : Stage) (pending rest : List ℕ) → HoldsRest kind stage pending rest → (fault : FrameFault) → ¬ (IsFrameFault kind rest fault)
open_no_fault kind (stages.Head room progress) pending rest held fault bad =
    head_open kind (room_behind held.passed) pending fault (subst (λ (n : ℕ). IsOpenHead kind n pending) held.room_is held.still)
    (fault_behind kind rest held.passed pending fault held.passes (no_interim_none kind (room_behind held.passed) pending held.still.none) bad)
open_no_fault kind (stages.Body message body part) pending rest held fault bad =
    body_open kind (room_behind held.passed) held.from held.behind held.head held.framing held.begins held.faultless
    (λ f. part_no_fault part body.items pending held.behind held.framing f held.part_is) fault
    (fault_behind kind rest held.passed held.from fault held.passes (no_interim_begins kind (room_behind held.passed) held.from held.head held.behind held.begins) bad)
open_no_fault kind (stages.Faulty it) pending rest held fault bad = held

-- ---- a whole body has no fault

-- a trailer section within its limit stands in the first bytes
no_bad_trailers : (fields : List Field) (last : LineEnd) (more : List ℕ) → All IsField fields → length (print_section fields last) ≤ most_trailers
    → AreBadTrailers (print_section fields last ++ more) → ⊥
no_bad_trailers fields last more are short (inl never) =
    never [] fields last _ (are, append-nil (take most_trailers (print_section fields last ++ more)) ∙ take_past most_trailers (print_section fields last) more short)
no_bad_trailers fields last more are short (inr (long, none)) = none fields last _ (are, take_past most_trailers (print_section fields last) more short)

last_good : (size : ℕ) (fields : List Field) (last : LineEnd) (more : List ℕ) → size ≡ 0 → All IsField fields → length (print_section fields last) ≤ most_trailers
    → IsBadBehind size (print_section fields last ++ more) → ⊥
last_good size fields last more zero are short (inl (front, end, had, rest, is, bad)) = omega arith
last_good size fields last more zero are short (inr (none, bad)) = no_bad_trailers fields last more are short bad

whole_no_fault : (framing : Framing) (front more body : List ℕ) (fault : FrameFault) → IsBody framing front body → IsBodyFault framing (front ++ more) fault → ⊥
whole_no_fault (Sized size) front more body fault whole bad = bad
whole_no_fault Chunked front more body fault (b, is, front_is, body_is) bad =
    behind_line (length (data_of b.chunks)) b.last (print_section b.trailers b.end ++ more) fault is.last (omega (arith, is.zero, is.chunks.fit))
    (last_good (chunk_size b.last) b.trailers b.end more is.zero is.trailers is.short)
    (fault_here b.chunks (print_chunk_line b.last ++ (print_section b.trailers b.end ++ more)) (front ++ more) fault is.chunks
    (last_place (length (data_of b.chunks)) b.last (print_section b.trailers b.end ++ more) is.last.line is.zero)
    (ap (λ (t : List ℕ). t ++ more) front_is ∙ whole_text b more) bad)

-- a rest with a fault begins with no message
pub fault_no_message : (kind : Kind) (rest : List ℕ) (fault : FrameFault) → IsFrameFault kind rest fault → BeginsNoMessage kind rest
fault_no_message kind rest fault bad text more message one is =
    let begins = begins_grows kind (room_behind one.passed) one.from one.behind more one.head one.begins in
    body_open kind (room_behind one.passed) (one.from ++ more) (one.behind ++ more) one.head one.framing begins one.faultless
    (λ f. whole_no_fault one.framing one.behind more one.body f one.is_body) fault
    (fault_behind kind (text ++ more) one.passed (one.from ++ more) fault (passes_grow kind text more one.passed one.from one.passes)
    (no_interim_begins kind (room_behind one.passed) (one.from ++ more) one.head (one.behind ++ more) begins)
    (subst (λ (t : List ℕ). IsFrameFault kind t fault) is bad))

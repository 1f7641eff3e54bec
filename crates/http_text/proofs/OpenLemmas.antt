-- A rest that is open begins with no message.
use Rattle.std.proofs.Common.{◌≡◌, ℕ, ◌+◌, ◌≤◌, ◌⊎◌, List, [], ◌∷◌, ◌++◌, length, Ok, refl, sym, ap, ◌∙◌, subst, inl, inr, arith, append_assoc, length-append}
use Rattle.std.proofs.lemmas.List.{append-nil}
use Rattle.std.specs.List.{flat_map}
use Rattle.httparse.specs.Ascii.{crlf_bytes}
use Rattle.httparse.specs.Grammar.{ChunkLine, IsChunkLine, print_chunk_line, chunk_size, print_section, HasNoChunkLine}
use Rattle.httparse.proofs.ChunkLemmas.{chunk_line_unique}
use Rattle.http_heads.specs.Heads.{ReadsHead, PassesOver, room_behind}
use Rattle.http_messages.specs.Chunks.{Chunk, AreChunks, print_chunk, data_of, ChunkedBody, IsChunkedBody, print_chunked}
use Rattle.http_messages.specs.Messages.{BeginsNoMessage, framing_behind, IsBody}
use Rattle.http_heads.specs.declared.message.Kind.{Kind}
use Rattle.http_messages.specs.Stages.{IsInChunk, HoldsPart}
use Rattle.http_text.specs.Readers.{HoldsRest}
use Rattle.http_heads.specs.declared.framing.Framing.{Framing}
use Rattle.http_heads.specs.declared.framing.Framing.TheVariants.{Chunked}
use Rattle.http_messages.specs.declared.stage.BodyPart.{BodyPart}
use Rattle.http_messages.specs.declared.stage.BodyPart.TheVariants as parts
use Rattle.http_text.specs.declared.reader.Stage.{Stage}
use Rattle.http_text.specs.declared.reader.Stage.TheVariants as stages
use Rattle.http_heads.proofs.HeadLaws.{head_unique}
use Rattle.http_messages.proofs.GrowLemmas.{begins_grows}
use Rattle.http_text.proofs.PassLemmas.{passes_grow, same_passed, no_interim_none, no_interim_begins}
use Rattle.http_messages.proofs.PlaceLemmas.{HasNoChunk, same_place, line_of_chunk}

-- ---- places without a chunk

pub line_place : (had : ℕ) (text : List ℕ) → HasNoChunkLine text → HasNoChunk had text
line_place had text none = record {
  none = λ c rest chunk fits is. none c.line (c.content ++ (crlf_bytes ++ rest))
      (chunk.line.line, is ∙ append_assoc _ _ rest ∙ ap (λ (t : List ℕ). print_chunk_line c.line ++ t) (append_assoc c.content crlf_bytes rest));
}

-- a chunk of which less than all has come
pub chunk_place : (had : ℕ) (line : ChunkLine) (content kept : List ℕ) (left : ℕ) → IsChunkLine line → chunk_size line ≡ length content + left → length kept ≤ 1
    → HasNoChunk had (print_chunk_line line ++ (content ++ kept))
chunk_place had line content kept left is_line size short = record {
  none = λ c rest chunk fits is.
      let same = line_of_chunk (print_chunk_line line ++ (content ++ kept)) rest (content ++ kept) c line chunk is (is_line, refl) in
      let sizes : length c.content ≡ chunk_size line = sym chunk.size ∙ ap chunk_size same.0 in
      let whole : length c.content + (2 + length rest) ≡ length content + length kept =
      sym (length-append c.content (crlf_bytes ++ rest) ∙ ap (λ n. length c.content + n) (length-append crlf_bytes rest)) ∙ ap length same.1 ∙ length-append content kept in
      omega arith;
}

-- the last chunk
pub last_place : (had : ℕ) (last : ChunkLine) (text : List ℕ) → IsChunkLine last → chunk_size last ≡ 0 → HasNoChunk had (print_chunk_line last ++ text)
last_place had last text is_line zero = record {
  none = λ c rest chunk fits is.
      let same = line_of_chunk (print_chunk_line last ++ text) rest text c last chunk is (is_line, refl) in
      let sizes = ap chunk_size same.0 in
      omega (arith, chunk.size, chunk.some);
}

-- ---- a body that has come in part is no whole body

pub whole_text : (b : ChunkedBody) (more : List ℕ) → print_chunked b ++ more
    ≡ flat_map print_chunk b.chunks ++ (print_chunk_line b.last ++ (print_section b.trailers b.end ++ more))
whole_text b more = append_assoc (flat_map print_chunk b.chunks) (print_chunk_line b.last ++ print_section b.trailers b.end) more
    ∙ ap (λ (t : List ℕ). flat_map print_chunk b.chunks ++ t) (append_assoc (print_chunk_line b.last) (print_section b.trailers b.end) more)

-- where the chunks end, the last chunk's line stands
place_of_last : (chunks : List Chunk) (text front more behind : List ℕ) (b : ChunkedBody) → AreChunks chunks → HasNoChunk (length (data_of chunks)) text
    → behind ≡ flat_map print_chunk chunks ++ text → IsChunkedBody b → front ≡ print_chunked b → front ++ more ≡ behind
    → text ≡ print_chunk_line b.last ++ (print_section b.trailers b.end ++ more)
place_of_last chunks text front more behind b before none is body front_is whole =
    (same_place chunks b.chunks text (print_chunk_line b.last ++ (print_section b.trailers b.end ++ more)) before body.chunks none
    (last_place (length (data_of b.chunks)) b.last (print_section b.trailers b.end ++ more) body.last.line body.zero)
    (sym is ∙ sym whole ∙ ap (λ (t : List ℕ). t ++ more) front_is ∙ whole_text b more)).1

in_chunk_not_whole : (body behind content kept front more b : List ℕ) (left : ℕ) → IsInChunk body behind content left → length kept ≤ 1
    → IsBody Chunked front b → front ++ more ≡ behind ++ kept → ⊥
in_chunk_not_whole body behind content kept front more b left at short whole is =
    let text : List ℕ = print_chunk_line at.line ++ (content ++ kept) in
    let place : behind ++ kept ≡ flat_map print_chunk at.chunks ++ text =
    ap (λ (t : List ℕ). t ++ kept) at.behind_is ∙ regroup (flat_map print_chunk at.chunks) (print_chunk_line at.line) content kept in
    let last = place_of_last at.chunks text front more (behind ++ kept) whole.0 at.before
    (chunk_place (length (data_of at.chunks)) at.line content kept left at.short.line at.size short) place whole.1 whole.2 is in
    let same = chunk_line_unique text at.line whole.0.last (content ++ kept) _ (at.short.line, refl) (whole.1.last.line, last) in
    let sizes = ap chunk_size same.0 in
    omega (arith, at.some, whole.1.zero)
  where
    regroup : (a b c d : List ℕ) → (a ++ (b ++ c)) ++ d ≡ a ++ (b ++ (c ++ d))
    regroup a b c d = simp append_assoc

part_not_whole : (part : BodyPart) (body pending behind front more b : List ℕ) (framing : Framing) → HoldsPart part body pending framing behind
    → IsBody framing front b → front ++ more ≡ behind → ⊥
part_not_whole (parts.Sized left) body pending behind front more b framing (some, sized, behind_is, none) whole is =
    let it = subst (λ (f : Framing). IsBody f front b) sized whole in
    let long : length front + length more ≡ length body = sym (length-append front more) ∙ ap length (is ∙ behind_is) in
    omega (arith, it.0)
part_not_whole (parts.Line place) body pending behind front more b framing ((chunked, at), still, follows) whole is =
    let it = subst (λ (f : Framing). IsBody f front b) chunked whole in
    let last = place_of_last at.chunks pending front more behind it.0 at.before (line_place (length (data_of at.chunks)) pending still.none) at.behind_is it.1 it.2 is in
    still.none it.0.last _ (it.1.last.line, last)
part_not_whole (parts.Content left) body pending behind front more b framing (chunked, some, inside, none) whole is =
    let it = subst (λ (f : Framing). IsBody f front b) chunked whole in
    in_chunk_not_whole body behind inside.0 [] front more b left inside.1 (omega arith) it (is ∙ sym (append-nil behind))
part_not_whole parts.ContentEnd body pending behind front more b framing (chunked, inside, kept) whole is =
    let it = subst (λ (f : Framing). IsBody f front b) chunked whole in
    in_chunk_not_whole body inside.1 inside.0 pending front more b 0 inside.2 (short kept) it (is ∙ inside.3)
  where
    short : (pending ≡ []) ⊎ (pending ≡ 13 ∷ []) → length pending ≤ 1
    short (inl empty) = omega (arith, ap length empty)
    short (inr one) = omega (arith, ap length one)
part_not_whole (parts.Trailers progress) body pending behind front more b framing ((chunked, at), still, follows) whole is =
    let it = subst (λ (f : Framing). IsBody f front b) chunked whole in
    let text : List ℕ = print_chunk_line at.last ++ pending in
    let last = place_of_last at.chunks text front more behind it.0 at.before (last_place (length (data_of at.chunks)) at.last pending at.short.line at.zero) at.behind_is it.1 it.2 is in
    let same = chunk_line_unique text at.last it.0.last pending _ (at.short.line, refl) (it.1.last.line, last) in
    still.none it.0.trailers it.0.end more (it.1.trailers, same.1)

-- ---- an open rest begins with no message

pub open_no_message : (kind : Kind) (stage : Stage) (pending rest : List ℕ) → HoldsRest kind stage pending rest → BeginsNoMessage kind rest
open_no_message kind (stages.Head room progress) pending rest held text more message one is =
    let begins = begins_grows kind (room_behind one.passed) one.from one.behind more one.head one.begins in
    let passes = subst (λ (t : List ℕ). PassesOver kind t one.passed (one.from ++ more)) (sym is) (passes_grow kind text more one.passed one.from one.passes) in
    let same = same_passed kind rest held.passed one.passed pending (one.from ++ more) held.passes passes
    (no_interim_none kind (room_behind held.passed) pending held.still.none)
    (no_interim_begins kind (room_behind one.passed) (one.from ++ more) one.head (one.behind ++ more) begins) in
    held.still.none one.head (one.behind ++ more) (subst (λ (t : List ℕ). ReadsHead kind t one.head (one.behind ++ more)) (sym same.1) begins.reads)
open_no_message kind (stages.Body it body part) pending rest held text more message one is =
    let begins = begins_grows kind (room_behind one.passed) one.from one.behind more one.head one.begins in
    let passes = subst (λ (t : List ℕ). PassesOver kind t one.passed (one.from ++ more)) (sym is) (passes_grow kind text more one.passed one.from one.passes) in
    let same = same_passed kind rest held.passed one.passed held.from (one.from ++ more) held.passes passes
    (no_interim_begins kind (room_behind held.passed) held.from held.head held.behind held.begins)
    (no_interim_begins kind (room_behind one.passed) (one.from ++ more) one.head (one.behind ++ more) begins) in
    let heads = head_unique kind (one.from ++ more) one.head held.head (one.behind ++ more) held.behind begins.reads
    (subst (λ (t : List ℕ). ReadsHead kind t held.head held.behind) same.1 held.begins.reads) in
    let both : Ok one.framing ≡ Ok held.framing = sym one.faultless ∙ ap framing_behind heads.0 ∙ held.faultless in
    let framing : one.framing ≡ held.framing = cc in
    part_not_whole part body.items pending held.behind one.behind more one.body held.framing held.part_is
    (subst (λ (f : Framing). IsBody f one.behind one.body) framing one.is_body) heads.1
open_no_message kind (stages.Faulty fault) pending rest held text more message one is = held

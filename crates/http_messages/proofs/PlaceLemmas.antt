-- In a chunked body each place between chunks is one: what stands there tells it.
use Rattle.std.proofs.Common.{◌≡◌, ℕ, ◌+◌, ◌≤◌, List, [], ◌∷◌, ◌++◌, length, refl, sym, ap, ap₂, ◌∙◌, subst, arith, append_assoc, length-append, All}
use Rattle.std.proofs.lemmas.List.Elements.{All-head, All-tail}
use Rattle.std.specs.List.{flat_map}
use Rattle.httparse.specs.Ascii.{crlf_bytes}
use Rattle.httparse.specs.Grammar.{ChunkLine, ReadsChunkLine, print_chunk_line, chunk_size}
use Rattle.httparse.proofs.ChunkLemmas.{chunk_line_unique}
use Rattle.http_messages.specs.Chunks.{Chunk, IsChunk, AreChunks, print_chunk, data_of}
use Rattle.http_heads.specs.Framing.{most_body}
use Rattle.http_heads.proofs.HeadLaws.{same_parts}

chunk_text : (c : Chunk) (rest : List ℕ) → print_chunk c ++ rest ≡ print_chunk_line c.line ++ (c.content ++ (crlf_bytes ++ rest))
chunk_text c rest = append_assoc (print_chunk_line c.line) (c.content ++ crlf_bytes) rest
    ∙ ap (λ (t : List ℕ). print_chunk_line c.line ++ t) (append_assoc c.content crlf_bytes rest)

-- the line at the front of a chunk is the one that is read
pub line_of_chunk : (text rest behind : List ℕ) (c : Chunk) (line : ChunkLine) → IsChunk c → text ≡ print_chunk c ++ rest → ReadsChunkLine text line behind
    → (c.line ≡ line) × (c.content ++ (crlf_bytes ++ rest) ≡ behind)
line_of_chunk text rest behind c line chunk is reads =
    chunk_line_unique text c.line line _ behind (chunk.line.line, is ∙ chunk_text c rest) reads

-- two chunks at the front of a text are one
same_chunk : (a b : Chunk) (r q : List ℕ) → IsChunk a → IsChunk b → print_chunk a ++ r ≡ print_chunk b ++ q → (a ≡ b) × (r ≡ q)
same_chunk a b r q is_a is_b is =
    let line = line_of_chunk (print_chunk b ++ q) r (b.content ++ (crlf_bytes ++ q)) a b.line is_a (sym is) (is_b.line.line, chunk_text b q) in
    let size : length a.content ≡ length b.content = sym is_a.size ∙ ap chunk_size line.0 ∙ is_b.size in
    let content = same_parts a.content b.content (crlf_bytes ++ r) (crlf_bytes ++ q) size line.1 in
    let rest = same_parts crlf_bytes crlf_bytes r q refl content.1 in
    (λ i. record { line = line.0 i; content = content.0 i }, rest.1)

-- no chunk stands here for which there is room behind so many bytes
pub record HasNoChunk (had : ℕ) (text : List ℕ) : Type 0 where
  pub none : (c : Chunk) (rest : List ℕ) → IsChunk c → had + length c.content ≤ most_body → text ≡ print_chunk c ++ rest → ⊥

-- chunks behind so many bytes of data
record Fit (had : ℕ) (chunks : List Chunk) : Type 0 where
  each : All IsChunk chunks
  fit : had + length (data_of chunks) ≤ most_body

fit_first : (had : ℕ) (c : Chunk) (chunks : List Chunk) → Fit had (c ∷ chunks) → IsChunk c × (had + length c.content ≤ most_body) × Fit (had + length c.content) chunks
fit_first had c chunks fit =
    let both : length (data_of (c ∷ chunks)) ≡ length c.content + length (data_of chunks) = length-append c.content (data_of chunks) in (
      All-head IsChunk c chunks fit.each,
      omega (arith, fit.fit),
      record { each = All-tail IsChunk c chunks fit.each; fit = omega (arith, fit.fit) },
    )

same_place_from : (had : ℕ) (a b : List Chunk) (p q : List ℕ) → Fit had a → Fit had b
    → HasNoChunk (had + length (data_of a)) p → HasNoChunk (had + length (data_of b)) q
    → flat_map print_chunk a ++ p ≡ flat_map print_chunk b ++ q → (a ≡ b) × (p ≡ q)
same_place_from had [] [] p q fit_a fit_b no_p no_q is = (refl, is)
same_place_from had [] (c ∷ b) p q fit_a fit_b no_p no_q is =
    let first = fit_first had c b fit_b in
    absurd (no_p.none c (flat_map print_chunk b ++ q) first.0 (omega (arith, first.1)) (is ∙ append_assoc (print_chunk c) (flat_map print_chunk b) q))
same_place_from had (c ∷ a) [] p q fit_a fit_b no_p no_q is =
    let first = fit_first had c a fit_a in
    absurd (no_q.none c (flat_map print_chunk a ++ p) first.0 (omega (arith, first.1)) (sym is ∙ append_assoc (print_chunk c) (flat_map print_chunk a) p))
same_place_from had (c ∷ a) (d ∷ b) p q fit_a fit_b no_p no_q is =
    let first_c = fit_first had c a fit_a in
    let first_d = fit_first had d b fit_b in
    let one = same_chunk c d (flat_map print_chunk a ++ p) (flat_map print_chunk b ++ q) first_c.0 first_d.0
    (sym (append_assoc (print_chunk c) (flat_map print_chunk a) p) ∙ is ∙ append_assoc (print_chunk d) (flat_map print_chunk b) q) in
    let same_len : length d.content ≡ length c.content = ap (λ (x : Chunk). length x.content) (sym one.0) in
    let had_a : had + length (data_of (c ∷ a)) ≡ (had + length c.content) + length (data_of a) = omega (arith, length-append c.content (data_of a)) in
    let had_b : had + length (data_of (d ∷ b)) ≡ (had + length c.content) + length (data_of b) = omega (arith, length-append d.content (data_of b)) in
    let fit_d : Fit (had + length c.content) b = subst (λ (n : ℕ). Fit (had + n) b) same_len first_d.2 in
    let others = same_place_from (had + length c.content) a b p q first_c.2 fit_d
    (subst (λ (n : ℕ). HasNoChunk n p) had_a no_p) (subst (λ (n : ℕ). HasNoChunk n q) had_b no_q) one.1 in
    (ap₂ ◌∷◌ one.0 others.0, others.1)

-- a place between chunks is one
pub same_place : (a b : List Chunk) (p q : List ℕ) → AreChunks a → AreChunks b → HasNoChunk (length (data_of a)) p → HasNoChunk (length (data_of b)) q
    → flat_map print_chunk a ++ p ≡ flat_map print_chunk b ++ q → (a ≡ b) × (p ≡ q)
same_place a b p q are_a are_b no_p no_q is =
    let zero_a : length (data_of a) ≡ 0 + length (data_of a) = omega arith in
    let zero_b : length (data_of b) ≡ 0 + length (data_of b) = omega arith in
    same_place_from 0 a b p q (record { each = are_a.each; fit = omega (arith, are_a.fit) }) (record { each = are_b.each; fit = omega (arith, are_b.fit) })
    (subst (λ (n : ℕ). HasNoChunk n p) zero_a no_p) (subst (λ (n : ℕ). HasNoChunk n q) zero_b no_q) is

-- The chunked coding (RFC 9112, section 7.1), over the chunk lines and the fields of `httparse`.
use Rattle.std.specs.Prelude.{◌≡◌, ◌≢◌, ◌⊎◌, ◌+◌, ◌<◌, ◌≤◌, ℕ, List}
use Rattle.std.specs.Prelude.{[], ◌∷◌, ◌++◌, length, take, All}
use Rattle.std.specs.List.{flat_map}
use Rattle.httparse.specs.Ascii.{crlf_bytes}
use Rattle.httparse.specs.Grammar.{ChunkLine, IsChunkLine, print_chunk_line, chunk_size}
use Rattle.httparse.specs.Grammar.{ReadsChunkLine, HasNoChunkLine, NeverHasChunkLine, Field}
use Rattle.httparse.specs.Grammar.{IsField, LineEnd, print_section, HasNoSection, NeverHasSection}
use Rattle.http_heads.specs.Framing.{most_body}
use Rattle.http_heads.specs.declared.framing.FrameFault.{FrameFault}
use Rattle.http_heads.specs.declared.framing.FrameFault.TheVariants.{BodyTooLong, BadChunk}

-- the most bytes of a chunk line, and of a trailer section, with their line ends
abbrev pub most_line : ℕ
most_line = 256

abbrev pub most_trailers : ℕ
most_trailers = 16384

-- chunk = chunk-size [ chunk-ext ] CRLF chunk-data CRLF
pub record Chunk : Type 0 where
  pub line : ChunkLine
  pub content : List ℕ

abbrev pub print_chunk : Chunk → List ℕ
print_chunk c = print_chunk_line c.line ++ (c.content ++ crlf_bytes)

-- a chunk line of a length that is allowed
pub record IsShortLine (l : ChunkLine) : Type 0 where
  pub line : IsChunkLine l
  pub short : length (print_chunk_line l) ≤ most_line

-- the line has the size of the data, and that isn't 0
pub record IsChunk (c : Chunk) : Type 0 where
  pub line : IsShortLine c.line
  pub size : chunk_size c.line ≡ length c.content
  pub some : 0 < length c.content

-- the data of chunks
abbrev pub data_of : List Chunk → List ℕ
data_of chunks = flat_map (λ c. c.content) chunks

-- chunks at the front of a body, whose data isn't too long
pub record AreChunks (chunks : List Chunk) : Type 0 where
  pub each : All IsChunk chunks
  pub fit : length (data_of chunks) ≤ most_body

-- chunked-body = *chunk last-chunk trailer-section CRLF
pub record ChunkedBody : Type 0 where
  pub chunks : List Chunk
  pub last : ChunkLine
  pub trailers : List Field
  pub end : LineEnd

abbrev pub print_chunked : ChunkedBody → List ℕ
print_chunked b =
    flat_map print_chunk b.chunks ++ (print_chunk_line b.last ++ print_section b.trailers b.end)

pub record IsChunkedBody (b : ChunkedBody) : Type 0 where
  pub chunks : AreChunks b.chunks
  pub last : IsShortLine b.last
  pub zero : chunk_size b.last ≡ 0
  pub trailers : All IsField b.trailers
  pub short : length (print_section b.trailers b.end) ≤ most_trailers

-- no chunk line stands here: none can, or it would pass its limit
abbrev pub IsBadLine : List ℕ → Type 0
IsBadLine text = NeverHasChunkLine (take most_line text)
    ⊎ ((most_line ≤ length text) × HasNoChunkLine (take most_line text))

-- no trailer section stands here: none can, or it would pass its limit
abbrev pub AreBadTrailers : List ℕ → Type 0
AreBadTrailers text = NeverHasSection (take most_trailers text)
    ⊎ ((most_trailers ≤ length text) × HasNoSection (take most_trailers text))

-- no CRLF stands here
abbrev pub IsNoLineEnd : List ℕ → Type 0
IsNoLineEnd [] = ⊥
IsNoLineEnd (a ∷ []) = a ≢ 13
IsNoLineEnd (a ∷ b ∷ text) = (a ≢ 13) ⊎ (b ≢ 10)

-- the text begins with an allowed chunk line of this size
pub record BeginsWithLine (text : List ℕ) (line : ChunkLine) (behind : List ℕ) : Type 0 where
  pub reads : ReadsChunkLine text line behind
  pub short : length (print_chunk_line line) ≤ most_line

-- after a line of that size: the data isn't followed by CRLF, or the trailers are bad
abbrev pub IsBadBehind : ℕ → List ℕ → Type 0
IsBadBehind size behind =
    ((content : List ℕ) × (end : List ℕ) × (0 < size) × (length content ≡ size)
    × (behind ≡ content ++ end) × IsNoLineEnd end)
    ⊎ ((size ≡ 0) × AreBadTrailers behind)

-- the fault of what follows chunks with so many bytes of data
abbrev pub IsChunkFault : ℕ → List ℕ → FrameFault → Type 0
IsChunkFault had text BadChunk =
    IsBadLine text
    ⊎ ((line : ChunkLine) × (behind : List ℕ) × BeginsWithLine text line behind
    × (had + chunk_size line ≤ most_body) × IsBadBehind (chunk_size line) behind)
IsChunkFault had text (BodyTooLong size limit) =
    (line : ChunkLine) × (behind : List ℕ) × BeginsWithLine text line behind
    × (most_body < had + chunk_size line) × (size ≡ had + chunk_size line) × (limit ≡ most_body)
IsChunkFault had text fault = ⊥

-- the first fault of a chunked body, from left to right: it stands behind chunks without one
abbrev pub IsChunkedFault : List ℕ → FrameFault → Type 0
IsChunkedFault text fault =
    (chunks : List Chunk) × (rest : List ℕ) × AreChunks chunks
    × (text ≡ flat_map print_chunk chunks ++ rest)
    × IsChunkFault (length (data_of chunks)) rest fault

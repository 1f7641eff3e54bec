-- Reading a row from left to right, where its text is whole or may go on. What more text may change
-- counts as cut by the text's end.
use Rattle.std.specs.Prelude.{ℕ, Bool, List, [], take, drop, Option, Some}
use Rattle.std.specs.Prelude.{None, Ok, Err, ◌==◌, ◌||◌, if◌then◌else◌}
use Rattle.std.specs.Char.{is_ascii_alphabetic}
use Rattle.std.specs.List.{prefix_len}
use Rattle.rdf_terms.specs.declared.change.Change.{Change}
use Rattle.rdf_terms.specs.declared.change.Change.TheVariants as change
use Rattle.rdf_terms.specs.declared.term.Term.{Term}
use Rattle.rdf_terms.specs.Quad.{Statement, statement, is_iri}
use Rattle.nquads_text.specs.declared.fault.TextKind.TheVariants.{BadPosition, MissingDot}
use Rattle.nquads_text.specs.declared.fault.TextKind.TheVariants.{BadToken, Truncated}
use Rattle.nquads_text.specs.Faults.{begins_term}
use Rattle.patch_rows.specs.declared.codes.Code.{Code}
use Rattle.patch_rows.specs.declared.codes.Code.TheVariants as code
use Rattle.patch_rows.specs.declared.cut.TextEnd.{TextEnd}
use Rattle.patch_rows.specs.declared.cut.TextEnd.TheVariants.{Open, Known}
use Rattle.patch_rows.specs.declared.fault.RowKind.TheVariants.{Common, UnknownCode}
use Rattle.patch_rows.specs.declared.row.Row.{Row}
use Rattle.patch_rows.specs.declared.row.Row.TheVariants as row
use Rattle.patch_rows.specs.Cut.{literal_open, blank_open}
use Rattle.patch_rows.specs.Fault.{Read, ◌>>=◌}
use Rattle.patch_rows.specs.Grammar.{is_word_byte, is_any, is_node}
use Rattle.patch_rows.specs.Faults.{is_dot}
use Rattle.patch_rows.specs.Reading.{skip_space, stands, other, needed_term_at, key_at}
use Rattle.patch_rows.specs.Reading.{past_colon, plain_text, or_bad_position, iri_of_term}
use Rattle.patch_rows.specs.Reading.{dot_at, end_at, uncut, word_at, code_named}

-- ---- terms

-- where the text may go on
unfoldable pub open_term : List ℕ → Read Term
open_term rest = do
  t ← needed_term_at rest
  if literal_open rest t.0 t.1 then Err (Common Truncated, []) else Ok t

-- a term whose end is known, but for a label's
abbrev pub term_of : TextEnd → List ℕ → Read Term
term_of Known rest = needed_term_at rest
term_of Open rest = open_term rest

-- the term, unless it is a label that more text may change
abbrev pub unless_open : TextEnd → List ℕ → Term → List ℕ → Read Term
unless_open Known start t after = Ok (t, after)
unless_open Open start t after =
    if blank_open start t after then Err (Common Truncated, []) else Ok (t, after)

-- a term that may stand in its place
unfoldable pub placed_of : TextEnd → (Term → Bool) → List ℕ → Read Term
placed_of end fits rest = do
  t ← term_of end rest
  if fits t.0 then unless_open end rest t.0 t.1 else Err (Common BadPosition, rest)

-- ---- keys and prefixes

unfoldable pub open_key : List ℕ → Read (List ℕ)
open_key rest = key_at rest >>= λ key. uncut key

-- a key whose end is known
abbrev pub key_of : TextEnd → List ℕ → Read (List ℕ)
key_of Known rest = key_at rest
key_of Open rest = open_key rest

-- a prefix that is written as a plain string
unfoldable pub quoted_of : TextEnd → List ℕ → Read (List ℕ)
quoted_of end rest = do
  t ← term_of end rest
  or_bad_position (plain_text t.0) rest t.1

unfoldable pub open_word_prefix : List ℕ → Read (List ℕ)
open_word_prefix rest = do
  word ← uncut (take (prefix_len is_word_byte rest) rest, drop (prefix_len is_word_byte rest) rest)
  Ok (word.0, past_colon word.1)

-- a prefix that is written as a word, and the colon behind it
abbrev pub word_prefix_of : TextEnd → List ℕ → Read (List ℕ)
word_prefix_of Known rest = Ok (
  take (prefix_len is_word_byte rest) rest,
  past_colon (drop (prefix_len is_word_byte rest) rest),
)
word_prefix_of Open rest = open_word_prefix rest

unfoldable pub prefix_of : TextEnd → List ℕ → Read (List ℕ)
prefix_of end rest =
    if stands (λ b. b == 58) rest then Ok ([], drop 1 rest)
    else (if stands is_ascii_alphabetic rest then word_prefix_of end rest
    else (if stands is_dot rest || stands begins_term rest then quoted_of end rest
    else Err (other (Common BadToken) rest)))

unfoldable pub prefix_iri_of : TextEnd → List ℕ → Read (List ℕ)
prefix_iri_of end rest = do
  t ← term_of end rest
  iri_of_term rest t.0 t.1

-- ---- the ends of rows

-- a graph and the dot, or the dot; white space and comments are behind us
unfoldable pub graph_or_dot_of : TextEnd → List ℕ → Read (Option Term)
graph_or_dot_of end rest =
    if stands begins_term rest
    then (placed_of end is_node rest >>= λ g. end_at (Common MissingDot) g.1
    >>= λ after. Ok (Some g.0, after))
    else (dot_at (Common MissingDot) rest >>= λ after. Ok (None, after))

abbrev pub graph_of : TextEnd → List ℕ → Read (Option Term)
graph_of end rest = graph_or_dot_of end (skip_space rest)

-- ---- rows, from behind their codes on

unfoldable pub header_of : TextEnd → List ℕ → Read Row
header_of end rest = do
  key ← key_of end (skip_space rest)
  value ← placed_of end is_any (skip_space key.1)
  after ← end_at (Common MissingDot) value.1
  Ok (row.Header key.0 value.0, after)

unfoldable pub bare_at : Change → List ℕ → Read Row
bare_at c rest = do
  after ← end_at (Common BadToken) rest
  Ok (row.Change c, after)

unfoldable pub quad_of : TextEnd → List ℕ → Read Statement
quad_of end rest = do
  subject ← placed_of end is_node (skip_space rest)
  predicate ← placed_of end is_iri (skip_space subject.1)
  object ← placed_of end is_any (skip_space predicate.1)
  graph ← graph_of end object.1
  Ok (statement subject.0 predicate.0 object.0 graph.0, graph.1)

unfoldable pub added_of : TextEnd → List ℕ → Read Row
added_of end rest = do
  prefix ← prefix_of end (skip_space rest)
  iri ← prefix_iri_of end (skip_space prefix.1)
  graph ← graph_of end iri.1
  Ok (row.Change (change.PrefixAdd prefix.0 iri.0 graph.0), graph.1)

unfoldable pub removed_of : TextEnd → List ℕ → Read Row
removed_of end rest = do
  prefix ← prefix_of end (skip_space rest)
  graph ← graph_of end prefix.1
  Ok (row.Change (change.PrefixDelete prefix.0 graph.0), graph.1)

-- by the code
unfoldable pub parts_of : TextEnd → Code → List ℕ → Read Row
parts_of end code.Header rest = header_of end rest
parts_of end code.Begin rest = bare_at change.Begin rest
parts_of end code.Commit rest = bare_at change.Commit rest
parts_of end code.Abort rest = bare_at change.Abort rest
parts_of end code.PrefixAdd rest = added_of end rest
parts_of end code.PrefixDelete rest = removed_of end rest
parts_of end code.Add rest = quad_of end rest >>= λ q. Ok (row.Change (change.Add q.0), q.1)
parts_of end code.Delete rest = quad_of end rest >>= λ q. Ok (row.Change (change.Delete q.0), q.1)

-- the parts, where the word in front of the row, which begins where start does, is a code
abbrev pub by_code : TextEnd → Option Code → List ℕ → List ℕ → Read Row
by_code end (Some c) start rest = parts_of end c rest
by_code end None start rest = Err (UnknownCode, start)

-- a row of any length; of a text that may go on Truncated, and NotUtf8 at the front of a character,
-- mean that more text decides
unfoldable pub row_of : TextEnd → List ℕ → Read Row
row_of end rest = do
  word ← word_at rest
  by_code end (code_named word.0) rest word.1

-- of a whole text
abbrev pub row_at : List ℕ → Read Row
row_at rest = row_of Known rest

-- of a text that may go on
abbrev pub live_row : List ℕ → Read Row
live_row rest = row_of Open rest

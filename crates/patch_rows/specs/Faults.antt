-- The first fault of a row: a kind, and the text from the fault's place on.
use Rattle.std.specs.Prelude.{◌≡◌, ℕ, ◌+◌, ◌<◌, ◌≤◌, ◌||◌, ◌==◌, Bool}
use Rattle.std.specs.Prelude.{false, List, [], ◌++◌, length, drop}
use Rattle.std.specs.Char.{is_ascii_alphabetic}
use Rattle.rdf_terms.specs.declared.term.Term.{Term}
use Rattle.rdf_terms.specs.Iri.{AllowedAll, has_scheme}
use Rattle.rdf_terms.specs.Label.{IsLabel}
use Rattle.rdf_terms.specs.Quad.{is_iri}
use Rattle.rdf_terms.specs.Tag.{IsWord}
use Rattle.nquads_text.specs.declared.fault.TextKind.TheVariants.{BadIri, RelativeIri, BadLabel}
use Rattle.nquads_text.specs.declared.fault.TextKind.TheVariants.{BadPosition, MissingDot}
use Rattle.nquads_text.specs.declared.fault.TextKind.TheVariants.{BadToken, Truncated}
use Rattle.nquads_text.specs.Fault.{TextFault}
use Rattle.nquads_text.specs.Faults.{NoCharacter, AnyTermFault, begins_term}
use Rattle.nquads_text.specs.Grammar.{CharAt, StartsWith}
use Rattle.patch_rows.specs.declared.codes.Code.{Code}
use Rattle.patch_rows.specs.declared.codes.Code.TheVariants as code
use Rattle.patch_rows.specs.declared.fault.RowKind.{RowKind}
use Rattle.patch_rows.specs.declared.fault.RowKind.TheVariants.{Common, UnknownCode}
use Rattle.patch_rows.specs.declared.fault.RowKind.TheVariants.{WrongCount, TooLong}
use Rattle.patch_rows.specs.declared.row.Row.{Row}
use Rattle.patch_rows.specs.Fault.{Fault, as_row_fault}
use Rattle.patch_rows.specs.Grammar.{Space, Spaced, KeyAt, letters, WordAt, InBrackets}
use Rattle.patch_rows.specs.Grammar.{RowTerm, Placed, is_any, is_node, plain, PrefixAt}
use Rattle.patch_rows.specs.Grammar.{PrefixIriAt, RowDecided, row_limit, row_front}

-- ---- tokens

-- a dot
abbrev pub is_dot : ℕ → Bool
is_dot b = b == 46

-- a character of this kind is needed: there is none, or another one, whose fault is `other`
pub data RowLacks (fits : ℕ → Bool) (rest : List ℕ) (other f : Fault) : Type 0 where
  nothing : (g : TextFault) → NoCharacter rest g → f ≡ as_row_fault g → RowLacks fits rest other f
  another : (c : ℕ) (after : List ℕ) → CharAt rest c after → fits c ≡ false
      → f ≡ other → RowLacks fits rest other f

-- white space and comments, and then the fault of a part
abbrev pub SpacedFault : (List ℕ → Fault → Type 0) → List ℕ → Fault → Type 0
SpacedFault PartFault text f = (from : List ℕ) × Space text from × PartFault from f

-- the fault of a term, which is none of an IRIREF where a blank node stands in brackets
pub data RowTermFault (text : List ℕ) (f : Fault) : Type 0 where
  term : (g : TextFault) → AnyTermFault text g → ((x after : List ℕ) → InBrackets text x after → ⊥)
      → f ≡ as_row_fault g → RowTermFault text f
  -- in brackets something stands behind `_:` that is no label
  label : (x after : List ℕ) → InBrackets text x after → (IsLabel x → ⊥)
      → f ≡ (Common BadLabel, text) → RowTermFault text f

-- ---- parts

-- a dot where a part is still needed
abbrev pub DotFault : List ℕ → Fault → Type 0
DotFault text f = StartsWith is_dot text × (f ≡ (WrongCount, text))

-- the fault of a term that may stand in its place
pub data PlacedFault (fits : Term → Bool) (text : List ℕ) (f : Fault) : Type 0 where
  dot : DotFault text f → PlacedFault fits text f
  term : (StartsWith is_dot text → ⊥) → RowTermFault text f → PlacedFault fits text f
  position : (t : Term) (after : List ℕ) → RowTerm text t after → fits t ≡ false
      → f ≡ (Common BadPosition, text) → PlacedFault fits text f

-- the fault of a key
pub data KeyFault (text : List ℕ) (f : Fault) : Type 0 where
  dot : DotFault text f → KeyFault text f
  other : RowLacks (λ c. is_dot c || is_ascii_alphabetic c) text (Common BadToken, text) f
      → KeyFault text f

-- the fault of a prefix
pub data PrefixFault (text : List ℕ) (f : Fault) : Type 0 where
  dot : DotFault text f → PrefixFault text f
  other : RowLacks (λ c. is_dot c || c == 58 || is_ascii_alphabetic c || begins_term c) text
      (Common BadToken, text) f → PrefixFault text f
  term : StartsWith begins_term text → RowTermFault text f → PrefixFault text f
  -- a term that is no plain string
  position : (t : Term) (after : List ℕ) → RowTerm text t after
      → ((string : List ℕ) → t ≡ plain string → ⊥) → f ≡ (Common BadPosition, text)
      → PrefixFault text f

-- the fault of the IRI of a prefix
pub data PrefixIriFault (text : List ℕ) (f : Fault) : Type 0 where
  dot : DotFault text f → PrefixIriFault text f
  term : (StartsWith is_dot text → ⊥) → RowTermFault text f → PrefixIriFault text f
  -- a term that is neither an IRI nor a plain string
  position : (t : Term) (after : List ℕ) → RowTerm text t after → is_iri t ≡ false
      → ((string : List ℕ) → t ≡ plain string → ⊥) → f ≡ (Common BadPosition, text)
      → PrefixIriFault text f
  -- a string with a character that no IRI holds
  forbidden : (string after : List ℕ) → RowTerm text (plain string) after
      → (AllowedAll string → ⊥) → f ≡ (Common BadIri, text) → PrefixIriFault text f
  -- a string without a scheme
  relative : (string after : List ℕ) → RowTerm text (plain string) after → AllowedAll string
      → has_scheme string ≡ false → f ≡ (Common RelativeIri, text)
      → PrefixIriFault text f

-- the fault where only the dot may stand: a term, or any other character, whose kind is `missing`
pub data NoDot (missing : RowKind) (text : List ℕ) (f : Fault) : Type 0 where
  term : StartsWith begins_term text → f ≡ (WrongCount, text) → NoDot missing text f
  other : RowLacks (λ c. is_dot c || begins_term c) text (missing, text) f → NoDot missing text f

-- the same behind white space and comments
abbrev pub EndFault : RowKind → List ℕ → Fault → Type 0
EndFault missing text f = SpacedFault (NoDot missing) text f

-- the fault of a graph, which may be none, and of the row's end
pub data GraphFault (text : List ℕ) (f : Fault) : Type 0 where
  graph : (from : List ℕ) → Space text from → StartsWith begins_term from
      → PlacedFault is_node from f → GraphFault text f
  end : (g : Term) (behind : List ℕ) → Spaced (Placed is_node) text g behind
      → EndFault (Common MissingDot) behind f → GraphFault text f
  none : (from : List ℕ) → Space text from → (StartsWith begins_term from → ⊥)
      → NoDot (Common MissingDot) from f → GraphFault text f

-- ---- rows

-- the fault of the parts of a header row
pub data HeaderFault (text : List ℕ) (f : Fault) : Type 0 where
  key : SpacedFault KeyFault text f → HeaderFault text f
  value : (key k : List ℕ) → Spaced KeyAt text key k → SpacedFault (PlacedFault is_any) k f
      → HeaderFault text f
  end : (key k : List ℕ) (t : Term) (v : List ℕ) → Spaced KeyAt text key k
      → Spaced (Placed is_any) k t v → EndFault (Common MissingDot) v f → HeaderFault text f

-- the fault of the terms of a quad
pub data QuadFault (text : List ℕ) (f : Fault) : Type 0 where
  subject : SpacedFault (PlacedFault is_node) text f → QuadFault text f
  predicate : (s : Term) (b : List ℕ) → Spaced (Placed is_node) text s b
      → SpacedFault (PlacedFault is_iri) b f → QuadFault text f
  object : (s p : Term) (b d : List ℕ) → Spaced (Placed is_node) text s b
      → Spaced (Placed is_iri) b p d → SpacedFault (PlacedFault is_any) d f → QuadFault text f
  graph : (s p o : Term) (b d e : List ℕ) → Spaced (Placed is_node) text s b
      → Spaced (Placed is_iri) b p d → Spaced (Placed is_any) d o e
      → GraphFault e f → QuadFault text f

-- the fault of the parts of a row that sets a prefix
pub data AddedFault (text : List ℕ) (f : Fault) : Type 0 where
  prefix : SpacedFault PrefixFault text f → AddedFault text f
  iri : (prefix p : List ℕ) → Spaced PrefixAt text prefix p
      → SpacedFault PrefixIriFault p f → AddedFault text f
  graph : (prefix p iri i : List ℕ) → Spaced PrefixAt text prefix p
      → Spaced PrefixIriAt p iri i → GraphFault i f → AddedFault text f

-- the fault of the parts of a row that removes a prefix
pub data RemovedFault (text : List ℕ) (f : Fault) : Type 0 where
  prefix : SpacedFault PrefixFault text f → RemovedFault text f
  graph : (prefix p : List ℕ) → Spaced PrefixAt text prefix p → GraphFault p f → RemovedFault text f

-- the fault of what stands behind a code
abbrev pub PartsFault : Code → List ℕ → Fault → Type 0
PartsFault code.Header text f = HeaderFault text f
PartsFault code.Begin text f = EndFault (Common BadToken) text f
PartsFault code.Commit text f = EndFault (Common BadToken) text f
PartsFault code.Abort text f = EndFault (Common BadToken) text f
PartsFault code.PrefixAdd text f = AddedFault text f
PartsFault code.PrefixDelete text f = RemovedFault text f
PartsFault code.Add text f = QuadFault text f
PartsFault code.Delete text f = QuadFault text f

-- the first fault of a row of any length, which begins where the text does
pub data AnyRowFault (text : List ℕ) (f : Fault) : Type 0 where
  -- no letter
  letter : RowLacks is_ascii_alphabetic text (Common BadToken, text) f → AnyRowFault text f
  -- letters up to the text's end
  cut : IsWord is_ascii_alphabetic text → f ≡ (Common Truncated, []) → AnyRowFault text f
  unknown : (word behind : List ℕ) → WordAt text word behind → ((c : Code) → word ≡ letters c → ⊥)
      → f ≡ (UnknownCode, text) → AnyRowFault text f
  parts : (c : Code) (behind : List ℕ) → WordAt text (letters c) behind
      → PartsFault c behind f → AnyRowFault text f

-- the fault is the row's first one whatever follows
abbrev pub FaultDecided : List ℕ → Fault → Type 0
FaultDecided text f = (more : List ℕ) → AnyRowFault (text ++ more) (f.0, f.1 ++ more)

-- ---- the limit

-- The first fault of a row. In a text that has more bytes than a row may have, it is the one that
-- the front decides; where the front decides neither a fault nor a row within the limit, the row
-- is too long.
pub data FirstFault (text : List ℕ) (f : Fault) : Type 0 where
  short : length text ≤ row_limit → AnyRowFault text f → FirstFault text f
  front : (g : Fault) → row_limit < length text → FaultDecided (row_front text) g
      → f ≡ (g.0, g.1 ++ drop (row_limit + 1) text) → FirstFault text f
  too_long : row_limit < length text
      → ((r : Row) (rest : List ℕ) → RowDecided (row_front text) r rest → rest ≡ [])
      → ((g : Fault) → FaultDecided (row_front text) g → ⊥)
      → f ≡ (TooLong, text) → FirstFault text f

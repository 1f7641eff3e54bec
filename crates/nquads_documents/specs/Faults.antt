-- The first fault of a document, in the words of the grammar: what stands before it is whole, and
-- behind that stands what doesn't fit. A fault is a kind, and the text from its place on. The
-- faults of terms are given.
use Rattle.std.specs.Prelude.{◌≡◌, ℕ, ◌⊎◌, Bool, true, false, ◌==◌, ◌||◌, not}
use Rattle.std.specs.Prelude.{List, [], ◌∷◌, ◌++◌, Option, IsTrue, IsUtf8}
use Rattle.std.specs.List.{list_all}
use Rattle.std.specs.Char.{IsScalar, encode_utf8}
use Rattle.rdf_terms.specs.declared.term.Term.{Term}
use Rattle.rdf_terms.specs.Quad.{Statement, is_iri, is_literal}
use Rattle.nquads_text.specs.declared.fault.TextKind.{TextKind}
use Rattle.nquads_text.specs.declared.fault.TextKind.TheVariants.{NotUtf8, BadPosition}
use Rattle.nquads_text.specs.declared.fault.TextKind.TheVariants.{MissingDot, BadToken, Truncated}
use Rattle.nquads_text.specs.Fault.{TextFault}
use Rattle.nquads_text.specs.Faults.{IsIllFormed, begins_term}
use Rattle.nquads_text.specs.Grammar.{StartsWith, Blanks, TermAt, is_line_end}
use Rattle.nquads_documents.specs.Grammar.{StatementAt, IsLine}

-- something else stands there than a character that passes the test
abbrev pub OtherFault : TextKind → (ℕ → Bool) → List ℕ → TextFault → Type 0
OtherFault kind test text f =
    (IsIllFormed text × (f ≡ (NotUtf8, text)))
    ⊎ ((c : ℕ) × (after : List ℕ) × IsScalar c × (text ≡ encode_utf8 c ++ after)
    × (test c ≡ false) × (f ≡ (kind, text)))

-- and the text's end is a fault too
abbrev pub MissingFault : TextKind → (ℕ → Bool) → List ℕ → TextFault → Type 0
MissingFault kind test text f = ((text ≡ []) × (f ≡ (Truncated, []))) ⊎ OtherFault kind test text f

-- no dot
abbrev pub NoDotFault : List ℕ → TextFault → Type 0
NoDotFault text f = MissingFault MissingDot (λ c. c == 46) text f

-- behind a comment's `#`: characters, and then none before the line's end
abbrev pub CommentFault : List ℕ → TextFault → Type 0
CommentFault text f = (body rest : List ℕ) × (text ≡ body ++ rest) × IsUtf8 body
    × IsTrue (list_all (λ b. not (is_line_end b)) body) × IsIllFormed rest × (f ≡ (NotUtf8, rest))

-- behind a statement's dot: blanks, and then neither the line's end nor a whole comment
abbrev pub LineEndFault : List ℕ → TextFault → Type 0
LineEndFault text f = (rest : List ℕ) × Blanks text rest
    × (((more : List ℕ) × (rest ≡ 35 ∷ more) × CommentFault more f)
    ⊎ ((rest ≡ [] → ⊥) × OtherFault BadToken (λ c. is_line_end c || c == 35) rest f))

-- ---- statements; TermFault text f says that a term is needed where the text begins, and that f is
-- the first fault there
module _ (TermFault : List ℕ → TextFault → Type 0) where
  -- no IRI or blank node
  abbrev pub NodeFault : List ℕ → TextFault → Type 0
  NodeFault text f = TermFault text f ⊎ ((t : Term) × (after : List ℕ) × TermAt text t after
      × (is_literal t ≡ true) × (f ≡ (BadPosition, text)))

  -- no IRI
  abbrev pub PredicateFault : List ℕ → TextFault → Type 0
  PredicateFault text f = TermFault text f ⊎ ((t : Term) × (after : List ℕ) × TermAt text t after
      × (is_iri t ≡ false) × (f ≡ (BadPosition, text)))

  -- behind the object: a term that is no graph, a graph without its dot, or neither a term
  -- nor a dot
  abbrev pub StatementGraphFault : List ℕ → TextFault → Type 0
  StatementGraphFault text f =
      (StartsWith begins_term text × NodeFault text f)
      ⊎ (((g : Term) × (behind rest : List ℕ) × TermAt text g behind
      × (is_literal g ≡ false) × Blanks behind rest × NoDotFault rest f)
      ⊎ ((StartsWith begins_term text → ⊥) × NoDotFault text f))

-- a subject, and the blanks behind it
abbrev pub SubjectAt : List ℕ → List ℕ → Type 0
SubjectAt text after = (s : Term) × (behind : List ℕ) × TermAt text s behind
    × (is_literal s ≡ false) × Blanks behind after

-- a predicate, and the blanks behind it
abbrev pub PredicateAt : List ℕ → List ℕ → Type 0
PredicateAt text after =
    (p : Term) × (behind : List ℕ) × TermAt text p behind × (is_iri p ≡ true) × Blanks behind after

-- an object, and the blanks behind it
abbrev pub ObjectAt : List ℕ → List ℕ → Type 0
ObjectAt text after = (o : Term) × (behind : List ℕ) × TermAt text o behind × Blanks behind after

module _ (TermFault : List ℕ → TextFault → Type 0) where
  -- the parts before are whole
  abbrev pub StatementFault : List ℕ → TextFault → Type 0
  StatementFault text f =
      NodeFault TermFault text f
      ⊎ (((b : List ℕ) × SubjectAt text b × PredicateFault TermFault b f)
      ⊎ (((b d : List ℕ) × SubjectAt text b × PredicateAt b d × TermFault d f)
      ⊎ ((b d e : List ℕ) × SubjectAt text b × PredicateAt b d × ObjectAt d e
      × StatementGraphFault TermFault e f)))

  -- blanks, and then a comment, or a statement with what follows it, that isn't whole
  abbrev pub LineFault : List ℕ → TextFault → Type 0
  LineFault text f = (rest : List ℕ) × Blanks text rest
      × (((more : List ℕ) × (rest ≡ 35 ∷ more) × CommentFault more f)
      ⊎ (StartsWith (λ b. not (is_line_end b || b == 35)) rest
      × (StatementFault rest f
      ⊎ ((q : Statement) × (after : List ℕ) × StatementAt rest q after × LineEndFault after f))))

  -- whole lines, one for each item of the list, and then one that isn't
  abbrev pub FaultBehindLines : List (Option Statement) → List ℕ → TextFault → Type 0
  FaultBehindLines [] text f = LineFault text f
  FaultBehindLines (line ∷ lines) text f =
      (bytes rest : List ℕ) × (close : ℕ) × (text ≡ bytes ++ close ∷ rest)
      × IsTrue (is_line_end close) × IsLine bytes line × FaultBehindLines lines rest f

  -- f is the first fault of the document
  abbrev pub DocumentFault : List ℕ → TextFault → Type 0
  DocumentFault text f = (lines : List (Option Statement)) × FaultBehindLines lines text f

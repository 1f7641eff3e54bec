-- The pattern that a JSON object asks for, and the reply with the quads that match it.
use Rattle.std.specs.Prelude.{◌≡◌, ℕ, Bool, List, ◌∷◌, ◌++◌, Option, Some, Result, Ok, Err}
use Rattle.std.specs.Prelude.{codes, ⊤}
use Rattle.std.specs.Fmt.{decimal}
use Rattle.std.specs.List.{concat}
use Rattle.serde_json.specs.Data.{Data}
use Rattle.http_heads.specs.declared.message.RawReply.{RawReply}
use Rattle.rdf_terms.specs.declared.term.Term.{Term}
use Rattle.dataset_tx.specs.declared.pattern.GraphPart.{GraphPart}
use Rattle.dataset_tx.specs.declared.pattern.Pattern.{Pattern}
use Rattle.rpc_calls.specs.Operations.{text_member}
use Rattle.rpc_calls.specs.declared.call.CallFault.{CallFault}
use Rattle.rpc_calls.specs.declared.call.CallFault.TheVariants as fault
use Rattle.pattern_words.specs.Words.{IsGraphWord, IsPartWord}
use Rattle.pattern_words.specs.declared.words.Position.TheVariants as position
use Rattle.shared_zone.specs.declared.answers.Shown.{Shown}

module _ (value : Data) where
  -- a member is a string, and a word of that
  abbrev pub HasWord : {A : Type 0} → (List ℕ → A → Type 0) → List ℕ → A → Type 0
  HasWord IsWord name part =
      (word : List ℕ) × (text_member name value ≡ Some word) × IsWord word part

  -- it is missing, no string or no such word
  abbrev pub LacksWord : {A : Type 0} → (List ℕ → A → Type 0) → List ℕ → Type 0
  LacksWord {A} IsWord name = (part : A) → HasWord IsWord name part → ⊥

  abbrev pub HasGraph : GraphPart → Type 0
  HasGraph graph = HasWord IsGraphWord (codes "graph") graph

  abbrev pub HasSubject : Option Term → Type 0
  HasSubject part = HasWord (IsPartWord position.Subject) (codes "subject") part

  abbrev pub HasPredicate : Option Term → Type 0
  HasPredicate part = HasWord (IsPartWord position.Predicate) (codes "predicate") part

  abbrev pub HasObject : Option Term → Type 0
  HasObject part = HasWord (IsPartWord position.Object) (codes "object") part

  -- the first member that is wrong, in the order graph, subject, predicate, object
  pub data IsFirstWrong (member : List ℕ) : Type 0 where
    wrong_graph : LacksWord IsGraphWord (codes "graph") → member ≡ codes "graph"
        → IsFirstWrong member
    wrong_subject : (graph : GraphPart) → HasGraph graph
        → LacksWord (IsPartWord position.Subject) (codes "subject") → member ≡ codes "subject"
        → IsFirstWrong member
    wrong_predicate : (graph : GraphPart) (subject : Option Term) → HasGraph graph
        → HasSubject subject → LacksWord (IsPartWord position.Predicate) (codes "predicate")
        → member ≡ codes "predicate" → IsFirstWrong member
    wrong_object : (graph : GraphPart) (subject predicate : Option Term) → HasGraph graph
        → HasSubject subject → HasPredicate predicate
        → LacksWord (IsPartWord position.Object) (codes "object") → member ≡ codes "object"
        → IsFirstWrong member

  -- the object asks for this pattern
  pub record AsksPattern (pattern : Pattern) : Type 0 where
    pub graph : HasGraph pattern.graph
    pub subject : HasSubject pattern.subject
    pub predicate : HasPredicate pattern.predicate
    pub object : HasObject pattern.object

  -- the object asks for this pattern, or this is its first wrong member
  abbrev pub AsksMatch : Result Pattern (List ℕ) → Type 0
  AsksMatch (Ok pattern) = AsksPattern pattern
  AsksMatch (Err member) = IsFirstWrong member

-- ---- as it is read

-- the fault names this member, which is wrong, or memory ran out
abbrev pub TellsLack : CallFault → List ℕ → Type 0 → Type 0
TellsLack (fault.BadCall wrong) name Lacks = (wrong.now ≡ name) × Lacks
TellsLack fault.OutOfMemory name Lacks = ⊤
TellsLack other name Lacks = ⊥

-- the word of a member was read
abbrev pub ReadsWord : {A : Type 0} → Data → (List ℕ → A → Type 0) → List ℕ → Result A CallFault
    → Type 0
ReadsWord value IsWord name (Ok part) = HasWord value IsWord name part
ReadsWord value IsWord name (Err why) = TellsLack why name (LacksWord value IsWord name)

-- the pattern was read, or its first wrong member
abbrev pub ReadsMatch : Data → Result Pattern CallFault → Type 0
ReadsMatch value (Ok pattern) = AsksMatch value (Ok pattern)
ReadsMatch value (Err (fault.BadCall member)) = AsksMatch value (Err member.now)
ReadsMatch value (Err fault.OutOfMemory) = ⊤
ReadsMatch value (Err other) = ⊥

-- ---- the reply

-- `# version V`, and the lines behind it
abbrev pub shown_body : Shown → List ℕ
shown_body shown = codes "# version " ++ (decimal shown.version ++ (10 ∷ concat shown.lines))

abbrev pub shown_reply : Shown → Bool → RawReply
shown_reply shown close = record {
  status = 200;
  close = close;
  content_type = Some (codes "application/n-quads");
  body = shown_body shown;
}

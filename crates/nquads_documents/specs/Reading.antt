-- Reading a document from left to right, with the first fault that is met.
use Rattle.std.specs.Prelude.{◌≡◌, ℕ, zero, suc, ◌+◌, ◌-◌, ◌≤◌, List, [], ◌∷◌, length, take, drop}
use Rattle.std.specs.Prelude.{Option, Some, None, Result, Ok, Err, ◌==◌, count_by, if◌then◌else◌}
use Rattle.rdf_terms.specs.Quad.{Statement}
use Rattle.nquads_text.specs.declared.fault.TextKind.TheVariants.{BadToken}
use Rattle.nquads_text.specs.Fault.{Fails, TextRead, ◌>>=◌}
use Rattle.nquads_text.specs.Reading.{char_at}
use Rattle.nquads_text.specs.Terms.{skip_blanks}
use Rattle.nquads_text.specs.Statement.{statement_at}
use Rattle.nquads_text.specs.Grammar.{is_line_end}
use Rattle.delta_base.specs.Listed.{Listed}
use Rattle.nquads_text.specs.declared.fault.ReadFault.{ReadFault}
use Rattle.nquads_documents.specs.declared.fault.DocFault.{DocFault}
use Rattle.nquads_documents.specs.declared.fault.DocFault.TheVariants as fault

-- what follows the rest of a comment, the line's end standing in it; `skip` bytes are left of
-- the character before
unfoldable pub comment_at : ℕ → List ℕ → TextRead (Unit {0})
comment_at skip [] = Ok (tt, [])
comment_at (suc skip) (b ∷ rest) = comment_at skip rest
comment_at zero (b ∷ rest) = if is_line_end b then Ok (tt, b ∷ rest)
    else (char_at (b ∷ rest) >>= λ c. comment_at (length rest - length c.1) rest)

-- where a line has to end, and something else stands
unfoldable pub no_end_at : List ℕ → TextRead (Unit {0})
no_end_at rest = do
  c ← char_at rest
  Err (BadToken, rest)

-- the line's end, or a comment up to it
abbrev pub end_by : List ℕ → TextRead (Unit {0})
end_by [] = Ok (tt, [])
end_by (b ∷ rest) = if is_line_end b then Ok (tt, b ∷ rest)
    else (if b == 35 then comment_at 0 rest else no_end_at (b ∷ rest))

-- behind a statement's dot: blanks, and a comment or nothing
unfoldable pub line_end_at : List ℕ → TextRead (Unit {0})
line_end_at rest = end_by (skip_blanks rest)

-- a comment, and then the line's end
unfoldable pub comment_part : List ℕ → TextRead (Option Statement)
comment_part rest = do
  end ← comment_at 0 rest
  Ok (None, end.1)

-- a statement with what follows it on its line
unfoldable pub statement_part : List ℕ → TextRead (Option Statement)
statement_part rest = do
  quad ← statement_at rest
  end ← line_end_at quad.1
  Ok (Some quad.0, end.1)

-- the next part of a document: the end of a line, a comment, or a statement with what follows it
-- on its line
abbrev pub part_by : List ℕ → TextRead (Option Statement)
part_by [] = Ok (None, [])
part_by (b ∷ rest) = if is_line_end b then Ok (None, rest)
    else (if b == 35 then comment_part rest else statement_part (b ∷ rest))

-- the same behind blanks
unfoldable pub document_part_at : List ℕ → TextRead (Option Statement)
document_part_at rest = part_by (skip_blanks rest)

-- the statement of a part, if it has one, before those that are read behind it
abbrev pub with_part : Option Statement → TextRead (List Statement) → TextRead (List Statement)
with_part None read = read
with_part (Some q) read = read >>= λ x. Ok (q ∷ x.0, x.1)

-- the statements of a document; `skip` bytes are left of the part before
unfoldable pub document_at : ℕ → List ℕ → TextRead (List Statement)
document_at skip [] = Ok ([], [])
document_at (suc skip) (b ∷ rest) = document_at skip rest
document_at zero (b ∷ rest) = do
  part ← document_part_at (b ∷ rest)
  with_part part.0 (document_at (length rest - length part.1) rest)

-- the line of a place is 1 plus the number of line feeds before it
abbrev pub line_of : List ℕ → ℕ → ℕ
line_of text at = 1 + count_by (λ b. b == 10) (take at text)

-- the statements of the whole text, or its first fault
abbrev pub ReadsAll : List ℕ → Result (Listed Statement) ReadFault → Type 0
ReadsAll text (Ok quads) = document_at 0 text ≡ Ok (quads.items, [])
ReadsAll text (Err e) = Fails text e (document_at 0 text)

-- the same, with the line of the fault's place
abbrev pub ReadsAtLine : List ℕ → Result (Listed Statement) DocFault → Type 0
ReadsAtLine text (Ok quads) = document_at 0 text ≡ Ok (quads.items, [])
ReadsAtLine text (Err (fault.At line at kind)) =
    (document_at 0 text ≡ Err (kind, drop at text)) × (at ≤ length text) × (line ≡ line_of text at)
ReadsAtLine text (Err fault.OutOfMemory) = Unit {0}

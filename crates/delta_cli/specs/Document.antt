-- What the command `nquads` says of a text.
use Rattle.std.specs.Prelude.{◌≡◌, ℕ, ◌≤◌, List, length, drop}
use Rattle.rdf_terms.specs.Quad.{Statement}
use Rattle.nquads_text.specs.Faults.{AnyTermFault}
use Rattle.nquads_text.specs.declared.fault.TextKind.{TextKind}
use Rattle.nquads_documents.specs.Canonical.{IsCanonical}
use Rattle.nquads_documents.specs.Faults.{DocumentFault}
use Rattle.nquads_documents.specs.Grammar.{IsDocument}
use Rattle.nquads_documents.specs.Reading.{line_of}

-- the text is a document, and this is its canonical form
pub record IsShown (text result : List ℕ) : Type 0 where
  pub quads : List Statement
  pub document : IsDocument text quads
  pub canonical : IsCanonical quads result

-- the first fault of the text as a document has this kind, this place, and the line of this place
pub record IsFaultyDocument (line at : ℕ) (kind : TextKind) (text : List ℕ) : Type 0 where
  pub fault : DocumentFault AnyTermFault text (kind, drop at text)
  pub within : at ≤ length text
  pub line_is : line ≡ line_of text at

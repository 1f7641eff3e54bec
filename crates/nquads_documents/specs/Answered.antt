-- What a reader of documents answers, in the words of the grammar.
use Rattle.std.specs.Prelude.{◌≡◌, ◌≤◌, ℕ, List, length, drop, Result, Ok, Err}
use Rattle.delta_base.specs.Listed.{Listed}
use Rattle.rdf_terms.specs.Quad.{Statement}
use Rattle.nquads_documents.specs.declared.fault.DocFault.{DocFault}
use Rattle.nquads_documents.specs.declared.fault.DocFault.TheVariants as fault
use Rattle.nquads_documents.specs.Faults.{DocumentFault}
use Rattle.nquads_documents.specs.Grammar.{IsDocument}
use Rattle.nquads_documents.specs.Reading.{line_of}
use Rattle.nquads_text.specs.Faults.{AnyTermFault}

-- the statements of the document, or its first fault with its line and place
abbrev pub ReadsDocument : List ℕ → Result (Listed Statement) DocFault → Type 0
ReadsDocument text (Ok quads) = IsDocument text quads.items
ReadsDocument text (Err (fault.At line at kind)) =
    DocumentFault AnyTermFault text (kind, drop at text)
    × (at ≤ length text) × (line ≡ line_of text at)
ReadsDocument text (Err fault.OutOfMemory) = Unit {0}

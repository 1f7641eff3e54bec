-- The canonical lines of a document, as a reader gives them.
use Rattle.std.specs.Prelude.{◌≡◌, ◌↔◌, ◌≤◌, ℕ, Bool, List, [], ◌∷◌, ◌++◌, length, drop, map}
use Rattle.std.specs.Prelude.{Vec, Option, Some, None, true, false, Result, Ok, Err, slice_range}
use Rattle.std.specs.Borrow.{Bor}
use Rattle.std.specs.declared.alloc.Global.{Global}
use Rattle.std.specs.List.{Contains, flat_map}
use Rattle.rdf_terms.specs.Quad.{Statement}
use Rattle.rdf_terms.specs.Line.{line, lines}
use Rattle.nquads_text.specs.Fault.{Fails, TextRead}
use Rattle.nquads_text.specs.Faults.{AnyTermFault}
use Rattle.nquads_text.specs.declared.fault.ReadFault.{ReadFault}
use Rattle.nquads_documents.specs.declared.fault.DocFault.{DocFault}
use Rattle.nquads_documents.specs.declared.fault.DocFault.TheVariants as fault
use Rattle.nquads_documents.specs.Canonical.{AreCanonical, IsCanonical}
use Rattle.nquads_documents.specs.Faults.{DocumentFault}
use Rattle.nquads_documents.specs.Grammar.{IsDocument, of_line}
use Rattle.nquads_documents.specs.Reading.{document_at, line_of}

-- ---- what is read and written at once

-- the part is a statement
abbrev pub is_statement : Option Statement → Bool
is_statement None = false
is_statement (Some q) = true

-- the line of a part is appended, if it has one, and the result tells that and the place behind it;
-- or the first fault
abbrev pub PushesPart : List ℕ → List ℕ → List ℕ → Result (Bool × ℕ) ReadFault
    → TextRead (Option Statement) → Type 0
PushesPart text old new (Ok x) read = (q : Option Statement) × (read ≡ Ok (q, drop x.1 text))
    × (x.1 ≤ length text) × (x.0 ≡ is_statement q) × (new ≡ old ++ lines (of_line q))
PushesPart text old new (Err e) read = Fails text e read

-- ---- lines that are lent

-- the bytes of a line
abbrev pub shown : Bor (List ℕ) → List ℕ
shown l = l.now

-- the lines in some bytes from a place on, of which each begins where the one before ends
abbrev pub cut_lines : List ℕ → ℕ → List ℕ → List (List ℕ)
cut_lines bytes from [] = []
cut_lines bytes from (end ∷ ends) = slice_range bytes from end ∷ cut_lines bytes end ends

-- the ends rise from that place up to the end of the bytes
abbrev pub AreCuts : List ℕ → ℕ → List ℕ → Type 0
AreCuts bytes from [] = from ≡ length bytes
AreCuts bytes from (end ∷ ends) = (from ≤ end) × (end ≤ length bytes) × AreCuts bytes end ends

-- the lines are those of the statements, in any order
abbrev pub AreLinesOf : List Statement → List (List ℕ) → Type 0
AreLinesOf quads lines = (l : List ℕ) → Contains lines l ↔ Contains (map line quads) l

-- the lent lines and the printed ones are those of the statements that are read; or the first fault
abbrev pub HasShown : List ℕ → List ℕ
    → Result (Vec (Bor (List ℕ)) Global × Vec ℕ Global) ReadFault → Type 0
HasShown text printed (Ok x) = (quads : List Statement) × (document_at 0 text ≡ Ok (quads, []))
    × AreCuts printed 0 x.1.items
    × AreLinesOf quads (map shown x.0.items ++ cut_lines printed 0 x.1.items)
HasShown text printed (Err e) = Fails text e (document_at 0 text)

-- the lines are those of the statements that are read; or the first fault
abbrev pub HoldsLines : List ℕ → Result (Vec (Bor (List ℕ)) Global) ReadFault → Type 0
HoldsLines text (Ok lines) = (quads : List Statement) × (document_at 0 text ≡ Ok (quads, []))
    × AreLinesOf quads (map shown lines.items)
HoldsLines text (Err e) = Fails text e (document_at 0 text)

-- the lines are the canonical ones of the document, and one after another its canonical form;
-- or its first fault with its line and place
abbrev pub IsCanonicalOf : List ℕ → Result (Vec (Bor (List ℕ)) Global) DocFault → Type 0
IsCanonicalOf text (Ok lines) = (quads : List Statement) × IsDocument text quads
    × IsCanonical quads (flat_map shown lines.items) × AreCanonical quads (map shown lines.items)
IsCanonicalOf text (Err (fault.At line at kind)) =
    DocumentFault AnyTermFault text (kind, drop at text)
    × (at ≤ length text) × (line ≡ line_of text at)
IsCanonicalOf text (Err fault.OutOfMemory) = Unit {0}

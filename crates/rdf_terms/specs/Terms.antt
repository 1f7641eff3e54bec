-- What the constructors of terms give and refuse.
use Rattle.std.specs.Prelude.{◌≡◌, ℕ, false, List, Result, Ok, Err, if◌then◌else◌}
use Rattle.std.specs.Str.{bytes_eq}
use Rattle.rdf_terms.specs.Iri.{has_scheme, AllowedAll, FirstForbidden}
use Rattle.rdf_terms.specs.Label.{LabelChars}
use Rattle.rdf_terms.specs.Tag.{TagForm, lower}
use Rattle.rdf_terms.specs.Datatype.{xsd_string, lang_string}
use Rattle.rdf_terms.specs.Fit.{StopsFitting}
use Rattle.rdf_terms.specs.declared.fault.TermFault.{TermFault}
use Rattle.rdf_terms.specs.declared.fault.TermFault.TheVariants as fault
use Rattle.rdf_terms.specs.declared.term.LiteralKind.TheVariants.{Plain, Typed, Tagged}
use Rattle.rdf_terms.specs.declared.term.Literal.{Literal}
use Rattle.rdf_terms.specs.declared.term.LiteralKind.{LiteralKind}

-- the first forbidden character; else that no scheme stands in front
abbrev pub IsIriFault : List ℕ → TermFault → Type 0
IsIriFault text (fault.BadIri at) = FirstForbidden text at
IsIriFault text fault.RelativeIri = AllowedAll text × (has_scheme text ≡ false)
IsIriFault text (fault.BadLabel at) = ⊥
IsIriFault text (fault.BadLang at) = ⊥
IsIriFault text fault.LangStringWithoutTag = ⊥
IsIriFault text fault.OutOfMemory = ⊥

-- the first character that no label with the same characters before it has there
abbrev pub IsLabelFault : List ℕ → TermFault → Type 0
IsLabelFault text (fault.BadIri at) = ⊥
IsLabelFault text fault.RelativeIri = ⊥
IsLabelFault text (fault.BadLabel at) = StopsFitting LabelChars text at
IsLabelFault text (fault.BadLang at) = ⊥
IsLabelFault text fault.LangStringWithoutTag = ⊥
IsLabelFault text fault.OutOfMemory = ⊥

-- the kind of a literal with this datatype
abbrev pub kind_of : List ℕ → Result LiteralKind TermFault
kind_of datatype =
    if bytes_eq datatype lang_string then Err fault.LangStringWithoutTag
    else (if bytes_eq datatype xsd_string then Ok Plain else Ok (Typed datatype))

-- a literal with this datatype
abbrev pub IsTyped : List ℕ → List ℕ → Literal → Type 0
IsTyped lexical datatype literal =
    (literal.lexical ≡ lexical) × (kind_of datatype ≡ Ok literal.kind)

-- a literal with this tag, which is kept in lower case
abbrev pub IsTagged : List ℕ → List ℕ → Literal → Type 0
IsTagged lexical tag literal =
    TagForm tag × (literal ≡ record { lexical = lexical; kind = Tagged (lower tag) })

-- the first character that no tag with the same characters before it has there; or no memory
abbrev pub IsTagFault : List ℕ → TermFault → Type 0
IsTagFault tag (fault.BadIri at) = ⊥
IsTagFault tag fault.RelativeIri = ⊥
IsTagFault tag (fault.BadLabel at) = ⊥
IsTagFault tag (fault.BadLang at) = StopsFitting TagForm tag at
IsTagFault tag fault.LangStringWithoutTag = ⊥
IsTagFault tag fault.OutOfMemory = Unit {0}

-- The datatype of a typed literal.
use Rattle.std.specs.Prelude.{◌≡◌, ℕ, false, List, codes}
use Rattle.std.specs.Str.{bytes_eq}
use Rattle.rdf_terms.specs.Iri.{IsIri}

-- the datatype of a plain literal
abbrev pub xsd_string : List ℕ
xsd_string = codes "http://www.w3.org/2001/XMLSchema#string"

-- the datatype of a literal with a language tag
abbrev pub lang_string : List ℕ
lang_string = codes "http://www.w3.org/1999/02/22-rdf-syntax-ns#langString"

-- a datatype that a typed literal may have: xsd:string is written as none, and rdf:langString
-- needs a tag
abbrev pub IsDatatype : List ℕ → Type 0
IsDatatype iri = IsIri iri × (bytes_eq iri xsd_string ≡ false) × (bytes_eq iri lang_string ≡ false)

-- The kind of a literal with a datatype, as it is read.
use Rattle.std.proofs.Common.{◌≡◌, ℕ, Bool, true, false, cond, List, Result, Ok, Err, refl}
use Rattle.std.specs.Str.{bytes_eq}
use Rattle.rdf_terms.specs.Datatype.{xsd_string, lang_string}
use Rattle.rdf_terms.specs.Terms.{kind_of as kind_for}
use Rattle.rdf_terms.specs.declared.fault.TermFault.{TermFault}
use Rattle.rdf_terms.specs.declared.fault.TermFault.TheVariants as terms
use Rattle.rdf_terms.specs.declared.term.LiteralKind.{LiteralKind}
use Rattle.rdf_terms.specs.declared.term.LiteralKind.TheVariants.{Plain, Typed}
use Rattle.nquads_text.specs.declared.fault.TextKind.TheVariants.{LangStringWithoutTag}
use Rattle.nquads_text.specs.Fault.{TextRead}
use Rattle.nquads_text.specs.Terms.{kind_given}

chosen : (lang plain : Bool) (iri start after : List ℕ) (kind : LiteralKind)
    → cond {A = Result LiteralKind TermFault} lang (Err terms.LangStringWithoutTag) (cond plain (Ok Plain) (Ok (Typed iri))) ≡ Ok kind
    → cond {A = TextRead LiteralKind} lang (Err (LangStringWithoutTag, start)) (cond {A = TextRead LiteralKind} plain (Ok (Plain, after)) (Ok (Typed iri, after))) ≡ Ok (kind, after)
chosen true plain iri start after kind e = absurd cc
chosen false true iri start after kind e = cc
chosen false false iri start after kind e = cc

refused : (lang plain : Bool) (iri start after : List ℕ) (fault : TermFault)
    → cond {A = Result LiteralKind TermFault} lang (Err terms.LangStringWithoutTag) (cond plain (Ok Plain) (Ok (Typed iri))) ≡ Err fault
    → cond {A = TextRead LiteralKind} lang (Err (LangStringWithoutTag, start)) (cond {A = TextRead LiteralKind} plain (Ok (Plain, after)) (Ok (Typed iri, after))) ≡ Err (LangStringWithoutTag, start)
refused true plain iri start after fault e = refl
refused false true iri start after fault e = absurd cc
refused false false iri start after fault e = absurd cc

pub kind_read : (start iri after : List ℕ) (kind : LiteralKind) → kind_for iri ≡ Ok kind → kind_given start iri after ≡ Ok (kind, after)
unfolding kind_given
kind_read start iri after kind e = chosen (bytes_eq iri lang_string) (bytes_eq iri xsd_string) iri start after kind e

pub kind_refused : (start iri after : List ℕ) (fault : TermFault) → kind_for iri ≡ Err fault → kind_given start iri after ≡ Err (LangStringWithoutTag, start)
unfolding kind_given
kind_refused start iri after fault e = refused (bytes_eq iri lang_string) (bytes_eq iri xsd_string) iri start after fault e

use Rattle.std.proofs.Common.{◌≡◌, ℕ, false, List, IsUtf8, sym, subst, ◌∙◌}
use Rattle.std.specs.Str.{bytes_eq}
use Rattle.rdf_terms.specs.Datatype.{xsd_string, lang_string}
use Rattle.rdf_terms.specs.Iri.{IsIri}
use Rattle.rdf_terms.specs.Tag.{IsTag}
use Rattle.rdf_terms.specs.declared.term.LiteralKind.TheVariants.{Typed, Tagged}
use Rattle.canonical_scan.specs.Parts.{IsKindText}
use Rattle.canonical_scan.proofs.Making.{typed_there, tagged_there, datatype_inside, tag_inside, tag_utf8}
use Rattle.canonical_scan.proofs.quads.kind_between.Goals as goal

pub text_between-requires-clause-order : goal.text_between-requires-clause-order
text_between-requires-clause-order c =
    let iri = typed_there c.args.text.now c.args.at c.args.end c.requires c.if-at-end.false c.if-text-at-eq94.true in let inside = datatype_inside c.args.text.now c.args.at c.args.end iri.0 iri.1 in
    inside.low

pub text_between-requires-clause-utf8 : goal.text_between-requires-clause-utf8
text_between-requires-clause-utf8 c =
    let iri = typed_there c.args.text.now c.args.at c.args.end c.requires c.if-at-end.false c.if-text-at-eq94.true in let inside = datatype_inside c.args.text.now c.args.at c.args.end iri.0 iri.1 in
    subst IsUtf8 (sym inside.is) iri.1.0.0

pub of_checked-iri-requires : goal.of_checked-iri-requires
of_checked-iri-requires c =
    let iri = typed_there c.args.text.now c.args.at c.args.end c.requires c.if-at-end.false c.if-text-at-eq94.true in let inside = datatype_inside c.args.text.now c.args.at c.args.end iri.0 iri.1 in
    subst IsIri (sym (c.in_ok-text_between.ensures ∙ inside.is)) iri.1.0.1.0

pub of_checked-requires-clause-plain : goal.of_checked-requires-clause-plain
of_checked-requires-clause-plain c =
    let iri = typed_there c.args.text.now c.args.at c.args.end c.requires c.if-at-end.false c.if-text-at-eq94.true in let inside = datatype_inside c.args.text.now c.args.at c.args.end iri.0 iri.1 in
    subst (λ (b : List ℕ). bytes_eq b xsd_string ≡ false) (sym (c.of_checked-iri.ensures ∙ c.in_ok-text_between.ensures ∙ inside.is)) iri.1.0.1.1

pub of_checked-requires-clause-lang : goal.of_checked-requires-clause-lang
of_checked-requires-clause-lang c =
    let iri = typed_there c.args.text.now c.args.at c.args.end c.requires c.if-at-end.false c.if-text-at-eq94.true in let inside = datatype_inside c.args.text.now c.args.at c.args.end iri.0 iri.1 in
    subst (λ (b : List ℕ). bytes_eq b lang_string ≡ false) (sym (c.of_checked-iri.ensures ∙ c.in_ok-text_between.ensures ∙ inside.is)) iri.1.0.1.2

pub returns-then-text-at-eq94 : goal.returns-then-text-at-eq94
returns-then-text-at-eq94 c =
    let iri = typed_there c.args.text.now c.args.at c.args.end c.requires c.if-at-end.false c.if-text-at-eq94.true in let inside = datatype_inside c.args.text.now c.args.at c.args.end iri.0 iri.1 in
    subst (λ (b : List ℕ). IsKindText c.args.text.now c.args.at c.args.end (Typed b)) (sym (c.of_checked.ensures ∙ c.of_checked-iri.ensures ∙ c.in_ok-text_between.ensures ∙ inside.is)) iri.1

pub text_between-requires-2-clause-order : goal.text_between-requires-2-clause-order
text_between-requires-2-clause-order c =
    let tag = tagged_there c.args.text.now c.args.at c.args.end c.requires c.if-at-end.false c.if-text-at-eq94.false in let inside = tag_inside c.args.text.now c.args.at c.args.end tag.0 tag.1 in
    inside.low

pub text_between-requires-2-clause-utf8 : goal.text_between-requires-2-clause-utf8
text_between-requires-2-clause-utf8 c =
    let tag = tagged_there c.args.text.now c.args.at c.args.end c.requires c.if-at-end.false c.if-text-at-eq94.false in let inside = tag_inside c.args.text.now c.args.at c.args.end tag.0 tag.1 in
    subst IsUtf8 (sym inside.is) (tag_utf8 tag.0 tag.1.0)

pub of_checked-requires-2 : goal.of_checked-requires-2
of_checked-requires-2 c =
    let tag = tagged_there c.args.text.now c.args.at c.args.end c.requires c.if-at-end.false c.if-text-at-eq94.false in let inside = tag_inside c.args.text.now c.args.at c.args.end tag.0 tag.1 in
    subst IsTag (sym (c.in_ok-tag.ensures ∙ inside.is)) tag.1.0

pub returns : goal.returns
returns c =
    let tag = tagged_there c.args.text.now c.args.at c.args.end c.requires c.if-at-end.false c.if-text-at-eq94.false in let inside = tag_inside c.args.text.now c.args.at c.args.end tag.0 tag.1 in
    subst (λ (b : List ℕ). IsKindText c.args.text.now c.args.at c.args.end (Tagged b)) (sym (c.of_checked-2.ensures ∙ c.in_ok-tag.ensures ∙ inside.is)) tag.1

use Rattle.std.proofs.Common.{ℕ, List, IsUtf8, sym, subst, ◌∙◌}
use Rattle.rdf_terms.specs.Label.{IsLabel}
use Rattle.rdf_terms.specs.declared.term.Term.TheVariants as terms
use Rattle.canonical_scan.specs.Parts.{IsTermText}
use Rattle.canonical_scan.proofs.Making.{label_inside, label_utf8}
use Rattle.canonical_scan.proofs.quads.label_between.Goals as goal

pub text_between-requires-clause-order : goal.text_between-requires-clause-order
text_between-requires-clause-order c = (label_inside c.args.text.now c.args.at c.args.end c.requires.0 c.requires.1).low

pub text_between-requires-clause-utf8 : goal.text_between-requires-clause-utf8
text_between-requires-clause-utf8 c =
    subst IsUtf8 (sym (label_inside c.args.text.now c.args.at c.args.end c.requires.0 c.requires.1).is) (label_utf8 c.requires.0 c.requires.1.0)

pub of_checked-requires : goal.of_checked-requires
of_checked-requires c = subst IsLabel (sym (c.in_ok-text_between.ensures ∙ (label_inside c.args.text.now c.args.at c.args.end c.requires.0 c.requires.1).is)) c.requires.1.0

pub returns : goal.returns
returns c =
    subst (λ (label : List ℕ). IsTermText c.args.text.now c.args.at c.args.end (terms.Blank label))
    (sym (c.of_checked.ensures ∙ c.in_ok-text_between.ensures ∙ (label_inside c.args.text.now c.args.at c.args.end c.requires.0 c.requires.1).is)) c.requires.1

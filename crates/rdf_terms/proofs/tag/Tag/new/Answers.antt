use Rattle.std.proofs.Common.{◌∙◌, sym, ap, subst}
use Rattle.rdf_terms.specs.Tag.{TagForm, IsTag, lower}
use Rattle.rdf_terms.proofs.LowerTags.{lower_is_tag}
use Rattle.rdf_terms.proofs.tag.Tag.new.Goals as goal

pub invariant_of-result : goal.invariant_of-result
invariant_of-result c =
    let is = c.from_string.ensures ∙ c.in_ok-to_ascii_lowercase.ensures.ok ∙ ap lower c.as_str-2.ensures.value in
    subst IsTag (sym is) (lower_is_tag c.args.text.now (subst TagForm c.as_str.ensures.value c.in_default.ensures))

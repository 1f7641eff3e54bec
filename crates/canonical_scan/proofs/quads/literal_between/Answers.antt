use Rattle.std.proofs.Common.{IsUtf8, sym, subst, ◌∙◌}
use Rattle.canonical_scan.proofs.Making.{string_inside, string_itself, literal_made}
use Rattle.canonical_scan.proofs.quads.literal_between.Goals as goal

pub text_between-requires-clause-order : goal.text_between-requires-clause-order
text_between-requires-clause-order c = (string_inside c.args.text.now c.args.at c.args.string c.requires.string).low

pub text_between-requires-clause-utf8 : goal.text_between-requires-clause-utf8
text_between-requires-clause-utf8 c = subst IsUtf8 (sym (string_itself c.args.text.now c.args.at c.args.string c.requires.string c.requires.plain)) c.requires.string.1

pub returns : goal.returns
returns c =
    literal_made c.args.text.now c.args.at c.args.string c.args.end c.requires.string c.in_ok-lexical.lexical c.in_ok-kind.kind
    (c.in_ok-lexical.ensures ∙ string_itself c.args.text.now c.args.at c.args.string c.requires.string c.requires.plain) c.in_ok-kind.ensures

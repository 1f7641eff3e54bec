use Rattle.std.proofs.Common.{◌∙◌, ◌++◌, sym, subst}
use Rattle.http_messages.specs.Line.{FollowsLine}
use Rattle.http_messages.specs.declared.line.LineAt.{LineAt}
use Rattle.http_messages.proofs.LineLemmas.{blanks_more, extension_more}
use Rattle.http_messages.proofs.line.stays_there.Goals as goal

pub returns-in-Size-clause-follows : goal.returns-in-Size-clause-follows
returns-in-Size-clause-follows c = λ are text follows.
    subst (λ (at : LineAt). FollowsLine (text ++ c.args.bytes.now) at) (sym c.in-Size.is)
    (blanks_more text c.args.bytes.now (sym c.are_blanks.ensures ∙ are) (subst (FollowsLine text) c.in-Size.is follows))

pub returns-in-Extension-clause-follows : goal.returns-in-Extension-clause-follows
returns-in-Extension-clause-follows c = λ are text follows.
    subst (λ (at : LineAt). FollowsLine (text ++ c.args.bytes.now) at) (sym c.in-Extension.is)
    (extension_more text c.args.bytes.now (sym c.are_extension_bytes.ensures ∙ are) (subst (FollowsLine text) c.in-Extension.is follows))

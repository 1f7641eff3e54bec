use Rattle.std.proofs.Common.{◌∙◌, ap, sym}
use Rattle.httparse.specs.Grammar.{trim_ows}
use Rattle.rpc_calls.proofs.MediaLemmas.{before_none, before_cut}
use Rattle.rpc_calls.proofs.media.media_type.Goals as goal

pub returns-in-Some : goal.returns-in-Some
returns-in-Some c =
    c.trim_blanks.ensures
    ∙ ap trim_ows (before_cut c.args.value.now c.in-Some.kind.now _ c.in-Some.ensures.some c.in-Some.ensures.first)

pub returns-in-None : goal.returns-in-None
returns-in-None c =
    c.trim_blanks-in-None.ensures
    ∙ ap trim_ows (sym (before_none c.args.value.now c.in-None.ensures.none))

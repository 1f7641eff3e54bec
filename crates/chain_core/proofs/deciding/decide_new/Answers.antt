use Rattle.std.proofs.Common.{arith}
use Rattle.std.proofs.lemmas.List.{length-map}
use Rattle.chain_core.specs.Runs.{patches_sent, sent_as}
use Rattle.chain_core.proofs.Runs.{framed_sum, run_length}
use Rattle.chain_core.proofs.deciding.decide_new.Goals as goal

pub framed_length-requires : goal.framed_length-requires
framed_length-requires g c =
    let run = patches_sent g.S.Sent.link_sent g.S.Sent.text_sent c.args.run.now in
    omega (arith, framed_sum run, run_length run, c.requires.text, c.requires.few, length-map c.args.run.now (sent_as g.S.Sent.link_sent g.S.Sent.text_sent))

pub overflow_add-have : goal.overflow_add-have
overflow_add-have g c =
    let run = patches_sent g.S.Sent.link_sent g.S.Sent.text_sent c.args.run.now in
    omega (arith, c.framed_length.ensures, c.journal_length.ensures.fits, c.version-version.ensures.kept.few, framed_sum run, run_length run, c.requires.text, c.if-longer-from.false, c.from.ensures, c.from-2.ensures, length-map c.args.run.now (sent_as g.S.Sent.link_sent g.S.Sent.text_sent))

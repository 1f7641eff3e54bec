use Rattle.std.proofs.Common.{ap, subst, ◌∙◌}
use Rattle.std.proofs.lemmas.Result.{IfErr-weaker, IfOk-weaker}
use Rattle.patch_algebra.specs.Patches.{RefusesWritten, inverse_of}
use Rattle.patch_meaning.specs.Checked.{CheckedPatch, meanings}
use Rattle.patch_meaning.specs.Replay.{replay}
use Rattle.rdf_terms.specs.Dataset.{Dataset}
use Rattle.stream_squash.proofs.inverting.invert_last.Goals as goal

pub returns-clause-inverse : goal.returns-clause-inverse
returns-clause-inverse c = IfOk-weaker c.inverse.result _ _
    (λ other is ps m pieces patch.
    is ∙ ap (λ (d : Dataset). inverse_of d c.in_ok-last.last.meaning c.args.id) (c.in_ok-base.ensures.contents ps pieces)
    ∙ ap (λ (p : CheckedPatch). inverse_of (replay (meanings ps)) p.meaning c.args.id) (c.in_ok-last.ensures m patch))
    c.inverse.ensures.patch

pub returns-clause-fault : goal.returns-clause-fault
returns-clause-fault c = IfErr-weaker c.inverse.result _ _
    (λ fault refused ps m pieces patch.
    subst (λ (p : CheckedPatch). RefusesWritten (inverse_of (replay (meanings ps)) p.meaning c.args.id) fault) (c.in_ok-last.ensures m patch)
    (subst (λ (d : Dataset). RefusesWritten (inverse_of d c.in_ok-last.last.meaning c.args.id) fault) (c.in_ok-base.ensures.contents ps pieces) refused))
    c.inverse.ensures.fault

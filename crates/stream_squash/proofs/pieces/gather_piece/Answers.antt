use Rattle.std.proofs.Common.{◌∷◌, Option, ap, subst, ◌∙◌}
use Rattle.delta_base.specs.declared.id.Id.{Id}
use Rattle.log_base.specs.declared.chain_link.ChainLink.{ChainLink}
use Rattle.patch_algebra.specs.Gathered.{HasGathered}
use Rattle.patch_meaning.specs.Checked.{CheckedPatch}
use Rattle.patch_meaning.specs.Patch.{Meaning}
use Rattle.stream_squash.proofs.pieces.gather_piece.Goals as goal

pub returns-clause-gathers : goal.returns-clause-gathers
returns-clause-gathers c = λ m direction behind is has.
    subst (λ (n : Meaning). HasGathered direction c.args.base.now.contents (n ∷ behind) c.take.new.self) (ap (λ (p : CheckedPatch). p.meaning) (c.in_ok-patch.ensures m is)) (c.in_ok-take.ensures direction behind has)

pub returns-clause-link : goal.returns-clause-link
returns-clause-link c = λ m is.
    let patch = c.in_ok-patch.ensures m is in
    ap (λ (i : Id). let l : ChainLink = record { id = i; prev = c.prev.result } in l) (c.id.ensures ∙ ap (λ (p : CheckedPatch). p.meaning.id) patch)
    ∙ ap (λ (o : Option Id). let l : ChainLink = record { id = m.id; prev = o } in l) (c.prev.ensures ∙ ap (λ (p : CheckedPatch). p.meaning.prev) patch)

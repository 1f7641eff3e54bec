use Rattle.std.proofs.Common.{◌++◌, Option, sym, subst, ◌∙◌}
use Rattle.std.proofs.lemmas.Result.{on_ok_weaker}
use Rattle.log_base.specs.declared.chain_link.ChainLink.{ChainLink}
use Rattle.patch_meaning.specs.Cutting.{changes_left, meanings_of}
use Rattle.stream_replay.specs.Streaming.{HoldsEdits, IsShortBehind}
use Rattle.stream_replay.proofs.Held.{both_ok, patch_held, patch_short}
use Rattle.stream_replay.proofs.progress.StreamProgress.complete.Goals as goal

pub returns-clause-edits : goal.returns-clause-edits
returns-clause-edits c =
    let s = c.args.self.now in let new = c.take.new.self.fault in let after = c.complete.new.self in
    on_ok_weaker c.complete.result
    (λ done ms changes has.
    subst (λ (last : Option ChainLink). HoldsEdits new (ms ++ meanings_of last changes) (changes_left last changes) after) (sym c.in-Some.is)
    (patch_held s.replay.fault new ms changes c.in-Some.link s.edits after c.in_ok-take.ensures.broken (sym c.is_broken.ensures ∙ c.if-is_broken.false) has done))
    c.complete.ensures.edits

pub returns-clause-short : goal.returns-clause-short
returns-clause-short c =
    let s = c.args.self.now in let new = c.take.new.self.fault in let after = c.complete.new.self in
    on_ok_weaker c.complete.result
    (λ done ms changes has by.
    subst (λ (last : Option ChainLink). IsShortBehind last (ms ++ meanings_of last changes) s.edits after) (sym c.in-Some.is)
    (patch_short s.replay.fault new ms changes c.in-Some.link s.edits after c.in_ok-take.ensures.broken (sym c.is_broken.ensures ∙ c.if-is_broken.false) has done.0 done.1 by))
    (both_ok c.complete.result _ _ c.complete.ensures.short c.complete.ensures.settled)

use Rattle.std.proofs.Common.{◌≡◌, ◌+◌, true, ◌++◌, sym, subst, ◌∙◌}
use Rattle.std.specs.Prelude.{nat_lt}
use Rattle.log_base.specs.declared.limits.TheConstants.{PATCH_LIMIT}
use Rattle.patch_meaning.specs.declared.part.Part.{Part}
use Rattle.patch_meaning.specs.Cutting.{HasTakenNext, changes_left, meanings_of}
use Rattle.stream_replay.specs.declared.replay.Replay.{Replay}
use Rattle.stream_replay.specs.Replaying.{IsReplay}
use Rattle.stream_replay.specs.Streaming.{HoldsMore}
use Rattle.stream_replay.proofs.Streams.{refused_by, streamed_more}
use Rattle.stream_replay.proofs.progress.StreamProgress.take.Goals as goal

pub returns-in-Err-clause-fault : goal.returns-in-Err-clause-fault
returns-in-Err-clause-fault c = λ end text stop a. refused_by end text c.args.at stop c.args.self.now c.args.says.now c.in-Err.fault c.in-Err.ensures.fault a

pub returns-in_ok-hold-in-Ok-clause-ok : goal.returns-in_ok-hold-in-Ok-clause-ok
returns-in_ok-hold-in-Ok-clause-ok c = λ end text stop a.
    let row = c.in-Ok.ensures in
    let done = c.in_ok-complete-in-Ok.ensures in
    let last = c.in_ok-hold-in-Ok.ensures in
    let mid = c.complete.new.self in
    let new = c.hold.new.self in
    let says = c.args.says.now in
    let at = c.args.at in
    let link = c.in-Ok.done in
    streamed_more end text at stop c.args.self.now new says link a
    (subst (λ (p : Part). HasTakenNext c.args.self.now.part says at link p) (sym (last.part ∙ done.part)) row.ok) row.cut
    (λ ms changes taken. subst (IsReplay (ms ++ meanings_of link changes)) (sym last.replay) (done.replay ms changes taken))
    (record {
      mid = mid.edits;
      holds = λ ms changes has.
          subst (λ (r : Replay). HoldsMore r.fault new.part (ms ++ meanings_of link changes) (changes_left link changes) says at new.edits) (sym last.replay)
          (subst (λ (p : Part). HoldsMore mid.replay.fault p (ms ++ meanings_of link changes) (changes_left link changes) says at new.edits) (sym last.part)
          (last.edits (ms ++ meanings_of link changes) (changes_left link changes) (done.edits ms changes has)));
      short = done.short;
      grows = last.grows;
      beyond = λ far. last.beyond (subst (λ (p : Part). nat_lt (p.from + PATCH_LIMIT) at ≡ true) last.part far);
    })

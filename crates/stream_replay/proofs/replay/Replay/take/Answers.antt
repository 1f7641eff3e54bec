use Rattle.std.proofs.Common.{sym, ◌∙◌}
use Rattle.patch_meaning.specs.PartRead.{meaning_of}
use Rattle.stream_replay.proofs.Taken.{breaks, is_whole, make_whole, goes_on}
use Rattle.stream_replay.proofs.replay.Replay.take.Goals as goal

pub returns-in_ok-push-in-None-clause-replay : goal.returns-in_ok-push-in-None-clause-replay
returns-in_ok-push-in-None-clause-replay c = λ ms changes has.
    let none = sym c.is_broken.ensures ∙ c.if-is_broken.false in
    let old = c.args.self.now in
    make_whole _ (record { chain = c.push.new.self; fault = old.fault }) none
    (goes_on ms (meaning_of c.args.link changes) old.chain _ (is_whole ms old none has) c.in-None.ensures.follows c.in_ok-push-in-None.ensures.ok)

pub returns-in-Some-clause-replay : goal.returns-in-Some-clause-replay
returns-in-Some-clause-replay c = λ ms changes has more.
    let none = sym c.is_broken.ensures ∙ c.if-is_broken.false in
    breaks ms more (meaning_of c.args.link changes) c.args.self.now.chain c.in-Some.fault c.in-Some.ensures.breaks (is_whole ms c.args.self.now none has)

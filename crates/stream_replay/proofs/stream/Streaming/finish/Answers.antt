use Rattle.std.proofs.Common.{◌++◌, Option, sym, subst, ◌∙◌}
use Rattle.std.proofs.lemmas.Result.{err_from_is_err_and}
use Rattle.patch_meaning.proofs.Cuts.{if_ok, if_err}
use Rattle.patch_meaning.specs.Cutting.{meanings_of}
use Rattle.stream_replay.specs.declared.fault.ReplayFault.{ReplayFault}
use Rattle.stream_replay.specs.Source.{EndsText, IsReplayed}
use Rattle.stream_replay.specs.Streaming.{HasMet}
use Rattle.stream_replay.proofs.Fed.{faulty_whole, fed_whole}
use Rattle.stream_replay.proofs.Held.{has_held}
use Rattle.stream_replay.proofs.Streams.{ends_chain, stream_at_end}
use Rattle.stream_replay.proofs.Taken.{makes_last, no_change}
use Rattle.stream_replay.proofs.stream.Streaming.finish.Goals as goal

pub returns-in-Some-clause-fault : goal.returns-in-Some-clause-fault
returns-in-Some-clause-fault c = λ text fed. faulty_whole text c.in-Some.told (subst (λ (f : Option ReplayFault). HasMet f text c.args.self) c.in-Some.is fed)

pub returns-in_err-advance-clause-fault : goal.returns-in_err-advance-clause-fault
returns-in_err-advance-clause-fault c =
    let p = err_from_is_err_and c.from_residual.result c.from_residual.ensures.1 in
    rw (p.1, p.2)
    (λ text fed.
    let s = fed_whole text c.args.self c.in_default.not-Some fed in
    c.in_err-advance.ensures.fault s.1 text (sym s.0))

pub returns-in_err-done-clause-fault : goal.returns-in_err-done-clause-fault
returns-in_err-done-clause-fault c =
    let p = err_from_is_err_and c.from_residual-in_err-done.result c.from_residual-in_err-done.ensures.1 in
    rw (p.1, p.2)
    (λ text fed.
    let s = fed_whole text c.args.self c.in_default.not-Some fed in
    let done = c.in_ok-advance.ensures in
    subst (EndsText c.in_err-done.field-0.0) (done.fed ∙ s.0) (c.in_err-done.ensures.fault (done.ok s.1) done.stops))

pub returns-clause-ok : goal.returns-clause-ok
returns-clause-ok c =
    if_ok c.finish.result _ _ c.finish.ensures.ok
    (λ replayed is text fed.
    let s = fed_whole text c.args.self c.in_default.not-Some fed in
    let done = c.in_ok-advance.ensures in
    let h = done.ok s.1 in
    let now = c.advance.new.self in
    let last = c.in_ok-done.done in
    subst (IsReplayed replayed) (done.fed ∙ s.0)
    (record {
      meanings = h.ms ++ meanings_of last h.changes;
      stream = stream_at_end now.window.fed now.window.passed now.progress last h done.stops c.in_ok-done.ensures.ok;
      replayed = is h.ms h.changes h.replayed (λ none.
          makes_last h.ms h.changes now.progress.edits last (no_change now.progress.part _ last h.rs h.ms h.changes c.in_ok-done.ensures.last h.parts) (has_held now.progress.replay.fault h.ms h.changes now.progress.edits none h.edits));
    }))

pub returns-clause-fault : goal.returns-clause-fault
returns-clause-fault c =
    if_err c.finish.result _ _ c.finish.ensures.fault
    (λ fault is text fed.
    let s = fed_whole text c.args.self c.in_default.not-Some fed in
    let done = c.in_ok-advance.ensures in
    let h = done.ok s.1 in
    let now = c.advance.new.self in
    let last = c.in_ok-done.done in
    subst (EndsText fault) (done.fed ∙ s.0)
    (ends_chain (h.ms ++ meanings_of last h.changes) fault now.window.fed (stream_at_end now.window.fed now.window.passed now.progress last h done.stops c.in_ok-done.ensures.ok) (is h.ms h.changes h.replayed)))

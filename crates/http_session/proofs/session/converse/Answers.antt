use Rattle.http_session.proofs.Complete.{all_answered}
use Rattle.http_session.proofs.session.converse.Goals as goal

pub returns-clause-conversed : goal.returns-clause-conversed
returns-clause-conversed g c =
    let e = c.serve_link-end.ensures.ended in
    let talks = e.talks in record {
      talks = talks;
      drained = e.drained;
      failed = e.cause;
      complete = λ well memory. all_answered talks.4.exchanges talks.4.rest talks.1 c.serve_link-end.result talks.4.writes (λ is. well (e.cause is)) memory;
      never_falls = e.faults;
    }

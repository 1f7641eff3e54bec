use Rattle.std.proofs.Common.{refl, ⊎_elim}
use Rattle.std.proofs.KnownBytes.{Keeps-refl}
use Rattle.delta_server.specs.Ends.{served, failed, marked, refused}
use Rattle.delta_server.proofs.Shelving.{err_at, on_ok}
use Rattle.delta_server.proofs.server.run_server.Goals as goal
use Rattle.delta_server.proofs.server.run_server.Goals.{in-Ok-answer, in-Err-answer}

pub returns-in-Err : goal.returns-in-Err
returns-in-Err g c = refused c.in-Err.refusal c.report-status.result c.in-Err.ensures.refused refl refl c.report-status.ensures

pub returns : goal.returns
returns g c =
    let asks = c.in-Ok.ensures.asks in
    let done = c.serve_unmarked-gates.ensures in
    elim c.match-answer.branch [
      | in-Ok-answer w ↦
          let is = w.in-Ok-answer.is in
          let seen = on_ok _ c.serve_unmarked-gates.result.1 w.in-Ok-answer.field-0 is done.served in
          rw (w.status-is, w.err-is)
          (served c.in-Ok.serve.dir asks.0 c.in-Ok.serve.workers seen.0 asks.1 seen.1 seen.2
          (on_ok _ c.serve_unmarked-gates.result.1 w.in-Ok-answer.field-0 is done.well)
          (Keeps-refl (g.E.Sink.written c.args.err.now)))
      | in-Err-answer w ↦
          rw (w.status-is, w.err-is)
          (⊎_elim
          (λ mark. marked c.in-Ok.serve.dir asks.0 c.in-Ok.serve.workers w.in-Err-answer.refusal w.report-status-in-Err-answer.result asks.1 mark.0 mark.1
          w.report-status-in-Err-answer.ensures)
          (λ seen. failed c.in-Ok.serve.dir asks.0 c.in-Ok.serve.workers w.in-Err-answer.refusal w.report-status-in-Err-answer.result seen.0 asks.1 seen.1 seen.2
          w.report-status-in-Err-answer.ensures)
          (err_at _ c.serve_unmarked-gates.result.1 w.in-Err-answer.refusal w.in-Err-answer.is done.failed))
    ]

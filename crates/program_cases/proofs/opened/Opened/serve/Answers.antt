use Rattle.std.proofs.Common.{◌≡◌, ◌<◌, length, Some, slice_get, arith}
use Rattle.hall_logs.proofs.Parts.{get_there}
use Rattle.program_cases.proofs.Passes.{one_used}
use Rattle.program_cases.proofs.opened.Opened.serve.Goals as goal

pub invariant_of-self : goal.invariant_of-self
invariant_of-self g c =
    let passes = c.self.inside.passes.passes in
    let before = c.self.invariant in
    let low : c.args.place < length passes.items = omega (arith, before.0.count, before.2, c.requires) in
    let at : slice_get passes.items c.args.place ≡ Some c.index_mut-pass.result.now = get_there passes.items c.args.place c.index_mut-pass.result.now low c.index_mut-pass.ensures.value in
    (one_used g.D.Disk c.self.inside.hall passes.items c.args.place c.index_mut-pass.result.now c.serve_session.new.pass before.0 at c.serve_session.ensures.ready c.serve_session.ensures.number, before.1, before.2)

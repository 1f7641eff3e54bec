use Rattle.std.proofs.Common.{◌≡◌, ◌∙◌, List, length, map, sym, ap, subst}
use Rattle.worker_pool.specs.Works.{AllServed}
use Rattle.worker_pool.specs.declared.pool.Post.{Post}
use Rattle.gate_crews.specs.Crews.{posts_of}
use Rattle.delta_session.specs.Halls.{AreHallPasses}
use Rattle.delta_session.specs.Sessions.{WorkerView, WorksSession}
use Rattle.delta_session.specs.Steps.{HallSight}
use Rattle.delta_session.proofs.Passing.{passes_stay}
use Rattle.delta_session.proofs.Posts.{passes_again, passes_at, gates_asked}
use Rattle.delta_session.proofs.serving.serve_passes.Goals as goal

pub returns-in-Ok-serve_crew-clause-served : goal.returns-in-Ok-serve_crew-clause-served
returns-in-Ok-serve_crew-clause-served g c =
    let e = c.in-Ok-serve_crew.ensures.served in
    let posts : List (Post g.row.G.Denot (WorkerView g.row.D.Denot)) = e.posts in record {
      posts = posts;
      served = subst (λ (workers : List (WorkerView g.row.D.Denot)). AllServed g.G.Gate.tells g.G.Gate.arrivals g.G.Gate.back g.G.Gate.faults (WorksSession g.D.Disk g.G.L.Link) (posts_of workers c.args.gates.items) posts) c.engage.ensures.workers e.served;
      gates_are = e.gates_are;
      passes_are = c.dismiss.ensures.passes ∙ ap (map (λ (worker : WorkerView g.row.D.Denot). worker.pass)) e.workers_are ∙ passes_at posts;
    }

pub returns-in-Ok-serve_crew-clause-stay : goal.returns-in-Ok-serve_crew-clause-stay
returns-in-Ok-serve_crew-clause-stay g c =
    let hall = c.args.hall.now in
    let before : List HallSight = c.args.passes.now.items in
    let gates : List g.row.G.Denot = c.args.gates.items in
    let served = returns-in-Ok-serve_crew-clause-served g c in
    let posts : List (Post g.row.G.Denot (WorkerView g.row.D.Denot)) = served.posts in
    let same : length before ≡ length gates = c.requires.passes.count ∙ sym c.requires.gates in
    let asked = gates_asked g.D.Disk g.G.L.Link hall g.G.Gate.tells g.G.Gate.arrivals g.G.Gate.back g.G.Gate.faults before gates posts same served.served in
    subst (λ (after : List HallSight). AreHallPasses g.D.Disk hall after) (sym served.passes_are)
    (passes_stay g.D.Disk hall before (map (λ (post : Post g.row.G.Denot (WorkerView g.row.D.Denot)). post.worker.pass) posts) asked c.requires.passes)

pub returns-in-Err-clause-want : goal.returns-in-Err-clause-want
returns-in-Err-clause-want g c =
    let e = c.in-Err.ensures.want in (
      e.1,
      c.dismiss-in-Err.ensures.passes ∙ ap (map (λ (worker : WorkerView g.row.D.Denot). worker.pass)) (e.0 ∙ c.engage.ensures.workers) ∙ passes_again c.args.hall.now c.args.passes.now.items,
    )

pub returns-in-Err-clause-stay : goal.returns-in-Err-clause-stay
returns-in-Err-clause-stay g c =
    subst (λ (after : List HallSight). AreHallPasses g.D.Disk c.args.hall.now after) (sym (returns-in-Err-clause-want g c).1) c.requires.passes

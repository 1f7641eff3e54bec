use Rattle.std.proofs.Common.{◌∙◌, List, length, map, sym, ap, subst, arith}
use Rattle.worker_pool.specs.Works.{AllServed}
use Rattle.worker_pool.specs.declared.pool.Post.{Post}
use Rattle.gate_crews.specs.Crews.{posts_of}
use Rattle.turn_cell.specs.Sharing.{AreAllPassesOf}
use Rattle.shared_zone.specs.History.{ZoneSight, shared_zone}
use Rattle.zone_session.specs.Sessions.{WorkerView, WorksSession}
use Rattle.zone_session.proofs.Passing.{passes_stay}
use Rattle.zone_session.proofs.Posts.{as_many_workers, gates_gone, passes_again, passes_at}
use Rattle.zone_session.proofs.serving.serve_passes.Goals as goal

pub serve_crew-requires-clause-count : goal.serve_crew-requires-clause-count
serve_crew-requires-clause-count g c κs within =
    let long = as_many_workers c.args.hall.now c.args.address.now c.args.name.now c.args.passes.now.items c.args.nets.items c.requires.nets in
    ap length c.engage.ensures.workers ∙ long ∙ sym c.requires.gates

pub dismiss-requires-in-Err : goal.dismiss-requires-in-Err
dismiss-requires-in-Err g c =
    let long = as_many_workers c.args.hall.now c.args.address.now c.args.name.now c.args.passes.now.items c.args.nets.items c.requires.nets in
    let same = ap length c.in-Err.ensures.want.0 ∙ ap length c.engage.ensures.workers ∙ long in record {
      room = (c.engage.ensures.none, omega (arith, c.in-Err.field-0.workers.ok.0, same, c.args.passes.now.ok.0, c.args.passes.now.ok.1, c.engage.ensures.room));
    }

pub returns-in-Ok-serve_crew-clause-served : goal.returns-in-Ok-serve_crew-clause-served
returns-in-Ok-serve_crew-clause-served g c =
    let e = c.in-Ok-serve_crew.ensures.served in
    let posts : List (Post g.row.G.Denot (WorkerView g.row.D.Denot g.row.N.Denot)) = e.posts in record {
      posts = posts;
      served = subst (λ (workers : List (WorkerView g.row.D.Denot g.row.N.Denot)). AllServed g.G.Gate.tells g.G.Gate.arrivals g.G.Gate.back g.G.Gate.faults (WorksSession g.D.Disk g.N.Dial g.N.L.Link.left g.N.L.Link.sent g.G.L.Link) (posts_of workers c.args.gates.items) posts)
          c.engage.ensures.workers e.served;
      gates_are = e.gates_are;
      passes_are = c.dismiss.ensures.passes ∙ ap (map (λ (worker : WorkerView g.row.D.Denot g.row.N.Denot). worker.seat.pass)) e.workers_are ∙ passes_at posts;
    }

pub returns-in-Ok-serve_crew-clause-stay : goal.returns-in-Ok-serve_crew-clause-stay
returns-in-Ok-serve_crew-clause-stay g c =
    let hall = c.args.hall.now in
    let before : List ZoneSight = c.args.passes.now.items in
    let nets : List g.row.N.Denot = c.args.nets.items in
    let gates : List g.row.G.Denot = c.args.gates.items in
    let served = returns-in-Ok-serve_crew-clause-served g c in
    let posts : List (Post g.row.G.Denot (WorkerView g.row.D.Denot g.row.N.Denot)) = served.posts in
    let gone = gates_gone g.D.Disk g.N.Dial g.N.L.Link.left g.N.L.Link.sent g.G.L.Link c.sessions_are_served.ensures g.G.Gate.tells g.G.Gate.arrivals g.G.Gate.back g.G.Gate.faults hall c.args.address.now c.args.name.now before nets gates posts c.requires.nets c.requires.gates served.served in
    subst (λ (after : List ZoneSight). AreAllPassesOf (shared_zone g.D.Disk) hall after) (sym served.passes_are)
    (passes_stay g.D.Disk hall before (map (λ (post : Post g.row.G.Denot (WorkerView g.row.D.Denot g.row.N.Denot)). post.worker.seat.pass) posts) gone c.requires.passes)

pub returns-in-Err-clause-want : goal.returns-in-Err-clause-want
returns-in-Err-clause-want g c =
    let e = c.in-Err.ensures.want in (
      e.1,
      c.dismiss-in-Err.ensures.passes ∙ ap (map (λ (worker : WorkerView g.row.D.Denot g.row.N.Denot). worker.seat.pass)) (e.0 ∙ c.engage.ensures.workers)
          ∙ passes_again c.args.hall.now c.args.address.now c.args.name.now c.args.passes.now.items c.args.nets.items c.requires.nets,
    )

pub returns-in-Err-clause-stay : goal.returns-in-Err-clause-stay
returns-in-Err-clause-stay g c =
    subst (λ (after : List ZoneSight). AreAllPassesOf (shared_zone g.D.Disk) c.args.hall.now after) (sym (returns-in-Err-clause-want g c).1) c.requires.passes

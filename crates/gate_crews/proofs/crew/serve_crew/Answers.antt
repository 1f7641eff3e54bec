use Rattle.std.proofs.Common.{◌≡◌, ◌∙◌, List, length, ap, subst, sym, arith}
use Rattle.worker_pool.specs.Works.{AllServed}
use Rattle.worker_pool.specs.declared.pool.Post.{Post}
use Rattle.gate_crews.proofs.Posted.{came_back, posted_length}
use Rattle.gate_crews.proofs.crew.serve_crew.Goals as goal

pub relieve-requires-clause-workers : goal.relieve-requires-clause-workers
relieve-requires-clause-workers g c =
    let workers = c.args.crew.workers in
    let gates = c.args.crew.gates in
    let posts = posted_length workers.items gates.items c.requires.count in
    (c.post.ensures.none.0, omega (arith, c.serve_all.result.ok.0, c.serve_all.ensures.0, ap length c.post.ensures.posts, posts, workers.ok.0, workers.ok.1, c.post.ensures.room.0))

pub relieve-requires-clause-gates : goal.relieve-requires-clause-gates
relieve-requires-clause-gates g c =
    let workers = c.args.crew.workers in
    let gates = c.args.crew.gates in
    let posts = posted_length workers.items gates.items c.requires.count in
    (c.post.ensures.none.1, omega (arith, c.serve_all.result.ok.0, c.serve_all.ensures.0, ap length c.post.ensures.posts, posts, c.requires.count, gates.ok.0, gates.ok.1, c.post.ensures.room.1))

pub returns-clause-served : goal.returns-clause-served
returns-clause-served g c = record {
  posts = c.serve_all.result.items;
  served = subst (λ (before : List (Post g.row.G.Denot g.row.W.Denot)). AllServed g.G.Gate.tells g.G.Gate.arrivals g.G.Gate.back g.G.Gate.faults g.W.Worker.works before c.serve_all.result.items) c.post.ensures.posts c.serve_all.ensures;
  workers_are = c.relieve.ensures.workers;
  gates_are = c.relieve.ensures.gates;
}

pub returns-clause-count : goal.returns-clause-count
returns-clause-count g c =
    let workers : List g.row.W.Denot = c.args.crew.workers.items in
    let gates : List g.row.G.Denot = c.args.crew.gates.items in
    let posts : List (Post g.row.G.Denot g.row.W.Denot) = c.serve_all.result.items in
    let same = c.requires.count in
    let served = c.serve_all.ensures.0 ∙ ap length c.post.ensures.posts in (
      came_back (λ (post : Post g.row.G.Denot g.row.W.Denot). post.worker) workers gates posts c.relieve.new.workers.items same served c.relieve.ensures.workers,
      came_back (λ (post : Post g.row.G.Denot g.row.W.Denot). post.gate) workers gates posts c.relieve.new.gates.items same served c.relieve.ensures.gates ∙ same,
    )

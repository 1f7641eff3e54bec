use Rattle.std.proofs.Common.{◌≡◌, inl, inr, ◌≤◌, ◌++◌, List, ℕ, length, map, take, drop, refl, sym, ap, subst, ◌∙◌, arith, take-append-drop}
use Rattle.slot_checks.proofs.Steps.{all_kept}
use Rattle.slot_checks.specs.Checks.{AreKept}
use Rattle.command_tables.specs.declared.refusal.Refusal.TheVariants as refusals
use Rattle.delta_session.specs.Working.{HasWorked}
use Rattle.delta_server.specs.Ends.{at_files, at_shelf, at_workers}
use Rattle.gate_crews.proofs.Gathered.{gathered, laid_length, aside_length, front, idle, count}
use Rattle.delta_server.proofs.Gathered.{came_back}
use Rattle.delta_server.proofs.Halls.{ended_length, ended_marked}
use Rattle.delta_server.proofs.Shelving.{back_over}
use Rattle.delta_server.proofs.server.serve_hall.Goals as goal

pub returns-in_default-clause-stopped : goal.returns-in_default-clause-stopped
returns-in_default-clause-stopped g c =
    at_files refusals.OutOfMemory (at_shelf refusals.OutOfMemory 0 (inr refl) (λ told. inl (omega arith)) (λ told. all_kept c.args.serve.now.dir 0 (g.H.Shelf.files c.args.shelf.now)))

pub gather-requires : goal.gather-requires
gather-requires g c =
    let workers = c.args.serve.now.workers in
    let gates : List g.row.G.Denot = c.args.gates.items in
    let laid : List g.row.G.Denot = c.lay_aside.new.gates.items in
    let worked = c.in-Ok-serve_gates.ensures.worked in
    let over = c.in-Ok-open.ensures.over.0 in
    let some : workers ≤ length gates = omega (arith, c.requires.gates, c.requires.workers.1) in
    let laid_is = laid_length gates laid workers c.lay_aside.ensures.gates some in
    let long = came_back c.in-Ok-open.opened.0 c.in-Ok-open.opened.1.passes.items laid c.in-Ok-serve_gates.worked.gates.items worked.posts
    (over.all.count ∙ over.seats ∙ sym laid_is) worked.served.0 worked.gates_are in
    let aside = aside_length gates c.lay_aside.new.idle.items workers c.lay_aside.ensures.idle in
    record { room = omega (arith, long, laid_is, aside, some, c.requires.gates, c.lay_aside.ensures.room, c.in-Ok.ensures.capacity, c.in-Ok-serve_gates.worked.gates.ok.0, c.lay_aside.new.idle.ok.0) }

pub returns-in-Ok-serve_gates-clause-served : goal.returns-in-Ok-serve_gates-clause-served
returns-in-Ok-serve_gates-clause-served g c =
    let old = g.H.Shelf.files c.args.shelf.now in
    let mid = g.H.Shelf.files c.open.new.shelf in
    let new = g.H.Shelf.files c.put_back.new.shelf in
    let dir = c.args.serve.now.dir in
    let workers = c.args.serve.now.workers in
    let gates : List g.row.G.Denot = c.args.gates.items in
    let laid : List g.row.G.Denot = c.lay_aside.new.gates.items in
    let after : List g.row.G.Denot = c.in-Ok-serve_gates.worked.gates.items in
    let all : List g.row.G.Denot = c.gather.result.items in
    let left : List g.row.H-D.Denot = c.in-Ok-serve_gates.worked.disks.items in
    let hall = c.in-Ok-open.opened.0 in
    let passes = c.in-Ok-open.opened.1.passes.items in
    let worked = c.in-Ok-serve_gates.ensures.worked in
    let over = c.in-Ok-open.ensures.over.0 in
    let some : workers ≤ length gates = omega (arith, c.requires.gates, c.requires.workers.1) in
    let laid_is = laid_length gates laid workers c.lay_aside.ensures.gates some in
    let long : length after ≡ workers = came_back hall passes laid after worked.posts (over.all.count ∙ over.seats ∙ sym laid_is) worked.served.0 worked.gates_are ∙ laid_is in
    let is = gathered gates after c.lay_aside.new.idle.items all workers c.gather.ensures c.lay_aside.ensures.idle in
    let passes_then = map (λ post. post.worker.pass) worked.posts in
    record {
      hall = hall;
      passes = passes;
      left = left;
      enough = some;
      over = over;
      worked =
          subst (λ (l : List g.row.G.Denot). HasWorked g.H.D.Disk g.G.L.Link g.G.Gate.tells g.G.Gate.arrivals g.G.Gate.back g.G.Gate.faults hall passes (take workers gates) l left)
          (sym (front gates after all workers is long))
          (subst (λ (l : List g.row.G.Denot). HasWorked g.H.D.Disk g.G.L.Link g.G.Gate.tells g.G.Gate.arrivals g.G.Gate.back g.G.Gate.faults hall passes l after left)
          c.lay_aside.ensures.gates worked);
      idle = idle gates after all workers is long;
      count = count gates after all workers is long some;
      put_back = λ told. back_over g.H.D.Disk dir left old mid new
          (subst (λ (n : ℕ). AreKept dir n old mid) (sym (ended_length g.H.D.Disk over.disks_are hall passes_then left over.opened worked.ended)) (c.in-Ok-open.ensures.over.1 told))
          (c.put_back.ensures.put_back told dir (ended_marked g.H.D.Disk dir over.disks_are hall passes_then left over.opened worked.ended (over.asked.marked told)));
    }

pub returns-in-Err-serve_gates-clause-stopped : goal.returns-in-Err-serve_gates-clause-stopped
returns-in-Err-serve_gates-clause-stopped g c =
    let old = g.H.Shelf.files c.args.shelf.now in
    let mid = g.H.Shelf.files c.open.new.shelf in
    let new = g.H.Shelf.files c.put_back-in-Err-serve_gates.new.shelf in
    let dir = c.args.serve.now.dir in
    let left : List g.row.H-D.Denot = c.in-Err-serve_gates.left.disks.items in
    let hall = c.in-Ok-open.opened.0 in
    let passes = c.in-Ok-open.opened.1.passes.items in
    let over = c.in-Ok-open.ensures.over.0 in
    let ended = c.in-Err-serve_gates.ensures.want.1 in
    at_workers hall passes left over ended
    (λ told. back_over g.H.D.Disk dir left old mid new
    (subst (λ (n : ℕ). AreKept dir n old mid) (sym (ended_length g.H.D.Disk over.disks_are hall passes left over.opened ended)) (c.in-Ok-open.ensures.over.1 told))
    (c.put_back-in-Err-serve_gates.ensures.put_back told dir (ended_marked g.H.D.Disk dir over.disks_are hall passes left over.opened ended (over.asked.marked told))))

pub returns-in-Err-serve_gates-clause-same : goal.returns-in-Err-serve_gates-clause-same
returns-in-Err-serve_gates-clause-same g c is_err =
    let workers = c.args.serve.now.workers in
    let gates : List g.row.G.Denot = c.args.gates.items in
    gathered gates c.in-Err-serve_gates.left.gates.items c.lay_aside.new.idle.items c.gather-in-Err-serve_gates.result.items workers c.gather-in-Err-serve_gates.ensures c.lay_aside.ensures.idle
    ∙ ap (λ (l : List g.row.G.Denot). l ++ drop workers gates) (c.in-Err-serve_gates.ensures.want.0 ∙ c.lay_aside.ensures.gates)
    ∙ take-append-drop workers gates

-- Gates that come back from a hall's workers.
use Rattle.std.proofs.Common.{◌≡◌, ◌∙◌, List, length, map}
use Rattle.worker_pool.specs.declared.pool.Post.{Post}
use Rattle.gate_crews.specs.Crews.{posts_of}
use Rattle.gate_crews.proofs.Posted.{came_back as posts_back}
use Rattle.delta_session.specs.Sessions.{WorkerView}
use Rattle.delta_session.specs.Steps.{HallView, HallSight}
use Rattle.delta_session.specs.Working.{workers_of}
use Rattle.delta_session.proofs.Posts.{as_many_workers}

-- as many gates come back as were posted
pub came_back : {D G : Type 0} (hall : HallView D) (passes : List HallSight) (gates after : List G) (posts : List (Post G (WorkerView D)))
    → length passes ≡ length gates → length posts ≡ length (posts_of (workers_of hall passes) gates) → after ≡ map (λ post. post.gate) posts
    → length after ≡ length gates
came_back hall passes gates after posts same served are =
    posts_back (λ post. post.gate) (workers_of hall passes) gates posts after (as_many_workers hall passes ∙ same) served are ∙ as_many_workers hall passes ∙ same

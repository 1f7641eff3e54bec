-- Workers at their gates.
use Rattle.std.specs.Prelude.{◌≡◌, ℕ, List, [], ◌∷◌, map}
use Rattle.worker_pool.specs.Works.{AllServed}
use Rattle.worker_pool.specs.declared.gate.Arrival.{Arrival}
use Rattle.worker_pool.specs.declared.pool.Post.{Post}

module _ {G W : Type 0} where
  -- each worker at its gate
  abbrev pub posts_of : List W → List G → List (Post G W)
  posts_of [] gates = []
  posts_of (worker ∷ workers) [] = []
  posts_of (worker ∷ workers) (gate ∷ gates) =
      record { gate = gate; worker = worker } ∷ posts_of workers gates

  abbrev pub workers_at : List (Post G W) → List W
  workers_at posts = map (λ post. post.worker) posts

  abbrev pub gates_at : List (Post G W) → List G
  gates_at posts = map (λ post. post.gate) posts

-- Each worker worked the arrivals of its own gate, until that gave no more; and workers and gates
-- came back in their order.
pub record CrewServed {G W L : Type 0} (tells : Type 0) (arrivals : G → List (Arrival L))
    (back : G → List L) (faults : G → ℕ) (works : W → L → ℕ → W → L → Type 0)
    (workers : List W) (gates : List G) (left : List W) (after : List G) : Type 0 where
  pub posts : List (Post G W)
  pub served : AllServed tells arrivals back faults works (posts_of workers gates) posts
  pub workers_are : left ≡ workers_at posts
  pub gates_are : after ≡ gates_at posts

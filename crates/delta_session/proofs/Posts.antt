-- Passes at gates, and what their works come to.
use Rattle.std.proofs.Common.{◌≡◌, ℕ, suc, ◌<◌, refl, sym, ap, ◌∙◌, subst, append_assoc, arith, List, [], ◌∷◌, ◌++◌, length, map, slice_index_or}
use Rattle.std.specs.Prelude.{reverse}
use Rattle.std.specs.List.{AllZip}
use Rattle.std.proofs.lemmas.List.{reverse-append}
use Rattle.disk_model.specs.declared.disk.Disk.{Ghosts}
use Rattle.delta_base.specs.declared.link.Link.{Ghosts as LinkGhosts}
use Rattle.turn_cell.specs.Turns.{AllOf}
use Rattle.worker_pool.specs.Works.{AllServed, Served, Works as AreWorked}
use Rattle.worker_pool.specs.declared.gate.Arrival.{Arrival}
use Rattle.worker_pool.specs.declared.pool.Post.{Post}
use Rattle.gate_crews.specs.Crews.{posts_of, workers_at}
use Rattle.delta_session.specs.Sessions.{HasAsked, WorkerView, WorksSession, all_of}
use Rattle.delta_session.specs.Steps.{HallView, HallSight, AreSteps}
use Rattle.delta_session.specs.Working.{workers_of}
use Rattle.delta_session.proofs.Said.{steps_said}
use Rattle.delta_session.proofs.Stepping.{compose_steps}

module _ {A : Type 0} (P : A → Type 0) where
  pub all_but_last : (xs : List A) (x : A) → AllOf P (xs ++ x ∷ []) → AllOf P xs
  all_but_last [] x all = tt
  all_but_last (y ∷ xs) x all = (all.0, all_but_last xs x all.1)

module _ {D : Type 0} (hall : HallView D) where
  abbrev pub worker_of : HallSight → WorkerView D
  worker_of pass = record { hall = hall; pass = pass }

  workers_more : (passes : List HallSight) (pass : HallSight) → workers_of hall (passes ++ pass ∷ []) ≡ workers_of hall passes ++ worker_of pass ∷ []
  workers_more [] pass = refl
  workers_more (x ∷ passes) pass = ap (λ (l : List (WorkerView D)). worker_of x ∷ l) (workers_more passes pass)

  -- the worker of the last pass stands behind the others in reverse
  pub workers_one : (all : List (WorkerView D)) (passes rest : List HallSight) (workers : List (WorkerView D)) (pass : HallSight) → all ≡ workers_of hall passes ++ reverse workers → passes ≡ rest ++ pass ∷ []
      → all ≡ workers_of hall rest ++ reverse (workers ++ worker_of pass ∷ [])
  workers_one all passes rest workers pass is popped =
      is ∙ (λ i. workers_of hall (popped i) ++ reverse workers) ∙ ap (λ (l : List (WorkerView D)). l ++ reverse workers) (workers_more rest pass)
      ∙ append_assoc (workers_of hall rest) (worker_of pass ∷ []) (reverse workers) ∙ ap (λ (l : List (WorkerView D)). workers_of hall rest ++ l) (sym (reverse-append workers (worker_of pass ∷ [])))

  -- as many workers as passes, each with its own
  pub as_many_workers : (passes : List HallSight) → length (workers_of hall passes) ≡ length passes
  as_many_workers [] = refl
  as_many_workers (x ∷ passes) = ap (λ (n : ℕ). suc n) (as_many_workers passes)

  pub passes_again : (passes : List HallSight) → map (λ (worker : WorkerView D). worker.pass) (workers_of hall passes) ≡ passes
  passes_again [] = refl
  passes_again (x ∷ passes) = ap (λ (l : List HallSight). x ∷ l) (passes_again passes)

-- the passes of the workers at their posts
pub passes_at : {D G : Type 0} (posts : List (Post G (WorkerView D))) → map (λ (worker : WorkerView D). worker.pass) (workers_at posts) ≡ map (λ (post : Post G (WorkerView D)). post.worker.pass) posts
passes_at [] = refl
passes_at (z ∷ posts) = ap (λ (l : List HallSight). z.worker.pass ∷ l) (passes_at posts)

module _ {D L : Type 0} (disks : Ghosts D) (links : LinkGhosts L) (hall : HallView D) where
  -- works one after another are steps of one pass of that hall
  works_ask : (first last : WorkerView D) (arrivals : List (Arrival L)) (left : List L) → first.hall ≡ hall → AreWorked (WorksSession disks links) first arrivals last left
      → HasAsked disks hall first.pass last.pass
  works_ask first last [] [] is same = ([], ap (λ (w : WorkerView D). w.pass.lists) same)
  works_ask first last [] (link ∷ left) is worked = absurd worked
  works_ask first last (arrival ∷ arrivals) [] is worked = absurd worked
  works_ask first last (arrival ∷ arrivals) (link ∷ left) is worked =
      let next = worked.0 in
      let one = worked.1 in
      let talks = one.2.talks.4 in
      let said = steps_said disks first.hall (record first.pass { dice = arrival.dice }) next.pass talks.exchanges talks.answered in
      let steps : AreSteps disks hall first.pass.lists (all_of said.0) next.pass.lists = subst (λ (h : HallView D). AreSteps disks h first.pass.lists (all_of said.0) next.pass.lists) is said.2 in
      let rest = works_ask next last arrivals left (one.1 ∙ is) worked.2 in
      (all_of said.0 ++ rest.0, compose_steps disks hall first.pass.lists next.pass.lists last.pass.lists (all_of said.0) rest.0 steps rest.1)

  module _ {G : Type 0} (tells : Type 0) (arrivals : G → List (Arrival L)) (back : G → List L) (faults : G → ℕ) where
    all_asked : (passes : List HallSight) (gates : List G) (posts : List (Post G (WorkerView D))) → length passes ≡ length gates → length posts ≡ length (posts_of (workers_of hall passes) gates)
        → ((k : ℕ) (d : Post G (WorkerView D)) → k < length (posts_of (workers_of hall passes) gates) → Served tells arrivals back faults (WorksSession disks links) (slice_index_or (posts_of (workers_of hall passes) gates) k d) (slice_index_or posts k d))
        → AllZip (HasAsked disks hall) passes (map (λ (post : Post G (WorkerView D)). post.worker.pass) posts)
    all_asked [] [] [] same count each = tt
    all_asked [] [] (z ∷ posts) same count each = absurd (omega (arith, count))
    all_asked [] (y ∷ gates) posts same count each = absurd (omega (arith, same))
    all_asked (x ∷ passes) [] posts same count each = absurd (omega (arith, same))
    all_asked (x ∷ passes) (y ∷ gates) [] same count each = absurd (omega (arith, count))
    all_asked (x ∷ passes) (y ∷ gates) (z ∷ posts) same count each =
        let one = (each 0 z (omega arith)).serves in (
          works_ask (worker_of hall x) z.worker one.taken one.links refl one.worked,
          all_asked passes gates posts (omega (arith, same)) (omega (arith, count)) (λ k d low. each (suc k) d (omega (arith, low))),
        )

    pub gates_asked : (passes : List HallSight) (gates : List G) (posts : List (Post G (WorkerView D))) → length passes ≡ length gates → AllServed tells arrivals back faults (WorksSession disks links) (posts_of (workers_of hall passes) gates) posts
        → AllZip (HasAsked disks hall) passes (map (λ (post : Post G (WorkerView D)). post.worker.pass) posts)
    gates_asked passes gates posts same served = all_asked passes gates posts same served.0 served.1

-- Passes at gates, and what their works come to.
use Rattle.std.proofs.Common.{◌≡◌, ℕ, suc, ◌<◌, refl, sym, ap, ◌∙◌, subst, append_assoc, arith, List, [], ◌∷◌, ◌++◌, length, map, slice_index_or, Option}
use Rattle.std.specs.Prelude.{reverse}
use Rattle.std.specs.List.{AllZip}
use Rattle.std.proofs.lemmas.List.{reverse-append}
use Rattle.disk_model.specs.declared.disk.Disk.{Ghosts}
use Rattle.delta_base.specs.declared.link.Link.{Ghosts as LinkGhosts}
use Rattle.delta_client.specs.declared.dial.Dial.{Ghosts as DialGhosts}
use Rattle.turn_cell.specs.Sights.{Made}
use Rattle.turn_cell.specs.Turns.{AllOf}
use Rattle.worker_pool.specs.Works.{AllServed, Served, Works as AreWorked}
use Rattle.worker_pool.specs.declared.gate.Arrival.{Arrival}
use Rattle.worker_pool.specs.declared.pool.Post.{Post}
use Rattle.gate_crews.specs.Crews.{posts_of, workers_at}
use Rattle.patch_log.specs.State.{LogView}
use Rattle.shared_log.specs.Calls.{AreCalledOnLog}
use Rattle.shared_log.specs.Laws.{CallsCompose}
use Rattle.shared_log.specs.History.{LogSight}
use Rattle.mirror_session.specs.Laws.{SessionsAreServed}
use Rattle.mirror_session.specs.Sessions.{WorkerView, WorksSession}
use Rattle.mirror_session.specs.Working.{workers_of}
use Rattle.mirror_session.proofs.Passing.{HasAsked}

module _ {A : Type 0} (P : A → Type 0) where
  pub all_but_last : (xs : List A) (x : A) → AllOf P (xs ++ x ∷ []) → AllOf P xs
  all_but_last [] x all = tt
  all_but_last (y ∷ xs) x all = (all.0, all_but_last xs x all.1)

  pub the_last : (xs : List A) (x : A) → AllOf P (xs ++ x ∷ []) → P x
  the_last [] x all = all.0
  the_last (y ∷ xs) x all = the_last xs x all.1

module _ {D N : Type 0} (log : Made (LogView D)) (address name : List ℕ) where
  abbrev pub worker_of : LogSight → N → WorkerView D N
  worker_of pass net = record { log = log; address = address; name = name; seat = record { pass = pass; net = net } }

  abbrev Workers : List LogSight → List N → List (WorkerView D N)
  Workers = workers_of log address name

  workers_more : (passes : List LogSight) (nets : List N) (pass : LogSight) (net : N) → length passes ≡ length nets → Workers (passes ++ pass ∷ []) (nets ++ net ∷ []) ≡ Workers passes nets ++ worker_of pass net ∷ []
  workers_more [] [] pass net same = refl
  workers_more [] (y ∷ nets) pass net same = absurd (omega (arith, same))
  workers_more (x ∷ passes) [] pass net same = absurd (omega (arith, same))
  workers_more (x ∷ passes) (y ∷ nets) pass net same = ap (λ (l : List (WorkerView D N)). worker_of x y ∷ l) (workers_more passes nets pass net (omega (arith, same)))

  -- the worker of the last pass stands behind the others in reverse
  pub workers_one : (all : List (WorkerView D N)) (passes rest : List LogSight) (nets others : List N) (workers : List (WorkerView D N)) (pass : LogSight) (net : N) → all ≡ Workers passes nets ++ reverse workers → passes ≡ rest ++ pass ∷ []
      → nets ≡ others ++ net ∷ [] → length rest ≡ length others → all ≡ Workers rest others ++ reverse (workers ++ worker_of pass net ∷ [])
  workers_one all passes rest nets others workers pass net is popped taken same =
      is ∙ (λ i. Workers (popped i) (taken i) ++ reverse workers) ∙ ap (λ (l : List (WorkerView D N)). l ++ reverse workers) (workers_more rest others pass net same)
      ∙ append_assoc (Workers rest others) (worker_of pass net ∷ []) (reverse workers) ∙ ap (λ (l : List (WorkerView D N)). Workers rest others ++ l) (sym (reverse-append workers (worker_of pass net ∷ [])))

  -- as many workers as passes, each with its own
  pub as_many_workers : (passes : List LogSight) (nets : List N) → length nets ≡ length passes → length (Workers passes nets) ≡ length passes
  as_many_workers [] nets same = refl
  as_many_workers (x ∷ passes) [] same = absurd (omega (arith, same))
  as_many_workers (x ∷ passes) (y ∷ nets) same = ap (λ (n : ℕ). suc n) (as_many_workers passes nets (omega (arith, same)))

  pub passes_again : (passes : List LogSight) (nets : List N) → length nets ≡ length passes → map (λ (worker : WorkerView D N). worker.seat.pass) (Workers passes nets) ≡ passes
  passes_again [] nets same = refl
  passes_again (x ∷ passes) [] same = absurd (omega (arith, same))
  passes_again (x ∷ passes) (y ∷ nets) same = ap (λ (l : List LogSight). x ∷ l) (passes_again passes nets (omega (arith, same)))

-- the passes of the workers at their posts
pub passes_at : {D N G : Type 0} (posts : List (Post G (WorkerView D N))) → map (λ (worker : WorkerView D N). worker.seat.pass) (workers_at posts) ≡ map (λ (post : Post G (WorkerView D N)). post.worker.seat.pass) posts
passes_at [] = refl
passes_at (z ∷ posts) = ap (λ (l : List LogSight). z.worker.seat.pass ∷ l) (passes_at posts)

module _ {D N C L : Type 0} (disks : Ghosts D) (dial : DialGhosts N C) (left sent : C → Option (List ℕ)) (links : LinkGhosts L) (log : Made (LogView D)) (compose : CallsCompose disks log.origin) (law : SessionsAreServed disks dial left sent) where
  -- works one after another are calls of one pass on that log
  works_ask : (first last : WorkerView D N) (arrivals : List (Arrival L)) (behind : List L) → first.log ≡ log → AreWorked (WorksSession disks dial left sent links) first arrivals last behind → HasAsked disks log.origin first.seat.pass last.seat.pass
  works_ask first last [] [] is same = ([], ap (λ (w : WorkerView D N). w.seat.pass) same)
  works_ask first last [] (link ∷ behind) is worked = absurd worked
  works_ask first last (arrival ∷ arrivals) [] is worked = absurd worked
  works_ask first last (arrival ∷ arrivals) (link ∷ behind) is worked =
      let next : WorkerView D N = worked.0 in
      let talks = worked.1.4.talks.4 in
      let one = law first.log.origin first.address first.name first.seat next.seat talks.exchanges talks.answered in
      let called = subst (λ (l : Made (LogView D)). AreCalledOnLog disks l.origin first.seat.pass one.calls next.seat.pass) is one.called in
      let rest = works_ask next last arrivals behind (worked.1.1 ∙ is) worked.2 in
      (one.calls ++ rest.0, compose first.seat.pass next.seat.pass last.seat.pass one.calls rest.0 called rest.1)

  module _ {G : Type 0} (tells : Type 0) (arrivals : G → List (Arrival L)) (back : G → List L) (faults : G → ℕ) (address name : List ℕ) where
    abbrev Posts : List LogSight → List N → List G → List (Post G (WorkerView D N))
    Posts passes nets gates = posts_of (workers_of log address name passes nets) gates

    all_asked : (passes : List LogSight) (nets : List N) (gates : List G) (posts : List (Post G (WorkerView D N))) → length nets ≡ length passes → length gates ≡ length passes → length posts ≡ length (Posts passes nets gates)
        → ((k : ℕ) (d : Post G (WorkerView D N)) → k < length (Posts passes nets gates) → Served tells arrivals back faults (WorksSession disks dial left sent links) (slice_index_or (Posts passes nets gates) k d) (slice_index_or posts k d))
        → AllZip (HasAsked disks log.origin) passes (map (λ (post : Post G (WorkerView D N)). post.worker.seat.pass) posts)
    all_asked [] nets gates [] many same count each = tt
    all_asked [] nets gates (z ∷ posts) many same count each = absurd (omega (arith, count))
    all_asked (x ∷ passes) [] gates posts many same count each = absurd (omega (arith, many))
    all_asked (x ∷ passes) (w ∷ nets) [] posts many same count each = absurd (omega (arith, same))
    all_asked (x ∷ passes) (w ∷ nets) (y ∷ gates) [] many same count each = absurd (omega (arith, count))
    all_asked (x ∷ passes) (w ∷ nets) (y ∷ gates) (z ∷ posts) many same count each =
        let one = (each 0 z (omega arith)).serves in (
          works_ask (worker_of log address name x w) z.worker one.taken one.links refl one.worked,
          all_asked passes nets gates posts (omega (arith, many)) (omega (arith, same)) (omega (arith, count)) (λ k d low. each (suc k) d (omega (arith, low))),
        )

    pub gates_asked : (passes : List LogSight) (nets : List N) (gates : List G) (posts : List (Post G (WorkerView D N))) → length nets ≡ length passes → length gates ≡ length passes
        → AllServed tells arrivals back faults (WorksSession disks dial left sent links) (Posts passes nets gates) posts → AllZip (HasAsked disks log.origin) passes (map (λ (post : Post G (WorkerView D N)). post.worker.seat.pass) posts)
    gates_asked passes nets gates posts many same served = all_asked passes nets gates posts many same served.0 served.1

-- Passes at gates, and what their works come to.
use Rattle.std.proofs.Common.{◌≡◌, ℕ, suc, ◌<◌, inl, refl, sym, ap, ◌∙◌, append_assoc, arith, List, [], ◌∷◌, ◌++◌, length, map, slice_index_or, Option}
use Rattle.std.specs.Prelude.{reverse}
use Rattle.std.specs.List.{AllZip}
use Rattle.std.proofs.lemmas.List.{reverse-append}
use Rattle.disk_model.specs.declared.disk.Disk.{Ghosts}
use Rattle.delta_base.specs.declared.link.Link.{Ghosts as LinkGhosts}
use Rattle.delta_client.specs.declared.dial.Dial.{Ghosts as DialGhosts}
use Rattle.turn_cell.specs.Sights.{Made}
use Rattle.turn_cell.specs.Turns.{AllOf}
use Rattle.worker_pool.specs.Works.{AllServed, Served, Works as AreWorked}
use Rattle.worker_pool.specs.declared.gate.Arrival.{Arrival}
use Rattle.worker_pool.specs.declared.pool.Post.{Post}
use Rattle.gate_crews.specs.Crews.{posts_of, workers_at}
use Rattle.shared_zone.specs.History.{SharedZone, ZoneSight}
use Rattle.zone_session.specs.Laws.{SessionsAreServed}
use Rattle.zone_session.specs.Sessions.{StillOrOn, WorkerView, WorksSession}
use Rattle.zone_session.specs.Working.{workers_of}
use Rattle.zone_session.proofs.Served.{still_or_both}

module _ {A : Type 0} (P : A → Type 0) where
  pub all_but_last : (xs : List A) (x : A) → AllOf P (xs ++ x ∷ []) → AllOf P xs
  all_but_last [] x all = tt
  all_but_last (y ∷ xs) x all = (all.0, all_but_last xs x all.1)

  pub the_last : (xs : List A) (x : A) → AllOf P (xs ++ x ∷ []) → P x
  the_last [] x all = all.0
  the_last (y ∷ xs) x all = the_last xs x all.1

module _ {D N : Type 0} (hall : Made (SharedZone D)) (address name : List ℕ) where
  abbrev pub worker_of : ZoneSight → N → WorkerView D N
  worker_of pass net = record { hall = hall; address = address; name = name; seat = record { pass = pass; net = net } }

  abbrev Workers : List ZoneSight → List N → List (WorkerView D N)
  Workers = workers_of hall address name

  workers_more : (passes : List ZoneSight) (nets : List N) (pass : ZoneSight) (net : N) → length passes ≡ length nets → Workers (passes ++ pass ∷ []) (nets ++ net ∷ []) ≡ Workers passes nets ++ worker_of pass net ∷ []
  workers_more [] [] pass net same = refl
  workers_more [] (y ∷ nets) pass net same = absurd (omega (arith, same))
  workers_more (x ∷ passes) [] pass net same = absurd (omega (arith, same))
  workers_more (x ∷ passes) (y ∷ nets) pass net same = ap (λ (l : List (WorkerView D N)). worker_of x y ∷ l) (workers_more passes nets pass net (omega (arith, same)))

  -- the worker of the last pass stands behind the others in reverse
  pub workers_one : (all : List (WorkerView D N)) (passes rest : List ZoneSight) (nets others : List N) (workers : List (WorkerView D N)) (pass : ZoneSight) (net : N) → all ≡ Workers passes nets ++ reverse workers → passes ≡ rest ++ pass ∷ []
      → nets ≡ others ++ net ∷ [] → length rest ≡ length others → all ≡ Workers rest others ++ reverse (workers ++ worker_of pass net ∷ [])
  workers_one all passes rest nets others workers pass net is popped taken same =
      is ∙ (λ i. Workers (popped i) (taken i) ++ reverse workers) ∙ ap (λ (l : List (WorkerView D N)). l ++ reverse workers) (workers_more rest others pass net same)
      ∙ append_assoc (Workers rest others) (worker_of pass net ∷ []) (reverse workers) ∙ ap (λ (l : List (WorkerView D N)). Workers rest others ++ l) (sym (reverse-append workers (worker_of pass net ∷ [])))

  -- as many workers as passes, each with its own
  pub as_many_workers : (passes : List ZoneSight) (nets : List N) → length nets ≡ length passes → length (Workers passes nets) ≡ length passes
  as_many_workers [] nets same = refl
  as_many_workers (x ∷ passes) [] same = absurd (omega (arith, same))
  as_many_workers (x ∷ passes) (y ∷ nets) same = ap (λ (n : ℕ). suc n) (as_many_workers passes nets (omega (arith, same)))

  pub passes_again : (passes : List ZoneSight) (nets : List N) → length nets ≡ length passes → map (λ (worker : WorkerView D N). worker.seat.pass) (Workers passes nets) ≡ passes
  passes_again [] nets same = refl
  passes_again (x ∷ passes) [] same = absurd (omega (arith, same))
  passes_again (x ∷ passes) (y ∷ nets) same = ap (λ (l : List ZoneSight). x ∷ l) (passes_again passes nets (omega (arith, same)))

-- the passes of the workers at their posts
pub passes_at : {D N G : Type 0} (posts : List (Post G (WorkerView D N))) → map (λ (worker : WorkerView D N). worker.seat.pass) (workers_at posts) ≡ map (λ (post : Post G (WorkerView D N)). post.worker.seat.pass) posts
passes_at [] = refl
passes_at (z ∷ posts) = ap (λ (l : List ZoneSight). z.worker.seat.pass ∷ l) (passes_at posts)

module _ {D N C L : Type 0} (disks : Ghosts D) (dial : DialGhosts N C) (left sent : C → Option (List ℕ)) (links : LinkGhosts L) (law : SessionsAreServed disks dial left sent) where
  -- works one after another leave the pass as it was, or it sees on
  works_go : (first last : WorkerView D N) (arrivals : List (Arrival L)) (behind : List L) → AreWorked (WorksSession disks dial left sent links) first arrivals last behind → StillOrOn first.seat.pass last.seat.pass
  works_go first last [] [] same = inl (ap (λ (w : WorkerView D N). w.seat.pass) same)
  works_go first last [] (link ∷ behind) worked = absurd worked
  works_go first last (arrival ∷ arrivals) [] worked = absurd worked
  works_go first last (arrival ∷ arrivals) (link ∷ behind) worked =
      let next : WorkerView D N = worked.0 in
      let talks = worked.1.4.talks.4 in
      let one = law first.hall.origin first.address first.name first.seat next.seat talks.exchanges talks.answered in
      still_or_both first.seat.pass next.seat.pass last.seat.pass one.sees (works_go next last arrivals behind worked.2)

  module _ {G : Type 0} (tells : Type 0) (arrivals : G → List (Arrival L)) (back : G → List L) (faults : G → ℕ) (hall : Made (SharedZone D)) (address name : List ℕ) where
    abbrev Posts : List ZoneSight → List N → List G → List (Post G (WorkerView D N))
    Posts passes nets gates = posts_of (workers_of hall address name passes nets) gates

    all_gone : (passes : List ZoneSight) (nets : List N) (gates : List G) (posts : List (Post G (WorkerView D N))) → length nets ≡ length passes → length gates ≡ length passes → length posts ≡ length (Posts passes nets gates)
        → ((k : ℕ) (d : Post G (WorkerView D N)) → k < length (Posts passes nets gates) → Served tells arrivals back faults (WorksSession disks dial left sent links) (slice_index_or (Posts passes nets gates) k d) (slice_index_or posts k d))
        → AllZip StillOrOn passes (map (λ (post : Post G (WorkerView D N)). post.worker.seat.pass) posts)
    all_gone [] nets gates [] many same count each = tt
    all_gone [] nets gates (z ∷ posts) many same count each = absurd (omega (arith, count))
    all_gone (x ∷ passes) [] gates posts many same count each = absurd (omega (arith, many))
    all_gone (x ∷ passes) (w ∷ nets) [] posts many same count each = absurd (omega (arith, same))
    all_gone (x ∷ passes) (w ∷ nets) (y ∷ gates) [] many same count each = absurd (omega (arith, count))
    all_gone (x ∷ passes) (w ∷ nets) (y ∷ gates) (z ∷ posts) many same count each =
        let one = (each 0 z (omega arith)).serves in (
          works_go (worker_of hall address name x w) z.worker one.taken one.links one.worked,
          all_gone passes nets gates posts (omega (arith, many)) (omega (arith, same)) (omega (arith, count)) (λ k d low. each (suc k) d (omega (arith, low))),
        )

    pub gates_gone : (passes : List ZoneSight) (nets : List N) (gates : List G) (posts : List (Post G (WorkerView D N))) → length nets ≡ length passes → length gates ≡ length passes
        → AllServed tells arrivals back faults (WorksSession disks dial left sent links) (Posts passes nets gates) posts → AllZip StillOrOn passes (map (λ (post : Post G (WorkerView D N)). post.worker.seat.pass) posts)
    gates_gone passes nets gates posts many same served = all_gone passes nets gates posts many same served.0 served.1

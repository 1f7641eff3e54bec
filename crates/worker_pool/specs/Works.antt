-- What becomes of the connections of a gate, and of the worker who serves them.
use Rattle.std.specs.Prelude.{◌≡◌, ◌⊎◌, ℕ, ◌<◌, ◌≤◌, List, [], ◌∷◌, ◌++◌, length, slice_index_or}
use Rattle.delta_base.specs.Outside.{Rose}
use Rattle.worker_pool.specs.declared.gate.Arrival.{Arrival}
use Rattle.worker_pool.specs.declared.pool.Post.{Post}

-- The arrivals are worked one after another. The first work begins with this worker, each later one
-- with the worker that the one before left, and the last one leaves this worker; each leaves its
-- link so.
abbrev pub Works : {W L : Type 0} → (W → L → ℕ → W → L → Type 0) → W
    → List (Arrival L) → W → List L → Type 0
Works works first [] last [] = last ≡ first
Works {W} works first (arrival ∷ arrivals) last (link ∷ links) =
    (next : W) × works first arrival.link arrival.dice next link
    × Works works next arrivals last links
Works works first [] last (link ∷ links) = ⊥
Works works first (arrival ∷ arrivals) last [] = ⊥

module _ {G W L : Type 0} (tells : Type 0) (arrivals : G → List (Arrival L)) (back : G → List L)
    (faults : G → ℕ) (works : W → L → ℕ → W → L → Type 0) where
  -- A post before and behind some of its works: as many of the gate's arrivals were taken and
  -- worked in their order, and each link was put back as its work left it.
  pub record Serves (before after : Post G W) : Type 0 where
    pub taken : List (Arrival L)
    pub links : List L
    pub worked : Works works before.worker taken after.worker links
    pub from : tells → arrivals before.gate ≡ taken ++ arrivals after.gate
    pub to : tells → back after.gate ≡ back before.gate ++ links
    pub never_falls : faults before.gate ≤ faults after.gate

  -- a post before and behind its service: the gate then has no arrival left, or it failed
  pub record Served (before after : Post G W) : Type 0 where
    pub serves : Serves before after
    pub cause :
        (tells × (arrivals after.gate ≡ [])) ⊎ Rose (faults before.gate) (faults after.gate)

  -- each post in its place
  abbrev pub AllServed : List (Post G W) → List (Post G W) → Type 0
  AllServed before after =
      (length after ≡ length before)
      × ((k : ℕ) (d : Post G W) → k < length before
      → Served (slice_index_or before k d) (slice_index_or after k d))

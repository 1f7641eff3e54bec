-- How contracts see a dial in memory.
use Rattle.std.specs.Prelude.{ℕ, List}

-- The links to come, the addresses of the connections made, the links hung up, how many more can
-- be, which calls of `connect` fail, how many were made, and how many calls failed.
pub record DialState (L : Type 0) : Type 0 where
  pub to_come : List L
  pub addresses : List (List ℕ)
  pub back : List L
  pub room : ℕ
  pub failing : List ℕ
  pub calls : ℕ
  pub faults : ℕ

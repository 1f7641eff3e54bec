-- Calls of one pass on a shared value: which are legal one after another, and what many come to.
use Rattle.std.specs.Prelude.{◌≡◌, ℕ, ◌+◌, ◌≤◌, List, [], ◌∷◌, ◌++◌, length, Bool}
use Rattle.std.specs.Prelude.{Option, Some, None, if◌then◌else◌}
use Rattle.std.specs.List.{flat_map}
use mathlib.Core.List.{IsPrefix}
use Rattle.delta_base.specs.Outside.{RoseBy}
use Rattle.turn_cell.specs.Sights.{Sight}
use Rattle.turn_cell.specs.Knowing.{IsSame, IsQuiet, Wants, seen_of, mine_of, failed_of}
use Rattle.turn_cell.specs.Knowing.{own_faults_of, looks_of}

-- A call with its reply, or without one where memory ran out; the places of the entries that it
-- brought, in their order; and what it left as a new doubt, which is none or one.
pub record CallMade (Call Reply X : Type 0) : Type 0 where
  pub call : Call
  pub reply : Option Reply
  pub brought : List ℕ
  pub doubted : List X

module _ {C X F Call Reply : Type 0} (Legal : Sight C X F → Call → Reply → Sight C X F → Type 0)
    (MayWant : Call → Type 0) where
  -- the reply is legal; only a call that takes memory goes without one
  abbrev pub IsReplied : Sight C X F → Call → Option Reply → Sight C X F → Type 0
  IsReplied p call (Some reply) q = Legal p call reply q
  IsReplied p call None q = MayWant call × Wants p q

  -- one legal call, with what it brought and left in doubt
  pub record IsCalled (p : Sight C X F) (made : CallMade Call Reply X)
      (q : Sight C X F) : Type 0 where
    pub replied : IsReplied p made.call made.reply q
    pub mine : mine_of q ≡ mine_of p ++ made.brought
    pub failed : failed_of q ≡ failed_of p ++ made.doubted

  -- legal calls one after another
  abbrev pub AreCalled : Sight C X F → List (CallMade Call Reply X) → Sight C X F → Type 0
  AreCalled p [] q = q ≡ p
  AreCalled p (made ∷ more) q =
      (next : Sight C X F) × IsCalled p made next × AreCalled next more q

module _ {Reply : Type 0} (is_fault : Reply → Bool) where
  -- 1 where the reply tells a fault of the outside
  abbrev pub faults_told : Option Reply → ℕ
  faults_told (Some reply) = if is_fault reply then 1 else 0
  faults_told None = 0

  -- how many of the calls were told of a fault
  abbrev pub faulted_by : {Call X : Type 0} → List (CallMade Call Reply X) → ℕ
  faulted_by [] = 0
  faulted_by (made ∷ more) = faults_told made.reply + faulted_by more

module _ {Call Reply X : Type 0} where
  -- the places of the entries that calls brought, in their order
  abbrev pub brought_by : List (CallMade Call Reply X) → List ℕ
  brought_by calls = flat_map (λ made. made.brought) calls

  -- what calls left as new doubts, in their order
  abbrev pub doubted_by : List (CallMade Call Reply X) → List X
  doubted_by calls = flat_map (λ made. made.doubted) calls

  -- It is the same pass, and knows all that it knew. It looked at least once in each call. Its own
  -- places grew by just those that the calls brought, and what it failed by just what they left in
  -- doubt; its own faults rose by at least as many as were told.
  pub record AddsUp (is_fault : Reply → Bool) {C F : Type 0} (p : Sight C X F)
      (calls : List (CallMade Call Reply X)) (q : Sight C X F) : Type 0 where
    pub same : IsSame p q
    pub seen : IsPrefix (seen_of p) (seen_of q)
    pub looks : looks_of p + length calls ≤ looks_of q
    pub mine : mine_of q ≡ mine_of p ++ brought_by calls
    pub failed : failed_of q ≡ failed_of p ++ doubted_by calls
    pub faults : RoseBy (faulted_by is_fault calls) (own_faults_of p) (own_faults_of q)
    pub never_fall : own_faults_of p ≤ own_faults_of q
    -- where no call brought an entry and none was told of a fault, it did nothing but look
    pub quiet : brought_by calls ≡ [] → faulted_by is_fault calls ≡ 0 → IsQuiet p q

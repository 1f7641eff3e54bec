-- What stands in front of a text.
use Rattle.std.specs.Prelude.{◌≡◌, ℕ, List, ◌++◌, length}
use Rattle.std.specs.List.{All, flat_map}
use Rattle.std.specs.List.Sorted.{IsStrictlySortedBy}
use Rattle.std.specs.Ordering.{nat_cmp}
use Rattle.std.specs.declared.cmp.Ordering.{Ordering}
use Rattle.std.specs.declared.cmp.Ordering.TheVariants.{Less}
use Rattle.std.specs.Cmp.Lexicographic.{slice_cmp}

-- the text of an item stands in front, and this behind it
pub record IsInFront {X : Type 0} (show : X → List ℕ) (Is : X → Type 0) (text : List ℕ) (item : X)
    (rest : List ℕ) : Type 0 where
  pub is : Is item
  pub parts : text ≡ show item ++ rest

-- no item's text stands in front
abbrev pub NoneInFront : {X : Type 0} → (X → List ℕ) → (X → Type 0) → List ℕ → Type 0
NoneInFront {X} show Is text = (item : X) (rest : List ℕ) → IsInFront show Is text item rest → ⊥

-- no other item's text stands in front
abbrev pub OnlyInFront : {X : Type 0} → (X → List ℕ) → (X → Type 0) → List ℕ → X → Type 0
OnlyInFront {X} show Is text only =
    (item : X) (rest : List ℕ) → IsInFront show Is text item rest → item ≡ only

-- the texts of so many items stand in front, one after another, and this behind them
pub record AreInFront {X : Type 0} (show : X → List ℕ) (Is : X → Type 0) (count : ℕ)
    (text : List ℕ) (items : List X) (rest : List ℕ) : Type 0 where
  pub are : All Is items
  pub many : length items ≡ count
  pub parts : text ≡ flat_map show items ++ rest

-- items by the bytes of their texts
abbrev pub shown_cmp : {X : Type 0} → (X → List ℕ) → X → X → Ordering
shown_cmp show a b = slice_cmp nat_cmp (show a) (show b)

-- such an item, whose text comes behind this one in the order of bytes
abbrev pub IsPast : {X : Type 0} → (X → List ℕ) → (X → Type 0) → List ℕ → X → Type 0
IsPast show Is last item = Is item × (slice_cmp nat_cmp last (show item) ≡ Less)

-- they stand there in the order of their bytes, each once
pub record RiseInFront {X : Type 0} (show : X → List ℕ) (Is : X → Type 0) (count : ℕ)
    (text : List ℕ) (items : List X) (rest : List ℕ) : Type 0 where
  pub front : AreInFront show Is count text items rest
  pub rising : IsStrictlySortedBy (shown_cmp show) items

-- The words that ask a server to serve.
use Rattle.std.specs.Prelude.{◌≡◌, ℕ, ◌≤◌, List, [], ◌∷◌, codes}
use Rattle.std.specs.Fmt.{decimal}
use Rattle.command_tables.specs.Positions.{IsPlainWord}
use Rattle.command_tables.specs.Addresses.{IsAddress}
use Rattle.command_tables.specs.Names.{BeginsWith}
use Rattle.command_tables.specs.declared.name.Name.TheVariants as names
use Rattle.command_tables.specs.declared.refusal.Refusal.{Refusal}
use Rattle.command_tables.specs.declared.refusal.Refusal.TheVariants as refusals

-- The words ask for a server of this directory's files at this address, with so many workers. The
-- number is decimal, without sign and leading zeros; no word behind the first begins with `-`.
abbrev pub AsksToServe : List (List ℕ) → List ℕ → List ℕ → ℕ → Type 0
AsksToServe words dir address workers =
    (words ≡ codes "serve" ∷ dir ∷ address ∷ decimal workers ∷ [])
    × IsPlainWord dir × IsPlainWord address × IsAddress address × (1 ≤ workers) × (workers ≤ 16)

-- why words ask for no server; want of memory is free
abbrev pub RefusesToServe : List (List ℕ) → Refusal → Type 0
RefusesToServe words refusals.UnknownCommand = BeginsWith words names.Serve → ⊥
RefusesToServe words (refusals.Usage name) =
    (name ≡ names.Serve) × BeginsWith words names.Serve
    × ((dir address : List ℕ) (workers : ℕ) → AsksToServe words dir address workers → ⊥)
RefusesToServe words refusals.OutOfMemory = Unit {0}
RefusesToServe words other = ⊥

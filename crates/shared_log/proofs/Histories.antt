-- Histories and the chains that they are of.
use Rattle.std.proofs.Common.{◌≡◌, ℕ, zero, suc, List, [], ◌∷◌, ◌++◌, length, refl, ap}
use Rattle.std.specs.List.{AllByRecursion}
use Rattle.std.proofs.lemmas.List.{map-append, length-map}
use Rattle.chain_core.specs.declared.chain.Patch.{Patch}
use Rattle.chain_core.specs.declared.chain.Entry.{Entry}
use Rattle.chain_core.specs.Patches.{patches_of}
use Rattle.chain_core.specs.Runs.{AreWhole, GoesOn, entries_of}
use Rattle.turn_cell.specs.declared.view.Known.{Known}
use Rattle.turn_cell.specs.Turns.{AllOf}
use Rattle.shared_log.specs.declared.value.Placed.{Placed}
use Rattle.shared_log.specs.History.{entry_of, history_of, patches_known, KnowsWhole}

pub known_chain : (entries : List Entry) → patches_known (history_of entries) ≡ patches_of entries
known_chain [] = refl
known_chain (entry ∷ entries) = ap (λ (patches : List Patch). entry.patch ∷ patches) (known_chain entries)

pub history_length : (entries : List Entry) → length (history_of entries) ≡ length entries
history_length entries = length-map entries entry_of

pub history_push : (entries : List Entry) (run : List Patch) (by : ℕ) → history_of (entries ++ entries_of run by) ≡ history_of entries ++ history_of (entries_of run by)
history_push entries run by = map-append entry_of entries (entries_of run by)

-- entries brought by nobody are so in the history
pub by_nobody : (entries : List Entry) → AllByRecursion (λ (entry : Entry). entry.by ≡ 0) entries → AllOf (λ (known : Known Placed). known.by ≡ 0) (history_of entries)
by_nobody [] all = tt
by_nobody (entry ∷ entries) all = (all.0, by_nobody entries all.1)

-- the entries of a run are all of its pass
pub run_by : (run : List Patch) (by : ℕ) → AllOf (λ (known : Known Placed). known.by ≡ by) (history_of (entries_of run by))
run_by [] by = tt
run_by (patch ∷ run) by = (refl, run_by run by)

-- whole entries are so in the history
abbrev by_known : Known Placed → ℕ
by_known known = known.by

abbrev rest_known : Known Placed → ℕ
rest_known known = known.content.rest

goes_known : (rest by : ℕ) (entries : List Entry) → GoesOn (λ (entry : Entry). entry.by) (λ (entry : Entry). entry.rest) rest by entries → GoesOn by_known rest_known rest by (history_of entries)
goes_known zero by entries on = tt
goes_known (suc rest) by [] on = absurd on
goes_known (suc rest) by (next ∷ entries) on = on

pub whole_known : (entries : List Entry) → AreWhole entries → KnowsWhole (history_of entries)
whole_known [] whole = tt
whole_known (entry ∷ entries) whole = (goes_known entry.rest entry.by entries whole.0, whole_known entries whole.1)

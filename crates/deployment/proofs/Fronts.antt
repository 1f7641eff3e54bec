-- Histories and their patches.
use Rattle.std.proofs.Common.{◌≡◌, ◌⊎◌, inl, inr, ℕ, zero, suc, ◌<◌, List, [], ◌∷◌, ◌++◌, length, refl, sym, ◌∙◌, ap, arith}
use Rattle.std.proofs.lemmas.List.{map-append}
use mathlib.Core.List.{IsPrefix}
use Rattle.chain_core.specs.declared.chain.Patch.{Patch}
use Rattle.chain_core.specs.declared.chain.Entry.{Entry}
use Rattle.chain_core.specs.Patches.{patches_of}
use Rattle.chain_core.specs.Runs.{AreWhole, GoesOn, before_runs, runs_of, patches_in}
use Rattle.chain_core.proofs.Runs.{patches_in-runs}
use Rattle.turn_cell.specs.declared.view.Known.{Known}
use Rattle.shared_log.specs.declared.value.Placed.{Placed}
use Rattle.shared_log.specs.History.{patches_known, history_of, entries_known, KnowsWhole}
use Rattle.shared_log.proofs.Turns.{known_entries}
use Rattle.world_core.proofs.Growing.{GrowsTo}

-- the patches of a history that goes on go on
pub patches_go_on : (before after : List (Known Placed)) → IsPrefix before after → GrowsTo (patches_known before) (patches_known after)
patches_go_on before after goes_on =
    (patches_known goes_on.0, ap patches_known (sym goes_on.1) ∙ map-append (λ (known : Known Placed). known.content.patch) before goes_on.0)

-- ---- runs of whole entries

abbrev by_entry : Entry → ℕ
by_entry entry = entry.by

abbrev rest_entry : Entry → ℕ
rest_entry entry = entry.rest

before-append : (rest : ℕ) (patch : Patch) (runs more : List (List Patch)) → (rest ≡ 0) ⊎ (0 < length runs) → before_runs rest patch (runs ++ more) ≡ before_runs rest patch runs ++ more
before-append zero patch runs more some = refl
before-append (suc rest) patch [] more (inl none) = absurd (cc)
before-append (suc rest) patch [] more (inr some) = absurd (omega (arith, some))
before-append (suc rest) patch (run ∷ runs) more some = refl

before-some : (rest : ℕ) (patch : Patch) (runs : List (List Patch)) → 0 < length (before_runs rest patch runs)
before-some zero patch runs = omega arith
before-some (suc rest) patch [] = omega arith
before-some (suc rest) patch (run ∷ runs) = omega arith

not_last : (rest by : ℕ) (entries : List Entry) → GoesOn by_entry rest_entry rest by entries → (rest ≡ 0) ⊎ (0 < length (runs_of entries))
not_last zero by entries on = inl refl
not_last (suc rest) by [] on = absurd on
not_last (suc rest) by (next ∷ entries) on = inr (before-some next.rest next.patch (runs_of entries))

-- whole entries are cut into runs by themselves
pub runs_of-append : (front more : List Entry) → AreWhole front → runs_of (front ++ more) ≡ runs_of front ++ runs_of more
runs_of-append [] more whole = refl
runs_of-append (entry ∷ front) more whole =
    ap (before_runs entry.rest entry.patch) (runs_of-append front more whole.1) ∙ before-append entry.rest entry.patch (runs_of front) (runs_of more) (not_last entry.rest entry.by front whole.0)

goes_entries : (rest by : ℕ) (history : List (Known Placed)) → GoesOn (λ (known : Known Placed). known.by) (λ (known : Known Placed). known.content.rest) rest by history → GoesOn by_entry rest_entry rest by (entries_known history)
goes_entries zero by history on = tt
goes_entries (suc rest) by [] on = absurd on
goes_entries (suc rest) by (next ∷ history) on = on

pub whole_entries : (history : List (Known Placed)) → KnowsWhole history → AreWhole (entries_known history)
whole_entries [] whole = tt
whole_entries (known ∷ history) whole = (goes_entries known.content.rest known.by history whole.0, whole_entries history whole.1)

pub known_patches : (history : List (Known Placed)) → patches_of (entries_known history) ≡ patches_known history
known_patches [] = refl
known_patches (known ∷ history) = ap (λ (patches : List Patch). known.content.patch ∷ patches) (known_patches history)

-- the runs of a history
abbrev pub runs_known : List (Known Placed) → List (List Patch)
runs_known history = runs_of (entries_known history)

pub runs_patches : (history : List (Known Placed)) → patches_known history ≡ patches_in (runs_known history)
runs_patches history = sym (patches_in-runs (entries_known history) ∙ known_patches history)

-- where whole entries begin others, so do their runs
pub runs_grow : (history : List (Known Placed)) (entries : List Entry) → KnowsWhole history → IsPrefix history (history_of entries) → GrowsTo (runs_known history) (runs_of entries)
runs_grow history entries whole begins =
    let parts : entries ≡ entries_known history ++ entries_known begins.0 =
    sym (known_entries entries) ∙ ap entries_known (sym begins.1) ∙ map-append (λ (known : Known Placed). let entry : Entry = record { patch = known.content.patch; by = known.by; rest = known.content.rest } in entry) history begins.0 in
    (runs_of (entries_known begins.0), ap runs_of parts ∙ runs_of-append (entries_known history) (entries_known begins.0) (whole_entries history whole))

-- ---- prefixes

pub as_prefix : {A : Type 0} (front whole : List A) → GrowsTo front whole → IsPrefix front whole
as_prefix front whole grows = (grows.0, sym grows.1)

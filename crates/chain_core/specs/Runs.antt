-- Runs: patches that are accepted all or none and written as one payload.
use Rattle.std.specs.Prelude.{◌≡◌, ℕ, zero, suc, ◌<◌, List, [], ◌∷◌, ◌++◌, length, map}
use Rattle.std.specs.Prelude.{Option, None}
use Rattle.delta_base.specs.declared.id.Id.{Id}
use Rattle.log_base.specs.Journals.{payloads_length}
use Rattle.chain_core.specs.declared.chain.Patch.{Patch}
use Rattle.chain_core.specs.declared.chain.Entry.{Entry}
use Rattle.log_base.specs.declared.chain_link.ChainLink.{ChainLink}
use Rattle.chain_core.specs.Links.{IsChain}
use Rattle.chain_core.specs.Patches.{links_of}

-- ---- what a run is

-- the links, of which the first one names nothing
abbrev pub headless : List ChainLink → List ChainLink
headless [] = []
headless (l ∷ ls) = record { id = l.id; prev = None } ∷ ls

-- there is one at least, each later one names the one before it, and all ids differ
pub record IsRun (run : List Patch) : Type 0 where
  pub some : 0 < length run
  pub chain : IsChain (headless (links_of run))

-- what the first one names as the one before it
abbrev pub prev_of_run : List Patch → Option Id
prev_of_run [] = None
prev_of_run (patch ∷ run) = patch.prev

-- the text of a run: those of its patches, one behind another
abbrev pub run_text : List Patch → List ℕ
run_text [] = []
run_text (patch ∷ []) = patch.text
run_text (patch ∷ (next ∷ run)) = patch.text ++ run_text (next ∷ run)

-- what was sent, as a patch, by what is read of it
abbrev pub sent_as : {S : Type 0} → (S → ChainLink) → (S → List ℕ) → S → Patch
sent_as link_of text_of sent =
    let link = link_of sent in
    record { id = link.id; prev = link.prev; text = text_of sent }

abbrev pub patches_sent : {S : Type 0} → (S → ChainLink) → (S → List ℕ) → List S → List Patch
patches_sent link_of text_of run = map (sent_as link_of text_of) run

-- ---- the runs of a log

-- the patches of runs, one behind another
abbrev pub patches_in : List (List Patch) → List Patch
patches_in [] = []
patches_in (run ∷ runs) = run ++ patches_in runs

-- a payload for each run, its text
abbrev pub run_texts : List (List Patch) → List (List ℕ)
run_texts runs = map run_text runs

-- the length of the file: each run has one frame
abbrev pub file_length : List (List Patch) → ℕ
file_length runs = payloads_length (run_texts runs)

-- ---- what entries say of runs

-- the entries of a run that one pass brings; each says how many of it stand behind
abbrev pub entries_of : List Patch → ℕ → List Entry
entries_of [] by = []
entries_of (patch ∷ run) by =
    record { patch = patch; by = by; rest = length run } ∷ entries_of run by

module _ {T : Type 0} (by_of rest_of : T → ℕ) where
  -- where some of a run are behind it, the next one is of that pass and has one less behind it
  abbrev pub GoesOn : ℕ → ℕ → List T → Type 0
  GoesOn zero by items = Unit {0}
  GoesOn (suc rest) by [] = ⊥
  GoesOn (suc rest) by (next ∷ items) = (by_of next ≡ by) × (rest_of next ≡ rest)

  -- each run stands whole, at places that follow each other
  abbrev pub StandWhole : List T → Type 0
  StandWhole [] = Unit {0}
  StandWhole (item ∷ items) = GoesOn (rest_of item) (by_of item) items × StandWhole items

abbrev pub AreWhole : List Entry → Type 0
AreWhole entries = StandWhole (λ (entry : Entry). entry.by) (λ (entry : Entry). entry.rest) entries

-- a patch before these runs: by itself, or as the first of the one that goes on where some of its
-- run are behind it
abbrev pub before_runs : ℕ → Patch → List (List Patch) → List (List Patch)
before_runs zero patch runs = (patch ∷ []) ∷ runs
before_runs (suc rest) patch [] = (patch ∷ []) ∷ []
before_runs (suc rest) patch (run ∷ runs) = (patch ∷ run) ∷ runs

-- the runs that entries are: one ends with each entry that has none behind it
abbrev pub runs_of : List Entry → List (List Patch)
runs_of [] = []
runs_of (entry ∷ entries) = before_runs entry.rest entry.patch (runs_of entries)

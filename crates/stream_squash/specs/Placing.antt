-- A stream of which some rows were taken, while its patches are placed and their chain is tested.
use Rattle.std.specs.Prelude.{◌≡◌, ℕ, ◌<◌, ◌≤◌, List, ◌++◌, map, length, Option, None, Some}
use Rattle.std.specs.Prelude.{Result, Ok, Err}
use Rattle.chain_core.specs.Breaks.{Breaks}
use Rattle.chain_core.specs.Tested.{IsTested}
use Rattle.chain_core.specs.declared.testing.ChainFault.{ChainFault}
use Rattle.chain_core.specs.declared.testing.ChainTest.{ChainTest}
use Rattle.log_base.specs.declared.chain_link.ChainLink.{ChainLink}
use Rattle.patch_meaning.specs.Checked.{CheckedPatch, meanings}
use Rattle.patch_meaning.specs.Cutting.{HasCut, RefusesStream}
use Rattle.patch_meaning.specs.Next.{IsNextRow}
use Rattle.patch_meaning.specs.Replay.{links_said}
use Rattle.patch_meaning.specs.Stream.{IsSplit, linked}
use Rattle.patch_meaning.specs.declared.fault.PatchFault.{PatchFault}
use Rattle.patch_meaning.specs.declared.part.Part.{Part}
use Rattle.patch_meaning.specs.declared.rows.Next.{Next}
use Rattle.patch_meaning.specs.declared.stream.Cutting.{Cutting}
use Rattle.patch_meaning.specs.declared.stream.Linked.{Linked}
use Rattle.patch_reader.specs.Rows.{Gap}
use Rattle.row_scan.specs.Rows.{HasRow}
use Rattle.row_scan.specs.declared.row.ScannedRow.{ScannedRow}
use Rattle.stream_squash.specs.declared.placing.Chained.{Chained}
use Rattle.stream_squash.specs.declared.placing.NextRow.{NextRow}
use Rattle.stream_squash.specs.declared.placing.Placing.{Placing}

-- ids that were tested, or the first fault of their chain
abbrev pub AreTested : Option ChainFault → List ChainLink → ChainTest → Type 0
AreTested None ls t = IsTested ls t
AreTested (Some fault) ls t = (more : List ChainLink) → Breaks (ls ++ more) fault

-- of these patches the lengths are kept, and the chain
pub record KeepsPlaces (links : List Linked) (p : Placing) : Type 0 where
  pub lengths_are : p.lengths.items ≡ map (λ l. length l.text) links
  pub tested : AreTested p.broken (map (λ l. l.link) links) p.chain

-- patches that are complete, and the one that may go on
abbrev pub cutting : List Linked → Part → Cutting
cutting links part = record { patches = record { items = links; spare = 0 }; part = part }

-- the rows up to this place were cut into patches of which the lengths are kept
pub record HasPlaced (text : List ℕ) (at : ℕ) (p : Placing) : Type 0 where
  pub links : List Linked
  pub cut : HasCut text at (cutting links p.part)
  pub places : KeepsPlaces links p
  pub few : p.chain.version ≤ at

-- all rows were
abbrev pub HasPlacedAll : List ℕ → Placing → Type 0
HasPlacedAll text p = (at : ℕ) × HasPlaced text at p × Gap text at (length text)

-- the row as it is read
abbrev pub next_of : NextRow → Next
next_of row = record { role = row.role; at = row.at; end = row.end }

-- the rows up to some place were cut, and this is the next one
abbrev pub IsNextToPlace : List ℕ → NextRow → Placing → Type 0
IsNextToPlace text row p =
    (from : ℕ) × HasPlaced text from p × IsNextRow text from (next_of row)

-- the same of a row that the scan found at a place
abbrev pub IsFoundToPlace : List ℕ → ℕ → ScannedRow → Placing → Type 0
IsFoundToPlace text at found p =
    (from : ℕ) × HasPlaced text from p × Gap text from at × HasRow text at found

-- the next row, or none up to the text's end
abbrev pub IsRowOrEnd : List ℕ → ℕ → Option NextRow → Type 0
IsRowOrEnd text at None = Gap text at (length text)
IsRowOrEnd text at (Some row) = IsNextRow text at (next_of row)

-- The next row behind a place was taken, and this is the place behind it; or all were taken; or it
-- is the first fault of the text.
abbrev pub PlacesNext : List ℕ → ℕ → Placing → Result (Option ℕ) PatchFault → Type 0
PlacesNext text from p (Ok (Some end)) = (from < end) × HasPlaced text end p
PlacesNext text from p (Ok None) = HasPlacedAll text p
PlacesNext text from p (Err fault) = RefusesStream text fault

-- the text was split into patches, of which the lengths are kept
abbrev pub IsPlaced : List ℕ → Placing → Type 0
IsPlaced text p =
    (ps : List CheckedPatch) × IsSplit text ps × KeepsPlaces (map linked ps) p

-- the text is a stream of these patches, which are a chain
pub record HasChain (text : List ℕ) (ps : List CheckedPatch) (c : Chained) : Type 0 where
  pub split : IsSplit text ps
  pub lengths_are : c.lengths.items ≡ map (λ p. length p.text) ps
  pub tested : IsTested (links_said (meanings ps)) c.chain

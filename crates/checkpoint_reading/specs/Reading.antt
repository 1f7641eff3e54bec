-- What reading a checkpoint gives.
use Rattle.std.specs.Prelude.{◌≡◌, ◌↔◌, ℕ, List, [], ◌++◌, length, map, None, Result, Ok, Err}
use Rattle.std.specs.List.{concat, Contains}
use Rattle.std.specs.declared.cmp.Ordering.TheVariants.{Equal}
use Rattle.rdf_terms.specs.declared.change.Change.{Change}
use Rattle.rdf_terms.specs.declared.change.Change.TheVariants.{Add}
use Rattle.rdf_terms.specs.Dataset.{Dataset, apply, effects, empty, prefix_cmp}
use Rattle.rdf_terms.specs.Line.{line}
use Rattle.rdf_terms.specs.Quad.{Statement}
use Rattle.dataset_tx.specs.Held.{Held, AreMet}
use Rattle.dataset_tx.specs.Prefixes.{prefix_change}
use Rattle.checkpoint_line.specs.declared.first.FirstLine.{FirstLine}
use Rattle.checkpoint_text.specs.Brief.{Brief}
use Rattle.checkpoint_text.specs.Text.{Setting, prefix_rows, IsCheckpoint, IsDataset}
use Rattle.checkpoint_reading.specs.declared.checkpoint.Checkpoint.{Checkpoint}
use Rattle.checkpoint_reading.specs.declared.fault.CheckpointFault.{CheckpointFault}
use Rattle.checkpoint_reading.specs.declared.fault.CheckpointFault.TheVariants.{Broken, OutOfMemory}
use Rattle.checkpoint_reading.specs.declared.prefixes.PrefixSetting.{PrefixSetting}

-- the brief that was read
abbrev pub brief_read : Checkpoint → Brief
brief_read read = record {
  ids = read.ids.items;
  bytes = read.bytes;
  contents = read.contents.contents;
}

-- the checkpoint that the text is; it is broken where it is that of no generation and no brief
abbrev pub ReadsCheckpoint : List ℕ → Result Checkpoint CheckpointFault → Type 0
ReadsCheckpoint text (Ok read) = IsCheckpoint text read.generation (brief_read read)
ReadsCheckpoint text (Err Broken) =
    (generation : ℕ) (brief : Brief) → IsCheckpoint text generation brief → ⊥
ReadsCheckpoint text (Err OutOfMemory) = Unit {0}

-- changes that make the contents out of nothing, and have all terms that were met
pub record IsMadeBy (held : Held) (changes : List Change) : Type 0 where
  pub make : apply changes empty ≡ held.contents
  pub met : AreMet changes [] held.terms

abbrev pub IsOfChanges : Held → Type 0
IsOfChanges held = (changes : List Change) × IsMadeBy held changes

-- ---- prefixes

-- a prefix with its graph, and its IRI
abbrev pub set_by : PrefixSetting → Setting
set_by s = ((s.graph, s.prefix), s.iri)

-- no two of them set one prefix of one graph
abbrev pub HaveOneEach : List Setting → Type 0
HaveOneEach settings = (a b : Setting) → Contains settings a → Contains settings b
    → prefix_cmp a.0 b.0 ≡ Equal → a ≡ b

-- nothing but these prefixes is set
pub record HasSet (held : Held) (settings : List Setting) : Type 0 where
  pub staged : held.staged ≡ None
  pub contents : held.contents ≡ effects (map prefix_change settings) empty
  pub same : (s : Setting) → Contains held.contents.prefixes s ↔ Contains settings s
  pub no_quads : held.contents.quads ≡ []
  pub met : AreMet (map prefix_change settings) [] held.terms

-- ---- quads

-- these quads were added, and there was none before
pub record HasNewQuads (before after : Held) (quads : List Statement) : Type 0 where
  pub staged : after.staged ≡ None
  pub contents : after.contents ≡ effects (map Add quads) before.contents
  pub quads_are : after.contents.quads ≡ quads
  pub prefixes_are : after.contents.prefixes ≡ before.contents.prefixes
  pub met : AreMet (map Add quads) before.terms after.terms

-- ---- rows and lines

-- the text is the rows of the prefixes and the lines of the quads, as many as the first line says
pub record IsContentsOf (first : FirstLine) (text : List ℕ) (dataset : Dataset) : Type 0 where
  pub are : IsDataset dataset
  pub text_is : text ≡ concat (prefix_rows dataset) ++ concat (map line dataset.quads)
  pub prefixes : length (prefix_rows dataset) ≡ first.prefixes
  pub quads : length dataset.quads ≡ first.quads

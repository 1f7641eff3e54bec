-- The text of a checkpoint.
use Rattle.std.specs.Prelude.{◌≡◌, ℕ, ◌≤◌, List, [], ◌∷◌, ◌++◌, length, map}
use Rattle.std.specs.List.{concat, flat_map, All}
use Rattle.std.specs.List.Sorted.{IsStrictlySortedBy}
use Rattle.delta_base.specs.declared.id.Id.{Id}
use Rattle.delta_base.specs.Ids.{IsId, text_of}
use Rattle.rdf_terms.specs.Dataset.{Dataset, PrefixKey, prefix_cmp}
use Rattle.rdf_terms.specs.Line.{line, line_cmp}
use Rattle.patch_rows.specs.Printing.{IsChangeValue, IsWellPlaced}
use Rattle.nquads_documents.specs.Laws.{IsQuadValue}
use Rattle.dataset_tx.specs.Prefixes.{prefix_change}
use Rattle.dataset_tx.specs.Rows.{change_row, rows_in_order}
use Rattle.checkpoint_line.specs.declared.first.FirstLine.{FirstLine}
use Rattle.checkpoint_line.specs.First.{first_line, AreCounts}
use Rattle.checkpoint_text.specs.Brief.{Brief}

-- an id, hyphenated in lower case, and a line feed
abbrev pub line_of_id : Id → List ℕ
line_of_id id = text_of id.0 ++ 10 ∷ []

-- it has 128 bits
abbrev pub IsIdValue : Id → Type 0
IsIdValue id = IsId id.0

-- the rows that set the prefixes of a dataset, in the order of their bytes
abbrev pub prefix_rows : Dataset → List (List ℕ)
prefix_rows dataset = rows_in_order (map prefix_change dataset.prefixes)

-- a first line, and behind it the ids, rows and lines
abbrev pub text_of_parts : FirstLine → List Id → List (List ℕ) → List (List ℕ) → List ℕ
text_of_parts first ids rows lines =
    first_line first ++ (flat_map line_of_id ids ++ (concat rows ++ concat lines))

-- what the first line of a checkpoint says
abbrev pub first_line_of : ℕ → Brief → FirstLine
first_line_of generation brief = record {
  generation = generation;
  patches = length brief.ids;
  bytes = brief.bytes;
  prefixes = length (prefix_rows brief.contents);
  quads = length brief.contents.quads;
}

-- the checkpoint of this generation and this brief
abbrev pub checkpoint : ℕ → Brief → List ℕ
checkpoint generation brief = text_of_parts (first_line_of generation brief) brief.ids
    (prefix_rows brief.contents) (map line brief.contents.quads)

-- a prefix with its graph, and its IRI
abbrev pub Setting : Type 0
Setting = PrefixKey × List ℕ

-- the row that sets it
abbrev pub setting_line : Setting → List ℕ
setting_line setting = change_row (prefix_change setting)

-- such that a row can set
abbrev pub IsSetting : Setting → Type 0
IsSetting setting = IsChangeValue (prefix_change setting) × IsWellPlaced (prefix_change setting)

-- the prefixes are such in their order
pub record ArePrefixes (prefixes : List Setting) : Type 0 where
  pub in_order : IsStrictlySortedBy prefix_cmp (map (λ setting. setting.0) prefixes)
  pub are : All IsSetting prefixes

-- the quads are such in the order of their lines, and the prefixes in theirs
pub record IsDataset (dataset : Dataset) : Type 0 where
  pub quads_in_order : IsStrictlySortedBy line_cmp dataset.quads
  pub quads_are : All IsQuadValue dataset.quads
  pub prefixes_are : ArePrefixes dataset.prefixes

-- how long the first line may be, so that it stands in what is read of a file's front
abbrev pub most_of_first : ℕ
most_of_first = 64

-- The text is the checkpoint of this generation and this brief: each number of its first line has
-- 64 bits, and the line stands in what is read of a file's front.
pub record IsCheckpoint (text : List ℕ) (generation : ℕ) (brief : Brief) : Type 0 where
  pub text_is : text ≡ checkpoint generation brief
  pub counts : AreCounts (first_line_of generation brief)
  pub in_front : length (first_line (first_line_of generation brief)) ≤ most_of_first
  pub ids_are : All IsIdValue brief.ids
  pub contents_are : IsDataset brief.contents

-- Prefixes by the bytes of their rows, and what they are to become.
use Rattle.std.specs.Prelude.{◌≡◌, ℕ, Bool, true, List, [], ◌∷◌, ◌++◌, Option, None, Some, Vec}
use Rattle.std.specs.declared.alloc.Global.{Global}
use Rattle.std.specs.Option.{unwrap_or, is_some}
use Rattle.std.specs.Ordering.{nat_cmp}
use Rattle.std.specs.declared.cmp.Ordering.{Ordering}
use Rattle.std.specs.Cmp.Lexicographic.{slice_cmp}
use Rattle.std.specs.List.{AllByRecursion, list_any}
use Rattle.std.specs.List.Sorted.{IsStrictlySortedBy}
use Rattle.std.specs.BTreeMap.{is_at, insert_entry}
use Rattle.std.specs.Map.{keys_of, lookup, remove_entry}
use Rattle.net_changes.specs.Values.{IsPrefixValue}
use Rattle.rdf_terms.specs.Dataset.{PrefixKey, prefix_cmp}
use Rattle.rdf_terms.specs.Line.{quoted, graph_text}
use Rattle.rdf_terms.specs.declared.change.Change.{Change}
use Rattle.rdf_terms.specs.declared.change.Change.TheVariants.{PrefixAdd}
use Rattle.dataset_tx.specs.declared.prefixes.PrefixEntry.{PrefixEntry}

-- the prefixes, and those that they are to become
pub record StagedPrefixes : Type 0 where
  pub contents : List (PrefixKey × List ℕ)
  pub next : List (PrefixKey × List ℕ)

-- the change that sets a prefix
abbrev pub prefix_change : PrefixKey × List ℕ → Change
prefix_change s = PrefixAdd s.0.1 s.1 s.0.0

-- whether a prefix of a graph is set
abbrev pub has_prefix : List (PrefixKey × List ℕ) → PrefixKey → Bool
has_prefix settings key = list_any (λ s. is_at (prefix_cmp key) s.0) settings

-- ---- rows

-- the bytes of a row, and what stands there, if anything does
abbrev pub RowBytes : Type 0
RowBytes = Vec ℕ Global

abbrev pub PrefixRow : Type 0
PrefixRow = RowBytes × Option PrefixEntry

abbrev pub bytes_cmp : List ℕ → RowBytes → Ordering
bytes_cmp bytes row = slice_cmp nat_cmp bytes row.items

abbrev pub row_cmp : RowBytes → RowBytes → Ordering
row_cmp a b = bytes_cmp a.items b

-- what rows have at some bytes
abbrev pub at_bytes : List ℕ → List PrefixRow → Option (Option PrefixEntry)
at_bytes bytes rows = lookup (is_at (bytes_cmp bytes)) rows

abbrev pub has_row : List PrefixRow → List ℕ → Bool
has_row rows bytes = is_some (at_bytes bytes rows)

-- the bytes of a prefix with its graph
abbrev pub row_bytes : PrefixKey → List ℕ
row_bytes key = quoted key.1 ++ graph_text key.0

-- something that stands at a row has its bytes, and is a prefix that a row can have
abbrev pub StandsAt : List ℕ → Option PrefixEntry → Type 0
StandsAt bytes None = Unit {0}
StandsAt bytes (Some entry) = (bytes ≡ row_bytes (entry.graph, entry.prefix))
    × IsPrefixValue (entry.graph, entry.prefix)

abbrev pub AreRows : List PrefixRow → Type 0
AreRows rows = AllByRecursion (λ row. StandsAt row.0.items row.1) rows

-- both are in the order of their bytes, and what is staged has its row
pub record AreStagedRows (rows staged : List PrefixRow) : Type 0 where
  pub stand : AreRows rows
  pub sorted : IsStrictlySortedBy row_cmp (keys_of rows)
  pub staged_stand : AreRows staged
  pub staged_sorted : IsStrictlySortedBy row_cmp (keys_of staged)
  pub in_rows : (row : RowBytes) → has_row staged row.items ≡ true → has_row rows row.items ≡ true

-- ---- what stands at rows

-- the prefix and its graph, and the IRI
abbrev pub setting : PrefixEntry → PrefixKey × List ℕ
setting entry = ((entry.graph, entry.prefix), entry.iri)

-- with what stands at a row, if anything does
abbrev pub with_entry : Option PrefixEntry → List (PrefixKey × List ℕ) → List (PrefixKey × List ℕ)
with_entry None settings = settings
with_entry (Some entry) settings = setting entry ∷ settings

-- what rows have by a reading of each
abbrev pub settings_by : (PrefixRow → Option PrefixEntry) → List PrefixRow
    → List (PrefixKey × List ℕ)
settings_by read [] = []
settings_by read (row ∷ rows) = with_entry (read row) (settings_by read rows)

abbrev pub settings : List PrefixRow → List (PrefixKey × List ℕ)
settings rows = settings_by (λ row. row.1) rows

-- what a row becomes: what is staged for it, or what stands there
abbrev pub becomes : List PrefixRow → PrefixRow → Option PrefixEntry
becomes staged row = unwrap_or (at_bytes row.0.items staged) row.1

abbrev pub next_settings : List PrefixRow → List PrefixRow → List (PrefixKey × List ℕ)
next_settings staged rows = settings_by (becomes staged) rows

-- the IRI of what stands at a row, if anything does
abbrev pub iri_in : Option (Option PrefixEntry) → Option (List ℕ)
iri_in None = None
iri_in (Some None) = None
iri_in (Some (Some entry)) = Some entry.iri

-- what is to stand at some bytes
abbrev pub standing : List PrefixRow → List PrefixRow → List ℕ → Option PrefixEntry
standing staged rows bytes =
    unwrap_or (at_bytes bytes staged) (unwrap_or (at_bytes bytes rows) None)

-- ---- what becomes of a row

-- an entry that is set again keeps its prefix and graph
abbrev pub set_to : PrefixKey → List ℕ → Option PrefixEntry → PrefixEntry
set_to key iri None = record { prefix = key.1; iri = iri; graph = key.0 }
set_to key iri (Some entry) = record { prefix = entry.prefix; iri = iri; graph = entry.graph }

-- the rows, with something or nothing at one of them
abbrev pub settled : List PrefixRow → RowBytes → Option PrefixEntry → List PrefixRow
settled rows row None = remove_entry (is_at (row_cmp row)) rows
settled rows row (Some entry) = insert_entry row_cmp rows row (Some entry)

-- What a dataset gives of what is asked.
use Rattle.std.specs.Prelude.{ℕ, List, map}
use Rattle.std.specs.List.{filter}
use Rattle.rdf_terms.specs.Dataset.{Dataset}
use Rattle.rdf_terms.specs.Line.{line}
use Rattle.dataset_tx.specs.Pattern.{matches}
use Rattle.dataset_tx.specs.Prefixes.{prefix_change}
use Rattle.dataset_tx.specs.Rows.{rows_in_order}
use Rattle.zone_commands.specs.declared.reading.Reading.{Reading}
use Rattle.zone_commands.specs.declared.reading.Reading.TheVariants as reading

-- the lines of the quads; the rows that set the prefixes; or the lines of the quads that match;
-- each in the order of their bytes
abbrev pub lines_read : Reading → Dataset → List (List ℕ)
lines_read reading.Dump dataset = map line dataset.quads
lines_read reading.Prefixes dataset = rows_in_order (map prefix_change dataset.prefixes)
lines_read (reading.Match pattern) dataset =
    map line (filter (matches pattern) dataset.quads)

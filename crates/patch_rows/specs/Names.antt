-- The names of kinds of faults of rows, as lines and replies print them.
use Rattle.std.specs.Prelude.{ℕ, List, codes}
use Rattle.nquads_text.specs.Names.{text_kind_name}
use Rattle.patch_rows.specs.declared.fault.RowKind.{RowKind}
use Rattle.patch_rows.specs.declared.fault.RowKind.TheVariants as rows

abbrev pub row_kind_name : RowKind → List ℕ
row_kind_name (rows.Common kind) = text_kind_name kind
row_kind_name rows.UnknownCode = codes "UnknownCode"
row_kind_name rows.WrongCount = codes "WrongCount"
row_kind_name rows.TooLong = codes "TooLong"

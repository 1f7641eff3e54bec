-- The lines of a report, and those of faults.
use Rattle.std.specs.Prelude.{ℕ, List, [], ◌∷◌, ◌++◌, Option, Some, None, codes}
use Rattle.std.specs.Fmt.{decimal}
use Rattle.std.specs.List.{flat_map}
use Rattle.delta_base.specs.declared.id.Id.{Id}
use Rattle.delta_base.specs.Ids.{text_of}
use Rattle.slot_checks.specs.declared.fault.CheckFault.{CheckFault}
use Rattle.slot_checks.specs.declared.fault.CheckFault.TheVariants as check
use Rattle.slot_checks.specs.declared.lines.FileLine.{FileLine}
use Rattle.slot_checks.specs.declared.lines.FileLine.TheVariants as line

-- an id in its hyphenated form, or `none`
abbrev pub id_or_none : Option Id → List ℕ
id_or_none None = codes "none"
id_or_none (Some id) = text_of id.0

-- a line, with its line feed
abbrev pub line_text : FileLine → List ℕ
line_text (line.Registry records) = codes "file 0 records " ++ (decimal records ++ 10 ∷ [])
line_text (line.Log number patches head) = codes "file " ++ (decimal number
    ++ (codes " patches " ++ (decimal patches ++ (codes " head " ++ (id_or_none head ++ 10 ∷ [])))))

-- all lines, in their order
abbrev pub lines_text : List FileLine → List ℕ
lines_text lines = flat_map line_text lines

-- the line that tells a fault, with its line feed
abbrev pub fault_line : CheckFault → List ℕ
fault_line (check.Damaged file at) = codes "rdfdelta: file "
    ++ (decimal file ++ (codes ": byte " ++ (decimal at ++ (codes ": damaged" ++ 10 ∷ []))))
fault_line (check.OldFormat file) =
    codes "rdfdelta: file " ++ (decimal file ++ (codes ": old format" ++ 10 ∷ []))
fault_line (check.WrongNumber file found) = codes "rdfdelta: file "
    ++ (decimal file ++ (codes ": wrong number " ++ (decimal found ++ 10 ∷ [])))
fault_line (check.OverLimit file length limit) =
    codes "rdfdelta: file " ++ (decimal file ++ (codes ": over limit: have "
    ++ (decimal length ++ (codes ", limit " ++ (decimal limit ++ 10 ∷ [])))))
fault_line (check.BrokenChain file version) = codes "rdfdelta: file "
    ++ (decimal file ++ (codes ": broken chain at version " ++ (decimal version ++ 10 ∷ [])))
fault_line (check.BrokenEvent place) =
    codes "rdfdelta: file 0: broken event at " ++ (decimal place ++ 10 ∷ [])
fault_line (check.UpgradePending file) =
    codes "rdfdelta: file " ++ (decimal file ++ (codes ": upgrade pending" ++ 10 ∷ []))
fault_line check.Failed = codes "rdfdelta: disk failed" ++ 10 ∷ []
fault_line check.OutOfMemory = codes "rdfdelta: out of memory" ++ 10 ∷ []

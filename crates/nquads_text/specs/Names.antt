-- The names of kinds of faults, as lines and replies print them.
use Rattle.std.specs.Prelude.{ℕ, List, codes}
use Rattle.nquads_text.specs.declared.fault.TextKind.{TextKind}
use Rattle.nquads_text.specs.declared.fault.TextKind.TheVariants as kinds

abbrev pub text_kind_name : TextKind → List ℕ
text_kind_name kinds.NotUtf8 = codes "NotUtf8"
text_kind_name kinds.BadIri = codes "BadIri"
text_kind_name kinds.RelativeIri = codes "RelativeIri"
text_kind_name kinds.BadEscape = codes "BadEscape"
text_kind_name kinds.BadLabel = codes "BadLabel"
text_kind_name kinds.BadLang = codes "BadLang"
text_kind_name kinds.LangStringWithoutTag = codes "LangStringWithoutTag"
text_kind_name kinds.BadPosition = codes "BadPosition"
text_kind_name kinds.MissingDot = codes "MissingDot"
text_kind_name kinds.BadToken = codes "BadToken"
text_kind_name kinds.Truncated = codes "Truncated"

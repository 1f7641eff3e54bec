use Rattle.std.proofs.Common.{◌≡◌, ◌++◌, ◌∷◌, [], ℕ, ap, subst, sym, ◌∙◌}
use Rattle.std.specs.Global.{Vec}
use Rattle.std.specs.Str.{IsUtf8}
use Rattle.patch_rows.specs.Grammar.{letters}
use Rattle.patch_rows.specs.Printing.{row_text}
use Rattle.patch_rows.proofs.Printed.{line_is, printed_row, printed_decided}
use Rattle.patch_rows.proofs.Utf8Rows.{row_utf8}
use Rattle.patch_rows.proofs.printing.print_row.Goals as goal

pub from_utf8_unchecked-requires : goal.from_utf8_unchecked-requires
from_utf8_unchecked-requires c =
    let same : c.extend_from_slice-2.new.self.items ≡ row_text c.args.row.now ++ 10 ∷ [] =
    line_is c.args.row.now c.extend_from_slice-2.new.self.items c.push_parts.new.out.items c.extend_from_slice.new.self.items c.new-out.result.items c.letters.result.now
    c.in_ok-extend_from_slice-2.ensures.items c.in_ok-push_parts.ensures.text c.in_ok-extend_from_slice.ensures.items c.new-out.ensures.items (c.letters.ensures ∙ ap letters c.code_of.ensures) in
    subst IsUtf8 (sym same) (row_utf8 c.args.row.now c.in_ok-push_parts.ensures.value)

text_is : goal.returns-clause-text
text_is c =
    line_is c.args.row.now c.from_string.result c.push_parts.new.out.items c.extend_from_slice.new.self.items c.new-out.result.items c.letters.result.now
    (c.from_string.ensures ∙ ap (λ (v : Vec ℕ). v.items) c.from_utf8_unchecked.ensures.value ∙ c.in_ok-extend_from_slice-2.ensures.items) c.in_ok-push_parts.ensures.text c.in_ok-extend_from_slice.ensures.items
    c.new-out.ensures.items (c.letters.ensures ∙ ap letters c.code_of.ensures)

pub returns-clause-text : goal.returns-clause-text
returns-clause-text c = text_is c

pub returns-clause-read_again : goal.returns-clause-read_again
returns-clause-read_again c = λ is rest. printed_row c.args.row.now c.from_string.result rest (text_is c) c.in_ok-push_parts.ensures.value is

pub returns-clause-decided : goal.returns-clause-decided
returns-clause-decided c = λ is short. printed_decided c.args.row.now c.from_string.result (text_is c) c.in_ok-push_parts.ensures.value is short

use Rattle.std.proofs.Common.{rules, ◌≡◌, sym, subst}
use Rattle.std.specs.Str.{IsUtf8}
use Rattle.rdf_terms.specs.Line.{line}
use Rattle.nquads_documents.proofs.Utf8Lines.{line_utf8}
use Rattle.quad_keys.specs.Keys.{quad_of_key}
use Rattle.quad_keys.proofs.printing.key_line.Goals as goal

pub from_utf8_unchecked-requires : goal.from_utf8_unchecked-requires
from_utf8_unchecked-requires c =
    let text : c.deref.result.now ≡ line (quad_of_key c.args.terms.now c.args.key.now) = search rules in
    subst IsUtf8 (sym text) (line_utf8 _ c.requires.value)

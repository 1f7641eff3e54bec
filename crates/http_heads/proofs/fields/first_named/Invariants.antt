use Rattle.std.proofs.Common.{◌≡◌, drop}
use Rattle.std.specs.Prelude.{map}
use Rattle.httparse.specs.Spans.{header_bytes}
use Rattle.http_heads.specs.Fields.{values_of}
use Rattle.http_heads.proofs.fields.first_named.Given as goal

abbrev pub invariant-loop-header : goal.invariant-loop-header
invariant-loop-header l =
    values_of l.name (map (header_bytes l.text) (drop l.header-index l.headers))
    ≡ values_of l.name (map (header_bytes l.text) l.headers)

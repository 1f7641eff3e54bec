use Rattle.std.proofs.Common.{◌≡◌, drop}
use Rattle.std.specs.Prelude.{codes, map}
use Rattle.std.specs.List.{list_any}
use Rattle.httparse.specs.Spans.{header_bytes}
use Rattle.http_heads.specs.Fields.{holds_item, values_of}
use Rattle.http_heads.proofs.fields.closes.Given as goal

abbrev pub invariant-loop-header : goal.invariant-loop-header
invariant-loop-header l =
    list_any (holds_item (codes "close")) (values_of (codes "connection") (map (header_bytes l.text) (drop l.header-index l.headers)))
    ≡ list_any (holds_item (codes "close")) (values_of (codes "connection") (map (header_bytes l.text) l.headers))

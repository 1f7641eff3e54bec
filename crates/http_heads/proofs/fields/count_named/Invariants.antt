use Rattle.std.proofs.Common.{◌≡◌, ◌≤◌, ◌+◌, drop, length}
use Rattle.std.specs.Prelude.{map}
use Rattle.httparse.specs.Spans.{header_bytes}
use Rattle.http_heads.specs.Fields.{values_of}
use Rattle.http_heads.proofs.fields.count_named.Given as goal

abbrev pub invariant-loop-header : goal.invariant-loop-header
invariant-loop-header l = record {
  small : l.count ≤ l.header-index;
  counted : l.count + length (values_of l.name (map (header_bytes l.text) (drop l.header-index l.headers)))
      ≡ length (values_of l.name (map (header_bytes l.text) l.headers));
}

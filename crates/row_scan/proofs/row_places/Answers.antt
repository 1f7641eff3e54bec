use Rattle.std.proofs.Common.{arith}
use Rattle.row_scan.proofs.Rows.{places_found}
use Rattle.row_scan.proofs.row_places.Goals as goal

pub returns : goal.returns
returns c =
    places_found c.args.text.now c.args.at c.in_ok-adds.adds c.in_ok-places.places c.in_ok-adds.ensures.code c.in_ok-adds.ensures.within c.in_ok-places.ensures (omega (arith, c.if-end-at-gt-ROW_LIMIT.false))

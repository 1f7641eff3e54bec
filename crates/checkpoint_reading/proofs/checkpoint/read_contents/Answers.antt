use Rattle.std.proofs.Common.{[]}
use Rattle.std.specs.List.{flat_map}
use Rattle.std.proofs.lemmas.Result.{err_from_is_err_and}
use Rattle.rdf_terms.specs.Line.{line}
use Rattle.checkpoint_reading.proofs.Changes.{made_of}
use Rattle.checkpoint_reading.proofs.Exits.{same_fault, none_left, some_left}
use Rattle.checkpoint_reading.proofs.Whole.{contents_read, rows_in_front, lines_in_front, nothing_behind}
use Rattle.checkpoint_reading.proofs.checkpoint.read_contents.Goals as goal

pub returns-in_err-rest-clause-broken : goal.returns-in_err-rest-clause-broken
returns-in_err-rest-clause-broken c =
    let p = err_from_is_err_and c.from_residual.result c.from_residual.ensures.1 in
    rw (p.1, p.2) (λ broken dataset is.
    let front = rows_in_front c.args.first.now c.args.text.now dataset is in
    c.in_err-rest.ensures.broken (same_fault _ _ broken) front.0 (flat_map line dataset.quads) front.1 front.2)

pub returns-in_err-rest-2-clause-broken : goal.returns-in_err-rest-2-clause-broken
returns-in_err-rest-2-clause-broken c =
    let p = err_from_is_err_and c.from_residual-in_err-rest-2.result c.from_residual-in_err-rest-2.ensures.1 in
    let rows = c.in_ok-rest.ensures.ok in
    rw (p.1, p.2) (λ broken dataset is.
    c.in_err-rest-2.ensures.broken (same_fault _ _ broken) dataset.quads [] (lines_in_front c.args.first.now c.args.text.now c.in_ok-rest.rest.now dataset rows.0 is rows.1))

pub returns-then-is_empty-clause-contents : goal.returns-then-is_empty-clause-contents
returns-then-is_empty-clause-contents c =
    let rows = c.in_ok-rest.ensures.ok in
    let lines = c.in_ok-rest-2.ensures.ok in
    contents_read c.args.first.now c.args.text.now c.in_ok-rest.rest.now _ c.read_prefixes.new.contents c.read_quads.new.contents rows.0 lines.0 rows.1 rows.2 lines.1 lines.2 (none_left c.in_ok-rest-2.rest.now c.is_empty.result c.is_empty.ensures c.if-is_empty.true) c.contents_are_values.ensures

pub returns-then-is_empty-clause-made : goal.returns-then-is_empty-clause-made
returns-then-is_empty-clause-made c =
    let rows = c.in_ok-rest.ensures.ok in
    let lines = c.in_ok-rest-2.ensures.ok in
    made_of c.read_prefixes.new.contents c.read_quads.new.contents rows.0 lines.0 rows.2 lines.2

pub returns-else-is_empty-clause-broken : goal.returns-else-is_empty-clause-broken
returns-else-is_empty-clause-broken c = λ broken dataset is.
    let rows = c.in_ok-rest.ensures.ok in
    let lines = c.in_ok-rest-2.ensures.ok in
    let none = nothing_behind c.args.first.now c.args.text.now c.in_ok-rest.rest.now _ dataset rows.0 lines.0 is rows.1 lines.1 in
    some_left c.in_ok-rest-2.rest.now c.is_empty.result c.is_empty.ensures c.if-is_empty.false none

use Rattle.std.proofs.Common.{ℕ, subst, arith, sym}
use Rattle.std.proofs.lemmas.Result.{err_from_is_err_and}
use Rattle.patch_meaning.proofs.Read.{further}
use Rattle.patch_meaning.proofs.Splits.{stopped_there}
use Rattle.patch_reader.specs.Rows.{Gap}
use Rattle.stream_squash.specs.Placing.{HasPlaced, IsRowOrEnd, cutting, next_of}
use Rattle.stream_squash.proofs.placing.Placing.take_next.Goals as goal

pub returns-in_err-row : goal.returns-in_err-row
returns-in_err-row c =
    let p = err_from_is_err_and c.from_residual-in_err-row.result c.from_residual-in_err-row.ensures.1 in
    let gap : Gap c.args.text.now c.args.from c.skip_space-at.result = (c.skip_space-at.ensures.space, c.skip_space-at.ensures.low, c.skip_space-at.ensures.high) in
    let h = c.requires.placed in
    rw (p.1, p.2) (stopped_there c.args.text.now c.args.from (cutting h.links c.args.self.now.part) c.in_err-row.field-0.0 h.cut (c.in_err-row.ensures.fault c.args.from gap))

pub take-requires-clause-next : goal.take-requires-clause-next
take-requires-clause-next c =
    let gap : Gap c.args.text.now c.args.from c.skip_space-at.result = (c.skip_space-at.ensures.space, c.skip_space-at.ensures.low, c.skip_space-at.ensures.high) in
    (c.args.from, c.requires.placed, subst (IsRowOrEnd c.args.text.now c.args.from) c.in-Some-2.is (c.in_ok-row.ensures.ok c.args.from gap))

pub returns-in_ok-take-in-Some-2 : goal.returns-in_ok-take-in-Some-2
returns-in_ok-take-in-Some-2 c =
    let gap : Gap c.args.text.now c.args.from c.skip_space-at.result = (c.skip_space-at.ensures.space, c.skip_space-at.ensures.low, c.skip_space-at.ensures.high) in
    let row = subst (IsRowOrEnd c.args.text.now c.args.from) c.in-Some-2.is (c.in_ok-row.ensures.ok c.args.from gap) in
    let far = further c.args.text.now c.args.from (next_of c.in-Some-2.row) row in
    let end = c.in_ok-take-in-Some-2.ensures.end in
    (omega (arith, far.0, end), subst (λ (at : ℕ). HasPlaced c.args.text.now at c.take.new.self) (sym end) c.in_ok-take-in-Some-2.ensures.ok)

pub returns-in-None : goal.returns-in-None
returns-in-None c =
    let gap : Gap c.args.text.now c.args.from c.skip_space-at.result = (c.skip_space-at.ensures.space, c.skip_space-at.ensures.low, c.skip_space-at.ensures.high) in
    (c.args.from, c.requires.placed, subst (IsRowOrEnd c.args.text.now c.args.from) c.in-None.is (c.in_ok-row.ensures.ok c.args.from gap))

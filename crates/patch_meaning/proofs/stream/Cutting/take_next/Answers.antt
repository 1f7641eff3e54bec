use Rattle.std.proofs.Common.{ℕ, subst, arith, sym}
use Rattle.std.proofs.lemmas.Result.{err_from_is_err_and}
use Rattle.patch_meaning.specs.Cutting.{HasCut, IsNextOrEnd}
use Rattle.patch_reader.specs.Rows.{Gap}
use Rattle.patch_meaning.proofs.Read.{further}
use Rattle.patch_meaning.proofs.Splits.{stopped_there}
use Rattle.patch_meaning.proofs.stream.Cutting.take_next.Goals as goal

pub returns-in_err-next : goal.returns-in_err-next
returns-in_err-next c =
    let p = err_from_is_err_and c.from_residual-in_err-next.result c.from_residual-in_err-next.ensures.1 in
    let gap : Gap c.args.text.now c.args.from c.skip_space-at.result = (c.skip_space-at.ensures.space, c.skip_space-at.ensures.low, c.skip_space-at.ensures.high) in
    rw (p.1, p.2) (stopped_there c.args.text.now c.args.from c.args.self.now c.in_err-next.field-0.0 c.requires (c.in_err-next.ensures.fault c.args.from gap))

pub take-requires : goal.take-requires
take-requires c =
    let gap : Gap c.args.text.now c.args.from c.skip_space-at.result = (c.skip_space-at.ensures.space, c.skip_space-at.ensures.low, c.skip_space-at.ensures.high) in
    (c.args.from, c.requires, subst (IsNextOrEnd c.args.text.now c.args.from) c.in-Some-2.is (c.in_ok-next.ensures.ok c.args.from gap))

pub returns-in_ok-take-in-Some-2 : goal.returns-in_ok-take-in-Some-2
returns-in_ok-take-in-Some-2 c =
    let gap : Gap c.args.text.now c.args.from c.skip_space-at.result = (c.skip_space-at.ensures.space, c.skip_space-at.ensures.low, c.skip_space-at.ensures.high) in
    let next = subst (IsNextOrEnd c.args.text.now c.args.from) c.in-Some-2.is (c.in_ok-next.ensures.ok c.args.from gap) in
    let far = further c.args.text.now c.args.from c.in-Some-2.next next in
    let end = c.in_ok-take-in-Some-2.ensures.end in
    (omega (arith, far.0, end), subst (λ (at : ℕ). HasCut c.args.text.now at c.take.new.self) (sym end) c.in_ok-take-in-Some-2.ensures.ok)

pub returns-in-None : goal.returns-in-None
returns-in-None c =
    let gap : Gap c.args.text.now c.args.from c.skip_space-at.result = (c.skip_space-at.ensures.space, c.skip_space-at.ensures.low, c.skip_space-at.ensures.high) in
    (c.args.from, c.requires, subst (IsNextOrEnd c.args.text.now c.args.from) c.in-None.is (c.in_ok-next.ensures.ok c.args.from gap))

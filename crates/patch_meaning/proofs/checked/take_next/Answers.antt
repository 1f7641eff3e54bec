use Rattle.std.proofs.Common.{ℕ, Option, Ok, sym, subst, arith}
use Rattle.std.proofs.lemmas.Result.{err_from_is_err_and}
use Rattle.row_scan.specs.Found.{change_by}
use Rattle.patch_meaning.specs.declared.role.Role.TheVariants as roles
use Rattle.patch_meaning.specs.declared.rows.Next.{Next}
use Rattle.patch_meaning.specs.Checked.{HasTakenRows, AreRead}
use Rattle.patch_meaning.specs.Next.{IsNextRead}
use Rattle.patch_reader.specs.Rows.{Gap}
use Rattle.patch_meaning.proofs.Read.{taken, quad_made, stopped, broken, further, ended}
use Rattle.patch_meaning.proofs.checked.take_next.Goals as goal

pub returns-in-Some : goal.returns-in-Some
returns-in-Some c =
    let gap : Gap c.args.text.now c.args.from c.skip_space-at.result = (c.skip_space-at.ensures.space, c.skip_space-at.ensures.low, c.skip_space-at.ensures.high) in
    let row = c.in-Some.field-0.row in
    let made = rw c.in-Some.is at c.in_ok-row.ensures in
    let next : Next = record { role = roles.Change (change_by row.adds c.in-Some.field-0.quad); at = c.skip_space-at.result; end = row.end } in
    let is = quad_made c.args.text.now c.args.from c.skip_space-at.result row c.in-Some.field-0.quad gap made in (
      (further c.args.text.now c.args.from next is).0,
      taken c.args.text.now c.args.from (AreRead c.args.read.now) (AreRead c.take_quad.new.read) next c.requires.taken is c.in_ok-take_quad.ensures,
    )

pub returns-in_err-next_from : goal.returns-in_err-next_from
returns-in_err-next_from c =
    let gap : Gap c.args.text.now c.args.from c.skip_space-at.result = (c.skip_space-at.ensures.space, c.skip_space-at.ensures.low, c.skip_space-at.ensures.high) in
    let p = err_from_is_err_and c.from_residual-in_err-next_from.result c.from_residual-in_err-next_from.ensures.1 in
    let fault = c.in_err-next_from.ensures c.args.from gap in
    rw (p.1, p.2) (broken c.args.text.now c.args.from (AreRead c.args.read.now) c.in_err-next_from.field-0.0 c.requires.short (λ rs k. k.0.taken) c.requires.taken fault)

pub returns-in_err-take-in-Some-2 : goal.returns-in_err-take-in-Some-2
returns-in_err-take-in-Some-2 c =
    let gap : Gap c.args.text.now c.args.from c.skip_space-at.result = (c.skip_space-at.ensures.space, c.skip_space-at.ensures.low, c.skip_space-at.ensures.high) in
    let p = err_from_is_err_and c.from_residual-in_err-take-in-Some-2.result c.from_residual-in_err-take-in-Some-2.ensures.1 in
    let is = c.in_ok-next_from.ensures c.args.from gap in
    let next = subst (λ (o : Option Next). IsNextRead c.args.text.now c.args.from (Ok o)) c.in-Some-2.is is in
    rw (p.1, p.2) (stopped c.args.text.now c.args.from (AreRead c.args.read.now) c.in-Some-2.next c.in_err-take-in-Some-2.field-0.0 c.requires.short (λ rs k. k.0.taken) c.requires.taken next c.in_err-take-in-Some-2.ensures.fault)

pub returns-in-None : goal.returns-in-None
returns-in-None c =
    let gap : Gap c.args.text.now c.args.from c.skip_space-at.result = (c.skip_space-at.ensures.space, c.skip_space-at.ensures.low, c.skip_space-at.ensures.high) in
    let is = c.in_ok-next_from.ensures c.args.from gap in
    let none = subst (λ (o : Option Next). IsNextRead c.args.text.now c.args.from (Ok o)) c.in-None.is is in
    ended c.args.text.now c.args.from (AreRead c.args.read.now) c.requires.taken none

pub returns-in_ok-take-in-Some-2 : goal.returns-in_ok-take-in-Some-2
returns-in_ok-take-in-Some-2 c =
    let gap : Gap c.args.text.now c.args.from c.skip_space-at.result = (c.skip_space-at.ensures.space, c.skip_space-at.ensures.low, c.skip_space-at.ensures.high) in
    let is = c.in_ok-next_from.ensures c.args.from gap in
    let next = subst (λ (o : Option Next). IsNextRead c.args.text.now c.args.from (Ok o)) c.in-Some-2.is is in
    let far = further c.args.text.now c.args.from c.in-Some-2.next next in
    let end = c.in_ok-take-in-Some-2.ensures.end in (
      omega (arith, far.0, end),
      subst (λ (at : ℕ). HasTakenRows c.args.text.now at (AreRead c.take.new.read)) (sym end)
          (taken c.args.text.now c.args.from (AreRead c.args.read.now) (AreRead c.take.new.read) c.in-Some-2.next c.requires.taken next c.in_ok-take-in-Some-2.ensures.ok),
    )

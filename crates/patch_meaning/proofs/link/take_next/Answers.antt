use Rattle.std.proofs.Common.{ℕ, Option, Ok, inr, sym, subst, arith}
use Rattle.std.proofs.lemmas.Result.{err_from_is_err_and}
use Rattle.patch_meaning.specs.declared.rows.Next.{Next}
use Rattle.patch_meaning.specs.Checked.{HasTakenRows, AreDrafted}
use Rattle.patch_meaning.specs.Next.{IsNextRead}
use Rattle.patch_reader.specs.Rows.{Gap}
use Rattle.patch_meaning.proofs.Read.{taken, next_found, stopped, broken, further, ended}
use Rattle.patch_meaning.proofs.link.take_next.Goals as goal

pub returns-in-Ok : goal.returns-in-Ok
returns-in-Ok c =
    let gap : Gap c.args.text.now c.args.from c.skip_space-at.result = (c.skip_space-at.ensures.space, c.skip_space-at.ensures.low, c.skip_space-at.ensures.high) in
    let found = next_found c.args.text.now c.args.from c.skip_space-at.result c.in-Some.row gap c.in-Some.ensures in
    let next : Next = record { role = found.0; at = c.skip_space-at.result; end = c.in-Some.row.end } in (
      (further c.args.text.now c.args.from next found.2).0,
      taken c.args.text.now c.args.from (AreDrafted c.args.draft.now) (AreDrafted c.take_found.new.self) next c.requires.taken found.2 (λ rs old. c.in-Ok.ensures rs found.0 found.1 old),
    )

pub returns-in-Err : goal.returns-in-Err
returns-in-Err c =
    let gap : Gap c.args.text.now c.args.from c.skip_space-at.result = (c.skip_space-at.ensures.space, c.skip_space-at.ensures.low, c.skip_space-at.ensures.high) in
    let found = next_found c.args.text.now c.args.from c.skip_space-at.result c.in-Some.row gap c.in-Some.ensures in
    let next : Next = record { role = found.0; at = c.skip_space-at.result; end = c.in-Some.row.end } in
    stopped c.args.text.now c.args.from (AreDrafted c.args.draft.now) next c.fault_at.result c.requires.short (λ rs k. k.taken) c.requires.taken found.2
    (λ rs old. inr (c.in-Err.kind, c.in-Err.ensures rs found.0 found.1 old, c.fault_at.ensures))

pub returns-in_err-row_from : goal.returns-in_err-row_from
returns-in_err-row_from c =
    let p = err_from_is_err_and c.from_residual.result c.from_residual.ensures.1 in
    let fault = c.in_err-row_from.ensures c.args.from (c.skip_space-at.ensures.space, c.skip_space-at.ensures.low, c.skip_space-at.ensures.high) in
    rw (p.1, p.2) (broken c.args.text.now c.args.from (AreDrafted c.args.draft.now) c.in_err-row_from.field-0.0 c.requires.short (λ rs k. k.taken) c.requires.taken fault)

pub returns-in_err-take-in-Some-2 : goal.returns-in_err-take-in-Some-2
returns-in_err-take-in-Some-2 c =
    let p = err_from_is_err_and c.from_residual-in_err-take-in-Some-2.result c.from_residual-in_err-take-in-Some-2.ensures.1 in
    let is = c.in_ok-row_from.ensures c.args.from (c.skip_space-at.ensures.space, c.skip_space-at.ensures.low, c.skip_space-at.ensures.high) in
    let next = subst (λ (o : Option Next). IsNextRead c.args.text.now c.args.from (Ok o)) c.in-Some-2.is is in
    rw (p.1, p.2) (stopped c.args.text.now c.args.from (AreDrafted c.args.draft.now) c.in-Some-2.next c.in_err-take-in-Some-2.field-0.0 c.requires.short (λ rs k. k.taken) c.requires.taken next c.in_err-take-in-Some-2.ensures.fault)

pub returns-in-None : goal.returns-in-None
returns-in-None c =
    let is = c.in_ok-row_from.ensures c.args.from (c.skip_space-at.ensures.space, c.skip_space-at.ensures.low, c.skip_space-at.ensures.high) in
    let none = subst (λ (o : Option Next). IsNextRead c.args.text.now c.args.from (Ok o)) c.in-None.is is in
    ended c.args.text.now c.args.from (AreDrafted c.args.draft.now) c.requires.taken none

pub returns-in_ok-take-in-Some-2 : goal.returns-in_ok-take-in-Some-2
returns-in_ok-take-in-Some-2 c =
    let is = c.in_ok-row_from.ensures c.args.from (c.skip_space-at.ensures.space, c.skip_space-at.ensures.low, c.skip_space-at.ensures.high) in
    let next = subst (λ (o : Option Next). IsNextRead c.args.text.now c.args.from (Ok o)) c.in-Some-2.is is in
    let far = further c.args.text.now c.args.from c.in-Some-2.next next in
    let end = c.in_ok-take-in-Some-2.ensures.end in (
      omega (arith, far.0, end),
      subst (λ (at : ℕ). HasTakenRows c.args.text.now at (AreDrafted c.take.new.draft)) (sym end)
          (taken c.args.text.now c.args.from (AreDrafted c.args.draft.now) (AreDrafted c.take.new.draft) c.in-Some-2.next c.requires.taken next c.in_ok-take-in-Some-2.ensures.ok),
    )

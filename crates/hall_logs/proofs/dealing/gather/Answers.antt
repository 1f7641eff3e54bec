use Rattle.std.proofs.Common.{◌<◌, ◌+◌, List, length, sym, subst, ◌∙◌, arith}
use Rattle.std.specs.Prelude.{slice_set}
use Rattle.shared_log.specs.History.{LogSight}
use Rattle.hall_logs.proofs.Deals.{Gathers, given_is, given_has, gathers_one}
use Rattle.hall_logs.proofs.dealing.gather.Goals as goal

pub take_last-requires : goal.take_last-requires
take_last-requires g c =
    let l = c.loop-place in
    let before : List (List LogSight) = c.args.passes.now.items in
    let more : l.place < length l.passes.items = omega (arith, l.passes.ok.0) in
    let is = c.index_mut.ensures.value ∙ given_is before l.place l.parts.items l.passes.items l.invariant.0 more c.index_mut.result.now in
    subst (λ (list : List LogSight). 0 < length list) (sym is) (given_has before l.place l.parts.items l.passes.items l.invariant.0 more (λ (list : List LogSight). 0 < length list) c.requires.some)

pub loop-place-preserved : goal.loop-place-preserved
loop-place-preserved g c =
    let l = c.loop-place in
    let before : List (List LogSight) = c.args.passes.now.items in
    let more : l.place < length l.passes.items = omega (arith, l.passes.ok.0) in
    let is = c.index_mut.ensures.value ∙ given_is before l.place l.parts.items l.passes.items l.invariant.0 more c.index_mut.result.now in (
      subst (λ (items : List LogSight). Gathers before (l.place + 1) items (slice_set l.passes.items l.place c.take_last.new.self)) (sym c.push_reserved.ensures.items)
          (gathers_one before l.place l.parts.items l.passes.items l.invariant.0 more c.take_last.new.self c.take_last.result (sym is ∙ c.take_last.ensures)),
      c.push_reserved.ensures.capacity ∙ l.invariant.1,
      l.invariant.2,
    )

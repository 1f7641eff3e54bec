use Rattle.std.proofs.Common.{◌++◌, [], ◌∷◌}
use Rattle.http_heads.proofs.HeadLemmas.{blank_more, blank_tail, no_blank}
use Rattle.http_heads.proofs.heads.without_blank_lines.Goals as goal

pub loop-after-preserved : goal.loop-after-preserved
loop-after-preserved c =
    let some = c.in-Some.ensures.some in
    let blank = c.loop-after.invariant.0 in (
      (blank.0 ++ some.0 ∷ [], blank_more _ _ _ blank.0 some.0 blank.1 some.1),
      λ others rest stops is.
          let read = c.loop-after.invariant.1 others rest stops is in
          blank_tail _ _ rest some.0 read.0 some.1 stops read.1,
    )

pub returns-clause-all : goal.returns-clause-all
returns-clause-all c = λ blank rest stops is.
    let read = c.loop-after.invariant.1 blank rest stops is in
    no_blank _ rest read.0 c.in_default.ensures.none read.1

use Rattle.std.proofs.Common.{◌≡◌, ◌-◌, ℕ, List, ◌++◌, length, ap, arith, length-append}
use Rattle.checkpoint_line.specs.First.{first_line}
use Rattle.checkpoint_line.specs.declared.first.FirstLine.{FirstLine}
use Rattle.checkpoint_line.proofs.Cuts.{at_mark, at_generation, at_patches, at_bytes, at_prefixes, at_quads, joined, behind_mark}
use Rattle.checkpoint_line.proofs.first.read_first_line.Goals as goal

pub returns-in_default : goal.returns-in_default
returns-in_default c = λ l is. c.in_default.ensures.none (behind_mark l is.1.0) (at_mark l is.0 c.args.text.now is.1.0 is.1.1)

pub returns-in_default-number_to : goal.returns-in_default-number_to
returns-in_default-number_to c = λ l is.
    c.in_default-number_to.ensures.none l.generation _ (at_generation l is.0 c.args.text.now is.1.0 is.1.1 c.in-Some.one.now c.in-Some.ensures.some)

pub returns-in_default-number_to-2 : goal.returns-in_default-number_to-2
returns-in_default-number_to-2 c = λ l is.
    c.in_default-number_to-2.ensures.none l.patches _ (at_patches l is.0 c.args.text.now is.1.0 is.1.1 c.in-Some.one.now c.in-Some-number_to.two.now c.in-Some-number_to.generation c.in-Some.ensures.some c.in-Some-number_to.ensures.some)

pub returns-in_default-number_to-3 : goal.returns-in_default-number_to-3
returns-in_default-number_to-3 c = λ l is.
    c.in_default-number_to-3.ensures.none l.bytes _ (at_bytes l is.0 c.args.text.now is.1.0 is.1.1 c.in-Some.one.now c.in-Some-number_to.two.now c.in-Some-number_to-2.three.now c.in-Some-number_to.generation c.in-Some-number_to-2.patches c.in-Some.ensures.some c.in-Some-number_to.ensures.some c.in-Some-number_to-2.ensures.some)

pub returns-in_default-number_to-4 : goal.returns-in_default-number_to-4
returns-in_default-number_to-4 c = λ l is.
    c.in_default-number_to-4.ensures.none l.prefixes _ (at_prefixes l is.0 c.args.text.now is.1.0 is.1.1 c.in-Some.one.now c.in-Some-number_to.two.now c.in-Some-number_to-2.three.now c.in-Some-number_to-3.four.now c.in-Some-number_to.generation c.in-Some-number_to-2.patches c.in-Some-number_to-3.bytes c.in-Some.ensures.some c.in-Some-number_to.ensures.some c.in-Some-number_to-2.ensures.some c.in-Some-number_to-3.ensures.some)

pub returns-in_default-number_to-5 : goal.returns-in_default-number_to-5
returns-in_default-number_to-5 c = λ l is.
    c.in_default-number_to-5.ensures.none l.quads is.1.0 (at_quads l is.0 c.args.text.now is.1.0 is.1.1 c.in-Some.one.now c.in-Some-number_to.two.now c.in-Some-number_to-2.three.now c.in-Some-number_to-3.four.now c.in-Some-number_to-4.five.now c.in-Some-number_to.generation c.in-Some-number_to-2.patches c.in-Some-number_to-3.bytes c.in-Some-number_to-4.prefixes c.in-Some.ensures.some c.in-Some-number_to.ensures.some c.in-Some-number_to-2.ensures.some c.in-Some-number_to-3.ensures.some c.in-Some-number_to-4.ensures.some)

behind_it : (text front rest : List ℕ) → text ≡ front ++ rest → length text - length rest ≡ length front
behind_it text front rest is = omega (arith, ap length is, length-append front rest)

pub returns : goal.returns
returns c =
    let g = c.in-Some-number_to.generation in
    let v = c.in-Some-number_to-2.patches in
    let b = c.in-Some-number_to-3.bytes in
    let p = c.in-Some-number_to-4.prefixes in
    let q = c.in-Some-number_to-5.quads in
    let line : FirstLine = record { generation = g; patches = v; bytes = b; prefixes = p; quads = q } in
    let behind = c.in-Some-number_to-5.behind.now in
    let is : c.args.text.now ≡ first_line line ++ behind = joined c.args.text.now c.in-Some.one.now c.in-Some-number_to.two.now c.in-Some-number_to-2.three.now c.in-Some-number_to-3.four.now c.in-Some-number_to-4.five.now behind g v b p q c.in-Some.ensures.some c.in-Some-number_to.ensures.some c.in-Some-number_to-2.ensures.some c.in-Some-number_to-3.ensures.some c.in-Some-number_to-4.ensures.some c.in-Some-number_to-5.ensures.some in (
      (
        record {
          generation = c.in-Some-number_to.ensures.some.counts;
          patches = c.in-Some-number_to-2.ensures.some.counts;
          bytes = c.in-Some-number_to-3.ensures.some.counts;
          prefixes = c.in-Some-number_to-4.ensures.some.counts;
          quads = c.in-Some-number_to-5.ensures.some.counts;
        },
        (behind, is),
      ),
      behind_it c.args.text.now (first_line line) behind is,
    )

use Rattle.std.proofs.Common.{◌≡◌, ◌+◌, ◌++◌, Bool, true, false, List, ℕ, refl, sym, subst, ◌∙◌, arith}
use Rattle.patch_reader.specs.declared.inside.Inside.TheVariants as inside
use Rattle.patch_reader.specs.Inside.{OpenInside}
use Rattle.patch_reader.proofs.InsideSteps.{letter_over, dash_over}
use Rattle.patch_reader.proofs.inside.tag_run.Goals as goal
use Rattle.patch_reader.proofs.inside.tag_run.Goals.{then-is_tag_byte, else-is_tag_byte+then-some+then-text-at-eq45}

-- open behind the byte, as the flags were set
abbrev OpenBehind : List ℕ → ℕ → Bool → Bool → Type 0
OpenBehind text at first some = OpenInside (inside.Tag at first some) text

set : (text : List ℕ) (at : ℕ) (first first' some some' : Bool) → first ≡ first' → some ≡ some' → OpenBehind text at first some → OpenBehind text at first' some'
set text at first first' some some' f s o = subst (λ (t : Bool). OpenBehind text at first' t) s (subst (λ (t : Bool). OpenBehind text at t some) f o)

pub run-preserved : goal.run-preserved
run-preserved c = (
  omega arith,
  λ more o. c.run.invariant.1 more (elim c.if-is_tag_byte.branch [
    | then-is_tag_byte w ↦ letter_over c.args.text.now more c.run.at c.run.first c.run.some c.run-test.true (sym c.is_tag_byte.ensures ∙ w.if-is_tag_byte.true)
        (set (c.args.text.now ++ more) (c.run.at + 1) c.if-is_tag_byte.first c.run.first c.if-is_tag_byte.some true w.first-is w.some-is o)
    | else-is_tag_byte+then-some+then-text-at-eq45 w ↦
        set (c.args.text.now ++ more) c.run.at c.run.first c.run.first true c.run.some refl (sym w.if-some.true)
        (dash_over c.args.text.now more c.run.at c.run.first c.run-test.true (sym c.is_tag_byte.ensures ∙ w.if-is_tag_byte.false) w.if-text-at-eq45.true
        (set (c.args.text.now ++ more) (c.run.at + 1) c.if-is_tag_byte.first false c.if-is_tag_byte.some false w.first-is w.some-is o))
  ]),
)

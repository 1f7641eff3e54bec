use Rattle.std.proofs.Common.{[], refl, arith}
use Rattle.patch_meaning.proofs.Splits.{begun_text}
use Rattle.stream_squash.specs.Placing.{cutting}
use Rattle.stream_squash.proofs.placing.read_patches.Goals as goal

pub loop-placing-init : goal.loop-placing-init
loop-placing-init c = record {
  links = [];
  cut = begun_text c.args.text.now (cutting [] c.new-3.result) c.new-3.ensures.rows c.new-3.ensures.from refl;
  places = record { lengths_are = c.new.ensures.items; tested = c.new-2.ensures.tested };
  few = omega (arith, c.new-2.ensures.tested.version_is);
}

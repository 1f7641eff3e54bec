use Rattle.patch_meaning.proofs.Splits.{begun_text}
use Rattle.patch_meaning.proofs.stream.split_links.Goals as goal

pub loop-cutting-init : goal.loop-cutting-init
loop-cutting-init c = begun_text c.args.text.now (record { patches = c.new.result; part = c.new-2.result }) c.new-2.ensures.rows c.new-2.ensures.from c.new.ensures

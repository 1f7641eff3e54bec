use Rattle.patch_algebra.proofs.Patches.{front_is}
use Rattle.patch_algebra.proofs.writing.front_text.Goals as goal

pub returns-clause-text : goal.returns-clause-text
returns-clause-text c =
    front_is c.args.id c.args.prev c.new-text.result.items c.push_header.new.text.items c.push_prev.new.text.items c.extend_from_slice.new.self.items c.new-text.ensures.items c.in_ok-push_header.ensures.text c.in_ok-push_prev.ensures.text c.in_ok-extend_from_slice.ensures.items

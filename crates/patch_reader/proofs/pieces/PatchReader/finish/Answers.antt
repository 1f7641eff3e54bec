use Rattle.std.proofs.Common.{◌++◌, ◌∙◌, sym}
use Rattle.patch_reader.proofs.ReadOn.{goes_known, not_met, stays_known}
use Rattle.patch_reader.proofs.pieces.PatchReader.finish.Goals as goal

pub invariant_of-self : goal.invariant_of-self
invariant_of-self c =
    let r = c.self.inside in
    stays_known r.end r.fed.text (r.taken.rows ++ r.ready.items) r.fault r.window c.in_default.is (sym c.is_some.ensures ∙ c.if-is_some.true) c.self.invariant

pub invariant_of-self-2 : goal.invariant_of-self-2
invariant_of-self-2 c =
    let r = c.self.inside in
    let told = c.take_rows-told in
    goes_known r.end r.fed.text r.taken.rows r.ready.items told.new.ready.items r.fault c.err-self-inside.result told.result r.window told.new.window c.in_default.is
    (not_met r.fault (sym c.is_some.ensures ∙ c.if-is_some.false)) c.err-self-inside.ensures.value c.self.invariant told.ensures.adds told.ensures.stops told.ensures.fed

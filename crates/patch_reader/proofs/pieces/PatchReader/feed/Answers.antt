use Rattle.std.proofs.Common.{ap, ◌∙◌, ◌++◌, sym}
use Rattle.patch_reader.specs.Pieces.{Reader}
use Rattle.patch_reader.proofs.ReadOn.{goes_longer, not_met, stays_longer}
use Rattle.patch_reader.proofs.pieces.PatchReader.feed.Goals as goal

pub invariant_of-self : goal.invariant_of-self
invariant_of-self c =
    let r = c.self.inside in
    stays_longer r.end r.fed.text c.args.piece.now c.feed.new.self.text (r.taken.rows ++ r.ready.items) r.fault r.window (ap (λ (r : Reader). r.end) c.self.view_is ∙ c.requires) c.feed.ensures (sym c.is_some.ensures ∙ c.if-is_some.true) c.self.invariant

pub invariant_of-self-2 : goal.invariant_of-self-2
invariant_of-self-2 c =
    let r = c.self.inside in
    let told = c.take_piece-told in
    goes_longer r.end r.fed.text r.taken.rows r.ready.items told.new.ready.items r.fault c.err-self-inside.result told.result r.window told.new.window (ap (λ (r : Reader). r.end) c.self.view_is ∙ c.requires)
    (not_met r.fault (sym c.is_some.ensures ∙ c.if-is_some.false)) c.err-self-inside.ensures.value c.self.invariant c.args.piece.now c.feed.new.self.text c.feed.ensures told.ensures.adds told.ensures.stops told.ensures.fed

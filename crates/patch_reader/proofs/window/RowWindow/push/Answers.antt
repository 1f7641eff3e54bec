use Rattle.std.proofs.Common.{◌≡◌, ◌+◌, ◌-◌, ◌≤◌, List, ℕ, length, drop, sym, ap, subst, ◌∙◌, arith}
use Rattle.std.proofs.lemmas.List.{length-append, length-drop}
use Rattle.patch_reader.specs.Held.{IsStuck, HoldsText, PassesGap}
use Rattle.patch_reader.proofs.Holding.{pushed, rest_is}
use Rattle.patch_reader.proofs.window.RowWindow.push.Goals as goal

pub invariant_of-self-2 : goal.invariant_of-self-2
invariant_of-self-2 c =
    let r = c.self.inside in
    let piece = c.args.piece.now in
    let longer = c.extend_from_slice.new.self.items in
    let size = c.pass_front.result in
    let new = c.pass_front.new.region in
    let rest = rest_is c.deref.result.now longer r.at c.deref.ensures.value in
    let all : length r.kept.items ≡ length r.fed.text - r.from = sym (ap length c.self.invariant.keeps.0) ∙ length-drop r.from r.fed.text in
    let within = c.self.invariant.keeps.1 in
    subst (λ (t : List ℕ). HoldsText t r.passed r.from longer r.feeds (r.at + size) new) (sym c.feed.ensures)
    (pushed r.fed.text r.passed r.from r.kept.items r.feeds r.at r.region c.self.invariant piece longer size new c.in_ok-extend_from_slice.ensures.items
    (omega (arith, all, within, c.if-piece-self.false, c.len.ensures, length-append r.fed.text piece))
    (subst (λ (t : List ℕ). size ≤ length t) rest c.pass_front.ensures.within)
    (subst (λ (t : List ℕ). PassesGap t r.region size new) rest c.pass_front.ensures.passes)
    (subst (λ (t : List ℕ). IsStuck (drop size t) new) rest c.pass_front.ensures.stuck))

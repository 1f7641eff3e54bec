use Rattle.std.proofs.Common.{List, ◌++◌, ℕ, sym, ap, ◌∙◌, append_assoc}
use Rattle.std.proofs.KnownBytes.{Appends-trans}
use Rattle.std.proofs.lemmas.Result.{on_ok_weaker}
use Rattle.sink_writing.proofs.sending.send_both.Goals as goal

pub returns-in_err-send_all-clause-front : goal.returns-in_err-send_all-clause-front
returns-in_err-send_all-clause-front g c =
    let p = c.in_err-send_all.ensures.front in
    (p.0, p.1 ++ c.args.second.now, ap (λ (l : List ℕ). l ++ c.args.second.now) p.2 ∙ append_assoc p.0 p.1 c.args.second.now, p.3)

pub returns-clause-whole : goal.returns-clause-whole
returns-clause-whole g c =
    on_ok_weaker c.send_all-2.result
    (Appends-trans (g.L.Link.sent c.args.link.now) (g.L.Link.sent c.send_all.new.link) (g.L.Link.sent c.send_all-2.new.link) c.args.first.now c.args.second.now c.in_ok-send_all.ensures.whole)
    c.send_all-2.ensures.whole

pub returns-clause-front : goal.returns-clause-front
returns-clause-front g c =
    let p = c.send_all-2.ensures.front in (
      c.args.first.now ++ p.0,
      p.1,
      ap (λ (l : List ℕ). c.args.first.now ++ l) p.2 ∙ sym (append_assoc c.args.first.now p.0 p.1),
      Appends-trans (g.L.Link.sent c.args.link.now) (g.L.Link.sent c.send_all.new.link) (g.L.Link.sent c.send_all-2.new.link) c.args.first.now p.0 c.in_ok-send_all.ensures.whole p.3,
    )

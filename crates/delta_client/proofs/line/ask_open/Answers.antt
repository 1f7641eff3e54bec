use Rattle.std.proofs.Common.{◌∙◌, Option, Some, ap, subst}
use Rattle.delta_client.specs.declared.line.Line.{Line}
use Rattle.delta_client.specs.declared.line.Open.{Open}
use Rattle.delta_client.specs.Lines.{IsOpen, told_of}
use Rattle.delta_client.proofs.LineLemmas.{failed_over, closed_over, kept_over, same_told}
use Rattle.delta_client.proofs.line.ask_open.Goals as goal
use Rattle.delta_client.proofs.line.ask_open.Goals.{then-asked, else-asked}

pub returns-in-Err-clause-over : goal.returns-in-Err-clause-over
returns-in-Err-clause-over g c tells over is =
    let told = λ (net : g.row.N.Denot). told_of (g.N.Dial.to_come net) (g.N.Dial.addresses net) (g.N.Dial.back net) in
    let stands = subst (λ (line : Option (Open g.row.N-L.Denot)). IsOpen g.N.L.Link.left (Some over) line) c.in-Some.is is in
    let hung = c.hang_up-in-Err.ensures in
    let same = same_told _ _ _ _ _ _ (hung.to_come tells) (hung.addresses tells) (hung.back tells) in (
      c.ask.new.link,
      failed_over g.N.L.Link.left g.N.L.Link.sent c.args.address.now c.args.call.now over c.in-Some.talk c.ask.new.link c.ask.new.reader (told c.args.net.now) (told c.hang_up-in-Err.new.net) c.hang_up-in-Err.new.self.open
          stands c.in-Err.fault c.in-Err.ensures.answer c.in-Err.ensures.whole c.in-Err.ensures.front c.in-Err.ensures.first (same, hung.ended),
    )

pub returns-after-asked-clause-over : goal.returns-after-asked-clause-over
returns-after-asked-clause-over g c tells over is =
    let told = λ (net : g.row.N.Denot). told_of (g.N.Dial.to_come net) (g.N.Dial.addresses net) (g.N.Dial.back net) in
    let opened = λ (line : Line g.row.N-L.Denot). line.open in
    let stands = subst (λ (line : Option (Open g.row.N-L.Denot)). IsOpen g.N.L.Link.left (Some over) line) c.in-Some.is is in
    elim c.if-asked.branch [
      | then-asked w ↦
          let hung = w.hang_up.ensures in
          let same = same_told _ _ _ _ _ _ (ap g.N.Dial.to_come w.net-is ∙ hung.to_come tells) (ap g.N.Dial.addresses w.net-is ∙ hung.addresses tells) (ap g.N.Dial.back w.net-is ∙ hung.back tells) in (
            c.ask.new.link,
            closed_over g.N.L.Link.left g.N.L.Link.sent c.args.address.now c.args.call.now over c.in-Some.talk c.ask.new.link c.ask.new.reader (told c.args.net.now) (told c.if-asked.net) c.if-asked.line.open
                stands c.in-Ok.asked c.in-Ok.ensures.answer c.in-Ok.ensures.sent w.if-asked.true (same, ap opened w.line-is ∙ hung.ended),
          )
      | else-asked w ↦ (
        c.ask.new.link,
        kept_over g.N.L.Link.left g.N.L.Link.sent c.args.address.now c.args.call.now over c.in-Some.talk c.ask.new.link c.ask.new.reader (told c.args.net.now) (told c.if-asked.net) c.if-asked.line.open
            stands c.in-Ok.asked c.in-Ok.ensures.answer c.in-Ok.ensures.sent w.if-asked.false (ap told w.net-is) (ap opened w.line-is),
      )
    ]

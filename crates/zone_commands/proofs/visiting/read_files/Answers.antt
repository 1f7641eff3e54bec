use Rattle.std.proofs.Common.{◌∙◌, ap}
use Rattle.disk_model.specs.Past.{reads}
use Rattle.paired_zone.specs.Zone.{first_in, second_in}
use Rattle.zone_commands.proofs.Opened.{first_closed, opened_within, second_closed}
use Rattle.zone_commands.proofs.Taken.{no_memory}
use Rattle.zone_commands.proofs.visiting.read_files.Goals as goal

pub returns-in-Ok-lines-clause-ok : goal.returns-in-Ok-lines-clause-ok
returns-in-Ok-lines-clause-ok g c told = record {
  brief = c.in-Ok.zone.brief;
  files = record { hold = c.in-Ok.ensures.held told; within = opened_within g.D.Disk c.args.first c.args.second c.in-Ok.zone c.in-Ok.ensures.opened c.in-Ok.ensures.limits };
  lines_are = c.in-Ok-lines.ensures.lines;
}

pub returns-in-Ok-lines-clause-first : goal.returns-in-Ok-lines-clause-first
returns-in-Ok-lines-clause-first g c =
    let zone = c.in-Ok.zone in
    first_closed g.D.Disk c.args.first c.args.second zone c.in-Ok.ensures.opened c.close-first.result.0 c.close-first.result.1
    (c.close-first.ensures.first ∙ ap (λ z. first_in z) c.lines_of-lines.ensures.same) (c.close-first.ensures.second ∙ ap (λ z. second_in z) c.lines_of-lines.ensures.same) _ (λ failed. cc)

pub returns-in-Ok-lines-clause-second : goal.returns-in-Ok-lines-clause-second
returns-in-Ok-lines-clause-second g c =
    let zone = c.in-Ok.zone in
    second_closed g.D.Disk c.args.first c.args.second zone c.in-Ok.ensures.opened c.close-first.result.0 c.close-first.result.1
    (c.close-first.ensures.first ∙ ap (λ z. first_in z) c.lines_of-lines.ensures.same) (c.close-first.ensures.second ∙ ap (λ z. second_in z) c.lines_of-lines.ensures.same) _ (λ failed. cc)

pub returns-in-Err-lines-clause-fault : goal.returns-in-Err-lines-clause-fault
returns-in-Err-lines-clause-fault g c told = no_memory (reads (g.D.Disk.past c.args.first)) (reads (g.D.Disk.past c.args.second))

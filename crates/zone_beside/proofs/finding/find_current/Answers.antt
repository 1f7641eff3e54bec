use Rattle.std.proofs.Common.{Some, sym}
use Rattle.zone_beside.proofs.Findings.{other_behind}
use Rattle.zone_beside.proofs.finding.find_current.Goals as goal

pub returns-in-Ok-clause-beside : goal.returns-in-Ok-clause-beside
returns-in-Ok-clause-beside g c = (
  c.by_generations.ensures.settled,
  λ told. other_behind g.D.Disk.past c.by_generations.result.beside.on_second c.by_generations.result.beside.generation c.in-Ok.of_first c.in-Ok.of_second c.by_generations.result.current c.by_generations.result.beside.disk
      c.generations.new.first c.generations.new.second (g.D.Disk.past c.args.first) (g.D.Disk.past c.args.second) c.by_generations.ensures.first c.by_generations.ensures.second
      (c.in-Ok.ensures.synced told).0 (c.in-Ok.ensures.synced told).1 (c.in-Ok.ensures.found told).0 (c.in-Ok.ensures.found told).1 c.by_generations.ensures.earlier,
)

pub returns-in-Ok-clause-current : goal.returns-in-Ok-clause-current
returns-in-Ok-clause-current g c = λ told. record {
  of_first = Some c.in-Ok.of_first;
  of_second = c.in-Ok.of_second;
  first_is = (c.in-Ok.ensures.found told).0;
  second_is = (c.in-Ok.ensures.found told).1;
  chosen = sym c.by_generations.ensures.later;
  in_generation = sym c.by_generations.ensures.generation;
}

use Rattle.std.proofs.Common.{◌≡◌, ℕ, Option, true, false, subst}
use Rattle.disk_model.specs.Past.{reads}
use Rattle.log_journal.specs.declared.at_front.FrontFault.{FrontFault}
use Rattle.log_journal.specs.declared.at_front.FrontFault.TheVariants.{Failed}
use Rattle.zone_beside.specs.declared.fault.FindFault.TheVariants.{AtFront}
use Rattle.zone_files.specs.Generation.{IsInGeneration}
use Rattle.zone_beside.proofs.Findings.{not_looked}
use Rattle.zone_beside.proofs.looking.generations.Goals as goal

other_file : (fault : FrontFault) → AtFront false fault ≡ AtFront true Failed → ⊥
other_file fault same = absurd (cc)

pub returns-in-Err-clause-second_refused : goal.returns-in-Err-clause-second_refused
returns-in-Err-clause-second_refused g c =
    not_looked g.D.Disk c.args.second.now (AtFront false c.in-Err.fault ≡ AtFront true Failed) (other_file c.in-Err.fault)

pub returns-clause-found : goal.returns-clause-found
returns-clause-found g c = λ told. (
  subst (λ (of : Option ℕ). IsInGeneration (reads (g.D.Disk.past c.args.first.now)) false of) c.in-Ok-Some.field-0-is (c.in-Ok-Some.ensures.ok (reads (g.D.Disk.past c.args.first.now)) (c.in-Ok.ensures.found told)),
  c.in-Ok-generation_of.ensures.ok (reads (g.D.Disk.past c.args.second.now)) (c.in-Ok-front.ensures.found told),
)

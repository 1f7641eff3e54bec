use Rattle.patch_log.proofs.Openings.{no_run}
use Rattle.patch_log.proofs.opening.run_of.Goals as goal

-- the text is no run
pub returns-in_default : goal.returns-in_default
returns-in_default c = record {
  ok = tt;
  broken = λ is run read. no_run c.args.text c.in-Err.fault c.in-Err.ensures.fault c.in_default.not-OutOfMemory run read;
}

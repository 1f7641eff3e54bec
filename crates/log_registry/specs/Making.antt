-- How the making of an event ends.
use Rattle.std.specs.Prelude.{Result, Ok, Err}
use Rattle.registry_core.specs.declared.event.Event.{Event}
use Rattle.registry_core.specs.Answers.{Ending, made, failed, wanting}
use Rattle.log_registry.specs.declared.state.NotMade.{NotMade}
use Rattle.log_registry.specs.declared.state.NotMade.TheVariants.{OutOfMemory, DiskFault}

abbrev pub end_of_making : {T : Type 0} → Event → Result T NotMade → Ending
end_of_making event (Ok done) = made event
end_of_making event (Err OutOfMemory) = wanting
end_of_making event (Err DiskFault) = failed

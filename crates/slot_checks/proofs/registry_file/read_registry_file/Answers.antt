use Rattle.std.proofs.Common.{arith}
use Rattle.std.proofs.lemmas.List.{length-map}
use Rattle.registry_core.specs.declared.event.Entry.{Entry}
use Rattle.registry_core.specs.Events.{events_of}
use Rattle.log_registry.proofs.Reopened.{few_events}
use Rattle.slot_checks.proofs.registry_file.read_registry_file.Goals as goal

pub overflow_add-records : goal.overflow_add-records
overflow_add-records g c =
    let registry = c.in-Ok.registry in
    omega (
      arith,
      c.count-records.ensures,
      few_events registry.slots (events_of registry.entries) c.in-Ok.ensures.registry,
      length-map registry.entries (λ (entry : Entry). entry.event),
    )

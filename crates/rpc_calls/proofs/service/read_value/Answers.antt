use Rattle.std.proofs.Common.{◌∙◌, Some, sym, true≢false}
use Rattle.serde_json.specs.View.{view}
use Rattle.rpc_calls.proofs.ObjectLemmas.{object_by_text, an_object, no_object, no_json}
use Rattle.rpc_calls.proofs.service.read_value.Goals as goal

pub returns-then-is_object-clause-object : goal.returns-then-is_object-clause-object
returns-then-is_object-clause-object c =
    let value = view c.in-Ok.value in
    object_by_text c.args.body.now (Some value) c.in-Ok.ensures.ok.0 c.in-Ok.ensures.ok.1 ∙ an_object value (sym c.is_object.ensures ∙ c.if-is_object.true)

pub returns-else-is_memory-clause-fault : goal.returns-else-is_memory-clause-fault
returns-else-is_memory-clause-fault c = no_json c.args.body.now (c.in-Err.ensures.err (λ memory. true≢false (sym (c.is_memory.ensures.1 memory) ∙ c.if-is_memory.false)))

-- The answer that tells each reply of the registry.
use Rattle.std.specs.Prelude.{Some, None}
use Rattle.registry_core.specs.declared.answer.CreateAnswer.{CreateAnswer}
use Rattle.registry_core.specs.declared.answer.CreateAnswer.TheVariants as created
use Rattle.registry_core.specs.declared.answer.ChangeAnswer.{ChangeAnswer}
use Rattle.registry_core.specs.declared.answer.ChangeAnswer.TheVariants as changed
use Rattle.registry_core.specs.Replies as registry
use Rattle.rpc_answers.specs.declared.answer.Answer.{Answer}
use Rattle.rpc_answers.specs.declared.answer.Answer.TheVariants as answer

abbrev pub create_answer : CreateAnswer → Answer
create_answer (created.Made source) = answer.Source source
create_answer (created.BadName at) = answer.BadName at
create_answer (created.BadUri at) = answer.BadUri at
create_answer (created.NameTaken id) = answer.NameTaken id
create_answer (created.IdTaken name) = answer.IdTaken name
create_answer (created.Full what have limit) = answer.Full what have limit
create_answer created.OutOfMemory = answer.OutOfMemory
create_answer created.DiskFault = answer.DiskFault

abbrev pub change_answer : ChangeAnswer → Answer
change_answer (changed.Done source) = answer.Source source
change_answer changed.NoSuchName = answer.NoSource
change_answer (changed.BadName at) = answer.BadName at
change_answer (changed.NameTaken id) = answer.NameTaken id
change_answer (changed.Full what have limit) = answer.Full what have limit
change_answer changed.OutOfMemory = answer.OutOfMemory
change_answer changed.DiskFault = answer.DiskFault

abbrev pub registry_answer : registry.RegistryReply → Answer
registry_answer (registry.answered made) = create_answer made
registry_answer (registry.changed done) = change_answer done
registry_answer (registry.found None) = answer.NoSource
registry_answer (registry.found (Some source)) = answer.Source source
registry_answer (registry.listed sources) = answer.Sources (record { items = sources; spare = 0 })

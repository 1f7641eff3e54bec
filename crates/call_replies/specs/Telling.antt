-- The answer that tells each reply of a log, each fault of a text and each refusal of a request.
use Rattle.std.specs.Prelude.{ℕ, ◌^◌, List, Option, Some, None, nat_lt, if◌then◌else◌}
use Rattle.chain_core.specs.Replies as log
use Rattle.chain_core.specs.declared.answer.LogAnswer.{LogAnswer}
use Rattle.chain_core.specs.declared.answer.LogAnswer.TheVariants as appended
use Rattle.patch_meaning.specs.Names.{fault_name}
use Rattle.patch_meaning.specs.declared.fault.PatchFault.{PatchFault}
use Rattle.patch_meaning.specs.declared.fault.PatchFault.TheVariants as fault
use Rattle.patch_log.specs.declared.run.RunFault.{RunFault}
use Rattle.patch_log.specs.declared.run.RunFault.TheVariants as run
use Rattle.rpc_answers.specs.declared.answer.Answer.{Answer}
use Rattle.rpc_answers.specs.declared.answer.Answer.TheVariants as answer
use Rattle.rpc_calls.specs.Outcomes.{CallRefusal, no_route, media, bad_json, bad_method, bad_call}

-- a version past 32 bits is one that no log has, as 0 is
abbrev pub version_within : ℕ → ℕ
version_within version = if nat_lt version (2 ^ 32) then version else 0

abbrev pub append_answer : LogAnswer → Answer
append_answer (appended.Accepted version) = answer.Version version
append_answer (appended.AcceptedRun first version) = answer.Run first version
append_answer (appended.Known version same) = answer.Known version same
append_answer (appended.Conflict version head prev_version) =
    answer.Conflict version head prev_version
append_answer (appended.Full what have limit) = answer.Full what have limit
append_answer appended.DiskFault = answer.DiskFault
append_answer appended.OutOfMemory = answer.OutOfMemory

abbrev pub log_answer : log.LogReply → Answer
log_answer (log.answered made) = append_answer made
log_answer (log.found patch) = answer.Patch patch.text
log_answer (log.missing version) = answer.NoPatch version
log_answer (log.described version head) = answer.Info version head
log_answer (log.counted version) = answer.Version version

-- the place of a patch's fault; of a text that is too long its length
abbrev pub patch_answer : PatchFault → Answer
patch_answer (fault.At at kind) = answer.BadPatch at (fault_name (fault.At at kind))
patch_answer (fault.TooLong length limit) =
    answer.BadPatch length (fault_name (fault.TooLong length limit))
patch_answer fault.OutOfMemory = answer.OutOfMemory

-- a run that is too long or no stream of patches is refused as a patch is
abbrev pub run_answer : RunFault → Answer
run_answer (run.TooLong length limit) = patch_answer (fault.TooLong length limit)
run_answer (run.Patch why) = patch_answer why
run_answer (run.BadRun at) = answer.BadRun at
run_answer run.OutOfMemory = answer.OutOfMemory

abbrev pub refusal_answer : CallRefusal → Answer
refusal_answer no_route = answer.NoRoute
refusal_answer media = answer.Media
refusal_answer bad_json = answer.BadJson
refusal_answer (bad_method methods) = answer.BadMethod
refusal_answer (bad_call member) = answer.BadCall member

-- the methods that are told beside a refusal
abbrev pub methods_told : CallRefusal → Option (List ℕ)
methods_told (bad_method methods) = Some methods
methods_told no_route = None
methods_told media = None
methods_told bad_json = None
methods_told (bad_call member) = None

use Rattle.std.proofs.Common.{List, ℕ, None, subst, sym}
use Rattle.patch_meaning.specs.declared.fault.PatchFault.{PatchFault}
use Rattle.patch_meaning.specs.declared.fault.PatchFault.TheVariants as fault
use Rattle.rpc_answers.specs.declared.answer.Answer.TheVariants.{BadPatch}
use Rattle.call_replies.specs.Says.{Says}
use Rattle.call_replies.specs.Telling.{patch_answer}
use Rattle.call_replies.proofs.refusing.say_fault.Goals as goal

pub returns-in-At-clause-says : goal.returns-in-At-clause-says
returns-in-At-clause-says c =
    let says : Says (patch_answer (fault.At c.in-At.at c.in-At.kind)) None c.say_place.result =
    subst (λ (n : List ℕ). Says (BadPatch c.in-At.at n) None c.say_place.result) c.name.ensures c.say_place.ensures.says in
    subst (λ (f : PatchFault). Says (patch_answer f) None c.say_place.result) (sym c.in-At.is) says

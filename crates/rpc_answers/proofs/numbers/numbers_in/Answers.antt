use Rattle.std.proofs.Common.{rules, ℕ, Bool, Option}
use Rattle.serde_json.specs.Data.{Data}
use Rattle.delta_base.specs.declared.id.Id.{Id}
use Rattle.log_base.specs.declared.limits.FullKind.{FullKind}
use Rattle.rpc_answers.specs.declared.answer.Answer.{Answer}
use Rattle.rpc_answers.specs.declared.answer.Answer.TheVariants as answer
use Rattle.rpc_answers.specs.Parts.{IsRowOf, IsOfNumbers, IsPlaced}
use Rattle.rpc_answers.proofs.numbers.numbers_in.Goals as goal

-- with none of these, none at all
none_of : (status : ℕ) (value : Data)
    → ((version : ℕ) (head : Option Id) → IsRowOf status value (answer.Info version head) → ⊥)
    → ((version : ℕ) → IsRowOf status value (answer.Version version) → ⊥)
    → ((first version : ℕ) → IsRowOf status value (answer.Run first version) → ⊥)
    → ((version : ℕ) → IsRowOf status value (answer.NoPatch version) → ⊥)
    → ((a : Answer) → IsPlaced a → IsRowOf status value a → ⊥)
    → ((version : ℕ) (same : Bool) → IsRowOf status value (answer.Known version same) → ⊥)
    → ((version : ℕ) (head : Option Id) (prev_version : Option ℕ) → IsRowOf status value (answer.Conflict version head prev_version) → ⊥)
    → ((id : Id) → IsRowOf status value (answer.NameTaken id) → ⊥)
    → ((what : FullKind) (have limit : ℕ) → IsRowOf status value (answer.Full what have limit) → ⊥)
    → (a : Answer) → IsOfNumbers a → IsRowOf status value a → ⊥
none_of status value n0 n1 n2 n3 n4 n5 n6 n7 n8 (answer.Info version head) here = n0 version head
none_of status value n0 n1 n2 n3 n4 n5 n6 n7 n8 (answer.Version version) here = n1 version
none_of status value n0 n1 n2 n3 n4 n5 n6 n7 n8 (answer.Run first version) here = n2 first version
none_of status value n0 n1 n2 n3 n4 n5 n6 n7 n8 (answer.NoPatch version) here = n3 version
none_of status value n0 n1 n2 n3 n4 n5 n6 n7 n8 (answer.BadRun at) here = n4 (answer.BadRun at) tt
none_of status value n0 n1 n2 n3 n4 n5 n6 n7 n8 (answer.BadName at) here = n4 (answer.BadName at) tt
none_of status value n0 n1 n2 n3 n4 n5 n6 n7 n8 (answer.BadUri at) here = n4 (answer.BadUri at) tt
none_of status value n0 n1 n2 n3 n4 n5 n6 n7 n8 (answer.Known version same) here = n5 version same
none_of status value n0 n1 n2 n3 n4 n5 n6 n7 n8 (answer.Conflict version head prev_version) here = n6 version head prev_version
none_of status value n0 n1 n2 n3 n4 n5 n6 n7 n8 (answer.NameTaken id) here = n7 id
none_of status value n0 n1 n2 n3 n4 n5 n6 n7 n8 (answer.Full what have limit) here = n8 what have limit
none_of status value n0 n1 n2 n3 n4 n5 n6 n7 n8 other here = absurd here

pub returns-clause-none : goal.returns-clause-none
returns-clause-none c =
    none_of _ _ (search rules) (search rules) (search rules) (search rules) (search rules) (search rules) (search rules) (search rules) (search rules)

-- The calls by which a zone catches up, and what is said to them where it takes patches.
use Rattle.std.specs.Prelude.{ℕ, ◌+◌, List, [], ◌∷◌, ◌++◌, Option, Ok}
use Rattle.delta_base.specs.declared.id.Id.{Id}
use Rattle.patch_meaning.specs.Checked.{CheckedPatch, checked_texts}
use Rattle.rpc_answers.specs.declared.answer.Answer.TheVariants as answer
use Rattle.rpc_calls.specs.declared.call.Call.{Call}
use Rattle.rpc_calls.specs.declared.call.Call.TheVariants as calls
use Rattle.delta_client.specs.Exchanges.{WasSaid}
use Rattle.catch_up.specs.Runs.{texts_said}

-- a fetch for each of these, from this version on
abbrev pub fetches : {A : Type 0} → List ℕ → ℕ → List A → List Call
fetches name from [] = []
fetches name from (one ∷ more) = calls.FetchVersion name from ∷ fetches name (from + 1) more

-- a call for each of these: for the log, and then for each version behind this one
abbrev pub calls_of : {A : Type 0} → List ℕ → ℕ → List A → List Call
calls_of name mine [] = []
calls_of name mine (one ∷ more) = calls.Log name ∷ fetches name (mine + 1) more

-- the log has this version and head, then the text of each of these patches came, and then this was
-- said
abbrev pub came : ℕ → Option Id → List CheckedPatch → List WasSaid → List WasSaid
came theirs head more last =
    Ok (answer.Info theirs head) ∷ (texts_said (checked_texts more) ++ last)

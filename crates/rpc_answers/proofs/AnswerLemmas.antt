-- The bodies of answers, as JSON's printer needs them: without floats, and of few levels.
use Rattle.std.proofs.Common.{◌≡◌, ◌∙◌, ◌≤◌, ℕ, List, [], ◌∷◌, ◌||◌, false, Some, None, IsUtf8, map, refl, ap, sym, subst, arith}
use Rattle.serde_json.specs.Data.{Data, depth, items_depth}
use Rattle.serde_json.specs.Read.{read}
use Rattle.serde_json.specs.View.{items_of}
use Rattle.serde_json.specs.Written.{compact_text, has_float, items_have_float}
use Rattle.log_base.specs.declared.source_info.SourceInfo.{SourceInfo}
use Rattle.rpc_answers.specs.declared.answer.Answer.{Answer}
use Rattle.rpc_answers.specs.declared.answer.Answer.TheVariants as answer
use Rattle.rpc_answers.specs.Values.{source_data}
use Rattle.rpc_answers.specs.Answers.{Body, json, patch, body_of}
use Rattle.rpc_answers.specs.Parts.{IsValueOf}
use Rattle.rpc_answers.specs.Prints.{IsBodyText, compact}

-- without floats, and of few levels
abbrev pub IsFlat : Data → Type 0
IsFlat value = (has_float value ≡ false) × (depth value ≤ 127)

sources-no_float : (sources : List SourceInfo) → items_have_float (items_of (map source_data sources)) ≡ false
sources-no_float [] = refl
sources-no_float (source ∷ sources) = sources-no_float sources

sources-depth : (sources : List SourceInfo) → items_depth (items_of (map source_data sources)) ≤ 1
sources-depth [] = omega arith
sources-depth (source ∷ sources) = let more = sources-depth sources in omega (arith, more)

abbrev IsFlatBody : Body → Type 0
IsFlatBody (json value) = IsFlat value
IsFlatBody (patch text) = Unit {0}

flat_body : (a : Answer) → IsFlatBody (body_of a)
flat_body answer.Pong = (refl, omega arith)
flat_body (answer.Sources sources) = (ap (λ b. b || false) (sources-no_float sources.items), let few = sources-depth sources.items in omega (arith, few))
flat_body (answer.Source source) = (refl, omega arith)
flat_body (answer.Info version None) = (refl, omega arith)
flat_body (answer.Info version (Some id)) = (refl, omega arith)
flat_body (answer.Version version) = (refl, omega arith)
flat_body (answer.Run first version) = (refl, omega arith)
flat_body (answer.Patch text) = tt
flat_body answer.NoRoute = (refl, omega arith)
flat_body answer.NoSource = (refl, omega arith)
flat_body (answer.NoPatch version) = (refl, omega arith)
flat_body answer.BadMethod = (refl, omega arith)
flat_body answer.Media = (refl, omega arith)
flat_body answer.BadJson = (refl, omega arith)
flat_body (answer.BadCall name) = (refl, omega arith)
flat_body (answer.BadPatch at kind) = (refl, omega arith)
flat_body (answer.BadRun at) = (refl, omega arith)
flat_body (answer.BadName at) = (refl, omega arith)
flat_body (answer.BadUri at) = (refl, omega arith)
flat_body (answer.Known version same) = (refl, omega arith)
flat_body (answer.Conflict version None None) = (refl, omega arith)
flat_body (answer.Conflict version None (Some before)) = (refl, omega arith)
flat_body (answer.Conflict version (Some id) None) = (refl, omega arith)
flat_body (answer.Conflict version (Some id) (Some before)) = (refl, omega arith)
flat_body (answer.NameTaken id) = (refl, omega arith)
flat_body (answer.IdTaken name) = (refl, omega arith)
flat_body (answer.Full what have limit) = (refl, omega arith)
flat_body answer.DiskFault = (refl, omega arith)
flat_body answer.OutOfMemory = (refl, omega arith)
flat_body (answer.BadRequest kind) = (refl, omega arith)

flat_value : (body : Body) → IsFlatBody body → (value : Data) → IsValueOf value body → IsFlat value
flat_value (json wanted) flat value is = subst IsFlat (sym is) flat
flat_value (patch text) flat value is = absurd is

-- the value of an answer's body is flat
pub answer_flat : (a : Answer) (value : Data) → IsValueOf value (body_of a) → IsFlat value
answer_flat a value is = flat_value (body_of a) (flat_body a) value is

-- its compact text is that of the body
pub compact_is : (body : Body) (value : Data) → IsValueOf value body → compact_text value ≡ compact body
compact_is (json wanted) value is = ap compact_text is
compact_is (patch text) value is = absurd is

-- a text that reads as the value is one of the body
pub reads_is : (body : Body) (value : Data) (text : List ℕ) → IsValueOf value body → IsUtf8 text → read text ≡ Some value → IsBodyText text body
reads_is (json wanted) value text is utf8 reads = (utf8, reads ∙ ap (λ (v : Data). Some v) is)
reads_is (patch it) value text is utf8 reads = absurd is

-- The JSON object that a body is.
use Rattle.std.proofs.Common.{◌≡◌, ◌∙◌, ℕ, List, Bool, true, false, Option, Some, None, Result, Err, IsUtf8, is_some, true≢false, refl, sym, ap, if◌then◌else◌}
use Rattle.std.proofs.lemmas.Str.{is_utf8-from_IsUtf8, IsUtf8-from_is_utf8}
use Rattle.std.specs.Str.{is_utf8}
use Rattle.serde_json.specs.Data.{Data, object, null, boolean, number, string, array}
use Rattle.serde_json.specs.Find.{as_object}
use Rattle.serde_json.specs.Read.{read}
use Rattle.rpc_calls.specs.Calls.{asked_in, asked_by}
use Rattle.rpc_calls.specs.Outcomes.{AnswersCall, IsFaultOf}
use Rattle.rpc_calls.specs.Services.{object_at, object_in, IsNoObject}
use Rattle.rpc_calls.specs.declared.call.CallFault.{CallFault}
use Rattle.rpc_calls.specs.declared.call.CallFault.TheVariants as fault
use Rattle.rpc_calls.specs.declared.surface.Surface.{Surface}

-- a body that reads as a value
pub object_by_text : (body : List ℕ) (found : Option Data) → IsUtf8 body → read body ≡ found → object_in body ≡ object_at found
object_by_text body found utf8 is =
    ap (λ b. if b then object_at (read body) else None) (is_utf8-from_IsUtf8 body utf8) ∙ ap object_at is

-- a value that is an object
pub an_object : (value : Data) → is_some (as_object value) ≡ true → object_at (Some value) ≡ Some value
an_object null is = absurd (true≢false (sym is))
an_object (boolean b) is = absurd (true≢false (sym is))
an_object (number n) is = absurd (true≢false (sym is))
an_object (string s) is = absurd (true≢false (sym is))
an_object (array items) is = absurd (true≢false (sym is))
an_object (object found) is = refl

-- and one that is none
pub no_object : (value : Data) → is_some (as_object value) ≡ false → object_at (Some value) ≡ None
no_object null is = refl
no_object (boolean b) is = refl
no_object (number n) is = refl
no_object (string s) is = refl
no_object (array items) is = refl
no_object (object found) is = absurd (true≢false is)

-- a body that isn't UTF-8, or reads as nothing
pub no_json : (body : List ℕ) → (IsUtf8 body → read body ≡ None) → object_in body ≡ None
no_json body none = by_test (is_utf8 body) refl
  where
    by_test : (test : Bool) → is_utf8 body ≡ test → (if test then object_at (read body) else None) ≡ None
    by_test true is = ap object_at (none (IsUtf8-from_is_utf8 body is))
    by_test false is = refl

-- a body that is no object asks nothing
pub asks_nothing : (surface : Surface) (body : List ℕ) (why : CallFault) → IsNoObject why body → IsFaultOf why (asked_by surface body)
asks_nothing surface body fault.BadJson is = ap (asked_in surface) is
asks_nothing surface body fault.OutOfMemory is = tt
asks_nothing surface body fault.NoRoute is = absurd is
asks_nothing surface body fault.Media is = absurd is
asks_nothing surface body (fault.BadMethod methods) is = absurd is
asks_nothing surface body (fault.BadCall member) is = absurd is

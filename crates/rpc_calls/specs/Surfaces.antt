-- Surfaces: which calls a server takes.
use Rattle.std.specs.Prelude.{ℕ, Bool, true, false, ◌||◌, List, codes, ⊤}
use Rattle.std.specs.Str.{bytes_eq}
use Rattle.rpc_calls.specs.declared.call.Call.{Call}
use Rattle.rpc_calls.specs.declared.call.Call.TheVariants as call
use Rattle.rpc_calls.specs.declared.surface.Surface.{Surface}
use Rattle.rpc_calls.specs.declared.surface.Surface.TheVariants.{Hall, Mirror}

-- a mirror takes no patches of clients
abbrev pub takes_appends : Surface → Bool
takes_appends Hall = true
takes_appends Mirror = false

-- the operations of a mirror read its log
abbrev pub has_operation : Surface → List ℕ → Bool
has_operation Hall word = true
has_operation Mirror word =
    bytes_eq word (codes "ping") || bytes_eq word (codes "log") || bytes_eq word (codes "version")
    || bytes_eq word (codes "fetch_version") || bytes_eq word (codes "fetch_id")

-- a call that a mirror takes
abbrev pub IsMirrorCall : Call → Type 0
IsMirrorCall call.Ping = ⊤
IsMirrorCall (call.Log name) = ⊤
IsMirrorCall (call.Version name) = ⊤
IsMirrorCall (call.FetchVersion name version) = ⊤
IsMirrorCall (call.FetchId name id) = ⊤
IsMirrorCall other = ⊥

-- The commands, and the words that ask for them.
use Rattle.std.specs.Prelude.{◌≡◌, ℕ, ◌≤◌, true, List}
use Rattle.std.specs.Prelude.{[], ◌∷◌, None, Some, codes}
use Rattle.std.specs.Fmt.{decimal}
use Rattle.command_tables.specs.Positions.{ArePlain, IsPlainWord}
use Rattle.delta_base.specs.Ids.{number_of, random_id}
use Rattle.delta_base.specs.declared.id.Id.{Id}
use Rattle.rpc_calls.specs.Routes.{version_asked}
use Rattle.rpc_calls.specs.declared.call.Call.{Call}
use Rattle.rpc_calls.specs.declared.call.Call.TheVariants as calls
use Rattle.pattern_words.specs.Words.{IsPatternOf}
use Rattle.zone_commands.specs.declared.reading.Reading.{Reading}
use Rattle.zone_commands.specs.declared.reading.Reading.TheVariants as readings
use Rattle.command_tables.specs.Addresses.{IsAddress}
use Rattle.delta_cli.specs.declared.append.Appended.{Appended}
use Rattle.delta_cli.specs.declared.append.Appended.TheVariants as appended
use Rattle.delta_cli.specs.declared.command.Command.{Command}
use Rattle.delta_cli.specs.declared.command.Command.TheVariants as commands
use Rattle.command_tables.specs.declared.name.Name.{Name}
use Rattle.command_tables.specs.declared.name.Name.TheVariants as names
use Rattle.command_tables.specs.declared.refusal.Refusal.{Refusal}
use Rattle.command_tables.specs.declared.refusal.Refusal.TheVariants as refusals
use Rattle.command_tables.specs.Names.{BeginsWith, asks_server}

-- the words are a command's and these, none of which begins with `-`
abbrev pub AreCommandWords : List (List ℕ) → List ℕ → List (List ℕ) → Type 0
AreCommandWords words command rest = (words ≡ command ∷ rest) × ArePlain rest

-- the id that a text names, in one of the four forms
abbrev pub NamesId : List ℕ → Id → Type 0
NamesId text id = number_of text ≡ Some id.0

-- The words ask a server at the address for this. A source is created with an id made of the dice.
-- A patch is fetched by a version of 1 to 10 digits, or by an id.
abbrev pub AsksFor : List (List ℕ) → ℕ → List ℕ → Call → Type 0
AsksFor words dice address calls.Ping = AreCommandWords words (codes "ping") (address ∷ [])
AsksFor words dice address calls.List = AreCommandWords words (codes "list") (address ∷ [])
AsksFor words dice address (calls.Create name uri id) =
    AreCommandWords words (codes "create") (address ∷ name ∷ uri ∷ [])
    × (id ≡ Some (random_id dice))
AsksFor words dice address (calls.Rename name new_name) =
    AreCommandWords words (codes "rename") (address ∷ name ∷ new_name ∷ [])
AsksFor words dice address (calls.Remove name) =
    AreCommandWords words (codes "remove") (address ∷ name ∷ [])
AsksFor words dice address (calls.Version name) =
    AreCommandWords words (codes "version") (address ∷ name ∷ [])
AsksFor words dice address (calls.FetchVersion name version) =
    (which : List ℕ) × AreCommandWords words (codes "fetch") (address ∷ name ∷ which ∷ [])
    × (version_asked which ≡ Some version)
AsksFor words dice address (calls.FetchId name id) =
    (which : List ℕ) × AreCommandWords words (codes "fetch") (address ∷ name ∷ which ∷ [])
    × (version_asked which ≡ None) × NamesId which id
AsksFor words dice address other = ⊥

-- the words ask for what is read of the zone of a directory
abbrev pub AsksToRead : List (List ℕ) → List ℕ → Reading → Type 0
AsksToRead words dir readings.Dump = AreCommandWords words (codes "dump") (dir ∷ [])
AsksToRead words dir readings.Prefixes = AreCommandWords words (codes "prefixes") (dir ∷ [])
AsksToRead words dir (readings.Match pattern) =
    (g s p o : List ℕ) × AreCommandWords words (codes "match") (dir ∷ g ∷ s ∷ p ∷ o ∷ [])
    × IsPatternOf g s p o pattern

-- the word of the command that appends this
abbrev pub append_word : Appended → List ℕ
append_word appended.Patch = codes "append"
append_word appended.Run = codes "append_run"

-- the versions from the one to the other, of the first 65,536
abbrev pub IsSpan : ℕ → ℕ → Type 0
IsSpan from to = (1 ≤ from) × (from ≤ to) × (to ≤ 65536)

-- The words ask for this command, with these dice. Numbers are decimal, without sign and leading
-- zeros; a directory doesn't begin with `-`.
abbrev pub Asks : List (List ℕ) → ℕ → Command → Type 0
Asks words dice commands.Replay = words ≡ codes "replay" ∷ []
Asks words dice (commands.Squash from to) =
    (words ≡ codes "squash" ∷ decimal from ∷ decimal to ∷ []) × IsSpan from to
Asks words dice (commands.Invert id) =
    (text : List ℕ) × AreCommandWords words (codes "invert") (text ∷ []) × NamesId text id
Asks words dice commands.Nquads = words ≡ codes "nquads" ∷ []
Asks words dice (commands.Gen patches) =
    (words ≡ codes "gen" ∷ decimal patches ∷ []) × (patches ≤ 65536)
Asks words dice (commands.Emit patches) =
    (words ≡ codes "emit" ∷ decimal patches ∷ []) × (patches ≤ 65536)
Asks words dice (commands.Init dir slots) =
    (words ≡ codes "init" ∷ dir ∷ decimal slots ∷ []) × IsPlainWord dir × (1 ≤ slots) × (slots ≤ 16)
Asks words dice (commands.Check dir) = (words ≡ codes "check" ∷ dir ∷ []) × IsPlainWord dir
Asks words dice (commands.Upgrade dir) = (words ≡ codes "upgrade" ∷ dir ∷ []) × IsPlainWord dir
Asks words dice (commands.Zone dir) = AreCommandWords words (codes "zone") (dir ∷ [])
Asks words dice (commands.Read dir reading) = AsksToRead words dir reading
Asks words dice (commands.Sync dir address name) =
    AreCommandWords words (codes "sync") (dir ∷ address ∷ name ∷ []) × IsAddress address
Asks words dice (commands.Checkpoint dir) = AreCommandWords words (codes "checkpoint") (dir ∷ [])
Asks words dice (commands.UpgradeZone dir) = AreCommandWords words (codes "upgrade_zone") (dir ∷ [])
Asks words dice (commands.Ask address call) = AsksFor words dice address call × IsAddress address
Asks words dice (commands.Describe address name) =
    AreCommandWords words (codes "describe") (address ∷ name ∷ []) × IsAddress address
Asks words dice (commands.Append what address name) =
    AreCommandWords words (append_word what) (address ∷ name ∷ []) × IsAddress address
Asks words dice commands.Help = words ≡ codes "--help" ∷ []
Asks words dice commands.Version = words ≡ codes "--version" ∷ []

-- the numbers of a command are within their bounds, and the server that it asks has an address
abbrev pub Fits : Command → Type 0
Fits (commands.Squash from to) = IsSpan from to
Fits (commands.Gen patches) = patches ≤ 65536
Fits (commands.Emit patches) = patches ≤ 65536
Fits (commands.Init dir slots) = (1 ≤ slots) × (slots ≤ 16)
Fits (commands.Sync dir address name) = IsAddress address
Fits (commands.Ask address call) = IsAddress address
Fits (commands.Describe address name) = IsAddress address
Fits (commands.Append what address name) = IsAddress address
Fits other = Unit {0}

-- they ask for no command, whatever the dice
abbrev pub AsksNothing : List (List ℕ) → Type 0
AsksNothing words = (dice : ℕ) (c : Command) → Asks words dice c → ⊥

-- the name is that of one of these commands; `serve` is the command of another call
abbrev pub IsOfTool : Name → Type 0
IsOfTool names.Serve = ⊥
IsOfTool other = Unit {0}

-- the command is one call to a server, with no input
abbrev pub IsOfCall : Name → Type 0
IsOfCall names.Describe = ⊥
IsOfCall names.Append = ⊥
IsOfCall names.AppendRun = ⊥
IsOfCall other = asks_server other ≡ true

-- why words ask for no command; want of memory is free
abbrev pub RefusesWords : List (List ℕ) → Refusal → Type 0
RefusesWords words refusals.UnknownCommand =
    AsksNothing words × ((name : Name) → BeginsWith words name → IsOfTool name → ⊥)
RefusesWords words (refusals.Usage name) = AsksNothing words × BeginsWith words name × IsOfTool name
RefusesWords words refusals.OutOfMemory = Unit {0}
RefusesWords words other = ⊥

-- Words, and the commands that they ask for.
use Rattle.std.proofs.Common.{◌≡◌, ℕ, ◌+◌, List, [], ◌∷◌, length, get_or, drop, Some, None, refl, sym, ap, subst, ◌∙◌, arith, true, false, true≢false}
use Rattle.std.specs.Prelude.{codes}
use Rattle.std.specs.List.{All}
use Rattle.std.specs.Fmt.{decimal}
use Rattle.std.proofs.lemmas.List.Elements.{All-nil, All-cons}
use Rattle.command_tables.specs.Positions.{ArePlain, FitPositions, IsPlainWord}
use Rattle.rpc_calls.specs.declared.call.Call.{Call}
use Rattle.rpc_calls.specs.declared.call.Call.TheVariants as calls
use Rattle.dataset_tx.specs.declared.pattern.Pattern.{Pattern}
use Rattle.pattern_words.specs.Words.{IsPatternOf}
use Rattle.zone_commands.specs.declared.reading.Reading.{Reading}
use Rattle.zone_commands.specs.declared.reading.Reading.TheVariants as readings
use Rattle.delta_base.specs.Ids.{number_of}
use Rattle.delta_cli.specs.declared.append.Appended.{Appended}
use Rattle.delta_cli.specs.declared.append.Appended.TheVariants as appended
use Rattle.delta_cli.specs.declared.command.Command.{Command}
use Rattle.delta_cli.specs.declared.command.Command.TheVariants as commands
use Rattle.command_tables.specs.declared.name.Name.{Name}
use Rattle.command_tables.specs.declared.name.Name.TheVariants as names
use Rattle.command_tables.specs.Addresses.{IsAddress}
use Rattle.command_tables.specs.Names.{BeginsWith, FitsName, IsNamed, asks_server, positions_of}
use Rattle.delta_cli.specs.Commands.{AreCommandWords, Asks, AsksFor, AsksNothing, AsksToRead, IsOfTool, IsSpan}
use Rattle.command_tables.specs.Names.{name_text}
use Rattle.command_tables.proofs.Words.{plain_number, same_name, first_is}

-- ---- commands

-- the command of a call; those that no words ask for count as another one
abbrev name_of_call : Call → Name
name_of_call calls.List = names.List
name_of_call (calls.Create name uri id) = names.Create
name_of_call (calls.Rename name new_name) = names.Rename
name_of_call (calls.Remove name) = names.Remove
name_of_call (calls.Version name) = names.LogVersion
name_of_call (calls.FetchVersion name version) = names.Fetch
name_of_call (calls.FetchId name id) = names.Fetch
name_of_call other = names.Ping

abbrev name_of_reading : Reading → Name
name_of_reading readings.Dump = names.Dump
name_of_reading readings.Prefixes = names.Prefixes
name_of_reading (readings.Match pattern) = names.Match

abbrev append_name : Appended → Name
append_name appended.Patch = names.Append
append_name appended.Run = names.AppendRun

abbrev name_of : Command → Name
name_of commands.Replay = names.Replay
name_of (commands.Squash from to) = names.Squash
name_of (commands.Invert id) = names.Invert
name_of commands.Nquads = names.Nquads
name_of (commands.Gen patches) = names.Gen
name_of (commands.Emit patches) = names.Emit
name_of (commands.Init dir slots) = names.Init
name_of (commands.Check dir) = names.Check
name_of (commands.Upgrade dir) = names.Upgrade
name_of (commands.Zone dir) = names.Zone
name_of (commands.Read dir reading) = name_of_reading reading
name_of (commands.Sync dir address name) = names.Sync
name_of (commands.Checkpoint dir) = names.Checkpoint
name_of (commands.UpgradeZone dir) = names.UpgradeZone
name_of (commands.Ask address call) = name_of_call call
name_of (commands.Describe address name) = names.Describe
name_of (commands.Append what address name) = append_name what
name_of commands.Help = names.Help
name_of commands.Version = names.Version

none_plain : All IsPlainWord []
none_plain = All-nil IsPlainWord

one_plain : (a : List ℕ) → IsPlainWord a → All IsPlainWord (a ∷ [])
one_plain a x = All-cons IsPlainWord a [] x none_plain

alone : (words : List (List ℕ)) (name : Name) → positions_of name ≡ [] → words ≡ name_text name ∷ [] → FitsName words name
alone words name none is = subst (λ (ws : List (List ℕ)). FitsName ws name) (sym is) (([], refl), (none_plain, ap (λ (ps : List (List ℕ)). length ps + 1) (sym none)))

fits_words : (words : List (List ℕ)) (name : Name) (rest : List (List ℕ)) → AreCommandWords words (name_text name) rest → length rest ≡ length (positions_of name) → FitsName words name
fits_words words name rest are same = subst (λ (ws : List (List ℕ)). FitsName ws name) (sym are.0) ((rest, refl), (are.1, omega (arith, same)))

call_fits : (words : List (List ℕ)) (dice : ℕ) (address : List ℕ) (call : Call) → AsksFor words dice address call → FitsName words (name_of_call call)
call_fits words dice address calls.Ping asks = fits_words words names.Ping (address ∷ []) asks refl
call_fits words dice address calls.List asks = fits_words words names.List (address ∷ []) asks refl
call_fits words dice address (calls.Create name uri id) asks = fits_words words names.Create (address ∷ name ∷ uri ∷ []) asks.0 refl
call_fits words dice address (calls.Rename name new_name) asks = fits_words words names.Rename (address ∷ name ∷ new_name ∷ []) asks refl
call_fits words dice address (calls.Remove name) asks = fits_words words names.Remove (address ∷ name ∷ []) asks refl
call_fits words dice address (calls.Version name) asks = fits_words words names.LogVersion (address ∷ name ∷ []) asks refl
call_fits words dice address (calls.FetchVersion name version) asks = fits_words words names.Fetch (address ∷ name ∷ asks.0 ∷ []) asks.1 refl
call_fits words dice address (calls.FetchId name id) asks = fits_words words names.Fetch (address ∷ name ∷ asks.0 ∷ []) asks.1 refl
call_fits words dice address (calls.Source name) asks = absurd asks
call_fits words dice address (calls.SourceById id) asks = absurd asks
call_fits words dice address (calls.SourceByUri uri) asks = absurd asks
call_fits words dice address (calls.Log name) asks = absurd asks
call_fits words dice address (calls.Append name patch) asks = absurd asks
call_fits words dice address (calls.AppendRun name patches) asks = absurd asks

reading_fits : (words : List (List ℕ)) (dir : List ℕ) (reading : Reading) → AsksToRead words dir reading → FitsName words (name_of_reading reading)
reading_fits words dir readings.Dump asks = fits_words words names.Dump (dir ∷ []) asks refl
reading_fits words dir readings.Prefixes asks = fits_words words names.Prefixes (dir ∷ []) asks refl
reading_fits words dir (readings.Match pattern) asks = fits_words words names.Match (dir ∷ asks.0 ∷ asks.1 ∷ asks.2 ∷ asks.3 ∷ []) asks.4 refl

-- the words of a command fit its name
asks_fit : (words : List (List ℕ)) (dice : ℕ) (c : Command) → Asks words dice c → FitsName words (name_of c)
asks_fit words dice commands.Replay is = alone words names.Replay refl is
asks_fit words dice (commands.Squash from to) asks =
    subst (λ (ws : List (List ℕ)). FitsName ws names.Squash) (sym asks.0)
    ((decimal from ∷ decimal to ∷ [], refl), (All-cons IsPlainWord (decimal from) (decimal to ∷ []) (plain_number from (omega (arith, asks.1.1, asks.1.2))) (one_plain (decimal to) (plain_number to (omega (arith, asks.1.2)))), refl))
asks_fit words dice (commands.Invert id) asks = fits_words words names.Invert (asks.0 ∷ []) asks.1 refl
asks_fit words dice commands.Nquads is = alone words names.Nquads refl is
asks_fit words dice (commands.Gen patches) asks =
    subst (λ (ws : List (List ℕ)). FitsName ws names.Gen) (sym asks.0) ((decimal patches ∷ [], refl), (one_plain (decimal patches) (plain_number patches (omega (arith, asks.1))), refl))
asks_fit words dice (commands.Emit patches) asks =
    subst (λ (ws : List (List ℕ)). FitsName ws names.Emit) (sym asks.0) ((decimal patches ∷ [], refl), (one_plain (decimal patches) (plain_number patches (omega (arith, asks.1))), refl))
asks_fit words dice (commands.Init dir slots) asks =
    subst (λ (ws : List (List ℕ)). FitsName ws names.Init) (sym asks.0)
    ((dir ∷ decimal slots ∷ [], refl), (All-cons IsPlainWord dir (decimal slots ∷ []) asks.1 (one_plain (decimal slots) (plain_number slots (omega (arith, asks.3)))), refl))
asks_fit words dice (commands.Check dir) asks = subst (λ (ws : List (List ℕ)). FitsName ws names.Check) (sym asks.0) ((dir ∷ [], refl), (one_plain dir asks.1, refl))
asks_fit words dice (commands.Upgrade dir) asks = subst (λ (ws : List (List ℕ)). FitsName ws names.Upgrade) (sym asks.0) ((dir ∷ [], refl), (one_plain dir asks.1, refl))
asks_fit words dice (commands.Zone dir) asks = fits_words words names.Zone (dir ∷ []) asks refl
asks_fit words dice (commands.Read dir reading) asks = reading_fits words dir reading asks
asks_fit words dice (commands.Sync dir address name) asks = fits_words words names.Sync (dir ∷ address ∷ name ∷ []) asks.0 refl
asks_fit words dice (commands.Checkpoint dir) asks = fits_words words names.Checkpoint (dir ∷ []) asks refl
asks_fit words dice (commands.UpgradeZone dir) asks = fits_words words names.UpgradeZone (dir ∷ []) asks refl
asks_fit words dice (commands.Ask address call) asks = call_fits words dice address call asks.0
asks_fit words dice (commands.Describe address name) asks = fits_words words names.Describe (address ∷ name ∷ []) asks.0 refl
asks_fit words dice (commands.Append appended.Patch address name) asks = fits_words words names.Append (address ∷ name ∷ []) asks.0 refl
asks_fit words dice (commands.Append appended.Run address name) asks = fits_words words names.AppendRun (address ∷ name ∷ []) asks.0 refl
asks_fit words dice commands.Help is = alone words names.Help refl is
asks_fit words dice commands.Version is = alone words names.Version refl is

-- words that don't fit the name with which they begin ask for nothing
pub unfit : (words : List (List ℕ)) (name : Name) → BeginsWith words name → (FitPositions (positions_of name) words → ⊥) → AsksNothing words
unfit words name begins none dice c asks =
    let fits = asks_fit words dice c asks in
    none (subst (λ (n : Name). FitPositions (positions_of n) words) (same_name words (name_of c) name fits.0 begins) fits.1)

call_of_tool : (call : Call) → IsOfTool (name_of_call call)
call_of_tool calls.Ping = tt
call_of_tool calls.List = tt
call_of_tool (calls.Create name uri id) = tt
call_of_tool (calls.Rename name new_name) = tt
call_of_tool (calls.Remove name) = tt
call_of_tool (calls.Version name) = tt
call_of_tool (calls.FetchVersion name version) = tt
call_of_tool (calls.FetchId name id) = tt
call_of_tool (calls.Source name) = tt
call_of_tool (calls.SourceById id) = tt
call_of_tool (calls.SourceByUri uri) = tt
call_of_tool (calls.Log name) = tt
call_of_tool (calls.Append name patch) = tt
call_of_tool (calls.AppendRun name patches) = tt

reading_of_tool : (reading : Reading) → IsOfTool (name_of_reading reading)
reading_of_tool readings.Dump = tt
reading_of_tool readings.Prefixes = tt
reading_of_tool (readings.Match pattern) = tt

of_tool : (c : Command) → IsOfTool (name_of c)
of_tool commands.Replay = tt
of_tool (commands.Squash from to) = tt
of_tool (commands.Invert id) = tt
of_tool commands.Nquads = tt
of_tool (commands.Gen patches) = tt
of_tool (commands.Emit patches) = tt
of_tool (commands.Init dir slots) = tt
of_tool (commands.Check dir) = tt
of_tool (commands.Upgrade dir) = tt
of_tool (commands.Zone dir) = tt
of_tool (commands.Read dir reading) = reading_of_tool reading
of_tool (commands.Sync dir address name) = tt
of_tool (commands.Checkpoint dir) = tt
of_tool (commands.UpgradeZone dir) = tt
of_tool (commands.Ask address call) = call_of_tool call
of_tool (commands.Describe address name) = tt
of_tool (commands.Append appended.Patch address name) = tt
of_tool (commands.Append appended.Run address name) = tt
of_tool commands.Help = tt
of_tool commands.Version = tt

-- words that begin with no name of the tool ask for nothing
pub nameless : (words : List (List ℕ)) → ((name : Name) → BeginsWith words name → IsOfTool name → ⊥) → AsksNothing words
nameless words none dice c asks = none (name_of c) (asks_fit words dice c asks).0 (of_tool c)

-- words that begin with another name are none of the tool
pub served : (words : List (List ℕ)) → BeginsWith words names.Serve → (name : Name) → BeginsWith words name → IsOfTool name → ⊥
served words begins name named is = subst IsOfTool (same_name words name names.Serve named begins) is

-- ---- the first word

-- no words name nothing
pub no_word : (name : Name) → BeginsWith [] name → ⊥
no_word name begins = by begins.0 begins.1
  where
    by : (rest : List (List ℕ)) → [] ≡ name_text name ∷ rest → ⊥
    by rest e = cc

pub first_named : (words rest : List (List ℕ)) (first : List ℕ) (name : Name) → words ≡ first ∷ rest → IsNamed first (Some name) → BeginsWith words name
first_named words rest first name is named = (rest, is ∙ ap (λ (l : List ℕ). l ∷ rest) named)

pub first_nameless : (words rest : List (List ℕ)) (first : List ℕ) → words ≡ first ∷ rest → IsNamed first None → (name : Name) → BeginsWith words name → IsOfTool name → ⊥
first_nameless words rest first is none name begins named = none name (first_is first (name_text name) rest begins.0 (sym is ∙ begins.1))

-- ---- words that ask a server

cut_three : (words rest : List (List ℕ)) (x : List ℕ) → words ≡ x ∷ rest → length words ≡ 4 → ArePlain (drop 1 words) → AreCommandWords words x (get_or words 1 [] ∷ get_or words 2 [] ∷ get_or words 3 [] ∷ [])
cut_three words [] x is long plain = absurd (omega (arith, long, ap length is))
cut_three words (a ∷ []) x is long plain = absurd (omega (arith, long, ap length is))
cut_three words (a ∷ (b ∷ [])) x is long plain = absurd (omega (arith, long, ap length is))
cut_three words (a ∷ (b ∷ (d ∷ []))) x is long plain =
    subst (λ (ws : List (List ℕ)). ArePlain (drop 1 ws) → AreCommandWords ws x (get_or ws 1 [] ∷ get_or ws 2 [] ∷ get_or ws 3 [] ∷ [])) (sym is) (λ p. (refl, p)) plain
cut_three words (a ∷ (b ∷ (d ∷ (e ∷ rest)))) x is long plain = absurd (omega (arith, long, ap length is))

module _ (words : List (List ℕ)) (name : Name) (fits : FitsName words name) where
  three_words : length (positions_of name) ≡ 3 → AreCommandWords words (name_text name) (get_or words 1 [] ∷ get_or words 2 [] ∷ get_or words 3 [] ∷ [])
  three_words count = cut_three words fits.0.0 (name_text name) fits.0.1 (omega (arith, fits.1.1, count)) fits.1.0

  -- the words behind the name, of which two were taken
  pub three_are : length (positions_of name) ≡ 3 → (b d : List ℕ) → b ≡ get_or words 2 [] → d ≡ get_or words 3 [] → AreCommandWords words (name_text name) (get_or words 1 [] ∷ b ∷ d ∷ [])
  three_are count b d is_b is_d =
      subst (λ (t : List ℕ). AreCommandWords words (name_text name) (get_or words 1 [] ∷ b ∷ t ∷ [])) (sym is_d)
      (subst (λ (t : List ℕ). AreCommandWords words (name_text name) (get_or words 1 [] ∷ t ∷ get_or words 3 [] ∷ [])) (sym is_b) (three_words count))

-- ---- words that ask for the quads of a zone that match

cut_five : (words rest : List (List ℕ)) (x : List ℕ) → words ≡ x ∷ rest → length words ≡ 6 → ArePlain (drop 1 words)
    → AreCommandWords words x (get_or words 1 [] ∷ get_or words 2 [] ∷ get_or words 3 [] ∷ get_or words 4 [] ∷ get_or words 5 [] ∷ [])
cut_five words [] x is long plain = absurd (omega (arith, long, ap length is))
cut_five words (a ∷ []) x is long plain = absurd (omega (arith, long, ap length is))
cut_five words (a ∷ (b ∷ [])) x is long plain = absurd (omega (arith, long, ap length is))
cut_five words (a ∷ (b ∷ (d ∷ []))) x is long plain = absurd (omega (arith, long, ap length is))
cut_five words (a ∷ (b ∷ (d ∷ (e ∷ [])))) x is long plain = absurd (omega (arith, long, ap length is))
cut_five words (a ∷ (b ∷ (d ∷ (e ∷ (f ∷ []))))) x is long plain =
    subst (λ (ws : List (List ℕ)). ArePlain (drop 1 ws) → AreCommandWords ws x (get_or ws 1 [] ∷ get_or ws 2 [] ∷ get_or ws 3 [] ∷ get_or ws 4 [] ∷ get_or ws 5 [] ∷ [])) (sym is) (λ p. (refl, p)) plain
cut_five words (a ∷ (b ∷ (d ∷ (e ∷ (f ∷ (g ∷ rest)))))) x is long plain = absurd (omega (arith, long, ap length is))

call_asks : (call : Call) → asks_server (name_of_call call) ≡ true
call_asks calls.Ping = refl
call_asks calls.List = refl
call_asks (calls.Create name uri id) = refl
call_asks (calls.Rename name new_name) = refl
call_asks (calls.Remove name) = refl
call_asks (calls.Version name) = refl
call_asks (calls.FetchVersion name version) = refl
call_asks (calls.FetchId name id) = refl
call_asks (calls.Source name) = refl
call_asks (calls.SourceById id) = refl
call_asks (calls.SourceByUri uri) = refl
call_asks (calls.Log name) = refl
call_asks (calls.Append name patch) = refl
call_asks (calls.AppendRun name patches) = refl

no_call : (call : Call) (name : Name) → asks_server name ≡ false → name_of_call call ≡ name → ⊥
no_call call name alone is = true≢false (sym (call_asks call) ∙ ap asks_server is ∙ alone)

module _ (words : List (List ℕ)) (fits : FitsName words names.Match) where
  -- the words behind the name, of which the first was taken
  pub five_are : (dir : List ℕ) → dir ≡ get_or words 1 []
      → AreCommandWords words (codes "match") (dir ∷ get_or words 2 [] ∷ get_or words 3 [] ∷ get_or words 4 [] ∷ get_or words 5 [] ∷ [])
  five_are dir is =
      subst (λ (t : List ℕ). AreCommandWords words (codes "match") (t ∷ get_or words 2 [] ∷ get_or words 3 [] ∷ get_or words 4 [] ∷ get_or words 5 [] ∷ [])) (sym is)
      (cut_five words fits.0.0 (codes "match") fits.0.1 (omega (arith, fits.1.1)) fits.1.0)

  -- words that stand for no pattern ask for nothing
  pub matchless : ((pattern : Pattern) → IsPatternOf (get_or words 2 []) (get_or words 3 []) (get_or words 4 []) (get_or words 5 []) pattern → ⊥) → AsksNothing words
  matchless none dice c asks = by c (same_name words (name_of c) names.Match (asks_fit words dice c asks).0 fits.0) asks
    where
      by : (command : Command) → name_of command ≡ names.Match → Asks words dice command → ⊥
      by (commands.Read dir (readings.Match pattern)) is asked =
          none pattern (subst (λ (ws : List (List ℕ)). IsPatternOf (get_or ws 2 []) (get_or ws 3 []) (get_or ws 4 []) (get_or ws 5 []) pattern) (sym asked.4.0) asked.5)
      by (commands.Read dir readings.Dump) is asked = cc
      by (commands.Read dir readings.Prefixes) is asked = cc
      by (commands.Sync dir address name) is asked = cc
      by (commands.Ask address call) is asked = no_call call names.Match refl is
      by (commands.Describe address name) is asked = cc
      by (commands.Append appended.Patch address name) is asked = cc
      by (commands.Append appended.Run address name) is asked = cc
      by commands.Replay is asked = cc
      by (commands.Squash from to) is asked = cc
      by (commands.Invert id) is asked = cc
      by commands.Nquads is asked = cc
      by (commands.Gen patches) is asked = cc
      by (commands.Emit patches) is asked = cc
      by (commands.Init dir slots) is asked = cc
      by (commands.Check dir) is asked = cc
      by (commands.Upgrade dir) is asked = cc
      by (commands.Zone dir) is asked = cc
      by (commands.Checkpoint dir) is asked = cc
      by (commands.UpgradeZone dir) is asked = cc
      by commands.Help is asked = cc
      by commands.Version is asked = cc

-- ---- words by which a zone catches up

module _ (words : List (List ℕ)) (fits : FitsName words names.Sync) where
  -- the words behind the name, each of which was taken
  pub sync_are : (dir address name : List ℕ) → dir ≡ get_or words 1 [] → address ≡ get_or words 2 [] → name ≡ get_or words 3 []
      → AreCommandWords words (codes "sync") (dir ∷ address ∷ name ∷ [])
  sync_are dir address name is_dir is_address is_name =
      subst (λ (t : List ℕ). AreCommandWords words (codes "sync") (t ∷ address ∷ name ∷ [])) (sym is_dir) (three_are words names.Sync fits refl address name is_address is_name)

  -- words with no address in its place ask for nothing
  pub unaddressed : (IsAddress (get_or words 2 []) → ⊥) → AsksNothing words
  unaddressed none dice c asks = by c (same_name words (name_of c) names.Sync (asks_fit words dice c asks).0 fits.0) asks
    where
      by : (command : Command) → name_of command ≡ names.Sync → Asks words dice command → ⊥
      by (commands.Sync dir address name) is asked = none (subst (λ (ws : List (List ℕ)). IsAddress (get_or ws 2 [])) (sym asked.0.0) asked.1)
      by (commands.Read dir readings.Dump) is asked = cc
      by (commands.Read dir readings.Prefixes) is asked = cc
      by (commands.Read dir (readings.Match pattern)) is asked = cc
      by (commands.Ask address call) is asked = no_call call names.Sync refl is
      by (commands.Describe address name) is asked = cc
      by (commands.Append appended.Patch address name) is asked = cc
      by (commands.Append appended.Run address name) is asked = cc
      by commands.Replay is asked = cc
      by (commands.Squash from to) is asked = cc
      by (commands.Invert id) is asked = cc
      by commands.Nquads is asked = cc
      by (commands.Gen patches) is asked = cc
      by (commands.Emit patches) is asked = cc
      by (commands.Init dir slots) is asked = cc
      by (commands.Check dir) is asked = cc
      by (commands.Upgrade dir) is asked = cc
      by (commands.Zone dir) is asked = cc
      by (commands.Checkpoint dir) is asked = cc
      by (commands.UpgradeZone dir) is asked = cc
      by commands.Help is asked = cc
      by commands.Version is asked = cc

-- ---- words that are versions

cut_two : (words rest : List (List ℕ)) (x : List ℕ) → words ≡ x ∷ rest → length words ≡ 3 → words ≡ x ∷ get_or words 1 [] ∷ get_or words 2 [] ∷ []
cut_two words [] x is long = absurd (omega (arith, long, ap length is))
cut_two words (a ∷ []) x is long = absurd (omega (arith, long, ap length is))
cut_two words (a ∷ (b ∷ [])) x is long = subst (λ (ws : List (List ℕ)). ws ≡ x ∷ get_or ws 1 [] ∷ get_or ws 2 [] ∷ []) (sym is) refl
cut_two words (a ∷ (b ∷ (d ∷ rest))) x is long = absurd (omega (arith, long, ap length is))

module _ (words : List (List ℕ)) (fits : FitsName words names.Squash) where
  -- the words behind the name, each of which is a number
  pub span_are : (v w : ℕ) → get_or words 1 [] ≡ decimal v → get_or words 2 [] ≡ decimal w → words ≡ codes "squash" ∷ decimal v ∷ decimal w ∷ []
  span_are v w first last =
      cut_two words fits.0.0 (codes "squash") fits.0.1 (omega (arith, fits.1.1))
      ∙ ap (λ (t : List ℕ). codes "squash" ∷ t ∷ get_or words 2 [] ∷ []) first ∙ ap (λ (t : List ℕ). codes "squash" ∷ decimal v ∷ t ∷ []) last

  -- words that are no span of versions ask for nothing
  pub spanless : ((v w : ℕ) → get_or words 1 [] ≡ decimal v → get_or words 2 [] ≡ decimal w → IsSpan v w → ⊥) → AsksNothing words
  spanless none dice c asks = by c (same_name words (name_of c) names.Squash (asks_fit words dice c asks).0 fits.0) asks
    where
      by : (command : Command) → name_of command ≡ names.Squash → Asks words dice command → ⊥
      by (commands.Squash from to) is asked = none from to (ap (λ (ws : List (List ℕ)). get_or ws 1 []) asked.0) (ap (λ (ws : List (List ℕ)). get_or ws 2 []) asked.0) asked.1
      by (commands.Invert id) is asked = cc
      by (commands.Read dir readings.Dump) is asked = cc
      by (commands.Read dir readings.Prefixes) is asked = cc
      by (commands.Read dir (readings.Match pattern)) is asked = cc
      by (commands.Sync dir address name) is asked = cc
      by (commands.Ask address call) is asked = no_call call names.Squash refl is
      by (commands.Describe address name) is asked = cc
      by (commands.Append appended.Patch address name) is asked = cc
      by (commands.Append appended.Run address name) is asked = cc
      by commands.Replay is asked = cc
      by commands.Nquads is asked = cc
      by (commands.Gen patches) is asked = cc
      by (commands.Emit patches) is asked = cc
      by (commands.Init dir slots) is asked = cc
      by (commands.Check dir) is asked = cc
      by (commands.Upgrade dir) is asked = cc
      by (commands.Zone dir) is asked = cc
      by (commands.Checkpoint dir) is asked = cc
      by (commands.UpgradeZone dir) is asked = cc
      by commands.Help is asked = cc
      by commands.Version is asked = cc

-- ---- a word that is an id

cut_one : (words rest : List (List ℕ)) (x : List ℕ) → words ≡ x ∷ rest → length words ≡ 2 → ArePlain (drop 1 words) → AreCommandWords words x (get_or words 1 [] ∷ [])
cut_one words [] x is long plain = absurd (omega (arith, long, ap length is))
cut_one words (a ∷ []) x is long plain = subst (λ (ws : List (List ℕ)). ArePlain (drop 1 ws) → AreCommandWords ws x (get_or ws 1 [] ∷ [])) (sym is) (λ p. (refl, p)) plain
cut_one words (a ∷ (b ∷ rest)) x is long plain = absurd (omega (arith, long, ap length is))

module _ (words : List (List ℕ)) (fits : FitsName words names.Invert) where
  -- the word behind the name, which was taken
  pub id_is : (text : List ℕ) → text ≡ get_or words 1 [] → AreCommandWords words (codes "invert") (text ∷ [])
  id_is text is =
      subst (λ (t : List ℕ). AreCommandWords words (codes "invert") (t ∷ [])) (sym is) (cut_one words fits.0.0 (codes "invert") fits.0.1 (omega (arith, fits.1.1)) fits.1.0)

  -- a word that is no id asks for nothing
  pub idless : (number_of (get_or words 1 []) ≡ None) → AsksNothing words
  idless none dice c asks = by c (same_name words (name_of c) names.Invert (asks_fit words dice c asks).0 fits.0) asks
    where
      by : (command : Command) → name_of command ≡ names.Invert → Asks words dice command → ⊥
      by (commands.Invert id) is asked =
          let named : number_of (get_or words 1 []) ≡ Some id.0 = subst (λ (ws : List (List ℕ)). number_of (get_or ws 1 []) ≡ Some id.0) (sym asked.1.0) asked.2 in absurd cc
      by (commands.Squash from to) is asked = cc
      by (commands.Read dir readings.Dump) is asked = cc
      by (commands.Read dir readings.Prefixes) is asked = cc
      by (commands.Read dir (readings.Match pattern)) is asked = cc
      by (commands.Sync dir address name) is asked = cc
      by (commands.Ask address call) is asked = no_call call names.Invert refl is
      by (commands.Describe address name) is asked = cc
      by (commands.Append appended.Patch address name) is asked = cc
      by (commands.Append appended.Run address name) is asked = cc
      by commands.Replay is asked = cc
      by commands.Nquads is asked = cc
      by (commands.Gen patches) is asked = cc
      by (commands.Emit patches) is asked = cc
      by (commands.Init dir slots) is asked = cc
      by (commands.Check dir) is asked = cc
      by (commands.Upgrade dir) is asked = cc
      by (commands.Zone dir) is asked = cc
      by (commands.Checkpoint dir) is asked = cc
      by (commands.UpgradeZone dir) is asked = cc
      by commands.Help is asked = cc
      by commands.Version is asked = cc

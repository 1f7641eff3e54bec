-- What commands ask of a server, what they print of its answers, and why they don't.
use Rattle.std.specs.Prelude.{◌≡◌, ℕ, ◌+◌, ◌≤◌, List, Result, Ok, Err}
use Rattle.std.specs.Io.KnownBytes.{Consumes, IsAtEnd}
use Rattle.delta_base.specs.Memory.{CountsCall}
use Rattle.delta_base.specs.Outside.{Rose}
use Rattle.delta_base.specs.declared.link.Link.{Ghosts as LinkGhosts}
use Rattle.log_base.specs.declared.limits.TheConstants.{PATCH_LIMIT}
use Rattle.chain_core.specs.declared.chain.Patch.{Patch}
use Rattle.patch_log.specs.Opening.{IsRunRead}
use Rattle.patch_log.specs.RunFaults.{HasRunFault}
use Rattle.patch_log.specs.declared.run.RunFault.TheVariants as runs
use Rattle.patch_meaning.specs.Checked.{Refuses}
use Rattle.patch_meaning.specs.Patch.{IsPatch, IsPatchFault, Meaning}
use Rattle.patch_meaning.specs.Stream.{IsStreamFault}
use Rattle.patch_meaning.specs.declared.fault.PatchFault.{PatchFault}
use Rattle.patch_meaning.specs.declared.fault.PatchFault.TheVariants as patches
use Rattle.patch_meaning.specs.declared.fault.PatchKind.{PatchKind}
use Rattle.patch_reader.specs.Places.{line_number}
use Rattle.rpc_calls.specs.declared.call.Call.{Call}
use Rattle.rpc_calls.specs.declared.call.Call.TheVariants as calls
use Rattle.delta_client.specs.Exchanges.{DialView}
use Rattle.delta_client.specs.declared.dial.Dial.{Ghosts as DialGhosts}
use Rattle.client_commands.specs.Asks.{AsksBoth, AsksOnce}
use Rattle.client_commands.specs.declared.fault.ClientFault.{ClientFault}
use Rattle.client_commands.specs.declared.fault.ClientFault.TheVariants as clients
use Rattle.command_tables.specs.Channels.{Channel, ChannelFailed, IsSilent, WritesText}
use Rattle.command_tables.specs.Channels.{WritesFront}
use Rattle.stream_replay.specs.Places.{IsFaultyStream}
use Rattle.stream_replay.specs.Source.{ReadsPast}
use Rattle.delta_cli.specs.declared.append.Appended.{Appended}
use Rattle.delta_cli.specs.declared.append.Appended.TheVariants as appended
use Rattle.command_tables.specs.declared.refusal.Refusal.{Refusal}
use Rattle.command_tables.specs.declared.refusal.Refusal.TheVariants as refusals

-- how asking ends: with what is printed, or with a fault
abbrev pub AskedEnd : Type 0
AskedEnd = Result (List ℕ) ClientFault

-- ---- what was asked

module _ {N L : Type 0} (dial : DialGhosts N L) (links : LinkGhosts L) (address : List ℕ) where
  -- One connection was tried for. Where the dial tells, the call was asked over it, and ended so. A
  -- failed link has raised the dial's count.
  pub record Asked (call : Call) (net net' : DialView L) (ended : AskedEnd) : Type 0 where
    pub tries : CountsCall net.tries net'.tries
    pub asks : dial.tells
        → AsksOnce links.left links.sent address call net net' ended
    pub cause : ended ≡ Err clients.LinkFailed → Rose net.faults net'.faults

  -- the same of a source and its log, over as many connections as it took, two at most
  pub record Described (name : List ℕ) (net net' : DialView L) (ended : AskedEnd) : Type 0 where
    pub tries : net'.tries ≤ net.tries + 2
    pub asks : dial.tells
        → AsksBoth links.left links.sent address name net net' ended
    pub cause : ended ≡ Err clients.LinkFailed → Rose net.faults net'.faults

-- ---- what was printed

-- asking ended with a text, which was written
abbrev pub PrintsEnd : (AskedEnd → Type 0) → Channel → Channel → Type 0
PrintsEnd Ends out out' = (text : List ℕ) × Ends (Ok text) × WritesText out out' text

-- why no text was printed
abbrev pub StopsAsking : (AskedEnd → Type 0) → Channel → Channel → Refusal → Type 0
StopsAsking Ends out out' (refusals.Refused status body) =
    Ends (Err (clients.Refused status body)) × IsSilent out out'
StopsAsking Ends out out' refusals.LinkFailed = Ends (Err clients.LinkFailed) × IsSilent out out'
StopsAsking Ends out out' refusals.CutShort = Ends (Err clients.CutShort) × IsSilent out out'
StopsAsking Ends out out' (refusals.NotUnderstood at) =
    Ends (Err (clients.NotUnderstood at)) × IsSilent out out'
StopsAsking Ends out out' refusals.OutOfMemory =
    Ends (Err clients.OutOfMemory) × IsSilent out out'
StopsAsking Ends out out' refusals.OutputFailed =
    ChannelFailed out out' × ((text : List ℕ) × Ends (Ok text) × WritesFront out out' text)
StopsAsking Ends out out' other = ⊥

-- ---- what the input is

-- the text may be appended: it is a patch, or a run of patches
abbrev pub MayBeAppended : Appended → List ℕ → Type 0
MayBeAppended appended.Patch text = (meaning : Meaning) × IsPatch text meaning
MayBeAppended appended.Run text = (run : List Patch) × IsRunRead text run

-- the input was read to its end, and this is its text, where it tells it
abbrev pub IsReadAs : Channel → Channel → List ℕ → Type 0
IsReadAs input input' text = Consumes input.bytes input'.bytes text × IsAtEnd input'.bytes

-- the input may be appended, and this holds of its text
pub record IsInputWith (what : Appended) (input input' : Channel) (Has : List ℕ → Type 0)
    : Type 0 where
  pub text : List ℕ
  pub read : IsReadAs input input' text
  pub may_be : MayBeAppended what text
  pub has : Has text

-- the first fault of a text that is no patch has this kind and place, and that line
pub record IsFaultyPatch (line at : ℕ) (kind : PatchKind) (text : List ℕ) : Type 0 where
  pub fault_is : IsPatchFault text (patches.At at kind)
  pub line_is : line ≡ line_number text at

-- the same of a text that is no patch, or no stream of patches
abbrev pub IsFaultyText : Appended → ℕ → ℕ → PatchKind → List ℕ → Type 0
IsFaultyText appended.Patch line at kind text = IsFaultyPatch line at kind text
IsFaultyText appended.Run line at kind text = IsFaultyStream line at kind text

-- the text has this fault, as a patch or as a stream of patches
abbrev pub HasTextFault : Appended → List ℕ → PatchFault → Type 0
HasTextFault appended.Patch text fault = Refuses text fault
HasTextFault appended.Run text fault = IsStreamFault text fault

-- the text is a stream of patches, which are no run
abbrev pub IsBadRun : Appended → List ℕ → Type 0
IsBadRun appended.Patch text = ⊥
IsBadRun appended.Run text = (at : ℕ) × HasRunFault text (runs.BadRun at)

-- why a text is not appended; want of memory is free
abbrev pub StopsText : Appended → List ℕ → Refusal → Type 0
StopsText what text (refusals.Stream line at kind) = IsFaultyText what line at kind text
StopsText what text refusals.BadRun = IsBadRun what text
StopsText what text refusals.OutOfMemory = Unit {0}
StopsText what text other = ⊥

-- why the input is not appended
abbrev pub StopsInput : Appended → Channel → Channel → Refusal → Type 0
StopsInput what input input' (refusals.Stream line at kind) =
    (text : List ℕ) × IsReadAs input input' text × IsFaultyText what line at kind text
StopsInput what input input' refusals.BadRun =
    (text : List ℕ) × IsReadAs input input' text × IsBadRun what text
StopsInput what input input' (refusals.TooLong limit) =
    ReadsPast PATCH_LIMIT input.bytes input'.bytes × (limit ≡ PATCH_LIMIT)
StopsInput what input input' refusals.InputFailed = ChannelFailed input input'
StopsInput what input input' refusals.OutOfMemory = Unit {0}
StopsInput what input input' other = ⊥

-- ---- what was appended

-- the call that appends a text to a log
abbrev pub append_call : Appended → List ℕ → List ℕ → Call
append_call appended.Patch name text = calls.Append name text
append_call appended.Run name text = calls.AppendRun name text

module _ (what : Appended) {N L : Type 0} (dial : DialGhosts N L) (links : LinkGhosts L)
    (address name : List ℕ) where
  -- the input may be appended, the server was asked to append it, and what it answered is printed
  abbrev pub AppendsInput : Channel → Channel → Channel → Channel → DialView L → DialView L
      → Type 0
  AppendsInput input input' out out' net net' = IsInputWith what input input' (λ text.
      PrintsEnd (Asked dial links address (append_call what name text) net net') out out')

  -- Why the input was not appended: it was not read, or may not be, and then nobody was connected
  -- to; or asking for it stopped.
  pub data StopsAppend (input input' out out' : Channel) (net net' : DialView L)
      (refusal : Refusal) : Type 0 where
    unread : StopsInput what input input' refusal → net' ≡ net → IsSilent out out'
        → StopsAppend input input' out out' net net' refusal
    asked : IsInputWith what input input' (λ text. StopsAsking
        (Asked dial links address (append_call what name text) net net') out out' refusal)
        → StopsAppend input input' out out' net net' refusal

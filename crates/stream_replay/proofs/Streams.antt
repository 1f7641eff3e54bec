-- A stream while its rows are taken.
use Rattle.std.proofs.Common.{◌≡◌, ℕ, ◌+◌, ◌<◌, ◌≤◌, Bool, true, false, List, [], ◌∷◌, ◌++◌, length, drop, Option, None, Some, Ok, refl, sym, ap, subst, ◌∙◌, ◌⊎◌, inl, inr, append_assoc, append-nil, length-drop, arith}
use Rattle.std.specs.Prelude.{codes, nat_lt}
use Rattle.std.proofs.lemmas.Bool.Decides.{nat_tests}
use Rattle.std.proofs.lemmas.List.{drop-drop, drop-append-le}
use Rattle.log_base.specs.declared.limits.TheConstants.{PATCH_LIMIT}
use Rattle.log_base.specs.declared.chain_link.ChainLink.{ChainLink}
use Rattle.rdf_terms.specs.declared.change.Change.{Change}
use Rattle.rdf_terms.specs.Quad.{Statement}
use Rattle.row_scan.specs.declared.row.Says.{Says}
use Rattle.row_scan.specs.declared.row.Says.TheVariants as says
use Rattle.row_scan.specs.Found.{change_by}
use Rattle.row_scan.specs.Rows.{IsSaid, id_row}
use Rattle.delta_base.specs.declared.id.Id.{Id}
use Rattle.delta_base.specs.Ids.{number_of}
use Rattle.rdf_terms.specs.declared.change.Change.TheVariants as change
use Rattle.patch_rows.specs.declared.row.Row.TheVariants as row
use Rattle.patch_rows.specs.declared.cut.TextEnd.{TextEnd}
use Rattle.patch_rows.specs.declared.cut.TextEnd.TheVariants as cuts
use Rattle.patch_rows.specs.declared.fault.RowKind.{RowKind}
use Rattle.patch_rows.specs.declared.fault.RowFault.TheVariants as rows
use Rattle.patch_rows.specs.declared.row.Row.{Row}
use Rattle.patch_rows.specs.Grammar.{ShortRowAt, IsRowAt, IsDecidedRow}
use Rattle.patch_reader.specs.declared.placed.PlacedRow.{PlacedRow}
use Rattle.patch_reader.specs.Rows.{Gap, FaultBehind, GivesNext, RowsStand, RowsUpTo, StopsRows}
use Rattle.patch_reader.specs.Window.{Window, ReadsOn, RowBegins, front_text}
use Rattle.patch_reader.proofs.Adding.{stand_joined}
use Rattle.patch_meaning.specs.declared.fault.PatchFault.{PatchFault}
use Rattle.patch_meaning.specs.declared.part.Part.{Part}
use Rattle.patch_meaning.specs.declared.role.Role.{Role}
use Rattle.patch_meaning.specs.declared.role.Role.TheVariants as roles
use Rattle.patch_meaning.specs.Cutting.{HasTakenNext, IsCutAt, IsCutInto, AreRefused, EndsWith, EndsStream, IsBrokenAt, IsBrokenAtEnd, IsBrokenBy, RefusesStream, changes_left, meanings_of}
use Rattle.patch_meaning.specs.PartRead.{HasPart}
use Rattle.patch_meaning.specs.Patch.{Meaning}
use Rattle.patch_meaning.specs.Roles.{found_role, header_role, role, said, value_id}
use Rattle.patch_meaning.specs.Rows.{AreUpTo, RowsTo}
use Rattle.patch_meaning.specs.Stream.{Cut, IsStream, IsStreamFault, begins, cut, next, over}
use Rattle.patch_meaning.proofs.Cuts.{cut_begun, cut_longer, taken_next, with_changes}
use Rattle.patch_meaning.proofs.Rowed.{front_up_to, row_within as row_ends, rows_more, rows_up_to}
use Rattle.patch_reader.proofs.Holding.{row_within}
use Rattle.patch_meaning.proofs.StreamFaults.{refused_fault, no_row_fault, end_fault}
use Rattle.stream_replay.specs.declared.edits.Edits.{Edits}
use Rattle.stream_replay.specs.declared.fault.ReplayFault.{ReplayFault}
use Rattle.stream_replay.specs.declared.fault.ReplayFault.TheVariants as ends
use Rattle.stream_replay.specs.declared.progress.StreamProgress.{StreamProgress}
use Rattle.stream_replay.specs.declared.replay.Replay.{Replay}
use Rattle.stream_replay.specs.Edits.{GrowsBy}
use Rattle.stream_replay.specs.Replaying.{IsReplay, EndsChain}
use Rattle.stream_replay.specs.Source.{EndsText}
use Rattle.stream_replay.specs.Streaming.{AwaitsRow, GoesByDataset, HasStreamed, HoldsEdits, HoldsMore, IsRefusedStream, IsShortBehind, MayBe, edits_said}
use Rattle.stream_replay.proofs.Bounds.{BeginsAt, IsSmall, bounded_next, row_small}

-- ---- what the whole text may be

pub rows_there : (end : TextEnd) (text whole : List ℕ) (from to : ℕ) (rs : List PlacedRow) → MayBe end text whole → RowsStand end text from rs to → RowsUpTo whole from rs to
rows_there cuts.Open text whole from to rs (more, is) stand = subst (λ (t : List ℕ). RowsUpTo t from rs to) (sym is) (stand more)
rows_there cuts.Known text whole from to rs is stand = subst (λ (t : List ℕ). RowsUpTo t from rs to) (sym is) stand

rows_stand : (end : TextEnd) (text : List ℕ) (from to : ℕ) (rs : List PlacedRow) → ((whole : List ℕ) → MayBe end text whole → RowsUpTo whole from rs to) → RowsStand end text from rs to
rows_stand cuts.Open text from to rs up = λ more. up (text ++ more) (more, refl)
rows_stand cuts.Known text from to rs up = up text refl

fault_there : (end : TextEnd) (text whole : List ℕ) (from at : ℕ) (kind : RowKind) → MayBe end text whole → StopsRows end text from (Some (rows.At at kind)) → FaultBehind whole from kind at
fault_there cuts.Open text whole from at kind (more, is) stop = subst (λ (t : List ℕ). FaultBehind t from kind at) (sym is) (stop.0, (stop.1 more).0, (stop.1 more).1)
fault_there cuts.Known text whole from at kind is stop = subst (λ (t : List ℕ). FaultBehind t from kind at) (sym is) stop

-- nothing may follow
pub now : (end : TextEnd) (text : List ℕ) → MayBe end text text
now cuts.Open text = ([], sym (append-nil text))
now cuts.Known text = refl

pub fault_within : (end : TextEnd) (text : List ℕ) (from at : ℕ) (kind : RowKind) → StopsRows end text from (Some (rows.At at kind)) → at ≤ length text
fault_within end text from at kind stop = (fault_there end text text from at kind (now end text) stop).2.2

pub streamed_at : (end : TextEnd) (text other : List ℕ) (at place : ℕ) (p : StreamProgress) → other ≡ text → place ≡ at → HasStreamed end text at p → HasStreamed end other place p
streamed_at end text other at place p same there h = subst (λ (n : ℕ). HasStreamed end other n p) (sym there) (subst (λ (t : List ℕ). HasStreamed end t at p) (sym same) h)

-- the text goes on, or it is known to be whole
streamed_in : (end : TextEnd) (text longer : List ℕ) (at : ℕ) (p : StreamProgress) → ((whole : List ℕ) → MayBe end longer whole → MayBe cuts.Open text whole) → HasStreamed cuts.Open text at p → HasStreamed end longer at p
streamed_in end text longer at p may h = record {
  rs = h.rs;
  ms = h.ms;
  changes = h.changes;
  reads = rows_stand end longer 0 at h.rs (λ whole is. rows_there cuts.Open text whole 0 at h.rs (may whole is) h.reads);
  parts = h.parts;
  edits = h.edits;
  memory = h.memory;
  replayed = h.replayed;
}

pub may_later : (text more whole : List ℕ) → MayBe cuts.Open (text ++ more) whole → MayBe cuts.Open text whole
may_later text more whole (rest, is) = (more ++ rest, is ∙ append_assoc text more rest)

pub streamed_longer : (text more : List ℕ) (at : ℕ) (p : StreamProgress) → HasStreamed cuts.Open text at p → HasStreamed cuts.Open (text ++ more) at p
streamed_longer text more at p h = streamed_in cuts.Open text (text ++ more) at p (may_later text more) h

pub streamed_whole : (text : List ℕ) (at : ℕ) (p : StreamProgress) → HasStreamed cuts.Open text at p → HasStreamed cuts.Known text at p
streamed_whole text at p h = streamed_in cuts.Known text text at p (λ whole is. ([], is ∙ sym (append-nil text))) h

-- ---- one more row

-- the window passed a row
pub record HasPassed (end : TextEnd) (old new : Window) (r : PlacedRow) : Type 0 where
  pub stands : RowsStand end old.fed old.passed (r ∷ []) r.end
  pub fed : new.fed ≡ old.fed
  pub passed : new.passed ≡ r.end
  pub low : old.passed ≤ r.at
  pub further : r.at < r.end
  pub within : r.end ≤ length old.fed

pub next_passed : (end : TextEnd) (old new : Window) (o : Option PlacedRow) (r : PlacedRow) → o ≡ Some r → GivesNext end old.fed old.passed (Ok o) → ReadsOn old (Ok o) new → HasPassed end old new r
next_passed end old new o r is given goes =
    let stands = subst (λ (o : Option PlacedRow). GivesNext end old.fed old.passed (Ok o)) is given in
    let moved = subst (λ (o : Option PlacedRow). ReadsOn old (Ok o) new) is goes in
    let there = row_within end old.fed old.passed r stands in
    record { stands = stands; fed = ap (λ (w : Window). w.fed) moved; passed = ap (λ (w : Window). w.passed) moved; low = there.2; further = there.0; within = there.1 }

abbrev placed : Row → ℕ → ℕ → PlacedRow
placed r at stop = record { row = r; at = at; end = stop }

-- the rows come no further than the next one
up_to_next : (end : TextEnd) (text : List ℕ) (rs : List PlacedRow) (passed stop : ℕ) (r : PlacedRow) → RowsStand end text 0 rs passed → RowsStand end text passed (r ∷ []) stop → AreUpTo rs r.at
up_to_next end text rs passed stop r before there =
    let gap = (rows_there end text text passed stop (r ∷ []) (now end text) there).0 in rows_up_to text 0 passed r.at rs (rows_there end text text 0 passed rs (now end text) before) gap.1

-- the last row begins within the limit
not_behind : (limit : ℕ) (rs : List PlacedRow) (r : PlacedRow) → AreUpTo (rs ++ r ∷ []) limit → nat_lt limit r.at ≡ false
not_behind limit rs r up = let here = (front_up_to rs r limit up).1 in grind (arith, nat_tests)

-- where the patch begins that may go on behind the row
from_next : (rs : List PlacedRow) (ms ns : List Meaning) (changes others : List Change) (r : PlacedRow) (old new : Part) (says : Role) (at : ℕ) (done : Option ChainLink) → IsCutInto rs ms changes old → IsCutInto (rs ++ r ∷ []) ns others new
    → IsCutAt old says at done → role r.row ≡ says → r.at ≡ at → BeginsAt done old at new
from_next rs ms ns changes others r old new says at None h g cuts is place =
    sym g.from_is ∙ ap (λ (c : Cut). c.last.from) (cut_longer rs r (ap (begins (said (cut rs).last.rows_)) is ∙ cuts (cut rs).last.rows_ h.part)) ∙ h.from_is
from_next rs ms ns changes others r old new says at (Some link) h g cuts is place =
    sym g.from_is ∙ ap (λ (c : Cut). c.last.from) (cut_begun rs r (ap (begins (said (cut rs).last.rows_)) is ∙ cuts.0 (cut rs).last.rows_ h.part)) ∙ place

-- the row stands behind others, and adds little
stands_small : (end : TextEnd) (text : List ℕ) (passed at stop : ℕ) (r : Row) (says : Role) → RowsStand end text passed (placed r at stop ∷ []) stop → role r ≡ says → IsSmall passed at stop (edits_said says)
stands_small end text passed at stop r says stands is =
    let there = rows_there end text text passed stop (placed r at stop ∷ []) (now end text) stands in row_small text passed at stop r says there.0.1 there.1 is

-- how the edits go on with a row: what they have behind a patch that it completes, and then what it is
pub record GoOn (old new : StreamProgress) (says : Role) (at : ℕ) (done : Option ChainLink) : Type 0 where
  pub mid : Edits
  pub holds : (ms : List Meaning) (changes : List Change) → HoldsEdits old.replay.fault ms changes old.edits → HoldsMore new.replay.fault new.part (ms ++ meanings_of done changes) (changes_left done changes) says at new.edits
  pub short : (ms : List Meaning) (changes : List Change) → HoldsEdits old.replay.fault ms changes old.edits → GoesByDataset ms old.edits → IsShortBehind done (ms ++ meanings_of done changes) old.edits mid
  pub grows : GrowsBy (edits_said says) mid new.edits
  pub beyond : nat_lt (new.part.from + PATCH_LIMIT) at ≡ true → new.edits ≡ mid

pub streamed_more : (end : TextEnd) (text : List ℕ) (at stop : ℕ) (old new : StreamProgress) (says : Role) (done : Option ChainLink) → AwaitsRow end text old says at stop → HasTakenNext old.part says at done new.part → IsCutAt old.part says at done
    → ((ms : List Meaning) (changes : List Change) → IsReplay ms old.replay → IsReplay (ms ++ meanings_of done changes) new.replay) → GoOn old new says at done → HasStreamed end text stop new
streamed_more end text at stop old new says done a taken cuts applied goes =
    let h = a.before in
    let r : PlacedRow = placed a.row_ at stop in
    let more_held = goes.holds h.ms h.changes h.edits in
    let into = taken h.rs h.ms h.changes r h.parts (up_to_next end text h.rs a.passed stop r h.reads a.stands) a.says_is refl in
    record {
      rs = h.rs ++ r ∷ [];
      ms = h.ms ++ meanings_of done h.changes;
      changes = more_held.0;
      reads = stand_joined end text 0 a.passed stop h.rs (r ∷ []) h.reads a.stands;
      parts = with_changes _ _ _ more_held.0 new.part (λ up. sym (more_held.2 (not_behind (new.part.from + PATCH_LIMIT) h.rs r up))) into;
      edits = more_held.1;
      memory =
          bounded_next h.ms h.changes done old.part new.part a.passed at stop (edits_said says) old.edits goes.mid new.edits h.memory (goes.short h.ms h.changes h.edits h.memory.enough) (stands_small end text a.passed at stop a.row_ says a.stands a.says_is)
          (from_next h.rs h.ms _ h.changes _ r old.part new.part says at done h.parts into cuts a.says_is refl) goes.grows goes.beyond;
      replayed = applied h.ms h.changes h.replayed;
    }

-- one more row, with a quad
pub streamed_quad : (end : TextEnd) (text : List ℕ) (at stop : ℕ) (old new : StreamProgress) (adds : Bool) (quad : Statement) → AwaitsRow end text old (roles.Change (change_by adds quad)) at stop
    → ((rs : List PlacedRow) (r : PlacedRow) (adds : Bool) (quad : Statement) → HasPart rs old.part → role r.row ≡ roles.Change (change_by adds quad) → HasPart (rs ++ r ∷ []) new.part) → new.part.from ≡ old.part.from
    → new.replay ≡ old.replay → GoOn old new (roles.Change (change_by adds quad)) at None → HasStreamed end text stop new
streamed_quad end text at stop old new adds quad a part same replayed goes =
    streamed_more end text at stop old new (roles.Change (change_by adds quad)) None a
    (taken_next old.part old.part new.part (roles.Change (change_by adds quad)) at None (λ rs has. refl) refl (λ rs r has says. part rs r adds quad has says) same) (λ rs has. refl)
    (λ ms changes taken. subst (λ (r : Replay). IsReplay (ms ++ []) r) (sym replayed) (subst (λ (l : List Meaning). IsReplay l old.replay) (sym (append-nil ms)) taken)) goes

pub front_there : (w : Window) (at : ℕ) → w.front ≡ Some at → front_text w ≡ drop at w.fed
front_there w at is = rw is refl

-- a row that is decided where the next one begins
pub decided_there : (w : Window) (at size : ℕ) (r : Row) → RowBegins w at → IsDecidedRow (drop at w.fed) 0 r size → (end : TextEnd) → RowsStand end w.fed w.passed (placed r at (at + size) ∷ []) (at + size)
unfolding IsRowAt
decided_there w at size r begins is end = rows_stand end w.fed w.passed (at + size) (placed r at (at + size) ∷ []) (λ whole may. by end whole may)
  where
    longer : (more : List ℕ) → RowsUpTo (w.fed ++ more) w.passed (placed r at (at + size) ∷ []) (at + size)
    longer more =
        let there : drop at w.fed ++ more ≡ drop at (w.fed ++ more) = sym (drop-append-le at w.fed more (omega (arith, begins.2))) in
        let row = subst (λ (t : List ℕ). IsRowAt t 0 r size) there (is more) in
        let further : 0 < size = row.1 in
        let within : size ≤ length (drop at (w.fed ++ more)) = row.2 in (
          begins.0 more,
          (
            subst (ShortRowAt (drop at (w.fed ++ more)) r) (drop-drop size at (w.fed ++ more)) row.0,
            omega (arith, further),
            omega (arith, within, further, length-drop at (w.fed ++ more)),
          ),
          refl,
        )

    by : (end : TextEnd) (whole : List ℕ) → MayBe end w.fed whole → RowsUpTo whole w.passed (placed r at (at + size) ∷ []) (at + size)
    by cuts.Open whole (more, is) = subst (λ (t : List ℕ). RowsUpTo t w.passed (placed r at (at + size) ∷ []) (at + size)) (sym is) (longer more)
    by cuts.Known whole is = subst (λ (t : List ℕ). RowsUpTo t w.passed (placed r at (at + size) ∷ []) (at + size)) (append-nil w.fed ∙ sym is) (longer [])

pub awaits_found : (w : Window) (p : StreamProgress) (at size : ℕ) (r : Row) (says : Role) → RowBegins w at → IsDecidedRow (drop at w.fed) 0 r size → role r ≡ says → (end : TextEnd) → HasStreamed end w.fed w.passed p
    → AwaitsRow end w.fed p says at (at + size)
awaits_found w p at size r says begins is says_is end h =
    record { passed = w.passed; before = h; row_ = r; stands = decided_there w at size r begins is end; says_is = says_is }

-- ---- rows that were found

id_role : (digits : List ℕ) (id : Id) → number_of digits ≡ Some id.0 → role (id_row (codes "id") digits) ≡ roles.Id (Some id)
unfolding header_role value_id
id_role digits id named = rw named refl

prev_role : (digits : List ℕ) (id : Id) → number_of digits ≡ Some id.0 → role (id_row (codes "prev") digits) ≡ roles.Prev (Some id)
unfolding header_role value_id
prev_role digits id named = rw named refl

pub row_found : (text : List ℕ) (at end : ℕ) (s : Says) (r : Role) → IsSaid text at end s → found_role s ≡ Some r → (x : Row) × IsDecidedRow text at x end × (role x ≡ r)
row_found text at end (says.Quad adds line) r is e = absurd cc
row_found text at end says.Begin r is e = (row.Change change.Begin, is.row, cc)
row_found text at end says.Commit r is e = (row.Change change.Commit, is.row, cc)
row_found text at end says.Abort r is e = (row.Change change.Abort, is.row, cc)
row_found text at end (says.Id id) r is e = let named = id_role is.0 id is.1 in (id_row (codes "id") is.0, is.2.row, cc)
row_found text at end (says.Prev id) r is e = let named = prev_role is.0 id is.1 in (id_row (codes "prev") is.0, is.2.row, cc)

-- ---- faults

-- the next patch begins with a row, and the one before it has a fault; or the row is refused
pub refused_by : (end : TextEnd) (text : List ℕ) (at stop : ℕ) (old : StreamProgress) (says : Role) (fault : PatchFault) → IsBrokenBy old.part says at fault → AwaitsRow end text old says at stop → IsRefusedStream end text fault
refused_by end text at stop old says fault why a = λ whole may. inr (there whole may)
  where
    h : HasStreamed end text a.passed old
    h = a.before

    r : PlacedRow
    r = placed a.row_ at stop

    there : (whole : List ℕ) → MayBe end text whole → IsStreamFault whole fault
    there whole may = by (why h.rs h.ms h.changes r h.parts a.says_is refl)
      where
        before : RowsUpTo whole 0 h.rs a.passed
        before = rows_there end text whole 0 a.passed h.rs may h.reads

        row_there : RowsUpTo whole a.passed (r ∷ []) stop
        row_there = rows_there end text whole a.passed stop (r ∷ []) may a.stands

        by : ((begins (said (cut h.rs).last.rows_) says ≡ true) × EndsWith h.rs at fault) ⊎ AreRefused (h.rs ++ r ∷ []) fault → IsStreamFault whole fault
        by (inl is) =
            end_fault whole h.rs at h.ms fault (a.passed, before, row_there.0) h.parts.before
            (next a.row_ stop row_there.1 (ap (begins (said (cut h.rs).last.rows_)) a.says_is ∙ is.0)) is.1
        by (inr bad) =
            refused_fault whole (h.rs ++ r ∷ []) stop fault (rows_more whole 0 a.passed h.rs r before row_there.0 row_there.1) (row_ends whole at a.row_ stop row_there.1).1 bad

-- no row stands there
pub refused_there : (end : TextEnd) (text : List ℕ) (passed at : ℕ) (p : StreamProgress) (kind : RowKind) (fault : PatchFault) → StopsRows end text passed (Some (rows.At at kind)) → HasStreamed end text passed p → IsBrokenAt p.part at kind fault
    → IsRefusedStream end text fault
refused_there end text passed at p kind fault stop h why = λ whole may.
    let found = fault_there end text whole passed at kind may stop in
    inr (no_row_fault whole h.rs found.0 h.ms at kind fault (passed, rows_there end text whole 0 passed h.rs may h.reads, found.1) h.parts.before found.2 (why h.rs h.ms h.changes h.parts))

-- ---- the end

reads_whole : (text : List ℕ) (at : ℕ) (p : StreamProgress) (h : HasStreamed cuts.Known text at p) → Gap text at (length text) → RowsTo text 0 h.rs (length text)
reads_whole text at p h gap = (at, h.reads, gap)

up_to_end : (text : List ℕ) (at : ℕ) (p : StreamProgress) (h : HasStreamed cuts.Known text at p) → Gap text at (length text) → AreUpTo h.rs (length text)
up_to_end text at p h gap = rows_up_to text 0 at (length text) h.rs h.reads gap.1

-- the last patch has a fault
pub refused_at_end : (text : List ℕ) (at : ℕ) (p : StreamProgress) (fault : PatchFault) → IsBrokenAtEnd p.part (length text) fault → HasStreamed cuts.Known text at p → Gap text at (length text) → IsRefusedStream cuts.Known text fault
refused_at_end text at p fault why h gap = λ whole is.
    let last = why h.rs h.ms h.changes h.parts in
    subst (λ (t : List ℕ). RefusesStream t fault) (sym is) (inr (end_fault text h.rs (length text) h.ms fault (reads_whole text at p h gap) h.parts.before (over refl last.0) last.1))

pub stream_at_end : (text : List ℕ) (at : ℕ) (p : StreamProgress) (done : Option ChainLink) (h : HasStreamed cuts.Known text at p) → Gap text at (length text) → EndsStream p.part (length text) done
    → IsStream text (h.ms ++ meanings_of done h.changes)
stream_at_end text at p done h gap ends = record {
  rows_ = h.rs;
  reads = reads_whole text at p h gap;
  stream = ends h.rs h.ms h.changes h.parts (up_to_end text at p h gap);
}

-- ---- how a replay ends

pub ends_chain : (ms : List Meaning) (fault : ReplayFault) (text : List ℕ) → IsStream text ms → EndsChain ms fault → EndsText fault text
ends_chain ms (ends.Chain fault) text stream is = record { meanings = ms; stream = stream; breaks = is }
ends_chain ms ends.OutOfMemory text stream is = tt
ends_chain ms _ text stream is = absurd is

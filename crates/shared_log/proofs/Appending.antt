-- The ends of an append, of a pass that has had both turns.
use Rattle.std.proofs.Common.{◌≡◌, ℕ, ◌<◌, ◌≤◌, ◌++◌, List, [], length, sym, refl, ap, ◌∙◌, true, false, arith}
use Rattle.disk_model.specs.declared.disk.Disk.{Ghosts}
use Rattle.log_journal.specs.StandsFor.{disk_of}
use Rattle.chain_core.specs.declared.chain.Patch.{Patch}
use Rattle.chain_core.specs.declared.chain.Entry.{Entry}
use Rattle.chain_core.specs.declared.answer.LogAnswer.{LogAnswer}
use Rattle.chain_core.specs.Chain.{IsBoundedChain}
use Rattle.chain_core.specs.Runs.{AreWhole, entries_of}
use Rattle.patch_log.specs.declared.tail.LogTail.{LogTail}
use Rattle.patch_log.specs.State.{LogView}
use Rattle.patch_log.specs.Run.{AppendedRun}
use Rattle.patch_log.specs.Tail.{StandsForChain, log_of}
use Rattle.turn_cell.specs.declared.view.Stage.TheVariants.{Outside}
use Rattle.turn_cell.specs.Turns.{Adds, own_count}
use Rattle.turn_cell.specs.Sights.{Made, IsOutside, IsGrownBy}
use Rattle.turn_cell.specs.Knowing.{IsSame, IsQuiet, KnowsItsOwn}
use Rattle.turn_cell.specs.Sharing.{IsPassOf}
use Rattle.shared_log.specs.History.{LogSight, history_of, fixed_of, MayBeSeen, shared_log}
use Rattle.shared_log.specs.Legal.{asks_disk}
use Rattle.shared_log.proofs.Histories.{history_length, history_push, run_by, whole_known}
use Rattle.shared_log.proofs.Telling.{AppendTold, all_told}
use Rattle.shared_log.proofs.Turns.{SeesList, finds, left_as_found, left_changed, stands_in_turn}

-- the entries of a run that a pass brings go behind those that it has seen
pub grown_by : (seen : List Entry) (run : List Patch) (by : ℕ) → IsGrownBy by (history_of seen) (history_of (seen ++ entries_of run by))
grown_by seen run by = (history_of (entries_of run by), history_push seen run by, run_by run by)

-- a chain that can be kept, of whole runs, may lie in a turn
pub may_be_seen : (entries : List Entry) → IsBoundedChain entries → AreWhole entries → MayBeSeen (history_of entries)
may_be_seen entries kept whole = (omega (arith, kept.few, history_length entries), whole_known entries whole)

module _ {D : Type 0} (disks : Ghosts D) (made : Made (LogView D)) (p m : LogSight) (tail : LogTail D disks) (items : List Entry) (sees : SeesList disks p m tail items) (of : IsPassOf (shared_log disks) made p) (run : List Patch) (some : 0 < length run) where
  -- the disk wasn't asked
  pub told_as_found : (q : LogSight) (spare : ℕ) → IsSame m q × IsOutside q → q.view.looks ≡ m.view.looks → q.view.seen ≡ m.view.seen → IsQuiet m q → (answer : LogAnswer) → asks_disk answer ≡ false → AppendedRun disks (log_of tail items spare) (log_of tail items spare) run p.view.number answer → AppendTold disks made p run answer q
  told_as_found q spare same looks seen quiet answer unasked appended =
      let log : LogView D = log_of tail items spare in
      all_told disks p m q log log (finds disks p m tail items sees spare) (left_as_found disks p m tail items sees q spare same looks seen quiet) made of run some answer appended (λ _. quiet)
      (λ asked. let e : true ≡ false = sym asked ∙ unasked in absurd (cc))

  -- the disk was asked, and the work left for another tail, over the entries that n has published
  pub told_changed : (n q : LogSight) (left : LogTail D disks) (others : List Entry) (spare places : ℕ) (answer : LogAnswer) → asks_disk answer ≡ true → AppendedRun disks (log_of tail items spare) (log_of left others places) run p.view.number answer → StandsForChain left others → MayBeSeen (history_of others)
      → IsSame m n → n.view.looks ≡ m.view.looks → n.view.own_faults ≡ m.view.own_faults → n.view.failed ≡ m.view.failed → KnowsItsOwn n → n.view.seen ≡ history_of others → n.view.list ≡ Outside
      → IsSame n q × (q.view.stage ≡ Outside) × (q.view.list ≡ n.view.list) → q.view.looks ≡ n.view.looks → (q.view.seen ≡ n.view.seen) × (q.view.mine ≡ n.view.mine) → q.view.own_faults ≡ own_count n.view.own_faults (disks.faults (disk_of tail.journal)) (disks.faults (disk_of left.journal)) → n.view.own_faults ≤ q.view.own_faults
      → Adds tail.doubt left.doubt n.view.failed q.view.failed → AppendTold disks made p run answer q
  told_changed n q left others spare places answer asked appended stands test same looks faults failed own seen out same' looks' seen' counts never adds =
      let was : LogView D = log_of tail items spare in
      let after : LogView D = log_of left others places in
      all_told disks p m q was after (finds disks p m tail items sees spare)
      (left_changed disks m n q was after same looks faults failed own seen out same' looks' seen' counts never adds (stands_in_turn disks left others places stands test)) made of run some answer appended
      (λ unasked. let e : true ≡ false = sym asked ∙ unasked in absurd (cc))
      (λ _. counts ∙ ap (λ (k : ℕ). own_count k (disks.faults (disk_of tail.journal)) (disks.faults (disk_of left.journal))) faults)

-- nothing that never changes has changed
pub same_fixed : {D : Type 0} (disks : Ghosts D) (tail left : LogTail D disks) (items others : List Entry) (run : List Patch) (by : ℕ) (answer : LogAnswer) → AppendedRun disks (log_of tail items 0) (log_of left others 0) run by answer → fixed_of disks.mark (log_of left [] 0) ≡ fixed_of disks.mark (log_of tail [] 0)
same_fixed disks tail left items others run by answer a = λ i. record { number = a.number i; limits = a.limits i; mark = a.went.mark i }

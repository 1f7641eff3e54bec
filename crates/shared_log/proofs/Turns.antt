-- From the turns of a log's list and of its work to what a pass finds and leaves. A call that appends
-- has both turns, leaves that of the list while the disk is asked, and enters it again.
use Rattle.std.proofs.Common.{◌≡◌, ℕ, ◌+◌, ◌≤◌, List, [], ◌∷◌, ◌++◌, length, Option, Some, sym, refl, ap, ◌∙◌, subst, inl, inr, arith}
use mathlib.Core.List.{IsPrefix}
use Rattle.disk_model.specs.declared.disk.Disk.{Ghosts}
use Rattle.log_journal.specs.StandsFor.{disk_of}
use Rattle.chain_core.specs.declared.chain.Patch.{Patch}
use Rattle.chain_core.specs.declared.chain.Entry.{Entry}
use Rattle.patch_log.specs.declared.tail.LogTail.{LogTail}
use Rattle.patch_log.specs.State.{LogView}
use Rattle.patch_log.specs.Tail.{StandsForChain, log_of}
use Rattle.patch_log.proofs.States.{stands_for_log}
use Rattle.turn_cell.specs.declared.view.Published.{Published}
use Rattle.turn_cell.specs.declared.view.Stage.{Stage}
use Rattle.turn_cell.specs.declared.view.Stage.TheVariants.{Outside, Waiting, Inside}
use Rattle.turn_cell.specs.Turns.{Adds, own_count}
use Rattle.turn_cell.specs.Sights.{Sight, Taken, IsOutside}
use Rattle.turn_cell.specs.Knowing.{IsSame, IsQuiet, KnowsItsOwn}
use Rattle.turn_cell.specs.Sharing.{LeavesTurn}
use Rattle.turn_cell.proofs.Knowing.{Entered, same_on, stays_same}
use Rattle.turn_cell.proofs.Staying.{Finds}
use Rattle.twin_cell.specs.Sights.{InLane, HasWork, IsWorkFrom}
use Rattle.twin_cell.proofs.Calls.{own_still, stays, enters_next}
use Rattle.shared_log.specs.declared.value.LogFixed.{LogFixed}
use Rattle.shared_log.specs.declared.value.LogList.{LogList}
use Rattle.shared_log.specs.declared.value.LogWork.{LogWork}
use Rattle.shared_log.specs.declared.value.Placed.{Placed}
use Rattle.shared_log.specs.History.{LogSight, history_of, entries_known, fixed_of, MayBeSeen, StandsInTurn, shared_log}
use Rattle.shared_log.proofs.Bringing.{taken}
use Rattle.shared_log.proofs.Histories.{history_length}

pub known_entries : (entries : List Entry) → entries_known (history_of entries) ≡ entries
known_entries [] = refl
known_entries (entry ∷ entries) = ap (λ (l : List Entry). entry ∷ l) (known_entries entries)

-- entries of the same history are the same
pub same_entries : (xs ys : List Entry) → history_of xs ≡ history_of ys → xs ≡ ys
same_entries xs ys same = sym (known_entries xs) ∙ (ap entries_known same ∙ known_entries ys)

module _ {Y : Type 0} where
  in_lane : (stage : Stage Y) (P : Y → Type 0) → InLane stage P → InLane stage (λ y. Unit {0})
  in_lane Outside P k = absurd k
  in_lane (Waiting t) P k = absurd k
  in_lane (Inside t y) P k = tt

module _ {D : Type 0} (disks : Ghosts D) where
  -- the work came from the pass's last entering
  abbrev pub IsFromPass : LogSight → Taken Placed (List Patch) LogFixed (LogWork D disks) → Type 0
  IsFromPass m work = IsWorkFrom (λ w. disks.faults (disk_of w.tail.journal)) (λ w. w.tail.doubt) (λ w. fixed_of disks.mark (log_of w.tail [] 0)) m work

  -- a pass has the work still where only the turn of the list was taken or left
  pub still_from : (m q : LogSight) (work : Taken Placed (List Patch) LogFixed (LogWork D disks)) → IsSame m q → q.view.stage ≡ m.view.stage → IsFromPass m work → IsFromPass q work
  still_from m q work same stage from = (
    from.0 ∙ sym same.0,
    from.1 ∙ sym same.1,
    same.3 ∙ from.2,
    subst (λ s. InLane s (λ y. (y.faults ≡ disks.faults (disk_of work.was.tail.journal)) × (y.doubt ≡ work.was.tail.doubt))) (sym stage) from.3,
  )

  pub has_work : (m : LogSight) (work : Taken Placed (List Patch) LogFixed (LogWork D disks)) → IsFromPass m work → HasWork m
  has_work m work from = in_lane m.view.stage (λ y. (y.faults ≡ disks.faults (disk_of work.was.tail.journal)) × (y.doubt ≡ work.was.tail.doubt)) from.3

-- the same work and list are the same log
pub same_log : {D : Type 0} (disks : Ghosts D) {a b : LogWork D disks} {x y : LogList} → a ≡ b → x ≡ y → log_of a.tail x.chain.items x.chain.spare ≡ log_of b.tail y.chain.items y.chain.spare
same_log disks p q = λ i. log_of (p i).tail (q i).chain.items (q i).chain.spare

-- the pass has the work still
pub has_still : (m q : LogSight) → q.view.stage ≡ m.view.stage → HasWork m → HasWork q
has_still m q stage has = subst (λ (s : Stage (Published Placed (List Patch))). InLane s (λ y. Unit {0})) (sym stage) has

module _ {D : Type 0} (disks : Ghosts D) where
  -- a tail that stands for a list is a log that may lie in a turn
  pub stands_in_turn : (tail : LogTail D disks) (items : List Entry) (spare : ℕ) → StandsForChain tail items → MayBeSeen (history_of items) → StandsInTurn disks (log_of tail items spare)
  stands_in_turn tail items spare kept test = record {
    few = omega (arith, test.0, history_length items);
    whole = kept.whole;
    stands = λ told. stands_for_log tail.journal tail.journal items tail.doubt tail.number tail.limits kept told;
  }

  -- What a pass knows in the turn of the list, of p before the call and m there: a tail of the log's
  -- file stands for the entries that it sees.
  pub record SeesList (p m : LogSight) (tail : LogTail D disks) (items : List Entry) : Type 0 where
    pub entered : Entered p m
    pub fixed : m.view.fixed ≡ Some (fixed_of disks.mark (log_of tail [] 0))
    pub stands : StandsForChain tail items
    pub test : MayBeSeen (history_of items)
    pub sees : m.view.seen ≡ history_of items

  module _ (p m : LogSight) (tail : LogTail D disks) (items : List Entry) (sees : SeesList p m tail items) where
    pub stands_here : (spare : ℕ) → StandsInTurn disks (log_of tail items spare)
    stands_here spare = stands_in_turn tail items spare sees.stands sees.test

    pub finds : (spare : ℕ) → Finds (shared_log disks) p (log_of tail items spare) m
    finds spare = record { entered = sees.entered; fixed = sees.fixed; stands = stands_here spare; sees = sees.sees }

    -- the turns were left as they were found
    pub left_as_found : (q : LogSight) (spare : ℕ) → IsSame m q × IsOutside q → q.view.looks ≡ m.view.looks → q.view.seen ≡ m.view.seen → IsQuiet m q → LeavesTurn (shared_log disks) m (taken m (log_of tail items spare) (log_of tail items spare)) q
    left_as_found q spare same looks seen quiet = record {
      same = same;
      stands = stands_here spare;
      sees = seen ∙ sees.sees;
      own = own_still m q same.0 seen quiet.0 sees.entered.own;
      looks = looks;
      own_faults = inl quiet;
      never_falls = let faults = quiet.1 in omega arith;
      failed = subst (λ l. Adds tail.doubt tail.doubt m.view.failed l) (sym quiet.2) (stays_same tail.doubt m.view.failed);
    }

    -- the turn of the list was left, and nothing more was seen
    pub sees_still : (n : LogSight) → IsSame m n → IsQuiet m n → n.view.seen ≡ m.view.seen → n.view.looks ≡ m.view.looks → SeesList p n tail items
    sees_still n same quiet seen looks = record {
      entered = stays p m n sees.entered same quiet seen looks;
      fixed = same.3 ∙ sees.fixed;
      stands = sees.stands;
      test = sees.test;
      sees = seen ∙ sees.sees;
    }

    -- the turn of the list was entered again by the pass that has the work
    pub sees_again : (n : LogSight) → IsSame m n → IsQuiet m n → IsPrefix m.view.seen n.view.seen → KnowsItsOwn n → n.view.looks ≡ m.view.looks + 1 → n.view.seen ≡ m.view.seen → SeesList p n tail items
    sees_again n same quiet later own looks seen = record {
      entered = enters_next p m n sees.entered same quiet later own looks;
      fixed = same.3 ∙ sees.fixed;
      stands = sees.stands;
      test = sees.test;
      sees = seen ∙ sees.sees;
    }

  -- what stands for all that a pass has seen stands for the list that it then finds
  pub stands_for_list : (m n : LogSight) (tail : LogTail D disks) (items : List Entry) → StandsForChain tail (entries_known m.view.seen) → n.view.seen ≡ m.view.seen → history_of items ≡ n.view.seen → StandsForChain tail items
  stands_for_list m n tail items stands seen is = subst (StandsForChain tail) (ap entries_known (sym (is ∙ seen)) ∙ known_entries items) stands

  -- the pass has come to the work, and then to the list
  pub sees_both : (p m n : LogSight) (tail : LogTail D disks) (items : List Entry) → IsSame p m → IsQuiet p m → IsPrefix p.view.seen m.view.seen → KnowsItsOwn m → m.view.looks ≡ p.view.looks + 1 → m.view.fixed ≡ Some (fixed_of disks.mark (log_of tail [] 0)) → StandsForChain tail (entries_known m.view.seen) → MayBeSeen m.view.seen
      → IsSame m n → IsQuiet m n → IsPrefix m.view.seen n.view.seen → KnowsItsOwn n → n.view.looks ≡ m.view.looks + 1 → n.view.seen ≡ m.view.seen → history_of items ≡ n.view.seen → SeesList p n tail items
  sees_both p m n tail items same quiet later own looks fixed stands test same' quiet' later' own' looks' seen is =
      let all : history_of items ≡ m.view.seen = is ∙ seen in
      let entered : Entered p m = record { same = same; quiet = quiet; later = later; own = own; looked = omega (arith, looks) } in record {
        entered = enters_next p m n entered same' quiet' later' own' looks';
        fixed = same'.3 ∙ fixed;
        stands = subst (StandsForChain tail) (ap entries_known (sym all) ∙ known_entries items) stands;
        test = subst MayBeSeen (sym all) test;
        sees = sym is;
      }

  -- The pass has come to the list alone. What it sees was published, so some tail stands for it.
  pub sees_published : (p m : LogSight) (tail : LogTail D disks) (items : List Entry) → IsSame p m → IsQuiet p m → IsPrefix p.view.seen m.view.seen → KnowsItsOwn m → m.view.looks ≡ p.view.looks + 1 → p.view.fixed ≡ Some (fixed_of disks.mark (log_of tail [] 0)) → StandsForChain tail (entries_known m.view.seen) → MayBeSeen m.view.seen
      → history_of items ≡ m.view.seen → SeesList p m tail items
  sees_published p m tail items same quiet later own looks fixed stands test is = record {
    entered = record { same = same; quiet = quiet; later = later; own = own; looked = omega (arith, looks) };
    fixed = same.3 ∙ fixed;
    stands = subst (StandsForChain tail) (ap entries_known (sym is) ∙ known_entries items) stands;
    test = subst MayBeSeen (sym is) test;
    sees = sym is;
  }

  -- The pass m has left the work as another log, over the entries that n has published, if any, and is
  -- q outside again.
  pub left_changed : (m n q : LogSight) (was left : LogView D) → IsSame m n → n.view.looks ≡ m.view.looks → n.view.own_faults ≡ m.view.own_faults → n.view.failed ≡ m.view.failed → KnowsItsOwn n → n.view.seen ≡ history_of left.entries → n.view.list ≡ Outside
      → IsSame n q × (q.view.stage ≡ Outside) × (q.view.list ≡ n.view.list) → q.view.looks ≡ n.view.looks → (q.view.seen ≡ n.view.seen) × (q.view.mine ≡ n.view.mine) → q.view.own_faults ≡ own_count n.view.own_faults (disks.faults was.disk) (disks.faults left.disk) → n.view.own_faults ≤ q.view.own_faults
      → Adds was.doubt left.doubt n.view.failed q.view.failed → StandsInTurn disks left → LeavesTurn (shared_log disks) m (taken m was left) q
  left_changed m n q was left same looks faults failed own seen out same' looks' seen' counts never adds stands = record {
    same = (same_on m n q same same'.0, (same'.1, same'.2 ∙ out));
    stands = stands;
    sees = seen'.0 ∙ seen;
    own = own_still n q same'.0 seen'.0 seen'.1 own;
    looks = looks' ∙ looks;
    own_faults = inr (counts ∙ ap (λ (k : ℕ). own_count k (disks.faults was.disk) (disks.faults left.disk)) faults);
    never_falls = omega (arith, faults, never);
    failed = subst (λ l. Adds was.doubt left.doubt l q.view.failed) failed adds;
  }

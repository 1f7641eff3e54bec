use Rattle.std.proofs.Common.{◌≡◌, ℕ, List, Ok, inl, inr, sym, subst}
use Rattle.disk_model.specs.Past.{Past, synced, reads, EveryImage}
use Rattle.disk_model.specs.Memory.{memory_past}
use Rattle.log_journal.specs.Front.{HasFront, IsFront}
use Rattle.log_journal.specs.declared.at_front.Front.{Front}
use Rattle.log_journal.specs.declared.at_front.Front.TheVariants.{Nothing, First}
use Rattle.log_tests.proofs.rewrites.restarted.Goals as goal

-- what is found at the front of a file is one without a fault
has_front : (file : List ℕ) (number : ℕ) (found : Front) → IsFront file number (Ok found) → HasFront file number
has_front file number Nothing nothing = inl nothing
has_front file number (First size bytes) first = inr (first.0, first.1)

-- behind a sync a crash leaves what a read gives
every_image : (old new : Past) (number : ℕ) → new ≡ synced old → HasFront (reads old) number → EveryImage new (λ image. HasFront image number)
every_image old new number is front = subst (λ (past : Past). EveryImage past (λ image. HasFront image number)) (sym is) (λ image left. subst (λ (l : List ℕ). HasFront l number) (sym left) front)

pub empty-requires : goal.empty-requires
empty-requires c =
    let old = memory_past c.args.disk in
    every_image old (memory_past c.front.new.disk) 1 (c.in-Ok.ensures.synced tt) (has_front (reads old) 1 c.in-Ok.found (c.in-Ok.ensures.found tt))

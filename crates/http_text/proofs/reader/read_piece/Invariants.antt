use Rattle.std.proofs.Common.{◌≡◌, ◌++◌, length, List, ℕ}
use Rattle.http_heads.specs.declared.message.Message.{Message}
use Rattle.http_text.specs.Readers.{CanGoOn, HoldsMessages}
use Rattle.http_text.proofs.reader.read_piece.Given as goal

abbrev pub invariant-loop-left : goal.invariant-loop-left
invariant-loop-left l = record {
  held : CanGoOn l.kind l.stage l.pending.items;
  read : (bytes : List ℕ) (taken : List Message) → HoldsMessages l.kind bytes taken l.fn.queue.items l.fn.stage l.fn.pending.items
      → (front : List ℕ) × (l.fn.piece ≡ front ++ l.left) × HoldsMessages l.kind (bytes ++ front) taken l.queue.items l.stage l.pending.items;
}

abbrev pub decreases-loop-left : goal.decreases-loop-left
decreases-loop-left l = length l.left

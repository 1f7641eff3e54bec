use Rattle.std.proofs.Common.{ℕ, List, ap, ◌∙◌}
use Rattle.patch_meaning.specs.Checked.{CheckedPatch}
use Rattle.patch_meaning.specs.Patch.{Meaning}
use Rattle.patch_meaning.proofs.Settled.{one_meaning}
use Rattle.stream_squash.proofs.pieces.read_piece.Goals as goal

pub returns-in-Ok : goal.returns-in-Ok
returns-in-Ok c = λ m is.
    let piece = c.args.piece.now in
    let p = c.in-Ok.patch in
    let ok = c.in-Ok.ensures.ok in
    ap (λ (t : List ℕ). let x : CheckedPatch = record { text = t; meaning = p.meaning } in x) ok.0
    ∙ ap (λ (n : Meaning). let x : CheckedPatch = record { text = piece; meaning = n } in x) (one_meaning piece p.meaning m ok.1 is)

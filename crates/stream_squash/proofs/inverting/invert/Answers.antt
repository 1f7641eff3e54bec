use Rattle.std.proofs.Common.{◌≡◌, ℕ, List, [], ◌∷◌, ◌++◌, refl, subst, sym, ◌∙◌, rules}
use Rattle.std.proofs.lemmas.Result.{err_from_is_err_and}
use Rattle.patch_algebra.specs.Patches.{inverse_of}
use Rattle.patch_meaning.specs.Checked.{meanings}
use Rattle.patch_meaning.specs.Patch.{IsPatch}
use Rattle.patch_meaning.specs.Replay.{replay}
use Rattle.stream_squash.specs.Pieces.{ArePieces}
use Rattle.stream_squash.proofs.Undone.{last_of_chain, undone, undone_refused}
use Rattle.stream_squash.proofs.inverting.invert.Goals as goal

pub overflow_sub-text : goal.overflow_sub-text
overflow_sub-text c =
    let has = c.in_ok-lengths.ensures.ok in
    let is : c.as_slice.result.now ≡ c.in-Some.before.now ++ c.in-Some.length.now ∷ [] = search rules in
    (last_of_chain c.args.text.now has.0 c.in_ok-lengths.field-0 c.as_slice.result.now c.in-Some.before.now c.in-Some.length.now c.as_slice.ensures.value is has.1).within

pub invert_last-requires : goal.invert_last-requires
invert_last-requires c =
    let has = c.in_ok-lengths.ensures.ok in
    let is : c.as_slice.result.now ≡ c.in-Some.before.now ++ c.in-Some.length.now ∷ [] = search rules in
    let e = last_of_chain c.args.text.now has.0 c.in_ok-lengths.field-0 c.as_slice.result.now c.in-Some.before.now c.in-Some.length.now c.as_slice.ensures.value is has.1 in
    (e.qs, subst (λ (t : List ℕ). ArePieces e.qs t c.in-Some.before.now) (sym c.split_at.ensures.front) e.before)

pub returns-in_err-invert_last-clause-fault : goal.returns-in_err-invert_last-clause-fault
returns-in_err-invert_last-clause-fault c =
    let p = err_from_is_err_and c.from_residual-in_err-invert_last.result c.from_residual-in_err-invert_last.ensures.1 in
    let has = c.in_ok-lengths.ensures.ok in
    let is : c.as_slice.result.now ≡ c.in-Some.before.now ++ c.in-Some.length.now ∷ [] = search rules in
    let e = last_of_chain c.args.text.now has.0 c.in_ok-lengths.field-0 c.as_slice.result.now c.in-Some.before.now c.in-Some.length.now c.as_slice.ensures.value is has.1 in
    let pieces = subst (λ (t : List ℕ). ArePieces e.qs t c.in-Some.before.now) (sym c.split_at.ensures.front) e.before in
    let patch : IsPatch c.split_at.result.1.now e.p.meaning = subst (λ (t : List ℕ). IsPatch t e.p.meaning) (sym (c.split_at.ensures.back ∙ e.piece_is)) e.is_patch in
    let other = inverse_of (replay (meanings e.qs)) e.p.meaning c.args.id in
    let undoes = undone c.args.text.now has.0 c.in_ok-lengths.field-0 c.args.id c.in-Some.length.now c.in-Some.before.now other has.1 e c.in_default-fault_behind.ensures.follows refl in
    rw (p.1, p.2) (undone_refused c.args.text.now c.args.id other c.in_err-invert_last.field-0.0 undoes (c.in_err-invert_last.ensures.fault e.qs e.p.meaning pieces patch))

pub returns-clause-inverse : goal.returns-clause-inverse
returns-clause-inverse c =
    let has = c.in_ok-lengths.ensures.ok in
    let is : c.as_slice.result.now ≡ c.in-Some.before.now ++ c.in-Some.length.now ∷ [] = search rules in
    let e = last_of_chain c.args.text.now has.0 c.in_ok-lengths.field-0 c.as_slice.result.now c.in-Some.before.now c.in-Some.length.now c.as_slice.ensures.value is has.1 in
    let pieces = subst (λ (t : List ℕ). ArePieces e.qs t c.in-Some.before.now) (sym c.split_at.ensures.front) e.before in
    let patch : IsPatch c.split_at.result.1.now e.p.meaning = subst (λ (t : List ℕ). IsPatch t e.p.meaning) (sym (c.split_at.ensures.back ∙ e.piece_is)) e.is_patch in
    undone c.args.text.now has.0 c.in_ok-lengths.field-0 c.args.id c.in-Some.length.now c.in-Some.before.now c.in_ok-invert_last.field-0 has.1 e c.in_default-fault_behind.ensures.follows
    (c.in_ok-invert_last.ensures.inverse e.qs e.p.meaning pieces patch)

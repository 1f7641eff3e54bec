use Rattle.std.proofs.Common.{◌≡◌, inl, ℕ, suc, ◌+◌, ◌-◌, ◌<◌, ◌≤◌, List, [], ◌∷◌, ◌++◌, length, sym, subst, ap, ◌∙◌, arith}
use Rattle.std.specs.Prelude.{slice_index}
use Rattle.directory_upgrade.specs.Directories.{up_to}
use Rattle.directory_upgrade.specs.Sets.{AreKeptButSpare}
use Rattle.directory_upgrade.proofs.Numbers.{length_up_to, new_log, set_more, up_to_push, up_to_within}
use Rattle.directory_upgrade.proofs.Sets.{left_wider}
use Rattle.directory_upgrade.proofs.Visits.{left_more, taken_more}
use Rattle.directory_upgrade.proofs.directory.take_logs.Goals as goal

pub loop-number-preserved : goal.loop-number-preserved
loop-number-preserved g c =
    let l = c.loop-number in
    let n = l.number in
    let dir = c.args.dir.now in
    let mid = g.H.Shelf.files l.shelf in
    let new = g.H.Shelf.files c.take_file.new.shelf in
    let marker_number = c.args.set.now.marker_number in
    let did = c.in_ok-take_file.ensures in
    let same = c.take_file.ensures.same in
    let so_far = l.set.numbers.items in
    let low : 1 ≤ n = omega (arith, l.invariant.low) in
    let high : n ≤ 16 = omega (arith, c.loop-number-test.true, c.requires.few) in
    let pushed : so_far ++ n ∷ [] ≡ up_to (n + 1 - 1) =
    ap (λ (ns : List ℕ). ns ++ n ∷ []) l.invariant.numbers ∙ up_to_push n low ∙ ap up_to (let e : n ≡ n + 1 - 1 = omega arith in e) in
    let last : n - 1 + 1 ≡ n = omega (arith, low) in
    record {
      numbers = did.ok.2 ∙ pushed;
      set = set_more l.set.files.items l.set.spares.items c.take_file.new.set.files.items c.take_file.new.set.spares.items so_far c.take_file.new.set.numbers.items n l.invariant.set (inl high)
          (λ i within is. new_log (n - 1) i (subst (λ (ns : List ℕ). i < length ns) l.invariant.numbers within) (subst (λ (ns : List ℕ). slice_index ns i ≡ suc (n - 1)) l.invariant.numbers (is ∙ (let e : n ≡ suc (n - 1) = omega (arith, low) in e))))
          did.ok.0 did.ok.1 did.ok.2;
      marker = same.0 ∙ l.invariant.marker;
      marker_number = same.1 ∙ l.invariant.marker_number;
      taken = λ told old first left.
          let before = l.invariant.taken told old first left in
          let kept = subst (λ (m : ℕ). AreKeptButSpare dir m so_far old mid) (sym l.invariant.marker_number) (subst (λ (ns : List ℕ). AreKeptButSpare dir marker_number ns old mid) (sym l.invariant.numbers) (l.invariant.kept told old left)) in
          let said = before.says (omega (arith, ap length l.invariant.numbers, length_up_to (n - 1))) in
          let more = taken_more g.H.D.Disk dir old so_far n mid l.set.marker_number kept (omega (arith, high)) l.set.files.items l.set.spares.items c.take_file.new.set.files.items c.take_file.new.set.spares.items l.set.marker
          l.invariant.set.as_many_files l.invariant.set.as_many_spares said.0 said.1 before (did.file told) (did.spare told) in
          rw (did.ok.2, same.0, same.1) more;
      kept = λ told old left.
          subst (λ (ns : List ℕ). AreKeptButSpare dir marker_number ns old new) (ap (λ (ns : List ℕ). ns ++ n ∷ []) (sym l.invariant.numbers) ∙ pushed)
          (left_more dir marker_number (up_to (n - 1)) n old mid new (l.invariant.kept told old left) (c.take_file.ensures.kept told));
      faults = omega (arith, l.invariant.faults, c.take_file.ensures.faults);
      low = omega (arith, low);
      high = omega (arith, c.loop-number-test.true);
    }

pub returns-in_err-take_file-clause-kept : goal.returns-in_err-take_file-clause-kept
returns-in_err-take_file-clause-kept g c told old left =
    let l = c.loop-number in
    let n = l.number in
    let dir = c.args.dir.now in
    let mid = g.H.Shelf.files l.shelf in
    let new = g.H.Shelf.files c.take_file.new.shelf in
    let marker_number = c.args.set.now.marker_number in
    let low : 1 ≤ n = omega (arith, l.invariant.low) in
    left_wider dir marker_number (up_to n) (up_to c.args.slots) old new (λ more k. up_to_within n c.args.slots (omega (arith, c.loop-number-test.true)) more k)
    (subst (λ (ns : List ℕ). AreKeptButSpare dir marker_number ns old new) (up_to_push n low) (left_more dir marker_number (up_to (n - 1)) n old mid new (l.invariant.kept told old left) (c.take_file.ensures.kept told)))

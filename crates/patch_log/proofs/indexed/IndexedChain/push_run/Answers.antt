use Rattle.std.proofs.Common.{◌≡◌, ℕ, ◌-◌, List, [], ◌∷◌, ◌++◌, length, sym, ◌∙◌, ap, subst, append_assoc, arith}
use Rattle.std.specs.Vec.Iter.{into_iter_items}
use Rattle.chain_core.specs.declared.chain.Entry.{Entry}
use Rattle.chain_core.specs.declared.chain.Patch.{Patch}
use Rattle.chain_core.specs.Chain.{IsBoundedChain}
use Rattle.chain_core.specs.Runs.{entries_of}
use Rattle.patch_log.proofs.Checking.{bounded_front}
use Rattle.patch_log.proofs.indexed.IndexedChain.push_run.Goals as goal

-- the entry that is pushed, and those that are left
split : (entries : List Entry) (patch : Patch) (rest : List Patch) (left : List Patch) (by count : ℕ) (whole : List Entry) → entries ++ entries_of left by ≡ whole → left ≡ patch ∷ rest → count ≡ length left
    → (entries ++ record { patch = patch; by = by; rest = count - 1 } ∷ []) ++ entries_of rest by ≡ whole
split entries patch rest left by count whole is parts counted =
    let last : count - 1 ≡ length rest = omega (arith, counted, ap length parts) in
    ap (λ (n : ℕ). (entries ++ record { patch = patch; by = by; rest = n } ∷ []) ++ entries_of rest by) last
    ∙ append_assoc entries (record { patch = patch; by = by; rest = length rest } ∷ []) (entries_of rest by)
    ∙ ap (λ (ps : List Patch). entries ++ entries_of ps by) (sym parts) ∙ is

pub push-requires-clause-kept : goal.push-requires-clause-kept
push-requires-clause-kept c =
    let so = c.loop-patch.invariant in
    let rest = into_iter_items c.next.new.self in
    let whole = split c.loop-patch.self.items c.in-Some.patch rest (into_iter_items c.loop-patch.patch-iterator) c.args.by c.loop-patch.rest (c.args.self.now.items ++ entries_of c.args.run c.args.by) so.items c.in-Some.ensures.steps.0 so.rest in
    bounded_front (c.loop-patch.self.items ++ record { patch = c.in-Some.patch; by = c.args.by; rest = c.loop-patch.rest - 1 } ∷ []) (entries_of rest c.args.by) (subst IsBoundedChain (sym whole) c.requires.kept)

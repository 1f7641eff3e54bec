use Rattle.std.proofs.Common.{ℕ, ◌+◌, ◌∷◌, ◌++◌, [], sym, ap, subst, arith}
use Rattle.delta_base.specs.Listed.{Listed}
use Rattle.chain_core.specs.declared.chain.Entry.{Entry}
use Rattle.chain_core.specs.Chain.{IsBoundedChain}
use Rattle.chain_core.proofs.Versions.{new_entry}
use Rattle.patch_log.proofs.Growing.{index_grown}
use Rattle.patch_log.proofs.indexed.IndexedChain.push.Goals as goal

pub invariant_of-self : goal.invariant_of-self
invariant_of-self c =
    let entry : Entry = record { patch = c.args.patch; by = c.args.by; rest = c.args.rest } in
    let entries = c.self.inside.chain.items in
    let kept = subst (λ (l : Listed Entry). IsBoundedChain (l.items ++ entry ∷ [])) (sym c.self.view_is) c.requires.kept in (
      rw c.push.ensures.items (index_grown entries entry c.self.inside.index c.insert.new.self (c.version-version.result + 1) c.self.invariant.0 (new_entry entries entry kept.chain.differ) (ap (λ (n : ℕ). n + 1) c.version-version.ensures.version) c.in-Ok.ensures.more),
      omega (arith, c.push.ensures.spare, c.in-Ok.ensures.places, c.self.invariant.1),
    )

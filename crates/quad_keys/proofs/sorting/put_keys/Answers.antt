use Rattle.std.proofs.Common.{◌≡◌, ◌∷◌, length, sym, subst, rules}
use Rattle.quad_keys.specs.Keys.{quads_of}
use Rattle.quad_keys.specs.Laid.{AreLaid}
use Rattle.quad_keys.proofs.Laying.{none_laid, laid_more}
use Rattle.quad_keys.proofs.Taken.{none_taken, next_known, next_taken, all_taken}
use Rattle.quad_keys.proofs.sorting.put_keys.Goals as goal

pub keys-init : goal.keys-init
keys-init c = none_taken _ _ _ c.requires.known (none_laid _ _ c.requires.empty)

pub key_line-requires : goal.key_line-requires
key_line-requires c = next_known _ c.keys.invariant c.in-Some.ensures.items

pub keys-preserved : goal.keys-preserved
keys-preserved c =
    next_taken _ c.keys.invariant c.in-Some.ensures.items
    (λ taken so_far. subst (AreLaid c.args.terms.now (quads_of c.args.terms.now (c.in-Some.key ∷ taken))) (sym c.in_ok-insert.ensures.entries)
    (laid_more _ taken _ _ c.in-Some.key (next_known _ c.keys.invariant c.in-Some.ensures.items) c.in_ok-line.ensures so_far))

pub returns : goal.returns
returns c = let none : length c.keys.keys.items ≡ 0 = search rules in all_taken c.keys.invariant none

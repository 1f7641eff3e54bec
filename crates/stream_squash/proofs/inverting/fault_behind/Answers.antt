use Rattle.std.proofs.Common.{◌∷◌, ◌++◌, [], Option, Some, None, IfSome, subst, ◌∙◌}
use Rattle.chain_core.specs.Breaks.{Breaks}
use Rattle.delta_base.specs.declared.id.Id.{Id}
use Rattle.stream_squash.proofs.Behind.{repeats_id}
use Rattle.stream_squash.proofs.inverting.fault_behind.Goals as goal

some_weaker : {X : Type 0} (o : Option X) (P Q : X → Type 0) → ((x : X) → P x → Q x) → IfSome o P → IfSome o Q
some_weaker None P Q f h = tt
some_weaker (Some x) P Q f h = f x h

pub returns-clause-repeats : goal.returns-clause-repeats
returns-clause-repeats c = some_weaker c.fault_of.result _ _
    (λ fault all links is.
    let prev = c.head.ensures ∙ is.head_is in
    repeats_id links c.args.id c.args.chain.now fault is
    (subst (λ (o : Option Id). Breaks (links ++ record { id = c.args.id; prev = o } ∷ []) fault) prev (all links [] is)))
    c.fault_of.ensures.breaks

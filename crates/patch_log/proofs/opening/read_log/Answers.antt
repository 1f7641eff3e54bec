use Rattle.std.proofs.Common.{◌≡◌, ℕ, ◌+◌, [], ◌∷◌, ◌++◌, List, Err, Option, Some, length, sym, ◌∙◌, ap, subst, append_assoc, arith}
use Rattle.std.specs.Vec.Iter.{into_iter_items}
use Rattle.patch_log.specs.declared.fault.LogFault.{LogFault}
use Rattle.patch_log.specs.declared.fault.LogFault.TheVariants.{BrokenChain}
use Rattle.patch_log.specs.declared.next_fault.NextFault.{NextFault}
use Rattle.patch_log.specs.Log.{BreaksBehind}
use Rattle.patch_log.proofs.Openings.{found_more, breaks_at}
use Rattle.patch_log.proofs.opening.read_log.Goals as goal

same_version : (a b : ℕ) → BrokenChain a ≡ BrokenChain b → a ≡ b
same_version a b same = cc

same_fault : {T : Type 0} (a b : LogFault) → ◌≡◌ {A = Rattle.std.proofs.Common.Result T LogFault} (Err a) (Err b) → a ≡ b
same_fault a b same = cc

pub loop-text-preserved : goal.loop-text-preserved
loop-text-preserved c =
    let steps = c.in-Some.ensures.steps in
    let added = c.in-Ok.ensures.ok in
    record {
      found = found_more c.loop-text.yielded c.in-Some.text c.args.most c.loop-text.chain.items c.in-Ok.longer.items added.0 c.loop-text.invariant.found added.1 added.2;
      rest = append_assoc c.loop-text.yielded (c.in-Some.text ∷ []) (into_iter_items c.next.new.self) ∙ ap (λ (l : List (List ℕ)). c.loop-text.yielded ++ l) (sym steps.0) ∙ c.loop-text.invariant.rest;
    }

pub returns-in-Err-Broken-clause-broken : goal.returns-in-Err-Broken-clause-broken
returns-in-Err-Broken-clause-broken c version is =
    let steps = c.in-Some.ensures.steps in
    let none = c.with_next.ensures.broken (c.in-Err-Broken.is ∙ ap (λ (fault : NextFault). Err fault) c.in-Err-Broken.field-0-is) in
    let here = breaks_at c.loop-text.yielded c.in-Some.text (into_iter_items c.next.new.self) c.args.most c.loop-text.chain.items c.loop-text.invariant.found none in
    let all : c.loop-text.yielded ++ c.in-Some.text ∷ into_iter_items c.next.new.self ≡ c.args.payloads.items = ap (λ (l : List (List ℕ)). c.loop-text.yielded ++ l) (sym steps.0) ∙ c.loop-text.invariant.rest in
    let told = same_version (c.from-version.result + 1) version (same_fault (BrokenChain (c.from-version.result + 1)) (BrokenChain version) is) in
    let place : length c.loop-text.chain.items + 1 ≡ version = omega (arith, told, c.from-version.ensures, c.version.ensures.version, ap length c.chain.ensures) in
    subst (λ (v : ℕ). BreaksBehind c.args.most c.args.payloads.items v) place (subst (λ (l : List (List ℕ)). BreaksBehind c.args.most l (length c.loop-text.chain.items + 1)) all here)

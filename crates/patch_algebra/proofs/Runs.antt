-- The changes of patches, one after another, do what the patches do.
use Rattle.std.proofs.Common.{◌≡◌, ◌≤◌, List, [], ◌∷◌, ◌++◌, length, refl, sym, ap, subst, ◌∙◌, append_assoc, append-nil, arith}
use Rattle.std.specs.List.{AllByRecursion}
use Rattle.std.proofs.lemmas.List.Concat.{flat_map-cons}
use Rattle.rdf_terms.specs.Dataset.{Dataset, apply, effect, effects, kept, kept_behind}
use Rattle.rdf_terms.specs.declared.change.Change.{Change}
use Rattle.rdf_terms.specs.declared.change.Change.TheVariants.{Add, Delete, PrefixAdd, PrefixDelete, Begin, Commit, Abort}
use Rattle.patch_meaning.specs.Patch.{Meaning, AreOutside, AreInside}
use Rattle.patch_meaning.specs.Replay.{replay_from}
use Rattle.net_changes.specs.Net.{in_block}
use Rattle.net_changes.specs.Values.{IsNamedValue}
use Rattle.net_changes.proofs.Told.{nets_same, nets_fewest, inverses_undo}
use Rattle.patch_algebra.specs.Nets.{net_cmp, net, inverse_changes, run_changes}
use Rattle.patch_algebra.specs.Laws.{IsPatchValue, NetsReplay, NetsAreShortest, InversesLeadBack, InversesComeToNothing}
use Rattle.patch_algebra.specs.Patches.{inverse_of}

effects-append : (cs ds : List Change) (d : Dataset) → effects (cs ++ ds) d ≡ effects ds (effects cs d)
effects-append [] ds d = refl
effects-append (c ∷ cs) ds d = effects-append cs ds (effect c d)

-- closed blocks stand or fall by themselves
mutual
  pub kept-append : (cs ds : List Change) → AreOutside cs → kept (cs ++ ds) ≡ kept cs ++ kept ds
  kept-append [] ds o = refl
  kept-append (Begin ∷ cs) ds o = behind-append [] cs ds o
  kept-append (Commit ∷ cs) ds o = absurd o
  kept-append (Abort ∷ cs) ds o = absurd o
  kept-append (Add q ∷ cs) ds o = ap (λ (l : List Change). Add q ∷ l) (kept-append cs ds o)
  kept-append (Delete q ∷ cs) ds o = ap (λ (l : List Change). Delete q ∷ l) (kept-append cs ds o)
  kept-append (PrefixAdd p i g ∷ cs) ds o = ap (λ (l : List Change). PrefixAdd p i g ∷ l) (kept-append cs ds o)
  kept-append (PrefixDelete p g ∷ cs) ds o = ap (λ (l : List Change). PrefixDelete p g ∷ l) (kept-append cs ds o)

  behind-append : (held cs ds : List Change) → AreInside cs → kept_behind held (cs ++ ds) ≡ kept_behind held cs ++ kept ds
  behind-append held [] ds o = absurd o
  behind-append held (Begin ∷ cs) ds o = absurd o
  behind-append held (Commit ∷ cs) ds o = ap (λ (l : List Change). held ++ l) (kept-append cs ds o) ∙ sym (append_assoc held (kept cs) (kept ds))
  behind-append held (Abort ∷ cs) ds o = kept-append cs ds o
  behind-append held (Add q ∷ cs) ds o = behind-append (held ++ Add q ∷ []) cs ds o
  behind-append held (Delete q ∷ cs) ds o = behind-append (held ++ Delete q ∷ []) cs ds o
  behind-append held (PrefixAdd p i g ∷ cs) ds o = behind-append (held ++ PrefixAdd p i g ∷ []) cs ds o
  behind-append held (PrefixDelete p g ∷ cs) ds o = behind-append (held ++ PrefixDelete p g ∷ []) cs ds o

pub apply_run : (ms : List Meaning) (d : Dataset) → AllByRecursion IsPatchValue ms → apply (run_changes ms) d ≡ replay_from ms d
apply_run [] d s = refl
apply_run (m ∷ ms) d s =
    ap (λ (l : List Change). apply l d) (flat_map-cons (λ (n : Meaning). n.changes) m ms)
    ∙ ap (λ (l : List Change). effects l d) (kept-append m.changes (run_changes ms) s.0.blocks)
    ∙ effects-append (kept m.changes) (kept (run_changes ms)) d
    ∙ apply_run ms (apply m.changes d) s.1

named-append : (cs ds : List Change) → AllByRecursion IsNamedValue cs → AllByRecursion IsNamedValue ds → AllByRecursion IsNamedValue (cs ++ ds)
named-append [] ds a b = b
named-append (c ∷ cs) ds a b = (a.0, named-append cs ds a.1 b)

run_named : (ms : List Meaning) → AllByRecursion IsPatchValue ms → AllByRecursion IsNamedValue (run_changes ms)
run_named [] s = tt
run_named (m ∷ ms) s =
    subst (AllByRecursion IsNamedValue) (sym (flat_map-cons (λ (n : Meaning). n.changes) m ms)) (named-append m.changes (run_changes ms) s.0.named (run_named ms s.1))

pub nets_replay : NetsReplay
nets_replay d run v s = nets_same net_cmp d (run_changes run) v (run_named run s) ∙ apply_run run d s

pub nets_are_shortest : NetsAreShortest
nets_are_shortest d run others v s same = nets_fewest net_cmp d (run_changes run) others v (same ∙ sym (apply_run run d s))

pub inverses_lead_back : InversesLeadBack
inverses_lead_back d m v s = inverses_undo net_cmp d m.changes v s.named

none_left : {X : Type 0} (l : List X) → length l ≤ 0 → l ≡ []
none_left [] h = refl
none_left (x ∷ l) h = absurd (omega (arith, h))

pub inverses_come_to_nothing : InversesComeToNothing
inverses_come_to_nothing d m id v s =
    let back = in_block (inverse_changes d m.changes) in
    let joined : run_changes (m ∷ (inverse_of d m id).meaning ∷ []) ≡ m.changes ++ back =
    flat_map-cons (λ (n : Meaning). n.changes) m ((inverse_of d m id).meaning ∷ [])
    ∙ ap (λ (l : List Change). m.changes ++ l) (flat_map-cons (λ (n : Meaning). n.changes) (inverse_of d m id).meaning [] ∙ append-nil back) in
    let all : d ≡ apply (m.changes ++ back) d =
    sym (ap (λ (l : List Change). effects l d) (kept-append m.changes back s.blocks) ∙ effects-append (kept m.changes) (kept back) d ∙ inverses_lead_back d m v s) in
    none_left (net d (run_changes (m ∷ (inverse_of d m id).meaning ∷ [])))
    (subst (λ (l : List Change). length (net d l) ≤ 0) (sym joined) (nets_fewest net_cmp d (m.changes ++ back) [] v all))

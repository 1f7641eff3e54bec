-- A chain with one patch in the place of some.
use Rattle.std.proofs.Common.{◌≡◌, ℕ, ◌-◌, ◌<◌, ◌≤◌, List, [], ◌∷◌, ◌++◌, length, map, take, drop, Option, Some, None, refl, sym, ap, ◌∙◌, arith}
use Rattle.std.proofs.lemmas.List.{length-map}
use Rattle.std.proofs.lemmas.List.Concat.{flat_map-cons}
use Rattle.patch_algebra.specs.Patches.{RefusesNet, net_patch_of}
use Rattle.patch_algebra.specs.declared.fault.NetFault.{NetFault}
use Rattle.patch_algebra.specs.declared.fault.NetFault.TheVariants as nets
use Rattle.patch_meaning.specs.Checked.{CheckedPatch, meanings}
use Rattle.patch_meaning.specs.Patch.{IsPatch}
use Rattle.patch_meaning.specs.Replay.{replay}
use Rattle.patch_meaning.proofs.Joined.{checked_by_itself, joined}
use Rattle.stream_squash.specs.Faults.{StopsSquash, net_refused}
use Rattle.stream_squash.specs.Squashes.{HasNet, HasSquashed, IsChained, joined as joined_texts}
use Rattle.stream_squash.proofs.Texts.{Cut, cut_run, joined-append, size_of}

-- the patches of a chain in three parts, by how many bytes each has
module _ (from to : ℕ) (ps : List CheckedPatch) (text lengths : List ℕ) (chained : IsChained text ps) (sizes : lengths ≡ map size_of ps) (first : 0 < from) (order : from ≤ to) (enough : to ≤ length lengths) where
  many : to ≤ length ps
  many = omega (arith, enough, ap length sizes, length-map ps size_of)

  some : ps ≡ [] → ⊥
  some none = let size = ap length none in absurd (omega (arith, many, size, first, order))

  pub cut_chain : (wanted before run : List ℕ) → wanted ≡ take to lengths → before ≡ take (from - 1) wanted → run ≡ drop (from - 1) wanted
      → Cut (take (from - 1) ps) (drop (from - 1) (take to ps)) (drop to ps) text before run
  cut_chain wanted before run wanted_is before_is run_is =
      cut_run (from - 1) to ps text lengths wanted before run (omega (arith, order)) (sym (joined text ps chained.split some)) sizes (checked_by_itself text ps chained.split) wanted_is before_is run_is

  pub net_there : (net : CheckedPatch) → Some net ≡ net_patch_of (replay (meanings (take (from - 1) ps))) (meanings (drop (from - 1) (take to ps))) → HasNet from to text ps net
  net_there net is = record { chained = chained; enough = many; net_is = is }

  pub net_refuses : (fault : NetFault) → RefusesNet (net_patch_of (replay (meanings (take (from - 1) ps))) (meanings (drop (from - 1) (take to ps)))) fault → StopsSquash from to text (net_refused fault)
  net_refuses nets.OutOfMemory refused = tt
  net_refuses (nets.TooLong size limit) refused = by (net_patch_of (replay (meanings (take (from - 1) ps))) (meanings (drop (from - 1) (take to ps)))) refl refused
    where
      by : (o : Option CheckedPatch) → o ≡ net_patch_of (replay (meanings (take (from - 1) ps))) (meanings (drop (from - 1) (take to ps))) → RefusesNet o (nets.TooLong size limit) → StopsSquash from to text (net_refused (nets.TooLong size limit))
      by None is refuses = absurd refuses
      by (Some net) is refuses = record { patches = ps; net = net; has = net_there net is; refuses = refuses }

  pub all_there : (net : CheckedPatch) (front behind : List ℕ) → Some net ≡ net_patch_of (replay (meanings (take (from - 1) ps))) (meanings (drop (from - 1) (take to ps))) → IsPatch net.text net.meaning
      → front ≡ joined_texts (take (from - 1) ps) → behind ≡ joined_texts (drop to ps) → HasSquashed from to text (front ++ (net.text ++ behind))
  all_there net front behind is patch front_is behind_is = record {
    patches = ps;
    net = net;
    has = net_there net is;
    is_patch = patch;
    result_is = ap (λ (t : List ℕ). t ++ (net.text ++ behind)) front_is
        ∙ ap (λ (t : List ℕ). joined_texts (take (from - 1) ps) ++ (net.text ++ t)) behind_is
        ∙ ap (λ (t : List ℕ). joined_texts (take (from - 1) ps) ++ t) (sym (flat_map-cons (λ (p : CheckedPatch). p.text) net (drop to ps)))
        ∙ sym (joined-append (take (from - 1) ps) (net ∷ drop to ps));
  }

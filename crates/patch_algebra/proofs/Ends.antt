-- What was gathered is the net changes, or what undoes them.
use Rattle.std.proofs.Common.{◌≡◌, ℕ, List, [], ◌∷◌, ◌++◌, map, Option, Some, refl, sym, ap, subst, ◌∙◌, append-nil}
use Rattle.std.proofs.lemmas.List.{map-append}
use Rattle.std.proofs.lemmas.List.Concat.{flat_map-cons}
use Rattle.std.specs.Prelude.{Vec}
use Rattle.std.specs.declared.alloc.Global.{Global}
use Rattle.std.specs.List.{AllByRecursion, filter}
use Rattle.delta_base.specs.declared.id.Id.{Id}
use Rattle.net_changes.proofs.Nets.{inverse_plain, net_plain}
use Rattle.net_changes.specs.Keys.{change_key, same_key}
use Rattle.net_changes.specs.Net.{IsPlain, alters}
use Rattle.net_changes.specs.Writes.{insertion_sort, last_writes}
use Rattle.patch_meaning.specs.Checked.{CheckedPatch, meanings}
use Rattle.patch_meaning.specs.Patch.{Meaning}
use Rattle.rdf_terms.specs.Dataset.{Dataset, kept}
use Rattle.rdf_terms.specs.declared.change.Change.{Change}
use Rattle.patch_algebra.proofs.Backwards.{last_before, nothing_before}
use Rattle.patch_algebra.specs.Gathered.{gathered, net_turned, HasGathered}
use Rattle.patch_algebra.specs.Nets.{inverse_changes, net_cmp, ranked_row, run_changes}
use Rattle.patch_algebra.specs.Patches.{id_of_last, net_patch_of, RefusesNet, RefusesWritten}
use Rattle.patch_algebra.specs.Written.{HaveRows, patch_in_block}
use Rattle.patch_algebra.specs.declared.fault.NetFault.{NetFault}
use Rattle.patch_algebra.specs.declared.gathering.Gathering.{Gathering}
use Rattle.patch_algebra.specs.declared.gathering.Direction.{Direction}
use Rattle.patch_algebra.specs.declared.gathering.Direction.TheVariants.{Back, Forth}

same_all : (cs : List Change) → map (λ (c : Change). c) cs ≡ cs
same_all [] = refl
same_all (c ∷ cs) = ap (λ (l : List Change). c ∷ l) (same_all cs)

pub gathered_is : (direction : Direction) (d : Dataset) (ms : List Meaning) → gathered direction d (kept (run_changes ms)) ≡ net_turned direction d ms
gathered_is Forth d ms = ap (insertion_sort net_cmp) (same_all (filter (alters d) (last_writes change_key same_key (kept (run_changes ms)))))
gathered_is Back d ms = refl

pub turned_plain : (direction : Direction) (d : Dataset) (ms : List Meaning) → AllByRecursion IsPlain (net_turned direction d ms)
turned_plain Forth d ms = net_plain net_cmp d (run_changes ms)
turned_plain Back d ms = inverse_plain net_cmp d (run_changes ms)

-- the changes of one patch are those of the run of it
pub one_inverse : (d : Dataset) (m : Meaning) → net_turned Back d (m ∷ []) ≡ inverse_changes d m.changes
one_inverse d m = ap (inverse_changes d) (flat_map-cons (λ (n : Meaning). n.changes) m [] ∙ append-nil m.changes)

pub last_is : (m : Meaning) (ms front : List Meaning) (l : Meaning) → m ∷ ms ≡ front ++ l ∷ [] → id_of_last m ms ≡ l.id
last_is m [] [] l e = let same : m ≡ l = cc in ap (λ (x : Meaning). x.id) same
last_is m [] (f ∷ []) l e = absurd cc
last_is m [] (f ∷ g ∷ front) l e = absurd cc
last_is m (n ∷ ms) [] l e = absurd cc
last_is m (n ∷ ms) (f ∷ front) l e = let rest : n ∷ ms ≡ front ++ l ∷ [] = cc in last_is n ms front l rest

-- what was written of what was gathered
pub gathered_patch : (direction : Direction) (d : Dataset) (ms : List Meaning) (g : Gathering) (id : Id) (prev : Option Id) (p : CheckedPatch) → HasGathered direction d ms g
    → ((cs : List Change) → map (λ (b : Vec ℕ Global). b.items) g.rows.keys ≡ map ranked_row cs → AllByRecursion IsPlain cs → HaveRows cs → p ≡ patch_in_block id prev cs) → p ≡ patch_in_block id prev (net_turned direction d ms)
gathered_patch direction d ms g id prev p h ok =
    let all = net_turned direction d ms in
    let is : gathered g.direction d (kept (run_changes ms)) ≡ all = ap (λ (x : Direction). gathered x d (kept (run_changes ms))) h.direction_is ∙ gathered_is direction d ms in
    ok all (h.changes_are.rows_are ∙ ap (map ranked_row) is) (turned_plain direction d ms) (subst HaveRows is h.changes_are.printed)

pub gathered_fault : (direction : Direction) (d : Dataset) (ms : List Meaning) (g : Gathering) (id : Id) (prev : Option Id) (fault : NetFault) → HasGathered direction d ms g
    → ((cs : List Change) → map (λ (b : Vec ℕ Global). b.items) g.rows.keys ≡ map ranked_row cs → RefusesWritten (patch_in_block id prev cs) fault) → RefusesWritten (patch_in_block id prev (net_turned direction d ms)) fault
gathered_fault direction d ms g id prev fault h refused =
    let all = net_turned direction d ms in
    let is : gathered g.direction d (kept (run_changes ms)) ≡ all = ap (λ (x : Direction). gathered x d (kept (run_changes ms))) h.direction_is ∙ gathered_is direction d ms in
    refused all (h.changes_are.rows_are ∙ ap (map ranked_row) is)

-- ---- a run

-- the patches behind the rest were gathered
pub record GoesBack (run rest : List CheckedPatch) (d : Dataset) (g : Gathering) : Type 0 where
  pub passed : List CheckedPatch
  pub run_is : run ≡ rest ++ passed
  pub gathers : HasGathered Forth d (meanings passed) g

pub none_passed : (run : List CheckedPatch) (d : Dataset) (g : Gathering) → HasGathered Forth d [] g → GoesBack run run d g
none_passed run d g h = record { passed = []; run_is = sym (append-nil run); gathers = h }

pub one_passed : (run rest before : List CheckedPatch) (p : CheckedPatch) (d : Dataset) (old new : Gathering) → rest ≡ before ++ p ∷ [] → GoesBack run rest d old
    → ((direction : Direction) (behind : List Meaning) → HasGathered direction d behind old → HasGathered direction d (p.meaning ∷ behind) new) → GoesBack run before d new
one_passed run rest before p d old new is goes took = record {
  passed = p ∷ goes.passed;
  run_is = last_before run rest before goes.passed p goes.run_is is;
  gathers = took Forth (meanings goes.passed) goes.gathers;
}

pub all_passed : (run rest : List CheckedPatch) (d : Dataset) (g : Gathering) → rest ≡ [] → GoesBack run rest d g → HasGathered Forth d (meanings run) g
all_passed run rest d g none goes = subst (λ (l : List CheckedPatch). HasGathered Forth d (meanings l) g) (sym (nothing_before run rest goes.passed goes.run_is none)) goes.gathers

-- the ids of the net patch
module _ (run behind front : List CheckedPatch) (first last : CheckedPatch) (d : Dataset) (begins : run ≡ first ∷ behind) (ends : run ≡ front ++ last ∷ []) where
  last_named : id_of_last first.meaning (meanings behind) ≡ last.meaning.id
  last_named =
      last_is first.meaning (meanings behind) (meanings front) last.meaning
      (ap meanings (sym begins ∙ ends) ∙ map-append (λ (p : CheckedPatch). p.meaning) front (last ∷ []))

  net_is : net_patch_of d (meanings run) ≡ Some (patch_in_block last.meaning.id first.meaning.prev (net_turned Forth d (meanings run)))
  net_is =
      ap (λ (l : List CheckedPatch). net_patch_of d (meanings l)) begins
      ∙ ap (λ (i : Id). Some (patch_in_block i first.meaning.prev (net_turned Forth d (meanings (first ∷ behind))))) last_named
      ∙ ap (λ (l : List CheckedPatch). Some (patch_in_block last.meaning.id first.meaning.prev (net_turned Forth d (meanings l)))) (sym begins)

  pub is_net : (p : CheckedPatch) → p ≡ patch_in_block last.meaning.id first.meaning.prev (net_turned Forth d (meanings run)) → Some p ≡ net_patch_of d (meanings run)
  is_net p e = ap Some e ∙ sym net_is

  pub is_refused : (fault : NetFault) → RefusesWritten (patch_in_block last.meaning.id first.meaning.prev (net_turned Forth d (meanings run))) fault → RefusesNet (net_patch_of d (meanings run)) fault
  is_refused fault refused = subst (λ (o : Option CheckedPatch). RefusesNet o fault) (sym net_is) refused

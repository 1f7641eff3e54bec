-- Disks in a list, of which one is used at a time.
use Rattle.std.proofs.Common.{◌≡◌, ◌≢◌, ⊎_elim, ℕ, ◌<◌, List, [], length, get_or, map, refl, sym, ◌∙◌, ap, subst, arith}
use Rattle.std.proofs.Math.ListN.{set}
use Rattle.std.proofs.lemmas.Bool.{cases_eq}
use Rattle.std.proofs.lemmas.List.{length-set, length-map, map-set, get_or-set_same, get_or-set_other}
use Rattle.disk_model.specs.Past.{Past, began, MayLeave, Keeps}
use Rattle.disk_model.proofs.Moments.{kept, joined, weaker, leaves}
use Rattle.journal_upgrade.specs.Copies.{past_at, AreKept}

-- kept in one call and in the next
pub kept_on : (a b c : Past) → Keeps a b → Keeps b c → Keeps a c
kept_on a b c first second = record {
  images = joined (MayLeave a) a b c first.images (weaker (MayLeave b) (MayLeave a) (leaves (MayLeave a) a b first.images) b c second.images);
  reads_same = second.reads_same ∙ first.reads_same;
}

module _ {D : Type 0} (past : D → Past) where
  -- the disk at one place went on
  pub at_place : (disks : List D) (i : ℕ) (disk : D) → i < length disks → past_at past (set disks i disk) i ≡ past disk
  at_place disks i disk within =
      let long : i < length (map past disks) = omega (arith, length-map disks past) in
      ap (λ (ps : List Past). get_or ps i (began [])) (map-set past disks i disk) ∙ get_or-set_same (map past disks) i (past disk) (began []) long

  pub elsewhere : (disks : List D) (i j : ℕ) (disk : D) → j ≢ i → past_at past (set disks i disk) j ≡ past_at past disks j
  elsewhere disks i j disk other =
      ap (λ (ps : List Past). get_or ps j (began [])) (map-set past disks i disk) ∙ get_or-set_other (map past disks) i j (past disk) (began []) other

  pub all_still : (disks : List D) → AreKept past disks disks
  all_still disks = record { as_many = refl; each = λ i within. kept (past_at past disks i) }

  pub one_kept : (old mid : List D) (i : ℕ) (disk : D) → AreKept past old mid → i < length mid → Keeps (past_at past mid i) (past disk) → AreKept past old (set mid i disk)
  one_kept old mid i disk so_far within keeps = record {
    as_many = length-set mid i disk ∙ so_far.as_many;
    each = λ j there. ⊎_elim
        (λ (same : j ≡ i).
        let here : past_at past (set mid i disk) j ≡ past disk = ap (past_at past (set mid i disk)) same ∙ at_place mid i disk within in
        let before : Keeps (past_at past old j) (past_at past mid i) = subst (λ (n : ℕ). Keeps (past_at past old j) (past_at past mid n)) same (so_far.each j there) in
        subst (Keeps (past_at past old j)) (sym here) (kept_on (past_at past old j) (past_at past mid i) (past disk) before keeps))
        (λ (other : j ≢ i). subst (Keeps (past_at past old j)) (sym (elsewhere mid i j disk other)) (so_far.each j there))
        (cases_eq j i);
  }

-- In a chain each patch is told by the one before it.
use Rattle.std.proofs.Common.{◌≡◌, ◌≢◌, ◌⊎◌, inl, inr, ⊎_elim, List, [], ◌∷◌, ◌++◌, map, Option, Some, None, refl, sym, ◌∙◌, ap, subst}
use mathlib.Core.List.{IsPrefix}
use Rattle.std.specs.List.{AllByRecursion}
use Rattle.delta_base.specs.declared.id.Id.{Id}
use Rattle.chain_core.specs.declared.chain.Patch.{Patch}
use Rattle.chain_core.specs.Links.{Follow, AllDiffer, IsChain}
use Rattle.chain_core.specs.Patches.{links_of}
use Rattle.chain_core.specs.Among.{IsAmong, AreAmong}
use Rattle.chain_core.proofs.Versions.{last_or}

abbrev ids : List Patch → List Id
ids patches = map (λ l. l.id) (links_of patches)

-- the id is none of these
abbrev IsNew : Id → List Patch → Type 0
IsNew id patches = AllByRecursion (λ j. j ≢ id) (ids patches)

-- so is the head, if there is one
abbrev IsNewHead : Option Id → List Patch → Type 0
IsNewHead None patches = Unit {0}
IsNewHead (Some id) patches = IsNew id patches

-- an id is this one, or that of one of these
abbrev IsIdOf : Id → Id → List Patch → Type 0
IsIdOf id first [] = id ≡ first
IsIdOf id first (p ∷ ps) = (id ≡ first) ⊎ IsIdOf id p.id ps

named_none : (id : Id) → ◌≡◌ {A = Option Id} None (Some id) → ⊥
named_none id same = cc

same_id : (a b : Id) → ◌≡◌ {A = Option Id} (Some a) (Some b) → a ≡ b
same_id a b same = cc

-- a new id is none of these
not_new : (new id first : Id) (ps : List Patch) → (first ≢ new) → IsNew new ps → IsIdOf id first ps → id ≡ new → ⊥
not_new new id first [] other all is same = other (sym is ∙ same)
not_new new id first (p ∷ ps) other all (inl is) same = other (sym is ∙ same)
not_new new id first (p ∷ ps) other all (inr is) same = not_new new id p.id ps all.0 all.1 is same

-- a later patch names one that stands before it
named : (first : Id) (ps : List Patch) (q : Patch) → Follow (Some first) (links_of ps) → IsAmong q ps → (id : Id) × (q.prev ≡ Some id) × IsIdOf id first ps
named first [] q follows is = absurd is
named first (p ∷ ps) q follows (inl is) = (first, ap (λ (it : Patch). it.prev) is ∙ follows.0, inl refl)
named first (p ∷ ps) q follows (inr is) = let it = named p.id ps q follows.1 is in (it.0, it.1, inr it.2)

-- the last id is one of these
last_is : (first : Id) (ps : List Patch) → (id : Id) × (last_or (Some first) (ids ps) ≡ Some id) × IsIdOf id first ps
last_is first [] = (first, refl, refl)
last_is first (p ∷ ps) = let it = last_is p.id ps in (it.0, it.1, inr it.2)

-- no id of a chain is its head
not_head : (head : Option Id) (p : Patch) (ps : List Patch) (id : Id) → IsNewHead head (p ∷ ps) → IsIdOf id p.id ps → head ≡ Some id → ⊥
not_head None p ps id new is same = named_none id same
not_head (Some it) p ps id new is same = not_new it id p.id ps new.0 new.1 is (sym (same_id it id same))

-- two that name the same one are the same
pub one_behind : (head : Option Id) (ps : List Patch) → Follow head (links_of ps) → IsNewHead head ps → AllDiffer (ids ps) → (p q : Patch) → IsAmong p ps → IsAmong q ps → p.prev ≡ q.prev → p ≡ q
one_behind head [] follows new differ p q is other same = absurd is
one_behind head (x ∷ xs) follows new differ p q (inl is) (inl other) same = is ∙ sym other
one_behind head (x ∷ xs) follows new differ p q (inl is) (inr other) same =
    let it = named x.id xs q follows.1 other in
    absurd (not_head head x xs it.0 new it.2 (sym follows.0 ∙ (ap (λ (one : Patch). one.prev) (sym is) ∙ (same ∙ it.1))))
one_behind head (x ∷ xs) follows new differ p q (inr is) (inl other) same =
    let it = named x.id xs p follows.1 is in
    absurd (not_head head x xs it.0 new it.2 (sym follows.0 ∙ (ap (λ (one : Patch). one.prev) (sym other) ∙ (sym same ∙ it.1))))
one_behind head (x ∷ xs) follows new differ p q (inr is) (inr other) same = one_behind (Some x.id) xs follows.1 differ.0 differ.1 p q is other same

-- none names the last one
pub none_behind : (head : Option Id) (ps : List Patch) → Follow head (links_of ps) → IsNewHead head ps → AllDiffer (ids ps) → (p : Patch) → IsAmong p ps → p.prev ≡ last_or head (ids ps) → ⊥
none_behind head [] follows new differ p is same = is
none_behind head (x ∷ xs) follows new differ p (inl is) same =
    let it = last_is x.id xs in
    not_head head x xs it.0 new it.2 (sym follows.0 ∙ (ap (λ (one : Patch). one.prev) (sym is) ∙ (same ∙ it.1)))
none_behind head (x ∷ xs) follows new differ p (inr is) same = none_behind (Some x.id) xs follows.1 differ.0 differ.1 p is same

module _ (whole : List Patch) (one : (p q : Patch) → IsAmong p whole → IsAmong q whole → p.prev ≡ q.prev → p ≡ q) (none : (p : Patch) → IsAmong p whole → p.prev ≡ last_or None (ids whole) → ⊥) where
  begins_rest : (head : Option Id) (some rest : List Patch) → Follow head (links_of some) → Follow head (links_of rest) → AreAmong some whole → ((q : Patch) → IsAmong q rest → IsAmong q whole)
      → last_or head (ids rest) ≡ last_or None (ids whole) → IsPrefix some rest
  begins_rest head [] rest follows others among within last = (rest, refl)
  begins_rest head (p ∷ some) [] follows others among within last = absurd (none p among.0 (follows.0 ∙ last))
  begins_rest head (p ∷ some) (q ∷ rest) follows others among within last =
      let same : p ≡ q = one p q among.0 (within q (inl refl)) (follows.0 ∙ sym others.0) in
      let more = begins_rest (Some q.id) some rest (subst (λ (it : Patch). Follow (Some it.id) (links_of some)) same follows.1) others.1 among.1 (λ it is. within it (inr is)) last in
      (more.0, ap (λ (it : Patch). it ∷ (some ++ more.0)) same ∙ ap (λ (it : List Patch). q ∷ it) more.1)

pub begins : (some whole : List Patch) → IsChain (links_of some) → IsChain (links_of whole) → AreAmong some whole → IsPrefix some whole
begins some whole chain other among =
    begins_rest whole (one_behind None whole other.follow tt other.differ) (none_behind None whole other.follow tt other.differ) None some whole chain.follow other.follow among (λ q is. is) refl

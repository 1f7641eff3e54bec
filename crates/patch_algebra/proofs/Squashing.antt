-- A net patch in the place of a run keeps the replay and the chain.
use Rattle.std.proofs.Common.{◌≡◌, List, [], ◌∷◌, ◌++◌, Option, None, Some, refl, sym, ap, subst, ◌∙◌, append_assoc}
use Rattle.std.specs.Prelude.{◌≢◌}
use Rattle.std.specs.List.{AllByRecursion}
use Rattle.std.proofs.lemmas.List.{map-append}
use Rattle.log_base.specs.declared.chain_link.ChainLink.{ChainLink}
use Rattle.chain_core.specs.Links.{Follow, AllDiffer, link_ids}
use Rattle.delta_base.specs.declared.id.Id.{Id}
use Rattle.patch_meaning.specs.Patch.{Meaning}
use Rattle.patch_meaning.specs.Replay.{link_of, links_said, replay, replay_from}
use Rattle.rdf_terms.specs.Dataset.{Dataset, apply, empty}
use Rattle.net_changes.specs.Values.{IsDatasetValue}
use Rattle.net_changes.proofs.Told.{changes_keep, empty_value}
use Rattle.patch_algebra.specs.Laws.{IsPatchValue}
use Rattle.patch_algebra.specs.Patches.{id_of_last}
use Rattle.patch_algebra.specs.Squashes.{net_meaning, SquashesKeepReplays, SquashesKeepChains}
use Rattle.patch_algebra.proofs.Runs.{nets_replay}

-- ---- replays

replay-append : (xs ys : List Meaning) (d : Dataset) → replay_from (xs ++ ys) d ≡ replay_from ys (replay_from xs d)
replay-append [] ys d = refl
replay-append (x ∷ xs) ys d = replay-append xs ys (apply x.changes d)

pub replay_value : (ms : List Meaning) (d : Dataset) → AllByRecursion IsPatchValue ms → IsDatasetValue d → IsDatasetValue (replay_from ms d)
replay_value [] d s v = v
replay_value (m ∷ ms) d s v = replay_value ms (apply m.changes d) s.1 (changes_keep d m.changes v s.0.named)

pub squashes_keep_replays : SquashesKeepReplays
squashes_keep_replays before m ms behind s t =
    let d = replay before in
    replay-append before (net_meaning d m ms ∷ behind) empty
    ∙ ap (replay_from behind) (nets_replay d (m ∷ ms) (replay_value before empty s empty_value) t)
    ∙ sym (replay-append (m ∷ ms) behind d)
    ∙ sym (replay-append before ((m ∷ ms) ++ behind) empty)

-- ---- chains

links-append : (xs ys : List Meaning) → links_said (xs ++ ys) ≡ links_said xs ++ links_said ys
links-append xs ys = map-append link_of xs ys

-- the id of the last one
abbrev head_behind : Option Id → List ChainLink → Option Id
head_behind head [] = head
head_behind head (l ∷ ls) = head_behind (Some l.id) ls

follow_front : (head : Option Id) (xs ys : List ChainLink) → Follow head (xs ++ ys) → Follow head xs
follow_front head [] ys f = tt
follow_front head (x ∷ xs) ys f = (f.0, follow_front (Some x.id) xs ys f.1)

follow_behind : (head : Option Id) (xs ys : List ChainLink) → Follow head (xs ++ ys) → Follow (head_behind head xs) ys
follow_behind head [] ys f = f
follow_behind head (x ∷ xs) ys f = follow_behind (Some x.id) xs ys f.1

follow_both : (head : Option Id) (xs ys : List ChainLink) → Follow head xs → Follow (head_behind head xs) ys → Follow head (xs ++ ys)
follow_both head [] ys f g = g
follow_both head (x ∷ xs) ys f g = (f.0, follow_both (Some x.id) xs ys f.1 g)

last_is : (m : Meaning) (ms : List Meaning) (head : Option Id) → head_behind head (links_said (m ∷ ms)) ≡ Some (id_of_last m ms)
last_is m [] head = refl
last_is m (n ∷ ms) head = last_is n ms (Some m.id)

-- with some taken out they still differ
without_all : (i : Id) (ys zs : List Id) → AllByRecursion (λ j. j ≢ i) (ys ++ zs) → AllByRecursion (λ j. j ≢ i) zs
without_all i [] zs a = a
without_all i (y ∷ ys) zs a = without_all i ys zs a.1

differ_behind : (ys zs : List Id) → AllDiffer (ys ++ zs) → AllDiffer zs
differ_behind [] zs d = d
differ_behind (y ∷ ys) zs d = differ_behind ys zs d.1

some_left : (i : Id) (xs ys zs : List Id) → AllByRecursion (λ j. j ≢ i) (xs ++ (ys ++ zs)) → AllByRecursion (λ j. j ≢ i) (xs ++ zs)
some_left i [] ys zs a = without_all i ys zs a
some_left i (x ∷ xs) ys zs a = (a.0, some_left i xs ys zs a.1)

differ_without : (xs ys zs : List Id) → AllDiffer (xs ++ (ys ++ zs)) → AllDiffer (xs ++ zs)
differ_without [] ys zs d = differ_behind ys zs d
differ_without (x ∷ xs) ys zs d = (some_left x xs ys zs d.0, differ_without xs ys zs d.1)

ids-append : (xs ys : List ChainLink) → link_ids (xs ++ ys) ≡ link_ids xs ++ link_ids ys
ids-append xs ys = map-append (λ (l : ChainLink). l.id) xs ys

-- the ids of a run are some and its last one
first_ids : (m : Meaning) (ms : List Meaning) → (front : List Id) × (link_ids (links_said (m ∷ ms)) ≡ front ++ id_of_last m ms ∷ [])
first_ids m [] = ([], refl)
first_ids m (n ∷ ms) = let rest = first_ids n ms in (m.id ∷ rest.0, ap (λ (l : List Id). m.id ∷ l) rest.1)

pub squashes_keep_chains : SquashesKeepChains
squashes_keep_chains d before m ms behind c =
    let B = links_said before in let run = links_said (m ∷ ms) in let H = links_said behind in
    let n : ChainLink = link_of (net_meaning d m ms) in
    let whole : links_said (before ++ ((m ∷ ms) ++ behind)) ≡ B ++ (run ++ H) =
    links-append before ((m ∷ ms) ++ behind) ∙ ap (λ (l : List ChainLink). B ++ l) (links-append (m ∷ ms) behind) in
    let follow = subst (Follow None) whole c.follow in
    let rest = follow_behind None B (run ++ H) follow in
    let last : Follow (Some (id_of_last m ms)) H = subst (λ (h : Option Id). Follow h H) (last_is m ms (head_behind None B)) (follow_behind (head_behind None B) run H rest) in
    let some = first_ids m ms in
    let parts : link_ids (links_said (before ++ ((m ∷ ms) ++ behind))) ≡ link_ids B ++ (some.0 ++ (id_of_last m ms ∷ link_ids H)) =
    ap link_ids whole ∙ ids-append B (run ++ H)
    ∙ ap (λ (l : List Id). link_ids B ++ l) (ids-append run H ∙ ap (λ (l : List Id). l ++ link_ids H) some.1 ∙ append_assoc some.0 (id_of_last m ms ∷ []) (link_ids H)) in
    let made : links_said (before ++ net_meaning d m ms ∷ behind) ≡ B ++ n ∷ H = links-append before (net_meaning d m ms ∷ behind) in
    record {
      follow = subst (Follow None) (sym made) (follow_both None B (n ∷ H) (follow_front None B (run ++ H) follow) (rest.0, last));
      differ = subst AllDiffer (sym (ap link_ids made ∙ ids-append B (n ∷ H))) (differ_without (link_ids B) some.0 (id_of_last m ms ∷ link_ids H) (subst AllDiffer parts c.differ));
    }

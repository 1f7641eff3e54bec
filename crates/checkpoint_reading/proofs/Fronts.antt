-- Items that stand in front of a text: one more of them, and where they stop.
use Rattle.std.proofs.Common.{◌≡◌, ℕ, true, false, ◌+◌, ◌-◌, ◌<◌, List, [], ◌∷◌, ◌++◌, length, take, refl, sym, ap, subst, ◌∙◌, ⊎_elim, append_assoc, length-append, arith}
use Rattle.std.specs.Cmp.Lexicographic.{slice_cmp, nat_list_cmp_total}
use Rattle.std.specs.List.{AllByRecursion, Contains, flat_map}
use Rattle.std.specs.List.Sorted.{IsStrictlySortedBy}
use Rattle.std.specs.Ordering.{nat_cmp, is_lt}
use Rattle.std.specs.declared.cmp.Ordering.{Ordering}
use Rattle.std.specs.declared.cmp.Ordering.TheVariants.{Less}
use Rattle.std.proofs.lemmas.List.{append-nil, take_at}
use Rattle.std.proofs.lemmas.List.Elements.{All-nil, All-push}
use Rattle.std.proofs.lemmas.Grind.{flat_map-append}
use Rattle.checkpoint_text.proofs.Items.{Following, following}
use Rattle.checkpoint_text.proofs.Ordered.{cases}
use Rattle.checkpoint_reading.specs.Front.{IsInFront, NoneInFront, AreInFront, RiseInFront, IsPast, shown_cmp}

-- what was read of a text is its front
pub front_taken : (text front rest : List ℕ) → text ≡ front ++ rest → take (length text - length rest) text ≡ front
front_taken text front rest parts =
    let long : length text ≡ length front + length rest = ap length parts ∙ length-append front rest in
    let count : length text - length rest ≡ length front = omega (arith, long) in
    ap (λ (t : List ℕ). take (length text - length rest) t) parts ∙ take_at front rest (length text - length rest) (sym count)

true_false : true ≡ false → ⊥
true_false e = absurd cc

-- what doesn't come behind the last isn't the next
pub not_behind : {X : Type 0} (show : X → List ℕ) (Is : X → Type 0) (cut : (a b : X) (x y : List ℕ) → Is a → Is b → show a ++ x ≡ show b ++ y → (a ≡ b) × (x ≡ y)) (text last front : List ℕ) (item : X) (rest : List ℕ) (r : Ordering) → IsInFront show Is text item rest → front ≡ show item → r ≡ slice_cmp nat_cmp last front → is_lt r ≡ false → NoneInFront show (IsPast show Is last) text
not_behind show Is cut text last front item rest r here shown is not other more at =
    let one = cut other item more rest at.is.0 here.is (sym at.parts ∙ here.parts) in
    let less : r ≡ Less = is ∙ ap (slice_cmp nat_cmp last) (shown ∙ ap show (sym one.0)) ∙ at.is.1 in
    true_false (sym (ap is_lt less) ∙ not)

-- the text of the last item, or nothing
abbrev mutual
  pub last_text : {X : Type 0} → (X → List ℕ) → List X → List ℕ
  last_text show [] = []
  last_text show (x ∷ xs) = last_behind show x xs

  pub last_behind : {X : Type 0} → (X → List ℕ) → X → List X → List ℕ
  last_behind show x [] = show x
  last_behind show x (y ∷ ys) = last_behind show y ys

module _ {X : Type 0} (show : X → List ℕ) where
  abbrev R : X → X → Ordering
  R a b = shown_cmp show a b

  behind_push : (y : X) (ys : List X) (x : X) → last_behind show y (ys ++ x ∷ []) ≡ show x
  behind_push y [] x = refl
  behind_push y (z ∷ ys) x = behind_push z ys x

  pub last_push : (xs : List X) (x : X) → last_text show (xs ++ x ∷ []) ≡ show x
  last_push [] x = refl
  last_push (y ∷ ys) x = behind_push y ys x

  less_trans : (a b c : List ℕ) → slice_cmp nat_cmp a b ≡ Less → slice_cmp nat_cmp b c ≡ Less → slice_cmp nat_cmp a c ≡ Less
  less_trans a b c one two = nat_list_cmp_total.trans a b c one two

  -- what comes behind the last comes behind the first
  past_all : (y : X) (ys : List X) (t : List ℕ) → IsStrictlySortedBy R (y ∷ ys) → slice_cmp nat_cmp (last_behind show y ys) t ≡ Less → slice_cmp nat_cmp (show y) t ≡ Less
  unfolding IsStrictlySortedBy
  past_all y [] t s less = less
  past_all y (z ∷ zs) t s less = less_trans (show y) (show z) t s.0.0 (past_all z zs t s.1 less)

  all_push : (y : X) (ys : List X) (x : X) → AllByRecursion (λ z. R y z ≡ Less) ys → R y x ≡ Less → AllByRecursion (λ z. R y z ≡ Less) (ys ++ x ∷ [])
  all_push y [] x a less = (less, tt)
  all_push y (z ∷ zs) x a less = (a.0, all_push y zs x a.1 less)

  pub sorted_push : (xs : List X) (x : X) → IsStrictlySortedBy R xs → slice_cmp nat_cmp (last_text show xs) (show x) ≡ Less → IsStrictlySortedBy R (xs ++ x ∷ [])
  unfolding IsStrictlySortedBy
  sorted_push [] x s less = (tt, tt)
  sorted_push (y ∷ []) x s less = ((less, tt), (tt, tt))
  sorted_push (y ∷ z ∷ zs) x s less =
      (all_push y (z ∷ zs) x s.0 (past_all y (z ∷ zs) (show x) s less), sorted_push (z ∷ zs) x s.1 less)

  among : (y : X) (ys : List X) (x : X) (others : List X) → AllByRecursion (λ z. R y z ≡ Less) (ys ++ x ∷ others) → R y x ≡ Less
  among y [] x others a = a.0
  among y (z ∷ zs) x others a = among y zs x others a.1

  -- of rising items each comes before those behind it
  pub before : (xs : List X) (x : X) (others : List X) (z : X) → IsStrictlySortedBy R (xs ++ x ∷ others) → Contains xs z → R z x ≡ Less
  unfolding IsStrictlySortedBy
  before [] x others z s c = let low = c.1 in absurd (omega arith)
  before (y ∷ ys) x others z s c =
      ⊎_elim (λ (same : y ≡ z). subst (λ (w : X). R w x ≡ Less) same (among y ys x others s.0)) (λ (past : Contains ys z). before ys x others z s.1 past) (cases y ys z c)

  -- and so do all of them
  pub all_before : (xs : List X) (x : X) (others : List X) → IsStrictlySortedBy R (xs ++ x ∷ others) → AllByRecursion (λ z. R z x ≡ Less) xs
  unfolding IsStrictlySortedBy
  all_before [] x others s = tt
  all_before (y ∷ ys) x others s = (among y ys x others s.0, all_before ys x others s.1)

  -- and so the last before the next
  pub last_before : (xs : List X) (x : X) (others : List X) → slice_cmp nat_cmp [] (show x) ≡ Less → IsStrictlySortedBy R (xs ++ x ∷ others) → slice_cmp nat_cmp (last_text show xs) (show x) ≡ Less
  unfolding IsStrictlySortedBy
  last_before [] x others some s = some
  last_before (y ∷ []) x others some s = s.0.0
  last_before (y ∷ z ∷ zs) x others some s = last_before (z ∷ zs) x others some s.1

module _ {X : Type 0} (show : X → List ℕ) (Is : X → Type 0) where
  pub none_yet : (text : List ℕ) → AreInFront show Is 0 text [] text
  none_yet text = record { are = All-nil Is; many = refl; parts = refl }

  pub one_more : (n : ℕ) (text rest behind : List ℕ) (xs : List X) (x : X) → AreInFront show Is n text xs rest → IsInFront show Is rest x behind → AreInFront show Is (n + 1) text (xs ++ x ∷ []) behind
  one_more n text rest behind xs x front next = record {
    are = All-push Is xs x front.are next.is;
    many = omega (arith, front.many, length-append xs (x ∷ []));
    parts = front.parts
        ∙ ap (λ (t : List ℕ). flat_map show xs ++ t) next.parts
        ∙ sym (append_assoc (flat_map show xs) (show x) behind)
        ∙ ap (λ (t : List ℕ). t ++ behind) (ap (λ (t : List ℕ). flat_map show xs ++ t) (sym (append-nil (show x))) ∙ sym (flat_map-append show xs (x ∷ [])));
  }

  pub none_rise : (text : List ℕ) → RiseInFront show Is 0 text [] text
  unfolding IsStrictlySortedBy
  none_rise text = record { front = none_yet text; rising = tt }

  pub rise_more : (n : ℕ) (text rest behind : List ℕ) (xs : List X) (x : X) → RiseInFront show Is n text xs rest → IsInFront show (IsPast show Is (last_text show xs)) rest x behind → RiseInFront show Is (n + 1) text (xs ++ x ∷ []) behind
  rise_more n text rest behind xs x front next = record {
    front = one_more n text rest behind xs x front.front (record { is = next.is.0; parts = next.parts });
    rising = sorted_push show xs x front.rising next.is.1;
  }

  module _ (cut : (a b : X) (x y : List ℕ) → Is a → Is b → show a ++ x ≡ show b ++ y → (a ≡ b) × (x ≡ y)) where
    -- where more of them stand, the next is one of these
    pub next_one : (i n : ℕ) (text rest r : List ℕ) (xs ys : List X) → AreInFront show Is i text xs rest → AreInFront show Is n text ys r → i < n → Following show Is xs ys rest r
    next_one i n text rest r xs ys some all less =
        following show Is cut xs ys rest r (omega (arith, some.many, all.many)) some.are all.are (sym some.parts ∙ all.parts)

    pub goes_on : (i n : ℕ) (text rest behind r : List ℕ) (xs ys : List X) (x : X) → AreInFront show Is i text xs rest → IsInFront show Is rest x behind → AreInFront show Is n text ys r → i < n → (others : List X) × (ys ≡ xs ++ x ∷ others)
    goes_on i n text rest behind r xs ys x some next all less =
        let more = next_one i n text rest r xs ys some all less in
        let one = cut more.item x (flat_map show more.others ++ r) behind more.is next.is (sym more.there ∙ next.parts) in
        (more.others, more.goes_on ∙ ap (λ (z : X). xs ++ z ∷ more.others) one.0)

    pub stops : (i n : ℕ) (text rest : List ℕ) (xs : List X) → AreInFront show Is i text xs rest → i < n → NoneInFront show Is rest → (ys : List X) (r : List ℕ) → AreInFront show Is n text ys r → ⊥
    stops i n text rest xs some less none ys r all =
        let more = next_one i n text rest r xs ys some all less in
        none more.item (flat_map show more.others ++ r) (record { is = more.is; parts = more.there })

    -- the same of rising ones, none of which has no text
    pub rise_stops : (i n : ℕ) (text rest : List ℕ) (xs : List X) → ((x : X) → slice_cmp nat_cmp [] (show x) ≡ Less) → RiseInFront show Is i text xs rest → i < n → NoneInFront show (IsPast show Is (last_text show xs)) rest → (ys : List X) (r : List ℕ) → RiseInFront show Is n text ys r → ⊥
    rise_stops i n text rest xs shown some less none ys r all =
        let more = next_one i n text rest r xs ys some.front all.front less in
        let rising : IsStrictlySortedBy (shown_cmp show) (xs ++ more.item ∷ more.others) = subst (IsStrictlySortedBy (shown_cmp show)) more.goes_on all.rising in
        none more.item (flat_map show more.others ++ r) (record { is = (more.is, last_before show xs more.item more.others (shown more.item) rising); parts = more.there })

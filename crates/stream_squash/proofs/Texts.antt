-- Texts of patches that stand one behind another.
use Rattle.std.proofs.Common.{◌≡◌, ℕ, ◌+◌, ◌-◌, ◌≤◌, List, [], ◌∷◌, ◌++◌, length, map, take, drop, sum, refl, sym, ap, subst, ◌∙◌, arith, length-append, append-nil, append_assoc}
use Rattle.std.proofs.lemmas.Grind.{flat_map-append}
use Rattle.std.proofs.lemmas.List.{map-append, take-append-drop, take-take, take-map, drop-map}
use Rattle.std.proofs.lemmas.List.Concat.{flat_map-cons, length-flat_map}
use Rattle.std.proofs.lemmas.List.Sums.{sum-map}
use Rattle.std.proofs.Math.Seq.{take-append_seam, drop-append_seam}
use Rattle.patch_meaning.specs.Checked.{AreChecked, CheckedPatch}
use Rattle.patch_meaning.specs.Patch.{IsPatch}
use Rattle.stream_squash.specs.Pieces.{ArePieces}
use Rattle.stream_squash.specs.Squashes.{joined}

abbrev pub size_of : CheckedPatch → ℕ
size_of p = length p.text

-- ---- how long

pub total_is : (ps : List CheckedPatch) → sum (map size_of ps) ≡ length (joined ps)
total_is ps = sum-map size_of ps ∙ sym (length-flat_map (λ (p : CheckedPatch). p.text) ps)

pub joined-append : (ps qs : List CheckedPatch) → joined (ps ++ qs) ≡ joined ps ++ joined qs
joined-append ps qs = flat_map-append (λ (p : CheckedPatch). p.text) ps qs

pub joined-one : (p : CheckedPatch) → joined (p ∷ []) ≡ p.text
joined-one p = flat_map-cons (λ (q : CheckedPatch). q.text) p [] ∙ append-nil p.text

-- ---- patches by themselves

pub checked_front : (ps qs : List CheckedPatch) → AreChecked (ps ++ qs) → AreChecked ps
checked_front [] qs are = tt
checked_front (p ∷ ps) qs are = (are.0, checked_front ps qs are.1)

pub checked_behind : (ps qs : List CheckedPatch) → AreChecked (ps ++ qs) → AreChecked qs
checked_behind [] qs are = are
checked_behind (p ∷ ps) qs are = checked_behind ps qs are.1

-- ---- the first one and the last one

-- a list of patches with so many bytes each has a first one where there is a first number
pub record Begins (ps : List CheckedPatch) (rest : List ℕ) (size : ℕ) (others : List ℕ) : Type 0 where
  pub p : CheckedPatch
  pub qs : List CheckedPatch
  pub patches_are : ps ≡ p ∷ qs
  pub size_is : size ≡ length p.text
  pub within : size ≤ length rest
  pub piece_is : take size rest ≡ p.text
  pub is_patch : IsPatch p.text p.meaning
  pub behind : ArePieces qs (drop size rest) others

pub begins : (ps : List CheckedPatch) (rest left others : List ℕ) (size : ℕ) → left ≡ size ∷ others → ArePieces ps rest left → Begins ps rest size others
begins [] rest left others size is pieces = let none : [] ≡ size ∷ others = sym pieces.lengths_are ∙ is in absurd cc
begins (p ∷ qs) rest left others size is pieces =
    let sizes : size_of p ∷ map size_of qs ≡ size ∷ others = sym pieces.lengths_are ∙ is in
    let here : size ≡ length p.text = cc in
    let there : others ≡ map size_of qs = cc in
    let text : rest ≡ p.text ++ joined qs = pieces.text_is ∙ flat_map-cons (λ (q : CheckedPatch). q.text) p qs in
    let whole : length rest ≡ length p.text + length (joined qs) = ap length text ∙ length-append p.text (joined qs) in
    record {
      p = p;
      qs = qs;
      patches_are = refl;
      size_is = here;
      within = omega (arith, here, whole);
      piece_is = ap (λ (n : ℕ). take n rest) here ∙ ap (take (length p.text)) text ∙ take-append_seam p.text (joined qs);
      is_patch = pieces.checked.0;
      behind = record {
        text_is = ap (λ (n : ℕ). drop n rest) here ∙ ap (drop (length p.text)) text ∙ drop-append_seam p.text (joined qs);
        lengths_are = there;
        checked = pieces.checked.1;
      };
    }

-- the same of the last one
pub record Ends (ps : List CheckedPatch) (rest : List ℕ) (size : ℕ) (others : List ℕ) : Type 0 where
  pub qs : List CheckedPatch
  pub p : CheckedPatch
  pub patches_are : ps ≡ qs ++ p ∷ []
  pub within : size ≤ length rest
  pub piece_is : drop (length rest - size) rest ≡ p.text
  pub is_patch : IsPatch p.text p.meaning
  pub before : ArePieces qs (take (length rest - size) rest) others

-- a list without its last one, and that
pub record Last {X : Type 0} (xs : List X) : Type 0 where
  pub front : List X
  pub x : X
  pub is : xs ≡ front ++ x ∷ []

last_of : {X : Type 0} (x : X) (xs : List X) → Last (x ∷ xs)
last_of x [] = record { front = []; x = x; is = refl }
last_of x (y ∷ ys) = let l = last_of y ys in record { front = x ∷ l.front; x = l.x; is = ap (λ (zs : List _). x ∷ zs) l.is }

ends_alike : (xs ys : List ℕ) (x y : ℕ) → xs ++ x ∷ [] ≡ ys ++ y ∷ [] → (xs ≡ ys) × (x ≡ y)
ends_alike [] [] x y e = (refl, cc)
ends_alike [] (a ∷ []) x y e = absurd cc
ends_alike [] (a ∷ b ∷ ys) x y e = absurd cc
ends_alike (a ∷ []) [] x y e = absurd cc
ends_alike (a ∷ b ∷ xs) [] x y e = absurd cc
ends_alike (a ∷ xs) (b ∷ ys) x y e =
    let same : a ≡ b = cc in
    let rest : xs ++ x ∷ [] ≡ ys ++ y ∷ [] = cc in
    let l = ends_alike xs ys x y rest in
    (ap (λ (z : ℕ). z ∷ xs) same ∙ ap (λ (zs : List ℕ). b ∷ zs) l.0, l.1)

none_ends : (others : List ℕ) (size : ℕ) → [] ≡ others ++ size ∷ [] → ⊥
none_ends [] size e = absurd cc
none_ends (x ∷ xs) size e = absurd cc

split_ends : (qs : List CheckedPatch) (p : CheckedPatch) (rest others : List ℕ) (size : ℕ) → ArePieces (qs ++ p ∷ []) rest (others ++ size ∷ []) → Ends (qs ++ p ∷ []) rest size others
split_ends qs p rest others size pieces =
    let sizes = ends_alike others (map size_of qs) size (length p.text) (pieces.lengths_are ∙ map-append size_of qs (p ∷ [])) in
    let text : rest ≡ joined qs ++ p.text = pieces.text_is ∙ joined-append qs (p ∷ []) ∙ ap (λ (t : List ℕ). joined qs ++ t) (joined-one p) in
    let whole : length rest ≡ length (joined qs) + length p.text = ap length text ∙ length-append (joined qs) p.text in
    let here = sizes.1 in
    let at : length rest - size ≡ length (joined qs) = omega (arith, whole, here) in
    record {
      qs = qs;
      p = p;
      patches_are = refl;
      within = omega (arith, whole, here);
      piece_is = ap (λ (n : ℕ). drop n rest) at ∙ ap (drop (length (joined qs))) text ∙ drop-append_seam (joined qs) p.text;
      is_patch = (checked_behind qs (p ∷ []) pieces.checked).0;
      before = record {
        text_is = ap (λ (n : ℕ). take n rest) at ∙ ap (take (length (joined qs))) text ∙ take-append_seam (joined qs) p.text;
        lengths_are = sizes.0;
        checked = checked_front qs (p ∷ []) pieces.checked;
      };
    }

pub ends : (ps : List CheckedPatch) (rest left others : List ℕ) (size : ℕ) → left ≡ others ++ size ∷ [] → ArePieces ps rest left → Ends ps rest size others
ends [] rest left others size is pieces = absurd (none_ends others size (sym pieces.lengths_are ∙ is))
ends (q ∷ qs) rest left others size is pieces =
    let l = last_of q qs in
    subst (λ (ps : List CheckedPatch). Ends ps rest size others) (sym l.is)
    (split_ends l.front l.x rest others size (subst (ArePieces (l.front ++ l.x ∷ []) rest) is (subst (λ (ps : List CheckedPatch). ArePieces ps rest left) l.is pieces)))

-- ---- three parts

-- patches one behind another, in three parts
pub record Parts (xs ys zs : List CheckedPatch) (text : List ℕ) : Type 0 where
  pub front_is : take (length (joined xs)) text ≡ joined xs
  pub within : length (joined xs) ≤ length text
  pub rest_is : drop (length (joined xs)) text ≡ joined ys ++ joined zs

pub parted : (xs ys zs : List CheckedPatch) (text : List ℕ) → text ≡ joined (xs ++ (ys ++ zs)) → Parts xs ys zs text
parted xs ys zs text is =
    let text_is : text ≡ joined xs ++ (joined ys ++ joined zs) = is ∙ joined-append xs (ys ++ zs) ∙ ap (λ (t : List ℕ). joined xs ++ t) (joined-append ys zs) in
    record {
      front_is = ap (take (length (joined xs))) text_is ∙ take-append_seam (joined xs) (joined ys ++ joined zs);
      within = omega (arith, ap length text_is, length-append (joined xs) (joined ys ++ joined zs));
      rest_is = ap (drop (length (joined xs))) text_is ∙ drop-append_seam (joined xs) (joined ys ++ joined zs);
    }

-- ---- from one version to another

-- of a chain's patches those before, those from one version to another, and those behind
pub record Cut (xs ys zs : List CheckedPatch) (text before run : List ℕ) : Type 0 where
  pub front_size : sum before ≡ length (joined xs)
  pub front_within : length (joined xs) ≤ length text
  pub front : ArePieces xs (take (length (joined xs)) text) before
  pub run_size : sum run ≡ length (joined ys)
  pub run_within : length (joined ys) ≤ length (drop (length (joined xs)) text)
  pub run_ : ArePieces ys (take (length (joined ys)) (drop (length (joined xs)) text)) run
  pub behind_is : drop (length (joined ys)) (drop (length (joined xs)) text) ≡ joined zs

cut_pieces : (xs ys zs : List CheckedPatch) (text before run : List ℕ) → text ≡ joined (xs ++ (ys ++ zs)) → before ≡ map size_of xs → run ≡ map size_of ys → AreChecked (xs ++ (ys ++ zs)) → Cut xs ys zs text before run
cut_pieces xs ys zs text before run is before_is run_is checked =
    let p = parted xs ys zs text is in
    let rest = drop (length (joined xs)) text in
    let behind = checked_behind xs (ys ++ zs) checked in
    record {
      front_size = ap sum before_is ∙ total_is xs;
      front_within = p.within;
      front = record { text_is = p.front_is; lengths_are = before_is; checked = checked_front xs (ys ++ zs) checked };
      run_size = ap sum run_is ∙ total_is ys;
      run_within = omega (arith, ap length p.rest_is, length-append (joined ys) (joined zs));
      run_ = record {
        text_is = ap (take (length (joined ys))) p.rest_is ∙ take-append_seam (joined ys) (joined zs);
        lengths_are = run_is;
        checked = checked_front ys zs behind;
      };
      behind_is = ap (drop (length (joined ys))) p.rest_is ∙ drop-append_seam (joined ys) (joined zs);
    }

pub in_three : (n m : ℕ) (ps : List CheckedPatch) → n ≤ m → take n ps ++ (drop n (take m ps) ++ drop m ps) ≡ ps
in_three n m ps le =
    sym (append_assoc (take n ps) (drop n (take m ps)) (drop m ps))
    ∙ ap (λ (l : List CheckedPatch). (l ++ drop n (take m ps)) ++ drop m ps) (sym (take-take n m ps le))
    ∙ ap (λ (l : List CheckedPatch). l ++ drop m ps) (take-append-drop n (take m ps))
    ∙ take-append-drop m ps

pub cut_run : (n m : ℕ) (ps : List CheckedPatch) (text lengths wanted before run : List ℕ) → n ≤ m → text ≡ joined ps → lengths ≡ map size_of ps → AreChecked ps
    → wanted ≡ take m lengths → before ≡ take n wanted → run ≡ drop n wanted → Cut (take n ps) (drop n (take m ps)) (drop m ps) text before run
cut_run n m ps text lengths wanted before run le is sizes checked wanted_is before_is run_is =
    let whole = in_three n m ps le in
    let some : wanted ≡ map size_of (take m ps) = wanted_is ∙ ap (take m) sizes ∙ take-map size_of m ps in
    cut_pieces (take n ps) (drop n (take m ps)) (drop m ps) text before run (is ∙ ap joined (sym whole))
    (before_is ∙ ap (take n) some ∙ take-map size_of n (take m ps) ∙ ap (map size_of) (take-take n m ps le))
    (run_is ∙ ap (drop n) some ∙ drop-map size_of n (take m ps))
    (subst AreChecked (sym whole) checked)

-- Numbers between bytes that end them.
use Rattle.std.proofs.Common.{◌≡◌, ◌≢◌, ℕ, zero, suc, ◌+◌, ◌<◌, ◌^◌, List, [], ◌∷◌, ◌++◌, refl, sym, ◌∙◌, ap, subst, drop, append_assoc, arith}
use Rattle.std.specs.Prelude.{◌%◌}
use Rattle.std.specs.Fmt.{decimal}
use Rattle.std.proofs.lemmas.Fmt.{decimal_by_steps, decimal_injective}
use Rattle.checkpoint_line.specs.First.{first_line, AreCounts, HasFirstLine, IsWithout, IsCut, IsNumberTo}
use Rattle.checkpoint_line.specs.declared.first.FirstLine.{FirstLine}

-- there is one cut at the first byte of this kind
pub one_cut : (stop : ℕ) (a b x y : List ℕ) → IsWithout stop a → IsWithout stop x → a ++ stop ∷ b ≡ x ++ stop ∷ y → (a ≡ x) × (b ≡ y)
one_cut stop [] b [] y no_a no_x same = (refl, cc)
one_cut stop [] b (c ∷ x) y no_a no_x same = let first : stop ≡ c = cc in absurd (no_x 0 (omega arith) (sym first))
one_cut stop (c ∷ a) b [] y no_a no_x same = let first : c ≡ stop = cc in absurd (no_a 0 (omega arith) first)
one_cut stop (c ∷ a) b (d ∷ x) y no_a no_x same =
    let first : c ≡ d = cc in
    let rest : a ++ stop ∷ b ≡ x ++ stop ∷ y = cc in
    let parts = one_cut stop a b x y (λ k within. no_a (suc k) (omega arith)) (λ k within. no_x (suc k) (omega arith)) rest in
    (ap (λ (h : ℕ). h ∷ a) first ∙ ap (λ (t : List ℕ). d ∷ t) parts.0, parts.1)

-- what has the byte behind a part isn't without it
pub no_cut : (stop : ℕ) (a b : List ℕ) → IsWithout stop (a ++ stop ∷ b) → ⊥
no_cut stop [] b none = none 0 (omega arith) refl
no_cut stop (c ∷ a) b none = no_cut stop a b (λ k within. none (suc k) (omega arith))

without_push : (stop : ℕ) (text : List ℕ) (c : ℕ) → IsWithout stop text → c ≢ stop → IsWithout stop (text ++ c ∷ [])
without_push stop [] c clear not zero within = not
without_push stop [] c clear not (suc k) within = absurd (omega arith)
without_push stop (x ∷ text) c clear not zero within = clear 0 (omega arith)
without_push stop (x ∷ text) c clear not (suc k) within = without_push stop text c (λ k within. clear (suc k) (omega arith)) not k (omega arith)

pub decimal-without : (stop n : ℕ) → stop < 48 → n < 2 ^ 64 → IsWithout stop (decimal n)
decimal-without stop n low small = decimal_by_steps (λ n ds. IsWithout stop ds)
    (λ n small. without_push stop [] (48 + n) (λ k within. absurd (omega arith)) (λ same. omega arith))
    (λ n ds large clear. without_push stop ds (48 + n % 10) clear (λ same. omega arith)) n small

-- a number and what stands behind the byte that ends it
pub one_number : (stop m n : ℕ) (a b : List ℕ) → stop < 48 → m < 2 ^ 64 → n < 2 ^ 64 → decimal m ++ stop ∷ a ≡ decimal n ++ stop ∷ b → (m ≡ n) × (a ≡ b)
one_number stop m n a b low small_m small_n same =
    let parts = one_cut stop (decimal m) a (decimal n) b (decimal-without stop m low small_m) (decimal-without stop n low small_n) same in
    (decimal_injective m n small_m small_n parts.0, parts.1)

pub same_number : (stop : ℕ) (text : List ℕ) (m n : ℕ) (a b : List ℕ) → stop < 48 → IsNumberTo stop text m a → IsNumberTo stop text n b → (m ≡ n) × (a ≡ b)
same_number stop text m n a b low one two = one_number stop m n a b low one.counts two.counts (sym one.parts ∙ two.parts)

pub no_number_cut : (stop : ℕ) (text : List ℕ) (n : ℕ) (b : List ℕ) → IsWithout stop text → IsNumberTo stop text n b → ⊥
no_number_cut stop text n b without is = no_cut stop (decimal n) b (subst (IsWithout stop) is.parts without)

pub cut_number : (stop : ℕ) (text part rest : List ℕ) (n : ℕ) (b : List ℕ) → stop < 48 → IsCut stop text part rest → IsNumberTo stop text n b → (decimal n ≡ part) × (b ≡ rest)
cut_number stop text part rest n b low is number = one_cut stop (decimal n) b part rest (decimal-without stop n low number.counts) is.clear (sym number.parts ∙ is.parts)

-- ---- what stands behind each number of a first line

abbrev pub behind_prefixes : FirstLine → List ℕ → List ℕ
behind_prefixes l behind = decimal l.quads ++ 10 ∷ behind

abbrev pub behind_bytes : FirstLine → List ℕ → List ℕ
behind_bytes l behind = decimal l.prefixes ++ 32 ∷ behind_prefixes l behind

abbrev pub behind_patches : FirstLine → List ℕ → List ℕ
behind_patches l behind = decimal l.bytes ++ 32 ∷ behind_bytes l behind

abbrev pub behind_generation : FirstLine → List ℕ → List ℕ
behind_generation l behind = decimal l.patches ++ 32 ∷ behind_patches l behind

abbrev pub behind_mark : FirstLine → List ℕ → List ℕ
behind_mark l behind = decimal l.generation ++ 32 ∷ behind_generation l behind

pub first_parts : (l : FirstLine) (behind : List ℕ) → first_line l ++ behind ≡ 90 ∷ 32 ∷ behind_mark l behind
first_parts l behind = simp append_assoc

module _ (l : FirstLine) (counts : AreCounts l) (text behind : List ℕ) (is : text ≡ first_line l ++ behind) where
  pub to_mark : (one : List ℕ) → text ≡ 90 ∷ 32 ∷ one → one ≡ behind_mark l behind
  to_mark one parts = ap (drop 2) (sym parts ∙ is ∙ first_parts l behind)

  pub at_mark : text ≡ 90 ∷ 32 ∷ behind_mark l behind
  at_mark = is ∙ first_parts l behind

  pub at_generation : (one : List ℕ) → text ≡ 90 ∷ 32 ∷ one → IsNumberTo 32 one l.generation (behind_generation l behind)
  at_generation one parts = record { parts = to_mark one parts; counts = counts.generation }

  pub at_patches : (one two : List ℕ) (g : ℕ) → text ≡ 90 ∷ 32 ∷ one → IsNumberTo 32 one g two → IsNumberTo 32 two l.patches (behind_patches l behind)
  at_patches one two g parts first = record { parts = (same_number 32 one g l.generation two (behind_generation l behind) (omega arith) first (at_generation one parts)).1; counts = counts.patches }

  pub at_bytes : (one two three : List ℕ) (g v : ℕ) → text ≡ 90 ∷ 32 ∷ one → IsNumberTo 32 one g two → IsNumberTo 32 two v three → IsNumberTo 32 three l.bytes (behind_bytes l behind)
  at_bytes one two three g v parts first second = record { parts = (same_number 32 two v l.patches three (behind_patches l behind) (omega arith) second (at_patches one two g parts first)).1; counts = counts.bytes }

  pub at_prefixes : (one two three four : List ℕ) (g v b : ℕ) → text ≡ 90 ∷ 32 ∷ one → IsNumberTo 32 one g two → IsNumberTo 32 two v three → IsNumberTo 32 three b four → IsNumberTo 32 four l.prefixes (behind_prefixes l behind)
  at_prefixes one two three four g v b parts first second third = record { parts = (same_number 32 three b l.bytes four (behind_bytes l behind) (omega arith) third (at_bytes one two three g v parts first second)).1; counts = counts.prefixes }

  pub at_quads : (one two three four five : List ℕ) (g v b p : ℕ) → text ≡ 90 ∷ 32 ∷ one → IsNumberTo 32 one g two → IsNumberTo 32 two v three → IsNumberTo 32 three b four → IsNumberTo 32 four p five → IsNumberTo 10 five l.quads behind
  at_quads one two three four five g v b p parts first second third fourth = record { parts = (same_number 32 four p l.prefixes five (behind_prefixes l behind) (omega arith) fourth (at_prefixes one two three four g v b parts first second third)).1; counts = counts.quads }

pub joined : (text one two three four five behind : List ℕ) (g v b p q : ℕ) → text ≡ 90 ∷ 32 ∷ one → IsNumberTo 32 one g two → IsNumberTo 32 two v three → IsNumberTo 32 three b four → IsNumberTo 32 four p five → IsNumberTo 10 five q behind
    → text ≡ first_line (record { generation = g; patches = v; bytes = b; prefixes = p; quads = q }) ++ behind
joined text one two three four five behind g v b p q parts first second third fourth fifth =
    parts ∙ ap (λ (t : List ℕ). 90 ∷ 32 ∷ t) (first.parts ∙ ap (λ (t : List ℕ). decimal g ++ 32 ∷ t) (second.parts ∙ ap (λ (t : List ℕ). decimal v ++ 32 ∷ t) (third.parts ∙ ap (λ (t : List ℕ). decimal b ++ 32 ∷ t) (fourth.parts ∙ ap (λ (t : List ℕ). decimal p ++ 32 ∷ t) fifth.parts))))
    ∙ sym (first_parts (record { generation = g; patches = v; bytes = b; prefixes = p; quads = q }) behind)

-- two first lines of a text are one
pub one_first : (text : List ℕ) (l m : FirstLine) → HasFirstLine text l → HasFirstLine text m → l ≡ m
one_first text l m at_l at_m =
    let a = at_l.1.0 in
    let x = at_m.1.0 in
    let parts = at_mark m at_m.0 text x at_m.1.1 in
    let one = behind_mark m x in
    let g = at_generation m at_m.0 text x at_m.1.1 one parts in
    let first = same_number 32 one l.generation m.generation (behind_generation l a) (behind_generation m x) (omega arith) (at_generation l at_l.0 text a at_l.1.1 one parts) g in
    let v : IsNumberTo 32 (behind_generation m x) m.patches (behind_patches m x) = record { parts = refl; counts = at_m.0.patches } in
    let second = same_number 32 (behind_generation m x) l.patches m.patches (behind_patches l a) (behind_patches m x) (omega arith) (at_patches l at_l.0 text a at_l.1.1 one (behind_generation m x) m.generation parts g) v in
    let b : IsNumberTo 32 (behind_patches m x) m.bytes (behind_bytes m x) = record { parts = refl; counts = at_m.0.bytes } in
    let third = same_number 32 (behind_patches m x) l.bytes m.bytes (behind_bytes l a) (behind_bytes m x) (omega arith) (at_bytes l at_l.0 text a at_l.1.1 one (behind_generation m x) (behind_patches m x) m.generation m.patches parts g v) b in
    let p : IsNumberTo 32 (behind_bytes m x) m.prefixes (behind_prefixes m x) = record { parts = refl; counts = at_m.0.prefixes } in
    let fourth = same_number 32 (behind_bytes m x) l.prefixes m.prefixes (behind_prefixes l a) (behind_prefixes m x) (omega arith) (at_prefixes l at_l.0 text a at_l.1.1 one (behind_generation m x) (behind_patches m x) (behind_bytes m x) m.generation m.patches m.bytes parts g v b) p in
    let fifth = same_number 10 (behind_prefixes m x) l.quads m.quads a x (omega arith) (at_quads l at_l.0 text a at_l.1.1 one (behind_generation m x) (behind_patches m x) (behind_bytes m x) (behind_prefixes m x) m.generation m.patches m.bytes m.prefixes parts g v b p) (record { parts = refl; counts = at_m.0.quads }) in
    same_line l m first.0 second.0 third.0 fourth.0 fifth.0
  where
    same_line : (l m : FirstLine) → l.generation ≡ m.generation → l.patches ≡ m.patches → l.bytes ≡ m.bytes → l.prefixes ≡ m.prefixes → l.quads ≡ m.quads → l ≡ m
    same_line l m g v b p q =
        ap (λ (n : ℕ). record { generation = n; patches = l.patches; bytes = l.bytes; prefixes = l.prefixes; quads = l.quads }) g
        ∙ ap (λ (n : ℕ). record { generation = m.generation; patches = n; bytes = l.bytes; prefixes = l.prefixes; quads = l.quads }) v
        ∙ ap (λ (n : ℕ). record { generation = m.generation; patches = m.patches; bytes = n; prefixes = l.prefixes; quads = l.quads }) b
        ∙ ap (λ (n : ℕ). record { generation = m.generation; patches = m.patches; bytes = m.bytes; prefixes = n; quads = l.quads }) p
        ∙ ap (λ (n : ℕ). record { generation = m.generation; patches = m.patches; bytes = m.bytes; prefixes = m.prefixes; quads = n }) q

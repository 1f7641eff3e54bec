-- Edits whose lines stand one after another in a text.
use Rattle.std.proofs.Common.{◌≡◌, ℕ, zero, suc, ◌+◌, ◌-◌, ◌<◌, ◌≤◌, ◌==◌, Bool, List, [], ◌∷◌, ◌++◌, length, take, drop, get_or, refl, sym, ap, subst, ◌∙◌, length-append, arith}
use Rattle.std.proofs.Math.Seq.{take-length}
use Rattle.std.specs.Prelude.{IsTrue}
use Rattle.std.proofs.lemmas.List.Sums.{sum_by-cons}
use Rattle.std.proofs.lemmas.List.{take-append-le, drop-append-le, take-take, drop-take, take_all, length-drop, length-take-le}
use Rattle.line_log.specs.declared.edits.Edit.{Edit}
use Rattle.line_log.specs.Edits.{bytes_of}
use Rattle.line_log.specs.Held.{Fill, cut_edits, start_of}
use Rattle.line_log.specs.Sorting.{adds_at, line_at}

pub length-cut : (s : ℕ) (es : List Edit) (text : List ℕ) → length (cut_edits s es text) ≡ length es
length-cut s [] text = refl
length-cut s (e ∷ es) text = ap suc (length-cut e.end es text)

pub no_edits : (es : List Edit) (text : List ℕ) → (IsTrue (length es == 0) → cut_edits 0 es text ≡ []) × (cut_edits 0 es text ≡ [] → IsTrue (length es == 0))
no_edits [] text = (λ h. refl, λ e. refl)
no_edits (e ∷ es) text = (λ h. grind arith, λ h. absurd cc)

-- ---- the places of lines

pub start_next : (s : ℕ) (es : List Edit) (n : ℕ) (d : Edit) → n < length es → start_of s es (suc n) ≡ (get_or es n d).end
start_next s [] n d h = absurd (omega arith)
start_next s (e ∷ es) zero d h = start_none e.end es
  where
    start_none : (s : ℕ) (es : List Edit) → start_of s es zero ≡ s
    start_none s [] = refl
    start_none s (e ∷ es) = refl
start_next s (e ∷ es) (suc n) d h = start_next e.end es n d (omega arith)

pub fill_to : (s t : ℕ) (es : List Edit) → Fill s es t → s ≤ t
fill_to s t [] f = omega (arith, f)
fill_to s t (e ∷ es) f = omega (arith, f.0, fill_to e.end t es f.1)

-- the line of an edit stands inside the text
pub line_inside : (s t : ℕ) (es : List Edit) (n : ℕ) (d : Edit) → Fill s es t → n < length es → (start_of s es n ≤ (get_or es n d).end) × ((get_or es n d).end ≤ t)
line_inside s t [] n d f h = absurd (omega arith)
line_inside s t (e ∷ es) zero d f h = (f.0, fill_to e.end t es f.1)
line_inside s t (e ∷ es) (suc n) d f h = line_inside e.end t es n d f.1 (omega arith)

-- the edit of a number
pub adds-cut : (s : ℕ) (es : List Edit) (text : List ℕ) (n : ℕ) (d : Edit) → n < length es → adds_at (cut_edits s es text) n ≡ (get_or es n d).adds
adds-cut s [] text n d h = absurd (omega arith)
adds-cut s (e ∷ es) text zero d h = refl
adds-cut s (e ∷ es) text (suc n) d h = adds-cut e.end es text n d (omega arith)

pub line-cut : (s : ℕ) (es : List Edit) (text : List ℕ) (n : ℕ) (d : Edit) → n < length es
    → line_at (cut_edits s es text) n ≡ take ((get_or es n d).end - start_of s es n) (drop (start_of s es n) text)
line-cut s [] text n d h = absurd (omega arith)
line-cut s (e ∷ es) text zero d h = refl
line-cut s (e ∷ es) text (suc n) d h = line-cut e.end es text n d (omega arith)

-- ---- edits that come and go

-- a piece of a text stands in its front
piece_front : (s e m : ℕ) (text : List ℕ) → s ≤ e → e ≤ m → take (e - s) (drop s (take m text)) ≡ take (e - s) (drop s text)
piece_front s e m text low high =
    let whole : m ≡ s + (m - s) = omega (arith, low, high) in
    ap (λ (n : ℕ). take (e - s) (drop s (take n text))) whole ∙ ap (take (e - s)) (drop-take s (m - s) text) ∙ take-take (e - s) (m - s) (drop s text) (omega (arith, low, high))

-- edits stand in the front of a text that their lines fill
cut-front : (s t m : ℕ) (es : List Edit) (text : List ℕ) → Fill s es t → t ≤ m → cut_edits s es (take m text) ≡ cut_edits s es text
cut-front s t m [] text f high = refl
cut-front s t m (e ∷ es) text f high =
    ap (λ (l : List ℕ). (e.adds, l) ∷ cut_edits e.end es (take m text)) (piece_front s e.end m text f.0 (omega (arith, high, fill_to e.end t es f.1)))
    ∙ ap (λ (l : List (Bool × List ℕ)). (e.adds, take (e.end - s) (drop s text)) ∷ l) (cut-front e.end t m es text f.1 high)

cut-append : (s t : ℕ) (es fs : List Edit) (text : List ℕ) → Fill s es t → cut_edits s (es ++ fs) text ≡ cut_edits s es text ++ cut_edits t fs text
cut-append s t [] fs text f = ap (λ (n : ℕ). cut_edits n fs text) f
cut-append s t (e ∷ es) fs text f = ap (λ (l : List (Bool × List ℕ)). (e.adds, take (e.end - s) (drop s text)) ∷ l) (cut-append e.end t es fs text f.1)

fill-append : (s t u : ℕ) (es fs : List Edit) → Fill s es t → Fill t fs u → Fill s (es ++ fs) u
fill-append s t u [] fs f g = subst (λ (n : ℕ). Fill n fs u) (sym f) g
fill-append s t u (e ∷ es) fs f g = (f.0, fill-append e.end t u es fs f.1 g)

-- one more edit, whose line stands behind the text
pub pushed : (es fs : List Edit) (adds : Bool) (end : ℕ) (text more line : List ℕ) → fs ≡ es ++ record { adds = adds; end = end } ∷ [] → more ≡ text ++ line → end ≡ length more
    → Fill 0 es (length text) → cut_edits 0 fs more ≡ cut_edits 0 es text ++ (adds, line) ∷ []
pushed es fs adds end text more line e f h fill =
    let last : Edit = record { adds = adds; end = end } in
    let n = length text in
    let same : take n (text ++ line) ≡ text = take-append-le n text line (omega arith) ∙ take-length text in
    let behind : drop n (text ++ line) ≡ line = drop-append-le n text line (omega arith) ∙ ap (λ (l : List ℕ). l ++ line) (drop_whole text) in
    let long : end - n ≡ length line = omega (arith, h, ap length f, length-append text line) in
    let before : cut_edits 0 es (text ++ line) ≡ cut_edits 0 es text = sym (cut-front 0 n n es (text ++ line) fill (omega arith)) ∙ ap (cut_edits 0 es) same in
    let new : take (end - n) (drop n (text ++ line)) ≡ line = ap (take (end - n)) behind ∙ take_all (end - n) line (omega (arith, long)) in
    ap (λ (l : List Edit). cut_edits 0 l more) e ∙ ap (cut_edits 0 (es ++ last ∷ [])) f ∙ cut-append 0 n es (last ∷ []) (text ++ line) fill
    ∙ ap (λ (l : List (Bool × List ℕ)). l ++ (adds, take (end - n) (drop n (text ++ line))) ∷ []) before ∙ ap (λ (l : List ℕ). cut_edits 0 es text ++ (adds, l) ∷ []) new
  where
    drop_whole : (l : List ℕ) → drop (length l) l ≡ []
    drop_whole [] = refl
    drop_whole (b ∷ l) = drop_whole l

pub fill_pushed : (es fs : List Edit) (adds : Bool) (end : ℕ) (text more line : List ℕ) → fs ≡ es ++ record { adds = adds; end = end } ∷ [] → more ≡ text ++ line → end ≡ length more
    → Fill 0 es (length text) → Fill 0 fs (length more)
fill_pushed es fs adds end text more line e f h fill =
    let last : Edit = record { adds = adds; end = end } in
    subst (λ (l : List Edit). Fill 0 l (length more)) (sym e) (fill-append 0 (length text) (length more) es (last ∷ []) fill (omega (arith, h, ap length f, length-append text line), h))

-- the first edits fill the front of the text
fill-take : (s t n : ℕ) (es : List Edit) → Fill s es t → n ≤ length es → Fill s (take n es) (start_of s es n)
fill-take s t zero [] f h = refl
fill-take s t zero (e ∷ es) f h = refl
fill-take s t (suc n) [] f h = absurd (omega arith)
fill-take s t (suc n) (e ∷ es) f h = (f.0, fill-take e.end t n es f.1 (omega arith))

cut-take : (s n : ℕ) (es : List Edit) (text : List ℕ) → cut_edits s (take n es) text ≡ take n (cut_edits s es text)
cut-take s zero es text = refl
cut-take s (suc n) [] text = refl
cut-take s (suc n) (e ∷ es) text = ap (λ (l : List (Bool × List ℕ)). (e.adds, take (e.end - s) (drop s text)) ∷ l) (cut-take e.end n es text)

start_to : (s t n : ℕ) (es : List Edit) → Fill s es t → n ≤ length es → start_of s es n ≤ t
start_to s t zero [] f h = omega (arith, f)
start_to s t zero (e ∷ es) f h = fill_to s t (e ∷ es) f
start_to s t (suc n) [] f h = absurd (omega arith)
start_to s t (suc n) (e ∷ es) f h = start_to e.end t n es f.1 (omega arith)

module _ (es fs : List Edit) (text front : List ℕ) (count left : ℕ) (few : count < length es) (e : fs ≡ take count es) (f : front ≡ take left text) (h : left ≡ start_of 0 es count) (fill : Fill 0 es (length text)) where
  filled : Fill 0 (take count es) left
  filled = subst (Fill 0 (take count es)) (sym h) (fill-take 0 (length text) count es fill (omega (arith, few)))

  pub truncated : cut_edits 0 fs front ≡ take count (cut_edits 0 es text)
  truncated = ap (λ (l : List Edit). cut_edits 0 l front) e ∙ ap (cut_edits 0 (take count es)) f ∙ cut-front 0 left left (take count es) text filled (omega arith) ∙ cut-take 0 count es text

  pub fill_truncated : Fill 0 fs (length front)
  fill_truncated =
      let long : length front ≡ left = ap length f ∙ length-take-le left text (omega (arith, h, start_to 0 (length text) count es fill (omega (arith, few)))) in
      subst (λ (l : List Edit). Fill 0 l (length front)) (sym e) (subst (Fill 0 (take count es)) (sym long) filled)

-- ---- the bytes of all lines

pub bytes-cut : (s t : ℕ) (es : List Edit) (text : List ℕ) → Fill s es t → t ≤ length text → bytes_of (cut_edits s es text) + s ≡ t
bytes-cut s t [] text f high = omega (arith, f)
bytes-cut s t (e ∷ es) text f high =
    let inside : e.end ≤ t = fill_to e.end t es f.1 in
    let left : length (drop s text) ≡ length text - s = length-drop s text in
    let one : length (take (e.end - s) (drop s text)) ≡ e.end - s = length-take-le (e.end - s) (drop s text) (omega (arith, left, inside, high, f.0)) in
    let sum : bytes_of (cut_edits s (e ∷ es) text) ≡ length (take (e.end - s) (drop s text)) + bytes_of (cut_edits e.end es text) = sum_by-cons (λ (e : Bool × List ℕ). length e.1) (e.adds, take (e.end - s) (drop s text)) (cut_edits e.end es text) in
    omega (arith, one, sum, f.0, bytes-cut e.end t es text f.1 high)

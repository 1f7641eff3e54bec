-- A printed document is read as its statements.
use Rattle.std.proofs.Common.{◌≡◌, ℕ, zero, suc, ◌<◌, List, [], ◌∷◌, ◌++◌, length, map, get_or, refl, sym, ap, subst, ◌∙◌, arith}
use Rattle.std.specs.List.{All, Contains, flat_map}
use Rattle.std.proofs.lemmas.List.{append-nil}
use Rattle.std.proofs.lemmas.List.Elements.{All-nil, All-cons, All-weaker, All-contains}
use Rattle.rdf_terms.specs.Quad.{Statement}
use Rattle.nquads_documents.specs.Laws.{IsQuadValue, CanonicalRead}
use Rattle.rdf_terms.specs.Line.{line}
use Rattle.nquads_documents.specs.Reading.{document_at}
use Rattle.nquads_documents.proofs.LineLaws.{lines_read, lines_apart}

-- ---- elements of a mapped list

module _ {X Y : Type 0} (f : X → Y) where
  pub contains_map : (xs : List X) (x : X) → Contains xs x → Contains (map f xs) (f x)
  contains_map xs x c = by xs c.0 c.1 c.2
    where
      by : (xs : List X) (k : ℕ) → k < length xs → get_or xs k x ≡ x → Contains (map f xs) (f x)
      by [] k lt e = absurd (omega arith)
      by (y ∷ xs) zero lt e = (0, omega arith, ap f e)
      by (y ∷ xs) (suc k) lt e = let c = by xs k (omega arith) e in let low = c.1 in (suc c.0, omega arith, c.2)

  pub from_map : (xs : List X) (y : Y) → Contains (map f xs) y → (x : X) × Contains xs x × (f x ≡ y)
  from_map xs y c = by xs c.0 c.1 c.2
    where
      by : (xs : List X) (k : ℕ) → k < length (map f xs) → get_or (map f xs) k y ≡ y → (x : X) × Contains xs x × (f x ≡ y)
      by [] k lt e = absurd (omega arith)
      by (x ∷ xs) zero lt e = (x, (0, omega arith, refl), e)
      by (x ∷ xs) (suc k) lt e = let c = by xs k (omega arith) e in let low = c.1.1 in (c.0, (suc c.1.0, omega arith, c.1.2), c.2)

pub later : {X : Type 0} (x : X) (xs : List X) (y : X) → Contains xs y → Contains (x ∷ xs) y
later x xs y c = let low = c.1 in (suc c.0, omega arith, c.2)

-- ---- the statements of the lines

pub record Kept (quads : List Statement) (lines : List (List ℕ)) : Type 0 where
  pub kept : List Statement
  pub shown : map line kept ≡ lines
  pub among : All (Contains quads) kept

pick : (quads : List Statement) (lines : List (List ℕ)) → ((l : List ℕ) → Contains lines l → Contains (map line quads) l) → Kept quads lines
pick quads [] each = record { kept = []; shown = refl; among = All-nil (Contains quads) }
pick quads (l ∷ lines) each =
    let q = from_map line quads l (each l (0, omega arith, refl)) in
    let rest = pick quads lines (λ m c. each m (later l lines m c)) in
    record {
      kept = q.0 ∷ rest.kept;
      shown = ap (λ (k : List ℕ). k ∷ map line rest.kept) q.2 ∙ ap (λ (k : List (List ℕ)). l ∷ k) rest.shown;
      among = All-cons (Contains quads) q.0 rest.kept q.1 rest.among;
    }

joined : (quads : List Statement) → flat_map (λ l. l) (map line quads) ≡ flat_map line quads
joined [] = refl
joined (q ∷ quads) = ap (λ (t : List ℕ). line q ++ t) (joined quads)

pub canonical_read : CanonicalRead
canonical_read quads text values c =
    let k = pick quads c.lines (λ l has. (c.are.same l).0 has) in
    let all : All IsQuadValue k.kept = All-weaker (Contains quads) IsQuadValue (λ q has. All-contains IsQuadValue quads q values has) k.kept k.among in
    let is : text ≡ flat_map line k.kept = c.joined ∙ ap (flat_map (λ (l : List ℕ). l)) (sym k.shown) ∙ joined k.kept in (
      k.kept,
      ap (document_at 0) is ∙ lines_read k.kept all,
      λ q. (
        λ has. All-contains (Contains quads) k.kept q k.among has,
        λ has. back k.kept q (subst (λ (l : List (List ℕ)). Contains l (line q)) (sym k.shown) ((c.are.same (line q)).1 (contains_map line quads q has))) all (All-contains IsQuadValue quads q values has),
      ),
    )
  where
    back : (kept : List Statement) (q : Statement) → Contains (map line kept) (line q) → All IsQuadValue kept → IsQuadValue q → Contains kept q
    back kept q has all v =
        let p = from_map line kept (line q) has in
        let same : p.0 ≡ q = lines_apart p.0 q [] (All-contains IsQuadValue kept p.0 all p.1) v (append-nil (line p.0) ∙ p.2) in
        subst (Contains kept) same p.1

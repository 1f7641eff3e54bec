-- A word whose last `:` is known.
use Rattle.std.proofs.Common.{◌≡◌, ◌≢◌, ℕ, ◌+◌, ◌<◌, ◌≤◌, List, [], ◌∷◌, ◌++◌, length, get_or, take, drop, sym, ◌∙◌, ap, subst, arith, length-append, length-drop, get_or-drop, take-append-drop}
use Rattle.std.specs.List.{All}
use Rattle.std.specs.Prelude.{Option, Some, MatchOption}
use Rattle.std.proofs.lemmas.List.{drop_more}
use Rattle.std.proofs.Math.Seq.{get_or-append_seam}
use Rattle.command_tables.specs.Addresses.{IsAddress, IsDigit, IsPort, IsVisible}

-- no byte is c
abbrev pub Lacks : ℕ → List ℕ → Type 0
Lacks c text = (i : ℕ) → i < length text → get_or text i 0 ≢ c

-- the last `:` stands here
abbrev pub IsLast : List ℕ → ℕ → Type 0
IsLast word colon = (colon < length word) × (get_or word colon 0 ≡ 58) × ((i : ℕ) → colon < i → i < length word → get_or word i 0 ≢ 58)

pub colon_at : (word : List ℕ) (r : Option ℕ) (colon : ℕ) → r ≡ Some colon → MatchOption r (Lacks 58 word) (IsLast word) → IsLast word colon
colon_at word r colon is found = subst (λ (o : Option ℕ). MatchOption o (Lacks 58 word) (IsLast word)) is found

tails : (x y : ℕ) (xs ys : List ℕ) → x ∷ xs ≡ y ∷ ys → xs ≡ ys
tails x y xs ys e = cc

-- a text has what stands in it
stands : (c : ℕ) (front behind text : List ℕ) → text ≡ front ++ c ∷ behind → Lacks c text → ⊥
stands c front behind text is lacks =
    lacks (length front)
    (omega (arith, ap length is, length-append front (c ∷ behind)))
    (ap (λ t. get_or t (length front) 0) is ∙ get_or-append_seam front c behind 0)

-- what stands behind the last c of a text is one
one_behind : (c : ℕ) (front behind first last : List ℕ) → front ++ c ∷ behind ≡ first ++ c ∷ last
    → Lacks c behind → Lacks c last → behind ≡ last
one_behind c [] behind [] last same lacks other = tails c c behind last same
one_behind c [] behind (x ∷ first) last same lacks other =
    absurd (stands c first last behind (tails c x behind (first ++ c ∷ last) same) lacks)
one_behind c (x ∷ front) behind [] last same lacks other =
    absurd (stands c front behind last (sym (tails x c (front ++ c ∷ behind) last same)) other)
one_behind c (x ∷ front) behind (y ∷ first) last same lacks other =
    one_behind c front behind first last (tails x y (front ++ c ∷ behind) (first ++ c ∷ last) same) lacks other

-- a digit is no `:`
digits_lack : (port : List ℕ) → All IsDigit port → Lacks 58 port
digits_lack port digits i within is = omega (arith, (digits i 0 within).1, is)

module _ (word : List ℕ) (colon : ℕ) (last : IsLast word colon) where
  parts : word ≡ take colon word ++ 58 ∷ drop (colon + 1) word
  parts =
      sym (take-append-drop colon word)
      ∙ ap (λ (l : List ℕ). take colon word ++ l) (drop_more word colon 0 last.0 ∙ ap (λ (b : ℕ). b ∷ drop (colon + 1) word) last.1)

  behind_lacks : Lacks 58 (drop (colon + 1) word)
  behind_lacks i below is =
      last.2 ((colon + 1) + i) (omega arith) (omega (arith, below, length-drop (colon + 1) word)) (sym (get_or-drop (colon + 1) word i 0) ∙ is)

  pub is_address : length word ≤ 255 → All IsVisible word → IsPort (drop (colon + 1) word) → IsAddress word
  is_address long visible port = record {
    host = take colon word;
    port = drop (colon + 1) word;
    parts = parts;
    is_port = port;
    visible = visible;
    long = long;
  }

  -- the port of an address stands behind the last `:`
  pub port_is : IsAddress word → IsPort (drop (colon + 1) word)
  port_is a = subst IsPort (one_behind 58 a.host a.port (take colon word) (drop (colon + 1) word) (sym a.parts ∙ parts) (digits_lack a.port a.is_port.2) behind_lacks) a.is_port

-- a word without `:` is no address
pub no_address : (word : List ℕ) → Lacks 58 word → IsAddress word → ⊥
no_address word lacks a = stands 58 a.host a.port word a.parts lacks

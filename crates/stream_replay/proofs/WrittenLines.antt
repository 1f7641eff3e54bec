-- Lines that are written one after another.
use Rattle.std.proofs.Common.{◌≡◌, ℕ, ◌+◌, ◌<◌, ◌≤◌, List, [], ◌++◌, length, drop, get_or, Option, sym, ap, subst, ◌∙◌}
use Rattle.std.specs.List.{flat_map}
use Rattle.std.proofs.lemmas.List.{drop_all, drop_more}
use Rattle.std.proofs.lemmas.List.Concat.{flat_map-cons}
use Rattle.sink_writing.specs.Writing.{AppendsFront, AppendsFirst}
use Rattle.sink_writing.proofs.Pieces.{Written, written_text, text_front}

-- the bytes of the lines from a place on
abbrev pub bytes_from : ℕ → List (List ℕ) → List ℕ
bytes_from at lines = flat_map (λ (l : List ℕ). l) (drop at lines)

next_first : (lines : List (List ℕ)) (at : ℕ) (line : List ℕ) → at < length lines → line ≡ get_or lines at [] → bytes_from at lines ≡ line ++ bytes_from (at + 1) lines
next_first lines at line within is =
    ap (flat_map (λ (l : List ℕ). l)) (drop_more lines at [] within) ∙ flat_map-cons (λ (l : List ℕ). l) (get_or lines at []) (drop (at + 1) lines) ∙ ap (λ (l : List ℕ). l ++ bytes_from (at + 1) lines) (sym is)

module _ (a b c : Option (List ℕ)) (whole room line : List ℕ) (lines : List (List ℕ)) (at : ℕ) (within : at < length lines) (is : line ≡ get_or lines at []) (w : Written a b whole (room ++ bytes_from at lines)) where
  left : Written a b whole (room ++ (line ++ bytes_from (at + 1) lines))
  left = subst (λ (l : List ℕ). Written a b whole (room ++ l)) (next_first lines at line within is) w

  -- the next line, and the room before and after it
  pub written_line : (room' : List ℕ) → AppendsFirst b c (room ++ line) room' → Written a c whole (room' ++ bytes_from (at + 1) lines)
  written_line room' p = written_text a b c whole room room' line (bytes_from (at + 1) lines) left p

  -- the next line, of which a front was written
  pub line_front : AppendsFront b c (room ++ line) → AppendsFront a c whole
  line_front p = text_front a b c whole room line (bytes_from (at + 1) lines) left p

-- nothing is left but the room
pub room_left : (a b : Option (List ℕ)) (whole room : List ℕ) (lines : List (List ℕ)) (at : ℕ) → length lines ≤ at → Written a b whole (room ++ bytes_from at lines) → Written a b whole (room ++ [])
room_left a b whole room lines at end w = subst (λ (l : List (List ℕ)). Written a b whole (room ++ flat_map (λ (t : List ℕ). t) l)) (drop_all at lines end) w

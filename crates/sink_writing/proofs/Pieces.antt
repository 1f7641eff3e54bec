-- Texts that are written one after another, short ones together.
use Rattle.std.proofs.Common.{◌≡◌, ℕ, ◌+◌, ◌<◌, List, [], ◌++◌, length, drop, get_or, Option, sym, ap, subst, ◌∙◌, append_assoc, append-nil}
use Rattle.std.proofs.lemmas.List.{drop_more}
use Rattle.std.specs.Io.KnownBytes.{Appends}
use Rattle.std.proofs.KnownBytes.{Appends-trans}
use Rattle.std.specs.Borrow.{Bor}
use Rattle.sink_writing.specs.Writing.{AppendsFront, AppendsFirst, joined}

-- a front of the whole was written, and this is the rest
pub record Written (old now : Option (List ℕ)) (whole rest : List ℕ) : Type 0 where
  pub front : List ℕ
  pub whole_is : whole ≡ front ++ rest
  pub written : Appends old now front

pub written_more : (a b c : Option (List ℕ)) (whole rest front left : List ℕ) → Written a b whole rest → rest ≡ front ++ left → Appends b c front → Written a c whole left
written_more a b c whole rest front left w e p = record {
  front = w.front ++ front;
  whole_is = w.whole_is ∙ ap (λ (l : List ℕ). w.front ++ l) e ∙ sym (append_assoc w.front front left);
  written = Appends-trans a b c w.front front w.written p;
}

pub written_front : (a b c : Option (List ℕ)) (whole text left : List ℕ) → Written a b whole (text ++ left) → AppendsFront b c text → AppendsFront a c whole
written_front a b c whole text left w p =
    let more = written_more a b c whole (text ++ left) p.0 (p.1 ++ left) w (ap (λ (l : List ℕ). l ++ left) p.2 ∙ append_assoc p.0 p.1 left) p.3 in
    (more.front, p.1 ++ left, more.whole_is, more.written)

pub written_all : (a b c : Option (List ℕ)) (whole text : List ℕ) → Written a b whole text → Appends b c text → Appends a c whole
written_all a b c whole text w p =
    let more = written_more a b c whole text text [] w (sym (append-nil text)) p in
    subst (Appends a c) (sym (more.whole_is ∙ append-nil more.front)) more.written

-- the next text, and the room before and after it
pub written_text : (a b c : Option (List ℕ)) (whole room room' text left : List ℕ) → Written a b whole (room ++ (text ++ left)) → AppendsFirst b c (room ++ text) room' → Written a c whole (room' ++ left)
written_text a b c whole room room' text left w p =
    written_more a b c whole (room ++ (text ++ left)) p.0 (room' ++ left) w
    (sym (append_assoc room text left) ∙ ap (λ (l : List ℕ). l ++ left) p.1 ∙ append_assoc p.0 room' left) p.2

-- the next text, of which a front was written
pub text_front : (a b c : Option (List ℕ)) (whole room text left : List ℕ) → Written a b whole (room ++ (text ++ left)) → AppendsFront b c (room ++ text) → AppendsFront a c whole
text_front a b c whole room text left w p =
    written_front a b c whole (room ++ text) left (subst (Written a b whole) (sym (append_assoc room text left)) w) p

-- the next of several texts, and the room before and after it
next_of : (room : List ℕ) (texts : List (Bor (List ℕ))) (i : ℕ) (d : Bor (List ℕ)) → i < length texts → room ++ joined (drop i texts) ≡ room ++ ((get_or texts i d).now ++ joined (drop (i + 1) texts))
next_of room texts i d lt = ap (λ (l : List (Bor (List ℕ))). room ++ joined l) (drop_more texts i d lt)

pub written_line : (a b c : Option (List ℕ)) (whole room room' : List ℕ) (texts : List (Bor (List ℕ))) (i : ℕ) (d : Bor (List ℕ)) → i < length texts → Written a b whole (room ++ joined (drop i texts))
    → AppendsFirst b c (room ++ (get_or texts i d).now) room' → Written a c whole (room' ++ joined (drop (i + 1) texts))
written_line a b c whole room room' texts i d lt w p =
    written_text a b c whole room room' (get_or texts i d).now (joined (drop (i + 1) texts)) (subst (Written a b whole) (next_of room texts i d lt) w) p

pub line_front : (a b c : Option (List ℕ)) (whole room : List ℕ) (texts : List (Bor (List ℕ))) (i : ℕ) (d : Bor (List ℕ)) → i < length texts → Written a b whole (room ++ joined (drop i texts))
    → AppendsFront b c (room ++ (get_or texts i d).now) → AppendsFront a c whole
line_front a b c whole room texts i d lt w p =
    text_front a b c whole room (get_or texts i d).now (joined (drop (i + 1) texts)) (subst (Written a b whole) (next_of room texts i d lt) w) p

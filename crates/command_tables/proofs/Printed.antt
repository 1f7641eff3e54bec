-- Texts that are written one after another.
use Rattle.std.proofs.Common.{◌≡◌, List, [], ◌++◌, ℕ, Option, refl, sym, ap, subst, ◌∙◌, append_assoc, append-nil}
use Rattle.std.specs.Io.KnownBytes.{Appends}
use Rattle.std.proofs.KnownBytes.{Appends-nil, Appends-trans}
use Rattle.sink_writing.specs.Writing.{AppendsFront}
use Rattle.sink_writing.proofs.Pieces.{Written, written_all, written_front}

pub nothing_yet : (a : Option (List ℕ)) (whole : List ℕ) → Written a a whole whole
nothing_yet a whole = record { front = []; whole_is = refl; written = Appends-nil a }

pub all_written : (a b : Option (List ℕ)) (whole : List ℕ) → Written a b whole [] → Appends a b whole
all_written a b whole w = written_all a b b whole [] w (Appends-nil b)

pub front_written : (a b : Option (List ℕ)) (whole rest : List ℕ) → Written a b whole rest → AppendsFront a b whole
front_written a b whole rest w = (w.front, rest, w.whole_is, w.written)

-- the next text, of which a front was written
pub front_next : (a b c : Option (List ℕ)) (whole rest text left : List ℕ) → Written a b whole rest → rest ≡ text ++ left → AppendsFront b c text → AppendsFront a c whole
front_next a b c whole rest text left w e p = written_front a b c whole text left (subst (Written a b whole) e w) p

-- two texts in front of what is left
pub two_texts : (a a' b b' left : List ℕ) → a' ≡ a → b' ≡ b → a ++ (b ++ left) ≡ (a' ++ (b' ++ [])) ++ left
two_texts a a' b b' left ea eb =
    ap (λ (x : List ℕ). x ++ (b ++ left)) (sym ea) ∙ ap (λ (x : List ℕ). a' ++ (x ++ left)) (sym eb) ∙ sym (append_assoc a' b' left) ∙ ap (λ (x : List ℕ). (a' ++ x) ++ left) (sym (append-nil b'))

pub front_first : (a b : Option (List ℕ)) (first second : List ℕ) → AppendsFront a b first → AppendsFront a b (first ++ second)
front_first a b first second p = (p.0, p.1 ++ second, ap (λ (x : List ℕ). x ++ second) p.2 ∙ append_assoc p.0 p.1 second, p.3)

pub front_second : (a b c : Option (List ℕ)) (first second : List ℕ) → Appends a b first → AppendsFront b c second → AppendsFront a c (first ++ second)
front_second a b c first second p q = (first ++ q.0, q.1, ap (λ (x : List ℕ). first ++ x) q.2 ∙ sym (append_assoc first q.0 q.1), Appends-trans a b c first q.0 p q.3)

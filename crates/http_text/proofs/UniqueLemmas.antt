-- A stream is read in one way.
use Rattle.std.proofs.Common.{◌≡◌, ℕ, ◌+◌, ◌⊎◌, List, [], ◌∷◌, ◌++◌, length, Ok, refl, sym, ap, ap₂, ◌∙◌, subst, inl, inr, arith, length-append}
use Rattle.std.proofs.lemmas.List.{append-nil}
use Rattle.std.specs.List.{flat_map}
use Rattle.httparse.specs.Grammar.{print_chunk_line, print_section}
use Rattle.httparse.proofs.ChunkLemmas.{chunk_line_unique}
use Rattle.httparse.proofs.GrammarLemmas.{section_unique}
use Rattle.http_heads.specs.Heads.{print_head, print_heads, ReadsHead, PassesOver, room_behind}
use Rattle.http_messages.specs.Chunks.{print_chunk, data_of}
use Rattle.http_messages.specs.Messages.{message_of, IsMessage, AreMessages, framing_behind, IsBody, BeginsNoMessage, End, between, inside, faulty, EndsAs, ReadsMessages, IsFrameFault}
use Rattle.http_heads.specs.declared.framing.FrameFault.{FrameFault}
use Rattle.http_heads.specs.declared.framing.Framing.{Framing}
use Rattle.http_heads.specs.declared.framing.Framing.TheVariants.{Sized, Chunked}
use Rattle.http_heads.specs.declared.message.Kind.{Kind}
use Rattle.http_heads.specs.declared.message.Message.{Message}
use Rattle.http_heads.proofs.HeadLaws.{head_unique, head_not_empty}
use Rattle.http_text.proofs.FaultLemmas.{fault_no_message, open_no_fault}
use Rattle.http_text.proofs.KindLemmas.{fault_once}
use Rattle.http_messages.proofs.GrowLemmas.{begins_grows}
use Rattle.http_text.proofs.PassLemmas.{passes_grow, same_passed, no_interim_begins}
use Rattle.http_heads.proofs.HeadLaws.{same_parts}
use Rattle.http_messages.proofs.PlaceLemmas.{same_place}
use Rattle.http_text.proofs.OpenLemmas.{last_place, whole_text}
use Rattle.http_text.proofs.ReaderLemmas.{start}
use Rattle.http_text.specs.declared.reader.Stage.TheVariants as stages
use Rattle.http_heads.specs.declared.progress.HeadProgress.TheVariants as at

-- no fault stands where nothing does
nothing_good : (kind : Kind) (fault : FrameFault) → IsFrameFault kind [] fault → ⊥
nothing_good kind fault = open_no_fault kind (stages.Head 16384 at.Blank) [] [] (start kind) fault

-- two bodies at the front of a text are one
body_unique : (framing : Framing) (a b x y more other : List ℕ) → IsBody framing a x → IsBody framing b y → a ++ more ≡ b ++ other → (x ≡ y) × (more ≡ other)
body_unique (Sized size) a b x y more other one two is =
    let same = same_parts a b more other (one.0 ∙ sym two.0) is in
    (one.1 ∙ same.0 ∙ sym two.1, same.1)
body_unique Chunked a b x y more other (c, is_c, a_is, x_is) (d, is_d, b_is, y_is) is =
    let whole : flat_map print_chunk c.chunks ++ (print_chunk_line c.last ++ (print_section c.trailers c.end ++ more))
    ≡ flat_map print_chunk d.chunks ++ (print_chunk_line d.last ++ (print_section d.trailers d.end ++ other)) =
    sym (ap (λ (t : List ℕ). t ++ more) a_is ∙ whole_text c more) ∙ is ∙ ap (λ (t : List ℕ). t ++ other) b_is ∙ whole_text d other in
    let place = same_place c.chunks d.chunks _ _ is_c.chunks is_d.chunks
    (last_place (length (data_of c.chunks)) c.last (print_section c.trailers c.end ++ more) is_c.last.line is_c.zero)
    (last_place (length (data_of d.chunks)) d.last (print_section d.trailers d.end ++ other) is_d.last.line is_d.zero) whole in
    let line = chunk_line_unique _ c.last d.last _ _ (is_c.last.line, refl) (is_d.last.line, place.1) in
    let section = section_unique _ c.trailers d.trailers c.end d.end more other (is_c.trailers, refl) (is_d.trailers, line.1) in
    (x_is ∙ ap data_of place.0 ∙ sym y_is, section.2)

-- two messages at the front of a text are one
pub message_same : (kind : Kind) (a b more other : List ℕ) (x y : Message) → IsMessage kind a x → IsMessage kind b y → a ++ more ≡ b ++ other → (x ≡ y) × (more ≡ other)
message_same kind a b more other x y one two is =
    let grown = begins_grows kind (room_behind one.passed) one.from one.behind more one.head one.begins in
    let longer = begins_grows kind (room_behind two.passed) two.from two.behind other two.head two.begins in
    let place = same_passed kind (a ++ more) one.passed two.passed (one.from ++ more) (two.from ++ other) (passes_grow kind a more one.passed one.from one.passes)
    (subst (λ (t : List ℕ). PassesOver kind t two.passed (two.from ++ other)) (sym is) (passes_grow kind b other two.passed two.from two.passes))
    (no_interim_begins kind (room_behind one.passed) (one.from ++ more) one.head (one.behind ++ more) grown)
    (no_interim_begins kind (room_behind two.passed) (two.from ++ other) two.head (two.behind ++ other) longer) in
    let heads = head_unique kind (one.from ++ more) one.head two.head (one.behind ++ more) (two.behind ++ other) grown.reads
    (subst (λ (t : List ℕ). ReadsHead kind t two.head (two.behind ++ other)) (sym place.1) longer.reads) in
    let both : Ok two.framing ≡ Ok one.framing = sym two.faultless ∙ ap framing_behind (sym heads.0) ∙ one.faultless in
    let framing : two.framing ≡ one.framing = cc in
    let body = body_unique one.framing one.behind two.behind one.body two.body more other one.is_body
    (subst (λ (f : Framing). IsBody f two.behind two.body) framing two.is_body) heads.1 in
    (one.is_message ∙ ap₂ message_of heads.0 body.0 ∙ sym two.is_message, body.1)

-- of two readings one is a front of the other
pub messages_same : (kind : Kind) (xs ys : List Message) (bytes rest last : List ℕ) → AreMessages kind bytes xs rest → AreMessages kind bytes ys last
    → ((more : List Message) × (ys ≡ xs ++ more) × AreMessages kind rest more last) ⊎ ((more : List Message) × (xs ≡ ys ++ more) × AreMessages kind last more rest)
messages_same kind [] ys bytes rest last one two = inl (ys, refl, subst (λ (t : List ℕ). AreMessages kind t ys last) one two)
messages_same kind (x ∷ xs) [] bytes rest last one two = inr (x ∷ xs, refl, subst (λ (t : List ℕ). AreMessages kind t (x ∷ xs) rest) two one)
messages_same kind (x ∷ xs) (y ∷ ys) bytes rest last (a, more, is, it, others) (b, after, and, that, those) =
    let same = message_same kind a b more after x y it that (sym is ∙ and) in
    joined x y same.0 (messages_same kind xs ys more rest last others (subst (λ (t : List ℕ). AreMessages kind t ys last) (sym same.1) those))
  where
    joined : (x y : Message) → x ≡ y
        → ((more : List Message) × (ys ≡ xs ++ more) × AreMessages kind rest more last) ⊎ ((more : List Message) × (xs ≡ ys ++ more) × AreMessages kind last more rest)
        → ((more : List Message) × (y ∷ ys ≡ (x ∷ xs) ++ more) × AreMessages kind rest more last) ⊎ ((more : List Message) × (x ∷ xs ≡ (y ∷ ys) ++ more) × AreMessages kind last more rest)
    joined x y same (inl (more, is, are)) = inl (more, ap₂ ◌∷◌ (sym same) is, are)
    joined x y same (inr (more, is, are)) = inr (more, ap₂ ◌∷◌ same is, are)

not_nothing : (kind : Kind) (text more : List ℕ) (message : Message) → IsMessage kind text message → [] ≡ text ++ more → ⊥
not_nothing kind text more message one is =
    let long : 0 ≡ length text + length more = ap length is ∙ length-append text more in
    let whole : length text ≡ length (print_heads one.passed) + length one.from = ap length one.passes.text_is ∙ length-append (print_heads one.passed) one.from in
    let head : length one.from ≡ length (print_head one.head) + length one.behind = ap length one.begins.reads.1 ∙ length-append (print_head one.head) one.behind in
    let some = head_not_empty one.head in
    omega arith

-- no message stands at an end
pub end_no_message : (kind : Kind) (rest : List ℕ) (end : End) → EndsAs kind rest end → BeginsNoMessage kind rest
end_no_message kind rest between ends text more message one is = not_nothing kind text more message one (sym ends ∙ is)
end_no_message kind rest (faulty fault) ends text more message one is = fault_no_message kind rest fault ends text more message one is
end_no_message kind rest inside ends text more message one is = ends.1 text more message one is

nothing_more : (kind : Kind) (more : List Message) (rest last : List ℕ) → BeginsNoMessage kind rest → AreMessages kind rest more last → (more ≡ []) × (rest ≡ last)
nothing_more kind [] rest last none are = (refl, are)
nothing_more kind (message ∷ more) rest last none (text, behind, is, it, others) = absurd (none text behind message it is)

-- the requests of a stream, and its rest, are determined
pub reading_same : (kind : Kind) (xs ys : List Message) (bytes rest last : List ℕ) (end other : End) → AreMessages kind bytes xs rest → EndsAs kind rest end
    → AreMessages kind bytes ys last → EndsAs kind last other → (xs ≡ ys) × (rest ≡ last)
reading_same kind xs ys bytes rest last end other one ends two stops = by_front (messages_same kind xs ys bytes rest last one two)
  where
    by_front : ((more : List Message) × (ys ≡ xs ++ more) × AreMessages kind rest more last) ⊎ ((more : List Message) × (xs ≡ ys ++ more) × AreMessages kind last more rest)
        → (xs ≡ ys) × (rest ≡ last)
    by_front (inl (more, is, are)) =
        let none = nothing_more kind more rest last (end_no_message kind rest end ends) are in
        (sym (is ∙ ap (λ (m : List Message). xs ++ m) none.0 ∙ append-nil xs), none.1)
    by_front (inr (more, is, are)) =
        let none = nothing_more kind more last rest (end_no_message kind last other stops) are in
        (is ∙ ap (λ (m : List Message). ys ++ m) none.0 ∙ append-nil ys, sym none.1)

-- a rest ends in one way
ends_once : (kind : Kind) (rest : List ℕ) (one two : End) → EndsAs kind rest one → EndsAs kind rest two → one ≡ two
ends_once kind rest between between a b = refl
ends_once kind rest inside inside a b = refl
ends_once kind rest (faulty f) (faulty g) a b = ap faulty (fault_once kind rest f g a b)
ends_once kind rest between inside a b = absurd (b.0 a)
ends_once kind rest inside between a b = absurd (a.0 b)
ends_once kind rest inside (faulty g) a b = absurd (a.2 g b)
ends_once kind rest (faulty f) inside a b = absurd (b.2 f a)
ends_once kind rest between (faulty g) a b = absurd (nothing_good kind g (subst (λ (t : List ℕ). IsFrameFault kind t g) a b))
ends_once kind rest (faulty f) between a b = absurd (nothing_good kind f (subst (λ (t : List ℕ). IsFrameFault kind t f) b a))

-- the requests of a stream and its end are determined
pub all_same : (kind : Kind) (xs ys : List Message) (bytes : List ℕ) (end other : End) → ReadsMessages kind bytes xs end → ReadsMessages kind bytes ys other → (xs ≡ ys) × (end ≡ other)
all_same kind xs ys bytes end other (rest, one, ends) (last, two, stops) =
    let same = reading_same kind xs ys bytes rest last end other one ends two stops in
    (same.0, ends_once kind rest end other ends (subst (λ (t : List ℕ). EndsAs kind t other) (sym same.1) stops))

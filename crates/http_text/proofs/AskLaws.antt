-- What those who carry a session need of the messages taken, and of the head behind them.
use Rattle.std.proofs.Common.{◌≡◌, ℕ, Bool, true, false, ◌⊎◌, List, [], ◌∷◌, ◌++◌, refl, sym, ◌∙◌, subst, inl, inr}
use Rattle.http_heads.specs.Heads.{ReadsHead, print_heads}
use Rattle.http_heads.specs.Asking.{message_expects}
use Rattle.http_messages.specs.Messages.{BeginsWithGoodHead, AreMessages}
use Rattle.http_text.specs.Taken.{AsksBehind}
use Rattle.http_heads.specs.declared.message.Kind.{Kind}
use Rattle.http_heads.specs.declared.message.Message.{Message}
use Rattle.http_heads.proofs.HeadLaws.{nothing_read}
use Rattle.http_text.proofs.ReaderLemmas.{message_head}
use Rattle.http_text.proofs.RunLemmas.{messages_grow}
use Rattle.http_text.proofs.StayLemmas.{good_head_stays}
use Rattle.http_text.proofs.ExpectLemmas as expect

-- the first of several messages, and the others behind them
pub front_messages : (kind : Kind) (xs ys : List Message) (bytes rest : List ℕ) → AreMessages kind bytes (xs ++ ys) rest
    → (middle : List ℕ) × AreMessages kind bytes xs middle × AreMessages kind middle ys rest
front_messages kind xs ys bytes rest are = expect.taken_front kind xs ys bytes rest are

-- what is behind the messages is one rest
pub one_rest : (kind : Kind) (xs : List Message) (bytes a b : List ℕ) → AreMessages kind bytes xs a → AreMessages kind bytes xs b → a ≡ b
one_rest kind xs bytes a b one two = expect.rest_same kind xs bytes a b one two

-- a head that asks for 100 Continue asks for it when more bytes follow
pub asks_longer : (kind : Kind) (bytes more : List ℕ) (taken : List Message) → AsksBehind kind bytes taken → AsksBehind kind (bytes ++ more) taken
asks_longer kind bytes more taken (rest, are, good) = (rest ++ more, messages_grow kind taken bytes rest more are, good_head_stays kind rest more true good)

-- the next message asks for it, or doesn't, as the head behind those taken
pub next_asks : (kind : Kind) (bytes rest : List ℕ) (taken more : List Message) (message : Message) → AreMessages kind bytes (taken ++ message ∷ more) rest
    → ((message_expects message ≡ true) × AsksBehind kind bytes taken) ⊎ ((message_expects message ≡ false) × ¬ (AsksBehind kind bytes taken))
next_asks kind bytes rest taken more message are =
    let found = expect.taken_front kind taken (message ∷ more) bytes rest are in
    let here : BeginsWithGoodHead kind found.0 (message_expects message) =
    subst (λ (t : List ℕ). BeginsWithGoodHead kind t (message_expects message)) (sym found.2.2) (message_head kind found.2.0 found.2.1 message found.2.3) in
    by_asking (message_expects message) refl found.0 found.1 here
  where
    by_asking : (asks : Bool) → message_expects message ≡ asks → (middle : List ℕ) → AreMessages kind bytes taken middle → BeginsWithGoodHead kind middle (message_expects message)
        → ((message_expects message ≡ true) × AsksBehind kind bytes taken) ⊎ ((message_expects message ≡ false) × ¬ (AsksBehind kind bytes taken))
    by_asking true is middle those good = inl (is, (middle, those, subst (BeginsWithGoodHead kind middle) is good))
    by_asking false is middle those good = inr (
      is,
      λ front.
          let same = expect.rest_same kind taken bytes front.0 middle front.1 those in
          let both : false ≡ true = sym is ∙ expect.asks_once kind middle (message_expects message) true good
          (subst (λ (t : List ℕ). BeginsWithGoodHead kind t true) same front.2) in
          cc,
    )

-- no bytes ask for it
empty_end : (xs ys : List ℕ) → [] ≡ xs ++ ys → ys ≡ []
empty_end [] ys is = sym is
empty_end (x ∷ xs) ys is = cc

pub nothing_asks : (kind : Kind) (asks : Bool) → ¬ (BeginsWithGoodHead kind [] asks)
nothing_asks kind asks good =
    let from = empty_end (print_heads good.passed) good.from good.passes.text_is in
    nothing_read kind good.head good.behind (subst (λ (t : List ℕ). ReadsHead kind t good.head good.behind) from good.begins.reads)

-- Facts about readers of one kind.
use Rattle.std.proofs.Common.{◌≡◌, ℕ, List, [], ◌∷◌, ◌++◌, map, Option, Some, None, Result, Ok, Err, sym, ap, ◌∙◌, subst}
use Rattle.std.specs.Prelude.{OnOk, OnErr, IfNone, IfSome}
use Rattle.std.proofs.lemmas.List.{map-append}
use Rattle.http_heads.specs.Heads.{Head, request, reply, IsHeadOf}
use Rattle.http_messages.specs.Messages.{message_of, IsMessage, AreMessages}
use Rattle.http_text.specs.Readers.{ReaderStandsFor, IsReader, waiting}
use Rattle.http_text.specs.Taken.{taken_after}
use Rattle.http_heads.specs.declared.message.Kind.{Kind}
use Rattle.http_heads.specs.declared.message.Kind.TheVariants.{Requests, Replies}
use Rattle.http_heads.specs.declared.message.Message.{Message}
use Rattle.http_heads.specs.declared.message.Message.TheVariants as forms
use Rattle.http_text.specs.declared.reader.MessageReader.{MessageReader}

-- a reader whose kind is known
pub at_kind : (kind k : Kind) (old now : MessageReader) (bytes : List ℕ) (taken : List Message) → kind ≡ k → old ≡ now → ReaderStandsFor k bytes taken now → ReaderStandsFor kind bytes taken old
at_kind kind k old now bytes taken is same stands =
    subst (λ (r : MessageReader). ReaderStandsFor kind bytes taken r) (sym same) (subst (λ (j : Kind). ReaderStandsFor j bytes taken now) (sym is) stands)

pub on_ok : {T E : Type 0} (r : Result T E) (P Q : Type 0) → (P → Q) → OnOk r P → OnOk r Q
on_ok (Ok v) P Q step holds = step holds
on_ok (Err e) P Q step holds = tt

pub on_err : {T E : Type 0} (r : Result T E) (P Q : Type 0) → (P → Q) → OnErr r P → OnErr r Q
on_err (Ok v) P Q step holds = tt
on_err (Err e) P Q step holds = step holds

-- a message of that kind
abbrev pub IsOfKind : Kind → Message → Type 0
IsOfKind Requests (forms.Request r) = Unit {0}
IsOfKind Requests (forms.Reply r) = ⊥
IsOfKind Replies (forms.Request r) = ⊥
IsOfKind Replies (forms.Reply r) = Unit {0}

made_of_kind : (kind : Kind) (head : Head) (body : List ℕ) → IsHeadOf kind head → IsOfKind kind (message_of head body)
made_of_kind Requests (request h) body is = tt
made_of_kind Requests (reply h) body is = is
made_of_kind Replies (request h) body is = is
made_of_kind Replies (reply h) body is = tt

message_of_kind : (kind : Kind) (text : List ℕ) (message : Message) → IsMessage kind text message → IsOfKind kind message
message_of_kind kind text message one = subst (IsOfKind kind) (sym one.is_message) (made_of_kind kind one.head one.body one.begins.reads.0)

-- the next message is of the stream's kind
next_of_kind : (kind : Kind) (bytes rest : List ℕ) (taken more : List Message) (message : Message) → AreMessages kind bytes (taken ++ message ∷ more) rest → IsOfKind kind message
next_of_kind kind bytes rest [] more message are = message_of_kind kind are.0 message are.3
next_of_kind kind bytes rest (first ∷ taken) more message are = next_of_kind kind are.1 rest taken more message are.4

pub waiting_of_kind : (kind : Kind) (reader : MessageReader) (message : Message) (more : List Message) → reader.kind ≡ kind → IsReader reader
    → waiting reader ≡ message ∷ more → IsOfKind kind message
waiting_of_kind kind reader message more is (bytes, taken, stands) next =
    let are = subst (λ (q : List Message). AreMessages reader.kind bytes (taken ++ q) stands.0) next stands.1 in
    subst (λ (k : Kind). IsOfKind k message) is (next_of_kind reader.kind bytes stands.0 taken more message are)

-- what was taken, as messages
pub taken_messages : {T : Type 0} (form : T → Message) (taken : List T) (one : Option T) (message : Option Message)
    → IfNone one (message ≡ None) → IfSome one (λ r. message ≡ Some (form r)) → taken_after (map form taken) message ≡ map form (taken_after taken one)
taken_messages form taken None message none some = ap (taken_after (map form taken)) none
taken_messages form taken (Some r) message none some = ap (taken_after (map form taken)) some ∙ sym (map-append form taken (r ∷ []))

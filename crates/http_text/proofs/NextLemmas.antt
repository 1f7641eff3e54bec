-- The next message of a stream, behind those that were taken.
use Rattle.std.proofs.Common.{◌≡◌, ℕ, List, [], ◌∷◌, ◌++◌, sym, ◌∙◌, subst}
use Rattle.http_heads.specs.declared.framing.FrameFault.{FrameFault}
use Rattle.http_heads.specs.declared.message.Kind.{Kind}
use Rattle.http_heads.specs.declared.message.Message.{Message}
use Rattle.http_messages.specs.Messages.{AreMessages, End, ReadsMessages, faulty}
use Rattle.http_text.proofs.AskLaws.{front_messages, one_rest}
use Rattle.http_text.proofs.RunLemmas.{messages_grow}
use Rattle.http_text.proofs.StayLemmas.{fault_stays}
use Rattle.http_text.proofs.UniqueLemmas.{end_no_message, message_same}

one_message : (kind : Kind) (front last other : List ℕ) (x y : Message) → AreMessages kind front (x ∷ []) last → AreMessages kind front (y ∷ []) other → x ≡ y
one_message kind front last other x y (a, more, is, it, end) (b, after, and, that, behind) = (message_same kind a b more after x y it that (sym is ∙ and)).0

pub same_next : (kind : Kind) (bytes more rest last : List ℕ) (taken : List Message) (x y : Message) → AreMessages kind bytes (taken ++ x ∷ []) rest → AreMessages kind (bytes ++ more) (taken ++ y ∷ []) last → x ≡ y
same_next kind bytes more rest last taken x y one other =
    let first = front_messages kind taken (x ∷ []) (bytes ++ more) (rest ++ more) (messages_grow kind (taken ++ x ∷ []) bytes rest more one) in
    let second = front_messages kind taken (y ∷ []) (bytes ++ more) last other in
    let front = one_rest kind taken (bytes ++ more) first.0 second.0 first.1 second.1 in
    one_message kind second.0 (rest ++ more) last x y (subst (λ (t : List ℕ). AreMessages kind t (x ∷ []) (rest ++ more)) front first.2) second.2

pub no_end_before : (kind : Kind) (bytes last : List ℕ) (taken : List Message) (x : Message) (end : End) → AreMessages kind bytes (taken ++ x ∷ []) last → ReadsMessages kind bytes taken end → ⊥
no_end_before kind bytes last taken x end are (rest, those, ends) =
    let next = front_messages kind taken (x ∷ []) bytes last are in
    let front = one_rest kind taken bytes next.0 rest next.1 those in
    let here : AreMessages kind rest (x ∷ []) last = subst (λ (t : List ℕ). AreMessages kind t (x ∷ []) last) front next.2 in
    end_no_message kind rest end ends here.0 here.1 x here.3 here.2

pub no_fault_before : (kind : Kind) (bytes more last : List ℕ) (taken : List Message) (x : Message) (fault : FrameFault) → AreMessages kind (bytes ++ more) (taken ++ x ∷ []) last → ReadsMessages kind bytes taken (faulty fault) → ⊥
no_fault_before kind bytes more last taken x fault are (rest, those, ends) =
    no_end_before kind (bytes ++ more) last taken x (faulty fault) are (rest ++ more, messages_grow kind taken bytes rest more those, fault_stays kind rest more fault ends)

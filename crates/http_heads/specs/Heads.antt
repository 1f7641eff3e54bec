-- The head of a request or of a reply, over the grammar of `httparse`, and what is wrong with a
-- text that has none.
use Rattle.std.specs.Prelude.{◌≡◌, ◌<◌, ◌≤◌, ◌-◌, ◌==◌, ◌||◌, ℕ, Bool, true}
use Rattle.std.specs.Prelude.{false, not, List, ◌∷◌, ◌++◌, length, All}
use Rattle.std.specs.List.{flat_map}
use Rattle.httparse.specs.Grammar.{LineEnd, print_blank, IsToken, AllPass, Field}
use Rattle.httparse.specs.Grammar.{RequestHead, IsRequestHead, print_request, ResponseHead}
use Rattle.httparse.specs.Grammar.{IsResponseHead, print_response, status_code}
use Rattle.http_heads.specs.declared.message.Kind.{Kind}
use Rattle.http_heads.specs.declared.message.Kind.TheVariants.{Requests, Replies}

-- the most fields of a head, and the most bytes of one
abbrev pub most_fields : ℕ
most_fields = 64

abbrev pub most_head : ℕ
most_head = 16384

-- the head of a request or of a reply
pub data Head : Type 0 where
  request : RequestHead → Head
  reply : ResponseHead → Head

abbrev pub print_head : Head → List ℕ
print_head (request h) = print_request h
print_head (reply h) = print_response h

abbrev pub fields_of : Head → List Field
fields_of (request h) = h.fields
fields_of (reply h) = h.fields

-- HTTP/1.0 or HTTP/1.1
abbrev pub minor_of : Head → ℕ
minor_of (request h) = h.minor
minor_of (reply h) = h.minor

-- a head of that kind
abbrev pub IsHeadOf : Kind → Head → Type 0
IsHeadOf Requests (request h) = IsRequestHead h
IsHeadOf Replies (reply h) = IsResponseHead h
IsHeadOf Requests (reply h) = ⊥
IsHeadOf Replies (request h) = ⊥

-- the text is that head and then the rest
abbrev pub ReadsHead : Kind → List ℕ → Head → List ℕ → Type 0
ReadsHead kind text head rest = IsHeadOf kind head × (text ≡ print_head head ++ rest)

-- no head stands at the front, and none will whatever follows
abbrev pub HasNoHead : Kind → List ℕ → Type 0
HasNoHead kind text = (head : Head) (rest : List ℕ) → ¬ (ReadsHead kind text head rest)

abbrev pub NeverHasHead : Kind → List ℕ → Type 0
NeverHasHead kind text = (more : List ℕ) → HasNoHead kind (text ++ more)

-- the text begins with a head of more fields than a head may have
abbrev pub HasTooManyFields : Kind → List ℕ → Type 0
HasTooManyFields kind text = (head : Head) × (rest : List ℕ) × ReadsHead kind text head rest
    × (most_fields < length (fields_of head))

-- a byte that does not end a target
abbrev pub goes_on : ℕ → Bool
goes_on byte = not (byte == 32 || byte == 13 || byte == 10)

-- the text ends in the target of a request; replies have none
abbrev pub EndsInTarget : Kind → List ℕ → Type 0
EndsInTarget Requests text =
    (blank : List LineEnd) × (method : List ℕ) × (target : List ℕ)
    × IsToken method × AllPass goes_on target × (text ≡ print_blank blank ++ method ++ 32 ∷ target)
EndsInTarget Replies text = ⊥

-- no text with this one as a prefix begins with a head, and the target is over
abbrev pub IsBadHead : Kind → List ℕ → Type 0
IsBadHead kind text = ¬ (EndsInTarget kind text) × NeverHasHead kind text

-- ---- replies with status 100

-- such a reply is passed over
abbrev pub is_interim : Head → Bool
is_interim (request h) = false
is_interim (reply h) = status_code h == 100

pub record IsInterim (kind : Kind) (head : Head) : Type 0 where
  pub head_of : IsHeadOf kind head
  pub interim : is_interim head ≡ true
  pub few : length (fields_of head) ≤ most_fields

-- the bytes of heads
abbrev pub print_heads : List Head → List ℕ
print_heads heads = flat_map print_head heads

-- the text has these heads in front that are passed over, within one limit with the
-- head that follows
pub record PassesOver (kind : Kind) (text : List ℕ) (passed : List Head)
    (behind : List ℕ) : Type 0 where
  pub each : All (IsInterim kind) passed
  pub short : length (print_heads passed) ≤ most_head
  pub text_is : text ≡ print_heads passed ++ behind

-- what they leave of the limit
abbrev pub room_behind : List Head → ℕ
room_behind passed = most_head - length (print_heads passed)

-- How a catching up ended, as it is said.
use Rattle.std.specs.Prelude.{◌≡◌, ℕ, Bool, ◌&&◌, ◌==◌, not, true, List, [], ◌∷◌, ◌++◌, None, codes}
use Rattle.std.specs.Fmt.{decimal}
use Rattle.std.specs.List.{list_all}
use Rattle.serde_json.specs.Data.{Data}
use Rattle.http_heads.specs.declared.message.RawReply.{RawReply}
use Rattle.http_text.specs.Print.{is_visible}
use Rattle.http_session.specs.Texts.{json_reply}
use Rattle.http_session.specs.declared.answerer.Said.{Said}
use Rattle.http_session.specs.declared.answerer.Said.TheVariants as talk
use Rattle.rpc_answers.specs.Answers.{json}
use Rattle.rpc_answers.specs.Prints.{IsBodyText}
use Rattle.rpc_answers.specs.Values.{object_of, word, whole_number}
use Rattle.rpc_answers.specs.declared.answer.Answer.TheVariants as answer
use Rattle.call_replies.specs.Says.{Says, SaysReply}
use Rattle.call_replies.specs.declared.ends.EndTold.{EndTold}
use Rattle.call_replies.specs.declared.ends.EndTold.TheVariants.{CaughtUp, DiskFault, OutOfMemory}
use Rattle.call_replies.specs.declared.ends.EndTold.TheVariants.{Named}

-- ---- the names of ends

-- a byte from '!' to '~' but '"' and '\', so one that JSON writes as it is
abbrev pub is_name_byte : ℕ → Bool
is_name_byte byte = is_visible byte && (not (byte == 34) && not (byte == 92))

abbrev pub IsEndName : List ℕ → Type 0
IsEndName name = list_all is_name_byte name ≡ true

-- an end that is told by its name has such a name
abbrev pub NamesEnd : EndTold → Type 0
NamesEnd (Named name) = IsEndName name.now
NamesEnd other = Unit {0}

-- ---- the replies

-- `{"end":"CaughtUp","version":n}`
abbrev pub caught_up_reply : ℕ → Bool → RawReply
caught_up_reply version close = json_reply 200 close
    (codes "{\"end\":\"CaughtUp\",\"version\":" ++ (decimal version ++ codes "}"))

-- `{"end":"K"}`
abbrev pub end_reply : List ℕ → Bool → RawReply
end_reply name close = json_reply 409 close (codes "{\"end\":\"" ++ (name ++ codes "\"}"))

-- the end is said
abbrev pub SaysEnd : EndTold → Said → Type 0
SaysEnd (CaughtUp version) said = SaysReply (caught_up_reply version) said
SaysEnd DiskFault said = Says answer.DiskFault None said
SaysEnd OutOfMemory said = said ≡ talk.OutOfMemory
SaysEnd (Named name) said = SaysReply (end_reply name.now) said

-- ---- what they are in JSON

abbrev pub caught_up_members : ℕ → List (List ℕ × Data)
caught_up_members version =
    (codes "end", word (codes "CaughtUp")) ∷ (codes "version", whole_number version) ∷ []

abbrev pub end_members : List ℕ → List (List ℕ × Data)
end_members name = (codes "end", word name) ∷ []

-- the reply's body is an object of these members
abbrev pub SaysObject : List (List ℕ × Data) → Said → Type 0
SaysObject members (talk.Reply reply allow) = IsBodyText reply.body (json (object_of members))
SaysObject members talk.OutOfMemory = Unit {0}

-- the end as JSON's reader reads it
abbrev pub SaysEndObject : EndTold → Said → Type 0
SaysEndObject (CaughtUp version) said = SaysObject (caught_up_members version) said
SaysEndObject DiskFault said = Unit {0}
SaysEndObject OutOfMemory said = Unit {0}
SaysEndObject (Named name) said = SaysObject (end_members name.now) said

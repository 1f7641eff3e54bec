-- Whether a message asks for 100 Continue before its body (RFC 9110, section 10.1.1).
use Rattle.std.specs.Prelude.{Bool, false}
use Rattle.http_heads.specs.declared.message.Message.{Message}
use Rattle.http_heads.specs.declared.message.Message.TheVariants as forms

abbrev pub message_expects : Message → Bool
message_expects (forms.Request asked) = asked.expects
message_expects (forms.Reply given) = false

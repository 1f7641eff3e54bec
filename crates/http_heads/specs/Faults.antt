-- The status and the name by which a server refuses bytes that are no request.
use Rattle.std.specs.Prelude.{ℕ, List, codes}
use Rattle.http_heads.specs.declared.framing.FrameFault.{FrameFault}
use Rattle.http_heads.specs.declared.framing.FrameFault.TheVariants as faults

-- RFC 9110, section 15.5, and RFC 6585, section 5
abbrev pub frame_status : FrameFault → ℕ
frame_status faults.BadHead = 400
frame_status faults.TooManyFields = 431
frame_status faults.HeadTooLong = 431
frame_status faults.BadHost = 400
frame_status faults.TwoLengths = 400
frame_status faults.BadLength = 400
frame_status (faults.BodyTooLong length limit) = 413
frame_status faults.BadChunk = 400
frame_status faults.OutOfMemory = 503

abbrev pub frame_name : FrameFault → List ℕ
frame_name faults.BadHead = codes "BadHead"
frame_name faults.TooManyFields = codes "TooManyFields"
frame_name faults.HeadTooLong = codes "HeadTooLong"
frame_name faults.BadHost = codes "BadHost"
frame_name faults.TwoLengths = codes "TwoLengths"
frame_name faults.BadLength = codes "BadLength"
frame_name (faults.BodyTooLong length limit) = codes "BodyTooLong"
frame_name faults.BadChunk = codes "BadChunk"
frame_name faults.OutOfMemory = codes "OutOfMemory"

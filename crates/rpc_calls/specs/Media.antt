-- Bodies that aren't taken: those of a media type that isn't read, and those that are coded.
use Rattle.std.specs.Prelude.{ℕ, Bool, false, not, ◌==◌, ◌||◌, List, []}
use Rattle.std.specs.Prelude.{◌∷◌, Option, Some, None, codes, if◌then◌else◌}
use Rattle.std.specs.Str.{str_eq_ignore_ascii_case}
use Rattle.httparse.specs.Grammar.{trim_ows}
use Rattle.http_heads.specs.declared.message.RawRequest.{RawRequest}

-- what stands before the first semicolon
abbrev pub before_semicolon : List ℕ → List ℕ
before_semicolon [] = []
before_semicolon (byte ∷ text) = if byte == 59 then [] else byte ∷ before_semicolon text

-- the media type of a Content-Type field, without its parameters and the blanks round it (RFC
-- 9110, section 8.3)
abbrev pub media_type_of : List ℕ → List ℕ
media_type_of value = trim_ows (before_semicolon value)

-- patches in Thrift form aren't taken
abbrev pub is_refused_type : Option (List ℕ) → Bool
is_refused_type (Some value) =
    str_eq_ignore_ascii_case (media_type_of value) (codes "application/rdf-patch+thrift")
is_refused_type None = false

-- nor is a body that is coded (RFC 9110, section 8.4)
abbrev pub is_refused_coding : Option (List ℕ) → Bool
is_refused_coding (Some value) = not (str_eq_ignore_ascii_case value (codes "identity"))
is_refused_coding None = false

abbrev pub has_refused_media : RawRequest → Bool
has_refused_media request =
    is_refused_type request.content_type || is_refused_coding request.encoding

-- Where in the stream a reader stands.
use Rattle.std.specs.Prelude.{ℕ, ◌+◌, ◌<◌, ◌≤◌, ◌^◌, List, ◌++◌, drop, vec_len}
use Rattle.stream_generator.specs.declared.source.Cursor.{Cursor}
use Rattle.stream_generator.specs.Generator.{patches_from}

-- what was not read yet
abbrev pub rest_of : Cursor → List ℕ
rest_of c = drop c.at c.patch.items ++ patches_from c.next c.more

abbrev pub IsWithin : Cursor → Type 0
IsWithin c = (c.at ≤ vec_len c.patch) × (1 ≤ c.next) × (c.next + c.more < 2 ^ 32)

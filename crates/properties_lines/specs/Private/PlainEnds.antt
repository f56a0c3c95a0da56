-- The bytes at which a plain line ends, or is plain no longer.
use Rattle.std.specs.Prelude.{ℕ, ◌==◌, ◌||◌, Bool}
use Rattle.properties_format.specs.Text.{is_line_ending, backslash}

-- a CR, an LF or a backslash
abbrev pub is_plain_end : ℕ → Bool
is_plain_end b = is_line_ending b || b == backslash

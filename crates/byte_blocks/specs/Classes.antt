-- Which bytes belong to the classes.
use Rattle.std.specs.Prelude.{ℕ, ◌==◌, ◌||◌, ◌%◌, nat_le, nat_lt, Bool, List, get_or}

-- a CR or an LF
abbrev pub is_ending_byte : ℕ → Bool
is_ending_byte b = b == 0x0a || b == 0x0d

-- a byte below the space
abbrev pub is_control : ℕ → Bool
is_control b = nat_lt b 0x20

-- a byte that isn't an ASCII character
abbrev pub is_non_ascii : ℕ → Bool
is_non_ascii b = nat_le 0x80 b

-- whether the byte equals the byte that a table of sixteen has at the index given by the byte's own low four bits
abbrev pub matches_table : List ℕ → ℕ → Bool
matches_table table b = b == get_or table (b % 16) 0

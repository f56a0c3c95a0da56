-- Texts that are printed, each with the byte that ends it.
use Rattle.std.specs.Prelude.{ℕ, List, [], ◌∷◌, ◌++◌, encode_utf8_all}
use Rattle.std.specs.List.{flat_map}
use Rattle.properties_format.specs.Text.{line_feed}
use Rattle.properties_tools.specs.declared.propedit.request.Terminator.{Terminator}
use Rattle.properties_tools.specs.declared.propedit.request.Terminator.TheVariants.{LineFeed, Nul}

abbrev pub end_byte : Terminator → ℕ
end_byte LineFeed = line_feed
end_byte Nul = 0

-- a text in UTF-8, and a byte after it
abbrev pub followed_text : ℕ → List ℕ → List ℕ
followed_text byte text = encode_utf8_all text ++ (byte ∷ [])

-- a text in UTF-8, and the byte that ends it
abbrev pub ended : Terminator → List ℕ → List ℕ
ended end text = followed_text (end_byte end) text

-- texts, one after another
abbrev pub ended_all : Terminator → List (List ℕ) → List ℕ
ended_all end texts = flat_map (ended end) texts

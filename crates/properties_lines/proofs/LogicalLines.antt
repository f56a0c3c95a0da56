-- Texts of lines without a backslash.
use Rattle.std.proofs.Common.{◌≡◌, ◌==◌, ◌||◌, ap₂, ℕ, true, false, eqb-true, List, [], ◌∷◌, ◌++◌, refl, sym, ap, ◌∙◌, inl, inr, arith, append-nil}
use Rattle.std.proofs.lemmas.Bool.{cases_Bool, or_from}
use Rattle.properties_format.specs.Text.{backslash, Piece, piece_characters}
use Rattle.properties_format.specs.Encoding.{Encoding, windows_1252, utf_8, utf_16le, utf_16be, ascii_bytes, IsPieces}
use Rattle.properties_format.specs.Computed.Encoding.{pieces_of}
use Rattle.properties_format.specs.Computed.Cut.{decoded_line, windows_1252_characters}
use Rattle.properties_format.proofs.Encodings.Pieces.{pieces_of-meets}
use Rattle.properties_format.proofs.Encodings.Characters.{piece-ascii}
use Rattle.properties_format.proofs.Undecoded.{same-backslash}
use Rattle.properties_text.specs.Escaping.{text_in, IsWell, holds_backslash}
use Rattle.properties_text.specs.declared.encoding.line_encoding.LineEncoding.{LineEncoding}
use Rattle.properties_text.specs.declared.encoding.line_encoding.LineEncoding.TheVariants.{Windows1252, Utf8}
use Rattle.properties_text.proofs.Texts.Resolving.{holds-part, holds_backslash-text}

-- ---- texts without a backslash

-- a backslash is a byte by itself, in each encoding
backslash-bytes : (e : Encoding) → holds_backslash (ascii_bytes e backslash) ≡ true
backslash-bytes windows_1252 = refl
backslash-bytes utf_8 = refl
backslash-bytes utf_16le = refl
backslash-bytes utf_16be = refl

-- no piece is a backslash then
unescaped-pieces : (e : Encoding) (d : List ℕ) (ps : List Piece) → IsPieces e d ps → holds_backslash d ≡ false → holds_backslash (piece_characters ps) ≡ false
unescaped-pieces e d [] h k = refl
unescaped-pieces e d (p ∷ ps) (rest, same, is, others) k =
    let none : holds_backslash (p.bytes ++ rest) ≡ false = ap holds_backslash (sym same) ∙ k in
    or_from (p.character == backslash) (holds_backslash (piece_characters ps))
    (elim (cases_Bool (p.character == backslash)) [
      | inl b ↦
          let c : p.character ≡ backslash = eqb-true p.character backslash b in
          let bytes = piece-ascii e p rest is (omega (arith, c)) ∙ ap (ascii_bytes e) c in
          absurd (cc (holds-part [] p.bytes rest none, ap holds_backslash bytes, backslash-bytes e))
      | inr b ↦ b
    ])
    (unescaped-pieces e rest ps others (holds-part p.bytes rest [] (rw append-nil none)))

-- a text holds no backslash where its bytes hold none
pub unescaped-decoded : (e : Encoding) (d : List ℕ) → holds_backslash d ≡ false → holds_backslash (decoded_line e d) ≡ false
unescaped-decoded e d h = unescaped-pieces e d (pieces_of e d) (pieces_of-meets e d) h

-- ---- windows-1252 and UTF-8

-- a byte of windows-1252 is a backslash exactly if its character is
holds-bytes : (d : List ℕ) → holds_backslash (windows_1252_characters d) ≡ holds_backslash d
holds-bytes [] = refl
holds-bytes (b ∷ d) = ap₂ (λ x y. x || y) (same-backslash b) (holds-bytes d)

-- bytes hold a backslash exactly if their text does
pub holds-in : (e : LineEncoding) (d : List ℕ) → IsWell e d → holds_backslash (text_in e d) ≡ holds_backslash d
holds-in Windows1252 d w = holds-bytes d
holds-in Utf8 d w = holds_backslash-text d w

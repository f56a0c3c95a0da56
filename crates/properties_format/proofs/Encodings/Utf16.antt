-- The first piece of UTF-16 is the computed one, and no other.
use Rattle.std.proofs.Common.{arith, ◌≡◌, ℕ, true, false, nat_le, nat_lt, List, [], ◌∷◌, refl, ◌∙◌, inl, inr}
use Rattle.std.proofs.lemmas.Bool.{cond-true, cond-false, cases_Bool, and_parts, leb-true, le-ltb, and_right}
use Rattle.properties_format.specs.Text.{replacement, Piece, piece}
use Rattle.properties_format.specs.Utf16.{is_high, is_low, pair_character, IsUtf16Piece, pair, plain, low_alone, high_alone, high_last, byte_last, both_last}
use Rattle.properties_format.specs.Computed.Encoding.{high_piece, first_utf_16_piece}
use Rattle.properties_format.proofs.Encodings.FirstPieces.{Meets, IsRead}

-- A low surrogate isn't a high one.
pub low-not_high : (u : ℕ) → is_low u ≡ true → is_high u ≡ false
low-not_high u h = grind (arith, and_parts, nat_le, nat_lt, and_right, le-ltb, leb-true)

module _ (unit : ℕ → ℕ → ℕ) where
  -- ---- The computed piece, by the kinds of the units.

  read-high : (a b : ℕ) (d : List ℕ) → is_high (unit a b) ≡ true → first_utf_16_piece unit a (b ∷ d) ≡ high_piece unit a b d
  read-high a b d h = cond-true (is_high (unit a b)) (high_piece unit a b d) _ h

  read-low : (a b : ℕ) (d : List ℕ) → is_low (unit a b) ≡ true → first_utf_16_piece unit a (b ∷ d) ≡ piece (a ∷ b ∷ []) replacement
  read-low a b d h = simp (cond-false, low-not_high, cond-true)

  read-plain : (a b : ℕ) (d : List ℕ) → is_high (unit a b) ≡ false → is_low (unit a b) ≡ false
      → first_utf_16_piece unit a (b ∷ d) ≡ piece (a ∷ b ∷ []) (unit a b)
  read-plain a b d h k = simp cond-false

  read-pair : (a b c d : ℕ) (more : List ℕ) → is_low (unit c d) ≡ true
      → high_piece unit a b (c ∷ d ∷ more) ≡ piece (a ∷ b ∷ c ∷ d ∷ []) (pair_character (unit a b) (unit c d))
  read-pair a b c d more h = cond-true (is_low (unit c d)) _ (piece (a ∷ b ∷ []) replacement) h

  read-alone : (a b c d : ℕ) (more : List ℕ) → is_low (unit c d) ≡ false → high_piece unit a b (c ∷ d ∷ more) ≡ piece (a ∷ b ∷ []) replacement
  read-alone a b c d more h = cond-false (is_low (unit c d)) _ (piece (a ∷ b ∷ []) replacement) h

  -- ---- The computed piece is a piece.

  high-meets : (a b : ℕ) (d : List ℕ) → is_high (unit a b) ≡ true → Meets (IsUtf16Piece unit) (high_piece unit a b d) (a ∷ b ∷ d)
  high-meets a b [] h = ([], refl, high_last a b refl h refl)
  high-meets a b (c ∷ []) h = ([], refl, both_last a b c refl h refl)
  high-meets a b (c ∷ d ∷ more) h = elim (cases_Bool (is_low (unit c d))) [
    | inl k ↦ rw (read-pair a b c d more k) (more, refl, pair a b c d refl h k)
    | inr k ↦ rw (read-alone a b c d more k) (c ∷ d ∷ more, refl, high_alone a b c d more refl h refl k)
  ]

  pub utf_16-meets : (a : ℕ) (d : List ℕ) → Meets (IsUtf16Piece unit) (first_utf_16_piece unit a d) (a ∷ d)
  utf_16-meets a [] = ([], refl, byte_last a refl refl)
  utf_16-meets a (b ∷ d) = elim (cases_Bool (is_high (unit a b))) [
    | inl h ↦ rw (read-high a b d h) (high-meets a b d h)
    | inr h ↦ elim (cases_Bool (is_low (unit a b))) [
      | inl k ↦ rw (read-low a b d k) (d, refl, low_alone a b refl k)
      | inr k ↦ rw (read-plain a b d h k) (d, refl, plain a b refl h k)
    ]
  ]

  -- ---- A piece is the computed one.

  pub utf_16-read : (p : Piece) (rest : List ℕ) → IsUtf16Piece unit p rest → IsRead (first_utf_16_piece unit) p rest
  utf_16-read p rest (pair a b c d e h k) = rw e (record { byte = a; others = b ∷ c ∷ d ∷ []; bytes = refl; reads = read-high a b (c ∷ d ∷ rest) h ∙ read-pair a b c d rest k })
  utf_16-read p rest (plain a b e h k) = rw e (record { byte = a; others = b ∷ []; bytes = refl; reads = read-plain a b rest h k })
  utf_16-read p rest (low_alone a b e h) = rw e (record { byte = a; others = b ∷ []; bytes = refl; reads = read-low a b rest h })
  utf_16-read p rest (high_alone a b c d more e h s k) =
      rw (e, s) (record { byte = a; others = b ∷ []; bytes = refl; reads = read-high a b (c ∷ d ∷ more) h ∙ read-alone a b c d more k })
  utf_16-read p rest (high_last a b e h s) = rw (e, s) (record { byte = a; others = b ∷ []; bytes = refl; reads = read-high a b [] h })
  utf_16-read p rest (byte_last a e s) = rw (e, s) (record { byte = a; others = []; bytes = refl; reads = refl })
  utf_16-read p rest (both_last a b c e h s) = rw (e, s) (record { byte = a; others = b ∷ c ∷ []; bytes = refl; reads = read-high a b (c ∷ []) h })

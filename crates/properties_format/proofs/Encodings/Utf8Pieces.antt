-- The first piece of UTF-8 is the computed one, and no other.
use Rattle.std.proofs.Common.{rules, ◌≡◌, ℕ, ◌<◌, List, [], ◌∷◌, ◌++◌, length, Option, Some, None, refl, sym, ap, ◌∙◌, inl, inr, arith, eq-eqb, ne_eqb}
use Rattle.std.proofs.lemmas.Bool.{cond-true, cond-false}
use Rattle.std.proofs.lemmas.Option.{none-some, same_Some}
use Rattle.properties_format.specs.Text.{replacement, Piece, piece}
use Rattle.properties_format.specs.Utf8.{Range, well_formed_rows, Begins, BeginsLonger, NextBreaks, IsUtf8Piece, whole, stray, broken}
use Rattle.properties_format.specs.Computed.Encoding.{ranges_after, fitting, utf_8_piece, utf_8_piece_by, first_utf_8_piece}
use Rattle.properties_format.proofs.Encodings.Utf8Rows.{FitsFront, Fitted, front-of_row, length-row, shorter-than_row, row-of_front, longer-of_front, fitting-row, fitting-broken, fitting-fits, sequence-row, row-sequence, sequence-nonempty}
use Rattle.properties_format.proofs.Encodings.FirstPieces.{Meets, IsRead}

-- ---- Bytes begin a sequence exactly if they fit the front of the row of the first byte.

-- Bytes that begin a sequence fit the front of the row of the first byte.
pub begins-front : (b : ℕ) (bs : List ℕ) → Begins (b ∷ bs) → (rs : List Range) × (ranges_after well_formed_rows b ≡ Some rs) × FitsFront rs bs
begins-front b bs h =
    let r = sequence-row b (bs ++ h.0) h.1 in
    (r.0, r.1, front-of_row r.0 bs h.0 r.2)

-- Bytes that fit the front of that row begin a sequence.
pub front-begins : (b : ℕ) (bs : List ℕ) (rs : List Range) → ranges_after well_formed_rows b ≡ Some rs → FitsFront rs bs → Begins (b ∷ bs)
front-begins b bs rs e h = grind (arith, row-sequence, row-of_front)

-- If the row is known, bytes that begin a sequence fit the front of that row.
front-of-begins : (b : ℕ) (bs : List ℕ) (rs : List Range) → ranges_after well_formed_rows b ≡ Some rs → Begins (b ∷ bs) → FitsFront rs bs
front-of-begins b bs rs e h =
    let f = begins-front b bs h in
    grind (arith, same_Some)

-- ---- The computed piece is a piece.

-- A byte with a row, with the bytes after it that fit, is a piece at the front.
fitted-meets : (b : ℕ) (d bs : List ℕ) (rs : List Range) → ranges_after well_formed_rows b ≡ Some rs → Fitted rs d bs
    → Meets IsUtf8Piece (utf_8_piece b bs (length rs)) (b ∷ d)
fitted-meets b d bs rs e (rest, s, inl k) = search (rules, row-sequence, cond-true, eq-eqb, length-row)
fitted-meets b d bs rs e (rest, s, inr k) =
    let l = longer-of_front rs bs (row-sequence b rs e).0 k.1 k.0 in
    let short : length bs < length rs = k.0 in (
      rest,
      ap (λ v. b ∷ v) s,
      broken b bs (ap (λ v. piece (b ∷ bs) v) (cond-false _ _ replacement (ne_eqb (length bs) (length rs) (λ q. omega arith))))
          (l.0, l.1, (row-sequence b rs e).1 (bs ++ l.0 ∷ l.1) l.2) (search (rules, front-of-begins)),
    )

-- The computed piece is a piece at the front, whether or not the byte has a row.
meets-by : (b : ℕ) (d : List ℕ) (o : Option (List Range)) → ranges_after well_formed_rows b ≡ o → Meets IsUtf8Piece (utf_8_piece_by o b d) (b ∷ d)
meets-by b d None e = (d, refl, stray b refl (λ k. let f = begins-front b [] k in none-some f.0 (sym e ∙ f.1)))
meets-by b d (Some rs) e = fitted-meets b d (fitting rs d) rs e (fitting-fits rs d)

-- The computed piece is a piece at the front of the bytes.
pub utf_8-meets : (b : ℕ) (d : List ℕ) → Meets IsUtf8Piece (first_utf_8_piece b d) (b ∷ d)
utf_8-meets b d = meets-by b d (ranges_after well_formed_rows b) refl

-- ---- A piece is the computed one.

-- For a byte that begins no sequence.
stray-read : (b : ℕ) (rest : List ℕ) → ¬ Begins (b ∷ []) → IsRead first_utf_8_piece (piece (b ∷ []) replacement) rest
stray-read b rest h = record { byte = b; others = []; bytes = refl; reads = ap (λ v. utf_8_piece_by v b rest) (none (ranges_after well_formed_rows b) refl) }
  where
    none : (o : Option (List Range)) → ranges_after well_formed_rows b ≡ o → ranges_after well_formed_rows b ≡ None
    none None e = e
    none (Some rs) e = absurd (h (front-begins b [] rs e tt))

-- For bytes that begin a longer sequence that the rest doesn't continue.
broken-read : (b : ℕ) (bs rest : List ℕ) → BeginsLonger (b ∷ bs) → NextBreaks (b ∷ bs) rest → IsRead first_utf_8_piece (piece (b ∷ bs) replacement) rest
broken-read b bs rest h k =
    let r = sequence-row b (bs ++ h.0 ∷ h.1) h.2 in
    search (rules, shorter-than_row, front-of_row, ne_eqb, fitting-broken, cond-false, front-begins)

-- A piece equal to the computed one is the computed one.
read-at : (p q : Piece) (rest : List ℕ) → q ≡ p → IsRead first_utf_8_piece p rest → IsRead first_utf_8_piece q rest
read-at p q rest e h = rw e h

-- Each piece is the computed one.
pub utf_8-read : (p : Piece) (rest : List ℕ) → IsUtf8Piece p rest → IsRead first_utf_8_piece p rest
utf_8-read p rest (whole h e) = search (rules, sequence-nonempty, sequence-row, eq-eqb, length-row, fitting-row, cond-true)
utf_8-read p rest (stray b e h) = read-at (piece (b ∷ []) replacement) p rest e (stray-read b rest h)
utf_8-read p rest (broken b bs e h k) = read-at (piece (b ∷ bs) replacement) p rest e (broken-read b bs rest h k)

-- The first piece of UTF-8, by the number of bytes that fit the row of its first byte.
use Rattle.std.proofs.Common.{◌≡◌, ◌≢◌, ℕ, suc, ◌==◌, false, List, ◌∷◌, length, take, Some, refl, sym, ap, ◌∙◌, subst, inl, inr, arith, eq-eqb, ne_eqb}
use Rattle.std.proofs.Math.Dec.{eqb-suc-suc, eqb-zero-suc}
use Rattle.std.proofs.Math.Seq.{take-append_seam}
use Rattle.std.proofs.lemmas.Bool.{cases_Bool, cond-true, cond-false}
use Rattle.properties_format.specs.Text.{scalar, replacement}
use Rattle.properties_format.specs.Utf8.{Range, well_formed_rows, FitsRow, sequence_character}
use Rattle.properties_format.specs.Computed.Encoding.{is_in, ranges_after, fitting, utf_8_piece_by, first_utf_8_piece, fits_short, awaits_byte}
use Rattle.properties_format.proofs.Encodings.Utf8Rows.{fitting-fits, row-sequence}
use Rattle.properties_format.proofs.Encodings.Utf8Sequences.{sequence-scalar}

-- The bytes that fit are at the front.
pub fitting-take : (rs : List Range) (d : List ℕ) → take (length (fitting rs d)) d ≡ fitting rs d
fitting-take rs d =
    let f = fitting-fits rs d in
    ap (take (length (fitting rs d))) f.1 ∙ take-append_seam (fitting rs d) f.0

-- If as many bytes fit as the row has, they don't wait for more.
fits_short-whole : (rs : List Range) (d : List ℕ) → length (fitting rs d) ≡ length rs → fits_short rs d ≡ false
fits_short-whole (r ∷ rs) (b ∷ d) h = elim (cases_Bool (is_in r b)) [
  | inl k ↦ rw k (fits_short-whole rs d (let l = rw k at h in omega arith))
  | inr k ↦ rw k refl
]
fits_short-whole rs d h1 = grind (arith)

-- If fewer bytes fit than the row has, and they are all that there are, they wait for more.
fits_short-all : (rs : List Range) (d : List ℕ) → length (fitting rs d) ≢ length rs → fits_short rs d ≡ (length (fitting rs d) == length d)
fits_short-all (r ∷ rs) (b ∷ d) h = elim (cases_Bool (is_in r b)) [
  | inl k ↦ rw k (fits_short-all rs d (λ e. h (rw k (ap suc e))) ∙ sym (eqb-suc-suc (length (fitting rs d)) (length d)))
  | inr k ↦ rw k (sym (eqb-zero-suc (length d)))
]
fits_short-all rs d h1 = grind (arith)

-- As many bytes fit as the row of the first byte has, so they are a sequence.
pub record IsWholeFirst (b : ℕ) (d : List ℕ) (n : ℕ) : Type 0 where
  pub whole : (first_utf_8_piece b d).character ≡ sequence_character (b ∷ take n d)
  pub bytes : length (first_utf_8_piece b d).bytes ≡ suc n
  pub is_scalar : scalar (sequence_character (b ∷ take n d))
  pub decided : awaits_byte (ranges_after well_formed_rows b) d ≡ false

-- If as many bytes fit as a row has, they fit that row.
fitted-row : (rs : List Range) (d : List ℕ) → length (fitting rs d) ≡ length rs → FitsRow rs (fitting rs d)
fitted-row rs d h = elim ((fitting-fits rs d).2) [ inl k ↦ k | inr k ↦ absurd (let l = k.0 in omega arith) ]

-- The first piece is whole if as many bytes fit as the row has after its first range.
pub first_utf_8_piece-whole : (b : ℕ) (rs : List Range) (d : List ℕ) (n : ℕ)
    → ranges_after well_formed_rows b ≡ Some rs → n ≡ length (fitting rs d) → n ≡ length rs → IsWholeFirst b d n
first_utf_8_piece-whole b rs d n e h k =
    let t : take n d ≡ fitting rs d = ap (λ v. take v d) h ∙ fitting-take rs d in
    let l : length (fitting rs d) ≡ length rs = sym h ∙ k in
    let P : List ℕ → Type 0 = λ v. scalar (sequence_character (b ∷ v)) in
    record {
      whole = grind (arith, cond-true, eq-eqb);
      bytes = ap (λ o. length (utf_8_piece_by o b d).bytes) e ∙ ap suc (sym h);
      is_scalar = subst P (sym t) (sequence-scalar (b ∷ fitting rs d) ((row-sequence b rs e).1 (fitting rs d) (fitted-row rs d l)));
      decided = ap (λ o. awaits_byte o d) e ∙ fits_short-whole rs d l;
    }

-- Fewer bytes fit, so they are broken; they wait for more if no other bytes follow.
pub record IsBrokenFirst (b : ℕ) (d : List ℕ) (n : ℕ) : Type 0 where
  pub broken : (first_utf_8_piece b d).character ≡ replacement
  pub bytes : length (first_utf_8_piece b d).bytes ≡ suc n
  pub waits : awaits_byte (ranges_after well_formed_rows b) d ≡ (n == length d)

-- The first piece is broken if the number of bytes that fit differs from the row's.
pub first_utf_8_piece-broken : (b : ℕ) (rs : List Range) (d : List ℕ) (n : ℕ)
    → ranges_after well_formed_rows b ≡ Some rs → n ≡ length (fitting rs d) → n ≢ length rs → IsBrokenFirst b d n
first_utf_8_piece-broken b rs d n e h k = grind (arith, cond-false, ne_eqb, fits_short-all)

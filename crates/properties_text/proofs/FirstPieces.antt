-- What is returned for the first piece of UTF-8, and for the first sequence.
use Rattle.std.proofs.Common.{◌≡◌, ◌≢◌, ℕ, zero, suc, ◌+◌, ◌<◌, ◌≤◌, ◌==◌, false, List, [], ◌∷◌, ◌++◌, length, take, drop, Some, None, refl, sym, ap, subst, inl, inr, ◌∙◌, arith, append_assoc, append-nil, take-append-drop}
use Rattle.std.specs.Str.{IsUtf8}
use Rattle.std.proofs.lemmas.Bool.{cond-true}
use Rattle.std.proofs.lemmas.Option.{none-some, same_Some}
use Rattle.properties_format.specs.Text.{replacement}
use Rattle.properties_format.specs.Utf8.{Range, from_to, well_formed_rows, FitsRow, IsWellFormed, IsWellFormedText, sequence_character}
use Rattle.properties_format.specs.Computed.Encoding.{is_in, ranges_after, fitting, first_utf_8_piece, awaits_byte}
use Rattle.properties_format.proofs.Encodings.Utf8First.{first_utf_8_piece-whole, first_utf_8_piece-broken, fitting-take}
use Rattle.properties_format.proofs.Encodings.Utf8Rows.{is_in-true, fitting-fits, fitting-row, length-row, sequence-row, row-sequence, sequence-nonempty}
use Rattle.properties_format.proofs.Encodings.WellFormed.{IsUtf8-from_well_formed, well_formed-from_IsUtf8}
use Rattle.properties_text.specs.Encoding.{ShowsPiece, IsLongestText}

module _ (b : ℕ) (rs : List Range) (d : List ℕ) (n : ℕ) (row : ranges_after well_formed_rows b ≡ Some rs) (fits : n ≡ length (fitting rs d)) where
  -- As many bytes fit as the row has.
  pub shows-whole : n ≡ length rs → ShowsPiece (first_utf_8_piece b d) (awaits_byte (ranges_after well_formed_rows b) d)
      record { character = sequence_character (b ∷ take n d); length = 1 + n; may_change = false }
  shows-whole all =
      let h = first_utf_8_piece-whole b rs d n row fits all in
      record { character_is = sym h.whole; length_is = omega (arith, h.bytes); may_change_is = sym h.decided }

  -- Fewer bytes fit than the row has.
  pub shows-broken : n ≢ length rs → ShowsPiece (first_utf_8_piece b d) (awaits_byte (ranges_after well_formed_rows b) d)
      record { character = replacement; length = 1 + n; may_change = n == length d }
  shows-broken some =
      let h = first_utf_8_piece-broken b rs d n row fits some in
      record { character_is = sym h.broken; length_is = omega (arith, h.bytes); may_change_is = sym h.waits }

-- ---- The first sequence.

module _ (b : ℕ) (d : List ℕ) where
  -- As many bytes fit as the row has, so they are a sequence.
  pub first-sequence : (rs : List Range) → ranges_after well_formed_rows b ≡ Some rs → length (fitting rs d) ≡ length rs → IsUtf8 (take (1 + length rs) (b ∷ d))
  first-sequence rs row all =
      let fits : FitsRow rs (fitting rs d) = elim ((fitting-fits rs d).2) [ inl k ↦ k | inr k ↦ absurd (let l = k.0 in omega arith) ] in
      let text : IsWellFormedText (b ∷ fitting rs d) =
      ((b ∷ fitting rs d) ∷ [], ([], sym (append-nil (b ∷ fitting rs d)), (row-sequence b rs row).1 (fitting rs d) fits, refl)) in
      let same : fitting rs d ≡ take (length rs) d = sym (fitting-take rs d) ∙ ap (λ n. take n d) all in
      let count : suc (length rs) ≡ 1 + length rs = omega arith in
      rw (← count, ← same) (IsUtf8-from_well_formed (b ∷ fitting rs d) text)

  -- An ASCII byte is a sequence.
  pub ascii-sequence : b < 0x80 → IsUtf8 (take 1 (b ∷ d))
  ascii-sequence small = first-sequence [] (cond-true (is_in (from_to 0x00 0x7f) b) _ _ (is_in-true (from_to 0x00 0x7f) b (omega arith, omega arith))) refl

  -- No front is well-formed but the empty one if no sequence is a front.
  module _ (none : (bs rest : List ℕ) → d ≡ bs ++ rest → ¬ IsWellFormed (b ∷ bs)) where
    no-text : (m : ℕ) → ¬ IsWellFormedText (b ∷ take m d)
    no-text m ([], e) = absurd (cc)
    no-text m ([] ∷ more, (rest, e, w, s)) = absurd (sequence-nonempty w)
    no-text m ((a ∷ bs) ∷ more, (rest, e, w, s)) =
        let split : d ≡ bs ++ (rest ++ drop m d) = sym (take-append-drop m d) ∙ ap (λ v. drop 1 v ++ drop m d) e ∙ append_assoc bs rest (drop m d) in
        let same : b ≡ a = cc in
        none bs (rest ++ drop m d) split (rw same w)

    no-longer : (m : ℕ) → IsUtf8 (take m (b ∷ d)) → m ≤ 0
    no-longer zero u = omega arith
    no-longer (suc m) u = absurd (no-text m (well_formed-from_IsUtf8 _ u))

    only-empty : IsLongestText (b ∷ d) 0
    only-empty = record { within = omega arith; text = ([], (refl, refl)); longest = λ m le u. no-longer m u }

  -- The first byte has no row.
  pub longest-stray : ranges_after well_formed_rows b ≡ None → IsLongestText (b ∷ d) 0
  longest-stray row = only-empty (λ bs rest e w. let r = sequence-row b bs w in none-some r.0 (sym row ∙ r.1))

  -- Fewer bytes fit than the row has.
  pub longest-broken : (rs : List Range) → ranges_after well_formed_rows b ≡ Some rs → length (fitting rs d) ≢ length rs → IsLongestText (b ∷ d) 0
  longest-broken rs row some = only-empty (λ bs rest e w.
      let r = sequence-row b bs w in
      let fits : FitsRow rs bs = subst (λ v. FitsRow v bs) (same_Some r.0 rs (sym r.1 ∙ row)) r.2 in
      some (ap (λ v. length (fitting rs v)) e ∙ ap length (fitting-row rs bs rest fits) ∙ length-row rs bs fits))

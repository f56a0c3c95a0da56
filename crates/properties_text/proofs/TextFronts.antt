-- Fronts of bytes that are valid text without being decoded.
use Rattle.std.proofs.Common.{◌≡◌, ◌+◌, ◌-◌, ◌<◌, ◌≤◌, ℕ, true, List, [], ◌∷◌, ◌++◌, length, take, drop, refl, sym, ap, subst, inl, inr, ◌∙◌, arith, append-nil, append_assoc, take_all, take-add, take-take}
use Rattle.std.specs.Prelude.{Result, Ok, Err, OnErr, encode_utf8_all}
use Rattle.std.specs.Str.{IsUtf8, chars}
use Rattle.std.proofs.Math.Utf8.{scalar as is_scalar, scalars}
use Rattle.std.specs.Char.{IsScalar, encode_utf8}
use Rattle.std.proofs.lemmas.Bool.{and_from, cases_lt}
use Rattle.std.proofs.lemmas.List.{nil_from_length, drop-take, length-drop, length-take-le}
use Rattle.std.proofs.lemmas.Str.{IsUtf8-append, IsUtf8-drop, IsCharBoundary-from_take, chars-append, chars-encodes}
use Rattle.properties_format.specs.Text.{piece_characters}
use Rattle.properties_format.specs.Encoding.{Encoding, windows_1252, utf_8, utf_16le, utf_16be}
use Rattle.properties_format.specs.Computed.Encoding.{first_piece, pieces_of}
use Rattle.properties_format.proofs.Encodings.Pieces.{pieces_of-nil}
use Rattle.properties_format.proofs.Encodings.Waiting.{characters-step}
use Rattle.properties_format.proofs.Encodings.WellFormed.{IsUtf8-from_well_formed, characters-ascii, characters-text}
use Rattle.properties_text.specs.Encoding.{IsLongestText, IsText}

-- All bytes are well-formed if the longest well-formed front has all of them, and otherwise not.
pub whole-text : (bs : List ℕ) (n : ℕ) → IsLongestText bs n → length bs ≤ n → IsUtf8 bs
whole-text bs n h le = subst IsUtf8 (take_all n bs le) h.text

pub no-whole_text : (bs : List ℕ) (n : ℕ) → IsLongestText bs n → n < length bs → ¬ IsUtf8 bs
no-whole_text bs n h few u =
    let all : IsUtf8 (take (length bs) bs) = rw (take_all (length bs) bs (omega arith)) u in
    let most = h.longest (length bs) (omega arith) all in
    absurd (omega (arith, most, few))

-- A well-formed front, and the bytes after it.
module _ (bs : List ℕ) (at : ℕ) (within : at ≤ length bs) (front : IsUtf8 (take at bs)) where
  -- More well-formed bytes from the start on are more after that front.
  rest-of : (m : ℕ) → at ≤ m → m ≤ length bs → IsUtf8 (take m bs) → IsUtf8 (take (m - at) (drop at bs))
  rest-of m le short u =
      let same : IsUtf8 (take at (take m bs)) = rw (take-take at m bs le) front in
      let rest = IsUtf8-drop (take m bs) at u (IsCharBoundary-from_take (take m bs) at u (omega (arith, length-take-le m bs short)) same) in
      let e : at + (m - at) ≡ m = omega arith in
      rw (← drop-take at (m - at) bs, e) rest

  -- More well-formed bytes.
  pub front-more : (n : ℕ) → n ≤ length (drop at bs) → IsUtf8 (take n (drop at bs)) → (at + n ≤ length bs) × IsUtf8 (take (at + n) bs)
  front-more n short u = (omega (arith, short, within, length-drop at bs), rw take-add (IsUtf8-append _ _ front u))

  -- No longer front is well-formed if no more bytes are.
  pub longest-after : IsLongestText (drop at bs) 0 → IsLongestText bs at
  longest-after h = record {
    within = within;
    text = front;
    longest = λ m le u. elim (cases_lt at m) [
      | inl l ↦ absurd (let most = h.longest (m - at) (omega (arith, length-drop at bs)) (rest-of m (omega arith) le u) in omega (arith, most, l))
      | inr h ↦ h
    ];
  }

whole-front : (e : Encoding) (d : List ℕ) → piece_characters (pieces_of e (d ++ [])) ≡ chars d ++ piece_characters (pieces_of e []) → chars d ≡ piece_characters (pieces_of e d)
whole-front e d h = sym (rw (append-nil d, pieces_of-nil e, append-nil (chars d)) at h)

-- Text is decoded to its characters.
pub text-decoded : (e : Encoding) (d : List ℕ) → IsText e d → chars d ≡ piece_characters (pieces_of e d)
text-decoded windows_1252 d h = whole-front windows_1252 d (characters-ascii d [] h)
text-decoded utf_8 d h = whole-front utf_8 d (characters-text d [] (IsUtf8-from_well_formed d h))
text-decoded utf_16le d h = absurd h
text-decoded utf_16be d h = absurd h

-- This holds if the result is an error.
pub at-error : {X E : Type 0} {P : Type 0} (r : Result X E) → P → OnErr r P
at-error (Ok x) h = tt
at-error (Err e) h = h

-- ---- The steps of decoding: the decoded text and the characters of the rest make `all`.

-- Nothing is left.
pub decoded-all : (e : Encoding) (text rest all : List ℕ) → text ++ piece_characters (pieces_of e rest) ≡ all → length rest ≡ 0 → text ≡ all
decoded-all e text rest all joins h = sym (append-nil text) ∙ rw (nil_from_length rest h, pieces_of-nil e) at joins

-- Characters are appended.
pub decoded-more : (old new cs text rest all : List ℕ) → IsUtf8 old → scalars cs ≡ true → new ≡ old ++ encode_utf8_all cs → text ≡ cs ++ rest
    → chars old ++ text ≡ all → IsUtf8 new × (chars new ++ rest ≡ all)
decoded-more old new cs text rest all u s e split joins = (
  rw e (IsUtf8-append old (encode_utf8_all cs) u (cs, (s, refl))),
  rw (e, chars-append old (encode_utf8_all cs) u, chars-encodes cs s, append_assoc (chars old) cs rest, ← split) joins,
)

-- A text with one more character.
pub chars-more : (old new : List ℕ) (c : ℕ) → IsUtf8 old → IsScalar c → new ≡ old ++ encode_utf8 c → chars new ≡ chars old ++ c ∷ []
chars-more old new c u h e =
    let own : chars (encode_utf8 c) ≡ c ∷ [] = ap chars (sym (append-nil (encode_utf8 c))) ∙ chars-encodes (c ∷ []) (and_from (is_scalar c) true h refl) in
    ap chars e ∙ chars-append old (encode_utf8 c) u ∙ ap (λ v. chars old ++ v) own

-- The first piece is decoded, and appended.
pub decoded-one : (e : Encoding) (old new all : List ℕ) (b : ℕ) (d : List ℕ) (c n : ℕ) → IsUtf8 old → IsScalar c → new ≡ old ++ encode_utf8 c
    → chars old ++ piece_characters (pieces_of e (b ∷ d)) ≡ all → c ≡ (first_piece e b d).character → n ≡ length (first_piece e b d).bytes
    → IsUtf8 new × (chars new ++ piece_characters (pieces_of e (drop n (b ∷ d))) ≡ all)
decoded-one e old new all b d c n u s h joins k l =
    let step : piece_characters (pieces_of e (b ∷ d)) ≡ c ∷ piece_characters (pieces_of e (drop n (b ∷ d))) = rw (k, l) (characters-step e b d) in
    decoded-more old new (c ∷ []) _ _ all u (and_from (is_scalar c) true s refl) (rw (append-nil (encode_utf8 c)) h) step joins

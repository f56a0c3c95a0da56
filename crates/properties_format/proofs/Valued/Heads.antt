-- The head of a line: the bytes of the characters up to a position in its text. There is only one such head.
use Rattle.std.proofs.Common.{◌≡◌, ◌⊎◌, ◌<◌, ℕ, true, List, [], ◌∷◌, ◌++◌, length, take, refl, ap, sym, ◌∙◌, inl, inr, arith, append_assoc, append-nil, length-append, lit<}
use Rattle.std.proofs.lemmas.List.{append_cancel_right}
use Rattle.properties_format.specs.Text.{backslash, Piece, piece_characters}
use Rattle.properties_format.specs.Encoding.{Encoding, IsPieces, IsAligned, ascii_bytes}
use Rattle.properties_format.specs.Computed.Encoding.{pieces_of}
use Rattle.properties_format.specs.Computed.Cut.{decoded_line}
use Rattle.properties_format.specs.Edited.{is_editable}
use Rattle.properties_format.specs.Computed.Valued.{pieces_bytes, head_of}
use Rattle.properties_format.proofs.Encodings.Pieces.{pieces_of-meets, pieces_of-only}
use Rattle.properties_format.proofs.Encodings.PieceEnds.{piece-less}
use Rattle.properties_format.proofs.Encodings.Cuts.{cut-at_ascii, characters-cut_ascii}
use Rattle.properties_format.proofs.Cut.Byline.{nothing-decoded}

-- ---- the bytes of the characters at the front of a line

-- In an encoding that can be edited, every byte is at a unit's boundary.
pub aligned-editable : (e : Encoding) (d : List ℕ) → is_editable e ≡ true → IsAligned e d
aligned-editable e d h = grind (arith)

-- Bytes that are cut after these pieces: the head has the bytes of these pieces, and the rest has those of the others.
record IsCutAfter (e : Encoding) (d : List ℕ) (ps : List Piece) (x y : List ℕ) : Type 0 where
  tail : List ℕ
  joins : d ≡ pieces_bytes ps ++ tail
  front : IsPieces e (pieces_bytes ps) ps
  front_text : piece_characters ps ≡ x
  back : List Piece
  are_back : IsPieces e tail back
  back_text : piece_characters back ≡ y

-- If the characters of pieces are two texts, one after the other, the pieces may be cut between the two.
cut-pieces : (e : Encoding) (d : List ℕ) (ps : List Piece) (x y : List ℕ) → is_editable e ≡ true → IsPieces e d ps → piece_characters ps ≡ x ++ y
    → IsCutAfter e d (take (length x) ps) x y
cut-pieces e d ps [] y ok h s = record { tail = d; joins = refl; front = refl; front_text = refl; back = ps; are_back = h; back_text = s }
cut-pieces e d [] (c ∷ x) y ok h s = absurd (cc)
cut-pieces e d (p ∷ ps) (c ∷ x) y ok (rest, t, h, k) s =
    let a : p.character ≡ c = cc in
    let b : piece_characters ps ≡ x ++ y = cc in
    grind (arith, cut-pieces e rest ps x y ok k b, append_assoc, piece-less, aligned-editable)

-- The bytes of a line, cut where its text is cut: the head decodes to the first text, the rest to the second.
pub record IsHeadOf (e : Encoding) (d x y head : List ℕ) : Type 0 where
  pub tail : List ℕ
  pub joins : d ≡ head ++ tail
  pub head_text : decoded_line e head ≡ x
  pub tail_text : decoded_line e tail ≡ y

-- The bytes of this many characters are such a head.
pub head_of-meets : (e : Encoding) (d x y : List ℕ) → is_editable e ≡ true → decoded_line e d ≡ x ++ y → IsHeadOf e d x y (head_of e (length x) d)
head_of-meets e d x y ok s =
    let m = cut-pieces e d (pieces_of e d) x y ok (pieces_of-meets e d) s in
    grind (arith, pieces_of-only)

-- ---- there is only one such head

-- the text ends in an ASCII character
abbrev pub EndsInAscii : List ℕ → Type 0
EndsInAscii x = (w : List ℕ) × (c : ℕ) × (x ≡ w ++ c ∷ []) × (c < 0x80)

-- Only the bytes of an ASCII character decode to it.
pub ascii-own : (e : Encoding) (c : ℕ) → is_editable e ≡ true → ascii_bytes e c ≡ c ∷ []
ascii-own e c h = grind (arith)

-- Bytes whose text ends in an ASCII character end in that character, and the bytes before it decode to the text before
-- it.
pub record EndsAscii (e : Encoding) (d w : List ℕ) (c : ℕ) : Type 0 where
  pub front : List ℕ
  pub bytes : d ≡ front ++ c ∷ []
  pub text : decoded_line e front ≡ w

-- Bytes whose text ends in an ASCII character are of this form.
pub ascii-end : (e : Encoding) (d w : List ℕ) (c : ℕ) → is_editable e ≡ true → c < 0x80 → decoded_line e d ≡ w ++ c ∷ [] → EndsAscii e d w c
ascii-end e d w c ok l s = grind (arith, cut-at_ascii, nothing-decoded)

-- The text of bytes that contain an ASCII character.
pub ascii-among : (e : Encoding) (u : List ℕ) (c : ℕ) (v : List ℕ) → is_editable e ≡ true → c < 0x80
    → decoded_line e (u ++ c ∷ v) ≡ decoded_line e u ++ c ∷ decoded_line e v
ascii-among e u c v ok l = ap (λ z. decoded_line e (u ++ (z ++ v))) (sym (ascii-own e c ok)) ∙ characters-cut_ascii e c u v l (aligned-editable e u ok)

-- A text isn't equal to itself with more after it.
no-more : (x : List ℕ) (c : ℕ) (y : List ℕ) → x ≡ x ++ c ∷ y → ⊥
no-more x c y h = absurd (omega (arith, ap length h, length-append x (c ∷ y)))

-- Two fronts of the same bytes, each before the same character, with the same text.
same-fronts : (e : Encoding) (u v : List ℕ) (c : ℕ) (y z : List ℕ) → is_editable e ≡ true → c < 0x80 → u ++ c ∷ y ≡ v ++ c ∷ z
    → (w : List ℕ) → decoded_line e (w ++ u) ≡ decoded_line e (w ++ v) → u ≡ v
same-fronts e [] [] c y z ok l s w h = refl
same-fronts e [] (d ∷ v) c y z ok l s w h = grind (arith, append-nil, ascii-among, no-more)
same-fronts e (d ∷ u) [] c y z ok l s w h = grind (arith, append-nil, ascii-among, no-more)
same-fronts e (b ∷ u) (d ∷ v) c y z ok l s w h =
    let k : b ≡ d = cc in
    let r : u ++ c ∷ y ≡ v ++ c ∷ z = cc in
    search (
      same-fronts e u v c y z ok l r (w ++ b ∷ [])
          (ap (decoded_line e) (append_assoc w (b ∷ []) u) ∙ h ∙ ap (λ p. decoded_line e (w ++ p ∷ v)) (sym k) ∙ ap (decoded_line e) (sym (append_assoc w (b ∷ []) v))),
      append_assoc,
    )

-- Two heads with the same text, which ends in an ASCII character.
heads-ascii : (e : Encoding) (d x y a b : List ℕ) → is_editable e ≡ true → EndsInAscii x → IsHeadOf e d x y a → IsHeadOf e d x y b → a ≡ b
heads-ascii e d x y a b ok (w, c, s, l) h k =
    let m = ascii-end e a w c ok l (h.head_text ∙ s) in
    let n = ascii-end e b w c ok l (k.head_text ∙ s) in
    let t : m.front ++ c ∷ h.tail ≡ n.front ++ c ∷ k.tail = grind (arith, append_assoc) in
    m.bytes ∙ ap (λ v. v ++ c ∷ []) (same-fronts e m.front n.front c h.tail k.tail ok l t [] (m.text ∙ sym n.text)) ∙ sym n.bytes

-- Two heads before the same bytes.
heads-before : (d a b t : List ℕ) → d ≡ a ++ t → d ≡ b ++ t → a ≡ b
heads-before d a b t h k = append_cancel_right a b t (sym h ∙ k)

-- Only a backslash decodes to a backslash.
pub backslash-own : (e : Encoding) (d : List ℕ) → is_editable e ≡ true → decoded_line e d ≡ backslash ∷ [] → d ≡ backslash ∷ []
backslash-own e d ok s =
    let m = ascii-end e d [] backslash ok (lit< tt) s in
    m.bytes ∙ ap (λ v. v ++ backslash ∷ []) (nothing-decoded e m.front m.text)

-- what is left of the text is nothing or a backslash
abbrev pub IsLittle : List ℕ → Type 0
IsLittle y = (y ≡ []) ⊎ (y ≡ backslash ∷ [])

-- Two heads with the same text are equal, if the text ends in an ASCII character or at most a backslash is left.
pub heads-same : (e : Encoding) (d x y a b : List ℕ) → is_editable e ≡ true → EndsInAscii x ⊎ IsLittle y → IsHeadOf e d x y a → IsHeadOf e d x y b → a ≡ b
heads-same e d x y a b ok (inl i) h k = heads-ascii e d x y a b ok i h k
heads-same e d x y a b ok (inr (inl s)) h k =
    heads-before d a b [] (h.joins ∙ ap (λ v. a ++ v) (nothing-decoded e h.tail (h.tail_text ∙ s)))
    (k.joins ∙ ap (λ v. b ++ v) (nothing-decoded e k.tail (k.tail_text ∙ s)))
heads-same e d x y a b ok (inr (inr s)) h k =
    heads-before d a b (backslash ∷ []) (h.joins ∙ ap (λ v. a ++ v) (backslash-own e h.tail ok (h.tail_text ∙ s)))
    (k.joins ∙ ap (λ v. b ++ v) (backslash-own e k.tail ok (k.tail_text ∙ s)))

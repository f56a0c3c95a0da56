-- Where a cut of a group's logical line is among the bytes of the group.
use Rattle.std.proofs.Common.{◌≡◌, ◌≢◌, ◌<◌, ◌≤◌, ℕ, zero, suc, ◌+◌, ◌-◌, ◌==◌, Bool, true, false, List, [], ◌∷◌, ◌++◌, length, take, drop, get_or, refl, inl, inr, ap, ap₂, sym, ◌∙◌, subst, arith, append-nil, length-append, lit<}
use Rattle.std.specs.Prelude.{◌⊎◌, min, not, nat_le}
use Rattle.std.proofs.lemmas.Bool.{cases_Bool, cond-true, cond-false}
use Rattle.std.proofs.lemmas.Bool.Decides.{nat_tests}
use Rattle.std.proofs.lemmas.List.{drop_more, drop_all, drop-drop, length-drop, length-take-le, take-append-drop, take-append-le}
use Rattle.properties_format.specs.Text.{Piece, piece, piece_characters, backslash, is_blank, is_comment_sign, begins, without_leading_blanks}
use Rattle.std.specs.Str.{IsAscii, IsUtf8, chars}
use Rattle.std.proofs.lemmas.Str.Ascii.{IsAscii-cons, IsAscii-nil}
use Rattle.properties_format.specs.Encoding.{Encoding, utf_8}
use Rattle.properties_format.specs.Computed.Encoding.{first_piece, pieces_within, pieces_of}
use Rattle.properties_format.specs.Computed.Cut.{decoded_line}
use Rattle.properties_format.specs.Computed.Valued.{head_of, pieces_bytes, without_indent}
use Rattle.properties_format.specs.Edited.{is_editable}
use Rattle.properties_format.specs.Split.{AreBlanks}
use Rattle.properties_format.specs.Lines.{is_open, is_comment_line, without_last, without_open_backslash}
use Rattle.properties_format.proofs.Encodings.Characters.{pieces_of-ascii}
use Rattle.properties_format.proofs.Encodings.Cuts.{cut-at_ascii}
use Rattle.properties_format.proofs.Cut.Byline.{nothing-decoded}
use Rattle.properties_format.proofs.Groups.Open.{last_character, open-ends, is_open-backslash, is_open-other, without_last-push, without_open_backslash-closed}
use Rattle.properties_format.proofs.Split.Blanks.{without_leading_blanks-meets, without_leading_blanks-only}
use Rattle.properties_format.proofs.Valued.Heads.{ascii-own, ascii-among, ascii-end}
use Rattle.properties_format.specs.Encoding.{ascii_bytes}
use Rattle.properties_format.specs.Body.{HeldLine}
use Rattle.properties_format.proofs.Encodings.Cuts.{pieces_of-cut_ascii}
use Rattle.properties_format.proofs.Valued.Heads.{IsLittle, aligned-editable}
use Rattle.properties_format.proofs.Valued.Fronts.{indented, shut-whole}
use Rattle.properties_text.specs.Encoding.{encoding_of}
use Rattle.properties_lines.specs.Scanner.{raw_line_bytes}
use Rattle.properties_lines.specs.Private.HeldLines.{held_line, held_lines_left}
use Rattle.properties_editing.specs.declared.groups.GroupReader.{GroupReader}
use Rattle.properties_format.specs.Lines.{Ended}
use Rattle.properties_format.specs.Computed.Cut.{cut_of}
use Rattle.properties_format.specs.Computed.Body.{held_of}
use Rattle.properties_format.proofs.Encodings.Pieces.{first-meets, piece-length}
use Rattle.properties_format.proofs.Valued.Fronts.{AreDecoded, joined_by}
use Rattle.properties_lines.specs.declared.scanner.Scanner.{Scanner}
use Rattle.properties_editing.specs.declared.cuts.Cut as code
use Rattle.properties_editing.specs.Private.BodyGroups.{IsWithin, TakesHeldLine}
use Rattle.properties_editing.proofs.BodyGroups.{has-sizes}
use Rattle.properties_editing.specs.Private.BodyCuts.{Cut, adds, indent_size, cut_past_line, cut_at, placed}
use Rattle.properties_text.specs.Encoding.{IsFirstPiece}
use Rattle.properties_text.specs.declared.encoding.first_piece.FirstPiece.{FirstPiece}
use Rattle.properties_format.proofs.Body.Decoded.{decoded-nil}
use Rattle.properties_format.proofs.Encodings.Pieces.{pieces_of-nil}
use Rattle.properties_format.proofs.Encodings.WellFormed.{characters-text}
use Rattle.properties_format.proofs.Encodings.Waiting.{pieces_of-step}

-- ---- ASCII at the front

-- An ASCII byte at the front is a character by itself.
ascii-front : (e : Encoding) (b : ℕ) (d : List ℕ) → is_editable e ≡ true → b < 0x80 → pieces_of e (b ∷ d) ≡ piece (b ∷ []) b ∷ pieces_of e d
ascii-front e b d ok l =
    let own = ascii-own e b ok in
    ap (λ v. pieces_of e (v ++ d)) (sym own) ∙ pieces_of-ascii e b d l ∙ ap (λ v. piece v b ∷ pieces_of e d) own

-- So are some ASCII bytes.
decoded-ascii : (e : Encoding) (b y : List ℕ) → is_editable e ≡ true → IsAscii b → decoded_line e (b ++ y) ≡ b ++ decoded_line e y
decoded-ascii e [] y ok h = refl
decoded-ascii e (c ∷ b) y ok h = ap piece_characters (ascii-front e c (b ++ y) ok (h 0)) ∙ ap (λ v. c ∷ v) (decoded-ascii e b y ok (λ i. h (suc i)))

head-ascii : (e : Encoding) (b y : List ℕ) (n : ℕ) → is_editable e ≡ true → IsAscii b → head_of e (length b + n) (b ++ y) ≡ b ++ head_of e n y
head-ascii e [] y n ok h = let none : 0 + n ≡ n = omega arith in ap (λ m. head_of e m y) none
head-ascii e (c ∷ b) y n ok h =
    let more : length (c ∷ b) + n ≡ suc (length b + n) = omega arith in
    ap₂ (λ m ps. pieces_bytes (take m ps)) more (ascii-front e c (b ++ y) ok (h 0)) ∙ ap (λ v. c ∷ v) (head-ascii e b y n ok (λ i. h (suc i)))

-- ---- characters one by one

-- no bytes have no characters
head-nil : (e : Encoding) (n : ℕ) → head_of e n [] ≡ []
head-nil e zero = refl
head-nil e (suc n) = ap (λ ps. pieces_bytes (take (suc n) ps)) (pieces_of-nil e)

-- so many characters were passed, in so many bytes
pub record HasPassed (e : Encoding) (d : List ℕ) (wanted count size : ℕ) : Type 0 where
  pub counted : count + length (decoded_line e (drop size d)) ≡ length (decoded_line e d)
  pub sized : size + length (head_of e (wanted - count) (drop size d)) ≡ length (head_of e wanted d)
  pub few : count ≤ wanted
  pub within : size ≤ length d

-- one more is passed
pub passed-more : (e : Encoding) (d : List ℕ) (wanted count size : ℕ) (shown : FirstPiece) → HasPassed e d wanted count size → count < wanted → size < length d
    → IsFirstPiece e (get_or d size 0) (drop (size + 1) d) shown → shown.length ≤ 1 + length (drop (size + 1) d)
    → HasPassed e d wanted (count + 1) (size + shown.length)
passed-more e d wanted count size shown h few inside shows some =
    let b = get_or d size 0 in
    let rest = drop (size + 1) d in
    let more = shown.length in
    let is = shows.length_is in
    let at : drop size d ≡ b ∷ rest = drop_more d size 0 inside in
    let left : length rest ≡ length d - (size + 1) = length-drop (size + 1) d in
    let p : Piece = first_piece e b rest in
    let after : drop (size + more) d ≡ drop (length p.bytes) (b ∷ rest) = sym (drop-drop more size d) ∙ ap₂ drop is at in
    let step : pieces_of e (drop size d) ≡ p ∷ pieces_of e (drop (size + more) d) =
    ap (pieces_of e) at ∙ pieces_of-step e b rest ∙ ap (λ v. p ∷ pieces_of e v) (sym after) in
    let one : length (decoded_line e (drop size d)) ≡ suc (length (decoded_line e (drop (size + more) d))) = ap (λ ps. length (piece_characters ps)) step in
    let n : wanted - count ≡ suc (wanted - (count + 1)) = omega arith in
    let head : head_of e (wanted - count) (drop size d) ≡ p.bytes ++ head_of e (wanted - (count + 1)) (drop (size + more) d) =
    ap₂ (λ m ps. pieces_bytes (take m ps)) n step in
    let head_size : length (head_of e (wanted - count) (drop size d)) ≡ more + length (head_of e (wanted - (count + 1)) (drop (size + more) d)) =
    ap length head ∙ length-append p.bytes _ ∙ ap (λ m. m + length (head_of e (wanted - (count + 1)) (drop (size + more) d))) (sym is) in
    let counted = h.counted in
    let sized = h.sized in
    record {
      counted = omega arith;
      sized = omega arith;
      few = omega arith;
      within = omega arith;
    }

-- What was passed in the end.
pub record IsPassed (e : Encoding) (d : List ℕ) (wanted count size : ℕ) : Type 0 where
  pub counts : count ≡ min wanted (length (decoded_line e d))
  pub sizes : size ≡ length (head_of e wanted d)
  pub within : size ≤ length d

pub passed-all : (e : Encoding) (d : List ℕ) (wanted count size : ℕ) → HasPassed e d wanted count size → (wanted ≤ count) ⊎ (length d ≤ size)
    → IsPassed e d wanted count size
passed-all e d wanted count size h (inl enough) =
    let none : wanted - count ≡ 0 = omega arith in
    let head : length (head_of e (wanted - count) (drop size d)) ≡ 0 = ap (λ n. length (head_of e n (drop size d))) none in
    let counted = h.counted in
    let sized = h.sized in
    let few = h.few in
    record { counts = omega arith; sizes = omega arith; within = h.within }
passed-all e d wanted count size h (inr all) =
    let rest : drop size d ≡ [] = drop_all size d all in
    let head : length (head_of e (wanted - count) (drop size d)) ≡ 0 = ap length (ap (head_of e (wanted - count)) rest ∙ head-nil e (wanted - count)) in
    let text : length (decoded_line e (drop size d)) ≡ 0 = ap length (ap (decoded_line e) rest ∙ decoded-nil e) in
    let counted = h.counted in
    let sized = h.sized in
    let few = h.few in
    record { counts = omega arith; sizes = omega arith; within = h.within }

-- As many bytes as characters are wanted are ASCII, or all.
pub passed-ascii : (e : Encoding) (d : List ℕ) (wanted n : ℕ) → is_editable e ≡ true → n ≡ min wanted (length d) → IsAscii (take n d)
    → IsPassed e d wanted n n
passed-ascii e d wanted n ok m h =
    let p = take n d in
    let r = drop n d in
    let k = wanted - n in
    let whole : d ≡ p ++ r = sym (take-append-drop n d) in
    let size : length p ≡ n = length-take-le n d (omega arith) in
    let all : wanted ≡ length p + k = omega arith in
    let text : length (decoded_line e d) ≡ length p + length (decoded_line e r) =
    ap length (ap (decoded_line e) whole ∙ decoded-ascii e p r ok h) ∙ length-append p (decoded_line e r) in
    let head : length (head_of e wanted d) ≡ length p + length (head_of e k r) =
    ap length (ap₂ (head_of e) all whole ∙ head-ascii e p r k ok h) ∙ length-append p (head_of e k r) in
    elim (cases_Bool (nat_le wanted (length d))) [
      | inl t ↦
          let enough : wanted ≤ length d = grind (arith, nat_tests) in
          let none : k ≡ 0 = omega arith in
          let left : length (head_of e k r) ≡ 0 = ap (λ n. length (head_of e n r)) none in
          record { counts = omega arith; sizes = omega arith; within = omega arith }
      | inr f ↦
          let over : length d < wanted = grind (arith, nat_tests) in
          let none : r ≡ [] = drop_all n d (omega arith) in
          let left : length (head_of e k r) ≡ 0 = ap length (ap (head_of e k) none ∙ head-nil e k) in
          let rest : length (decoded_line e r) ≡ 0 = ap length (ap (decoded_line e) none ∙ decoded-nil e) in
          record { counts = omega arith; sizes = omega arith; within = omega arith }
    ]

-- ---- the characters of a text

pieces-less : (e : Encoding) (n : ℕ) (d : List ℕ) → length (pieces_within e n d) ≤ n
pieces-less e n [] = omega arith
pieces-less e zero (b ∷ d) = omega arith
pieces-less e (suc n) (b ∷ d) = let p : Piece = first_piece e b d in let m = pieces-less e n (drop (length p.bytes) (b ∷ d)) in omega arith

characters-size : (ps : List Piece) → length (piece_characters ps) ≡ length ps
characters-size [] = refl
characters-size (p ∷ ps) = ap suc (characters-size ps)

-- There are no more characters than bytes.
characters-less : (e : Encoding) (d : List ℕ) → length (decoded_line e d) ≤ length d
unfolding pieces_of
characters-less e d = let m = pieces-less e (length d) d in let n = characters-size (pieces_within e (length d) d) in omega arith

pub count-text : (text : List ℕ) (count : ℕ) → IsUtf8 text → count ≡ min (length text) (length (decoded_line utf_8 text)) → count ≡ length (chars text)
count-text text count u h =
    let same : decoded_line utf_8 text ≡ chars text =
    ap (decoded_line utf_8) (sym (append-nil text)) ∙ characters-text text [] u ∙ ap (λ v. chars text ++ v) (decoded-nil utf_8) ∙ append-nil (chars text) in
    let size : length (decoded_line utf_8 text) ≡ length (chars text) = ap length same in
    let less = characters-less utf_8 text in
    omega arith

-- ---- a line's bytes and its text

-- the kind has ASCII characters only
abbrev IsAsciiKind : (ℕ → Bool) → Type 0
IsAsciiKind kind = (c : ℕ) → kind c ≡ true → c < 0x80

blank-ascii : IsAsciiKind is_blank
blank-ascii c h = grind (arith)

blanks-ascii : (b : List ℕ) → AreBlanks b → IsAscii b
blanks-ascii [] h = IsAscii-nil
blanks-ascii (c ∷ b) h = IsAscii-cons c b (blank-ascii c h.0) (blanks-ascii b h.1)

sign-ascii : IsAsciiKind is_comment_sign
sign-ascii c h = grind (arith)

-- Bytes and their text begin alike with such a character.
begins-decoded : (kind : ℕ → Bool) → IsAsciiKind kind → (e : Encoding) (d : List ℕ) → is_editable e ≡ true → begins kind (decoded_line e d) ≡ begins kind d
begins-decoded kind k e [] ok = ap (begins kind) (decoded-nil e)
begins-decoded kind k e (b ∷ d) ok = elim (cases_Bool (kind b)) [
  | inl t ↦ ap (λ ps. begins kind (piece_characters ps)) (ascii-front e b d ok (k b t))
  | inr f ↦ other (decoded_line e (b ∷ d)) refl f
]
  where
    other : (text : List ℕ) → decoded_line e (b ∷ d) ≡ text → kind b ≡ false → begins kind text ≡ kind b
    other [] h f = sym f
    other (c ∷ x) h f = elim (cases_Bool (kind c)) [
      | inl t ↦
          let cut = cut-at_ascii e (b ∷ d) [] c x (k c t) h in
          let none : cut.0 ≡ [] = nothing-decoded e cut.0 cut.2.front in
          let same : b ∷ d ≡ c ∷ cut.1 = cut.2.joins ∙ ap₂ (λ v w. v ++ (w ++ cut.1)) none (ascii-own e c ok) in
          let one : b ≡ c = cc in
          absurd (cc (ap kind one))
      | inr n ↦ n ∙ sym f
    ]

-- The indentation of a line is the same in its bytes and in its text.
record IsIndentedAlike (e : Encoding) (first : Bool) (d : List ℕ) : Type 0 where
  indent : List ℕ
  whole : d ≡ indent ++ without_indent first d
  blank : AreBlanks indent
  rest : without_indent first (decoded_line e d) ≡ decoded_line e (without_indent first d)
  size : indent_size first (decoded_line e d) ≡ length indent
  bytes_size : indent_size first d ≡ length indent

indented-alike : (e : Encoding) (first : Bool) (d : List ℕ) → is_editable e ≡ true → IsIndentedAlike e first d
indented-alike e true d ok = record { indent = []; whole = refl; blank = tt; rest = refl; size = omega arith; bytes_size = omega arith }
indented-alike e false d ok =
    let p = without_leading_blanks-meets d in
    let y = without_leading_blanks d in
    let text : decoded_line e d ≡ p.before ++ decoded_line e y =
    ap (decoded_line e) p.whole ∙ decoded-ascii e p.before y ok (blanks-ascii p.before p.before_blank) in
    let full : begins is_blank (decoded_line e y) ≡ false = begins-decoded is_blank blank-ascii e y ok ∙ p.begins_full in
    let rest : without_leading_blanks (decoded_line e d) ≡ decoded_line e y =
    ap without_leading_blanks text ∙ without_leading_blanks-only p.before (decoded_line e y) p.before_blank full in
    let sizes : length (decoded_line e d) ≡ length p.before + length (decoded_line e y) = ap length text ∙ length-append p.before (decoded_line e y) in
    let left : length (without_leading_blanks (decoded_line e d)) ≡ length (decoded_line e y) = ap length rest in
    let bytes : length d ≡ length p.before + length y = ap length p.whole ∙ length-append p.before y in
    record { indent = p.before; whole = p.whole; blank = p.before_blank; rest = rest; size = omega arith; bytes_size = omega arith }

-- A comment line is one in its bytes.
comment-decoded : (e : Encoding) (d : List ℕ) → is_editable e ≡ true → is_comment_line (decoded_line e d) ≡ is_comment_line d
comment-decoded e d ok =
    let i = indented-alike e false d ok in
    ap (begins is_comment_sign) i.rest ∙ begins-decoded is_comment_sign sign-ascii e (without_leading_blanks d) ok

-- An ASCII byte at the end is a character by itself.
decoded-push : (e : Encoding) (y : List ℕ) (c : ℕ) → is_editable e ≡ true → c < 0x80 → decoded_line e (y ++ c ∷ []) ≡ decoded_line e y ++ c ∷ []
decoded-push e y c ok l = ascii-among e y c [] ok l ∙ ap (λ v. decoded_line e y ++ c ∷ v) (decoded-nil e)

abbrev last_of : List ℕ → ℕ
last_of [] = 0
last_of (c ∷ []) = c
last_of (c ∷ d ∷ x) = last_of (d ∷ x)

last_of-push : (x : List ℕ) (c : ℕ) → last_of (x ++ c ∷ []) ≡ c
last_of-push [] c = refl
last_of-push (b ∷ []) c = refl
last_of-push (b ∷ d ∷ x) c = last_of-push (d ∷ x) c

-- A line is open as its bytes are.
open-decoded : (e : Encoding) (n : ℕ) (d : List ℕ) → is_editable e ≡ true → length d < n → is_open (decoded_line e d) ≡ is_open d
open-decoded e zero d ok l = absurd (omega arith)
open-decoded e (suc n) d ok l = elim (last_character d) [
  | inl none ↦ ap is_open (ap (decoded_line e) none ∙ decoded-nil e ∙ sym none)
  | inr m ↦ elim (cases_Bool (m.1 == backslash)) [
    | inl t ↦
        let c : m.1 ≡ backslash = grind (arith, nat_tests) in
        let is : d ≡ m.0 ++ backslash ∷ [] = m.2 ∙ ap (λ v. m.0 ++ v ∷ []) c in
        let size : length d ≡ length m.0 + 1 = ap length is ∙ length-append m.0 (backslash ∷ []) in
        ap is_open (ap (decoded_line e) is ∙ decoded-push e m.0 backslash ok (lit< tt))
        ∙ is_open-backslash (decoded_line e m.0)
        ∙ ap not (open-decoded e n m.0 ok (omega arith))
        ∙ sym (ap is_open is ∙ is_open-backslash m.0)
    | inr f ↦ ends (last_character (decoded_line e d)) m.0 m.1 m.2 f ∙ sym (ap is_open m.2 ∙ is_open-other m.0 m.1 f)
  ]
]
  where
    ends : (decoded_line e d ≡ []) ⊎ ((y : List ℕ) × (c : ℕ) × (decoded_line e d ≡ y ++ c ∷ [])) → (x : List ℕ) (b : ℕ) → d ≡ x ++ b ∷ []
        → (b == backslash) ≡ false
        → is_open (decoded_line e d) ≡ false
    ends (inl none) x b h f = ap is_open none
    ends (inr m) x b h f = elim (cases_Bool (m.1 == backslash)) [
      | inl t ↦
          let c : m.1 ≡ backslash = grind (arith, nat_tests) in
          let end = ascii-end e d m.0 backslash ok (lit< tt) (m.2 ∙ ap (λ v. m.0 ++ v ∷ []) c) in
          let same : b ≡ backslash = cc (last_of-push x b, last_of-push end.front backslash, ap last_of (sym h ∙ end.bytes)) in
          absurd (grind (arith, nat_tests))
      | inr k ↦ ap is_open m.2 ∙ is_open-other m.0 m.1 k
    ]

-- What a line's bytes add is what its text adds.
shut-decoded : (e : Encoding) (d : List ℕ) → is_editable e ≡ true → without_open_backslash (decoded_line e d) ≡ decoded_line e (without_open_backslash d)
shut-decoded e d ok =
    let alike = open-decoded e (suc (length d)) d ok (omega arith) in
    elim (cases_Bool (is_open d)) [
      | inl t ↦
          let is = open-ends d t in
          let text : decoded_line e d ≡ decoded_line e (without_last d) ++ backslash ∷ [] =
          ap (decoded_line e) is ∙ decoded-push e (without_last d) backslash ok (lit< tt) in
          let opened : is_open (decoded_line e d) ≡ true = alike ∙ t in
          cond-true (is_open (decoded_line e d)) (without_last (decoded_line e d)) (decoded_line e d) opened
          ∙ ap without_last text
          ∙ without_last-push (decoded_line e (without_last d)) backslash
          ∙ ap (decoded_line e) (sym (cond-true (is_open d) (without_last d) d t))
      | inr f ↦ without_open_backslash-closed (decoded_line e d) (alike ∙ f) ∙ ap (decoded_line e) (sym (without_open_backslash-closed d f))
    ]

pub adds-decoded : (e : Encoding) (first : Bool) (d : List ℕ) → is_editable e ≡ true → adds first (decoded_line e d) ≡ decoded_line e (adds first d)
adds-decoded e true d ok =
    let alike = comment-decoded e d ok in
    elim (cases_Bool (is_comment_line d)) [
      | inl t ↦ let k : is_comment_line (decoded_line e d) ≡ true = alike ∙ t in rw (k, t) refl
      | inr f ↦ let k : is_comment_line (decoded_line e d) ≡ false = alike ∙ f in rw (k, f) (shut-decoded e d ok)
    ]
adds-decoded e false d ok =
    let i = indented-alike e false d ok in
    ap without_open_backslash i.rest ∙ shut-decoded e (without_leading_blanks d) ok

-- ---- the head of a line

-- A line without its indentation is what it adds, and a backslash if it is open.
pub record IsAddedPart (first : Bool) (d : List ℕ) : Type 0 where
  pub left : List ℕ
  pub whole : without_indent first d ≡ adds first d ++ left
  pub little : IsLittle left

shut-part : (y : List ℕ) → (o : List ℕ) × (y ≡ without_open_backslash y ++ o) × IsLittle o
shut-part y = elim (cases_Bool (is_open y)) [
  | inl t ↦ (backslash ∷ [], shut-whole y ∙ ap (λ v. without_open_backslash y ++ v) (cond-true (is_open y) (backslash ∷ []) [] t), inr refl)
  | inr f ↦ ([], shut-whole y ∙ ap (λ v. without_open_backslash y ++ v) (cond-false (is_open y) (backslash ∷ []) [] f), inl refl)
]

pub added-part : (first : Bool) (d : List ℕ) → IsAddedPart first d
added-part true d = let s = shut-part d in elim (cases_Bool (is_comment_line d)) [
  | inl t ↦ record { left = []; whole = rw t (sym (append-nil d)); little = inl refl }
  | inr f ↦ record { left = s.0; whole = rw f s.1; little = s.2 }
]
added-part false d = let s = shut-part (without_leading_blanks d) in record { left = s.0; whole = s.1; little = s.2 }

-- A backslash at the end doesn't change a head that is before it.
head-little : (e : Encoding) (n : ℕ) (m left : List ℕ) → is_editable e ≡ true → IsLittle left → n ≤ length (decoded_line e m)
    → head_of e n (m ++ left) ≡ head_of e n m
head-little e n m left ok (inl none) l = ap (head_of e n) (ap (λ v. m ++ v) none ∙ append-nil m)
head-little e n m left ok (inr one) l =
    let own = ascii-own e backslash ok in
    let pieces : pieces_of e (m ++ left) ≡ pieces_of e m ++ piece (ascii_bytes e backslash) backslash ∷ pieces_of e [] =
    ap (λ v. pieces_of e (m ++ v)) (one ∙ ap (λ v. v ++ []) (sym own)) ∙ pieces_of-cut_ascii e backslash m [] (lit< tt) (aligned-editable e m ok) in
    let size = characters-size (pieces_of e m) in
    ap pieces_bytes (ap (take n) pieces ∙ take-append-le n (pieces_of e m) _ (omega arith))

-- The head of a line is its indentation and the head of what it adds.
pub head-added : (e : Encoding) (first : Bool) (d : List ℕ) (n : ℕ) → is_editable e ≡ true → n ≤ length (adds first (decoded_line e d))
    → length (head_of e (indent_size first (decoded_line e d) + n) d) ≡ indent_size first d + length (head_of e n (adds first d))
head-added e first d n ok l =
    let i = indented-alike e first d ok in
    let a = added-part first d in
    let within : n ≤ length (decoded_line e (adds first d)) = subst (λ v. n ≤ length v) (adds-decoded e first d ok) l in
    let same : indent_size first (decoded_line e d) + n ≡ length i.indent + n = ap (λ m. m + n) i.size in
    let head : head_of e (indent_size first (decoded_line e d) + n) d ≡ i.indent ++ head_of e n (adds first d) =
    ap₂ (head_of e) same i.whole
    ∙ head-ascii e i.indent (without_indent first d) n ok (blanks-ascii i.indent i.blank)
    ∙ ap (λ v. i.indent ++ head_of e n v) a.whole
    ∙ ap (λ v. i.indent ++ v) (head-little e n (adds first d) a.left ok a.little within) in
    let sizes : length (head_of e (indent_size first (decoded_line e d) + n) d) ≡ length i.indent + length (head_of e n (adds first d)) =
    ap length head ∙ length-append i.indent (head_of e n (adds first d)) in
    let bytes_size = i.bytes_size in
    omega arith

-- What comes before a part of what a line adds is in the line.
pub head-inside : (first : Bool) (d : List ℕ) (size : ℕ) → size ≤ length (adds first d) → indent_size first d + size ≤ length d
head-inside first d size l =
    let a = added-part first d in
    let whole : length (without_indent first d) ≡ length (adds first d) + length a.left = ap length a.whole ∙ length-append (adds first d) a.left in
    let i = indented first d in
    let all : length d ≡ length i.indent + length (without_indent first d) = ap length i.whole ∙ length-append i.indent (without_indent first d) in
    omega arith

-- ---- a walk along lines

-- The reader is before lines that are cut after so many characters, where the lines of the first reader are cut.
pub record IsCutting (e : Encoding) (body : List ℕ) (count : ℕ) (from s : GroupReader) (first : Bool) (wanted : ℕ) : Type 0 where
  pub same : placed s.scanner.at s.scanner.passed (cut_at e first wanted (held_lines_left body s.scanner))
      ≡ placed from.scanner.at from.scanner.passed (cut_at e true count (held_lines_left body from.scanner))
  pub within : IsWithin body s
  pub encoding : encoding_of s.scanner.encoding ≡ e

abbrev pub made : ℕ → ℕ → ℕ → code.Cut
made number start at = record { number = number; line_start = start; at = at }

same-cut : {n1 n2 s1 s2 a1 a2 : ℕ} → n1 ≡ n2 → s1 ≡ s2 → a1 ≡ a2
    → made n1 s1 a1 ≡ made n2 s2 a2
same-cut h k m = rw (h, k, m) refl

-- the cut is in the first line, or past it
pub cut-here : (e : Encoding) (first : Bool) (n : ℕ) (h : HeldLine) (hs : List HeldLine) → n ≤ length (adds first h.text)
    → cut_at e first n (h ∷ hs) ≡ record { line = 1; before = 0; head = length (head_of e (indent_size first h.text + n) h.bytes) }
cut-here e first n h hs l = let t : nat_le n (length (adds first h.text)) ≡ true = grind (arith, nat_tests) in rw (t, cut_at) refl

pub cut-past : (e : Encoding) (first : Bool) (n : ℕ) (h : HeldLine) (hs : List HeldLine) → length (adds first h.text) < n
    → cut_at e first n (h ∷ hs) ≡ cut_past_line h (cut_at e false (n - length (adds first h.text)) hs)
cut-past e first n h hs l = let t : nat_le n (length (adds first h.text)) ≡ false = grind (arith, nat_tests) in rw (t, cut_at) refl

-- The line that was taken, first of those that are left.
line-left : {e : Encoding} {body : List ℕ} {old new : GroupReader} (k : TakesHeldLine body old new) → encoding_of old.scanner.encoding ≡ e
    → held_lines_left body old.scanner ≡ held_line e body new.scanner.line k.ending ∷ held_lines_left body new.scanner
line-left {e} {body} {old} {new} k same = k.lines ∙ ap (λ v. held_line v body new.scanner.line k.ending ∷ held_lines_left body new.scanner) same

-- The cut is in the line that was taken.
pub cutting-found : {e : Encoding} {body : List ℕ} {count : ℕ} {from old new : GroupReader} {first : Bool} {wanted : ℕ} (passed size : ℕ) → is_editable e ≡ true
    → IsCutting e body count from old first wanted → TakesHeldLine body old new
    → passed ≡ min wanted (length (decoded_line e (adds first (raw_line_bytes body new.scanner.line)))) → passed ≡ wanted
    → size ≡ length (head_of e wanted (adds first (raw_line_bytes body new.scanner.line)))
    → made new.scanner.passed new.scanner.line.start (new.scanner.line.start + (indent_size first (raw_line_bytes body new.scanner.line) + size))
    ≡ placed from.scanner.at from.scanner.passed (cut_at e true count (held_lines_left body from.scanner))
cutting-found {e} {body} {count} {from} {old} {new} {first} {wanted} passed size ok w k counted all sized =
    let d = raw_line_bytes body new.scanner.line in
    let h : HeldLine = held_line e body new.scanner.line k.ending in
    let text : length (adds first h.text) ≡ length (decoded_line e (adds first d)) = ap length (adds-decoded e first d ok) in
    let within : wanted ≤ length (adds first h.text) = omega arith in
    let head = head-added e first d wanted ok within in
    let here : cut_at e first wanted (held_lines_left body old.scanner)
    ≡ record { line = 1; before = 0; head = length (head_of e (indent_size first h.text + wanted) h.bytes) } =
    ap (cut_at e first wanted) (line-left k w.encoding) ∙ cut-here e first wanted h (held_lines_left body new.scanner) within in
    let number = k.passed in
    let starts = k.starts in
    same-cut (omega arith) (omega arith) (omega arith) ∙ ap (placed old.scanner.at old.scanner.passed) (sym here) ∙ w.same

-- The cut is after the line that was taken.
pub cutting-on : {e : Encoding} {body : List ℕ} {count : ℕ} {from old new : GroupReader} {first : Bool} {wanted : ℕ} (passed : ℕ) → is_editable e ≡ true
    → IsCutting e body count from old first wanted → TakesHeldLine body old new
    → passed ≡ min wanted (length (decoded_line e (adds first (raw_line_bytes body new.scanner.line)))) → passed ≢ wanted
    → IsCutting e body count from new false (wanted - passed)
cutting-on {e} {body} {count} {from} {old} {new} {first} {wanted} passed ok w k counted differ =
    let d = raw_line_bytes body new.scanner.line in
    let h : HeldLine = held_line e body new.scanner.line k.ending in
    let text : length (adds first h.text) ≡ length (decoded_line e (adds first d)) = ap length (adds-decoded e first d ok) in
    let less : length (adds first h.text) < wanted = omega arith in
    let left : wanted - length (adds first h.text) ≡ wanted - passed = omega arith in
    let rest = cut_at e false (wanted - passed) (held_lines_left body new.scanner) in
    let on : cut_at e first wanted (held_lines_left body old.scanner) ≡ cut_past_line h rest =
    ap (cut_at e first wanted) (line-left k w.encoding) ∙ cut-past e first wanted h (held_lines_left body new.scanner) less
    ∙ ap (λ n. cut_past_line h (cut_at e false n (held_lines_left body new.scanner))) left in
    let sizes = has-sizes body old new k in
    let line = sizes.line in
    let ending = sizes.ending_size in
    let number = k.passed in
    let starts = k.starts in
    let ordered = k.ordered in
    let after = k.placed in
    record {
      same = same-cut (omega arith) (omega arith) (omega arith) ∙ ap (placed old.scanner.at old.scanner.passed) (sym on) ∙ w.same;
      within = k.within;
      encoding = k.encoding ∙ w.encoding;
    }

-- ---- a cut behind a character

-- the lines are decoded to their texts
decoded-held : (e : Encoding) (ls : List Ended) (last : List ℕ) → AreDecoded e (held_of e ls last)
decoded-held e [] last = (refl, tt)
decoded-held e (l ∷ ls) last = (refl, decoded-held e ls last)

pub decoded-left : (body : List ℕ) (s : Scanner) → AreDecoded (encoding_of s.encoding) (held_lines_left body s)
decoded-left body s =
    let e = encoding_of s.encoding in
    let cut = cut_of e (drop s.at body) in
    elim (cases_Bool s.is_done) [
      | inl k ↦ rw k tt
      | inr k ↦ rw k (decoded-held e cut.ended cut.last)
    ]

pub decoded-front : (e : Encoding) (g rest : List HeldLine) → AreDecoded e (g ++ rest) → AreDecoded e g
decoded-front e [] rest h = tt
decoded-front e (l ∷ g) rest h = (h.0, decoded-front e g rest h.1)

-- The first characters of some bytes have bytes.
head-some : (e : Encoding) (m : ℕ) (d : List ℕ) → 1 ≤ m → 1 ≤ length (decoded_line e d) → 1 ≤ length (head_of e m d)
head-some e zero d l some = absurd (omega arith)
head-some e (suc m) [] l some = let none : length (decoded_line e []) ≡ 0 = ap length (decoded-nil e) in absurd (omega arith)
head-some e (suc m) (b ∷ d) l some =
    let p : Piece = first_piece e b d in
    let meets = first-meets e b d in
    let longer = piece-length e p meets.0 meets.2 in
    let size = length-append p.bytes meets.0 in
    let rest = drop (length p.bytes) (b ∷ d) in
    let head : head_of e (suc m) (b ∷ d) ≡ p.bytes ++ head_of e m rest = ap (λ ps. pieces_bytes (take (suc m) ps)) (pieces_of-step e b d) in
    let sizes : length (head_of e (suc m) (b ∷ d)) ≡ length p.bytes + length (head_of e m rest) = ap length head ∙ length-append p.bytes (head_of e m rest) in
    omega arith

head-here : (e : Encoding) (first : Bool) (n : ℕ) (h : HeldLine) (hs : List HeldLine) → AreDecoded e (h ∷ hs) → 1 ≤ n → n ≤ length (adds first h.text)
    → 1 ≤ (cut_at e first n (h ∷ hs)).head
head-here e first n h hs d some within =
    let inside = head-inside first h.text n within in
    let text : length (decoded_line e h.bytes) ≡ length h.text = ap length d.0 in
    subst (λ c. let w : Cut = c in 1 ≤ w.head) (sym (cut-here e first n h hs within))
    (head-some e (indent_size first h.text + n) h.bytes (omega arith) (omega arith))

-- A cut behind a character isn't at the start of a line.
pub cut-head : (e : Encoding) (first : Bool) (n : ℕ) (h : HeldLine) (hs : List HeldLine) → AreDecoded e (h ∷ hs) → 1 ≤ n
    → n ≤ length (adds first h.text ++ joined_by false hs) → 1 ≤ (cut_at e first n (h ∷ hs)).head
cut-head e first n h [] d some l =
    let none : length (adds first h.text ++ []) ≡ length (adds first h.text) = ap length (append-nil (adds first h.text)) in
    head-here e first n h [] d some (omega arith)
cut-head e first n h (i ∷ is) d some l =
    let sizes : length (adds first h.text ++ joined_by false (i ∷ is)) ≡ length (adds first h.text) + length (joined_by false (i ∷ is)) =
    length-append (adds first h.text) (joined_by false (i ∷ is)) in
    elim (cases_Bool (nat_le n (length (adds first h.text)))) [
      | inl k ↦ head-here e first n h (i ∷ is) d some (grind (arith, nat_tests))
      | inr k ↦ let over : length (adds first h.text) < n = grind (arith, nat_tests) in
          subst (λ c. let w : Cut = c in 1 ≤ w.head) (sym (cut-past e first n h (i ∷ is) over))
          (cut-head e false (n - length (adds first h.text)) i is d.1 (omega arith) (omega arith))
    ]

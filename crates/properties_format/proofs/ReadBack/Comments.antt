-- A printed comment is a line of its own, and is read as what follows its prefix's comment sign and its text, without
-- the blanks at both ends.
use Rattle.std.proofs.Common.{rules, ◌≡◌, ◌⊎◌, ℕ, ◌<◌, ◌==◌, true, false, List, [], ◌∷◌, ◌++◌, map, refl, ap, sym, ◌∙◌, append_assoc, ap₂, subst, arith}
use Rattle.std.specs.List.{AllByRecursion}
use Rattle.std.proofs.lemmas.Bool.{cond-true}
use Rattle.properties_format.specs.Text.{scalar, backslash, is_line_ending, is_comment_sign}
use Rattle.properties_format.specs.Encoding.{Repertoire}
use Rattle.properties_format.specs.Lines.{HoldsNoLineEnding, is_comment_line}
use Rattle.properties_format.specs.Split.{AreBlanks}
use Rattle.properties_format.specs.Computed.Split.{trimmed}
use Rattle.properties_format.specs.Escapes.{Spelling, itself, spelling_text, spelling_character, spellings_before}
use Rattle.properties_format.specs.Items.{comment}
use Rattle.properties_format.specs.Settings.{IsGoodPrefix}
use Rattle.properties_format.specs.Printing.{in_comment, in_prefix, unicode_escape, may_be_unescaped, literal, printed_characters}
use Rattle.properties_format.specs.Writing.{tail_of, HoldsNoBackslash}
use Rattle.properties_format.proofs.Lines.Plain.{plain-append}
use Rattle.properties_format.proofs.Split.Unique.{split_of-comment, sign-full}
use Rattle.properties_format.proofs.Escapes.Laws.{AreWhole}
use Rattle.properties_format.proofs.Escapes.Trimmed.{AllKeepBlanks, meaning_of-trimmed}
use Rattle.properties_format.proofs.Settings.Tests.{tail_of-good}
use Rattle.properties_format.proofs.Printing.Characters.{may_be_unescaped-ascii, blank-ascii}
use Rattle.properties_format.proofs.ReadBack.Spellings.{IsSafe, IsPlainlyPrinted, literal-plainly, in_comment-printed}
use Rattle.properties_format.proofs.ReadBack.Texts.{safe-plain, rest-scalars}
use Rattle.properties_format.proofs.ReadBack.Pairs.{IsReadAs, blanks-plain, cons-front}

-- x is plainly spelt for y: it is the text of whole spellings of y that keep blanks, and contains no line ending.
record ArePlainlyPrinted (x y : List ℕ) : Type 0 where
  spellings : List Spelling
  text : x ≡ spellings_before spellings []
  characters : map spelling_character spellings ≡ y
  whole : AreWhole spellings
  keep : AllKeepBlanks spellings
  plain : HoldsNoLineEnding x

-- ---- one more character at the front

-- It contains no line ending.
plainly-plain : (c : ℕ) (p : Spelling) → IsSafe p ⊎ ((p ≡ itself c) × ((c == backslash) ≡ false) × (is_line_ending c ≡ false)) → HoldsNoLineEnding (spelling_text p)
plainly-plain c p h = grind (arith, safe-plain)

-- A plainly spelt character before a plainly spelt text.
plainly-cons : (x y : List ℕ) (c : ℕ) (cs : List ℕ) → IsPlainlyPrinted x c → ArePlainlyPrinted y cs → ArePlainlyPrinted (x ++ y) (c ∷ cs)
plainly-cons x y c cs s t =
    record {
      spellings = s.spelling ∷ t.spellings;
      text = ap₂ (λ v w. v ++ w) s.text t.text;
      characters = ap₂ (λ v w. v ∷ w) s.character t.characters;
      whole = (search (rules), t.whole);
      keep = (s.keeps, t.keep);
      plain = plain-append x y (subst HoldsNoLineEnding (sym s.text) (plainly-plain c s.spelling s.safe)) t.plain;
    }

-- ---- the text of a comment, and the tail of a prefix before it

-- What is printed for the text of a comment is plainly spelt.
comment-plainly : (r : Repertoire) (x : List ℕ) → AllByRecursion scalar x → ArePlainlyPrinted (printed_characters r in_comment x) x
comment-plainly r [] h = record { spellings = []; text = refl; characters = refl; whole = tt; keep = tt; plain = tt }
comment-plainly r (c ∷ x) h = search (rules, plainly-cons, in_comment-printed, comment-plainly r x h.1)

-- The tail of a prefix without a backslash, before a plainly spelt text, is plainly spelt.
tail-plainly : (r : Repertoire) (tail y cs : List ℕ) → AllByRecursion scalar tail → HoldsNoBackslash tail → HoldsNoLineEnding tail
    → ArePlainlyPrinted y cs → ArePlainlyPrinted (printed_characters r in_prefix tail ++ y) (tail ++ cs)
tail-plainly r [] y cs h b p s = s
tail-plainly r (c ∷ tail) y cs h b p s = search (rules, append_assoc, plainly-cons, literal-plainly, tail-plainly r tail y cs h.1 b.1 p.1 s)

-- ---- the prefix

-- An ASCII character is printed unescaped.
pub literal-ascii : (r : Repertoire) (c : ℕ) → c < 0x80 → literal r c ≡ c ∷ []
literal-ascii r c h = cond-true (may_be_unescaped r c) (c ∷ []) (unicode_escape c) (may_be_unescaped-ascii r c h)

-- A comment sign is ASCII, and isn't a line ending.
pub sign-ascii : (c : ℕ) → is_comment_sign c ≡ true → (c < 0x80) × (is_line_ending c ≡ false)
sign-ascii c h = (grind (arith), grind (arith))

-- The blanks and the comment sign of a prefix are printed unescaped.
pub prefix-printed : (r : Repertoire) (indent : List ℕ) (sign : ℕ) (tail : List ℕ) → AreBlanks indent → is_comment_sign sign ≡ true
    → printed_characters r in_prefix (indent ++ (sign ∷ tail)) ≡ indent ++ (sign ∷ printed_characters r in_prefix tail)
prefix-printed r [] sign tail b m = ap (λ v. v ++ printed_characters r in_prefix tail) (literal-ascii r sign (sign-ascii sign m).0)
prefix-printed r (c ∷ indent) sign tail b m = grind (arith, literal-ascii, blank-ascii, prefix-printed r indent sign tail b.1 m)

-- The rest of a text without a backslash contains none.
pub slashes-right : (x y : List ℕ) → HoldsNoBackslash (x ++ y) → HoldsNoBackslash y
slashes-right [] y h = h
slashes-right (c ∷ x) y h = slashes-right x y h.1

-- ---- the line of a comment

-- Blanks followed by a comment sign begin a comment line.
comment_line-after : (indent : List ℕ) (sign : ℕ) (rest : List ℕ) → AreBlanks indent → is_comment_sign sign ≡ true
    → is_comment_line (indent ++ (sign ∷ rest)) ≡ true
comment_line-after [] sign rest b m = rw (sign-full sign m) m
comment_line-after (c ∷ indent) sign rest b m = rw b.0 (comment_line-after indent sign rest b.1 m)

-- Blanks, a comment sign and a plainly spelt text are read as the comment that is spelt, without the blanks at its
-- ends.
comment-at : (indent : List ℕ) (sign : ℕ) (rest content : List ℕ) → AreBlanks indent → is_comment_sign sign ≡ true → ArePlainlyPrinted rest content
    → IsReadAs (indent ++ (sign ∷ rest)) (comment (trimmed content))
comment-at indent sign rest content b m s = grind (arith, cons-front, plain-append, blanks-plain, comment_line-after, split_of-comment, meaning_of-trimmed)

-- A comment under a good prefix without a backslash.
pub comment-read : (r : Repertoire) (prefix text : List ℕ) → IsGoodPrefix prefix → HoldsNoBackslash prefix → AllByRecursion scalar prefix
    → AllByRecursion scalar text
    → IsReadAs (printed_characters r in_prefix prefix ++ printed_characters r in_comment text) (comment (trimmed (tail_of prefix ++ text)))
comment-read r prefix text g b h k =
    let front = g.indent ++ (g.sign ∷ []) in
    let split : prefix ≡ front ++ g.tail = g.division ∙ sym (append_assoc g.indent (g.sign ∷ []) g.tail) in
    let scalars = rest-scalars front g.tail (subst (AllByRecursion scalar) split h) in
    let slashes = slashes-right front g.tail (subst HoldsNoBackslash split b) in
    let rest = printed_characters r in_prefix g.tail ++ printed_characters r in_comment text in
    let read = comment-at g.indent g.sign rest (g.tail ++ text) g.indented g.signed
    (tail-plainly r g.tail (printed_characters r in_comment text) text scalars slashes g.one_line (comment-plainly r text k)) in
    let same : printed_characters r in_prefix prefix ++ printed_characters r in_comment text ≡ g.indent ++ (g.sign ∷ rest) = grind (arith, prefix-printed, append_assoc) in
    subst (λ v. IsReadAs v (comment (trimmed (tail_of prefix ++ text)))) (sym same)
    (subst (λ v. IsReadAs (g.indent ++ (g.sign ∷ rest)) (comment (trimmed (v ++ text)))) (sym (tail_of-good prefix g)) read)

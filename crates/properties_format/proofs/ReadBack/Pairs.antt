-- A printed pair is a line of its own, and is read as that pair.
use Rattle.std.proofs.Common.{rules, ◌≡◌, ◌≢◌, ℕ, ◌&&◌, Bool, false, List, [], ◌∷◌, ◌++◌, map, refl, ap, sym, ◌∙◌, inl, inr, append_assoc, ap₂, arith}
use Rattle.std.specs.List.{AllByRecursion}
use Rattle.std.proofs.lemmas.Bool.{cond_both}
use Rattle.properties_format.specs.Text.{scalar, is_blanks}
use Rattle.properties_format.specs.Encoding.{Repertoire}
use Rattle.properties_format.specs.Lines.{HoldsNoLineEnding, is_open}
use Rattle.properties_format.specs.Split.{Logical, AreBlanks, IsBetween, blanks, separator}
use Rattle.properties_format.specs.Computed.Split.{split_of}
use Rattle.properties_format.specs.Escapes.{Spelling, spelling_text, spelling_character, spellings_before}
use Rattle.properties_format.specs.Items.{Content, pair, given}
use Rattle.properties_format.specs.Computed.Items.{pair_outcome, split_outcome, outcome_of}
use Rattle.properties_format.specs.Settings.{IsGoodSeparator}
use Rattle.properties_format.specs.Printing.{in_key_or_value, printed_characters, is_bom_like, with_first_escaped, printed_key}
use Rattle.properties_format.specs.Writing.{HoldsNoBackslash}
use Rattle.properties_format.proofs.Lines.Plain.{plain-append}
use Rattle.properties_format.proofs.Groups.Open.{is_open-after, blank-other}
use Rattle.properties_format.proofs.Groups.Logical.{IsNotContinued}
use Rattle.properties_format.proofs.Split.Unique.{split_of-pair}
use Rattle.properties_format.proofs.Split.Laws.{split_of-empty_key}
use Rattle.properties_format.proofs.Settings.Tests.{is_blanks-from}
use Rattle.properties_format.proofs.ReadBack.Spellings.{unicode-printed}
use Rattle.properties_format.proofs.ReadBack.Texts.{AreSafe, AreSafelyPrinted, printed-cons, texts-printed, printed-means, printed-plain, printed-closed, are_safe-key, BeginsFull, safe-begins, are_safe-begin}
use Rattle.properties_format.proofs.ReadBack.Values.{AreLooselyPrinted, loose-means, loosely-plain, loosely-closed, BeginsAfter}

-- What a line's text is read as, if it is a line of its own.
pub record IsReadAs (text : List ℕ) (content : Content) : Type 0 where
  pub some : text ≢ []
  pub plain : HoldsNoLineEnding text
  pub alone : IsNotContinued text
  pub outcome : outcome_of text ≡ given content

-- ---- keys

-- A key with its first character escaped is safely spelt.
with_first_escaped-printed : (r : Repertoire) (key : List ℕ) → AllByRecursion scalar key → AreSafelyPrinted (with_first_escaped r key) key
with_first_escaped-printed r [] h = record { spellings = []; text = refl; characters = refl; safe = tt }
with_first_escaped-printed r (c ∷ cs) h = search (rules, printed-cons, unicode-printed, texts-printed)

-- Every printed key is safely spelt.
pub key-printed : (r : Repertoire) (first : Bool) (key : List ℕ) → AllByRecursion scalar key → AreSafelyPrinted (printed_key r first key) key
key-printed r first key h =
    cond_both (first && is_bom_like r key) (with_first_escaped r key) (printed_characters r in_key_or_value key) (λ x. AreSafelyPrinted x key)
    (λ k. with_first_escaped-printed r key h) (λ k. texts-printed r key h)

-- ---- separators

-- A quiet text: it contains no backslash and no line ending.
pub record IsQuiet (x : List ℕ) : Type 0 where
  pub slashes : HoldsNoBackslash x
  pub plain : HoldsNoLineEnding x

-- Two quiet texts together are quiet.
quiet-append : (x y : List ℕ) → IsQuiet x → IsQuiet y → IsQuiet (x ++ y)
quiet-append x y h k = record { slashes = go x y h.slashes k.slashes; plain = plain-append x y h.plain k.plain }
  where
    go : (x y : List ℕ) → HoldsNoBackslash x → HoldsNoBackslash y → HoldsNoBackslash (x ++ y)
    go [] y h k = k
    go (c ∷ x) y h k = (h.0, go x y h.1 k)

-- Blanks contain no line ending.
pub blanks-plain : (x : List ℕ) → AreBlanks x → HoldsNoLineEnding x
blanks-plain [] h = tt
blanks-plain (c ∷ x) h = (grind (arith), blanks-plain x h.1)

-- Blanks contain no backslash.
pub blanks-slashes : (x : List ℕ) → AreBlanks x → HoldsNoBackslash x
blanks-slashes [] h = tt
blanks-slashes (c ∷ x) h = (blank-other c h.0, blanks-slashes x h.1)

-- A good separator is quiet.
pub separator-quiet : (x : List ℕ) → IsGoodSeparator x → IsQuiet x
separator-quiet x h = search (rules, quiet-append, blanks-slashes, blanks-plain)

-- A text that contains a character isn't empty.
pub cons-front : (x y : List ℕ) (c : ℕ) → x ++ (c ∷ y) ≢ []
cons-front [] y c h = cc
cons-front (d ∷ x) y c h = cc

-- A good separator isn't empty.
pub separator-some : (x : List ℕ) → IsGoodSeparator x → x ≢ []
separator-some x h = grind (arith, cons-front)

-- After a separator, only what follows it decides whether a line is open.
pub closed-after : (x sep y : List ℕ) → HoldsNoBackslash sep → sep ≢ [] → is_open y ≡ false → is_open (x ++ (sep ++ y)) ≡ false
closed-after x [] y h some o = absurd (some refl)
closed-after x (c ∷ []) y h some o = is_open-after x c y h.0 ∙ o
closed-after x (c ∷ d ∷ sep) y h some o = is_open-after x c (d ∷ sep ++ y) h.0 ∙ closed-after [] (d ∷ sep) y h.1 (λ q. cc) o

-- ---- the line of a pair

-- A good separator may separate a key from a value of safe spellings.
between-of : (vs : List Spelling) (sep : List ℕ) → AreSafe vs → IsGoodSeparator sep → IsBetween sep (spellings_before vs [])
between-of vs sep v (inl g) = separator g.before g.sign g.after g.division g.blank_before g.signed g.blank_after (are_safe-begin vs v).no_blank
between-of vs sep v (inr g) = let b = are_safe-begin vs v in blanks g.some g.blank b.no_blank b.no_separator

-- At least one safe spelling doesn't begin with a blank, a separator or a comment sign, whatever follows.
some-after : (p : Spelling) (ps : List Spelling) (y : List ℕ) → AreSafe (p ∷ ps) → BeginsFull (spellings_before (p ∷ ps) [] ++ y)
some-after p ps y h = rw (append_assoc (spelling_text p) (spellings_before ps []) y) (safe-begins p (spellings_before ps [] ++ y) h.0)

-- Three texts together aren't empty if the second isn't.
append-some : (x y z : List ℕ) → y ≢ [] → x ++ (y ++ z) ≢ []
append-some [] [] z some q = some refl
append-some x y z some q = cc

-- A key and a value of safe spellings around a good separator, which isn't blanks only if the key is empty.
split-pair : (ks vs : List Spelling) (sep : List ℕ) → AreSafe ks → AreSafe vs → IsGoodSeparator sep → (ks ≡ [] → is_blanks sep ≡ false)
    → split_of (spellings_before ks [] ++ (sep ++ spellings_before vs [])) ≡ Logical.pair (spellings_before ks []) (spellings_before vs [])
split-pair [] vs sep k v (inl g) some = search (rules, append_assoc, split_of-empty_key, are_safe-begin)
split-pair [] vs sep k v (inr g) some = let a = some refl in let b = is_blanks-from sep g.blank in cc
split-pair (p ∷ ps) vs sep k v g some =
    let b = some-after p ps (sep ++ spellings_before vs []) k in
    split_of-pair [] _ sep _ tt (append-some _ sep _ (separator-some sep g))
    b.no_blank b.no_sign (are_safe-key (p ∷ ps) (sep ++ spellings_before vs []) k) (between-of vs sep v g)

-- A key and a value, both safely spelt, around a good separator, which isn't blanks only if the key is empty.
pub pair-read : (k v sep key value : List ℕ) → AreSafelyPrinted k key → AreSafelyPrinted v value → IsGoodSeparator sep → (key ≡ [] → is_blanks sep ≡ false)
    → IsReadAs (k ++ (sep ++ v)) (pair key value)
pair-read k v sep key value ks vs g some =
    let q = separator-quiet sep g in
    record {
      some = append-some k sep v (separator-some sep g);
      plain = plain-append k (sep ++ v) (printed-plain k key ks) (plain-append sep v q.plain (printed-plain v value vs));
      alone = inr (closed-after k sep v q.slashes (separator-some sep g) (printed-closed v value vs));
      outcome =
          ap split_outcome
          (ap₂ (λ x y. split_of (x ++ (sep ++ y))) ks.text vs.text
          ∙ split-pair ks.spellings vs.spellings sep ks.safe vs.safe g (λ e. some (sym ks.characters ∙ ap (λ x. map spelling_character x) e))
          ∙ ap₂ (λ x y. Logical.pair x y) (sym ks.text) (sym vs.text))
          ∙ ap₂ pair_outcome (printed-means k key ks) (printed-means v value vs);
    }

-- ---- a value as people write it

-- A good separator may separate a key from a value that begins in this way.
pub good-between : (sep value : List ℕ) → IsGoodSeparator sep → BeginsAfter (is_blanks sep) value → IsBetween sep value
good-between sep value (inl g) b = separator g.before g.sign g.after g.division g.blank_before g.signed g.blank_after b.no_blank
good-between sep value (inr g) b = blanks g.some g.blank b.no_blank (b.no_separator (is_blanks-from sep g.blank))

-- A key of safe spellings and a value that may follow the separator, around a good separator, which isn't blanks only if
-- the key is empty.
split-loosely : (ks : List Spelling) (sep v : List ℕ) → AreSafe ks → BeginsAfter (is_blanks sep) v → IsGoodSeparator sep → (ks ≡ [] → is_blanks sep ≡ false)
    → split_of (spellings_before ks [] ++ (sep ++ v)) ≡ Logical.pair (spellings_before ks []) v
split-loosely [] sep v k b (inl g) some = grind (arith, append_assoc, split_of-empty_key)
split-loosely [] sep v k b (inr g) some = let a = some refl in let m = is_blanks-from sep g.blank in absurd (cc)
split-loosely (p ∷ ps) sep v k b g some =
    let f = some-after p ps (sep ++ v) k in
    split_of-pair [] (spellings_before (p ∷ ps) []) sep v tt (append-some (spellings_before (p ∷ ps) []) sep v (separator-some sep g))
    f.no_blank f.no_sign (are_safe-key (p ∷ ps) (sep ++ v) k) (good-between sep v g b)

-- A key that is safely spelt and a value that is loosely spelt, around a good separator that it may follow, and which
-- isn't blanks only if the key is empty.
pub pair-read_loosely : (k v sep key value : List ℕ) → AreSafelyPrinted k key → AreLooselyPrinted v value → BeginsAfter (is_blanks sep) v
    → IsGoodSeparator sep → (key ≡ [] → is_blanks sep ≡ false) → IsReadAs (k ++ (sep ++ v)) (pair key value)
pair-read_loosely k v sep key value ks vs b g some =
    let q = separator-quiet sep g in
    record {
      some = append-some k sep v (separator-some sep g);
      plain = plain-append k (sep ++ v) (printed-plain k key ks) (plain-append sep v q.plain (loosely-plain v value vs));
      alone = inr (closed-after k sep v q.slashes (separator-some sep g) (loosely-closed [] v value vs refl));
      outcome =
          ap split_outcome
          (ap (λ x. split_of (x ++ (sep ++ v))) ks.text
          ∙ split-loosely ks.spellings sep v ks.safe b g (λ e. some (sym ks.characters ∙ ap (λ x. map spelling_character x) e))
          ∙ ap (λ x. Logical.pair x v) (sym ks.text))
          ∙ ap₂ pair_outcome (printed-means k key ks) (loose-means v value vs);
    }

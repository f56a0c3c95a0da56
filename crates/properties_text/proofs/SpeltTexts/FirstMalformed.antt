-- Where the first malformed escape of a text is.
use Rattle.std.proofs.Common.{◌≡◌, ℕ, ◌+◌, ◌-◌, ◌≤◌, List, [], ◌∷◌, ◌++◌, take, drop, length, map, refl, sym, ap, ◌∙◌, subst, arith}
use Rattle.std.specs.Prelude.{Some, None, Option}
use Rattle.std.specs.Str.{chars}
use Rattle.std.proofs.lemmas.List.{take-append-drop, map-append, drop-drop, length-drop}
use Rattle.std.proofs.lemmas.Str.{chars-append}
use Rattle.memchr.specs.Find.{IsFirstByte, is_byte}
use Rattle.properties_format.specs.Text.{backslash}
use Rattle.properties_format.specs.Escapes.{letter_u, Malformed, Spelling, itself, spelling_text, spelling_character, IsSpelling, spellings_before, AreSpellings, NoSpelling, malformed_by, means, breaks}
use Rattle.properties_format.specs.Windows1252.{windows_1252_character}
use Rattle.properties_format.specs.Writing.{HoldsNoBackslash}
use Rattle.properties_format.specs.Computed.Escapes.{first_spelling, text_in_front, meaning_of}
use Rattle.properties_format.specs.Computed.Cut.{windows_1252_characters}
use Rattle.properties_format.proofs.Escapes.First.{IsFound, first_spelling-found}
use Rattle.properties_format.proofs.Escapes.Unique.{meaning_of-empty, meaning_of-fault, meaning_of-spellings, text_in_front-means}
use Rattle.properties_text.specs.Escaping.{text_in, IsWell, IsRead}
use Rattle.properties_text.specs.MalformedEscapes.{IsMalformedAt}
use Rattle.properties_text.specs.declared.encoding.line_encoding.LineEncoding.{LineEncoding}
use Rattle.properties_text.specs.declared.encoding.line_encoding.LineEncoding.TheVariants.{Windows1252, Utf8}
use Rattle.properties_text.specs.declared.encoding.line_encoding.ReadCharacter.{ReadCharacter}
use Rattle.properties_text.proofs.SpeltTexts.Searches.{no-backslash, split-in, plain-in}
use Rattle.properties_text.proofs.Texts.Resolving.{found_some, split_at, no_backslash, holds_backslash-text}

-- ---- spellings

spellings-append : (ps qs : List Spelling) (rest : List ℕ) → spellings_before (ps ++ qs) rest ≡ spellings_before ps (spellings_before qs rest)
spellings-append [] qs rest = refl
spellings-append (p ∷ ps) qs rest = ap (λ v. spelling_text p ++ v) (spellings-append ps qs rest)

are-append : (ps qs : List Spelling) (rest : List ℕ) → AreSpellings ps (spellings_before qs rest) → AreSpellings qs rest → AreSpellings (ps ++ qs) rest
are-append [] qs rest h k = k
are-append (p ∷ ps) qs rest h k = (subst (IsSpelling p) (sym (spellings-append ps qs rest)) h.0, are-append ps qs rest h.1 k)

-- Characters that are no backslashes stand for themselves.
plain-spellings : (x rest : List ℕ) → HoldsNoBackslash x → (spellings_before (map itself x) rest ≡ x ++ rest) × AreSpellings (map itself x) rest
plain-spellings [] rest h = (refl, tt)
plain-spellings (c ∷ x) rest h = let m = plain-spellings x rest h.1 in (ap (λ v. c ∷ v) m.0, (h.0, m.1))

-- ---- the text before a backslash

record IsPlainBefore (e : LineEncoding) (bs : List ℕ) (at : ℕ) : Type 0 where
  plain : HoldsNoBackslash (text_in e (take at bs))
  whole : text_in e bs ≡ text_in e (take at bs) ++ text_in e (drop at bs)

plain-before : (e : LineEncoding) (bs : List ℕ) (at : ℕ) → IsWell e bs → IsFirstByte (is_byte backslash) bs (Some at) → IsPlainBefore e bs at
plain-before Windows1252 bs at w h = record {
  plain = no-backslash (take at bs) (found_some bs at h).plain;
  whole = ap windows_1252_characters (sym (take-append-drop at bs)) ∙ map-append windows_1252_character (take at bs) (drop at bs);
}
plain-before Utf8 bs at w h =
    let s = split_at bs bs at w refl h in
    record {
      plain = no_backslash (chars (take at bs)) (holds_backslash-text (take at bs) s.front_utf8 ∙ (found_some bs at h).plain);
      whole = ap chars (sym (take-append-drop at bs)) ∙ chars-append (take at bs) (drop at bs) s.front_utf8;
    }

-- ---- spellings that were read one after another

-- Up to this position, before this rest, the text is spellings.
pub record HasSpeltBefore (e : LineEncoding) (text : List ℕ) (at : ℕ) (rest : List ℕ) : Type 0 where
  pub within : at ≤ length text
  pub well : IsWell e rest
  pub spellings : List Spelling
  pub whole : text_in e text ≡ spellings_before spellings (text_in e rest)
  pub each : AreSpellings spellings (text_in e rest)

abbrev pub HasSpelt : LineEncoding → List ℕ → ℕ → Type 0
HasSpelt e text at = HasSpeltBefore e text at (drop at text)

-- The text up to a backslash was passed.
pub spelt-to : (e : LineEncoding) (text : List ℕ) (at next : ℕ) → HasSpelt e text at → IsFirstByte (is_byte backslash) (drop at text) (Some next)
    → HasSpelt e text (at + next)
spelt-to e text at next h found =
    let rest = drop at text in
    let s = split-in e rest next h.well found in
    let p = plain-before e rest next h.well found in
    let front = text_in e (take next rest) in
    let after : drop next rest ≡ drop (at + next) text = drop-drop next at text in
    let m = plain-spellings front (text_in e (drop next rest)) p.plain in
    let middle : text_in e rest ≡ spellings_before (map itself front) (text_in e (drop next rest)) = p.whole ∙ sym m.0 in
    let size : length rest ≡ length text - at = length-drop at text in
    let inside = s.inside in
    let within = h.within in
    subst (λ d. HasSpeltBefore e text (at + next) d) after (record {
      within = omega arith;
      well = s.well;
      spellings = h.spellings ++ map itself front;
      whole = h.whole ∙ ap (spellings_before h.spellings) middle ∙ sym (spellings-append h.spellings (map itself front) (text_in e (drop next rest)));
      each = are-append h.spellings (map itself front) (text_in e (drop next rest)) (subst (AreSpellings h.spellings) middle h.each) m.1;
    })

-- An escape was read.
pub spelt-more : (e : LineEncoding) (text : List ℕ) (at : ℕ) (spelt : ReadCharacter) → HasSpelt e text at → IsRead e (drop at text) spelt
    → HasSpelt e text (at + spelt.length)
spelt-more e text at spelt h r =
    let rest = drop at text in
    let s = r.is in
    let after : drop spelt.length rest ≡ drop (at + spelt.length) text = drop-drop spelt.length at text in
    let size : length rest ≡ length text - at = length-drop at text in
    let inside = r.within in
    let within = h.within in
    let some = r.some in
    subst (λ d. HasSpeltBefore e text (at + spelt.length) d) after (record {
      within = omega arith;
      well = r.well;
      spellings = h.spellings ++ s.spelling ∷ [];
      whole = h.whole ∙ ap (spellings_before h.spellings) s.whole ∙ sym (spellings-append h.spellings (s.spelling ∷ []) (text_in e (drop spelt.length rest)));
      each = are-append h.spellings (s.spelling ∷ []) (text_in e (drop spelt.length rest)) (subst (AreSpellings h.spellings) s.whole h.each) (s.stands, tt);
    })

-- ---- what is found

-- A text that begins with no spelling and is malformed begins with a `\u`.
no-spelling : (x : List ℕ) (kind : Malformed) → NoSpelling x → meaning_of x ≡ breaks kind
    → (after : List ℕ) × (x ≡ backslash ∷ letter_u ∷ after) × (kind ≡ malformed_by after)
no-spelling [] kind n m = absurd (cc meaning_of-empty)
no-spelling (c ∷ cs) kind n m = found (first_spelling c cs) (first_spelling-found c cs)
  where
    found : (o : Option Spelling) → IsFound (c ∷ cs) o → (after : List ℕ) × (c ∷ cs ≡ backslash ∷ letter_u ∷ after) × (kind ≡ malformed_by after)
    found None k =
        let fault = meaning_of-fault k.after (subst NoSpelling k.whole n) in
        let same : breaks kind ≡ breaks (malformed_by k.after) = sym m ∙ ap meaning_of k.whole ∙ fault in
        (k.after, k.whole, cc)
    found (Some p) k = absurd (n p k.rest k.whole k.is_spelling)

-- The escape at this position is malformed.
pub spelt-broken : (e : LineEncoding) (text : List ℕ) (at : ℕ) (kind : Malformed) → HasSpelt e text at → NoSpelling (text_in e (drop at text))
    → meaning_of (text_in e (drop at text)) ≡ breaks kind → IsMalformedAt e text at kind
spelt-broken e text at kind h n m =
    let u = no-spelling (text_in e (drop at text)) kind n m in
    record {
      within = h.within;
      well = h.well;
      spellings = h.spellings;
      after = u.0;
      whole = h.whole;
      each = h.each;
      begins = u.1;
      no_spelling = subst NoSpelling u.1 n;
      fault = u.2;
    }

-- No backslash is left.
pub spelt-all : (e : LineEncoding) (text : List ℕ) (at : ℕ) → HasSpelt e text at → IsFirstByte (is_byte backslash) (drop at text) None
    → (meant : List ℕ) × (meaning_of (text_in e text) ≡ means meant)
spelt-all e text at h none =
    let rest = text_in e (drop at text) in
    let front = map spelling_character h.spellings in (
      front ++ rest,
      ap meaning_of h.whole ∙ meaning_of-spellings h.spellings rest h.each ∙ ap (text_in_front front) (plain-in e (drop at text) h.well none)
          ∙ text_in_front-means front rest,
    )

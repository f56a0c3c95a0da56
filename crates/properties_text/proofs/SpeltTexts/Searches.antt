-- Bytes up to their first backslash, in either encoding.
use Rattle.std.proofs.Common.{◌≡◌, ℕ, ◌<◌, ◌==◌, false, List, [], ◌∷◌, ◌++◌, take, drop, length, get_or, refl, sym, ap, ◌∙◌, lit<}
use Rattle.std.specs.Prelude.{Some, None}
use Rattle.std.proofs.lemmas.Bool.{ne_eqb, eqb-false, or_parts}
use Rattle.std.proofs.lemmas.List.{take-append-drop, map-append}
use Rattle.std.specs.Str.{chars}
use Rattle.memchr.specs.Find.{IsFirstByte, is_byte}
use Rattle.properties_format.specs.Text.{backslash}
use Rattle.properties_format.specs.Escapes.{means}
use Rattle.properties_format.specs.Windows1252.{windows_1252_character}
use Rattle.properties_format.specs.Writing.{HoldsNoBackslash}
use Rattle.properties_format.specs.Computed.Escapes.{text_in_front, meaning_of}
use Rattle.properties_format.specs.Computed.Cut.{windows_1252_characters}
use Rattle.properties_format.proofs.Escapes.Laws.{meaning_of-plain_front, meaning_of-plain}
use Rattle.properties_text.specs.Escaping.{holds_backslash, text_in, IsWell, IsRead}
use Rattle.properties_text.specs.declared.encoding.line_encoding.LineEncoding.{LineEncoding}
use Rattle.properties_text.specs.declared.encoding.line_encoding.LineEncoding.TheVariants.{Windows1252, Utf8}
use Rattle.properties_text.specs.declared.encoding.line_encoding.ReadCharacter.{ReadCharacter}
use Rattle.properties_text.proofs.SpeltTexts.First.{own-byte}
use Rattle.properties_text.proofs.SpeltTexts.Escapes.{spells-meaning}
use Rattle.properties_text.proofs.Texts.Resolving.{found_some, found_none, split_at, plain, IsResolvedTo, resolved_many}

-- ---- windows-1252

-- A byte that is no backslash is no backslash as a character.
other-byte : (b : ℕ) → (b == backslash) ≡ false → (windows_1252_character b == backslash) ≡ false
other-byte b h = ne_eqb (windows_1252_character b) backslash (λ is. eqb-false b backslash h (own-byte b backslash is (lit< tt)))

-- Bytes without one are a text without one.
pub no-backslash : (bs : List ℕ) → holds_backslash bs ≡ false → HoldsNoBackslash (windows_1252_characters bs)
no-backslash [] h = tt
no-backslash (b ∷ bs) h = let p = or_parts (b == backslash) (holds_backslash bs) h in (other-byte b p.0, no-backslash bs p.1)

-- ---- in either

-- The first backslash is at this place, and the bytes before it mean what they are.
pub record IsSplitIn (e : LineEncoding) (bs : List ℕ) (at : ℕ) : Type 0 where
  pub inside : at < length bs
  pub byte : get_or bs at 0 ≡ backslash
  pub well : IsWell e (drop at bs)
  pub front : List ℕ
  pub meaning : meaning_of (text_in e bs) ≡ text_in_front front (meaning_of (text_in e (drop at bs)))

-- A search found one.
pub split-in : (e : LineEncoding) (bs : List ℕ) (at : ℕ) → IsWell e bs → IsFirstByte (is_byte backslash) bs (Some at) → IsSplitIn e bs at
split-in Windows1252 bs at w h =
    let f = found_some bs at h in
    record {
      inside = f.inside;
      byte = f.byte;
      well = tt;
      front = windows_1252_characters (take at bs);
      meaning = ap meaning_of (ap windows_1252_characters (sym (take-append-drop at bs)) ∙ map-append windows_1252_character (take at bs) (drop at bs))
          ∙ meaning_of-plain_front (windows_1252_characters (take at bs)) (windows_1252_characters (drop at bs)) (no-backslash (take at bs) f.plain);
    }
split-in Utf8 bs at w h =
    let f = found_some bs at h in
    let s = split_at bs bs at w refl h in
    record { inside = f.inside; byte = f.byte; well = s.rest_utf8; front = chars (take at bs); meaning = s.meaning }

-- Without one, bytes mean what they are.
pub plain-in : (e : LineEncoding) (bs : List ℕ) → IsWell e bs → IsFirstByte (is_byte backslash) bs None → meaning_of (text_in e bs) ≡ means (text_in e bs)
plain-in Windows1252 bs w h = meaning_of-plain (windows_1252_characters bs) (no-backslash bs (found_none bs h))
plain-in Utf8 bs w h = (plain bs bs w refl h).meaning

-- ---- escapes that were read one after another

-- What was read of a text, and what is left.
pub record IsReadTo (e : LineEncoding) (text rest : List ℕ) : Type 0 where
  pub well : IsWell e rest
  pub done : List ℕ
  pub resolved : IsResolvedTo (text_in e text) [] done (text_in e rest)

-- One escape was read.
pub one-read : (e : LineEncoding) (text rest : List ℕ) (at : ℕ) (spelt : ReadCharacter) → IsReadTo e text rest → IsSplitIn e rest at → IsRead e (drop at rest) spelt
    → IsReadTo e text (drop spelt.length (drop at rest))
one-read e text rest at spelt held s r = record {
  well = r.well;
  done = held.done ++ (s.front ++ spelt.character ∷ []);
  resolved = resolved_many s.front (text_in e (drop at rest)) (spelt.character ∷ [])
      held.resolved s.meaning (spells-meaning e (drop at rest) spelt r.is) refl;
}

-- Keys, which may come first in a file, and pairs.
use Rattle.std.proofs.Common.{◌≡◌, ℕ, ◌+◌, ◌-◌, ◌<◌, ◌≤◌, ◌&&◌, Bool, true, false, List, [], ◌∷◌, ◌++◌, length, take, drop, refl, sym, ap, ◌∙◌, arith}
use Rattle.std.specs.Prelude.{Result, Ok, Err}
use Rattle.std.proofs.lemmas.List.{length-take-le, drop-take, drop_at, take_rest}
use Rattle.std.proofs.lemmas.Grind.{common_steps}
use Rattle.properties_format.specs.Encoding.{begins_like_bom}
use Rattle.properties_format.specs.Escapes.{Meaning, means}
use Rattle.properties_format.specs.Printing.{in_key_or_value, unicode_escape}
use Rattle.properties_text.specs.Printing.{in_format, puts_of, key_bytes, escaped_key}
use Rattle.properties_text.specs.PrintedTexts.{meaning_by, meaning_in, IsPut, Prints}
use Rattle.properties_text.specs.declared.encoding.line_encoding.LineEncoding.{LineEncoding}
use Rattle.properties_text.specs.declared.encoding.line_encoding.ReadCharacter.{ReadCharacter}
use Rattle.properties_text.specs.declared.escape.UnescapeError.{UnescapeError}
use Rattle.properties_text.specs.declared.escape.UnescapeError.TheVariants as error
use Rattle.properties_text.specs.declared.print.Repertoire.{Repertoire}
use Rattle.properties_text.proofs.Printing.Characters.{first_escaped_more}
use Rattle.properties_text.proofs.PrintedTexts.Runs.{read-meaning, empty-means, front-kept, fewer-kept}
use Rattle.properties_text.proofs.SpeltTexts.Escapes.{no-text}
use Rattle.properties_text.specs.Escaping.{IsReadBy}

-- ---- what was put

-- What was put after a front is what follows it.
pub slice-put : (old new bytes : List ℕ) (at end : ℕ) → at ≤ length old → end ≤ length new → take end new ≡ take at old ++ bytes
    → (at ≤ end) × (take (end - at) (drop at new) ≡ bytes)
slice-put old new bytes at end room within e =
    let size : end ≡ at + length bytes = grind (arith, common_steps, ap length e) in
    let whole : at + (end - at) ≡ end = omega (arith, size) in
    (omega (arith, size), cc (drop-take at (end - at) new, drop_at (take at old) bytes at (length-take-le at old room)))

-- The bytes before this place are those of a line, and more may have been put after them.
pub record KeepsFront (from : ℕ) (line : List ℕ) (at : ℕ) (out : List ℕ) : Type 0 where
  pub room : from ≤ at
  pub within : at ≤ length out
  pub same : take from out ≡ take from line

pub front-start : {from : ℕ} {line : List ℕ} → from ≤ length line → KeepsFront from line from line
front-start h = record { room = omega arith; within = h; same = refl }

-- They stay where more is put,
pub front-on : {from at : ℕ} {line old : List ℕ} (new bytes : List ℕ) (end : ℕ) → KeepsFront from line at old → end ≤ length new
    → take end new ≡ take at old ++ bytes → KeepsFront from line end new
front-on {from} {at} {old = old} new bytes end h within e =
    let kept = front-kept old new bytes from at end h.room h.within within e in
    record { room = omega (arith, h.room, kept.0); within = within; same = kept.1 ∙ h.same }

-- and where nothing is.
pub front-still : {from at : ℕ} {line old : List ℕ} (new : List ℕ) → KeepsFront from line at old → take at new ≡ take at old → take from new ≡ take from line
front-still {from} {at} {old = old} new h same = fewer-kept new old from at h.room same ∙ h.same

-- ---- keys

module _ (m : Meaning) (r : Repertoire) (first : Bool) (old : List ℕ) (at : ℕ) where
  -- A key that begins like no byte order mark, or doesn't come first, is printed as a value is.
  pub key-plain : (new : List ℕ) (end : ℕ) (h : IsPut m (puts_of r) old at new end) → (first && begins_like_bom (puts_of r h.meant)) ≡ false
      → IsPut m (key_bytes r first) old at new end
  key-plain new end h other = record {
    within = h.within;
    meant = h.meant;
    meaning = h.meaning;
    printed = rw other h.printed;
  }

  -- One that does, and comes first, was put again, with its first character escaped.
  pub key-escaped : (out new : List ℕ) (mid : ℕ) (h : IsPut m (puts_of r) old at out mid) (result : Result ℕ UnescapeError)
      → (first && begins_like_bom (puts_of r h.meant)) ≡ true
      → take at out ≡ take at old → Prints m (escaped_key r) out at new result → Prints m (key_bytes r first) old at new result
  key-escaped out new mid h (Ok end) like same k =
      let both : means h.meant ≡ means k.meant = sym h.meaning ∙ k.meaning in
      let text_is : h.meant ≡ k.meant = cc in
      record {
        within = k.within;
        meant = k.meant;
        meaning = k.meaning;
        printed = rw (rw text_is at like, ← same) k.printed;
      }
  key-escaped out new mid h (Err (error.Malformed kind)) like same k = k
  key-escaped out new mid h (Err error.Memory) like same k = tt

-- What was put begins like a byte order mark if the bytes of the text do.
pub begins-put : (m : Meaning) (r : Repertoire) (old : List ℕ) (at : ℕ) (new slice : List ℕ) (end : ℕ) (h : IsPut m (puts_of r) old at new end)
    → at ≤ length old → slice ≡ new → begins_like_bom (puts_of r h.meant) ≡ begins_like_bom (take (end - at) (drop at slice))
begins-put m r old at new slice end h room value =
    ap begins_like_bom (sym (slice-put old new (puts_of r h.meant) at end room h.within h.printed).1 ∙ ap (λ v. take (end - at) (drop at v)) (sym value))

-- An empty text begins like no byte order mark.
pub some-text : (e : LineEncoding) (r : Repertoire) (escaped : Bool) (text old : List ℕ) (at : ℕ) (new : List ℕ) (end : ℕ)
    (h : IsPut (meaning_in e escaped text) (puts_of r) old at new end) → begins_like_bom (puts_of r h.meant) ≡ true → 0 < length text
some-text e r escaped [] old at new end h like =
    let both : means h.meant ≡ means [] = sym h.meaning ∙ ap (meaning_by escaped) (no-text e [] refl) ∙ empty-means escaped in
    let empty : h.meant ≡ [] = cc in
    let no = rw empty at like in
    absurd (cc)
some-text e r escaped (b ∷ bs) old at new end h like = omega arith

-- what is left of a text, as a slice of its bytes
pub rest-at : (bytes : List ℕ) (size read : ℕ) → read ≤ size → take (size - read) (take (length bytes - read) (drop read bytes)) ≡ drop read (take size bytes)
rest-at bytes size read h =
    let whole : read + (size - read) ≡ size = omega (arith, h) in rw (take_rest, ← drop-take read (size - read) bytes, whole) refl

-- The first character is escaped, and the rest is printed.
pub escaped-rest : {e : LineEncoding} {escaped : Bool} {text rest mid written : List ℕ} {first : ReadCharacter} (r : Repertoire) (old new : List ℕ) (at between : ℕ)
    (result : Result ℕ UnescapeError) → IsReadBy escaped e text first → rest ≡ drop first.length text → mid ≡ written
    → take between written ≡ take at old ++ unicode_escape first.character
    → Prints (meaning_in e escaped rest) (puts_of r) mid between new result → Prints (meaning_in e escaped text) (escaped_key r) old at new result
escaped-rest {e} {escaped} {text} {first = first} r old new at between (Ok end) read is back put h = record {
  within = h.within;
  meant = first.character ∷ h.meant;
  meaning = read-meaning escaped e text first read.is ∙ rw (← is, h.meaning) refl;
  printed = h.printed ∙ ap (λ v. v ++ puts_of r h.meant) (ap (take between) back ∙ put)
      ∙ first_escaped_more (in_format r) in_key_or_value (take at old) h.meant first.character;
}
escaped-rest {e} {escaped} {text} {first = first} r old new at between (Err (error.Malformed kind)) read is back put h =
    read-meaning escaped e text first read.is ∙ rw (← is, h) refl
escaped-rest r old new at between (Err error.Memory) read is back put h = tt

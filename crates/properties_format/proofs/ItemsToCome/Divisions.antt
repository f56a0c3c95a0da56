-- What comes as defined by divisions, and as computed, is the same.
use Rattle.std.proofs.Common.{arith, ◌≡◌, ℕ, ◌+◌, false, List, ◌∷◌, ◌++◌, refl, ap, sym, ◌∙◌, inl, inr}
use Rattle.std.proofs.lemmas.Bool.{cases_Bool}
use Rattle.properties_format.specs.Text.{piece_characters}
use Rattle.properties_format.specs.Computed.Encoding.{pieces_of}
use Rattle.properties_format.specs.Lines.{InputEnd, Line, line_endings, numbered}
use Rattle.properties_format.specs.Computed.Lines.{lines_of}
use Rattle.properties_format.specs.Items.{Entry, last_entries}
use Rattle.properties_format.specs.ItemsToCome.{ReaderState, in_force, IsItemsToCome, AreLinesToCome, ComesFirst, LinesComeFirst}
use Rattle.properties_format.specs.Computed.ItemsToCome.{text_to_come, items_to_come, natural_to_come, last_to_come, ReadsLines, ReadsEntry}
use Rattle.properties_format.proofs.Encodings.Pieces.{pieces_of-meets, pieces_of-only}
use Rattle.properties_format.proofs.Lines.Meets.{lines_of-meets}
use Rattle.properties_format.proofs.Lines.Only.{lines_of-only}
use Rattle.properties_format.proofs.ItemsToCome.Unique.{rest_of_end-meets, rest_of_end-only, items_to_come-meets, items_to_come-only}
use Rattle.properties_format.proofs.ItemsToCome.Lines.{natural-done}

-- ---- items

-- Entries equal to the computed ones are the items to come.
pub are_to_come : {s : ReaderState} {d : List ℕ} {ending : InputEnd} {entries : List Entry} → items_to_come s d ending ≡ entries
    → IsItemsToCome s d ending entries
are_to_come {s} {d} {ending} h = rw (← h) (items_to_come-meets s d ending)

-- The items to come are the computed ones.
pub to_come_are : {s : ReaderState} {d : List ℕ} {ending : InputEnd} {entries : List Entry} → IsItemsToCome s d ending entries
    → items_to_come s d ending ≡ entries
to_come_are {s} {d} {ending} {entries} h = sym (items_to_come-only s d ending entries h)

-- An entry that reading these bytes returns comes first of the items to come.
pub comes_first : {old new : ReaderState} {bytes : List ℕ} {entry : Entry} → ReadsEntry old bytes entry new → ComesFirst old bytes entry new
comes_first {entry = entry} h = record { others = λ d ending entries k. are_to_come (h.items d ending ∙ ap (λ v. entry ∷ v) (to_come_are k)) }

-- An entry that comes first of them is returned by reading these bytes.
pub first_comes : {old new : ReaderState} {bytes : List ℕ} {entry : Entry} → ComesFirst old bytes entry new → ReadsEntry old bytes entry new
first_comes {new = new} h = record { items = λ d ending. to_come_are (h.others d ending (items_to_come new d ending) (items_to_come-meets new d ending)) }

-- ---- natural lines

-- Unless the reader is permanently at its end, the lines of the text to come come next, numbered on, followed by what
-- the ending adds.
natural-going : (s : ReaderState) (d : List ℕ) (ending : InputEnd) → s.is_done ≡ false
    → (natural_to_come s d ending ≡ numbered s.passed (lines_of (text_to_come s d)).ended (lines_of (text_to_come s d)).last ending)
    × (last_to_come s d ending ≡ last_entries (s.passed + line_endings (lines_of (text_to_come s d))) ending)
unfolding natural_to_come last_to_come
natural-going s d ending h = (rw h refl, rw h refl)

-- The computed lines are the lines to come.
pub natural_to_come-meets : (s : ReaderState) (d : List ℕ) (ending : InputEnd)
    → AreLinesToCome s d ending (natural_to_come s d ending) (last_to_come s d ending)
natural_to_come-meets s d ending = elim (cases_Bool s.is_done) [
  | inl h ↦ inl (h, (natural-done s d ending h).0, (natural-done s d ending h).1)
  | inr h ↦ inr (
    h,
    record {
      pieces = pieces_of (in_force s d).encoding (in_force s d).body;
      text = text_to_come s d;
      all = lines_of (text_to_come s d);
      are_pieces = pieces_of-meets (in_force s d).encoding (in_force s d).body;
      after_end = rest_of_end-meets s.after_cr (piece_characters (pieces_of (in_force s d).encoding (in_force s d).body));
      divided = lines_of-meets (text_to_come s d);
      are_lines = (natural-going s d ending h).0;
      are_last = (natural-going s d ending h).1;
    },
  )
]

-- The lines to come are the computed ones.
pub natural_to_come-only : (s : ReaderState) (d : List ℕ) (ending : InputEnd) (lines : List Line) (last : List Entry) → AreLinesToCome s d ending lines last
    → (lines ≡ natural_to_come s d ending) × (last ≡ last_to_come s d ending)
natural_to_come-only s d ending lines last (inl h) = let done = natural-done s d ending h.0 in (h.1 ∙ sym done.0, h.2 ∙ sym done.1)
natural_to_come-only s d ending lines last (inr h) =
    let f = in_force s d in
    let k = h.1 in
    let going = natural-going s d ending h.0 in
    grind (arith, lines_of-only, rest_of_end-only, pieces_of-only)

-- Lines that reading these bytes returns come first of the lines to come.
pub lines_come_first : {old new : ReaderState} {bytes : List ℕ} {lines : List Line} → ReadsLines old bytes lines new → LinesComeFirst old bytes lines new
lines_come_first {old} {new} {bytes} {lines} h = record {
  others = λ d ending further last k.
      let same = natural_to_come-only new d ending further last k in
      let gives = h.gives d ending in
      rw (same.0, same.1, ← gives.natural, ← gives.last) (natural_to_come-meets old (bytes ++ d) ending);
}

-- Lines that come first of them are returned by reading these bytes.
pub first_lines_come : {old new : ReaderState} {bytes : List ℕ} {lines : List Line} → LinesComeFirst old bytes lines new → ReadsLines old bytes lines new
first_lines_come {old} {new} {bytes} {lines} h = record {
  gives = λ d ending.
      let told = h.others d ending (natural_to_come new d ending) (last_to_come new d ending) (natural_to_come-meets new d ending) in
      let same = natural_to_come-only old (bytes ++ d) ending (lines ++ natural_to_come new d ending) (last_to_come new d ending) told in
      record { natural = sym same.0; last = sym same.1 };
}

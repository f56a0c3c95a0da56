-- The items to come exist and are unique; at the start, they are the items of the input.
use Rattle.std.proofs.Common.{arith, ◌≡◌, ℕ, ◌+◌, Bool, true, false, List, [], refl, ap, sym, ◌∙◌, inl, inr, zero-add}
use Rattle.std.proofs.lemmas.Bool.{cases_Bool}
use Rattle.std.proofs.lemmas.Bool.Decides.{eqb_tells}
use Rattle.properties_format.specs.Text.{Piece, piece_characters}
use Rattle.properties_format.specs.Encoding.{Encoding}
use Rattle.properties_format.specs.Computed.Encoding.{pieces_of}
use Rattle.properties_format.specs.Lines.{InputEnd, line_endings, numbered}
use Rattle.properties_format.specs.Computed.Lines.{rest_of_end, lines_of, groups_of}
use Rattle.properties_format.specs.Items.{Entry}
use Rattle.properties_format.specs.Computed.Items.{entries_of, items_of}
use Rattle.properties_format.specs.ItemsToCome.{ReaderState, start, in_force, IsAfterEnd, AreFurtherEntries, IsItemsToCome}
use Rattle.properties_format.specs.Computed.ItemsToCome.{text_to_come, further_entries, items_to_come}
use Rattle.properties_format.proofs.Encodings.Pieces.{pieces_of-meets, pieces_of-only}
use Rattle.properties_format.proofs.Lines.Meets.{lines_of-meets}
use Rattle.properties_format.proofs.Lines.Only.{lines_of-only}
use Rattle.properties_format.proofs.Groups.Meets.{groups_of-meets}
use Rattle.properties_format.proofs.Groups.Only.{groups_of-only}
use Rattle.properties_format.proofs.Items.Unique.{entries_of-meets, entries_of-only}

-- ---- the text after a line ending

-- The computed text is the text after the line ending.
pub rest_of_end-meets : (after_cr : Bool) (x : List ℕ) → IsAfterEnd after_cr x (rest_of_end after_cr x)
rest_of_end-meets after_cr x = grind (arith, eqb_tells)

-- No other text is.
pub rest_of_end-only : (after_cr : Bool) (x text : List ℕ) → IsAfterEnd after_cr x text → text ≡ rest_of_end after_cr x
rest_of_end-only after_cr x text h1 = grind (arith, eqb_tells)

-- ---- the items to come

-- The computed entries are those of the bytes that are held and that come.
further-meets : (s : ReaderState) (d : List ℕ) (ending : InputEnd)
    → AreFurtherEntries s d ending (further_entries s.passed (lines_of (text_to_come s d)) ending)
further-meets s d ending =
    let pieces = pieces_of (in_force s d).encoding (in_force s d).body in
    let lines = lines_of (text_to_come s d) in
    let numbers = numbered s.passed lines.ended lines.last ending in
    record {
      pieces = pieces;
      text = text_to_come s d;
      lines = lines;
      groups = groups_of numbers ending;
      are_pieces = pieces_of-meets (in_force s d).encoding (in_force s d).body;
      after_end = rest_of_end-meets s.after_cr (piece_characters pieces);
      divided = lines_of-meets (text_to_come s d);
      grouped = groups_of-meets numbers ending;
      are_entries = entries_of-meets (s.passed + line_endings lines) ending (groups_of numbers ending);
    }

-- There are no others.
further-only : (s : ReaderState) (d : List ℕ) (ending : InputEnd) (entries : List Entry) → AreFurtherEntries s d ending entries
    → entries ≡ further_entries s.passed (lines_of (text_to_come s d)) ending
further-only s d ending entries h =
    let f = in_force s d in
    let text : List Piece → List ℕ = λ v. rest_of_end s.after_cr (piece_characters v) in
    entries_of-only (s.passed + line_endings h.lines) ending h.groups entries h.are_entries
    ∙ ap (entries_of (s.passed + line_endings h.lines) ending) (groups_of-only (numbered s.passed h.lines.ended h.lines.last ending) ending h.groups h.grouped)
    ∙ ap (λ v. further_entries s.passed v ending) (lines_of-only h.text h.lines h.divided)
    ∙ ap (λ v. further_entries s.passed (lines_of v) ending) (rest_of_end-only s.after_cr (piece_characters h.pieces) h.text h.after_end)
    ∙ ap (λ v. further_entries s.passed (lines_of (text v)) ending) (pieces_of-only f.encoding f.body h.pieces h.are_pieces)

-- If the reader is permanently at its end, there are no items to come.
pub items_to_come-done : (s : ReaderState) (d : List ℕ) (ending : InputEnd) → s.is_done ≡ true → items_to_come s d ending ≡ []
unfolding items_to_come
items_to_come-done s d ending h = rw h refl

-- Otherwise they are the entries of the bytes that are held and that come.
items_to_come-going : (s : ReaderState) (d : List ℕ) (ending : InputEnd) → s.is_done ≡ false
    → items_to_come s d ending ≡ further_entries s.passed (lines_of (text_to_come s d)) ending
unfolding items_to_come
items_to_come-going s d ending h = rw h refl

-- The computed items are the items to come.
pub items_to_come-meets : (s : ReaderState) (d : List ℕ) (ending : InputEnd) → IsItemsToCome s d ending (items_to_come s d ending)
items_to_come-meets s d ending = elim (cases_Bool s.is_done) [
  | inl h ↦ inl (h, items_to_come-done s d ending h)
  | inr h ↦ inr (h, rw (items_to_come-going s d ending h) (further-meets s d ending))
]

-- The items to come are the computed ones.
pub items_to_come-only : (s : ReaderState) (d : List ℕ) (ending : InputEnd) (entries : List Entry) → IsItemsToCome s d ending entries
    → entries ≡ items_to_come s d ending
items_to_come-only s d ending entries (inl h) = h.1 ∙ sym (items_to_come-done s d ending h.0)
items_to_come-only s d ending entries (inr h) = further-only s d ending entries h.1 ∙ sym (items_to_come-going s d ending h.0)

-- ---- at the start

-- At the start the items to come are the items of the bytes to come.
pub items_to_come-start : (e : Encoding) (d : List ℕ) (ending : InputEnd) → items_to_come (start e) d ending ≡ items_of e d ending
unfolding items_to_come items_of
items_to_come-start e d ending = search (zero-add)

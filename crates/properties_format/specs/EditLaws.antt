-- The laws of edits that callers rely on. They hold whatever may stand unescaped in what is put in.
-- Source: java.util.Properties of Java SE 7, setProperty and load (a later pair takes the place of an earlier one).
use Rattle.std.specs.Prelude.{◌≡◌, ◌≢◌, ◌↔◌, All, ℕ, ◌+◌, true, List, [], ◌∷◌, ◌++◌, Option, Some, None}
use Rattle.properties_format.specs.Text.{scalar}
use Rattle.properties_format.specs.Encoding.{Encoding, Repertoire}
use Rattle.properties_format.specs.Settings.{repertoire_of, Settings}
use Rattle.properties_format.specs.Lines.{end}
use Rattle.properties_format.specs.Items.{Entry, IsItems}
use Rattle.properties_format.specs.Maps.{HasNoPair, IsMap, HasValue}
use Rattle.properties_format.specs.Writing.{Call, pair_call, is_accepted, settings_after, line_count_after, wrote, items_read_back}
use Rattle.properties_format.specs.Edited.{EditResult, edited, ItemsAre, IsSetKeyResult, IsRemoveKeyResult}
use Rattle.properties_format.specs.Edits.{Edit, put, remove, set_value, AreScalarEdits, IsEditAllResult, AreInPairs, EscapesAre, HasPairValue, IsEditPairsResult}
use Rattle.properties_format.specs.Valued.{IsSetValueResult}
use Rattle.properties_format.specs.Laws.{AreReadBack}

-- ---- One key.

-- Removing a key that no pair of the source has changes no byte.
abbrev pub RemovingNoPairChangesNothing : Encoding → List ℕ → List ℕ → Type 0
RemovingNoPairChangesNothing e source key =
    (entries : List Entry) → IsItems e source end entries → HasNoPair key entries
    → (result : List ℕ) → IsRemoveKeyResult e source key (edited result) → result ≡ source

-- Setting a key twice equals setting it once, to the later value: the second call has the same results as on the
-- source.
abbrev pub SettingTwiceIsSettingOnce : Repertoire → List ℕ → List ℕ → List ℕ → List ℕ → Type 0
SettingTwiceIsSettingOnce r source key first second =
    All scalar key → All scalar first → All scalar second → (between : List ℕ) → IsSetKeyResult r source key first (edited between)
    → (result : EditResult) → IsSetKeyResult r between key second result ↔ IsSetKeyResult r source key second result

-- Read in this encoding, the bytes have this map.
abbrev pub HasMap : Encoding → List ℕ → (List ℕ → Option (List ℕ)) → Type 0
HasMap e bytes value_at = ItemsAre e bytes (λ entries. IsMap entries value_at)

-- The second map gives this value for the key, and for every other key the same value as the first map.
abbrev pub DiffersAt : List ℕ → Option (List ℕ) → (List ℕ → Option (List ℕ)) → (List ℕ → Option (List ℕ)) → Type 0
DiffersAt key value old new = (new key ≡ value) × ((other : List ℕ) → other ≢ key → new other ≡ old other)

-- After a key is set, the result's map has the value for it, and for every other key what the source's map has.
abbrev pub SettingGivesTheValue : Repertoire → List ℕ → List ℕ → List ℕ → Type 0
SettingGivesTheValue r source key value =
    All scalar key → All scalar value → (result : List ℕ) → IsSetKeyResult r source key value (edited result)
    → (old new : List ℕ → Option (List ℕ)) → HasMap r.encoding source old → HasMap r.encoding result new → DiffersAt key (Some value) old new

-- After a key is removed, the result's map has no value for it, and for every other key what the source's map has.
abbrev pub RemovingTakesTheValue : Encoding → List ℕ → List ℕ → Type 0
RemovingTakesTheValue e source key =
    (result : List ℕ) → IsRemoveKeyResult e source key (edited result) → (old new : List ℕ → Option (List ℕ)) → HasMap e source old → HasMap e result new
    → DiffersAt key None old new

-- ---- One value.

-- Setting a key to the value that it already has changes no byte.
abbrev pub SettingItsOwnValueChangesNothing : Repertoire → List ℕ → List ℕ → List ℕ → Type 0
SettingItsOwnValueChangesNothing r source key value =
    HasValue r.encoding source key (Some value) → (result : List ℕ) → IsSetValueResult r source key value (edited result) → result ≡ source

-- Setting a value twice equals setting it once, to the later value, if the source doesn't have that value already.
abbrev pub SettingAValueTwiceIsSettingItOnce : Repertoire → List ℕ → List ℕ → List ℕ → List ℕ → Type 0
SettingAValueTwiceIsSettingItOnce r source key first second =
    All scalar key → All scalar first → All scalar second → ¬ (HasValue r.encoding source key (Some second))
    → (between : List ℕ) → IsSetValueResult r source key first (edited between)
    → (result : EditResult) → IsSetValueResult r between key second result ↔ IsSetValueResult r source key second result

-- Setting a value a second time changes no byte.
abbrev pub SettingAValueAgainChangesNothing : Repertoire → List ℕ → List ℕ → List ℕ → Type 0
SettingAValueAgainChangesNothing r source key value =
    All scalar key → All scalar value → (between : List ℕ) → IsSetValueResult r source key value (edited between)
    → IsSetValueResult r between key value (edited between)

-- After a value is set, the result's map has it for the key, and for every other key what the source's map has.
abbrev pub SettingAValueGivesIt : Repertoire → List ℕ → List ℕ → List ℕ → Type 0
SettingAValueGivesIt r source key value =
    All scalar key → All scalar value → (result : List ℕ) → IsSetValueResult r source key value (edited result)
    → (old new : List ℕ → Option (List ℕ)) → HasMap r.encoding source old → HasMap r.encoding result new → DiffersAt key (Some value) old new

-- A pair's value is set in what calls wrote: the result is what they write with that value. Readable output was on for
-- the pair, ASCII-only output is on for the edit exactly if it was for the pair, and no later pair has the key.
abbrev pub SettingAValueIsWritingAnew : Encoding → Settings → List Call → List ℕ → List ℕ → List Call → List ℕ → Type 0
SettingAValueIsWritingAnew e s before key old after value =
    let at = settings_after s before in
    let file : List ℕ → List ℕ = λ v. wrote e s 0 (before ++ pair_call key v ∷ after) in
    AreReadBack e s (before ++ pair_call key old ∷ after) → is_accepted at (pair_call key old) ≡ true → at.readable ≡ true
    → HasNoPair key (items_read_back at (line_count_after s 0 before + 1) after)
    → (result : List ℕ) → IsSetValueResult (repertoire_of e at) (file old) key value (edited result) → result ≡ file value

-- ---- Lists of edits.

-- An empty list of edits changes no byte.
abbrev pub NoEditsChangeNothing : Repertoire → List ℕ → Type 0
NoEditsChangeNothing r source = (result : List ℕ) → IsEditAllResult r source [] (edited result) → result ≡ source

-- A list of one edit has the same results as the call for that edit.
abbrev pub OneEditIsItsCall : Repertoire → List ℕ → Edit → Type 0
OneEditIsItsCall r source (put key value) =
    (result : EditResult) → IsEditAllResult r source (put key value ∷ []) result ↔ IsSetKeyResult r source key value result
OneEditIsItsCall r source (remove key) = (result : EditResult) → IsEditAllResult r source (remove key ∷ []) result ↔ IsRemoveKeyResult r.encoding source key result
OneEditIsItsCall r source (set_value key value) =
    (result : EditResult) → IsEditAllResult r source (set_value key value ∷ []) result ↔ IsSetValueResult r source key value result

-- Two lists of edits, joined into one, have the same results as the second list on the result of the first.
abbrev pub ListsOfEditsFollow : Repertoire → List ℕ → List Edit → List Edit → Type 0
ListsOfEditsFollow r source first second =
    AreScalarEdits first → (between : List ℕ) → IsEditAllResult r source first (edited between)
    → (result : EditResult) → IsEditAllResult r source (first ++ second) result ↔ IsEditAllResult r between second result

-- ---- Comments that are passed over.

-- Where no malformed escape is in a comment, edits that pass over comments have the same results as edits that read
-- them.
abbrev pub PassingOverIsReading : Repertoire → List ℕ → List Edit → Type 0
PassingOverIsReading r source edits =
    EscapesAre r.encoding source AreInPairs → (result : EditResult) → IsEditPairsResult r source edits result ↔ IsEditAllResult r source edits result

-- If no escape is malformed, the value of a key is its value where comments are passed over.
abbrev pub ValueIsAmongPairs : Encoding → List ℕ → List ℕ → Option (List ℕ) → Type 0
ValueIsAmongPairs e source key value = HasValue e source key value → HasPairValue e source key value

-- What an edit makes of a source whose encoding can be edited: the bytes of its plan, and no others.
-- Source: java.util.Properties of Java SE 7, setProperty and load (a later pair takes the place of an earlier one).
use Rattle.std.specs.Prelude.{◌≡◌, ◌↔◌, true, ℕ, List}
use Rattle.properties_format.specs.Encoding.{Encoding, Repertoire, byte_order_mark}
use Rattle.properties_format.specs.Edited.{IsKeySet, IsKeyRemoved, is_editable}
use Rattle.properties_format.specs.Valued.{IsValueSet}
use Rattle.properties_format.specs.Plan.{with_key_set, with_key_removed, with_value_set}

-- A key is set: the last pair with it becomes the printed pair, or a new pair is appended.
abbrev pub SettingFollowsItsPlan : Repertoire → List ℕ → List ℕ → List ℕ → Type 0
SettingFollowsItsPlan r source key value =
    is_editable (byte_order_mark r.encoding source).encoding ≡ true
    → (result : List ℕ) → IsKeySet r source key value result ↔ (result ≡ with_key_set r source key value)

-- A key is removed: every pair with it goes.
abbrev pub RemovingFollowsItsPlan : Encoding → List ℕ → List ℕ → Type 0
RemovingFollowsItsPlan e source key = (result : List ℕ) → IsKeyRemoved e source key result ↔ (result ≡ with_key_removed e source key)

-- A value is set: the last pair with the key keeps its front, or a new pair is appended.
abbrev pub SettingAValueFollowsItsPlan : Repertoire → List ℕ → List ℕ → List ℕ → Type 0
SettingAValueFollowsItsPlan r source key value =
    is_editable (byte_order_mark r.encoding source).encoding ≡ true
    → (result : List ℕ) → IsValueSet r source key value result ↔ (result ≡ with_value_set r source key value)

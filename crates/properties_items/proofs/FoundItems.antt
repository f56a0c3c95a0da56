-- The items that logical lines are.
use Rattle.std.proofs.Common.{◌≡◌, ◌==◌, ℕ, true, List, [], length, refl, sym, inl, inr}
use Rattle.std.specs.Prelude.{Option, Some, None, Ok}
use Rattle.std.specs.Str.{chars}
use Rattle.std.proofs.lemmas.Bool.{eqb-true}
use Rattle.std.proofs.lemmas.List.{nil_from_length}
use Rattle.std.proofs.lemmas.Str.{chars-nil}
use Rattle.properties_format.specs.Split as split
use Rattle.properties_format.specs.Split.{IsSplit}
use Rattle.properties_format.specs.Escapes.{Malformed, Breaks}
use Rattle.properties_format.specs.Items.{ignored, given, broken, IsOutcome}
use Rattle.properties_format.specs.Computed.Items.{outcome_of}
use Rattle.properties_format.proofs.Items.Unique.{outcome_of-only}
use Rattle.properties_text.specs.Escaping.{malformed_in, IsRefused}
use Rattle.properties_text.specs.declared.escape.UnescapeError.{UnescapeError}
use Rattle.properties_text.specs.declared.escape.UnescapeError.TheVariants as unescape
use Rattle.properties_items.specs.Errors.{IsUnresolvedError}
use Rattle.properties_items.specs.BorrowedItems.{found_content, spans_of, AreTextsIn, IsFoundIn, FindsIn, IsNoItem}
use Rattle.properties_text.specs.Parsing.{spanned, in_characters}
use Rattle.properties_items.specs.declared.found.Found.{Found}
use Rattle.properties_items.specs.declared.found.FoundContent.{FoundContent}
use Rattle.properties_items.specs.declared.found.FoundContent.TheVariants as found
use Rattle.properties_items.specs.declared.error.PropertiesError.{PropertiesError}

pub blank-item : (x : List ℕ) → IsSplit x split.blank → outcome_of x ≡ ignored
blank-item x h = sym (outcome_of-only x ignored h)

pub empty-item : (line : List ℕ) → (length line == 0) ≡ true → outcome_of (chars line) ≡ ignored
empty-item line h = rw (nil_from_length line (eqb-true (length line) 0 h), chars-nil) (blank-item [] tt)

pub ruleset blank_items = (blank-item, empty-item)

-- a logical line is broken where its text breaks, or there is no memory
pub no_item : (x text : List ℕ) (why : UnescapeError) (number : ℕ) (e : PropertiesError) → IsRefused text why
    → ((kind : Malformed) → Breaks text kind → IsOutcome x (broken kind)) → IsUnresolvedError why number e → IsNoItem number x e
no_item x text (unescape.Malformed why) number e h breaks says = inl (malformed_in why, sym (outcome_of-only x _ (breaks _ h)), says)
no_item x text unescape.Memory number e h breaks says = inr says

content-item : (line : List ℕ) (content : FoundContent)
    → IsSplit (chars line) (in_characters (spanned line (Some (spans_of content)))) → AreTextsIn line content
    → outcome_of (chars line) ≡ given (found_content line content)
content-item line (found.Comment text) h t = sym (outcome_of-only (chars line) _ (record { raw = _; split = h; means = t.means }))
content-item line (found.KVPair key value) h t =
    sym (outcome_of-only (chars line) _ (record { raw_key = _; raw_value = _; split = h; key_means = t.0.means; value_means = t.1.means }))

-- it is the item of that line
pub found-item : (line : List ℕ) (f : Found) → IsFoundIn line f → outcome_of (chars line) ≡ given (found_content line f.content)
found-item line f h = content-item line f.content h.slices h.texts

-- a line of which nothing plain was found is blank
pub plain-blank : (line : List ℕ) (number : ℕ) (answer : Option Found) → FindsIn line number (Ok answer) → ((f : Found) → answer ≡ Some f → ⊥)
    → outcome_of (chars line) ≡ ignored
plain-blank line number (Some f) h k = absurd (k f refl)
plain-blank line number None h k = h

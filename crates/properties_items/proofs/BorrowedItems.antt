-- What is found in a logical line.
use Rattle.std.proofs.Common.{◌≡◌, ℕ, true, refl, false, not, List, [], ◌∷◌, ◌++◌, append_assoc, append-nil, sym, ap, ◌∙◌}
use Rattle.std.specs.Prelude.{None}
use Rattle.std.specs.Str.{chars}
use Rattle.std.proofs.lemmas.Bool.{not-true}
use Rattle.properties_format.specs.Split as split
use Rattle.properties_format.specs.Split.{IsSplit}
use Rattle.properties_format.proofs.Escapes.Laws.{meaning_of-plain}
use Rattle.properties_text.specs.Escaping.{holds_backslash}
use Rattle.properties_items.specs.BorrowedItems.{IsFoundText, IsFoundIn}
use Rattle.properties_text.specs.Parsing.{bytes_in, IsSpan}
use Rattle.properties_items.specs.declared.found.FoundContent.TheVariants as found
use Rattle.properties_text.specs.declared.parse.Span.{Span}
use Rattle.properties_text.proofs.Texts.Resolving.{holds-part, holds_backslash-text, no_backslash, means_plain}

-- a slice without a backslash is its own text
pub plain-text : (line : List ℕ) (span : Span) (slice : List ℕ) → IsSpan line span → slice ≡ bytes_in line span
    → true ≡ not (holds_backslash (chars slice)) → IsFoundText line (record { span = span; resolved = None })
plain-text line span slice is same h =
    let raw = chars (bytes_in line span) in
    let none : holds_backslash raw ≡ false = ap (λ v. holds_backslash (chars v)) (sym same) ∙ not-true _ (sym h) in
    record { span = is; means = means_plain raw (meaning_of-plain raw (no_backslash raw none)); resolved = sym none }

pub ruleset plain_texts = (plain-text, holds_backslash-text)

-- the same of a slice of a line without one
plain-slice : (line : List ℕ) (span : Span) → IsSpan line span → holds_backslash (chars (bytes_in line span)) ≡ false
    → IsFoundText line (record { span = span; resolved = None })
plain-slice line span is none = plain-text line span (bytes_in line span) is refl (ap not (sym none))

pub plain-comment : (line : List ℕ) (number : ℕ) (text : Span) → IsSpan line text → holds_backslash (chars line) ≡ false
    → IsSplit (chars line) (split.comment (chars (bytes_in line text)))
    → IsFoundIn line (record { line_number = number; content = found.Comment (record { span = text; resolved = None }) })
plain-comment line number text is none h =
    let before = h.indent ++ (h.sign ∷ h.trimmed.before) in
    let whole = h.whole ∙ ap (λ v. h.indent ++ (h.sign ∷ v)) h.trimmed.whole ∙ sym (append_assoc h.indent (h.sign ∷ h.trimmed.before) _) in
    record { slices = h; texts = plain-slice line text is (holds-part before _ h.trimmed.after (rw whole at none)) }

pub plain-pair : (line : List ℕ) (number : ℕ) (key value : Span) → IsSpan line key → IsSpan line value → holds_backslash (chars line) ≡ false
    → IsSplit (chars line) (split.pair (chars (bytes_in line key)) (chars (bytes_in line value)))
    → IsFoundIn line (record { line_number = number; content = found.KVPair (record { span = key; resolved = None }) (record { span = value; resolved = None }) })
plain-pair line number key value is_key is_value none h =
    let v = chars (bytes_in line value) in
    let before = h.indent ++ (chars (bytes_in line key) ++ h.between) in
    let whole : chars line ≡ before ++ (v ++ []) = h.whole ∙ simp (append_assoc, append-nil) in
    record {
      slices = h;
      texts = (
        plain-slice line key is_key (holds-part h.indent _ (h.between ++ v) (rw h.whole at none)),
        plain-slice line value is_value (holds-part before v [] (rw whole at none)),
      );
    }

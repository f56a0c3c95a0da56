-- What is found in a source: it is read to its end and without a fault.
use Rattle.std.proofs.Common.{◌≡◌, false, true, ℕ, ◌+◌, ◌^◌, ◌<◌, List, [], ◌∷◌, ◌++◌, refl, length, ap, ◌∙◌, inl, inr}
use Rattle.std.specs.Prelude.{◌⊎◌}
use Rattle.std.specs.Borrow.{Bor}
use Rattle.std.specs.Str.{chars}
use Rattle.properties_format.specs.Encoding.{Encoding}
use Rattle.properties_format.specs.Lines.{end, Line}
use Rattle.properties_format.specs.Computed.Found.{escapes_in}
use Rattle.properties_format.specs.Computed.Items.{outcome_of}
use Rattle.properties_format.specs.Computed.Lines.{groups_in}
use Rattle.properties_format.specs.Found.{escapes_from}
use Rattle.properties_format.specs.ItemsToCome.{ReaderState, start}
use Rattle.properties_format.proofs.MalformedEscapes.{malformed_escapes_of, malformed_escapes_of-meets, malformed_escapes_of-only}
use Rattle.properties_lines.specs.LineJoiner.{LineState, JoinsNext, JoinsError}
use Rattle.properties_lines.specs.declared.error.LineError.{LineError}
use Rattle.properties_items.specs.Errors.{IsBareError, IsLineError}
use Rattle.properties_items.specs.declared.error.ErrorKind.TheVariants as kind
use Rattle.properties_items.specs.declared.error.PropertiesError.{PropertiesError}
use Rattle.properties_items.specs.declared.findings.MalformedEscape.{MalformedEscape}
use Rattle.java_properties.specs.Findings.{escape_records, HasMalformed}
use Rattle.java_properties.specs.Private.LineByLine.{Collected}
use Rattle.java_properties.proofs.MalformedEscapes.{ReadFails, StopsFinding, collected-start, collected-next, collected-groups, collected-error, found-push}
use Rattle.java_properties.proofs.SliceReads.{slice_reader, slice_of, slice-whole, slice-faultless, slice-numbered, collected-slice}

-- It has a number for each of its lines, so an error can only be for want of memory.
pub slice-error : (e : Encoding) (from to : Bor (List ℕ)) (error : PropertiesError) → length from.now + 1 < 2 ^ 64
    → ReadFails slice_reader from to ⊎ StopsFinding slice_reader e from error to → IsBareError kind.Memory error
slice-error e from to error small (inl h) = absurd (slice-faultless h.failed)
slice-error e from to error small (inr h) = elim h.is [
  | inl passes ↦ absurd (slice-numbered e from to h.bytes small h.read passes)
  | inr m ↦ m
]

-- No line came: so memory ran out.
pub slice-stopped : {e : Encoding} {source : List ℕ} {to next : Bor (List ℕ)} {gs : List (List Line)} {s t : ReaderState} {why : LineError}
    (error : PropertiesError) → length source + 1 < 2 ^ 64 → Collected slice_reader e (slice_of source) gs s (slice_of to.now) → s.is_done ≡ false
    → JoinsError slice_reader s to why t next → IsLineError why error → IsBareError kind.Memory error
slice-stopped {e} {source} {next = next} error small h live f says =
    slice-error e (slice_of source) next error small (collected-error (collected-slice refl h) live f says)

-- At its end, the groups that came are its groups.
pub slice-groups : {e : Encoding} {from to : Bor (List ℕ)} {gs : List (List Line)} {s : ReaderState} → Collected slice_reader e from gs s to
    → s.is_done ≡ true → gs ≡ groups_in e from.now end
slice-groups {e} c done = collected-groups c done ∙ ap (λ v. groups_in e v end) (slice-whole c.read (c.ended done))

-- ---- the malformed escapes

-- These were found in the groups that came.
pub record HasFound (e : Encoding) (source : List ℕ) (found : List MalformedEscape) (state : ReaderState) (left : List ℕ) : Type 0 where
  pub groups : List (List Line)
  pub collected : Collected slice_reader e (slice_of source) groups state (slice_of left)
  pub escapes : found ≡ escape_records (escapes_in groups)

module _ {e : Encoding} {source : List ℕ} where
  pub found-start : (found : List MalformedEscape) (state : ReaderState) → found ≡ [] → state ≡ start e → HasFound e source found state source
  found-start found state none is = rw (none, is) (record { groups = []; collected = collected-start e (slice_of source); escapes = refl })

  -- one group more came
  pub found-next : {to next : Bor (List ℕ)} {old : List MalformedEscape} {s : ReaderState} (number : ℕ) (new : LineState) (found : List MalformedEscape)
      → HasFound e source old s to.now → (n : JoinsNext slice_reader s to number new next)
      → found ≡ old ++ escape_records (escapes_from number (chars new.line) (outcome_of (chars new.line)) [])
      → HasFound e source found new.state next.now
  found-next {old = old} number new found h n k = record {
    groups = h.groups ++ (n.group.first ∷ n.group.others) ∷ [];
    collected = collected-slice refl (collected-next number new (collected-slice refl h.collected) n);
    escapes = found-push h.groups (n.group.first ∷ n.group.others) number (chars new.line) old found h.escapes n.group.number n.group.text k;
  }

  -- no more came
  pub found-all : {left : List ℕ} {found : List MalformedEscape} {s : ReaderState} → HasFound e source found s left → s.is_done ≡ true
      → HasMalformed e source found
  unfolding malformed_escapes_of
  found-all h done = record {
    escapes = malformed_escapes_of e source;
    are = malformed_escapes_of-meets e source;
    only = malformed_escapes_of-only e source;
    is = h.escapes ∙ ap (λ v. escape_records (escapes_in v)) (slice-groups h.collected done);
  }

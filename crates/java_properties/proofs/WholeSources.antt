-- A source whose reader failed, read again up to that fault.
use Rattle.std.proofs.Common.{◌≡◌, ◌≢◌, ℕ, false, List, [], ◌++◌, sym, ap, ◌∙◌, inl, inr, subst, append_assoc, append-nil}
use Rattle.std.specs.Prelude.{if◌then◌else◌, Option, Some, Err, IfErr}
use Rattle.std.specs.declared.io.Error.{Error}
use Rattle.std.specs.Io.KnownBytes.{Keeps}
use Rattle.counted_io.specs.Faults.{HasRisen}
use Rattle.counted_io.specs.Streams.{Reader, HasFailed}
use Rattle.properties_format.specs.Encoding.{Encoding, InForce, byte_order_mark}
use Rattle.properties_format.specs.Escapes.{Malformed, not_enough_digits, not_hex, invalid_character}
use Rattle.properties_format.specs.Items.{Entry}
use Rattle.properties_format.specs.Lines as format
use Rattle.properties_format.specs.Lines.{InputEnd}
use Rattle.properties_format.specs.ItemsToCome.{ReaderState, start, in_force, AreLinesToCome, PassesAll}
use Rattle.properties_lines.proofs.InputBuffer.{keeps-consumes}
use Rattle.properties_items.specs.Errors.{kind_of, cause_of, cause_by, IsError, IsBareError, IsMalformed}
use Rattle.java_properties.specs.ReadLines.{entries_in, IsReading, StopsMalformed, StopsFailed, StopsEarly, StopsReading}
use Rattle.java_properties.specs.WholeSources.{HasMalformedEscape, HasTooManyLines, IsCutShort, IsErrorAtFault}
use Rattle.properties_items.specs.declared.error.Cause.{Cause}
use Rattle.properties_items.specs.declared.error.ErrorKind.{ErrorKind}
use Rattle.properties_items.specs.declared.error.ErrorKind.TheVariants as kind
use Rattle.properties_items.specs.declared.error.PropertiesError.{PropertiesError}
use Rattle.properties_items.specs.declared.line.Line.{Line}

-- a read that failed
pub fails-here : {R : Type 0} {reader : Reader R} {place to : R} (source : Error) → Keeps (reader.remaining place) (reader.remaining to)
    → HasRisen (reader.faults place) (reader.faults to) → reader.read_gives place (Err source) to → HasFailed reader place [] source to
fails-here {place = place} source kept risen given = record { moved = keeps-consumes _ _ kept; risen = risen; given = (place, given) }

-- ---- errors by another cause

abbrev pub caused_by : Error → PropertiesError → PropertiesError
caused_by source error = record error { cause = cause_by source (cause_of error) }

error-by : {kind : ErrorKind} {line : Option ℕ} {cause : Cause} {error : PropertiesError} (source : Error) → IsError kind line cause error
    → IsError kind line (cause_by source cause) (caused_by source error)
error-by source h = record { its_kind = h.its_kind; its_line = h.its_line; its_cause = ap (cause_by source) h.its_cause; its_text = h.its_text }

malformed-by : {error : PropertiesError} {line : ℕ} (source : Error) (how : Malformed) → IsMalformed how line error
    → IsMalformed how line (caused_by source error)
malformed-by source not_enough_digits h = error-by source h
malformed-by source not_hex h = error-by source h
malformed-by source invalid_character h = error-by source h

-- ---- more bytes that are held

in_force-more : (s : ReaderState) (q d : List ℕ) → in_force (record s { held = s.held ++ q }) d ≡ in_force s (q ++ d)
in_force-more s q d =
    let F : List ℕ → InForce = λ v. if s.is_decided then record { encoding = s.encoding; body = v } else byte_order_mark s.encoding v in
    ap F (append_assoc s.held q d)

lines-more : (s : ReaderState) (q d : List ℕ) (ending : InputEnd) (further : List format.Line) (last : List Entry)
    → AreLinesToCome (record s { held = s.held ++ q }) d ending further last → AreLinesToCome s (q ++ d) ending further last
lines-more s q d ending further last (inl k) = inl k
lines-more s q d ending further last (inr k) = inr (
  k.0,
  record {
    pieces = k.1.pieces;
    text = k.1.text;
    all = k.1.all;
    are_pieces = rw (← in_force-more s q d) k.1.are_pieces;
    after_end = k.1.after_end;
    divided = k.1.divided;
    are_lines = k.1.are_lines;
    are_last = k.1.are_last;
  },
)

all-more : {s : ReaderState} {p : List ℕ} (q : List ℕ) → PassesAll s p → PassesAll s (p ++ q)
all-more {s} {p} q h = record {
  last = record h.last { held = h.last.held ++ q };
  passes = record {
    lines = h.passes.lines;
    first = record {
      others = λ d ending further last k. let P : List ℕ → Type 0 = λ v. AreLinesToCome s v ending (h.passes.lines ++ further) last in
          subst P (sym (append_assoc p q d)) (h.passes.first.others (q ++ d) ending further last (lines-more h.last q d ending further last k));
    };
  };
  passed = h.passed;
}

-- ---- reading again

-- a reader that has these bytes left and then fails, each time
module _ {B : Type 0} (left : B → List ℕ) (faults : B → ℕ) (identity : B → List ℕ) where
  abbrev pub broken : Reader B
  broken = record {
    remaining = λ b. Some (left b);
    faults = faults;
    at_end = λ b. false;
    identity = identity;
    read_gives = λ b answer c. IfErr answer (λ error. left c ≡ []);
  }

  divided : (b c : B) (bytes p d : List ℕ) → left b ≡ bytes → left b ≡ p ++ left c → p ++ (left c ++ d) ≡ bytes ++ d
  divided b c bytes p d whole moved = sym (append_assoc p (left c) d) ∙ ap (λ v. v ++ d) (sym moved ∙ whole)

  module _ {e : Encoding} {error : PropertiesError} {bytes : List ℕ} (source : Error) (b c : B) (whole : left b ≡ bytes) where
    again-malformed : (lines : List Line) → StopsMalformed broken e b (entries_in lines) error c → HasMalformedEscape e bytes (caused_by source error)
    again-malformed lines h = record {
      lines = lines;
      number = h.number;
      how = h.how;
      is = malformed-by source h.how h.is;
      reading = elim h.reading [
        | inl k ↦ λ d ending. rw (← divided b c bytes h.bytes d whole h.read.moved) (k (left c ++ d) ending)
        | inr k ↦ let never = k.0 in absurd (cc)
      ];
    }

    again-failed : (lines : List Line) → StopsFailed broken e b (entries_in lines) error c → IsCutShort e bytes source (caused_by source error)
    again-failed lines h =
        let all : h.bytes ≡ bytes = sym (append-nil h.bytes) ∙ ap (λ v. h.bytes ++ v) (sym h.failed.given.1) ∙ sym h.failed.moved ∙ whole in
        record { lines = lines; number = h.number; is = error-by source h.is; reading = rw all at h.reading }

    again-early : (lines : List Line) → kind_of error ≢ kind.Memory → StopsEarly broken e b (entries_in lines) error c
        → HasTooManyLines e bytes (caused_by source error)
    again-early lines room h =
        let P : List ℕ → Type 0 = λ v. PassesAll (start e) v in
        let few : IsBareError kind.TooManyLines error × PassesAll (start e) h.bytes = elim h.is [ inl k ↦ k | inr k ↦ absurd (room k.its_kind) ] in
        record {
          lines = lines;
          is = error-by source few.0;
          passes = subst P (sym h.read.moved ∙ whole) (all-more (left c) few.1);
          begins = elim h.begins [
            | inl k ↦ λ d ending. let began = k (left c ++ d) ending in
                let Q : List ℕ → Type 0 = λ v. IsReading e v ending (entries_in lines ++ began.0) in
                (began.0, subst Q (divided b c bytes h.bytes d whole h.read.moved) began.1)
            | inr k ↦ let never = k.0 in absurd (cc)
          ];
        }

    -- The error of the items of these bytes, up to a fault after them, is that of the fault.
    pub error-at-fault : kind_of error ≢ kind.Memory → StopsReading broken e b error c → IsErrorAtFault e bytes source (caused_by source error)
    error-at-fault room h = elim h.stops [
      | inl k ↦ inl (again-malformed h.lines k)
      | inr j ↦ inr (elim j [ inl k ↦ inr (inl (again-failed h.lines k)) | inr k ↦ inl (again-early h.lines room k) ])
    ]

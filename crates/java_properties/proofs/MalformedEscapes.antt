-- The groups of an input as they come, and the malformed escapes of their logical lines.
use Rattle.std.proofs.Common.{◌≡◌, ℕ, true, false, List, [], ◌∷◌, ◌++◌, refl, sym, ap, ap₂, ◌∙◌, inl, inr, subst, append_assoc, append-nil}
use Rattle.std.specs.Prelude.{◌⊎◌, Option, Some, None, Result, Ok, Err}
use Rattle.std.proofs.lemmas.List.{map-append}
use Rattle.std.specs.Str.{chars}
use Rattle.std.specs.declared.io.Error.{Error}
use Rattle.counted_io.specs.Streams.{Reader, HasRead, HasFailed}
use Rattle.counted_io.proofs.Streams.{read-none, read-more, failed-more}
use Rattle.properties_format.specs.Encoding.{Encoding}
use Rattle.properties_format.specs.Lines.{InputEnd, end, Line, numbered_lines, IsGroups, HasGroups, AreWhole, IsWhole, IsUnfinished, lines_in, joined}
use Rattle.properties_format.specs.Lines.{first_number}
use Rattle.properties_format.specs.Computed.Encoding.{decoded_of}
use Rattle.properties_format.specs.Computed.Lines.{lines_of, groups_of, groups_in}
use Rattle.properties_format.specs.Escapes.{means}
use Rattle.properties_format.specs.Split.{Logical, IsSplit}
use Rattle.properties_format.specs.Computed.Escapes.{meaning_of}
use Rattle.properties_format.specs.Computed.Split.{split_of}
use Rattle.properties_format.proofs.Escapes.Laws.{meaning_of-plain}
use Rattle.properties_format.proofs.Split.Unique.{split_of-meets, split_of-only}
use Rattle.properties_format.specs.Computed.Items.{comment_outcome, outcome_of, pair_outcome, split_outcome}
use Rattle.properties_format.specs.ItemsToCome.{ReaderState, PassesAll, start}
use Rattle.properties_format.specs.Computed.ItemsToCome.{natural_to_come}
use Rattle.properties_format.specs.Found.{escapes_from}
use Rattle.properties_format.specs.Computed.Found.{escapes_in}
use Rattle.properties_format.proofs.Groups.Meets.{groups_of-meets}
use Rattle.properties_format.proofs.Groups.Input.{groups-of_lines, groups_in-only}
use Rattle.properties_format.proofs.ItemsToCome.Lines.{natural-done}
use Rattle.properties_format.proofs.MalformedEscapes.{escapes_in-append, natural-start}
use Rattle.properties_lines.specs.LineReader.{Passes}
use Rattle.properties_lines.specs.LineJoiner.{LineState, JoinsNext, JoinsError}
use Rattle.properties_lines.specs.declared.error.LineError.{LineError}
use Rattle.properties_lines.proofs.LineJoiner.{passes-start, passes-on, some-come, all-on}
use Rattle.properties_text.specs.Escaping.{holds_backslash, Checks}
use Rattle.properties_text.specs.Parsing.{bytes_in, in_characters, spanned}
use Rattle.properties_text.specs.declared.encoding.line_encoding.LineEncoding.TheVariants.{Utf8}
use Rattle.properties_text.specs.declared.parse.ParsedSpans.{ParsedSpans}
use Rattle.properties_text.specs.declared.parse.ParsedSpans.TheVariants as spans
use Rattle.properties_text.specs.declared.parse.Span.{Span}
use Rattle.properties_text.proofs.Texts.Resolving.{holds-part, no_backslash}
use Rattle.properties_text.specs.declared.escape.Malformed as escape
use Rattle.properties_items.specs.Errors.{IsBareError, IsLineError}
use Rattle.java_properties.specs.Findings.{escape_record, escape_records}
use Rattle.java_properties.specs.Private.LineByLine.{ChecksLine, Collected}
use Rattle.properties_items.specs.declared.error.ErrorKind.TheVariants as kind
use Rattle.properties_items.specs.declared.error.PropertiesError.{PropertiesError}
use Rattle.properties_items.specs.declared.findings.MalformedEscape.{MalformedEscape}

-- ---- groups

lines_in-push : (gs : List (List Line)) (g : List Line) → lines_in (gs ++ g ∷ []) ≡ lines_in gs ++ g
lines_in-push [] g = append-nil g
lines_in-push (h ∷ gs) g = ap (λ v. h ++ v) (lines_in-push gs g) ∙ sym (append_assoc h (lines_in gs) g)

are_whole-push : (gs : List (List Line)) (g : List Line) → AreWhole gs → IsWhole g → AreWhole (gs ++ g ∷ [])
are_whole-push [] g h k = (k, tt)
are_whole-push (f ∷ gs) g h k = (h.0, are_whole-push gs g h.1 k)

whole-groups : (gs : List (List Line)) → AreWhole gs → IsGroups (lines_in gs) end gs
whole-groups gs h = record {
  whole = gs;
  unfinished = [];
  are_lines = sym (append-nil (lines_in gs));
  are_whole = h;
  is_unfinished = tt;
  are_groups = sym (append-nil gs);
}

-- whole groups at the front
groups-after : (gs : List (List Line)) (ls : List Line) (ending : InputEnd) (hs : List (List Line)) → AreWhole gs → IsGroups ls ending hs
    → IsGroups (lines_in gs ++ ls) ending (gs ++ hs)
groups-after [] ls ending hs h k = k
groups-after (g ∷ gs) ls ending hs h k =
    let after = groups-after gs ls ending hs h.1 k in
    record {
      whole = g ∷ after.whole;
      unfinished = after.unfinished;
      are_lines = append_assoc g (lines_in gs) ls ∙ ap (λ v. g ++ v) after.are_lines ∙ sym (append_assoc g (lines_in after.whole) after.unfinished);
      are_whole = (h.0, after.are_whole);
      is_unfinished = after.is_unfinished;
      are_groups = ap (λ v. g ∷ v) after.are_groups;
    }

last-groups : (gs : List (List Line)) (l : Line) (ls : List Line) → AreWhole gs → IsUnfinished (l ∷ ls)
    → IsGroups (lines_in (gs ++ (l ∷ ls) ∷ [])) end (gs ++ (l ∷ ls) ∷ [])
last-groups gs l ls h k = record {
  whole = gs;
  unfinished = l ∷ ls;
  are_lines = lines_in-push gs (l ∷ ls);
  are_whole = h;
  is_unfinished = k;
  are_groups = refl;
}

whole-next : (gs : List (List Line)) (g : List Line) (new : ReaderState) → AreWhole gs → new.is_done ≡ false
    → IsWhole g ⊎ (new.is_done ≡ true) × IsUnfinished g → AreWhole (gs ++ g ∷ [])
whole-next gs g new h d (inl w) = are_whole-push gs g h w
whole-next gs g new h d (inr u) = let k = u.0 in absurd (cc)

groups-next : (gs : List (List Line)) (l : Line) (ls : List Line) (new : ReaderState) → AreWhole gs
    → IsWhole (l ∷ ls) ⊎ (new.is_done ≡ true) × IsUnfinished (l ∷ ls) → IsGroups (lines_in (gs ++ (l ∷ ls) ∷ [])) end (gs ++ (l ∷ ls) ∷ [])
groups-next gs l ls new h (inl w) = whole-groups (gs ++ (l ∷ ls) ∷ []) (are_whole-push gs (l ∷ ls) h w)
groups-next gs l ls new h (inr u) = last-groups gs l ls h u.1

-- what one group more adds
pub found-push : (gs : List (List Line)) (g : List Line) (number : ℕ) (x : List ℕ) (old new : List MalformedEscape) → old ≡ escape_records (escapes_in gs)
    → number ≡ first_number g → x ≡ joined g → new ≡ old ++ escape_records (escapes_from number x (outcome_of x) [])
    → new ≡ escape_records (escapes_in (gs ++ g ∷ []))
found-push gs g number x old new h i j k =
    k
    ∙ ap₂ (λ v w. v ++ escape_records w) h (ap₂ (λ v w. escapes_from v w (outcome_of w) []) i j)
    ∙ sym (ap escape_records (escapes_in-append gs (g ∷ [])) ∙ map-append escape_record (escapes_in gs) (escapes_in (g ∷ [])))

-- ---- a logical line

-- what its parts say of it
outcome-parts : (line : List ℕ) (parts : Option ParsedSpans) → IsSplit (chars line) (in_characters (spanned line parts))
    → outcome_of (chars line) ≡ split_outcome (in_characters (spanned line parts))
outcome-parts line parts h = ap split_outcome (sym (split_of-only (chars line) (in_characters (spanned line parts)) h))

pub blank-checked : (line : List ℕ) → IsSplit (chars line) Logical.blank → ChecksLine (chars line) (Ok tt)
blank-checked line h = λ number. ap (λ v. escapes_from number (chars line) v []) (outcome-parts line None h)

pub comment-checked : (line : List ℕ) (text : Span) (result : Result Unit escape.Malformed)
    → IsSplit (chars line) (Logical.comment (chars (bytes_in line text))) → Checks Utf8 (bytes_in line text) result → ChecksLine (chars line) result
comment-checked line text (Ok done) h c =
    λ number. ap (λ v. escapes_from number (chars line) v []) (outcome-parts line (Some (spans.Comment text)) h ∙ ap comment_outcome c.1)
comment-checked line text (Err how) h c = outcome-parts line (Some (spans.Comment text)) h ∙ ap comment_outcome c

module _ (line : List ℕ) (key value : Span) (h : IsSplit (chars line) (Logical.pair (chars (bytes_in line key)) (chars (bytes_in line value)))) where
  pub key-checked : (how : escape.Malformed) → Checks Utf8 (bytes_in line key) (Err how) → ChecksLine (chars line) (Err how)
  key-checked how c = outcome-parts line (Some (spans.KVPair key value)) h ∙ ap (λ m. pair_outcome m (meaning_of (chars (bytes_in line value)))) c

  pub value-checked : (result : Result Unit escape.Malformed) → Checks Utf8 (bytes_in line key) (Ok tt) → Checks Utf8 (bytes_in line value) result
      → ChecksLine (chars line) result
  value-checked (Ok done) k c =
      λ number. ap (λ v. escapes_from number (chars line) v []) (outcome-parts line (Some (spans.KVPair key value)) h ∙ ap₂ pair_outcome k.1 c.1)
  value-checked (Err how) k c = outcome-parts line (Some (spans.KVPair key value)) h ∙ ap₂ pair_outcome k.1 c

-- Without a backslash it has none.
pub plain-none : (number : ℕ) (x : List ℕ) → holds_backslash x ≡ false → escapes_from number x (outcome_of x) [] ≡ []
plain-none number x none = by (split_of x) (split_of-meets x)
  where
    meant : (raw : List ℕ) → holds_backslash raw ≡ false → meaning_of raw ≡ means raw
    meant raw h = meaning_of-plain raw (no_backslash raw h)

    by : (l : Logical) → IsSplit x l → escapes_from number x (split_outcome l) [] ≡ []
    by Logical.blank h = refl
    by (Logical.comment raw) h =
        let before = h.indent ++ (h.sign ∷ h.trimmed.before) in
        let whole = h.whole ∙ ap (λ v. h.indent ++ (h.sign ∷ v)) h.trimmed.whole ∙ sym (append_assoc h.indent (h.sign ∷ h.trimmed.before) _) in
        ap (λ m. escapes_from number x (comment_outcome m) []) (meant raw (holds-part before raw h.trimmed.after (rw whole at none)))
    by (Logical.pair key value) h =
        let before = h.indent ++ (key ++ h.between) in
        let whole : x ≡ before ++ (value ++ []) = h.whole ∙ simp (append_assoc, append-nil) in
        ap₂ (λ m n. escapes_from number x (pair_outcome m n) []) (meant key (holds-part h.indent key (h.between ++ value) (rw h.whole at none)))
        (meant value (holds-part before value [] (rw whole at none)))

-- ---- the reading

-- A read failed.
pub record ReadFails {R : Type 0} (reader : Reader R) (from to : R) : Type 0 where
  pub bytes : List ℕ
  pub cause : Error
  pub failed : HasFailed reader from bytes cause to

-- There was no number for another line after those that were read, or memory ran out.
pub record StopsFinding {R : Type 0} (reader : Reader R) (e : Encoding) (from : R) (error : PropertiesError) (to : R) : Type 0 where
  pub bytes : List ℕ
  pub read : HasRead reader from bytes to
  pub is : PassesAll (start e) bytes ⊎ IsBareError kind.Memory error

module _ {R : Type 0} {reader : Reader R} (e : Encoding) (from : R) where
  pub collected-start : Collected reader e from [] (start e) from
  collected-start = record {
    bytes = [];
    read = read-none from;
    passes = passes-start (start e);
    whole = λ d. tt;
    grouped = whole-groups [] tt;
    ended = λ d. absurd (cc);
  }

module _ {R : Type 0} {reader : Reader R} {e : Encoding} {from to : R} {s : ReaderState} where
  -- one group more came
  pub collected-next : {next : R} {gs : List (List Line)} (number : ℕ) (new : LineState) → Collected reader e from gs s to
      → (n : JoinsNext reader s to number new next) → Collected reader e from (gs ++ (n.group.first ∷ n.group.others) ∷ []) new.state next
  collected-next {gs = gs} number new h n =
      let group = n.group.first ∷ n.group.others in
      let P : List Line → Type 0 = λ v. Passes (start e) (h.bytes ++ n.bytes) v new.state in
      record {
        bytes = h.bytes ++ n.bytes;
        read = read-more h.read n.read;
        passes = subst P (sym (lines_in-push gs group)) (passes-on h.passes n.live n.group.passes);
        whole = λ d. whole-next gs group new.state (h.whole n.live) d n.group.ends;
        grouped = groups-next gs n.group.first n.group.others new.state (h.whole n.live) n.group.ends;
        ended = n.ended;
      }

  -- others are to come: these groups come before theirs
  pub collected-on : {gs : List (List Line)} (h : Collected reader e from gs s to) → s.is_done ≡ false → (d : List ℕ) (ending : InputEnd)
      → HasGroups e (h.bytes ++ d) ending (gs ++ groups_of (natural_to_come s d ending) ending)
  collected-on {gs = gs} h live d ending =
      let later = natural_to_come s d ending in
      let P : List Line → Type 0 = λ v. IsGroups v ending (gs ++ groups_of later ending) in
      groups-of_lines e (h.bytes ++ d) ending (subst P (sym (by-passes h.passes) ∙ natural-start e (h.bytes ++ d) ending)
      (groups-after gs later ending (groups_of later ending) (h.whole live) (groups_of-meets later ending)))
    where
      by-passes : Passes (start e) h.bytes (lines_in gs) s → natural_to_come (start e) (h.bytes ++ d) ending ≡ lines_in gs ++ natural_to_come s d ending
      by-passes (Passes.going_on g reads) = (reads.gives d ending).natural
      by-passes (Passes.at_last g gives) = absurd (cc)

  -- no more came: these are the groups of the bytes
  pub collected-lines : {gs : List (List Line)} (h : Collected reader e from gs s to) → s.is_done ≡ true → HasGroups e h.bytes end gs
  collected-lines {gs = gs} h d = by-passes h.passes
    where
      by-passes : Passes (start e) h.bytes (lines_in gs) s → HasGroups e h.bytes end gs
      by-passes (Passes.going_on g reads) = absurd (cc)
      by-passes (Passes.at_last g gives) =
          let lines : numbered_lines (lines_of (decoded_of e h.bytes)) end ≡ lines_in gs =
          sym (natural-start e h.bytes end) ∙ gives.natural ∙ ap (λ v. lines_in gs ++ v) (natural-done s [] end d).0 ∙ append-nil (lines_in gs) in
          let P : List Line → Type 0 = λ v. IsGroups v end gs in
          groups-of_lines e h.bytes end (subst P (sym lines) h.grouped)

  pub collected-groups : {gs : List (List Line)} (h : Collected reader e from gs s to) → s.is_done ≡ true → gs ≡ groups_in e h.bytes end
  collected-groups {gs = gs} h d = groups_in-only e h.bytes end gs (collected-lines h d)

  -- no line came
  pub collected-error : {next : R} {gs : List (List Line)} {t : ReaderState} {why : LineError} {error : PropertiesError} → Collected reader e from gs s to
      → s.is_done ≡ false → JoinsError reader s to why t next → IsLineError why error
      → ReadFails reader from next ⊎ StopsFinding reader e from error next
  collected-error h live (inl f) says = inl (record { bytes = h.bytes ++ f.bytes; cause = f.error; failed = failed-more h.read f.failed })
  collected-error h live (inr (inl f)) says =
      inr (record { bytes = h.bytes ++ f.bytes; read = read-more h.read f.read; is = inl (all-on (some-come h.passes live) f.passes) })
  collected-error h live (inr (inr f)) says = inr (record { bytes = h.bytes ++ f.bytes; read = read-more h.read f.read; is = inr (rw f.is at says) })

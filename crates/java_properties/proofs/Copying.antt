-- How items are copied one after another.
use Rattle.std.proofs.Common.{◌≡◌, ◌<◌, ◌^◌, ℕ, List, [], ◌++◌, refl, sym, ap, subst, inl, inr}
use Rattle.std.specs.Prelude.{true, Option, None, Some, Result, Ok, Err}
use Rattle.std.specs.declared.io.Error as io
use Rattle.counted_io.specs.Streams.{Reader, Sink}
use Rattle.properties_format.specs.Items.{comment, pair, given}
use Rattle.properties_format.specs.ItemsToCome.{ReaderState}
use Rattle.properties_format.specs.Lines.{Line}
use Rattle.properties_format.specs.Computed.Items.{outcome_of}
use Rattle.properties_lines.specs.LineJoiner.{LineJoining, JoinsLine, JoinsNoLine}
use Rattle.properties_lines.specs.declared.error.LineError.{LineError}
use Rattle.properties_items.specs.Errors.{IsError, IsBareError, IsLineError, cause_of_write}
use Rattle.properties_items.specs.BorrowedItems.{IsNoItem}
use Rattle.properties_items.specs.declared.error.ErrorKind.{ErrorKind}
use Rattle.properties_items.specs.declared.error.ErrorKind.TheVariants.{Io}
use Rattle.properties_items.specs.declared.error.PropertiesError.{PropertiesError}
use Rattle.java_properties.specs.Copying.{Copies, CopiesItem, HasScalars}
use Rattle.java_properties.specs.Private.LineByLine.{HasBuilt, IsNoPair}
use Rattle.java_properties.specs.Private.Engine.{writing, SendsLine}
use Rattle.java_properties.specs.PropertiesIter.{Iteration}
use Rattle.java_properties.specs.PropertiesWriter.{Writing, WritesLine}
use Rattle.java_properties.specs.declared.copy.CopyError.{CopyError}
use Rattle.java_properties.specs.declared.copy.CopyError.TheVariants.{Read, Write}
use Rattle.java_properties.specs.declared.writer.engine.Engine.{Engine}
use Rattle.java_properties.proofs.Engine.{numbered, unnumbered, sent-line, unsent-line}
use Rattle.java_properties.proofs.Items.{Passed, passed-start, passed-blank, passed-no_item, passed-error, passed-none, gives-spelt, stopped, ended}

-- ---- the line of a pair

module _ {W : Type 0} {sink : Sink W} (w : Engine) (from : W) {text : List ℕ} where
  module _ (number : ℕ) (after : Writing W) (h : HasBuilt text (Ok number) w) (small : number < 2 ^ 64) where
    -- the line that was built was sent
    pub built-sent : SendsLine sink (writing w from) w.line number (Ok tt) after → WritesLine sink (writing w from) (pair h.key h.value) (Ok tt) after
    built-sent sends =
        sent-line w w from (pair h.key h.value) number after (numbered w from (pair h.key h.value) number small h.numbers) h.numbers.2 refl h.built sends

    -- or it couldn't be sent
    pub built-unsent : (cause : Option io.Error) (error : PropertiesError) → SendsLine sink (writing w from) w.line number (Err cause) after
        → IsError Io (Some number) (cause_of_write cause) error → WritesLine sink (writing w from) (pair h.key h.value) (Err error) after
    built-unsent cause error sends is =
        let takes = numbered w from (pair h.key h.value) number small h.numbers in
        inr (unsent-line w w from (pair h.key h.value) number after takes h.numbers.2 refl h.built cause error sends is)

  -- or it has no number
  pub built-refused : (why : ErrorKind) (error : PropertiesError) (h : HasBuilt text (Err why) w) → IsBareError why error
      → WritesLine sink (writing w from) (pair h.key h.value) (Err error) (writing w from)
  built-refused why error h is = inl (unnumbered w from (pair h.key h.value) why error h.numbers is)

-- ---- item after item

-- Items were copied so far. What is copied from here on, after some blank lines, is copied from the start.
pub record IsCopiedTo {R W : Type 0} (reader : Reader R) (sink : Sink W) (old : Iteration R) (writer : Writing W) (state : ReaderState) (to : R)
    (so_far : Writing W) : Type 0 where
  pub between : Iteration R
  pub bytes : List ℕ
  pub passed : Passed reader between.state between.reader bytes state to
  pub along : (result : Result Unit CopyError) (new : Iteration R) (written : Writing W) → Copies reader sink between so_far result new written
      → Copies reader sink old writer result new written

module _ {R W : Type 0} {reader : Reader R} {sink : Sink W} {old : Iteration R} {writer : Writing W} where
  pub copied-start : IsCopiedTo reader sink old writer old.state old.reader writer
  copied-start = record { between = old; bytes = []; passed = passed-start old.state old.reader; along = λ result new written h. h }

  -- what is built changes nothing that callers see
  pub copied-same : {state : ReaderState} {to : R} {from : W} (a b : Engine) → b ≡ record a { line = b.line }
      → IsCopiedTo reader sink old writer state to (writing a from)
      → IsCopiedTo reader sink old writer state to (writing b from)
  copied-same {state} {to} {from} a b same h = subst (IsCopiedTo reader sink old writer state to) (sym (ap (λ (w : Engine). writing w from) same)) h

  -- an item was copied
  copied-item : {state : ReaderState} {to : R} {so_far : Writing W} (h : IsCopiedTo reader sink old writer state to so_far) (new : ReaderState) (next : R)
      (after : Writing W)
      → CopiesItem reader sink h.between so_far (record { reader = next; state = new; line = [] }) after → IsCopiedTo reader sink old writer new next after
  copied-item h new next after item =
      let between : Iteration R = record { reader = next; state = new; line = [] } in
      record {
        between = between;
        bytes = [];
        passed = passed-start new next;
        along = λ result last written more. h.along result last written (Copies.goes_on between after item more);
      }

  module _ {state : ReaderState} {to : R} {so_far : Writing W} (h : IsCopiedTo reader sink old writer state to so_far) {line : Line} {new : ReaderState}
      {next : R}
      (joins : JoinsLine reader state to line new next) where
    -- a line came that is no pair
    pub copied-no_pair : IsNoPair line.text → IsCopiedTo reader sink old writer new next so_far
    copied-no_pair (inl blank) = record {
      between = h.between;
      bytes = h.bytes ++ joins.bytes;
      passed = passed-blank line new h.passed joins blank;
      along = h.along;
    }
    copied-no_pair (inr (raw, is)) = copied-item h new next so_far (record {
      number = line.number;
      content = comment raw;
      gives = (gives-spelt line new (comment raw) h.passed joins is).0;
      scalars = tt;
      writes = (refl, refl);
    })

    -- a pair came and was written
    pub copied-pair : (key value : List ℕ) (after : Writing W) → outcome_of line.text ≡ given (pair key value) → HasScalars (pair key value)
        → WritesLine sink so_far (pair key value) (Ok tt) after → IsCopiedTo reader sink old writer new next after
    copied-pair key value after is scalars writes = copied-item h new next after (record {
      number = line.number;
      content = pair key value;
      gives = (gives-spelt line new (pair key value) h.passed joins is).0;
      scalars = scalars;
      writes = writes;
    })

    -- or it couldn't be written
    pub copied-unwritten : (key value bytes : List ℕ) (error : PropertiesError) (after : Writing W) → outcome_of line.text ≡ given (pair key value)
        → HasScalars (pair key value) → WritesLine sink so_far (pair key value) (Err error) after
        → Copies reader sink old writer (Err (Write error)) (record { reader = next; state = new; line = bytes }) after
    copied-unwritten key value bytes error after is scalars writes =
        h.along _ _ _ (Copies.stops_writing error refl (record {
          number = line.number;
          key = key;
          value = value;
          gives = (gives-spelt line new (pair key value) h.passed joins is).0;
          scalars = scalars;
          writes = writes;
        }))

    -- a line came whose escapes can't be resolved, or there was no memory
    pub copied-unread : (bytes : List ℕ) (error : PropertiesError) (last : ReaderState) → last.is_done ≡ true → IsNoItem line.number line.text error
        → Copies reader sink old writer (Err (Read error)) (record { reader = next; state = last; line = bytes }) so_far
    copied-unread bytes error last done none =
        let k = passed-no_item line new h.passed joins none in
        h.along _ _ _ (Copies.stops_reading error refl (record { live = k.0; done = done; why = k.1; same = refl }))

  module _ {to : R} {so_far : Writing W} (before lines : LineJoining) (next : R) (h : IsCopiedTo reader sink old writer before.at.state to so_far)
      (quiet : before.error ≡ None) (joins : JoinsNoLine reader before to lines next) where
    -- no more lines come
    pub copied-all : (bytes : List ℕ) → lines.error ≡ None
        → Copies reader sink old writer (Ok tt) (record { reader = next; state = lines.at.state; line = bytes }) so_far
    copied-all bytes none =
        let end = ended joins none in
        let state = ap (λ (l : LineJoining). l.at.state) end.1 in
        h.along _ _ _ (Copies.ends refl (record { gives = passed-none h.passed end.0 state end.2; same = refl }))

    -- or the next one couldn't be read
    pub copied-error : (bytes : List ℕ) (why : LineError) (error : PropertiesError) → lines.error ≡ Some why → IsLineError why error
        → Copies reader sink old writer (Err (Read error)) (record { reader = next; state = lines.at.state; line = bytes }) so_far
    copied-error bytes why error kept says =
        let stop = stopped joins quiet kept in
        let p = passed-error h.passed stop.0 stop.2 says in
        h.along _ _ _ (Copies.stops_reading error refl (record { live = p.0; done = stop.1; why = p.1; same = refl }))

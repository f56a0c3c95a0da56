-- The pairs of a source, taken logical line after logical line.
use Rattle.std.proofs.Common.{◌≡◌, ℕ, ◌+◌, ◌^◌, ◌<◌, true, false, List, [], ◌∷◌, ◌++◌, length, refl, sym, ap, ap₂, ◌∙◌, inl, inr, subst, append_assoc}
use Rattle.std.proofs.Common.{append-nil}
use Rattle.std.specs.Prelude.{◌⊎◌, Bool, if◌then◌else◌, Option, Some, None, Ok, bytes_eq}
use Rattle.std.specs.Borrow.{Bor}
use Rattle.std.specs.Str.{chars}
use Rattle.std.proofs.Math.Path.{fun_ext}
use Rattle.std.proofs.lemmas.Bool.{cases_Bool}
use Rattle.properties_format.specs.Encoding.{Encoding}
use Rattle.properties_format.specs.Lines.{end, Line, is_comment_line, joined, first_number, line_endings, lines_in}
use Rattle.properties_format.specs.Computed.Encoding.{decoded_of}
use Rattle.properties_format.specs.Computed.Lines.{groups_in, groups_of, lines_of}
use Rattle.properties_format.specs.Items.{comment, pair, Entry, AreItems, Outcome, ignored, given, broken}
use Rattle.properties_format.specs.Escapes.{Malformed}
use Rattle.properties_format.specs.Maps.{HasValue}
use Rattle.properties_format.specs.Found.{MalformedEscape, escapes_from}
use Rattle.properties_format.specs.Edited.{IsFirstMalformed}
use Rattle.properties_format.specs.Edits.{AreInComments, IsFirstInPair, pair_from}
use Rattle.properties_format.specs.ItemsToCome.{ReaderState, start}
use Rattle.properties_format.specs.Computed.Edited.{IsSoundOutcome}
use Rattle.properties_format.specs.Computed.Items.{outcome_of, followed, entries_of, items_of}
use Rattle.properties_format.specs.Computed.ItemsToCome.{natural_to_come}
use Rattle.properties_format.specs.Computed.Found.{found_in, escapes_in}
use Rattle.properties_format.specs.Computed.Maps.{first_value}
use Rattle.properties_format.proofs.Edits.PairValues.{pairs_in, pairs_in-push, pairs_of, pairs_of-meets, pairs_of-only, value-among_pairs}
use Rattle.properties_format.proofs.Found.{found_in-append}
use Rattle.properties_format.proofs.Groups.Input.{groups_in-meets, groups_in-only}
use Rattle.properties_format.proofs.Items.Unique.{items_of-meets}
use Rattle.properties_format.proofs.MalformedEscapes.{escapes-are}
use Rattle.properties_format.proofs.Maps.{value_in-append, value_in-meets, value_in-only, value_in}
use Rattle.properties_lines.specs.LineReader.{Passes}
use Rattle.properties_lines.specs.LineJoiner.{LineState, JoinsNext, JoinsError}
use Rattle.properties_lines.specs.declared.error.LineError.{LineError}
use Rattle.properties_items.specs.Errors.{IsBareError, IsLineError, IsMalformed}
use Rattle.properties_items.specs.declared.error.ErrorKind.TheVariants as kind
use Rattle.properties_items.specs.BorrowedItems.{IsFoundIn, found_content, outcome_pair}
use Rattle.properties_items.specs.declared.found.Found.{Found}
use Rattle.properties_items.proofs.FoundItems.{found-item}
use Rattle.properties_editing.proofs.PassedOver.{passed-no_pair}
use Rattle.properties_items.specs.declared.error.PropertiesError.{PropertiesError}
use Rattle.properties_editing.specs.Comments.{passes_over}
use Rattle.properties_editing.specs.Documents.{HasValueFor}
use Rattle.properties_editing.specs.Private.Sound.{IsErrorOfLine, IsSoundFor}
use Rattle.properties_editing.specs.declared.source.Comments.{Comments}
use Rattle.properties_editing.specs.declared.source.Comments.TheVariants.{Read, PassedOver}
use Rattle.java_properties.specs.Findings.{IsSourceError}
use Rattle.java_properties.specs.Private.LineByLine.{Collected, TakesPairs, values_after}
use Rattle.java_properties.proofs.MalformedEscapes.{collected-start, collected-next, collected-on}
use Rattle.java_properties.proofs.SliceReads.{collected-slice, slice_of, slice_reader, slice-read}
use Rattle.java_properties.proofs.SourceFindings.{slice-stopped, slice-groups}

-- ---- the malformed escapes that are read

-- how an escape is malformed, and the number of the line in which its logical line begins
abbrev pub Fault : Type 0
Fault = Malformed × ℕ

-- that of a logical line which isn't passed over, before those of the lines after it
abbrev pub faults_from : Comments → ℕ → List ℕ → Outcome → List Fault → List Fault
faults_from comments number x (broken how) rest = if passes_over comments x then rest else (how, number) ∷ rest
faults_from comments number x outcome rest = rest

abbrev pub faults_in : Comments → List (List Line) → List Fault
faults_in comments groups = found_in (faults_from comments) groups

unless-append : (b : Bool) (f : Fault) (xs ys : List Fault) → (if b then xs ++ ys else f ∷ (xs ++ ys)) ≡ (if b then xs else f ∷ xs) ++ ys
unless-append true f xs ys = refl
unless-append false f xs ys = refl

from-append : (comments : Comments) (number : ℕ) (x : List ℕ) (o : Outcome) (xs ys : List Fault)
    → faults_from comments number x o (xs ++ ys) ≡ faults_from comments number x o xs ++ ys
from-append comments number x ignored xs ys = refl
from-append comments number x (given content) xs ys = refl
from-append comments number x (broken how) xs ys = unless-append (passes_over comments x) (how, number) xs ys

faults-append : (comments : Comments) (gs hs : List (List Line)) → faults_in comments (gs ++ hs) ≡ faults_in comments gs ++ faults_in comments hs
faults-append comments gs hs = found_in-append (faults_from comments) (from-append comments) gs hs

-- A sound line has none,
from-sound : (comments : Comments) (number : ℕ) (x : List ℕ) (o : Outcome) → IsSoundOutcome o ⊎ (passes_over comments x ≡ true)
    → faults_from comments number x o [] ≡ []
from-sound comments number x ignored h = refl
from-sound comments number x (given content) h = refl
from-sound comments number x (broken how) (inl h) = absurd h
from-sound comments number x (broken how) (inr h) = rw h refl

-- and one that isn't passed over has its own.
from-broken : (comments : Comments) (number : ℕ) (x : List ℕ) (how : Malformed) (rest : List Fault) → passes_over comments x ≡ false
    → faults_from comments number x (broken how) rest ≡ (how, number) ∷ rest
from-broken comments number x how rest h = rw h refl

-- ---- what they say of items and of malformed escapes

-- The first of them is the first malformed item, or there is none.
abbrev AreOfItems : List Fault → List Entry → Type 0
AreOfItems [] entries = AreItems entries
AreOfItems (f ∷ fs) entries = IsFirstMalformed f.0 f.1 entries

items-next : (number : ℕ) (x : List ℕ) (o : Outcome) (fs : List Fault) (entries : List Entry) → AreOfItems fs entries
    → AreOfItems (faults_from Read number x o fs) (followed number o entries)
items-next number x ignored fs entries h = h
items-next number x (given content) [] entries h = h
items-next number x (given content) (f ∷ fs) entries h = h
items-next number x (broken how) fs entries h = (refl, refl)

faults-items : (n : ℕ) (gs : List (List Line)) → AreOfItems (faults_in Read gs) (entries_of n end gs)
faults-items n [] = tt
faults-items n (g ∷ gs) = items-next (first_number g) (joined g) (outcome_of (joined g)) (faults_in Read gs) (entries_of n end gs) (faults-items n gs)

-- Where comments are passed over, it is the first malformed escape of a pair.
abbrev AreOfPairs : List Fault → List MalformedEscape → Type 0
AreOfPairs [] escapes = AreInComments escapes
AreOfPairs (f ∷ fs) escapes = IsFirstInPair f.0 f.1 escapes

comment-next : (m : MalformedEscape) (fs : List Fault) (escapes : List MalformedEscape) → m.in_comment ≡ true → AreOfPairs fs escapes
    → AreOfPairs fs (m ∷ escapes)
comment-next m [] escapes c h = (c, h)
comment-next m (f ∷ fs) escapes c h = inr (c, h)

pairs-next : (number : ℕ) (x : List ℕ) (o : Outcome) (fs : List Fault) (escapes : List MalformedEscape) → AreOfPairs fs escapes
    → AreOfPairs (faults_from PassedOver number x o fs) (escapes_from number x o escapes)
pairs-next number x ignored fs escapes h = h
pairs-next number x (given content) fs escapes h = h
pairs-next number x (broken how) fs escapes h = elim (cases_Bool (is_comment_line x)) [
  | inl c ↦ rw c (comment-next _ fs escapes refl h)
  | inr c ↦ rw c (inl (refl, refl, refl))
]

faults-pairs : (gs : List (List Line)) → AreOfPairs (faults_in PassedOver gs) (escapes_in gs)
faults-pairs [] = tt
faults-pairs (g ∷ gs) = pairs-next (first_number g) (joined g) (outcome_of (joined g)) (faults_in PassedOver gs) (escapes_in gs) (faults-pairs gs)

-- ---- a source

module _ (e : Encoding) (source : List ℕ) where
  -- the groups of a source
  abbrev all : List (List Line)
  all = groups_in e source end

  items-said : (fs : List Fault) → faults_in Read all ≡ fs → AreOfItems fs (items_of e source end)
  unfolding items_of
  items-said fs is = subst (λ v. AreOfItems v (items_of e source end)) is (faults-items (line_endings (lines_of (decoded_of e source))) all)

  pairs-said : (fs : List Fault) → faults_in PassedOver all ≡ fs → AreOfPairs fs (escapes_in all)
  pairs-said fs is = subst (λ v. AreOfPairs v (escapes_in all)) is (faults-pairs all)

  -- If no escape that is read is malformed, its pairs have the values of its keys.
  source-value : (comments : Comments) → faults_in comments all ≡ [] → (key : List ℕ) → HasValueFor comments e source key (value_in (pairs_of e source) key)
  source-value PassedOver none key = record {
    in_comments = escapes-are AreInComments (groups_in-meets e source end) (pairs-said [] none);
    pairs = pairs_of e source;
    are = pairs_of-meets e source;
    is = value_in-meets (pairs_of e source) key;
  }
  source-value Read none key =
      let entries = items_of e source end in
      let read : HasValue e source key (value_in entries key) =
      record { entries = entries; items = items_of-meets e source end; whole = items-said [] none; is = value_in-meets entries key } in
      let among = value-among_pairs e source key (value_in entries key) read in
      subst (HasValue e source key) (value_in-only among.pairs key _ among.is ∙ ap (λ v. value_in v key) (pairs_of-only e source among.pairs among.are)) read

  -- Otherwise the first of them is the error.
  source-error : (comments : Comments) (f : Fault) (fs : List Fault) (error : PropertiesError) → faults_in comments all ≡ f ∷ fs → IsMalformed f.0 f.1 error
      → IsSourceError comments e source error
  source-error Read f fs error is says =
      inl (record { how = f.0; number = f.1; first = (items_of e source end, items_of-meets e source end, items-said (f ∷ fs) is); is = says })
  source-error PassedOver f fs error is says = inl (record {
    how = f.0;
    number = f.1;
    first = escapes-are (IsFirstInPair f.0 f.1) (groups_in-meets e source end) (pairs-said (f ∷ fs) is);
    is = says;
  })

  -- Memory may run out as well.
  pub source-memory : (comments : Comments) (error : PropertiesError) → IsBareError kind.Memory error → IsSourceError comments e source error
  source-memory Read error h = inr h
  source-memory PassedOver error h = inr h

-- ---- the values

-- the value after one more group
chosen : (b : Bool) (value : List ℕ) (before : Option (List ℕ)) → first_value (if b then Some value else None) before ≡ (if b then Some value else before)
chosen true value before = refl
chosen false value before = refl

last-value : (n : ℕ) (o : Outcome) (key : List ℕ) (before : List ℕ → Option (List ℕ))
    → first_value (value_in (pair_from n o []) key) (before key) ≡ values_after (outcome_pair o) before key
last-value n ignored key before = refl
last-value n (given (comment text)) key before = refl
last-value n (given (pair name value)) key before = chosen (bytes_eq name key) value (before key)
last-value n (broken how) key before = refl

values-push : (gs : List (List Line)) (g : List Line)
    → values_after (outcome_pair (outcome_of (joined g))) (value_in (pairs_in gs)) ≡ value_in (pairs_in (gs ++ g ∷ []))
values-push gs g = fun_ext (λ key. sym (
    ap (λ v. value_in v key) (pairs_in-push gs g)
    ∙ value_in-append (pairs_in gs) (pair_from (first_number g) (outcome_of (joined g)) []) key
    ∙ last-value (first_number g) (outcome_of (joined g)) key (value_in (pairs_in gs))))

-- ---- the reading

-- The pairs of the groups that came were taken, and no escape of theirs that is read is malformed.
pub record HasTaken {T : Type 0} (Has : T → (List ℕ → Option (List ℕ)) → Type 0) (comments : Comments) (e : Encoding) (from : List ℕ) (taker : T)
    (state : ReaderState) (to : List ℕ) : Type 0 where
  pub groups : List (List Line)
  pub collected : Collected slice_reader e (slice_of from) groups state (slice_of to)
  pub none : faults_in comments groups ≡ []
  pub has : Has taker (value_in (pairs_in groups))

-- The groups that came from a slice are its first ones.
came-first : {e : Encoding} {from to : Bor (List ℕ)} {gs : List (List Line)} {s : ReaderState} → Collected slice_reader e from gs s to
    → (later : List (List Line)) × (gs ++ later ≡ groups_in e from.now end)
came-first {e} {from} {to} {gs} {s} c = by-passes c.passes
  where
    by-passes : Passes (start e) c.bytes (lines_in gs) s → (later : List (List Line)) × (gs ++ later ≡ groups_in e from.now end)
    by-passes (Passes.going_on live reads) =
        let later = groups_of (natural_to_come s to.now end) end in
        (later, groups_in-only e (c.bytes ++ to.now) end (gs ++ later) (collected-on c live to.now end) ∙ ap (λ v. groups_in e v end) (sym (slice-read c.read)))
    by-passes (Passes.at_last done gives) =
        ([], append-nil gs ∙ slice-groups c done)

module _ {T : Type 0} {Has : T → (List ℕ → Option (List ℕ)) → Type 0} {comments : Comments} {e : Encoding} {from : List ℕ} where
  -- before the first group
  pub taken-start : (taker : T) (state : ReaderState) → state ≡ start e → Has taker (λ key. None) → HasTaken Has comments e from taker state from
  taken-start taker state is has = rw is (record { groups = []; collected = collected-start e (slice_of from); none = refl; has = has })

  -- one more came
  pub taken-next : {to next : Bor (List ℕ)} {old : T} {s : ReaderState} (number : ℕ) (new : LineState) (later : T)
      → HasTaken Has comments e from old s to.now → JoinsNext slice_reader s to number new next → IsSoundFor comments (chars new.line)
      → ((values : List ℕ → Option (List ℕ)) → Has old values → Has later (values_after (outcome_pair (outcome_of (chars new.line))) values))
      → HasTaken Has comments e from later new.state next.now
  taken-next number new later h n sound takes =
      let g = n.group.first ∷ n.group.others in
      let text : chars new.line ≡ joined g = n.group.text in
      record {
        groups = h.groups ++ g ∷ [];
        collected = collected-slice refl (collected-next number new (collected-slice refl h.collected) n);
        none =
            faults-append comments h.groups (g ∷ [])
            ∙ ap₂ (λ v w. v ++ w) h.none (from-sound comments (first_number g) (joined g) (outcome_of (joined g)) (rw text at sound));
        has = subst (Has later) (values-push h.groups g) (rw text at (takes (value_in (pairs_in h.groups)) h.has));
      }

  -- no more came
  pub taken-all : {to : List ℕ} {taker : T} {s : ReaderState} → HasTaken Has comments e from taker s to → s.is_done ≡ true
      → TakesPairs Has comments e from (Ok taker)
  taken-all h done =
      let is : h.groups ≡ groups_in e from end = slice-groups h.collected done in (
        value_in (pairs_of e from),
        subst (λ v. Has _ (value_in (pairs_in v))) is h.has,
        source-value e from comments (ap (faults_in comments) (sym is) ∙ h.none),
      )

  -- one came that says nothing of a key
  pub taken-none : {to next : Bor (List ℕ)} {old : T} {s : ReaderState} (number : ℕ) (new : LineState)
      → HasTaken Has comments e from old s to.now → JoinsNext slice_reader s to number new next → IsSoundFor comments (chars new.line)
      → outcome_pair (outcome_of (chars new.line)) ≡ None → HasTaken Has comments e from old new.state next.now
  taken-none {old = old} number new h n sound none = taken-next number new old h n sound (λ values has. rw none has)

  -- one came that is passed over
  pub taken-passed : {to next : Bor (List ℕ)} {old : T} {s : ReaderState} (number : ℕ) (new : LineState)
      → HasTaken Has comments e from old s to.now → JoinsNext slice_reader s to number new next → passes_over comments (chars new.line) ≡ true
      → HasTaken Has comments e from old new.state next.now
  taken-passed number new h n passed = taken-none number new h n (inr passed) (passed-no_pair comments (chars new.line) passed).1

  -- a blank one came
  pub taken-blank : {to next : Bor (List ℕ)} {old : T} {s : ReaderState} (number : ℕ) (new : LineState)
      → HasTaken Has comments e from old s to.now → JoinsNext slice_reader s to number new next → outcome_of (chars new.line) ≡ ignored
      → HasTaken Has comments e from old new.state next.now
  taken-blank number new h n blank = taken-none number new h n (inl (subst IsSoundOutcome (sym blank) tt)) (ap outcome_pair blank)

  -- an item came, and was taken if it is a pair
  pub taken-item : {to next : Bor (List ℕ)} {old : T} {s : ReaderState} (number : ℕ) (new : LineState) (later : T) (f : Found)
      → HasTaken Has comments e from old s to.now → JoinsNext slice_reader s to number new next → IsFoundIn new.line f
      → ((values : List ℕ → Option (List ℕ)) → Has old values → Has later (values_after (outcome_pair (given (found_content new.line f.content))) values))
      → HasTaken Has comments e from later new.state next.now
  taken-item number new later f h n is takes =
      let item = found-item new.line f is in
      taken-next number new later h n (inl (subst IsSoundOutcome (sym item) tt)) (λ values has. rw item (takes values has))

  -- one came that has no item
  pub taken-refused : {to next : Bor (List ℕ)} {taker : T} {s : ReaderState} (error : PropertiesError) (number : ℕ) (new : LineState)
      → HasTaken Has comments e from taker s to.now → JoinsNext slice_reader s to number new next → IsErrorOfLine comments number (chars new.line) error
      → IsSourceError comments e from error
  taken-refused error number new h n (other, inr says) = source-memory e from comments _ says
  taken-refused error number new h n (other, inl (how, broke, says)) =
      let g = n.group.first ∷ n.group.others in
      let came = came-first (collected-next number new (collected-slice refl h.collected) n) in
      let text : chars new.line ≡ joined g = n.group.text in
      let first : faults_in comments (g ∷ came.0) ≡ (how, first_number g) ∷ faults_in comments came.0 =
      ap (λ o. faults_from comments (first_number g) (joined g) o (faults_in comments came.0)) (ap outcome_of (sym text) ∙ broke)
      ∙ from-broken comments (first_number g) (joined g) how (faults_in comments came.0) (rw text at other) in
      source-error e from comments (how, first_number g) (faults_in comments came.0) _ (
      ap (faults_in comments) (sym came.1 ∙ append_assoc h.groups (g ∷ []) came.0)
      ∙ faults-append comments h.groups (g ∷ came.0)
      ∙ ap₂ (λ v w. v ++ w) h.none first)
      (rw (n.group.number) at says)

  -- no line came
  pub taken-error : {to next : Bor (List ℕ)} {taker : T} {s t : ReaderState} {why : LineError} (error : PropertiesError) → length from + 1 < 2 ^ 64
      → HasTaken Has comments e from taker s to.now → s.is_done ≡ false → JoinsError slice_reader s to why t next → IsLineError why error
      → IsSourceError comments e from error
  taken-error error small h live f says =
      source-memory e from comments error (slice-stopped error small h.collected live f says)

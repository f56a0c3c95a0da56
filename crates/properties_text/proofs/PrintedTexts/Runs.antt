-- Reading and putting by turns.
use Rattle.std.proofs.Common.{◌≡◌, ℕ, ◌+◌, ◌-◌, ◌*◌, ◌<◌, ◌≤◌, Bool, true, false, List, [], ◌∷◌, ◌++◌, length, map, take, drop, get_or, refl, sym, ap, ap₂, ◌∙◌, subst, inl, inr, append-nil, append_assoc, arith, ne_eqb}
use Rattle.std.specs.Prelude.{Some, Result, Ok, Err}
use Rattle.std.specs.List.{All}
use Rattle.std.proofs.lemmas.Bool.{cases_lt, not-true}
use Rattle.std.proofs.lemmas.Grind.{common_steps}
use Rattle.std.proofs.lemmas.Str.{IsUtf8-nil, chars-nil}
use Rattle.std.proofs.Math.Seq.{take-append_seam}
use Rattle.std.proofs.lemmas.List.{length-map, length-append, get_or-drop, get_or-take, length-take-le, take-take, drop-take, drop-drop, drop_more, drop_all, take-append-drop, drop-append-le, length-drop}
use Rattle.std.proofs.lemmas.List.Elements.{All-append, All-weaker, All-nil, All-cons, All-from_get_or, All-take, All-drop}
use Rattle.properties_format.specs.Text.{backslash, space}
use Rattle.properties_format.specs.Escapes as format
use Rattle.properties_format.specs.Escapes.{Meaning, means, breaks}
use Rattle.properties_format.specs.Computed.Escapes.{in_front, text_in_front}
use Rattle.properties_format.proofs.Escapes.Unique.{text_in_front-means, text_in_front-breaks, meaning_of-empty}
use Rattle.properties_text.specs.Escaping.{malformed_in, text_in, IsWell, IsReadBy, StandsBy, IsFirst}
use Rattle.properties_text.specs.Printing.{printed_byte, printed_bytes, with_backslashes, put_of, puts_of}
use Rattle.properties_text.specs.PrintedTexts.{meaning_by, meaning_in, printed_by, printed_in, is_copied, is_inside, past_in, rest_in, StopsIn, ArePut, ReadsBy, from_on, PutsStops, PrintsRest, IsRunPut, IsPut, Prints}
use Rattle.properties_text.specs.declared.encoding.line_encoding.LineEncoding.{LineEncoding}
use Rattle.properties_text.specs.declared.encoding.line_encoding.LineEncoding.TheVariants.{Windows1252, Utf8}
use Rattle.properties_text.specs.declared.encoding.line_encoding.ReadCharacter.{ReadCharacter}
use Rattle.properties_text.specs.declared.escape.UnescapeError.{UnescapeError}
use Rattle.properties_text.specs.declared.escape.UnescapeError.TheVariants as error
use Rattle.byte_blocks.specs.Marks.{clear_front}
use Rattle.byte_blocks.proofs.Marking.{clear-before, first-byte}
use Rattle.properties_text.proofs.Printing.Vectors.{spelt}
use Rattle.properties_text.specs.declared.print.Repertoire.{Repertoire}
use Rattle.properties_text.specs.declared.print.runs.Put.{Put}
use Rattle.properties_text.proofs.Texts.Resolving.{text_in_front-append}
use Rattle.properties_text.proofs.SpeltTexts.First.{ascii-back}
use Rattle.properties_text.proofs.SpeltTexts.Escapes.{spells-meaning}
use Rattle.properties_text.proofs.Printing.Bytes.{printed_bytes-append}
use Rattle.properties_text.proofs.PrintedTexts.Steps.{printed-one, rest-well, past-well, starts-well, run-of, not-inside}

-- ---- reading one character

-- Any other character stands for itself.
pub reads-itself : (escaped : Bool) (e : LineEncoding) (bs : List ℕ) (spelt : ReadCharacter) → IsWell e bs → (get_or bs 0 0 ≡ backslash → escaped ≡ false)
    → IsFirst e bs spelt → ReadsBy escaped e bs (Ok spelt)
reads-itself false e bs spelt w other h = h
reads-itself true e bs spelt w other h = record {
  some = h.some;
  within = h.within;
  scalar = h.scalar;
  is = record {
    spelling = format.itself spelt.character;
    whole = h.is;
    stands = ne_eqb spelt.character backslash (λ q.
        let back = ascii-back e bs spelt.character (text_in e (drop spelt.length bs)) w h.is (omega (arith, q)) in
        let both : true ≡ false = other (ap (λ v. get_or v 0 0) back.1 ∙ q) in
        cc);
    character = refl;
  };
  well = h.well;
}

-- So bytes mean the character and what is after it.
pub read-meaning : (escaped : Bool) (e : LineEncoding) (bs : List ℕ) (spelt : ReadCharacter) → StandsBy escaped e bs spelt
    → meaning_in e escaped bs ≡ in_front spelt.character (meaning_in e escaped (drop spelt.length bs))
read-meaning true e bs spelt h = spells-meaning e bs spelt h
read-meaning false e bs spelt h = ap means h

-- ---- one more is put

-- At a stop, a character begins.
own-stop : (holds : ℕ → Bool) (e : LineEncoding) (t : Repertoire) (text : List ℕ) (i : ℕ) → StopsIn holds e t → i < length text
    → holds (get_or text i 0) ≡ true → IsWell e (past_in e t (drop i text)) → IsWell e (drop i text)
own-stop holds e t text i s inside stop w =
    let first = drop_more text i 0 inside in
    rw first (starts-well e t (get_or text i 0) (drop (i + 1) text) outside (rw first at w))
  where
    outside : is_copied e t ≡ true → is_inside (get_or text i 0) ≡ false
    outside on = elim (cases_lt (get_or text i 0) 0x80) [
      | inl l ↦ not-inside (get_or text i 0) l
      | inr l ↦ let off = not-true (is_copied e t) (sym (s.past (get_or text i 0) l) ∙ stop) in cc
    ]

module _ {holds : ℕ → Bool} {e : LineEncoding} {t : Repertoire} {whole : Meaning} {text out new : List ℕ} {so_far put : Put}
    (s : StopsIn holds e t) (held : ArePut e t (holds backslash) whole text so_far out) (within : put.end ≤ length new) where
  -- what is put of bytes that were read
  put-step : (bytes : List ℕ) → put.read ≤ length text → IsWell e (past_in e t (drop put.read text))
      → rest_in e t (holds backslash) (drop so_far.read text) ≡ text_in_front bytes (rest_in e t (holds backslash) (drop put.read text))
      → take put.end new ≡ take so_far.end out ++ bytes → ArePut e t (holds backslash) whole text put new
  put-step bytes read well step printed =
      record {
        read = read;
        within = within;
        well = well;
        printed = rw (printed, text_in_front-append) (held.printed
            ∙ ap (text_in_front (take so_far.end out)) step);
      }

  -- the character at a stop
  pub stop-put : {spelt : ReadCharacter} → so_far.read < length text → holds (get_or text so_far.read 0) ≡ true
      → IsReadBy (holds backslash) e (drop so_far.read text) spelt → put.read ≡ so_far.read + spelt.length
      → take put.end new ≡ take so_far.end out ++ put_of t spelt.character → ArePut e t (holds backslash) whole text put new
  stop-put {spelt} inside stop h at printed =
      let bs = drop so_far.read text in
      let left : drop spelt.length bs ≡ drop put.read text = drop-drop spelt.length so_far.read text ∙ ap (λ n. drop n text) (sym at) in
      let well : IsWell e (drop put.read text) = subst (IsWell e) left h.well in
      let own = own-stop holds e t text so_far.read s inside stop held.well in
      let meaning = read-meaning (holds backslash) e bs spelt h.is in
      put-step (put_of t spelt.character) (omega (arith, held.read, h.within, length-drop so_far.read text, at))
      (subst (IsWell e) (sym (past-well e t (drop put.read text) well)) well)
      (rw (rest-well e t (holds backslash) bs own, meaning, printed-one, left, rest-well e t (holds backslash) (drop put.read text) well) refl)
      printed

  -- a run
  pub put-run : ((i : ℕ) → get_or text i 0 < 256) → IsRunPut holds out so_far.end text so_far.read put new → ArePut e t (holds backslash) whole text put new
  put-run small r =
      let rest = drop so_far.read text in
      let front : take (length r.bytes) rest ≡ r.bytes = ap (take (length r.bytes)) r.text_is ∙ take-append_seam r.bytes (drop put.read text) in
      let own : All (λ b. b < 256) (take (length r.bytes) rest) =
      All-take (λ b. b < 256) (length r.bytes) rest
      (All-drop (λ b. b < 256) so_far.read text (All-from_get_or (λ b. b < 256) text 0 (λ i inside. small i))) in
      let run = run-of holds e t r.bytes (drop put.read text) s (rw front at own) r.clear
      (subst (λ v. IsWell e (past_in e t v)) r.text_is held.well) in
      put-step (printed_bytes r.bytes) r.read run.well (ap (rest_in e t (holds backslash)) r.text_is ∙ run.printed) r.printed

-- Nothing was put yet.
pub put-none : {e : LineEncoding} {t : Repertoire} {escaped : Bool} {text out : List ℕ} {from at : ℕ} → from ≤ length text → at ≤ length out
    → IsWell e (past_in e t (drop from text)) → ArePut e t escaped (from_on e t escaped out at text from) text record { read = from; end = at } out
put-none h k w = record { read = h; within = k; well = w; printed = refl }

-- What was put goes on from what was put before.
pub put-on : {e : LineEncoding} {t : Repertoire} {escaped : Bool} {whole : Meaning} {text out new : List ℕ} {so_far put : Put}
    → ArePut e t escaped whole text so_far out → ArePut e t escaped (from_on e t escaped out so_far.end text so_far.read) text put new
    → ArePut e t escaped whole text put new
put-on held h = record { read = h.read; within = h.within; well = h.well; printed = held.printed ∙ h.printed }

-- ---- the end, and a fault

-- A text whose printed bytes are these.
from-printed : (t : Repertoire) (m : Meaning) (x y : List ℕ) → text_in_front x (printed_by t m) ≡ means y
    → (z : List ℕ) × (m ≡ means z) × (y ≡ x ++ puts_of t z)
from-printed t (means z) x y e = let f : means (x ++ puts_of t z) ≡ means y = sym (text_in_front-means x (puts_of t z)) ∙ e in (z, refl, cc)
from-printed t (breaks kind) x y e = let f = sym (text_in_front-breaks x kind) ∙ e in absurd (cc)

-- Only a text that breaks is printed so.
from-broken : (t : Repertoire) (m : Meaning) (kind : format.Malformed) → printed_by t m ≡ breaks kind → m ≡ breaks kind
from-broken t (means z) kind e = absurd (cc)
from-broken t (breaks k) kind e = e

-- No characters mean no characters.
pub empty-means : (escaped : Bool) → meaning_by escaped [] ≡ means []
empty-means true = meaning_of-empty
empty-means false = refl

-- Nothing is left.
rest-nil : (e : LineEncoding) (t : Repertoire) (escaped : Bool) → rest_in e t escaped [] ≡ means []
rest-nil Windows1252 t escaped = ap (printed_by t) (empty-means escaped)
rest-nil Utf8 t escaped = rest-well Utf8 t escaped [] IsUtf8-nil ∙ ap (printed_by t) (ap (meaning_by escaped) chars-nil ∙ empty-means escaped)

-- All was read, so the text means another, and that was put.
pub put-all : {e : LineEncoding} {t : Repertoire} {escaped : Bool} {text old new : List ℕ} {at : ℕ} {put : Put} → IsWell e text → length text ≤ put.read
    → ArePut e t escaped (from_on e t escaped old at text 0) text put new → IsPut (meaning_in e escaped text) (puts_of t) old at new put.end
put-all {e} {t} {escaped} {text} {old} {new} {at} {put} w all held =
    let rest = ap (rest_in e t escaped) (drop_all put.read text all) ∙ rest-nil e t escaped in
    let whole : text_in_front (take at old) (printed_in e t escaped text) ≡ means (take put.end new) =
    rw (← rest-well e t escaped text w, held.printed, rest, text_in_front-means, append-nil) refl in
    let found = from-printed t (meaning_in e escaped text) (take at old) (take put.end new) whole in
    record { within = held.within; meant = found.0; meaning = found.1; printed = found.2 }

-- What breaks after a front breaks.
broken-front : (x : List ℕ) (m : Meaning) (kind : format.Malformed) → text_in_front x m ≡ breaks kind → m ≡ breaks kind
broken-front x (means z) kind e = let f = sym (text_in_front-means x z) ∙ e in absurd (cc)
broken-front x (breaks k) kind e = let f = sym (text_in_front-breaks x k) ∙ e in cc

-- What breaks the rest breaks what is before it too.
broken-on : {e : LineEncoding} {t : Repertoire} {escaped : Bool} {text out : List ℕ} {put : Put} {kind : format.Malformed} (old : List ℕ) (at from : ℕ)
    → ArePut e t escaped (from_on e t escaped old at text from) text put out → rest_in e t escaped (drop put.read text) ≡ breaks kind
    → rest_in e t escaped (drop from text) ≡ breaks kind
broken-on {out = out} {put = put} {kind = kind} old at from held fault =
    broken-front (take at old) _ kind (held.printed ∙ ap (text_in_front (take put.end out)) fault ∙ text_in_front-breaks (take put.end out) kind)

-- a malformed escape at a stop
pub stop-broken : {holds : ℕ → Bool} {e : LineEncoding} {t : Repertoire} {text out : List ℕ} {so_far : Put} {kind : format.Malformed}
    (old : List ℕ) (at from : ℕ) → StopsIn holds e t → so_far.read < length text → holds (get_or text so_far.read 0) ≡ true
    → ArePut e t (holds backslash) (from_on e t (holds backslash) old at text from) text so_far out
    → meaning_in e (holds backslash) (drop so_far.read text) ≡ breaks kind → rest_in e t (holds backslash) (drop from text) ≡ breaks kind
stop-broken {holds} {e} {t} {text} {so_far = so_far} old at from s inside stop held reads =
    let own = own-stop holds e t text so_far.read s inside stop held.well in
    broken-on old at from held (rest-well e t (holds backslash) (drop so_far.read text) own ∙ ap (printed_by t) reads)

-- An error at the rest is one of the text.
pub stops-refused : {e : LineEncoding} {t : Repertoire} {escaped : Bool} {text out : List ℕ} {put : Put} (old : List ℕ) (at from : ℕ) (new : List ℕ)
    (u : UnescapeError) → ArePut e t escaped (from_on e t escaped old at text from) text put out → PutsStops e t escaped out put.end text put.read new (Err u)
    → PrintsRest e t escaped old at text from new (Err u)
stops-refused old at from new (error.Malformed m) held h = broken-on old at from held h
stops-refused old at from new error.Memory held h = tt

-- The rest was printed after a front.
pub rest-printed : {e : LineEncoding} {t : Repertoire} {escaped : Bool} {text out : List ℕ} {put : Put} (old : List ℕ) (at : ℕ) (new : List ℕ)
    (r : Result ℕ UnescapeError)
    → IsWell e text → ArePut e t escaped (from_on e t escaped old at text 0) text put out → PrintsRest e t escaped out put.end text put.read new r
    → Prints (meaning_in e escaped text) (puts_of t) old at new r
rest-printed old at new (Ok end) w held h = put-all w (omega arith) (put-on held h)
rest-printed {e} {t} {escaped} {text} old at new (Err (error.Malformed m)) w held h =
    from-broken t (meaning_in e escaped text) (malformed_in m) (sym (rest-well e t escaped text w) ∙ broken-on old at 0 held h)
rest-printed old at new (Err error.Memory) w held h = tt

-- The same was put where room was made.
pub stops-room : (e : LineEncoding) (t : Repertoire) (escaped : Bool) (old slice : List ℕ) (at : ℕ) (text : List ℕ) (from : ℕ) (new : List ℕ)
    (r : Result Put UnescapeError) → take at slice ≡ take at old → PutsStops e t escaped slice at text from new r → PutsStops e t escaped old at text from new r
stops-room e t escaped old slice at text from new (Ok put) same h = rw (← same) h
stops-room e t escaped old slice at text from new (Err (error.Malformed m)) same h = h
stops-room e t escaped old slice at text from new (Err error.Memory) same h = tt

-- ---- a run, byte by byte

-- one byte
pub run-byte : {holds : ℕ → Bool} {old text new : List ℕ} {at from end : ℕ} → from < length text → holds (get_or text from 0) ≡ false → end ≤ at + 2
    → take end new ≡ take at old ++ printed_byte (get_or text from 0) → IsRunPut holds old at text from record { read = from + 1; end = end } new
run-byte {holds} {old} {text} {at = at} {from = from} inside clear few printed =
    let b = get_or text from 0 in
    record {
      bytes = b ∷ [];
      text_is = drop_more text from 0 inside;
      read_is = omega arith;
      read = omega (arith, inside);
      few = omega (arith, few);
      clear = All-cons (λ b. holds b ≡ false) b [] clear (All-nil (λ b. holds b ≡ false));
      printed = printed ∙ ap (λ v. take at old ++ v) (sym (append-nil (printed_byte b)));
    }

-- The bytes of a front are bytes.
pub small-take : (n : ℕ) (xs : List ℕ) → ((i : ℕ) → get_or xs i 0 < 256) → (i : ℕ) → get_or (take n xs) i 0 < 256
small-take n xs small i = grind (arith, common_steps, small i)

-- ---- blocks

-- a run after a run
pub run-on : {holds : ℕ → Bool} {old text out new : List ℕ} {at from : ℕ} {so_far put : Put} → IsRunPut holds old at text from so_far out
    → IsRunPut holds out so_far.end text so_far.read put new → IsRunPut holds old at text from put new
run-on {holds} {old} {text} {at = at} {put = put} one two = record {
  bytes = one.bytes ++ two.bytes;
  text_is = one.text_is ∙ ap (λ v. one.bytes ++ v) two.text_is ∙ sym (append_assoc one.bytes two.bytes (drop put.read text));
  read_is = omega (arith, one.read_is, two.read_is, length-append one.bytes two.bytes);
  read = two.read;
  few = omega (arith, one.few, two.few, length-append one.bytes two.bytes);
  clear = All-append (λ b. holds b ≡ false) one.bytes two.bytes one.clear two.clear;
  printed = simp (two.printed, one.printed, append_assoc, printed_bytes-append);
}

-- No run yet, where room was made.
pub run-none : {holds : ℕ → Bool} {old text out : List ℕ} {at from : ℕ} → from ≤ length text → take at out ≡ take at old
    → IsRunPut holds old at text from record { read = from; end = at } out
run-none {holds} {old} {at = at} inside same = record {
  bytes = [];
  text_is = refl;
  read_is = omega arith;
  read = inside;
  few = omega arith;
  clear = All-nil (λ b. holds b ≡ false);
  printed = same ∙ sym (append-nil (take at old));
}

-- A run in a part of a text is one in the text.
pub run-of-part : {holds : ℕ → Bool} {old new : List ℕ} {at from : ℕ} {put : Put} (part size : ℕ) (bytes : List ℕ) → part ≤ size → size ≤ length bytes
    → from ≤ part → IsRunPut holds old at (take part bytes) from put new → IsRunPut holds old at (take size bytes) from put new
run-of-part {from = from} {put = put} part size bytes within inside before run =
    let front = take part bytes in
    let others = drop part (take size bytes) in
    let many : length front ≡ part = length-take-le part bytes (omega (arith, within, inside)) in
    let whole : front ++ others ≡ take size bytes =
    ap (λ v. v ++ others) (sym (take-take part size bytes within)) ∙ take-append-drop part (take size bytes) in
    record {
      bytes = run.bytes;
      text_is = ap (drop from) (sym whole)
          ∙ drop-append-le from front others (omega (arith, many, before))
          ∙ ap (λ v. v ++ others) run.text_is
          ∙ append_assoc run.bytes (drop put.read front) others
          ∙ ap (λ v. run.bytes ++ v) (sym (drop-append-le put.read front others run.read) ∙ ap (drop put.read) whole);
      read_is = run.read_is;
      read = omega (arith, run.read, many, length-take-le size bytes inside, within);
      few = run.few;
      clear = run.clear;
      printed = run.printed;
    }

-- the bytes of a block before a stop
pub block-run : {holds : ℕ → Bool} {old new : List ℕ} {marks : List Bool} {so_far : Put} {end : ℕ} (bytes v : List ℕ) (size kept : ℕ) → size ≤ length bytes
    → so_far.read ≤ size → ((b : ℕ) → b < 0x20 → holds b ≡ true) → length v ≡ 16
    → take (length bytes - so_far.read) (take 16 v) ≡ take 16 (drop so_far.read bytes) → marks ≡ map holds v → kept ≤ clear_front marks → kept ≤ 16
    → kept ≤ size - so_far.read → end ≤ so_far.end + 2 * kept → take end new ≡ take so_far.end old ++ with_backslashes (take kept v)
    → IsRunPut holds old so_far.end (take size bytes) so_far.read record { read = so_far.read + kept; end = end } new
block-run {holds} {old} {marks = marks} {so_far} bytes v size kept inside from controls long block are clear few within most printed =
    let r = so_far.read in
    let text = take size bytes in
    let many : length (take kept v) ≡ kept = length-take-le kept v (omega (arith, few, long)) in
    let own : All (λ b. holds b ≡ false) (take kept v) = clear-before holds v marks kept are clear in
    let whole : r + (size - r) ≡ size = omega (arith, from) in
    let same : take kept (drop r text) ≡ take kept v =
    cc (
      ap (take kept) block,
      take-take kept (length bytes - r) (take 16 v) (omega (arith, within, inside)),
      take-take kept 16 v few,
      take-take kept 16 (drop r bytes) few,
      drop-take r (size - r) bytes,
      take-take kept (size - r) (drop r bytes) within,
    ) in
    let plain : All (λ b. space ≤ b) (take kept v) = All-weaker (λ b. holds b ≡ false) (λ b. space ≤ b) above-controls (take kept v) own in
    record {
      bytes = take kept v;
      text_is = sym (take-append-drop kept (drop r text)) ∙ ap₂ (λ x y. x ++ y) same (drop-drop kept r text);
      read_is = omega (arith, many);
      read = omega (arith, length-take-le size bytes inside, within, from);
      few = omega (arith, most, many);
      clear = own;
      printed = printed ∙ ap (λ v. take so_far.end old ++ v) (spelt (take kept v) plain);
    }
  where
    above-controls : (b : ℕ) → holds b ≡ false → space ≤ b
    above-controls b f = elim (cases_lt b 0x20) [ inl l ↦ absurd (let t = controls b l in cc) | inr l ↦ l ]

-- the byte at which a block stops
pub block-stops : (holds : ℕ → Bool) (bytes v : List ℕ) (marks : List Bool) (size read kept : ℕ) → size ≤ length bytes → length v ≡ 16
    → take (length bytes - read) (take 16 v) ≡ take 16 (drop read bytes) → marks ≡ map holds v → clear_front marks ≡ kept → kept < 16 → read + kept < size
    → holds (get_or (take size bytes) (read + kept) 0) ≡ true
block-stops holds bytes v marks size read kept inside long block are at few within =
    let stop = (first-byte holds v marks (Some kept) are (at, omega (arith, ap length are, length-map v holds, long, few))).1 in
    let same : get_or (take size bytes) (read + kept) 0 ≡ get_or v kept 0 =
    cc (
      ap (λ l. get_or l kept 0) block,
      get_or-take size bytes (read + kept) 0 within,
      get_or-drop read bytes kept 0,
      get_or-take 16 (drop read bytes) kept 0 few,
      get_or-take (length bytes - read) (take 16 v) kept 0 (omega (arith, within, inside)),
      get_or-take 16 v kept 0 few,
    ) in
    ap holds same ∙ stop

-- ---- what was put before

-- It stays where more is put after it.
pub front-kept : (old new bytes : List ℕ) (from at end : ℕ) → from ≤ at → at ≤ length old → end ≤ length new → take end new ≡ take at old ++ bytes
    → (at ≤ end) × (take from new ≡ take from old)
front-kept old new bytes from at end before room within e =
    let size : end ≡ at + length bytes = grind (arith, common_steps, ap length e) in
    (omega (arith, size), grind (arith, common_steps, ap (take from) e))

-- So do fewer bytes of it.
pub fewer-kept : (xs ys : List ℕ) (k n : ℕ) → k ≤ n → take n xs ≡ take n ys → take k xs ≡ take k ys
fewer-kept xs ys k n h e = sym (take-take k n xs h) ∙ ap (take k) e ∙ take-take k n ys h

-- And where a run is put.
pub run-kept : {holds : ℕ → Bool} {text old new : List ℕ} {at read : ℕ} {put : Put} (from : ℕ) → from ≤ at → at ≤ length old
    → IsRunPut holds old at text read put new → put.end ≤ length new → (from ≤ put.end) × (take from new ≡ take from old)
run-kept {old = old} {new} {at} {put = put} from before room run within =
    let kept = front-kept old new (printed_bytes run.bytes) from at put.end before room within run.printed in
    (omega (arith, kept.0, before), kept.1)

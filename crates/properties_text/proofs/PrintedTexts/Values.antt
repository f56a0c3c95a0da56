-- Values that are read and printed by turns: runs of characters that need no escape, and what stops them.
use Rattle.std.proofs.Common.{◌≡◌, ℕ, ◌==◌, Bool, true, false, List, [], ◌∷◌, ◌++◌, length, map, take, drop, refl, ap, ap₂, sym, ◌∙◌, subst, append_assoc, append-nil, arith, ne_eqb}
use Rattle.std.specs.Prelude.{Some, None, Result, Ok, Err}
use Rattle.std.specs.List.{All}
use Rattle.std.proofs.lemmas.List.{take-append-drop}
use Rattle.std.proofs.lemmas.Bool.Decides.{nat_tests}
use Rattle.memchr.specs.Find.{IsFirstByte}
use Rattle.properties_format.specs.Text.{is_empty}
use Rattle.properties_format.specs.Escapes as format
use Rattle.properties_format.specs.Escapes.{Meaning, means, breaks, Means, IsMeaning, Spelling, spelling_text, spelling_character, spellings_before}
use Rattle.properties_format.specs.Printing.{encoded_text}
use Rattle.properties_format.specs.Computed.Escapes.{in_front, text_in_front, meaning_of}
use Rattle.properties_format.proofs.Escapes.Laws.{meaning_of-plain_front}
use Rattle.properties_format.proofs.Escapes.Unique.{text_in_front-means, text_in_front-breaks, meaning_of-meets}
use Rattle.properties_text.specs.Printing.{in_format, put_of, value_bytes, rest_bytes, inside_bytes, is_first_escaped, last_run}
use Rattle.properties_text.specs.Escaping.{text_in, IsWell, IsReadBy}
use Rattle.properties_text.specs.PrintedTexts.{meaning_by, meaning_in, PrintsMeant}
use Rattle.properties_text.specs.declared.encoding.line_encoding.LineEncoding.{LineEncoding}
use Rattle.properties_text.specs.declared.encoding.line_encoding.LineEncoding.TheVariants.{Windows1252, Utf8}
use Rattle.properties_text.specs.declared.encoding.line_encoding.ReadCharacter.{ReadCharacter}
use Rattle.properties_text.specs.declared.escape.UnescapeError.{UnescapeError}
use Rattle.properties_text.specs.declared.escape.UnescapeError.TheVariants as error
use Rattle.properties_text.specs.declared.print.Repertoire.{Repertoire}
use Rattle.properties_text.proofs.Printing.Values.{stops, one-before, run-before, run-last, first-plain, after-first, ascii-run, run-no_backslash, clear-before, clear-all}
use Rattle.properties_text.proofs.PrintedTexts.Runs.{read-meaning, empty-means}
use Rattle.properties_text.proofs.SpeltTexts.Escapes.{no-text}
use Rattle.properties_text.proofs.Texts.Characters.{is_empty-chars}
use Rattle.properties_text.proofs.Texts.Resolving.{text_in_front-append}

-- ---- whether anything is left

some-spelling : (p : Spelling) (rest : List ℕ) → is_empty (spelling_text p ++ rest) ≡ false
some-spelling (format.itself c) rest = refl
some-spelling (format.escaped c) rest = refl
some-spelling (format.unicode d) rest = refl
some-spelling (format.surrogates high low) rest = refl
some-spelling format.last rest = refl

spelt-empty : (ps : List Spelling) → is_empty (map spelling_character ps) ≡ is_empty (spellings_before ps [])
spelt-empty [] = refl
spelt-empty (p ∷ ps) = sym (some-spelling p (spellings_before ps []))

meant-empty : (escaped : Bool) (text meant : List ℕ) → meaning_by escaped text ≡ means meant → is_empty meant ≡ is_empty text
meant-empty true text meant m =
    let h : Means text meant = subst (IsMeaning text) m (meaning_of-meets text) in
    ap is_empty h.characters ∙ spelt-empty h.spellings ∙ sym (ap is_empty h.whole)
meant-empty false text meant m = let same : text ≡ meant = cc in ap is_empty (sym same)

text-empty : (e : LineEncoding) (bytes : List ℕ) → IsWell e bytes → is_empty (text_in e bytes) ≡ (length bytes == 0)
text-empty Windows1252 [] w = refl
text-empty Windows1252 (b ∷ bytes) w = sym (ne_eqb (length (b ∷ bytes)) 0 (λ none. absurd (omega (arith, none))))
text-empty Utf8 bytes w = is_empty-chars bytes w

-- No bytes are left if no characters are.
left-empty : (e : LineEncoding) (escaped : Bool) (bytes meant : List ℕ) → IsWell e bytes → meaning_in e escaped bytes ≡ means meant
    → is_empty meant ≡ (length bytes == 0)
left-empty e escaped bytes meant w m = meant-empty escaped (text_in e bytes) meant m ∙ text-empty e bytes w

-- A text that begins with a character.
begins-with : (c : ℕ) (m : Meaning) (x : List ℕ) → in_front c m ≡ means x → (y : List ℕ) × (m ≡ means y) × (x ≡ c ∷ y)
begins-with c (means y) x h = (y, refl, cc)
begins-with c (breaks kind) x h = absurd (cc)

-- ---- up to the rest

-- Up to the rest of its bytes, a text was read and printed.
pub record IsPrintedTo (e : LineEncoding) (r : Repertoire) (escaped : Bool) (before text rest line : List ℕ) : Type 0 where
  pub well : IsWell e rest
  pub done : List ℕ
  pub meaning : meaning_in e escaped text ≡ text_in_front done (meaning_in e escaped rest)
  pub printed : (cs : List ℕ) → meaning_in e escaped rest ≡ means cs → before ++ rest_bytes r (done ++ cs) ≡ line ++ rest_bytes r cs

-- A run means itself.
run-meaning : (e : LineEncoding) (escaped : Bool) (xs ys : List ℕ) → All (λ b. stops b ≡ false) xs → IsWell e (xs ++ ys)
    → meaning_in e escaped (xs ++ ys) ≡ text_in_front xs (meaning_in e escaped ys)
run-meaning e true xs ys all w = ap meaning_of (ascii-run e xs ys all w).0 ∙ meaning_of-plain_front xs (text_in e ys) (run-no_backslash xs all)
run-meaning e false xs ys all w = ap means (ascii-run e xs ys all w).0 ∙ sym (text_in_front-means xs (text_in e ys))

module _ {e : LineEncoding} {r : Repertoire} {escaped : Bool} {before text rest line : List ℕ} (held : IsPrintedTo e r escaped before text rest line) where
  -- A search found where a run stops.
  module _ (n : ℕ) (found : IsFirstByte stops rest (Some n)) where
    whole : IsWell e (take n rest ++ drop n rest)
    whole = subst (IsWell e) (sym (take-append-drop n rest)) held.well

    pub others-well : (others : List ℕ) → others ≡ drop n rest → IsWell e others
    others-well others is = subst (IsWell e) (sym is) (ascii-run e (take n rest) (drop n rest) (clear-before rest n found) whole).1

    rest-meaning : meaning_in e escaped rest ≡ text_in_front (take n rest) (meaning_in e escaped (drop n rest))
    rest-meaning = ap (meaning_in e escaped) (sym (take-append-drop n rest))
        ∙ run-meaning e escaped (take n rest) (drop n rest) (clear-before rest n found) whole

    -- What stops it is malformed.
    pub stop-broken : (others : List ℕ) (kind : format.Malformed) → others ≡ drop n rest → meaning_in e escaped others ≡ breaks kind
        → meaning_in e escaped text ≡ breaks kind
    stop-broken others kind is broken =
        held.meaning
        ∙ ap (text_in_front held.done) (rest-meaning ∙ ap (λ v. text_in_front (take n rest) (meaning_in e escaped v)) (sym is)
        ∙ ap (text_in_front (take n rest)) broken
        ∙ text_in_front-breaks (take n rest) kind)
        ∙ text_in_front-breaks held.done kind

    -- A run and the character after it are printed.
    pub run-and-stop : (more run others new : List ℕ) (is_last : Bool) (spelt : ReadCharacter) → run ≡ take n rest → others ≡ drop n rest → more ≡ line ++ run
        → IsReadBy escaped e others spelt → is_last ≡ (length (drop spelt.length others) == 0) → new ≡ more ++ inside_bytes r is_last spelt.character
        → IsPrintedTo e r escaped before text (drop spelt.length others) new
    run-and-stop more run others new is_last spelt run_is others_is extended read last put =
        let c = spelt.character in
        let left = drop spelt.length others in
        let step : meaning_in e escaped rest ≡ text_in_front run (in_front c (meaning_in e escaped left)) =
        rest-meaning
        ∙ ap₂ (λ x y. text_in_front x (meaning_in e escaped y)) (sym run_is) (sym others_is)
        ∙ ap (text_in_front run) (read-meaning escaped e others spelt read.is) in
        record {
          well = read.well;
          done = held.done ++ (run ++ c ∷ []);
          meaning = held.meaning
              ∙ ap (text_in_front held.done) (step ∙ sym (text_in_front-append run (c ∷ []) (meaning_in e escaped left)))
              ∙ sym (text_in_front-append held.done (run ++ c ∷ []) (meaning_in e escaped left));
          printed = λ cs m.
              ap (λ v. before ++ rest_bytes r v) (append_assoc held.done (run ++ c ∷ []) cs ∙ ap (λ v. held.done ++ v) (append_assoc run (c ∷ []) cs))
              ∙ held.printed (run ++ c ∷ cs) (step ∙ ap (λ v. text_in_front run (in_front c v)) m ∙ text_in_front-means run (c ∷ cs))
              ∙ ap (λ v. line ++ v) (run-before (in_format r) run (c ∷ cs) (subst (All (λ b. stops b ≡ false)) (sym run_is) (clear-before rest n found))
              (λ none. cc none))
              ∙ sym (append_assoc line run (rest_bytes r (c ∷ cs)))
              ∙ ap₂ (λ x y. x ++ y) (sym extended) (one-before (in_format r) c cs)
              ∙ ap (λ v. more ++ (inside_bytes r v c ++ rest_bytes r cs)) (left-empty e escaped left cs read.well m ∙ sym last)
              ∙ sym (append_assoc more (inside_bytes r is_last c) (rest_bytes r cs))
              ∙ ap (λ v. v ++ rest_bytes r cs) (sym put);
        }

  -- What is left is the last run.
  pub all-printed : (new : List ℕ) → IsFirstByte stops rest None → new ≡ line ++ last_run rest
      → PrintsMeant (meaning_in e escaped text) (rest_bytes r) before (Ok tt) new
  all-printed new none put =
      let clear = clear-all rest none in
      let m : meaning_in e escaped rest ≡ means rest =
      ap (meaning_in e escaped) (sym (append-nil rest))
      ∙ run-meaning e escaped rest [] clear (subst (IsWell e) (sym (append-nil rest)) held.well)
      ∙ ap (text_in_front rest) (ap (meaning_by escaped) (no-text e [] refl) ∙ empty-means escaped)
      ∙ text_in_front-means rest []
      ∙ ap means (append-nil rest) in (
        held.done ++ rest,
        held.meaning ∙ ap (text_in_front held.done) m ∙ text_in_front-means held.done rest,
        put ∙ ap (λ v. line ++ v) (sym (run-last (in_format r) rest clear)) ∙ sym (held.printed rest m),
      )

-- ---- the whole value

-- It is empty.
pub no-value : (e : LineEncoding) (r : Repertoire) (escaped after_blanks : Bool) (bytes line : List ℕ) → (length bytes == 0) ≡ true
    → PrintsMeant (meaning_in e escaped bytes) (value_bytes r after_blanks) line (Ok tt) line
no-value e r escaped after_blanks [] line h = ([], ap (meaning_by escaped) (no-text e [] refl) ∙ empty-means escaped, sym (append-nil line))
no-value e r escaped after_blanks (b ∷ bytes) line h = absurd (grind (arith, nat_tests))

module _ {e : LineEncoding} {escaped : Bool} {bytes : List ℕ} {first : ReadCharacter} (r : Repertoire) (after_blanks : Bool) (line : List ℕ)
    (read : IsReadBy escaped e bytes first) where
  abbrev pub rest : List ℕ
  rest = drop first.length bytes

  -- Its first character gets no backslash,
  pub value-plain : (new : List ℕ) (result : Result Unit UnescapeError) → is_first_escaped after_blanks first.character (length rest == 0) ≡ false
      → PrintsMeant (meaning_in e escaped bytes) (rest_bytes r) line result new
      → PrintsMeant (meaning_in e escaped bytes) (value_bytes r after_blanks) line result new
  value-plain new (Ok done) plain h =
      let f = begins-with first.character (meaning_in e escaped rest) h.0 (sym (read-meaning escaped e bytes first read.is) ∙ h.1) in
      let own = ap (is_first_escaped after_blanks first.character) (left-empty e escaped rest f.0 read.well f.1) ∙ plain in
      let value = first-plain (in_format r) after_blanks first.character f.0 own in
      (h.0, h.1, h.2 ∙ rw f.2 (ap (λ v. line ++ encoded_text (in_format r).encoding v) (sym value)))
  value-plain new (Err (error.Malformed kind)) plain h = h
  value-plain new (Err error.Memory) plain h = tt

  -- or one.
  pub value-escaped : (more new : List ℕ) (result : Result Unit UnescapeError) → is_first_escaped after_blanks first.character (length rest == 0) ≡ true
      → more ≡ line ++ put_of r first.character → PrintsMeant (meaning_in e escaped rest) (rest_bytes r) more result new
      → PrintsMeant (meaning_in e escaped bytes) (value_bytes r after_blanks) line result new
  value-escaped more new (Ok done) own put h =
      let meaning = read-meaning escaped e bytes first read.is in
      let is = ap (is_first_escaped after_blanks first.character) (left-empty e escaped rest h.0 read.well h.1) ∙ own in
      (first.character ∷ h.0, meaning ∙ ap (in_front first.character) h.1, after-first (in_format r) after_blanks line more new first.character h.0 is put h.2)
  value-escaped more new (Err (error.Malformed kind)) own put h =
      read-meaning escaped e bytes first read.is ∙ ap (in_front first.character) h
  value-escaped more new (Err error.Memory) own put h = tt

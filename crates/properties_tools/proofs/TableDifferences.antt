-- The rows of two tables, compared one after another.
use Rattle.std.proofs.Common.{◌≡◌, ◌≢◌, ℕ, zero, suc, ◌+◌, ◌^◌, ◌<◌, Bool, true, false, List, [], ◌∷◌, ◌++◌, length, take, refl, ap, ap₂, subst, sym, ◌∙◌, inl, inr, arith, append_assoc, append-nil}
use Rattle.std.specs.Prelude.{All, AllPairs, Option, Some, None, Result, Ok, Err, bytes_eq, codes, get_or, if◌then◌else◌}
use Rattle.std.specs.{Fmt.decimal, List.flat_map, Str.chars, Str.IsUtf8}
use Rattle.std.proofs.{lemmas.Bool.cases_Bool, lemmas.Grind.flat_map-append, lemmas.List.get_or-map, lemmas.List.length-map, lemmas.List.take_more}
use Rattle.std.proofs.lemmas.Slice.Eq.{bytes_eq-Decides}
use Rattle.std.proofs.lemmas.List.Elements.{All-append, All-cons, All-head, All-nil, All-tail}
use Rattle.properties_format.specs.{Computed.Maps.HasNot, Encoding.Encoding, Encoding.utf_8, Items.pair, Items.Entry, Printing.printed}
use Rattle.properties_format.specs.{Settings.default_settings, Text.is_blanks}
use Rattle.properties_format.proofs.{Printing.Characters.printed-pair, Changed.Maps.other-test}
use Rattle.properties_text.specs.{Printing.key_bytes, Printing.value_bytes, declared.print.Repertoire.TheVariants.Ascii}
use Rattle.properties_text.specs.declared.print.Repertoire.TheVariants.{Utf8}
use Rattle.properties_items.proofs.TextMaps.Values.{same-characters}
use Rattle.properties_tables.specs.{Messages.escaped, Private.Table.rows_of, Private.Table.FindsKey, Private.Table.IsTable, declared.table.Table.Table}
use Rattle.properties_tools.specs.{Propedit.report_status, Propedit.Diff.DiffsIn, declared.propedit.answer.Answer.Answer}
use Rattle.properties_tools.specs.{declared.propedit.diff.DiffFailure.DiffFailure, declared.propedit.diff.DiffFailure.TheVariants.Old}
use Rattle.properties_tools.specs.{declared.propedit.diff.DiffFailure.TheVariants.New, declared.propedit.diff.DiffFailure.TheVariants.Output}
use Rattle.properties_tools.specs.Propedit.Differences.{came, changed, difference_lines, difference_status, gone, pair_line, row_line, AreDifferencesOf, Difference}
use Rattle.properties_tables.specs.Table.{row_keys, AreRows, HasRows, Row}
use Rattle.properties_tools.specs.Private.Differing.{became, came_if, differences, of_new, of_old, row_with, CanBeCompared, DiffsEach, HasLines}
use Rattle.properties_tools.proofs.Differences.{differences-are}

-- a line is never empty
some-row : (name sign : List ℕ) (r : Row) (rest : List ℕ) → row_line name sign r ++ rest ≡ [] → ⊥
some-row name sign r rest h = some (escaped name) (decimal r.last ++ (codes ": " ++ sign)) (pair_line r.key r.value) rest h
  where
    some : (xs ys zs rest : List ℕ) → ((xs ++ (codes ":" ++ ys)) ++ zs) ++ rest ≡ [] → ⊥
    some [] ys zs rest h = absurd (cc)
    some (x ∷ xs) ys zs rest h = absurd (cc)

-- ---- the row of a key

-- The rows of pairs have each key once.
pub apart : (pairs : List Entry) (rows : List Row) → AreRows pairs rows → AllPairs (λ k l. k ≢ l) (row_keys rows)
apart pairs rows h = λ i j d l m. (h.keys.in_order i j d l m).differ

keys-length : (rows : List Row) → length (row_keys rows) ≡ length rows
keys-length rows = length-map rows (λ r. r.key)

key-at : (rows : List Row) (i : ℕ) (k : List ℕ) (d : Row) → i < length rows → get_or (row_keys rows) i k ≡ (get_or rows i d).key
key-at rows i k d within = get_or-map (λ r. r.key) rows i d k within

-- Of such rows, one that has the key is the first that has it,
row-at : (rows : List Row) (n : ℕ) (key : List ℕ) (d : Row) → AllPairs (λ k l. k ≢ l) (row_keys rows) → n < length rows
    → (get_or rows n d).key ≡ key → row_with key rows ≡ Some (get_or rows n d)
row-at [] n key d apart m e = absurd (omega arith)
row-at (r ∷ rows) zero key d apart m e = rw ((bytes_eq-Decides r.key key).1 e) refl
row-at (r ∷ rows) (suc n) key d apart m e =
    let within : n < length rows = omega arith in
    let keys : n < length (row_keys rows) = let l = keys-length rows in omega arith in
    let other = apart zero (suc n) [] (omega arith) (omega arith) in
    rw (other-test r.key key (λ q. other (q ∙ sym e ∙ sym (key-at rows n [] d within))))
    (row-at rows n key d (λ i j x l m. apart (suc i) (suc j) x (omega arith) (omega arith)) within e)

-- and where none has it, there is no row.
row-none : (rows : List Row) (key : List ℕ) → HasNot key (row_keys rows) → row_with key rows ≡ None
row-none [] key h = refl
row-none (r ∷ rows) key h = rw (other-test r.key key h.0) (row-none rows key h.1)

-- The row that is found for a key is within the rows, and the one with the key.
pub found-within : (rows : List Row) (key : List ℕ) (n : ℕ) → FindsKey key (row_keys rows) (Some n) → n < length rows
found-within rows key n f = let l = keys-length rows in let m = f.0 in omega arith

found-row : (t : Table) (key : List ℕ) (n : ℕ) (d : Row) → CanBeCompared t → FindsKey key (row_keys (rows_of t)) (Some n)
    → row_with key (rows_of t) ≡ Some (get_or (rows_of t) n d)
found-row t key n d can f =
    let within = found-within (rows_of t) key n f in
    row-at (rows_of t) n key d can.apart within (sym (key-at (rows_of t) n [] d within) ∙ f.1 [])

-- whether two values are the same
pub values-told : (x y v w : List ℕ) (is : Bool) → IsUtf8 x → IsUtf8 y → chars x ≡ v → chars y ≡ w → is ≡ bytes_eq x y → bytes_eq v w ≡ is
values-told x y v w is u u' e e' h = ap₂ bytes_eq (sym e) (sym e') ∙ sym (same-characters x y u u') ∙ sym h

-- ---- what is printed of a row

module _ (lines : Difference → List ℕ) (r : Row) (key : List ℕ) (same : key ≡ r.key) where
  -- A row of the old table whose key the new one hasn't is printed,
  pub text-gone : (news : List Row) → HasNot key (row_keys news) → flat_map lines (of_old news r) ≡ lines (gone r)
  text-gone news none =
      ap (λ o. flat_map lines (became r o)) (ap (λ k. row_with k news) (sym same) ∙ row-none news key none) ∙ append-nil (lines (gone r))

  -- one with the same value isn't,
  pub text-kept : (t : Table) (n : ℕ) (d : Row) → CanBeCompared t → FindsKey key (row_keys (rows_of t)) (Some n)
      → bytes_eq r.value (get_or (rows_of t) n d).value ≡ true → flat_map lines (of_old (rows_of t) r) ≡ []
  text-kept t n d can f equal =
      ap (λ o. flat_map lines (became r o)) (ap (λ k. row_with k (rows_of t)) (sym same) ∙ found-row t key n d can f) ∙ rw equal refl

  -- and of one with another value, both are.
  pub text-changed : (t : Table) (n : ℕ) (d : Row) → CanBeCompared t → FindsKey key (row_keys (rows_of t)) (Some n)
      → bytes_eq r.value (get_or (rows_of t) n d).value ≡ false → flat_map lines (of_old (rows_of t) r) ≡ lines (changed r (get_or (rows_of t) n d))
  text-changed t n d can f other =
      ap (λ o. flat_map lines (became r o)) (ap (λ k. row_with k (rows_of t)) (sym same) ∙ found-row t key n d can f)
      ∙ rw other (append-nil (lines (changed r (get_or (rows_of t) n d))))

  -- A row of the new table is printed, unless the old one has its key.
  pub text-came : (olds : List Row) → HasNot key (row_keys olds) → flat_map lines (of_new olds r) ≡ lines (came r)
  text-came olds none =
      ap (λ o. flat_map lines (came_if o r)) (ap (λ k. row_with k olds) (sym same) ∙ row-none olds key none) ∙ append-nil (lines (came r))

  pub text-there : (t : Table) (n : ℕ) (d : Row) → CanBeCompared t → FindsKey key (row_keys (rows_of t)) (Some n) → flat_map lines (of_new (rows_of t) r) ≡ []
  text-there t n d can f =
      ap (λ o. flat_map lines (came_if o r)) (ap (λ k. row_with k (rows_of t)) (sym same) ∙ found-row t key n d can f)

-- ---- one row after another

module _ (lines : Difference → List ℕ) where
  -- what rows give is printed, and what one more gives
  pub text-more : (text before after : List ℕ) (f : Row → List Difference) (rows : List Row) (i : ℕ) (d : Row) → i < length rows
      → before ≡ text ++ flat_map lines (flat_map f (take i rows)) → after ≡ before ++ flat_map lines (f (get_or rows i d))
      → after ≡ text ++ flat_map lines (flat_map f (take (i + 1) rows))
  text-more text before after f rows i d within was is =
      let one = get_or rows i d in
      let upto = flat_map f (take i rows) in
      let next = ap (flat_map f) (take_more rows i d within) ∙ flat_map-append f (take i rows) (one ∷ []) ∙ ap (λ v. upto ++ v) (append-nil (f one)) in
      let more = ap (flat_map lines) next ∙ flat_map-append lines upto (f one) in
      is ∙ ap (λ v. v ++ flat_map lines (f one)) was ∙ append_assoc text (flat_map lines upto) (flat_map lines (f one)) ∙ ap (λ v. text ++ v) (sym more)

  -- What is printed of all differences is that of the keys of the old table, and then that of the other keys.
  pub text-both : (first all : List ℕ) (olds news : List Row) → first ≡ flat_map lines (flat_map (of_old news) olds)
      → all ≡ first ++ flat_map lines (flat_map (of_new olds) news) → all ≡ flat_map lines (differences olds news)
  text-both first all olds news h k =
      k ∙ ap (λ v. v ++ flat_map lines (flat_map (of_new olds) news)) h ∙ sym (flat_map-append lines (flat_map (of_old news) olds) (flat_map (of_new olds) news))

  -- Where something differs, something is printed, and the status says so.
  pub status-told : ((d : Difference) → lines d ≢ []) → (ds : List Difference) → report_status (flat_map lines ds) ≡ difference_status ds
  status-told some [] = refl
  status-told some (d ∷ ds) = of (lines d) (some d)
    where
      of : (text : List ℕ) → text ≢ [] → report_status (text ++ flat_map lines ds) ≡ 1
      of [] h = absurd (h refl)
      of (byte ∷ text) h = refl

-- A line is never empty.
pub some-line : (old new : List ℕ) (d : Difference) → difference_lines old new d ≢ []
some-line old new (gone r) h = some-row old (codes "-") r [] (append-nil (row_line old (codes "-") r) ∙ h)
some-line old new (came r) h = some-row new (codes "+") r [] (append-nil (row_line new (codes "+") r) ∙ h)
some-line old new (changed r s) h = some-row old (codes "-") r (row_line new (codes "+") s) h

-- ---- the lines of rows

lines-became : (r : Row) (found : Option Row) → r.last < 2 ^ 64 → ((s : Row) → found ≡ Some s → s.last < 2 ^ 64) → All HasLines (became r found)
lines-became r None small h = All-cons HasLines (gone r) [] small (All-nil HasLines)
lines-became r (Some s) small h = elim (cases_Bool (bytes_eq r.value s.value)) [
  | inl same ↦ rw same (All-nil HasLines)
  | inr other ↦ rw other (All-cons HasLines (changed r s) [] (small, h s refl) (All-nil HasLines))
]

lines-came : (s : Row) (found : Option Row) → s.last < 2 ^ 64 → All HasLines (came_if found s)
lines-came s None small = All-cons HasLines (came s) [] small (All-nil HasLines)
lines-came s (Some r) small = All-nil HasLines

last_of : Option Row → ℕ
last_of None = 0
last_of (Some r) = r.last

row-small : (key : List ℕ) (rows : List Row) (s : Row) → All (λ r. r.last < 2 ^ 64) rows → row_with key rows ≡ Some s → s.last < 2 ^ 64
unfolding last_of
row-small key [] s h is = absurd (cc)
row-small key (r ∷ rows) s h is = elim (cases_Bool (bytes_eq r.key key)) [
  | inl same ↦ subst (λ n. n < 2 ^ 64) (ap last_of (rw same at is)) (All-head (λ r. r.last < 2 ^ 64) r rows h)
  | inr other ↦ row-small key rows s (All-tail (λ r. r.last < 2 ^ 64) r rows h) (rw other at is)
]

each-lines : (f : Row → List Difference) (rows : List Row) → All (λ r. r.last < 2 ^ 64) rows → ((r : Row) → r.last < 2 ^ 64 → All HasLines (f r))
    → All HasLines (flat_map f rows)
each-lines f [] h of = All-nil HasLines
each-lines f (r ∷ rows) h of =
    All-append HasLines (f r) (flat_map f rows) (of r (All-head (λ r. r.last < 2 ^ 64) r rows h)) (each-lines f rows (All-tail (λ r. r.last < 2 ^ 64) r rows h) of)

pub lines-between : (olds news : List Row) → All (λ r. r.last < 2 ^ 64) olds → All (λ r. r.last < 2 ^ 64) news → All HasLines (differences olds news)
lines-between olds news h k =
    All-append HasLines (flat_map (of_old news) olds) (flat_map (of_new olds) news)
    (each-lines (of_old news) olds h (λ r small. lines-became r (row_with r.key news) small (λ s is. row-small r.key news s k is)))
    (each-lines (of_new olds) news k (λ s small. lines-came s (row_with s.key olds) small))

-- ---- tables of two sources

pub comparable : {e : Encoding} {source : List ℕ} (t : Table) → IsTable t → HasRows e source (rows_of t) → CanBeCompared t
comparable t table h = record { table = table; apart = apart h.pairs (rows_of t) h.have }

pub compared : (e : Encoding) (old new : List ℕ) (olds news : List Row) → HasRows e old olds → HasRows e new news
    → AreDifferencesOf e old new (differences olds news)
compared e old new olds news h k = record {
  old_pairs = h.pairs;
  new_pairs = k.pairs;
  are_old = h.are;
  are_new = k.are;
  are = differences-are h.pairs k.pairs olds news h.have k.have;
}

-- What comparing returns, given what the text is if these lines are printed, and none is empty.
pub told-so : (lines : Difference → List ℕ) (Q : List Difference → List ℕ → Type 0) (e : Encoding) (old new : List ℕ) (r : Result Answer DiffFailure)
    → ((d : Difference) → lines d ≢ []) → ((ds : List Difference) (text : List ℕ) → text ≡ flat_map lines ds → All HasLines ds → Q ds text)
    → DiffsEach lines e old new r → DiffsIn Q e old new r
told-so lines Q e old new (Ok answer) some f h = record {
  old_sound = h.old_sound;
  new_sound = h.new_sound;
  differences = h.differences;
  are = h.are;
  text = f h.differences answer.text.items h.text h.lines;
  status = h.status ∙ ap report_status h.text ∙ status-told lines some h.differences;
}
told-so lines Q e old new (Err (Old why)) some f h = h
told-so lines Q e old new (Err (New why)) some f h = h
told-so lines Q e old new (Err (Output why)) some f h = h

-- ---- a line

pub pair-printed : (late : Bool) (key value : List ℕ) → let r = if late then Ascii else Utf8 in
    key_bytes r true key ++ (codes "=" ++ (value_bytes r (is_blanks (chars (codes "="))) value ++ codes "\n"))
    ≡ printed utf_8 (record default_settings { readable = true; ascii_only = late }) true (pair key value)
unfolding lib.Utf8.encode chars
pair-printed true key value = sym (printed-pair utf_8 (record default_settings { readable = true; ascii_only = true }) true key value)
pair-printed false key value = sym (printed-pair utf_8 (record default_settings { readable = true }) true key value)

-- The pairs of a source: they exist and are unique, and their map changes as the edits say, whatever the comments are.
use Rattle.std.proofs.Common.{◌≡◌, ℕ, false, List, [], ◌∷◌, ◌++◌, Option, refl, ap, sym, ◌∙◌, subst}
use Rattle.properties_format.specs.Encoding.{Encoding, Repertoire}
use Rattle.properties_format.specs.Lines.{end, Line, line_endings, joined, first_number}
use Rattle.properties_format.specs.Items.{comment, pair, Entry, item, AreItems, Outcome, ignored, given, broken}
use Rattle.properties_format.specs.Maps.{IsMap, IsValue}
use Rattle.properties_format.specs.Edited.{edited}
use Rattle.properties_format.specs.Edits.{Edit, AreScalarEdits, AreInComments, pair_from, ArePairs, IsEditPairsResult}
use Rattle.properties_format.specs.Changed.{AreEditedIn, contents, map_after, line_before}
use Rattle.properties_format.specs.EditLaws.{ValueIsAmongPairs}
use Rattle.properties_format.specs.Computed.Encoding.{decoded_of}
use Rattle.properties_format.specs.Computed.Lines.{lines_of, groups_in}
use Rattle.properties_format.specs.Computed.Items.{outcome_of, followed, entries_of, items_of}
use Rattle.properties_format.specs.Computed.Found.{found_in}
use Rattle.properties_format.specs.Computed.Maps.{first_value}
use Rattle.properties_format.proofs.Items.Unique.{items_of-only}
use Rattle.properties_format.proofs.Found.{found-meets, found-only, found_in-append}
use Rattle.properties_format.proofs.MalformedEscapes.{malformed_escapes_of-meets, malformed_escapes_of}
use Rattle.properties_format.proofs.Maps.{first-none, value_in-meets, value_in-only, value_of, value_in}
use Rattle.properties_format.proofs.Changed.Contents.{content_before, contents_among, edits-among}
use Rattle.properties_format.proofs.Changed.Maps.{map-after}
use Rattle.properties_format.proofs.Edited.Fronts.{logical_lines}
use Rattle.properties_format.proofs.Edits.Escapes.{lines-of-text}
use Rattle.properties_format.proofs.Edits.Lines.{logical_lines_of, edits-lines}
use Rattle.properties_format.proofs.Edits.PairResults.{no-escapes}

-- the pairs of the groups
abbrev pub pairs_in : List (List Line) → List Entry
pairs_in groups = found_in (λ number x. pair_from number) groups

pair-append : (n : ℕ) (o : Outcome) (xs ys : List Entry) → pair_from n o (xs ++ ys) ≡ pair_from n o xs ++ ys
pair-append n (given (pair key value)) xs ys = refl
pair-append n outcome xs ys = refl

-- those of one more group come last
pub pairs_in-push : (gs : List (List Line)) (g : List Line) → pairs_in (gs ++ g ∷ []) ≡ pairs_in gs ++ pair_from (first_number g) (outcome_of (joined g)) []
pairs_in-push gs g = found_in-append (λ number x. pair_from number) (λ n x o xs ys. pair-append n o xs ys) gs (g ∷ [])

-- the pairs of an input
abbrev pub pairs_of : Encoding → List ℕ → List Entry
pairs_of e bytes = pairs_in (groups_in e bytes end)

pub pairs_of-meets : (e : Encoding) (bytes : List ℕ) → ArePairs e bytes (pairs_of e bytes)
pairs_of-meets e bytes = found-meets (λ number x. pair_from number) e bytes end

pub pairs_of-only : (e : Encoding) (bytes : List ℕ) (pairs : List Entry) → ArePairs e bytes pairs → pairs ≡ pairs_of e bytes
pairs_of-only e bytes pairs h = found-only (λ number x. pair_from number) e bytes end pairs h

-- Their contents are the pairs among the logical lines.
contents-step : (n : ℕ) (x : List ℕ) (o : Outcome) (rest : List Entry) (xs : List (List ℕ)) → o ≡ outcome_of x → contents rest ≡ contents_among false xs
    → contents (pair_from n o rest) ≡ contents_among false (line_before o x xs)
contents-step n x ignored rest xs s h = h
contents-step n x (given (pair key value)) rest xs s h = ap (λ v. pair key value ∷ v) h ∙ ap (λ o. content_before o false (contents_among false xs)) s
contents-step n x outcome rest xs s h = h ∙ ap (λ o. content_before o false (contents_among false xs)) s

contents-pairs : (gs : List (List Line)) → contents (pairs_in gs) ≡ contents_among false (logical_lines gs)
contents-pairs [] = refl
contents-pairs (g ∷ gs) = contents-step (first_number g) (joined g) (outcome_of (joined g)) (pairs_in gs) (logical_lines gs) refl (contents-pairs gs)

source-pairs : (e : Encoding) (source : List ℕ) → contents (pairs_of e source) ≡ contents_among false (logical_lines_of e source)
source-pairs e source = contents-pairs _ ∙ ap (contents_among false) (lines-of-text e source)

-- The pairs of the result are those of the source after the same edits, and so is their map.
pub edit_pairs-reads : (r : Repertoire) (source : List ℕ) (edits : List Edit) (result : List ℕ) → AreScalarEdits edits
    → IsEditPairsResult r source edits (edited result) → (old new : List Entry) → ArePairs r.encoding source old → ArePairs r.encoding result new
    → AreEditedIn edits (contents old) (contents new)
edit_pairs-reads r source edits result k h old new o n =
    let p = edits-among false edits (logical_lines_of r.encoding source) (logical_lines_of r.encoding result) (edits-lines r source edits result h.0 k h.2) in
    let was : contents old ≡ contents_among false _ = ap contents (pairs_of-only r.encoding source old o) ∙ source-pairs r.encoding source in
    let is : contents new ≡ contents_among false _ = ap contents (pairs_of-only r.encoding result new n) ∙ source-pairs r.encoding result in
    subst (λ v. AreEditedIn edits v (contents new)) (sym was) (subst (AreEditedIn edits (contents_among false (logical_lines_of r.encoding source))) (sym is) p)

pub edit_pairs-map : (r : Repertoire) (source : List ℕ) (edits : List Edit) (result : List ℕ) → AreScalarEdits edits
    → IsEditPairsResult r source edits (edited result) → (old new : List Entry) → ArePairs r.encoding source old → ArePairs r.encoding result new
    → (value_at : List ℕ → Option (List ℕ)) → IsMap old value_at → IsMap new (map_after edits value_at)
edit_pairs-map r source edits result k h old new o n = map-after edits old new (edit_pairs-reads r source edits result k h old new o n)

-- ---- sources without malformed escapes

-- Among items, a value is that of a pair.
value-step : (n : ℕ) (o : Outcome) (entries ps : List Entry) (key : List ℕ) → (AreItems entries → value_in ps key ≡ value_in entries key)
    → AreItems (followed n o entries) → value_in (pair_from n o ps) key ≡ value_in (followed n o entries) key
value-step n ignored entries ps key h k = h k
value-step n (given (comment text)) entries ps key h k = h k ∙ sym (first-none (value_in entries key))
value-step n (given (pair name value)) entries ps key h k = ap (λ r. first_value r (value_of (item n (pair name value)) key)) (h k)
value-step n (broken kind) entries ps key h k = absurd k

values-same : (n : ℕ) (gs : List (List Line)) (key : List ℕ) → AreItems (entries_of n end gs) → value_in (pairs_in gs) key ≡ value_in (entries_of n end gs) key
values-same n [] key h = refl
values-same n (g ∷ gs) key h = value-step (first_number g) (outcome_of (joined g)) (entries_of n end gs) (pairs_in gs) key (values-same n gs key) h

items-values : (e : Encoding) (source key : List ℕ) → AreItems (items_of e source end) → value_in (pairs_of e source) key ≡ value_in (items_of e source end) key
unfolding items_of
items-values e source key h = values-same (line_endings (lines_of (decoded_of e source))) _ key h

-- The value of a key in such a source is the same where comments are passed over.
pub value-among_pairs : (e : Encoding) (source key : List ℕ) (value : Option (List ℕ)) → ValueIsAmongPairs e source key value
value-among_pairs e source key value h =
    let one = items_of-only e source end h.entries h.items in
    let sound = subst AreItems one h.whole in
    record {
      in_comments = (malformed_escapes_of e source, malformed_escapes_of-meets e source, subst AreInComments (sym (no-escapes e source sound)) tt);
      pairs = pairs_of e source;
      are = pairs_of-meets e source;
      is = subst (IsValue (pairs_of e source) key)
          (items-values e source key sound ∙ sym (value_in-only (items_of e source end) key value (subst (λ v. IsValue v key value) one h.is)))
          (value_in-meets (pairs_of e source) key);
    }

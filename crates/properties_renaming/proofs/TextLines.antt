-- The lines of a text, character by character.
use Rattle.std.proofs.Common.{◌≡◌, ◌<◌, ℕ, ◌+◌, suc, get_or, length, take, Bool, true, false, List, [], ◌∷◌, ◌++◌, refl, sym, ap, ◌∙◌, append_assoc, append-nil, arith}
use Rattle.std.specs.Prelude.{◌==◌, ◌&&◌, flat_map, map}
use Rattle.std.specs.declared.string.String.{String}
use Rattle.std.proofs.Math.Seq.{take-suc}
use Rattle.std.proofs.lemmas.Grind.{flat_map-append}
use Rattle.std.proofs.lemmas.List.{map-append}
use Rattle.properties_format.specs.Text.{carriage_return, is_line_ending, line_feed}
use Rattle.properties_format.specs.Lines.{HoldsNoLineEnding}
use Rattle.properties_format.specs.Computed.Lines.{lines_of, rest_of_end}
use Rattle.properties_format.proofs.ItemsToCome.Lines.{lines_of-ended}
use Rattle.properties_format.proofs.Lines.Meets.{lines_of-meets}
use Rattle.properties_format.proofs.Lines.Only.{lines_of-plain}
use Rattle.properties_renaming.specs.Commenting.{AreCommentLines, texts_of}
use Rattle.properties_items.specs.Texts.{characters}
use Rattle.properties_renaming.specs.Private.Commenting.{texts_with}

pub plain-more : (x : List ℕ) (c : ℕ) → HoldsNoLineEnding x → is_line_ending c ≡ false → HoldsNoLineEnding (x ++ c ∷ [])
plain-more [] c h k = (k, tt)
plain-more (b ∷ x) c h k = (h.0, plain-more x c h.1 k)

-- What comes begins with no LF that belongs to a CR.
rest-whole : (after_cr : Bool) (c : ℕ) (rest : List ℕ) → (after_cr && (c == line_feed)) ≡ false → rest_of_end after_cr (c ∷ rest) ≡ c ∷ rest
rest-whole true c rest h = rw h refl
rest-whole false c rest h = refl

-- A line ends,
pub line-ends : (ended : List (List ℕ)) (last : List ℕ) (after_cr : Bool) (c : ℕ) (rest : List ℕ) → HoldsNoLineEnding last → is_line_ending c ≡ true
    → (after_cr && (c == line_feed)) ≡ false
    → texts_with ended last after_cr (c ∷ rest) ≡ texts_with (ended ++ last ∷ []) [] (c == carriage_return) rest
line-ends ended last after_cr c rest plain ends none =
    let first = lines_of-ended last c rest plain ends in
    let whole = ap (λ w. lines_of (last ++ w)) (rest-whole after_cr c rest none) ∙ first.1 in
    let more = lines_of (rest_of_end (c == carriage_return) rest) in
    ap (λ l. ended ++ texts_of l.ended l.last) whole ∙ sym (append_assoc ended (last ∷ []) (texts_of more.ended more.last))

-- or an LF belongs to the CR before it,
pub line-ended : (ended : List (List ℕ)) (last : List ℕ) (after_cr : Bool) (c : ℕ) (rest : List ℕ) → (after_cr && (c == line_feed)) ≡ true
    → texts_with ended last after_cr (c ∷ rest) ≡ texts_with ended last (c == carriage_return) rest
line-ended ended last true c rest h =
    let other : (c == carriage_return) ≡ false = grind (arith) in
    rw (h, other) refl
line-ended ended last false c rest h = absurd (cc)

-- or the line goes on.
pub line-more : (ended : List (List ℕ)) (last : List ℕ) (after_cr : Bool) (c : ℕ) (rest : List ℕ) → is_line_ending c ≡ false
    → texts_with ended last after_cr (c ∷ rest) ≡ texts_with ended (last ++ c ∷ []) (c == carriage_return) rest
line-more ended last after_cr c rest h =
    let feed : (after_cr && (c == line_feed)) ≡ false = grind (arith) in
    let other : (c == carriage_return) ≡ false = grind (arith) in
    ap (λ w. let l = lines_of (last ++ w) in ended ++ texts_of l.ended l.last) (rest-whole after_cr c rest feed)
    ∙ ap (λ w. let l = lines_of w in ended ++ texts_of l.ended l.last) (sym (append_assoc last (c ∷ []) rest))
    ∙ ap (λ b. texts_with ended (last ++ c ∷ []) b rest) (sym other)

-- Nothing comes.
rest-none : (after_cr : Bool) → rest_of_end after_cr [] ≡ []
rest-none true = refl
rest-none false = refl

pub lines-end : (ended : List (List ℕ)) (last : List ℕ) (after_cr : Bool) → HoldsNoLineEnding last → texts_with ended last after_cr [] ≡ ended ++ texts_of [] last
lines-end ended last after_cr plain =
    ap (λ w. let l = lines_of (last ++ w) in ended ++ texts_of l.ended l.last) (rest-none after_cr)
    ∙ ap (λ w. let l = lines_of w in ended ++ texts_of l.ended l.last) (append-nil last)
    ∙ ap (λ l. ended ++ texts_of l.ended l.last) (lines_of-plain last plain)

-- The lines of a whole text.
pub text-lines : (text : List ℕ) (texts : List (List ℕ)) → texts_with [] [] false text ≡ texts → AreCommentLines text texts
text-lines text texts h = record { lines = lines_of text; are_lines = lines_of-meets text; texts_are = sym h }

-- ---- lines that are printed

pub lines-more : {Z : Type 0} (f : List ℕ → List ℕ) (lines : List (String Z)) (i : ℕ) (item : String Z) → i < length lines → item ≡ get_or lines i item
    → flat_map f (map characters (take (i + 1) lines)) ≡ flat_map f (map characters (take i lines)) ++ f (characters item)
lines-more f lines i item h is =
    let next : i + 1 ≡ suc i = omega arith in
    let pushed : take (i + 1) lines ≡ take i lines ++ item ∷ [] =
    ap (λ n. take n lines) next ∙ take-suc lines i item h ∙ ap (λ x. take i lines ++ x ∷ []) (sym is) in
    ap (λ l. flat_map f (map characters l)) pushed
    ∙ ap (flat_map f) (map-append characters (take i lines) (item ∷ []))
    ∙ flat_map-append f (map characters (take i lines)) (characters item ∷ [])
    ∙ ap (λ w. flat_map f (map characters (take i lines)) ++ w) (append-nil (f (characters item)))

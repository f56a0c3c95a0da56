-- With ASCII-only output on, an edit puts in no non-ASCII byte.
use Rattle.std.proofs.Common.{◌≡◌, ◌⊎◌, ℕ, true, cond, List, [], ◌∷◌, ◌++◌, refl, ap, sym, ◌∙◌, inl, inr, append_assoc, append-nil, not, ◌&&◌, lit<, lt-ltb, subst, arith}
use Rattle.std.specs.Prelude.{Option}
use Rattle.std.proofs.lemmas.Bool.{cond_both}
use Rattle.properties_format.specs.Text.{LineEnding, lf, line_feed}
use Rattle.properties_format.specs.Encoding.{Encoding, windows_1252, utf_8, byte_order_mark, begins_like_bom, piece_characters, ascii_in}
use Rattle.properties_format.specs.Lines.{end}
use Rattle.properties_format.specs.Computed.Encoding.{pieces_of, decoded_of}
use Rattle.properties_format.specs.Computed.Items.{items_of}
use Rattle.properties_format.specs.Printing.{encoded_text}
use Rattle.properties_format.specs.Body.{HeldLine, AreGroupsOf, held_in, ending_bytes, group_bytes, groups_bytes, last_ending}
use Rattle.properties_format.specs.Edited.{is_empty_line, is_left_open, bom_of, IsReplaced, IsAppended, IsWithout, guarding_lf, is_editable, edited, IsEditResult, separation_by}
use Rattle.properties_format.specs.Valued.{ending_among, ending_in, IsBodyValued}
use Rattle.properties_format.specs.Edits.{Edit, put, remove, set_value, IsEdited, AreEdited, IsEditAllResult, IsEditPairsResult}
use Rattle.properties_format.specs.AsciiOnly.{AreAsciiBytes, AreItemsInBoth, beyond_ascii, IsSubsequence, PutsInAscii, IsInAscii}
use Rattle.properties_format.proofs.Encodings.ByteOrderMarks.{decoded_of-unmarked}
use Rattle.properties_format.proofs.Printing.Characters.{AreAscii, AreAscii-append, AreEncodable-ascii, encoded_text-ascii, line_ending-ascii}
use Rattle.properties_format.proofs.ReadBack.Bytes.{ascii-scalars, text-decoded}
use Rattle.properties_format.proofs.AsciiOnly.{ascii-unmarked, bytes-ascii, ascii-of}
use Rattle.properties_format.proofs.Items.Unique.{items_of-meets}
use Rattle.properties_format.proofs.Body.Groups.{groups_bytes-append, held-body}
use Rattle.properties_format.proofs.Edited.ByteOrderMarks.{source-whole}
use Rattle.properties_format.proofs.Edited.Pair.{editable-own}
use Rattle.properties_format.proofs.Edits.Results.{edit-editable}
use Rattle.properties_format.proofs.Valued.Marks.{front-bytes}
use Rattle.properties_format.proofs.Valued.Separators.{new_separator-fit}
use Rattle.properties_format.proofs.Valued.InAscii.{encoded-in_ascii, pair_bytes-ascii, value_text-ascii, new_pair_bytes-ascii}

-- ---- subsequences

-- No elements are some of any.
sub-none : (ys : List ℕ) → IsSubsequence [] ys
sub-none [] = refl
sub-none (y ∷ ys) = inl (sub-none ys)

-- All elements are some of these.
sub-all : (xs : List ℕ) → IsSubsequence xs xs
sub-all [] = refl
sub-all (x ∷ xs) = inr (xs, refl, sub-all xs)

-- Some of the first, followed by some of the second.
sub-join : (a b c d : List ℕ) → IsSubsequence a b → IsSubsequence c d → IsSubsequence (a ++ c) (b ++ d)
sub-join a [] c d h k = subst (λ v. IsSubsequence (v ++ c) d) (sym h) k
sub-join a (y ∷ b) c d (inl h) k = inl (sub-join a b c d h k)
sub-join a (y ∷ b) c d (inr h) k = inr (h.0 ++ c, ap (λ v. v ++ c) h.1, sub-join h.0 b c d h.2 k)

-- Some of some of these are some of these.
sub-trans : (a b c : List ℕ) → IsSubsequence a b → IsSubsequence b c → IsSubsequence a c
sub-trans a b [] h k = subst (IsSubsequence a) k h
sub-trans a b (z ∷ c) h (inl k) = inl (sub-trans a b c h k)
sub-trans a b (z ∷ c) h (inr k) =
    let m : IsSubsequence a (z ∷ k.0) = subst (IsSubsequence a) k.1 h in
    elim m [
      | inl m ↦ inl (sub-trans a k.0 c m k.2)
      | inr m ↦ inr (m.0, m.1, sub-trans m.0 k.0 c m.2 k.2)
    ]

-- ---- non-ASCII bytes

-- Those of bytes and of others after them.
beyond-append : (x y : List ℕ) → beyond_ascii (x ++ y) ≡ beyond_ascii x ++ beyond_ascii y
beyond-append [] y = refl
beyond-append (b ∷ x) y = grind (arith, beyond-append x y)

-- ASCII bytes have none.
beyond-ascii : (x : List ℕ) → AreAscii x → beyond_ascii x ≡ []
beyond-ascii [] h = refl
beyond-ascii (b ∷ x) h = rw (lt-ltb b 0x80 h.0) (beyond-ascii x h.1)

-- Bytes that have none are ASCII.
ascii-beyond : (x : List ℕ) → beyond_ascii x ≡ [] → AreAscii x
ascii-beyond [] h = tt
ascii-beyond (b ∷ x) h = grind (arith, ascii-beyond x)

-- ---- what is put in

-- Nothing is put in.
pub puts-nothing : (x : List ℕ) → PutsInAscii x x
puts-nothing x = sub-all (beyond_ascii x)

-- ASCII bytes replace any.
pub puts-ascii : (x y : List ℕ) → AreAscii y → PutsInAscii x y
puts-ascii x y h = rw (beyond-ascii y h) (sub-none (beyond_ascii x))

-- Two parts, one after the other.
pub puts-join : (a b c d : List ℕ) → PutsInAscii a b → PutsInAscii c d → PutsInAscii (a ++ c) (b ++ d)
puts-join a b c d h k = rw (beyond-append b d, beyond-append a c) (sub-join (beyond_ascii b) (beyond_ascii a) (beyond_ascii d) (beyond_ascii c) h k)

-- Two edits, one after the other.
pub puts-trans : (a b c : List ℕ) → PutsInAscii a b → PutsInAscii b c → PutsInAscii a c
puts-trans a b c h k = sub-trans (beyond_ascii c) (beyond_ascii b) (beyond_ascii a) k h

-- ASCII bytes are put in at the front.
puts-in : (a b c : List ℕ) → AreAscii a → PutsInAscii b c → PutsInAscii b (a ++ c)
puts-in a b c k h = puts-join [] a b c (puts-ascii [] a k) h

-- The bytes before stay.
puts-after : (a b c : List ℕ) → PutsInAscii b c → PutsInAscii (a ++ b) (a ++ c)
puts-after a b c h = puts-join a a b c (puts-nothing a) h

-- A line ending is ASCII, if there is one.
ending-ascii : (o : Option LineEnding) → AreAscii (ending_bytes o)
ending-ascii o = grind (arith)

-- ---- an edit of a body

-- If the body of a source is edited so, then so is the source.
whole-puts : (e : Encoding) (source body result : List ℕ) (gs : List (List HeldLine)) → is_editable (byte_order_mark e source).encoding ≡ true
    → AreGroupsOf (byte_order_mark e source).encoding (byte_order_mark e source).body gs → PutsInAscii (groups_bytes gs) body → result ≡ bom_of source ++ body
    → PutsInAscii source result
whole-puts e source body result gs ok h k s =
    let f = byte_order_mark e source in
    let old = rw (← held-body f.encoding f.body gs ok h) at (source-whole e source) in
    rw s (subst (λ v. PutsInAscii v (bom_of source ++ body)) (sym old) (puts-after (bom_of source) (groups_bytes gs) body k))

-- ASCII bytes replace some, and the group's line ending stays before what is after it.
puts-tail : (x y : List ℕ) (g : List HeldLine) (after : List ℕ) → AreAscii y → PutsInAscii (x ++ after) (y ++ (ending_bytes (last_ending g) ++ after))
puts-tail x y g after h = puts-join x y after _ (puts-ascii x y h) (puts-in _ after after (ending-ascii (last_ending g)) (puts-nothing after))

-- The body stays, and ASCII bytes come after it.
more-puts : (x more : List ℕ) → AreAscii more → PutsInAscii x (x ++ more)
more-puts x more h = rw append-nil at (puts-after x [] more (puts-ascii [] more h))

-- What separates a pair from the last group is ASCII, if the line ending is.
separation_by-ascii : (ending : List ℕ) (g : List HeldLine) → AreAscii ending → AreAscii (separation_by ending g)
separation_by-ascii ending g one =
    cond_both (is_empty_line g) [] (cond (is_left_open g) (ending ++ ending) ending) AreAscii (λ k. tt)
    (λ k. cond_both (is_left_open g) (ending ++ ending) ending AreAscii (λ m. AreAscii-append ending ending one one) (λ m. one))

-- A key is set.
put-puts : (e : Encoding) (source : List ℕ) (gs : List (List HeldLine)) (key value body : List ℕ)
    → IsReplaced (ascii_in e) gs key value body ⊎ IsAppended (ascii_in e) source gs key value body → PutsInAscii (groups_bytes gs) body
put-puts e source gs key value body (inl r) =
    rw (r.division, groups_bytes-append r.before _, r.bytes) (puts-after (groups_bytes r.before) _ _ (search (puts-tail, pair_bytes-ascii)))
put-puts e source gs key value body (inr r) =
    rw (r.bytes, append_assoc)
    (more-puts (groups_bytes gs) _ (search (AreAscii-append, separation_by-ascii, line_ending-ascii, line_ending-ascii lf, pair_bytes-ascii)))

-- A value is set.
valued-puts : (e : Encoding) (gs : List (List HeldLine)) (key value body : List ℕ) → IsBodyValued (ascii_in e) gs key value body
    → PutsInAscii (groups_bytes gs) body
valued-puts e gs key value body (inl r) = rw r.bytes (puts-nothing (groups_bytes gs))
valued-puts e gs key value body (inr (inl r)) =
    rw (r.division, groups_bytes-append r.before (r.group ∷ r.after), r.bytes, front-bytes e r.group r.between r.front r.is_front, append_assoc r.front)
    (puts-after (groups_bytes r.before) _ _ (puts-after r.front _ _ (search (puts-tail, encoded-in_ascii, value_text-ascii))))
valued-puts e gs key value body (inr (inr r)) =
    let one : AreAscii (ending_in gs) = line_ending-ascii (ending_among lf (held_in gs)) in
    let good = (new_separator-fit gs key r.separator r.is_separator).good in
    rw (r.bytes, append_assoc)
    (more-puts (groups_bytes gs) _ (search (AreAscii-append, separation_by-ascii, new_pair_bytes-ascii, one, good)))

-- Groups are left out.
without-puts : (key : List ℕ) (gs : List (List HeldLine)) (rest : List ℕ) → IsWithout key gs rest → PutsInAscii (groups_bytes gs) rest
without-puts key [] rest h = rw h (puts-nothing [])
without-puts key (g ∷ gs) rest (inl h) = puts-join (group_bytes g) [] (groups_bytes gs) rest (puts-ascii (group_bytes g) [] tt) (without-puts key gs rest h.1)
without-puts key (g ∷ gs) rest (inr h) = rw h.2 (puts-after (group_bytes g) (groups_bytes gs) h.1 (without-puts key gs h.1 h.3))

-- ---- an edit of a source

-- Each edit puts in ASCII only: a pair, a value, or an LF at most,
pub edit-puts : (e : Encoding) (source : List ℕ) → is_editable (byte_order_mark e source).encoding ≡ true → (edit : Edit) (result : List ℕ)
    → IsEdited (ascii_in e) source edit result → PutsInAscii source result
edit-puts e source ok (put key value) result h =
    whole-puts e source h.body result h.groups ok h.held (put-puts (byte_order_mark e source).encoding source h.groups key value h.body h.edited) h.whole
edit-puts e source ok (remove key) result h =
    whole-puts e source (guarding_lf source h.rest ++ h.rest) result h.groups ok h.held
    (puts-in (guarding_lf source h.rest) (groups_bytes h.groups) h.rest
    (cond_both (not (begins_like_bom source) && begins_like_bom h.rest) (line_feed ∷ []) [] AreAscii (λ k. (lit< tt, tt)) (λ k. tt))
    (without-puts key h.groups h.rest h.without))
    h.whole
edit-puts e source ok (set_value key value) result h =
    whole-puts e source h.body result h.groups ok h.held (valued-puts (byte_order_mark e source).encoding h.groups key value h.body h.edited) h.whole

-- and each list of edits.
pub edits-puts : (e : Encoding) (source : List ℕ) (edits : List Edit) (result : List ℕ) → is_editable (byte_order_mark e source).encoding ≡ true
    → AreEdited (ascii_in e) source edits result → PutsInAscii source result
edits-puts e source [] result ok h = rw h (puts-nothing source)
edits-puts e source (edit ∷ edits) result ok h =
    puts-trans source h.0 result (edit-puts e source ok edit h.0 h.1) (edits-puts e h.0 edits result (edit-editable (ascii_in e) source edit h.0 ok h.1) h.2)

-- ---- what follows from that

-- If the source is ASCII, so is the result.
pub puts-ascii_bytes : (source result : List ℕ) → PutsInAscii source result → AreAsciiBytes source → AreAsciiBytes result
puts-ascii_bytes source result h k = bytes-ascii result (ascii-beyond result (rw (beyond-ascii source (ascii-of source k)) at h))

-- ASCII bytes decode to themselves.
ascii-decoded : (e : Encoding) (x : List ℕ) → is_editable e ≡ true → AreAscii x → decoded_of e x ≡ x
ascii-decoded e x ok h =
    decoded_of-unmarked e x (ap begins_like_bom (sym (encoded_text-ascii e x h)) ∙ ascii-unmarked e x h)
    ∙ ap (λ v. piece_characters (pieces_of e v)) (sym (encoded_text-ascii e x h))
    ∙ subst (λ a. piece_characters (pieces_of a (encoded_text e x)) ≡ x) (editable-own e ok) (text-decoded e x (ascii-scalars x h) (AreEncodable-ascii e x h))

-- So they have the same items in windows-1252 and in UTF-8.
pub ascii-alike : (x : List ℕ) → AreAsciiBytes x → AreItemsInBoth x (items_of utf_8 x end)
unfolding items_of
ascii-alike x h =
    let k = ascii-of x h in
    let same : items_of windows_1252 x end ≡ items_of utf_8 x end = rw (ascii-decoded windows_1252 x refl k, ascii-decoded utf_8 x refl k) in
    record { in_windows_1252 = rw same at (items_of-meets windows_1252 x end); in_utf_8 = items_of-meets utf_8 x end }

-- All of this together.
pub puts-in_ascii : (source result : List ℕ) → PutsInAscii source result → IsInAscii source result
puts-in_ascii source result h = record {
  puts = h;
  ascii = puts-ascii_bytes source result h;
  alike = λ k. (items_of utf_8 result end, ascii-alike result (puts-ascii_bytes source result h k));
}

-- It holds for each result of an edit,
pub edit-in_ascii : (e : Encoding) (source : List ℕ) (edit : Edit) (result : List ℕ)
    → IsEditResult e source (IsEdited (ascii_in e) source edit) (edited result) → IsInAscii source result
edit-in_ascii e source edit result h = puts-in_ascii source result (edit-puts e source h.0 edit result h.2)

-- of a list of edits,
pub edit_all-in_ascii : (e : Encoding) (source : List ℕ) (edits : List Edit) (result : List ℕ) → IsEditAllResult (ascii_in e) source edits (edited result)
    → IsInAscii source result
edit_all-in_ascii e source edits result h = puts-in_ascii source result (edits-puts e source edits result h.0 h.2)

-- and of such a list that passes over comments.
pub edit_pairs-in_ascii : (e : Encoding) (source : List ℕ) (edits : List Edit) (result : List ℕ) → IsEditPairsResult (ascii_in e) source edits (edited result)
    → IsInAscii source result
edit_pairs-in_ascii e source edits result h = puts-in_ascii source result (edits-puts e source edits result h.0 h.2)

-- The steps of a search for a line ending among undecoded bytes.
use Rattle.std.proofs.Common.{◌≡◌, ◌<◌, ◌≤◌, ◌+◌, ◌-◌, ◌%◌, ◌==◌, ℕ, suc, zero, true, false, Bool, List, [], ◌∷◌, ◌++◌, take, drop, length, get_or}
use Rattle.std.proofs.Common.{drop-cons, length-append, length-drop, refl, sym, ap, subst, ◌∙◌, arith}
use Rattle.std.specs.Prelude.{Option, Some, None, option_map}
use Rattle.std.proofs.Math.Nat.{zero-mod}
use Rattle.std.proofs.Math.Seq.{take-add}
use Rattle.std.proofs.lemmas.Bool.{false_from_ne_true}
use Rattle.std.proofs.lemmas.List.{take-append-drop, take_rest, length-take-le, take-append-le, get_or-drop}
use Rattle.std.proofs.lemmas.Bool.Decides.{nat_tests}
use Rattle.std.proofs.lemmas.Grind.{common_steps}
use Rattle.memchr.specs.Find.{Nowhere, NoneBefore, Passes, IsFirst, IsFirstByte}
use Rattle.properties_format.specs.Text.{carriage_return, is_line_ending}
use Rattle.properties_format.specs.Lines.{HoldsNoLineEnding}
use Rattle.properties_format.specs.Encoding.{Encoding, windows_1252, utf_8, utf_16le, utf_16be, IsAligned, ascii_bytes}
use Rattle.properties_format.specs.Cut.{units, HoldsNoLineEndingUnit}
use Rattle.properties_format.proofs.Cut.Units.{no_end_unit-append, no_end_unit-left, no_end-no_unit}
use Rattle.properties_lines.specs.LineSearch.{unit_size, whole_units, IsSearched, end_character, IsFirstLineEnding}
use Rattle.properties_lines.specs.declared.search.FoundEnding.{FoundEnding}

-- ---- Units.

-- the bytes of an ASCII character are one unit
pub length-ascii_bytes : (e : Encoding) (c : ℕ) → length (ascii_bytes e c) ≡ unit_size e
length-ascii_bytes windows_1252 c = refl
length-ascii_bytes utf_8 c = refl
length-ascii_bytes utf_16le c = refl
length-ascii_bytes utf_16be c = refl

-- bytes that are shorter than a unit have none
pub short-units : (e : Encoding) (d : List ℕ) → length d < unit_size e → units e d ≡ []
short-units windows_1252 [] h = refl
short-units windows_1252 (b ∷ d) h = absurd (omega arith)
short-units utf_8 [] h = refl
short-units utf_8 (b ∷ d) h = absurd (omega arith)
short-units utf_16le [] h = refl
short-units utf_16le (a ∷ []) h = refl
short-units utf_16le (a ∷ b ∷ d) h = absurd (omega arith)
short-units utf_16be [] h = refl
short-units utf_16be (a ∷ []) h = refl
short-units utf_16be (a ∷ b ∷ d) h = absurd (omega arith)

pub short-none : (e : Encoding) (d : List ℕ) → length d < unit_size e → HoldsNoLineEndingUnit e d
short-none e d h = rw (short-units e d h) tt

-- bytes are whole units where the size of a unit divides how many they are
pub aligned-length : (e : Encoding) (d : List ℕ) → length d % unit_size e ≡ 0 → IsAligned e d
aligned-length windows_1252 d h = tt
aligned-length utf_8 d h = tt
aligned-length utf_16le d h = h
aligned-length utf_16be d h = h

-- and the other way round
pub length-aligned : (e : Encoding) (d : List ℕ) → IsAligned e d → length d % unit_size e ≡ 0
length-aligned windows_1252 d h = omega arith
length-aligned utf_8 d h = omega arith
length-aligned utf_16le d h = h
length-aligned utf_16be d h = h

-- whole units are no more than there are bytes
pub whole_units-le : (e : Encoding) (n : ℕ) → whole_units e n ≤ n
whole_units-le e n = omega arith

-- and the size of a unit divides them
pub whole_units-whole : (e : Encoding) (n : ℕ) → whole_units e n % unit_size e ≡ 0
whole_units-whole windows_1252 n = omega arith
whole_units-whole utf_8 n = omega arith
whole_units-whole utf_16le n = omega arith
whole_units-whole utf_16be n = omega arith

-- ---- What is searched.

-- before the first byte there is nothing to find
pub nothing_searched : (e : Encoding) (bytes : List ℕ) → IsSearched e bytes 0
nothing_searched e bytes =
    record { within = omega arith; aligned = aligned-length e [] (zero-mod (unit_size e)); none_before = no_end-no_unit e [] tt }

-- what is searched stays so where more bytes come
pub searched-grown : (e : Encoding) (bytes more : List ℕ) (from : ℕ) → IsSearched e bytes from → IsSearched e (bytes ++ more) from
searched-grown e bytes more from s =
    let same : take from bytes ≡ take from (bytes ++ more) = sym (take-append-le from bytes more s.within) in
    let within = s.within in
    record {
      within = grind (arith, common_steps);
      aligned = subst (IsAligned e) same s.aligned;
      none_before = subst (HoldsNoLineEndingUnit e) same s.none_before;
    }

-- where bytes hold no line ending, their whole units are searched
pub searched-whole : (e : Encoding) (bytes : List ℕ) → HoldsNoLineEndingUnit e bytes → IsSearched e bytes (whole_units e (length bytes))
searched-whole e bytes h =
    let n = whole_units e (length bytes) in
    let le : n ≤ length bytes = whole_units-le e (length bytes) in
    let size : length (take n bytes) % unit_size e ≡ 0 = ap (λ m. m % unit_size e) (length-take-le n bytes le) ∙ whole_units-whole e (length bytes) in
    let aligned : IsAligned e (take n bytes) = aligned-length e (take n bytes) size in
    let both : HoldsNoLineEndingUnit e (take n bytes ++ drop n bytes) = subst (HoldsNoLineEndingUnit e) (sym (take-append-drop n bytes)) h in
    record { within = le; aligned = aligned; none_before = no_end_unit-left e (take n bytes) (drop n bytes) aligned both }

-- ---- Bytes that are no CR and no LF.

-- the bytes before a place, where none of them is a CR or an LF
plain-before : (d : List ℕ) (k : ℕ) → Nowhere (Passes is_line_ending d) 0 k → HoldsNoLineEnding (take k d)
plain-before [] zero h = tt
plain-before [] (suc k) h = tt
plain-before (c ∷ d) zero h = tt
plain-before (c ∷ d) (suc k) h = (
  false_from_ne_true (is_line_ending c) (h 0 (omega arith) (omega arith)),
  plain-before d k (λ j low high. h (suc j) (omega arith) (omega arith)),
)

-- the bytes between two places
plain-between : (d : List ℕ) (from count : ℕ) → Nowhere (Passes is_line_ending d) from (from + count) → HoldsNoLineEnding (take count (drop from d))
plain-between d from count h =
    plain-before (drop from d) count (λ k low high is. h (from + k) (omega arith) (omega arith) (ap is_line_ending (sym (get_or-drop from d k 0)) ∙ is))

-- a byte of what stands from a place on
read-from : (d : List ℕ) (from k : ℕ) → from ≤ k → get_or (drop from d) (k - from) 0 ≡ get_or d k 0
read-from d from k h = let is : from + (k - from) ≡ k = omega arith in get_or-drop from d (k - from) 0 ∙ ap (λ m. get_or d m 0) is

-- where none is a CR or an LF there, none is from that place on
nowhere-from : (d : List ℕ) (from count to : ℕ) → Nowhere (Passes is_line_ending (drop from d)) 0 count → to ≤ from + count
    → Nowhere (Passes is_line_ending d) from to
nowhere-from d from count to h le k low high is = h (k - from) (omega arith) (omega arith) (ap is_line_ending (read-from d from k low) ∙ is)

-- what was found in the bytes from a place on
pub first-from : (d : List ℕ) (from : ℕ) (found : Option ℕ) → IsFirstByte is_line_ending (take (length d - from) (drop from d)) found
    → from ≤ length d → IsFirst (Passes is_line_ending d) from (length d) (option_map (λ k. from + k) found)
first-from d from found h le = of_tail found (subst (λ v. IsFirstByte is_line_ending v found) (take_rest d from) h)
  where
    of_tail : (found : Option ℕ) → IsFirstByte is_line_ending (drop from d) found
        → IsFirst (Passes is_line_ending d) from (length d) (option_map (λ k. from + k) found)
    of_tail None h =
        let l : length (drop from d) ≡ length d - from = length-drop from d in
        nowhere-from d from (length (drop from d)) (length d) h (omega arith)
    of_tail (Some k) h =
        let l : length (drop from d) ≡ length d - from = length-drop from d in
        let high : k < length (drop from d) = h.0.high in (
          record { low = omega arith; high = omega arith; before = nowhere-from d from k (from + k) h.0.before (omega arith) },
          ap is_line_ending (sym (get_or-drop from d k 0)) ∙ h.1,
        )

-- a search goes on at a unit up to which there is no such byte
pub searched-up_to : (e : Encoding) (bytes : List ℕ) (from at : ℕ) → IsSearched e bytes from → Nowhere (Passes is_line_ending bytes) from at
    → from ≤ at → at ≤ length bytes → at % unit_size e ≡ 0 → IsSearched e bytes at
searched-up_to e bytes from at s h low within whole =
    let n = at - from in
    let is : from + n ≡ at = omega arith in
    let some : HoldsNoLineEnding (take n (drop from bytes)) = plain-between bytes from n (λ k l r. h k l (omega arith)) in
    let same : take at bytes ≡ take from bytes ++ take n (drop from bytes) = ap (λ m. take m bytes) (sym is) ∙ take-add from n bytes in
    record {
      within = within;
      aligned = aligned-length e (take at bytes) (ap (λ m. m % unit_size e) (length-take-le at bytes within) ∙ whole);
      none_before = subst (HoldsNoLineEndingUnit e) (sym same)
          (no_end_unit-append e (take from bytes) (take n (drop from bytes)) s.aligned s.none_before (no_end-no_unit e (take n (drop from bytes)) some));
    }

-- a search that found no such byte
pub searched-all : (e : Encoding) (bytes : List ℕ) (from : ℕ) → IsSearched e bytes from
    → Nowhere (Passes is_line_ending bytes) from (length bytes) → HoldsNoLineEndingUnit e bytes
searched-all e bytes from s h =
    let n = length bytes - from in
    let within = s.within in
    let rest : HoldsNoLineEnding (take n (drop from bytes)) = plain-between bytes from n (λ k l r. h k l (omega arith)) in
    let all : HoldsNoLineEnding (drop from bytes) = subst HoldsNoLineEnding (take_rest bytes from) rest in
    subst (HoldsNoLineEndingUnit e) (take-append-drop from bytes)
    (no_end_unit-append e (take from bytes) (drop from bytes) s.aligned s.none_before (no_end-no_unit e (drop from bytes) all))

-- ---- The unit at a place.

-- it is a line ending
pub found-at : (e : Encoding) (bytes : List ℕ) (end : FoundEnding) (rest : List ℕ) → IsSearched e bytes end.at
    → drop end.at bytes ≡ ascii_bytes e (end_character end.is_cr) ++ rest → IsFirstLineEnding e bytes end
found-at e bytes end rest s h =
    let unit = ascii_bytes e (end_character end.is_cr) in
    let size : length unit ≡ unit_size e = length-ascii_bytes e (end_character end.is_cr) in
    let all : length (drop end.at bytes) ≡ length unit + length rest = ap length h ∙ length-append unit rest in
    let left : length (drop end.at bytes) ≡ length bytes - end.at = length-drop end.at bytes in
    let within = s.within in
    record {
      rest = rest;
      division = sym (take-append-drop end.at bytes) ∙ ap (λ v. take end.at bytes ++ v) h;
      aligned = s.aligned;
      none_before = s.none_before;
      within = omega arith;
    }

-- the size of a unit divides such a place
searched-size : (e : Encoding) (bytes : List ℕ) (at : ℕ) → IsSearched e bytes at → at % unit_size e ≡ 0
searched-size e bytes at s = ap (λ m. m % unit_size e) (sym (length-take-le at bytes s.within)) ∙ length-aligned e (take at bytes) s.aligned

-- ---- Units of one byte.

-- where no byte is a CR or an LF, no unit is
pub searched-bytes : (e : Encoding) (bytes : List ℕ) (from : ℕ) → unit_size e ≡ 1 → from ≤ length bytes → HoldsNoLineEnding (take from bytes)
    → IsSearched e bytes from
searched-bytes e bytes from size le h =
    let one : length (take from bytes) % 1 ≡ 0 = omega arith in
    record {
      within = le;
      aligned = aligned-length e (take from bytes) (subst (λ n. length (take from bytes) % n ≡ 0) (sym size) one);
      none_before = no_end-no_unit e (take from bytes) h;
    }

-- a unit of one byte is its character
pub one-byte : (e : Encoding) (c : ℕ) → unit_size e ≡ 1 → ascii_bytes e c ≡ c ∷ []
one-byte windows_1252 c h = refl
one-byte utf_8 c h = refl
one-byte utf_16le c h = absurd (omega arith)
one-byte utf_16be c h = absurd (omega arith)

-- a CR or an LF, told by whether it is a CR
end_character-of : (c : ℕ) (is_cr : Bool) → (c == carriage_return) ≡ is_cr → is_line_ending c ≡ true → end_character is_cr ≡ c
end_character-of c true h is = grind (arith, nat_tests)
end_character-of c false h is = grind (arith, nat_tests)

-- a byte that is a line ending
pub found-byte : (e : Encoding) (bytes : List ℕ) (from at : ℕ) → unit_size e ≡ 1 → IsSearched e bytes from
    → NoneBefore (Passes is_line_ending bytes) from (length bytes) at → is_line_ending (get_or bytes at 0) ≡ true
    → IsFirstLineEnding e bytes (record { at = at; is_cr = get_or bytes at 0 == carriage_return })
found-byte e bytes from at size s h is =
    let c = get_or bytes at 0 in
    let whole : at % unit_size e ≡ 0 = (let one : at % 1 ≡ 0 = omega arith in subst (λ n. at % n ≡ 0) (sym size) one) in
    let high = h.high in
    let character : end_character (c == carriage_return) ≡ c = end_character-of c (c == carriage_return) refl is in
    found-at e bytes (record { at = at; is_cr = c == carriage_return }) (drop (suc at) bytes) (searched-up_to e bytes from at s h.before h.low (omega arith) whole)
    (drop-cons bytes at 0 h.high ∙ ap (λ v. v ++ drop (suc at) bytes) (sym (ap (ascii_bytes e) character ∙ one-byte e c size)))

-- ---- Units of two bytes.

-- two bytes at a place
two-at : (d : List ℕ) (at : ℕ) → at + 2 ≤ length d → drop at d ≡ get_or d at 0 ∷ get_or d (at + 1) 0 ∷ drop (at + 2) d
two-at d at h =
    let low : at < length d = omega arith in
    let high : at + 1 < length d = omega arith in
    let one : suc at ≡ at + 1 = omega arith in
    let two : suc (at + 1) ≡ at + 2 = omega arith in
    let second : drop (at + 1) d ≡ get_or d (at + 1) 0 ∷ drop (at + 2) d =
    drop-cons d (at + 1) 0 high ∙ ap (λ n. get_or d (at + 1) 0 ∷ drop n d) two in
    drop-cons d at 0 low ∙ ap (λ v. get_or d at 0 ∷ v) (ap (λ n. drop n d) one ∙ second)

-- a unit of two bytes that is the character of a line ending
pub found-unit : (e : Encoding) (bytes : List ℕ) (end : FoundEnding) → IsSearched e bytes end.at → end.at + 2 ≤ length bytes
    → ascii_bytes e (end_character end.is_cr) ≡ get_or bytes end.at 0 ∷ get_or bytes (end.at + 1) 0 ∷ [] → IsFirstLineEnding e bytes end
found-unit e bytes end s le h =
    let rest = drop (end.at + 2) bytes in
    found-at e bytes end rest s (two-at bytes end.at le ∙ ap (λ v. v ++ rest) (sym h))

-- a search goes on after a unit of two bytes that is no line ending
pub searched-past : (e : Encoding) (bytes : List ℕ) (at : ℕ) → unit_size e ≡ 2 → IsSearched e bytes at → at + 2 ≤ length bytes
    → HoldsNoLineEndingUnit e (get_or bytes at 0 ∷ get_or bytes (at + 1) 0 ∷ []) → IsSearched e bytes (at + 2)
searched-past e bytes at size s le none =
    let unit = get_or bytes at 0 ∷ get_or bytes (at + 1) 0 ∷ [] in
    let even : at % 2 ≡ 0 = subst (λ n. at % n ≡ 0) size (searched-size e bytes at s) in
    let next : (at + 2) % 2 ≡ 0 = omega arith in
    let same : take (at + 2) bytes ≡ take at bytes ++ unit = take-add at 2 bytes ∙ ap (λ v. take at bytes ++ take 2 v) (two-at bytes at le) in
    record {
      within = le;
      aligned = aligned-length e (take (at + 2) bytes)
          (ap (λ m. m % unit_size e) (length-take-le (at + 2) bytes le) ∙ subst (λ n. (at + 2) % n ≡ 0) (sym size) next);
      none_before = subst (HoldsNoLineEndingUnit e) (sym same) (no_end_unit-append e (take at bytes) unit s.aligned s.none_before none);
    }

-- a last byte alone is no unit
pub searched-last : (e : Encoding) (bytes : List ℕ) (at : ℕ) → unit_size e ≡ 2 → IsSearched e bytes at → length bytes - at < 2
    → HoldsNoLineEndingUnit e bytes
searched-last e bytes at size s last =
    let short : length (drop at bytes) < unit_size e = omega (arith, size, length-drop at bytes) in
    subst (HoldsNoLineEndingUnit e) (take-append-drop at bytes)
    (no_end_unit-append e (take at bytes) (drop at bytes) s.aligned s.none_before (short-none e (drop at bytes) short))

-- the unit in which such a byte stands, up to which there is none
pub searched-hit : (e : Encoding) (bytes : List ℕ) (from hit : ℕ) → unit_size e ≡ 2 → IsSearched e bytes from
    → NoneBefore (Passes is_line_ending bytes) from (length bytes) hit → IsSearched e bytes (hit - hit % 2)
searched-hit e bytes from hit size s h =
    let at = hit - hit % 2 in
    let even : from % 2 ≡ 0 = subst (λ n. from % n ≡ 0) size (searched-size e bytes from s) in
    let low = h.low in
    let high = h.high in
    let two : at % 2 ≡ 0 = omega arith in
    let whole : at % unit_size e ≡ 0 = subst (λ n. at % n ≡ 0) (sym size) two in
    searched-up_to e bytes from at s (λ k l r. h.before k l (omega arith)) (omega arith) (omega arith) whole

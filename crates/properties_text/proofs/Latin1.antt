-- Characters of Latin-1 in UTF-8, sixteen at a time.
use Rattle.std.proofs.Common.{◌≡◌, ℕ, zero, suc, ◌<◌, ◌≤◌, Bool, true, false, cond, ltb, eqb, List, [], ◌∷◌, ◌++◌, refl, sym, ap, ap₂, ◌∙◌, arith, length, take, drop, get_or, map, replicate, w8, Fits, bit_and}
use Rattle.std.specs.Prelude.{encode_utf8_all}
use Rattle.std.specs.Char.{encode_utf8}
use Rattle.std.specs.Simd.Lanes.{zip2, Each1, sel_l, top}
use Rattle.std.specs.Str.{IsUtf8, chars}
use Rattle.std.proofs.Math.Utf8.{scalar, scalars}
use Rattle.std.proofs.lemmas.Bool.{cond-false, and_from, agree_below_at, eqb-true}
use Rattle.std.proofs.lemmas.List.{get_or-take, take-take, take-map, map-id}
use Rattle.std.proofs.lemmas.Simd.{Each1-chunk, tops_compared, zip2_splat, splat_is_map}
use Rattle.std.proofs.lemmas.Str.{encode_ascii}
use Rattle.std.proofs.lemmas.Bool.Decides.{nat_tests}
use Rattle.properties_format.proofs.Encodings.Utf8Characters.{encode-two}
use Rattle.properties_format.specs.Windows1252.{is_in_table, windows_1252_character}
use Rattle.properties_format.specs.Encoding.{windows_1252}
use Rattle.properties_format.proofs.Encodings.Waiting.{characters-step}
use Rattle.properties_text.specs.Encoding.{text_of}
use Rattle.properties_text.specs.declared.encoding.Encoding.TheVariants.{WINDOWS_1252}
use Rattle.properties_text.specs.Private.Tails.{lead_byte, last_byte}
use Rattle.properties_text.proofs.TextFronts.{decoded-more}
use Rattle.byte_blocks.specs.Classes.{is_non_ascii}
use Rattle.byte_blocks.specs.Marks.{clear_front, spread}
use Rattle.byte_blocks.proofs.Marking.{fails-before}

-- ---- one character

-- The two bytes of a non-ASCII character.
pub two-bytes : (c : ℕ) → 0x80 ≤ c → c < 0x100 → encode_utf8 c ≡ lead_byte c ∷ last_byte c ∷ []
two-bytes c l h = rw (encode-two c l (omega arith)) (grind (arith, nat_tests))

-- One character, of one byte or two.
one-spread : (c : ℕ) → c < 0x100 → encode_utf8 c ≡ cond (is_non_ascii c) (lead_byte c ∷ last_byte c ∷ []) (last_byte c ∷ [])
one-spread c small = grind (arith, nat_tests, two-bytes, encode_ascii)

-- ---- several characters

-- The UTF-8 bytes are the characters' last bytes, with first bytes inserted before some of them.
latin-spread : (cs : List ℕ) → Each1 (Fits w8) cs → encode_utf8_all cs ≡ spread (map is_non_ascii cs) (map lead_byte cs) (map last_byte cs)
latin-spread [] fits = refl
latin-spread (c ∷ cs) fits = ap₂ (λ x y. x ++ y) (one-spread c fits.0.fits) (latin-spread cs fits.1)

-- The UTF-8 bytes of the first k characters.
pub first_spread : (v block before : List ℕ) (marks : List Bool) (k : ℕ) → Each1 (Fits w8) v
    → block ≡ map last_byte v → before ≡ map lead_byte v → marks ≡ map is_non_ascii v
    → spread (take k marks) (take k before) (take k block) ≡ encode_utf8_all (take k v)
first_spread v block before marks k fits block_is before_is marks_are =
    simp (marks_are, before_is, block_is, take-map) (sym (latin-spread (take k v) (Each1-chunk (Fits w8) 0 k v fits)))

-- ---- what is computed of each lane

-- Two functions that agree on every byte give the same results.
map-agree : (f g : ℕ → ℕ) (v : List ℕ) → ((b : ℕ) → b < 256 → f b ≡ g b) → Each1 (Fits w8) v → map f v ≡ map g v
map-agree f g [] e h = refl
map-agree f g (b ∷ v) e h = ap₂ (λ x xs. x ∷ xs) (e b h.0.fits) (map-agree f g v e h.1)

-- A choice for each lane.
pub sel_l-map : (p : ℕ → Bool) (f g : ℕ → ℕ) (v : List ℕ) → sel_l (map p v) (map f v) (map g v) ≡ map (λ b. cond (p b) (f b) (g b)) v
sel_l-map p f g [] = refl
sel_l-map p f g (b ∷ v) = ap (λ l. cond (p b) (f b) (g b) ∷ l) (sel_l-map p f g v)

-- which bytes are below C0
abbrev lower : List ℕ → List Bool
lower v = map (top 7) (zip2 (λ a b. cond (ltb a b) 255 0) v (replicate 16 0xc0))

-- What the comparison says about each byte.
lower-is : (v : List ℕ) → length v ≡ 16 → lower v ≡ map (λ b. ltb b 0xc0) v
lower-is v long = tops_compared w8 ltb v (replicate 16 0xc0) ∙ zip2_splat ltb v 16 0xc0 long

-- The byte with the bit 40 cleared.
last-at : (b : ℕ) → b < 256 → cond (ltb b 0xc0) b (bit_and b 0xbf) ≡ last_byte b
last-at b h = eqb-true _ _ (agree_below_at (λ b. eqb (cond (ltb b 0xc0) b (bit_and b 0xbf)) (last_byte b)) (λ b. true) 256 b refl h)

-- The last bytes of all characters.
pub lasts_are : (v : List ℕ) → length v ≡ 16 → Each1 (Fits w8) v → sel_l (lower v) v (zip2 bit_and v (replicate 16 0xbf)) ≡ map last_byte v
lasts_are v long fits =
    rw (lower-is v long, zip2_splat bit_and v 16 0xbf long) (
    ap (λ xs. sel_l (map (λ b. ltb b 0xc0) v) xs (map (λ b. bit_and b 0xbf) v)) (sym (map-id v))
    ∙ sel_l-map (λ b. ltb b 0xc0) (λ b. b) (λ b. bit_and b 0xbf) v
    ∙ map-agree (λ b. cond (ltb b 0xc0) b (bit_and b 0xbf)) last_byte v last-at fits)

-- The first bytes of all characters.
pub leads-are : (v : List ℕ) → length v ≡ 16 → sel_l (lower v) (replicate 16 0xc2) (replicate 16 0xc3) ≡ map lead_byte v
leads-are v long =
    rw (lower-is v long, splat_is_map {Y = ℕ} v 16 0xc2 long, splat_is_map {Y = ℕ} v 16 0xc3 long)
    (sel_l-map (λ b. ltb b 0xc0) (λ b. 0xc2) (λ b. 0xc3) v)

-- ---- bytes of windows-1252

-- The bytes before the first of the table aren't in it.
pub not-in_table : (bytes : List ℕ) (marks : List Bool) (k : ℕ) → marks ≡ map is_in_table (take 16 bytes) → k ≤ 16 → k ≤ clear_front marks
    → (j : ℕ) → j < k → is_in_table (get_or bytes j 0) ≡ false
not-in_table bytes marks k e le few j lt =
    ap is_in_table (sym (get_or-take 16 bytes j 0 (omega (arith, lt, le)))) ∙ fails-before is_in_table (take 16 bytes) marks k e few j lt

-- Bytes that aren't in the table are characters with the same numbers.
same-numbers : (bytes : List ℕ) (k : ℕ) → k ≤ length bytes → ((j : ℕ) → j < k → is_in_table (get_or bytes j 0) ≡ false)
    → text_of WINDOWS_1252 bytes ≡ take k bytes ++ text_of WINDOWS_1252 (drop k bytes)
same-numbers bytes zero le h = refl
same-numbers [] (suc k) le h = absurd (omega arith)
same-numbers (b ∷ bytes) (suc k) le h =
    let own : windows_1252_character b ≡ b = cond-false (is_in_table b) _ b (h 0 (omega arith)) in
    characters-step windows_1252 b bytes ∙ ap₂ (λ x y. x ∷ y) own (same-numbers bytes k (omega arith) (λ j lt. h (suc j) (omega arith)))

-- A byte is the number of a scalar value.
scalar-at : (b : ℕ) → b < 256 → scalar b ≡ true
scalar-at b h = agree_below_at scalar (λ b. true) 256 b refl h

-- Several bytes are scalar values.
scalars-bytes : (cs : List ℕ) → Each1 (Fits w8) cs → scalars cs ≡ true
scalars-bytes [] h = refl
scalars-bytes (c ∷ cs) h = and_from (scalar c) (scalars cs) (scalar-at c h.0.fits) (scalars-bytes cs h.1)

-- The first k bytes are scalar values.
pub first_scalars : (cs : List ℕ) (k : ℕ) → Each1 (Fits w8) cs → scalars (take k cs) ≡ true
first_scalars cs k h = scalars-bytes (take k cs) (Each1-chunk (Fits w8) 0 k cs h)

-- The decoded text of the first k of sixteen bytes is appended to a text.
pub decoded-front : (old new bytes all : List ℕ) (k : ℕ) → IsUtf8 old → scalars (take k (take 16 bytes)) ≡ true → 16 ≤ length bytes → k ≤ 16
    → ((j : ℕ) → j < k → is_in_table (get_or bytes j 0) ≡ false)
    → new ≡ old ++ encode_utf8_all (take k (take 16 bytes)) → chars old ++ text_of WINDOWS_1252 bytes ≡ all
    → IsUtf8 new × (chars new ++ text_of WINDOWS_1252 (drop k bytes) ≡ all)
decoded-front old new bytes all k u are long le h e joins =
    let cs = take k (take 16 bytes) in
    let split : text_of WINDOWS_1252 bytes ≡ cs ++ text_of WINDOWS_1252 (drop k bytes) =
    rw (take-take k 16 bytes le) (same-numbers bytes k (omega arith) h) in
    decoded-more old new cs _ _ all u are e split joins

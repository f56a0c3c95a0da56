-- The number of backslashes at the end of a text, counted on its bytes.
use Rattle.std.proofs.Common.{◌≡◌, ℕ, ◌<◌, ◌≤◌, ◌+◌, ◌-◌, ◌==◌, false, List, [], ◌∷◌, ◌++◌, length, take, get_or, refl, ap, sym, ◌∙◌, append_assoc, arith}
use Rattle.std.proofs.lemmas.Grind.{common_steps}
use lib.Utf8.{encodes}
use Rattle.std.specs.Str.{IsUtf8, chars}
use Rattle.std.proofs.lemmas.Str.{encodes-chars}
use Rattle.properties_format.specs.Text.{backslash}
use Rattle.properties_format.specs.Lines.{ending_backslashes}
use Rattle.properties_format.proofs.Groups.Open.{ending_backslashes-none, ending_backslashes-after}
use Rattle.properties_text.proofs.Scanning.{take-last}
use Rattle.properties_text.proofs.Texts.Characters.{AreWide, one, wide, encoded, wide-no_backslash}

-- ---- in bytes and in characters

ending-wide : (bs rest : List ℕ) → AreWide bs → ending_backslashes (bs ++ rest) ≡ ending_backslashes rest
ending-wide [] rest w = refl
ending-wide (b ∷ bs) rest w = ending_backslashes-after [] b (bs ++ rest) (wide-no_backslash b w.0) ∙ ending-wide bs rest w.1

-- A text ends in as many backslashes in bytes as in characters, whatever comes before it.
ending-encodes : (cs front : List ℕ) → ending_backslashes (front ++ encodes cs) ≡ ending_backslashes (front ++ cs)
ending-encodes [] front = refl
ending-encodes (c ∷ cs) front = elim (encoded c) [
  | one s e ↦ rw (e, ← append_assoc front (c ∷ []) (encodes cs), ending-encodes cs (front ++ c ∷ []), append_assoc) refl
  | wide h b bs e l k m ↦
      let other = ending_backslashes-after front b (bs ++ encodes cs) (wide-no_backslash b l) in
      rw (e, other, ending-wide bs (encodes cs) k, ending_backslashes-after front c cs (wide-no_backslash c h)) (ending-encodes cs [])
]

pub ending_backslashes-encodes : (cs : List ℕ) → ending_backslashes (encodes cs) ≡ ending_backslashes cs
ending_backslashes-encodes cs = ending-encodes cs []

pub ending_backslashes-text : (bs : List ℕ) → IsUtf8 bs → ending_backslashes (chars bs) ≡ ending_backslashes bs
ending_backslashes-text bs u = sym (ending_backslashes-encodes (chars bs)) ∙ ap ending_backslashes (encodes-chars bs u)

-- ---- counted from the end

-- The backslashes from this index to the end were counted.
abbrev pub IsCounted : List ℕ → ℕ → Type 0
IsCounted xs start = ending_backslashes xs ≡ ending_backslashes (take start xs) + (length xs - start)

-- No character comes before them, or one that isn't a backslash.
pub counted_all : (xs : List ℕ) (e : ℕ) → IsUtf8 xs → e ≤ 0 → IsCounted xs e → length xs - e ≡ ending_backslashes (chars xs)
counted_all xs e u h k = grind (arith, common_steps, k, ending_backslashes-text xs u)

pub counted_stop : (xs : List ℕ) (e : ℕ) → IsUtf8 xs → 0 < e → e ≤ length xs → (get_or xs (e - 1) 0 == backslash) ≡ false → IsCounted xs e
    → length xs - e ≡ ending_backslashes (chars xs)
counted_stop xs e u p h other k =
    let stop : ending_backslashes (take e xs) ≡ 0 =
    ap ending_backslashes (take-last xs e p h) ∙ ending_backslashes-none (take (e - 1) xs) (get_or xs (e - 1) 0) other in
    omega (arith, k, stop, ending_backslashes-text xs u)

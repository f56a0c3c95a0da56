-- The places of a group's parts don't descend.
use Rattle.std.proofs.Common.{◌≡◌, ◌<◌, ◌≤◌, ℕ, zero, suc, ◌+◌, ◌-◌, Bool, false, List, [], ◌∷◌, ◌++◌, length, take, drop, inl, inr, ap, sym, ◌∙◌, arith, append-nil, length-append}
use Rattle.std.specs.Prelude.{nat_le}
use Rattle.std.proofs.lemmas.Bool.{cases_Bool}
use Rattle.std.proofs.lemmas.List.{take_all}
use Rattle.std.proofs.lemmas.Bool.Decides.{nat_tests}
use Rattle.properties_format.specs.Encoding.{Encoding, IsPieces}
use Rattle.properties_format.specs.Text.{Piece, is_blank, begins, without_leading_blanks}
use Rattle.properties_format.specs.Split as split
use Rattle.properties_format.specs.Split.{IsSplit}
use Rattle.properties_format.specs.Body.{HeldLine, ending_bytes}
use Rattle.properties_format.specs.Computed.Encoding.{pieces_of}
use Rattle.properties_format.specs.Computed.Body.{unended_bytes}
use Rattle.properties_format.specs.Computed.Valued.{head_of, pieces_bytes, after_key, value_as_written}
use Rattle.properties_format.proofs.Encodings.Pieces.{pieces_of-meets}
use Rattle.properties_format.proofs.Split.Blanks.{without_leading_blanks-only, core-begins}
use Rattle.properties_format.proofs.Valued.Parts.{written_value-pair, after_key-pair}
use Rattle.properties_editing.specs.Private.BodyCuts.{added_lines, adds, cut_at, cut_size, indent_size}
use Rattle.properties_editing.specs.Private.BodyViews.{Counts, after_sign, counts_by}
use Rattle.properties_editing.proofs.BodyCuts.{cut-here, cut-past}

-- ---- heads

pieces-ordered : (a b : ℕ) (ps : List Piece) → a ≤ b → length (pieces_bytes (take a ps)) ≤ length (pieces_bytes (take b ps))
pieces-ordered zero b ps l = omega arith
pieces-ordered (suc a) zero ps l = absurd (omega arith)
pieces-ordered (suc a) (suc b) [] l = omega arith
pieces-ordered (suc a) (suc b) (p ∷ ps) l =
    let m = pieces-ordered a b ps (omega arith) in
    let x = length-append p.bytes (pieces_bytes (take a ps)) in
    let y = length-append p.bytes (pieces_bytes (take b ps)) in
    omega arith

pieces-whole : (e : Encoding) (d : List ℕ) (ps : List Piece) → IsPieces e d ps → pieces_bytes ps ≡ d
pieces-whole e d [] h = sym h
pieces-whole e d (p ∷ ps) (rest, s, h, k) = ap (λ v. p.bytes ++ v) (pieces-whole e rest ps k) ∙ sym s

head-less : (e : Encoding) (n : ℕ) (d : List ℕ) → length (head_of e n d) ≤ length d
head-less e n d =
    let ps = pieces_of e d in
    let front = pieces-ordered n (n + length ps) ps (omega arith) in
    let whole : length (pieces_bytes (take (n + length ps) ps)) ≡ length d =
    ap length (ap pieces_bytes (take_all (n + length ps) ps (omega arith)) ∙ pieces-whole e d ps (pieces_of-meets e d)) in
    omega arith

-- ---- cuts

here-size : (e : Encoding) (first : Bool) (n : ℕ) (h : HeldLine) (hs : List HeldLine) → n ≤ length (adds first h.text)
    → cut_size (cut_at e first n (h ∷ hs)) ≡ length (head_of e (indent_size first h.text + n) h.bytes)
here-size e first n h hs l =
    let none : 0 + length (head_of e (indent_size first h.text + n) h.bytes) ≡ length (head_of e (indent_size first h.text + n) h.bytes) = omega arith in
    ap cut_size (cut-here e first n h hs l) ∙ none

past-size : (e : Encoding) (first : Bool) (n : ℕ) (h : HeldLine) (hs : List HeldLine) → length (adds first h.text) < n
    → cut_size (cut_at e first n (h ∷ hs)) ≡ length h.bytes + (length (ending_bytes h.ending) + cut_size (cut_at e false (n - length (adds first h.text)) hs))
past-size e first n h hs l =
    let c = cut_at e false (n - length (adds first h.text)) hs in
    let sum : length h.bytes + (length (ending_bytes h.ending) + c.before) + c.head ≡ length h.bytes + (length (ending_bytes h.ending) + (c.before + c.head)) =
    omega arith in
    ap cut_size (cut-past e first n h hs l) ∙ sum

-- A later cut isn't before an earlier one.
pub cut-ordered : (e : Encoding) (first : Bool) (m n : ℕ) (hs : List HeldLine) → m ≤ n → cut_size (cut_at e first m hs) ≤ cut_size (cut_at e first n hs)
cut-ordered e first m n [] l = omega arith
cut-ordered e first m n (h ∷ hs) l = elim (cases_Bool (nat_le n (length (adds first h.text)))) [
  | inl k ↦
      let within : n ≤ length (adds first h.text) = grind (arith, nat_tests) in
      let less = pieces-ordered (indent_size first h.text + m) (indent_size first h.text + n) (pieces_of e h.bytes) (omega arith) in
      let one = here-size e first m h hs (omega arith) in
      let two = here-size e first n h hs within in
      omega arith
  | inr k ↦
      let over : length (adds first h.text) < n = grind (arith, nat_tests) in
      let two = past-size e first n h hs over in
      elim (cases_Bool (nat_le m (length (adds first h.text)))) [
        | inl j ↦
            let within : m ≤ length (adds first h.text) = grind (arith, nat_tests) in
            let one = here-size e first m h hs within in
            let less = head-less e (indent_size first h.text + m) h.bytes in
            omega arith
        | inr j ↦
            let beyond : length (adds first h.text) < m = grind (arith, nat_tests) in
            let one = past-size e first m h hs beyond in
            let rest = cut-ordered e false (m - length (adds first h.text)) (n - length (adds first h.text)) hs (omega arith) in
            omega arith
      ]
]

-- A cut of a group is before its last line ending.
pub cut-unended : (e : Encoding) (first : Bool) (n : ℕ) (h : HeldLine) (hs : List HeldLine) → n ≤ length (added_lines first (h ∷ hs))
    → cut_size (cut_at e first n (h ∷ hs)) ≤ length (unended_bytes (h ∷ hs))
cut-unended e first n h [] l =
    let none : length (adds first h.text ++ []) ≡ length (adds first h.text) = ap length (append-nil (adds first h.text)) in
    let one = here-size e first n h [] (omega arith) in
    let less = head-less e (indent_size first h.text + n) h.bytes in
    omega arith
cut-unended e first n h (i ∷ is) l =
    let sizes : length (added_lines first (h ∷ i ∷ is)) ≡ length (adds first h.text) + length (added_lines false (i ∷ is)) =
    length-append (adds first h.text) (added_lines false (i ∷ is)) in
    let all : length (unended_bytes (h ∷ i ∷ is)) ≡ length h.bytes + (length (ending_bytes h.ending) + length (unended_bytes (i ∷ is))) =
    length-append h.bytes _ ∙ ap (λ m. length h.bytes + m) (length-append (ending_bytes h.ending) (unended_bytes (i ∷ is))) in
    elim (cases_Bool (nat_le n (length (adds first h.text)))) [
      | inl k ↦
          let one = here-size e first n h (i ∷ is) (grind (arith, nat_tests)) in
          let less = head-less e (indent_size first h.text + n) h.bytes in
          omega arith
      | inr k ↦
          let over : length (adds first h.text) < n = grind (arith, nat_tests) in
          let two = past-size e first n h (i ∷ is) over in
          let rest = cut-unended e false (n - length (adds first h.text)) i is (omega arith) in
          omega arith
    ]

-- ---- counts

-- the counts of a comment, by its division
pub record AreOfComment (x text : List ℕ) (d : split.IsComment x text) : Type 0 where
  pub key_start : (counts_by (split.comment text) x).key_start ≡ length d.indent
  pub key_end : (counts_by (split.comment text) x).key_end ≡ length d.indent + 1
  pub value_start : (counts_by (split.comment text) x).value_start ≡ length d.indent + 1 + length d.trimmed.before
  pub value_end : (counts_by (split.comment text) x).value_end ≡ length d.indent + 1 + length d.trimmed.before + length text
  pub whole : length x ≡ length d.indent + 1 + length d.trimmed.before + length text + length d.trimmed.after

pub comment-counts : (x text : List ℕ) (d : split.IsComment x text) → AreOfComment x text d
comment-counts x text d =
    let t = d.trimmed in
    let full : is_blank d.sign ≡ false = (let k = d.is_sign in grind (arith)) in
    let y : without_leading_blanks x ≡ d.sign ∷ d.rest =
    ap without_leading_blanks d.whole ∙ without_leading_blanks-only d.indent (d.sign ∷ d.rest) d.indent_blank full in
    let sign : after_sign x ≡ d.rest = ap (drop 1) y in
    let rest_full : begins is_blank (text ++ t.after) ≡ false = core-begins text t.after t.begins_full t.empty_last in
    let rest : without_leading_blanks (after_sign x) ≡ text ++ t.after =
    ap without_leading_blanks (sign ∙ t.whole) ∙ without_leading_blanks-only t.before (text ++ t.after) t.before_blank rest_full in
    let all : length x ≡ length d.indent + length (d.sign ∷ d.rest) = ap length d.whole ∙ length-append d.indent (d.sign ∷ d.rest) in
    let a : length (without_leading_blanks x) ≡ length (d.sign ∷ d.rest) = ap length y in
    let b : length (after_sign x) ≡ length d.rest = ap length sign in
    let c : length (without_leading_blanks (after_sign x)) ≡ length text + length t.after = ap length rest ∙ length-append text t.after in
    let w : length d.rest ≡ length t.before + length (text ++ t.after) = ap length t.whole ∙ length-append t.before (text ++ t.after) in
    let z = length-append text t.after in
    record { key_start = omega arith; key_end = omega arith; value_start = omega arith; value_end = omega arith; whole = omega arith }

-- the counts of a pair, by its division
pub record AreOfPair (x key value : List ℕ) (d : split.IsPair x key value) : Type 0 where
  pub key_start : (counts_by (split.pair key value) x).key_start ≡ length d.indent
  pub key_end : (counts_by (split.pair key value) x).key_end ≡ length d.indent + length key
  pub value_start : (counts_by (split.pair key value) x).value_start ≡ length d.indent + length key + length d.between
  pub whole : length x ≡ length d.indent + length key + length d.between + length value

pub pair-counts : (x key value : List ℕ) (d : split.IsPair x key value) → AreOfPair x key value d
pair-counts x key value d =
    let core = key ++ (d.between ++ value) in
    let y : without_leading_blanks x ≡ core = ap without_leading_blanks d.whole ∙ without_leading_blanks-only d.indent core d.indent_blank d.begins_full in
    let a : length (without_leading_blanks x) ≡ length core = ap length y in
    let b : length (after_key x) ≡ length (d.between ++ value) = ap length (after_key-pair x key value d) in
    let c : length (value_as_written x) ≡ length value = ap length (written_value-pair x key value d) in
    let all : length x ≡ length d.indent + length core = ap length d.whole ∙ length-append d.indent core in
    let s = length-append key (d.between ++ value) in
    let t = length-append d.between value in
    record { key_start = omega arith; key_end = omega arith; value_start = omega arith; whole = omega arith }

pub record AreCountsOrdered (x : List ℕ) (counts : Counts) : Type 0 where
  pub key : counts.key_start ≤ counts.key_end
  pub between : counts.key_end ≤ counts.value_start
  pub value : counts.value_start ≤ counts.value_end
  pub end : counts.value_end ≤ length x

pub counts-ordered : (s : split.Logical) (x : List ℕ) → IsSplit x s → AreCountsOrdered x (counts_by s x)
counts-ordered split.blank x h = record { key = omega arith; between = omega arith; value = omega arith; end = omega arith }
counts-ordered (split.comment text) x d =
    let c = comment-counts x text d in
    let a = c.key_start in
    let b = c.key_end in
    let s = c.value_start in
    let e = c.value_end in
    let w = c.whole in
    record { key = omega arith; between = omega arith; value = omega arith; end = omega arith }
counts-ordered (split.pair key value) x d =
    let c = pair-counts x key value d in
    let a = c.key_start in
    let b = c.key_end in
    let s = c.value_start in
    let w = c.whole in
    record { key = omega arith; between = omega arith; value = omega arith; end = omega arith }

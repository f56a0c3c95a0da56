-- Where a cut of a group's logical line is among the bytes of the group.
use Rattle.std.specs.Prelude.{◌≡◌, ◌≢◌, ◌≤◌, ◌++◌, ℕ, suc, ◌+◌, ◌-◌, ◌&&◌, nat_le, Bool, true, false, if◌then◌else◌, List, [], ◌∷◌, length}
use Rattle.properties_format.specs.Encoding.{Encoding}
use Rattle.properties_format.specs.Text.{without_leading_blanks}
use Rattle.properties_format.specs.Lines.{is_comment_line}
use Rattle.properties_format.specs.Body.{HeldLine, ending_bytes, group_bytes}
use Rattle.properties_format.specs.Computed.Cut.{decoded_line}
use Rattle.properties_format.specs.Computed.Valued.{without_indent, added_by, head_of}
use Rattle.properties_editing.specs.declared.cuts.Cut as code

-- ---- what a line adds

-- what a line adds to its group: a comment line that begins a group is added as it is
abbrev pub adds : Bool → List ℕ → List ℕ
adds first x = if first && is_comment_line x then x else added_by first x

-- how many characters of a line come before what it adds
abbrev pub indent_size : Bool → List ℕ → ℕ
indent_size first x = length x - length (without_indent first x)

-- ---- a cut

-- Where lines are cut: in which of them, counted from 1; how many bytes the lines before that one have with their line
-- endings; and how many bytes of that line come before the cut.
pub record Cut : Type 0 where
  pub line : ℕ
  pub before : ℕ
  pub head : ℕ

-- the cut, with one more line before it
abbrev pub cut_past_line : HeldLine → Cut → Cut
cut_past_line h cut = record { line = suc cut.line; before = length h.bytes + (length (ending_bytes h.ending) + cut.before); head = cut.head }

-- the cut after the first n characters that these lines add; the flag says whether the first of them is the first of
-- its group
abbrev pub cut_at : Encoding → Bool → ℕ → List HeldLine → Cut
cut_at e first n [] = record { line = 0; before = 0; head = 0 }
cut_at e first n (h ∷ hs) =
    elim (nat_le n (length (adds first h.text))) [
      | true ↦ record { line = 1; before = 0; head = length (head_of e (indent_size first h.text + n) h.bytes) }
      | false ↦ cut_past_line h (cut_at e false (n - length (adds first h.text)) hs)
    ]

-- what lines add; the flag says whether the first of them is the first of its group
abbrev pub added_lines : Bool → List HeldLine → List ℕ
added_lines first [] = []
added_lines first (h ∷ hs) = adds first h.text ++ added_lines false hs

-- whether a line after these is the first of its group
abbrev pub is_first_after : Bool → List HeldLine → Bool
is_first_after first [] = first
is_first_after first (h ∷ hs) = false

-- What a cut means. The lines are whole lines, one that is cut into a head and a tail, which are decoded each by
-- itself, and others. What the whole lines add and the text of the head, without indentation if it is a later line's, are the
-- text before the cut. The head of a later line adds some of it, and no head more than its line.
pub record IsCutOf (e : Encoding) (first : Bool) (lines : List HeldLine) (before : List ℕ) (cut : Cut) : Type 0 where
  pub kept : List HeldLine
  pub line : HeldLine
  pub more : List HeldLine
  pub division : lines ≡ kept ++ line ∷ more
  pub head : List ℕ
  pub tail : List ℕ
  pub tail_text : List ℕ
  pub head_text : List ℕ
  pub cut_bytes : line.bytes ≡ head ++ tail
  pub cut_text : line.text ≡ head_text ++ tail_text
  pub is_head : decoded_line e head ≡ head_text
  pub is_tail : decoded_line e tail ≡ tail_text
  pub up_to : before ≡ added_lines first kept ++ without_indent (is_first_after first kept) head_text
  pub some : before ≢ [] → without_indent (is_first_after first kept) head_text ≢ []
  pub later : kept ≢ [] → without_leading_blanks head_text ≢ []
  pub within : length (without_indent (is_first_after first kept) head_text) ≤ length (adds (is_first_after first kept) line.text)
  pub number : cut.line ≡ length kept + 1
  pub kept_size : cut.before ≡ length (group_bytes kept)
  pub head_size : cut.head ≡ length head

-- how many bytes come before the cut
abbrev pub cut_size : Cut → ℕ
cut_size cut = cut.before + cut.head

-- the cut of lines that begin at this position, after so many lines
abbrev pub placed : ℕ → ℕ → Cut → code.Cut
placed start passed cut = record { number = passed + cut.line; line_start = start + cut.before; at = start + (cut.before + cut.head) }

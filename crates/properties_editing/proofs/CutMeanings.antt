-- What a cut of a group's logical line means.
use Rattle.std.proofs.Common.{◌≡◌, ◌≢◌, ◌<◌, ◌≤◌, ℕ, zero, suc, ◌+◌, ◌-◌, Bool, true, false, List, [], ◌∷◌, ◌++◌, length, take, drop, refl, inl, inr, ap, ap₂, sym, ◌∙◌, subst, arith, append-nil, append_assoc, length-append}
use Rattle.std.specs.Prelude.{nat_le, ◌||◌, ◌&&◌, not}
use Rattle.std.proofs.lemmas.Bool.{cases_Bool}
use Rattle.std.proofs.lemmas.Bool.Decides.{nat_tests}
use Rattle.std.proofs.lemmas.List.{take-append-le, take-append-drop, length-take-le, length-drop}
use Rattle.properties_format.specs.Encoding.{Encoding}
use Rattle.properties_format.specs.Text.{backslash, without_leading_blanks}
use Rattle.properties_format.specs.Lines.{AreOpen, is_comment_line, is_open, joined, without_last}
use Rattle.properties_format.specs.Edited.{is_editable}
use Rattle.properties_format.specs.Body.{HeldLine, as_lines, ending_bytes, group_bytes}
use Rattle.properties_format.specs.Computed.Cut.{decoded_line}
use Rattle.properties_format.specs.Computed.Lines.{closes}
use Rattle.properties_format.specs.Computed.Body.{held_groups_after}
use Rattle.properties_format.specs.Computed.Valued.{without_indent, added_by, head_of, head_size, front_in}
use Rattle.properties_format.proofs.Body.Groups.{groups-close, groups-leave}
use Rattle.properties_format.proofs.Groups.Joined.{joined-comment_line}
use Rattle.properties_format.proofs.Groups.Open.{open-ends}
use Rattle.properties_format.proofs.Valued.Fronts.{indented, indent-full, indent-none, indent-only, open-indent, AreDecoded, joined_by, joined-by, front-here, front-later}
use Rattle.properties_format.proofs.Valued.Heads.{head_of-meets}
use Rattle.properties_editing.specs.Private.BodyCuts.{Cut, IsCutOf, added_lines, adds, cut_at, cut_size, indent_size, is_first_after, cut_past_line}
use Rattle.properties_editing.proofs.BodyCuts.{added-part, cut-here, cut-past, head-inside}

-- ---- the text before a cut

-- The first characters of what two parts add.
take-past : (n : ℕ) (x y : List ℕ) → length x < n → take n (x ++ y) ≡ x ++ take (n - length x) y
take-past n [] y l = let same : n - 0 ≡ n = omega arith in ap (λ m. take m y) (sym same)
take-past (suc n) (c ∷ x) y l =
    let same : suc n - length (c ∷ x) ≡ n - length x = omega arith in
    ap (λ v. c ∷ v) (take-past n x y (omega arith) ∙ ap (λ m. x ++ take m y) (sym same))
take-past zero (c ∷ x) y l = absurd (omega arith)

-- The indentation comes before any front of the rest.
indent-front : (first : Bool) (x q r : List ℕ) → without_indent first x ≡ q ++ r → without_indent first ((indented first x).indent ++ q) ≡ q
indent-front first x q r parts =
    let i = indented first x in
    indent-only first i.indent q i.blank (indent-none first x) (λ f. indent-full first x q r f parts)

-- The cut is in the first line.
meets-here : (e : Encoding) (first : Bool) (n : ℕ) (h : HeldLine) (hs : List HeldLine) → is_editable e ≡ true → decoded_line e h.bytes ≡ h.text
    → n ≤ length (adds first h.text)
    → IsCutOf e first (h ∷ hs) (take n (adds first h.text)) (cut_at e first n (h ∷ hs))
meets-here e first n h hs ok d l =
    let x = h.text in
    let i = indented first x in
    let a = added-part first x in
    let q = take n (adds first x) in
    let r = drop n (adds first x) ++ a.left in
    let rest : without_indent first x ≡ q ++ r =
    a.whole ∙ ap (λ v. v ++ a.left) (sym (take-append-drop n (adds first x))) ∙ append_assoc q (drop n (adds first x)) a.left in
    let parts : x ≡ (i.indent ++ q) ++ r = i.whole ∙ ap (λ v. i.indent ++ v) rest ∙ sym (append_assoc i.indent q r) in
    let head = head_of-meets e h.bytes (i.indent ++ q) r ok (d ∙ parts) in
    let count : length q ≡ n = length-take-le n (adds first x) l in
    let all : length x ≡ length i.indent + length (without_indent first x) = ap length i.whole ∙ length-append i.indent (without_indent first x) in
    let sizes : length (i.indent ++ q) ≡ length i.indent + length q = length-append i.indent q in
    let same : indent_size first x + n ≡ length (i.indent ++ q) = omega arith in
    record {
      kept = [];
      line = h;
      more = hs;
      division = refl;
      head = head_of e (length (i.indent ++ q)) h.bytes;
      tail = head.tail;
      tail_text = r;
      head_text = i.indent ++ q;
      cut_bytes = head.joins;
      cut_text = parts;
      is_head = head.head_text;
      is_tail = head.tail_text;
      up_to = sym (indent-front first x q r rest);
      some = λ n k. n (sym (indent-front first x q r rest) ∙ k);
      later = λ n. absurd (n refl);
      within = let added = ap length (indent-front first x q r rest) in omega arith;
      number = ap (λ c. let w : Cut = c in w.line) (cut-here e first n h hs l);
      kept_size = ap (λ c. let w : Cut = c in w.before) (cut-here e first n h hs l);
      head_size = ap (λ c. let w : Cut = c in w.head) (cut-here e first n h hs l) ∙ ap (λ m. length (head_of e m h.bytes)) same;
    }

-- One more line comes before the cut.
meets-past : (e : Encoding) (first : Bool) (h : HeldLine) (hs : List HeldLine) (before : List ℕ) (cut : Cut) → before ≢ []
    → IsCutOf e false hs before cut → IsCutOf e first (h ∷ hs) (adds first h.text ++ before) (cut_past_line h cut)
meets-past e first h hs before cut some m =
    let size = m.kept_size in
    let number = m.number in
    let added : without_leading_blanks m.head_text ≢ [] = subst (λ b. without_indent b m.head_text ≢ []) (later m.kept) (m.some some) in
    let sizes : length (h.bytes ++ (ending_bytes h.ending ++ group_bytes m.kept))
    ≡ length h.bytes + (length (ending_bytes h.ending) + length (group_bytes m.kept)) =
    length-append h.bytes _ ∙ ap (λ n. length h.bytes + n) (length-append (ending_bytes h.ending) (group_bytes m.kept)) in
    record {
      kept = h ∷ m.kept;
      line = m.line;
      more = m.more;
      division = ap (λ v. h ∷ v) m.division;
      head = m.head;
      tail = m.tail;
      tail_text = m.tail_text;
      head_text = m.head_text;
      cut_bytes = m.cut_bytes;
      cut_text = m.cut_text;
      is_head = m.is_head;
      is_tail = m.is_tail;
      up_to = ap (λ v. adds first h.text ++ v) (m.up_to ∙ ap (λ b. added_lines false m.kept ++ without_indent b m.head_text) (later m.kept))
          ∙ sym (append_assoc (adds first h.text) (added_lines false m.kept) (without_indent false m.head_text));
      some = λ n. added;
      later = λ n. added;
      within = subst (λ b. length (without_indent b m.head_text) ≤ length (adds b m.line.text)) (later m.kept) m.within;
      number = omega arith;
      kept_size = omega arith;
      head_size = m.head_size;
    }
  where
    later : (kept : List HeldLine) → is_first_after false kept ≡ false
    later [] = refl
    later (h ∷ hs) = refl

-- The computed cut is the cut behind so many characters.
pub cut-meets : (e : Encoding) (first : Bool) (n : ℕ) (h : HeldLine) (hs : List HeldLine) → is_editable e ≡ true → AreDecoded e (h ∷ hs)
    → n ≤ length (added_lines first (h ∷ hs))
    → IsCutOf e first (h ∷ hs) (take n (added_lines first (h ∷ hs))) (cut_at e first n (h ∷ hs))
cut-meets e first n h [] ok d l =
    let a = adds first h.text in
    let none = append-nil a in
    let size : length (a ++ []) ≡ length a = ap length none in
    subst (λ v. IsCutOf e first (h ∷ []) (take n v) (cut_at e first n (h ∷ []))) (sym none) (meets-here e first n h [] ok d.0 (omega arith))
cut-meets e first n h (i ∷ is) ok d l =
    let a = adds first h.text in
    let rest = added_lines false (i ∷ is) in
    let sizes : length (a ++ rest) ≡ length a + length rest = length-append a rest in
    elim (cases_Bool (nat_le n (length a))) [
      | inl k ↦
          let within : n ≤ length a = grind (arith, nat_tests) in
          subst (λ v. IsCutOf e first (h ∷ i ∷ is) v (cut_at e first n (h ∷ i ∷ is))) (sym (take-append-le n a rest within))
          (meets-here e first n h (i ∷ is) ok d.0 within)
      | inr k ↦
          let over : length a < n = grind (arith, nat_tests) in
          let m = cut-meets e false (n - length a) i is ok d.1 (omega arith) in
          let count : length (take (n - length a) rest) ≡ n - length a = length-take-le (n - length a) rest (omega arith) in
          let some : take (n - length a) rest ≢ [] = λ none. (let zero : length (take (n - length a) rest) ≡ 0 = ap length none in omega arith) in
          subst (λ c. IsCutOf e first (h ∷ i ∷ is) (take n (a ++ rest)) c) (sym (cut-past e first n h (i ∷ is) over))
          (subst (λ v. IsCutOf e first (h ∷ i ∷ is) v (cut_past_line h (cut_at e false (n - length a) (i ∷ is)))) (sym (take-past n a rest over))
          (meets-past e first h (i ∷ is) (take (n - length a) rest) (cut_at e false (n - length a) (i ∷ is)) some m))
    ]

-- ---- the lines of a group

-- a comment line is a group by itself
abbrev pub IsAlone : List HeldLine → Type 0
IsAlone [] = Unit {0}
IsAlone (h ∷ hs) = is_comment_line h.text ≡ true → hs ≡ []

abbrev NoComment : List HeldLine → Type 0
NoComment [] = Unit {0}
NoComment (h ∷ hs) = is_comment_line h.text ≡ false

pub group-alone : (p hs g : List HeldLine) (gs : List (List HeldLine)) → NoComment p → held_groups_after p hs ≡ g ∷ gs → IsAlone g
group-alone [] [] g gs n k = absurd (cc)
group-alone (h ∷ p) [] g gs n k = subst IsAlone {x = h ∷ p} (cc) (λ t. absurd (cc))
group-alone [] (h ∷ hs) g gs n k = elim (cases_Bool (closes [] (record { number = 0; text = h.text }))) [
  | inl t ↦ let q = groups-close [] h hs t in subst IsAlone {x = h ∷ []} (cc) (λ c. refl)
  | inr t ↦ group-alone (h ∷ []) hs g gs (other (is_comment_line h.text) (not (is_open h.text)) t) (sym (groups-leave [] h hs t) ∙ k)
]
  where
    other : (a b : Bool) → (a || b) ≡ false → a ≡ false
    other true b h = absurd (cc)
    other false b h = refl
group-alone (i ∷ p) (h ∷ hs) g gs n k = elim (cases_Bool (closes (as_lines (i ∷ p)) (record { number = 0; text = h.text }))) [
  | inl t ↦ let q = groups-close (i ∷ p) h hs t in subst IsAlone {x = i ∷ p ++ h ∷ []} (cc) (λ c. absurd (cc))
  | inr t ↦ group-alone (i ∷ p ++ h ∷ []) hs g gs n (sym (groups-leave (i ∷ p) h hs t) ∙ k)
]

-- each line but the last is open
abbrev pub AreJoined : List HeldLine → Type 0
AreJoined [] = Unit {0}
AreJoined (h ∷ []) = Unit {0}
AreJoined (h ∷ i ∷ is) = (is_open h.text ≡ true) × AreJoined (i ∷ is)

-- open lines are such, and so are they with any line after them
open-joined : (p : List HeldLine) → AreOpen (as_lines p) → AreJoined p
open-joined [] o = tt
open-joined (h ∷ []) o = tt
open-joined (h ∷ i ∷ p) o = (o.0, open-joined (i ∷ p) o.1)

push-joined : (p : List HeldLine) (h : HeldLine) → AreOpen (as_lines p) → AreJoined (p ++ h ∷ [])
push-joined [] h o = tt
push-joined (i ∷ []) h o = (o.0, tt)
push-joined (i ∷ j ∷ p) h o = (o.0, push-joined (j ∷ p) h o.1)

push-open : (p : List HeldLine) (h : HeldLine) → AreOpen (as_lines p) → is_open h.text ≡ true → AreOpen (as_lines (p ++ h ∷ []))
push-open [] h o k = (k, tt)
push-open (i ∷ p) h o k = (o.0, push-open p h o.1 k)

pub group-joined : (p hs g : List HeldLine) (gs : List (List HeldLine)) → AreOpen (as_lines p) → held_groups_after p hs ≡ g ∷ gs → AreJoined g
group-joined [] [] g gs o k = absurd (cc)
group-joined (h ∷ p) [] g gs o k = subst AreJoined {x = h ∷ p} (cc) (open-joined (h ∷ p) o)
group-joined p (h ∷ hs) g gs o k = elim (cases_Bool (closes (as_lines p) (record { number = 0; text = h.text }))) [
  | inl t ↦ let q = groups-close p h hs t in subst AreJoined {x = p ++ h ∷ []} (cc) (push-joined p h o)
  | inr t ↦ group-joined (p ++ h ∷ []) hs g gs (push-open p h o (opened p t)) (sym (groups-leave p h hs t) ∙ k)
]
  where
    opened : (p : List HeldLine) → closes (as_lines p) (record { number = 0; text = h.text }) ≡ false → is_open h.text ≡ true
    opened [] t = last (is_comment_line h.text) (is_open h.text) t
      where
        last : (a b : Bool) → (a || not b) ≡ false → b ≡ true
        last a b t = grind (arith)
    opened (i ∷ p) t = grind (arith)

-- A line is open if others follow it.
pub joined-open : (kept more : List HeldLine) (line : HeldLine) → AreJoined (kept ++ line ∷ more) → more ≢ [] → is_open line.text ≡ true
joined-open [] [] line j some = absurd (some refl)
joined-open [] (m ∷ more) line j some = j.0
joined-open (h ∷ []) more line j some = joined-open [] more line j.1 some
joined-open (h ∷ i ∷ kept) more line j some = joined-open (i ∷ kept) more line j.1 some

-- An open line that isn't a comment adds less than it has.
pub open-adds : (first : Bool) (x : List ℕ) → is_open x ≡ true → (first && is_comment_line x) ≡ false
    → length (adds first x) < length (without_indent first x)
open-adds first x o n =
    let y = without_indent first x in
    let opened : is_open y ≡ true = open-indent first x ∙ o in
    let add : adds first x ≡ without_last y = rw (n, opened) refl in
    let same = ap length add in
    let size : length y ≡ length (without_last y) + 1 = ap length (open-ends y opened) ∙ length-append (without_last y) (backslash ∷ []) in
    omega arith

later-added : (hs : List HeldLine) → added_lines false hs ≡ joined_by false hs
later-added [] = refl
later-added (h ∷ hs) = ap (λ v. adds false h.text ++ v) (later-added hs)

-- The lines of a group add its logical line.
pub group-added : (h : HeldLine) (hs : List HeldLine) → IsAlone (h ∷ hs) → joined (as_lines (h ∷ hs)) ≡ added_lines true (h ∷ hs)
group-added h hs a = elim (cases_Bool (is_comment_line h.text)) [
  | inl k ↦
      let add : adds true h.text ≡ h.text = rw k refl in
      joined-comment_line (record { number = 0; text = h.text }) (as_lines hs) k
      ∙ sym (ap (λ v. adds true h.text ++ added_lines false v) (a k) ∙ append-nil (adds true h.text) ∙ add)
  | inr k ↦
      let add : adds true h.text ≡ added_by true h.text = rw k refl in
      joined-by h hs k ∙ sym (ap₂ (λ v w. v ++ w) add (later-added hs))
]

-- ---- the front of a pair

front-in_line : (e : Encoding) (first : Bool) (p : List ℕ) (h : HeldLine) (hs : List HeldLine) → nat_le (length p) (length (added_by first h.text)) ≡ true
    → length p ≤ length (adds first h.text) → length (front_in e first p (h ∷ hs)) ≡ cut_size (cut_at e first (length p) (h ∷ hs))
front-in_line e first p h hs k within =
    let inside = head-inside first h.text (length p) within in
    let a = added-part first h.text in
    let added : length (without_indent first h.text) ≡ length (adds first h.text) + length a.left =
    ap length a.whole ∙ length-append (adds first h.text) a.left in
    let i = indented first h.text in
    let all : length h.text ≡ length i.indent + length (without_indent first h.text) =
    ap length i.whole ∙ length-append i.indent (without_indent first h.text) in
    let count : head_size first h.text p ≡ indent_size first h.text + length p = omega arith in
    let none : length (head_of e (indent_size first h.text + length p) h.bytes) ≡ 0 + length (head_of e (indent_size first h.text + length p) h.bytes) =
    omega arith in
    ap length (front-here e first p h hs k) ∙ ap (λ n. length (head_of e n h.bytes)) count ∙ none ∙ sym (ap cut_size (cut-here e first (length p) h hs within))

-- None of these lines is a comment line that begins a group.
abbrev pub AddAlike : Bool → List HeldLine → Type 0
AddAlike first [] = Unit {0}
AddAlike first (h ∷ hs) = adds first h.text ≡ added_by first h.text

later-alike : (hs : List HeldLine) → AddAlike false hs
later-alike [] = tt
later-alike (h ∷ hs) = refl

-- The front of such lines up to a text that they add ends at the cut.
pub front-cut : (e : Encoding) (first : Bool) (p : List ℕ) (lines : List HeldLine) → AddAlike first lines
    → length (front_in e first p lines) ≡ cut_size (cut_at e first (length p) lines)
front-cut e first p [] same = refl
front-cut e first p (h ∷ hs) same =
    let sizes : length (adds first h.text) ≡ length (added_by first h.text) = ap length same in
    elim (cases_Bool (nat_le (length p) (length (added_by first h.text)))) [
      | inl k ↦ front-in_line e first p h hs k (grind (arith, nat_tests))
      | inr k ↦
          let over : length (adds first h.text) < length p = grind (arith, nat_tests) in
          let q = drop (length (added_by first h.text)) p in
          let left : length q ≡ length p - length (adds first h.text) = (let d = length-drop (length (added_by first h.text)) p in omega arith) in
          let front : length (front_in e first p (h ∷ hs)) ≡ length h.bytes + (length (ending_bytes h.ending) + length (front_in e false q hs)) =
          ap length (front-later e first p h hs k) ∙ length-append h.bytes _
          ∙ ap (λ n. length h.bytes + n) (length-append (ending_bytes h.ending) (front_in e false q hs)) in
          let rest : length (front_in e false q hs) ≡ cut_size (cut_at e false (length q) hs) = front-cut e false q hs (later-alike hs) in
          let cut : cut_at e first (length p) (h ∷ hs) ≡ cut_past_line h (cut_at e false (length q) hs) =
          cut-past e first (length p) h hs over ∙ ap (λ n. cut_past_line h (cut_at e false n hs)) (sym left) in
          let size : cut_size (cut_at e first (length p) (h ∷ hs)) ≡ cut_size (cut_past_line h (cut_at e false (length q) hs)) = ap cut_size cut in
          omega arith
    ]

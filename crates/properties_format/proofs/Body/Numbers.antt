-- The items of a source are the contents of its body's groups, each with the number of its first line.
use Rattle.std.proofs.Common.{◌≡◌, ℕ, ◌+◌, List, [], ◌∷◌, ◌++◌, length, refl, ap, sym, ◌∙◌, inl, inr, arith}
use Rattle.std.proofs.lemmas.Bool.{cases_Bool}
use Rattle.std.proofs.lemmas.List.{length_push}
use Rattle.properties_format.specs.Encoding.{Encoding, byte_order_mark}
use Rattle.properties_format.specs.Lines.{Ended, end, Line, Lines, numbered, numbered_lines, line_endings, joined_after, joined, first_number}
use Rattle.properties_format.specs.Computed.Encoding.{decoded_of}
use Rattle.properties_format.specs.Computed.Lines.{lines_of, closes, groups_after, groups_of}
use Rattle.properties_format.specs.Computed.Cut.{cut_of, decoded_line}
use Rattle.properties_format.specs.Computed.Items.{outcome_of, followed, entries_of, items_of}
use Rattle.properties_format.specs.Body.{HeldLine, as_lines}
use Rattle.properties_format.specs.Computed.Body.{held_of, held_lines_of, held_groups_after, held_groups_of}
use Rattle.properties_format.proofs.Lines.Plain.{one-more}
use Rattle.properties_format.proofs.Groups.Steps.{groups_after-close, groups_after-leave}
use Rattle.properties_format.proofs.Cut.Byline.{decoded_lines-cut, decoded_ended}
use Rattle.properties_format.proofs.Body.Groups.{groups-close, groups-leave}
use Rattle.properties_format.specs.Items.{Entry}

-- the lines of a body, numbered from this number on
abbrev numbered_from : ℕ → List HeldLine → List Line
numbered_from n [] = []
numbered_from n (h ∷ hs) = record { number = n; text = h.text } ∷ numbered_from (n + 1) hs

-- The decoded lines after n line endings are the lines of the body, numbered from n + 1 on.
numbered-held : (e : Encoding) (n : ℕ) (ls : List Ended) (last : List ℕ)
    → numbered n (decoded_ended e ls) (decoded_line e last) end ≡ numbered_from (n + 1) (held_of e ls last)
numbered-held e n [] last = refl
numbered-held e n (l ∷ ls) last = ap (λ v. record { number = n + 1; text = decoded_line e l.text } ∷ v) (numbered-held e (n + 1) ls last)

-- One more line has the next number.
numbered-push : (n : ℕ) (p : List HeldLine) (h : HeldLine) → numbered_from n (p ++ h ∷ []) ≡ numbered_from n p ++ record { number = n + length p; text = h.text } ∷ []
numbered-push n [] h = ap (λ m. record { number = m; text = h.text } ∷ []) (zero-right n)
  where
    zero-right : (n : ℕ) → n ≡ n + 0
    zero-right n = omega arith
numbered-push n (g ∷ p) h = simp (one-more, numbered-push (n + 1) p h)

-- Whether a line closes a group doesn't depend on the numbers.
closes-numbered : (n m : ℕ) (p : List HeldLine) (h : HeldLine) → closes (numbered_from n p) (record { number = m; text = h.text }) ≡ closes (as_lines p) (record { number = 0; text = h.text })
closes-numbered n m [] h = refl
closes-numbered n m (g ∷ p) h = refl

-- What lines add doesn't depend on the numbers.
joined_after-numbered : (n : ℕ) (hs : List HeldLine) → joined_after (numbered_from n hs) ≡ joined_after (as_lines hs)
joined_after-numbered n [] = refl
joined_after-numbered n (h ∷ hs) = rw (joined_after-numbered (n + 1) hs) refl

-- The logical line of a group doesn't depend on the numbers.
joined-numbered : (n : ℕ) (g : List HeldLine) → joined (numbered_from n g) ≡ joined (as_lines g)
joined-numbered n [] = refl
joined-numbered n (h ∷ hs) = rw (joined_after-numbered (n + 1) hs) refl

-- The number of a group whose lines are numbered from n on is n.
first-numbered : (n : ℕ) (p : List HeldLine) (h : HeldLine) → first_number (numbered_from n (p ++ h ∷ [])) ≡ n
first-numbered n [] h = refl
first-numbered n (g ∷ p) h = refl

-- ---- folding the groups

-- What one function makes of the groups of a text, from the last to the first, is what another makes of a body's
-- groups, if both take a step alike: from a number, a logical line, and what was made so far.
module _ {A : Type 0} (f : ℕ → List ℕ → A → A) (of_text : List (List Line) → A) (of_body : ℕ → List (List HeldLine) → A)
    (text_step : (g : List Line) (gs : List (List Line)) → of_text (g ∷ gs) ≡ f (first_number g) (joined g) (of_text gs))
    (body_step : (n : ℕ) (g : List HeldLine) (gs : List (List HeldLine)) → of_body n (g ∷ gs) ≡ f n (joined (as_lines g)) (of_body (n + length g) gs))
    (none : (n : ℕ) → of_text [] ≡ of_body n []) where
  -- A group before others.
  folded-group : (n : ℕ) (g : List HeldLine) (gs : List (List Line)) (rest : A) → first_number (numbered_from n g) ≡ n → of_text gs ≡ rest
      → of_text (numbered_from n g ∷ gs) ≡ f n (joined (as_lines g)) rest
  folded-group n g gs rest h k = simp (text_step, h, joined-numbered, k)

  -- Lines after those of a group that is still open.
  folded-after : (n k : ℕ) (p hs : List HeldLine) → k ≡ n + length p
      → of_text (groups_after (numbered_from n p) (numbered_from k hs) end) ≡ of_body n (held_groups_after p hs)
  folded-after n k [] [] s = none n
  folded-after n k (h ∷ p) [] s = folded-group n (h ∷ p) [] (of_body (n + length (h ∷ p)) []) refl (none _) ∙ sym (body_step n (h ∷ p) [])
  folded-after n k p (h ∷ hs) s =
      let l : Line = record { number = k; text = h.text } in
      let push : numbered_from n p ++ l ∷ [] ≡ numbered_from n (p ++ h ∷ []) = rw s (sym (numbered-push n p h)) in
      let size = length_push p h in
      let next : k + 1 ≡ n + length (p ++ h ∷ []) = omega arith in
      elim (cases_Bool (closes (as_lines p) (record { number = 0; text = h.text }))) [
        | inl c ↦
            ap of_text (groups_after-close (numbered_from n p) l (numbered_from (k + 1) hs) end (closes-numbered n k p h ∙ c))
            ∙ ap (λ v. of_text (v ∷ groups_of (numbered_from (k + 1) hs) end)) push
            ∙ folded-group n (p ++ h ∷ []) (groups_of (numbered_from (k + 1) hs) end) (of_body (k + 1) (held_groups_after [] hs)) (first-numbered n p h)
            (folded-after (k + 1) (k + 1) [] hs (omega arith))
            ∙ ap (λ v. f n (joined (as_lines (p ++ h ∷ []))) (of_body v (held_groups_after [] hs))) next
            ∙ sym (ap (of_body n) (groups-close p h hs c) ∙ body_step n (p ++ h ∷ []) (held_groups_after [] hs))
        | inr c ↦
            ap of_text (groups_after-leave (numbered_from n p) l (numbered_from (k + 1) hs) end (closes-numbered n k p h ∙ c))
            ∙ ap (λ v. of_text (groups_after v (numbered_from (k + 1) hs) end)) push
            ∙ folded-after n (k + 1) (p ++ h ∷ []) hs next
            ∙ ap (of_body n) (sym (groups-leave p h hs c))
      ]

  -- So it is of a source.
  pub folded-source : (e : Encoding) (source : List ℕ)
      → of_text (groups_of (numbered_lines (lines_of (decoded_of e source)) end) end)
      ≡ of_body 1 (held_groups_of (byte_order_mark e source).encoding (byte_order_mark e source).body)
  unfolding held_groups_of
  folded-source e source =
      let i = byte_order_mark e source in
      let c = cut_of i.encoding i.body in
      ap (λ v. let w : Lines = v in of_text (groups_of (numbered_lines w end) end)) (sym (decoded_lines-cut i.encoding i.body))
      ∙ ap (λ v. of_text (groups_of v end)) (numbered-held i.encoding 0 c.ended c.last)
      ∙ folded-after 1 1 [] (held_lines_of i.encoding i.body) refl

-- ---- items

-- the entries of the groups, each with the number of its first line; the first group starts at line n
abbrev pub entries_in : ℕ → List (List HeldLine) → List Entry
entries_in n [] = []
entries_in n (g ∷ gs) = followed n (outcome_of (joined (as_lines g))) (entries_in (n + length g) gs)

-- The items of a source are the contents of its body's groups.
pub items_of-groups : (e : Encoding) (source : List ℕ)
    → items_of e source end ≡ entries_in 1 (held_groups_of (byte_order_mark e source).encoding (byte_order_mark e source).body)
unfolding items_of
items_of-groups e source =
    folded-source (λ n x rest. followed n (outcome_of x) rest) (entries_of (line_endings (lines_of (decoded_of e source))) end) entries_in
    (λ g gs. refl) (λ n g gs. refl) (λ n. refl) e source

-- The contents among logical lines, and what edits do to them. Comments count or not, and no malformed line does.
use Rattle.std.proofs.Common.{◌≡◌, ℕ, Bool, true, List, [], ◌∷◌, ◌++◌, refl, ap, inl, inr, arith}
use Rattle.properties_format.specs.Items.{Content, comment, pair, Outcome, given, IsOutcome}
use Rattle.properties_format.specs.Edits.{Edit, put, remove, set_value}
use Rattle.properties_format.specs.Changed.{IsSetIn, IsRemovedIn, HoldNoPair, IsEditedIn, AreEditedIn, AreLinesSet, AreLeft, AreLinesEdited, AreLinesEditedInTurn, NoneIsPair, IsPairWith}
use Rattle.properties_format.specs.Computed.Items.{outcome_of}
use Rattle.properties_format.proofs.Items.Unique.{outcome_of-meets, outcome_of-only}

-- the content of a line, given its outcome, before others
abbrev pub content_before : Outcome → Bool → List Content → List Content
content_before (given (comment text)) true cs = comment text ∷ cs
content_before (given (pair key value)) comments cs = pair key value ∷ cs
content_before outcome comments cs = cs

-- the contents among the lines, with comments or without
abbrev pub contents_among : Bool → List (List ℕ) → List Content
contents_among b [] = []
contents_among b (x ∷ xs) = content_before (outcome_of x) b (contents_among b xs)

module _ (b : Bool) where
  -- The contents among two lists of lines.
  contents-append : (xs ys : List (List ℕ)) → contents_among b (xs ++ ys) ≡ contents_among b xs ++ contents_among b ys
  contents-append [] ys = refl
  contents-append (x ∷ xs) ys = grind (arith, contents-append xs ys)

  -- A line that is a pair is a content.
  contents-pair : (x key value : List ℕ) (xs : List (List ℕ)) → IsOutcome x (given (pair key value))
      → contents_among b (x ∷ xs) ≡ pair key value ∷ contents_among b xs
  contents-pair x key value xs h = rw (← outcome_of-only x (given (pair key value)) h)

  -- A content that is no pair with the key, before others that contain none.
  hold-before : (key : List ℕ) (o : Outcome) (cs : List Content) → ((v : List ℕ) → o ≡ given (pair key v) → ⊥) → HoldNoPair key cs
      → HoldNoPair key (content_before o b cs)
  hold-before key o cs n h = grind (arith)

  -- If no line is a pair with the key, no content is.
  none-contents : (key : List ℕ) (xs : List (List ℕ)) → NoneIsPair key xs → HoldNoPair key (contents_among b xs)
  none-contents key [] h = tt
  none-contents key (x ∷ xs) h = hold-before key (outcome_of x) (contents_among b xs) (λ v s. h.0 (v, rw s at (outcome_of-meets x))) (none-contents key xs h.1)

  -- Where a key is set in the lines, it is set in the contents,
  set-contents : (key value : List ℕ) (old new : List (List ℕ)) → AreLinesSet key value old new
      → IsSetIn key value (contents_among b old) (contents_among b new)
  set-contents key value old new (inl h) = inl (record {
    before = contents_among b h.before;
    old_value = h.has_key.0;
    after = contents_among b h.after;
    was = rw (h.was, contents-append, contents-pair h.line key h.has_key.0 h.after h.has_key.1);
    no_later = none-contents key h.after h.no_later;
    now = rw (h.now, contents-append, contents-pair h.changed key value h.after h.has_value);
  })
  set-contents key value old new (inr h) = inr (none-contents key old h.0, rw (h.2, contents-append, contents-pair h.1 key value [] h.3))

  -- where a line is left that is no pair with the key, its content is,
  kept-contents : (key : List ℕ) (o : Outcome) (cs left : List Content) → ((v : List ℕ) → o ≡ given (pair key v) → ⊥) → IsRemovedIn key cs left
      → IsRemovedIn key (content_before o b cs) (content_before o b left)
  kept-contents key o cs left n h = grind (arith)

  -- and where a key is removed from the lines, it is removed from the contents.
  left-contents : (key : List ℕ) (old new : List (List ℕ)) → AreLeft (IsPairWith key) old new → IsRemovedIn key (contents_among b old) (contents_among b new)
  left-contents key [] new h = rw h
  left-contents key (x ∷ xs) new (inl h) = rw (contents-pair x key h.0.0 xs h.0.1) (inl (refl, left-contents key xs new h.1))
  left-contents key (x ∷ xs) new (inr h) =
      rw h.2 (kept-contents key (outcome_of x) _ _ (λ v s. h.0 (v, rw s at (outcome_of-meets x))) (left-contents key xs h.1 h.3))

  -- After an edit, the contents are those of the lines before after the same edit.
  pub edit-among : (edit : Edit) (old new : List (List ℕ)) → AreLinesEdited edit old new → IsEditedIn edit (contents_among b old) (contents_among b new)
  edit-among (put key value) old new h = set-contents key value old new h
  edit-among (remove key) old new h = left-contents key old new h
  edit-among (set_value key value) old new h = set-contents key value old new h

  -- After edits in turn, the contents are those of the lines before after the same edits.
  pub edits-among : (edits : List Edit) (old new : List (List ℕ)) → AreLinesEditedInTurn edits old new
      → AreEditedIn edits (contents_among b old) (contents_among b new)
  edits-among [] old new h = ap (contents_among b) h
  edits-among (edit ∷ edits) old new h = (contents_among b h.0, edit-among edit old h.0 h.1, edits-among edits h.0 new h.2)

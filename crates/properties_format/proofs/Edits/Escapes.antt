-- The malformed escapes of a source, by its logical lines; and that edits leave all of them in comments, if they are
-- there.
use Rattle.std.proofs.Common.{◌≡◌, ◌⊎◌, ℕ, ◌+◌, true, List, [], ◌∷◌, length, refl, sym, inl, inr, subst}
use Rattle.properties_format.specs.Encoding.{Encoding, byte_order_mark, Repertoire}
use Rattle.properties_format.specs.Lines.{end, Line, numbered_lines, is_comment_line, joined, first_number}
use Rattle.properties_format.specs.Escapes.{Malformed}
use Rattle.properties_format.specs.Items.{pair, Outcome, ignored, given, broken, IsOutcome}
use Rattle.properties_format.specs.Body.{HeldLine, as_lines, as_groups}
use Rattle.properties_format.specs.Found.{MalformedEscape, escapes_from}
use Rattle.properties_format.specs.Edited.{edited}
use Rattle.properties_format.specs.Edits.{Edit, AreScalarEdits, AreInComments, EscapesAre, IsEditPairsResult}
use Rattle.properties_format.specs.Changed.{line_before}
use Rattle.properties_format.specs.Computed.Encoding.{decoded_of}
use Rattle.properties_format.specs.Computed.Lines.{lines_of, groups_of}
use Rattle.properties_format.specs.Computed.Items.{outcome_of}
use Rattle.properties_format.specs.Computed.Body.{held_groups_of}
use Rattle.properties_format.specs.Computed.Found.{escapes_in}
use Rattle.properties_format.proofs.Body.Numbers.{folded-source}
use Rattle.properties_format.proofs.Edited.Fronts.{with_line, logical_lines}
use Rattle.properties_format.proofs.Items.Unique.{outcome_of-meets, outcome_of-only}
use Rattle.properties_format.proofs.MalformedEscapes.{malformed_escapes_of-meets, malformed_escapes_of-only, malformed_escapes_of}
use Rattle.properties_format.proofs.Edits.Lines.{OfEach, logical_lines_of, edits-lines, edits-each}

-- ---- the logical lines of a text are those of the body's groups

-- the groups of a source's text
abbrev text_groups : Encoding → List ℕ → List (List Line)
text_groups e source = groups_of (numbered_lines (lines_of (decoded_of e source)) end) end

-- The logical lines of a source's text are those of its body.
pub lines-of-text : (e : Encoding) (source : List ℕ) → logical_lines (text_groups e source) ≡ logical_lines_of e source
lines-of-text e source =
    folded-source (λ n x xs. with_line x xs) logical_lines (λ n gs. logical_lines (as_groups gs)) (λ g gs. refl) (λ n g gs. refl) (λ n. refl) e source

-- ---- malformed escapes

-- the malformed escapes of a body's groups, whose lines are numbered from this number on
abbrev pub escapes_of_body : ℕ → List (List HeldLine) → List MalformedEscape
escapes_of_body n [] = []
escapes_of_body n (g ∷ gs) = escapes_from n (joined (as_lines g)) (outcome_of (joined (as_lines g))) (escapes_of_body (n + length g) gs)

-- The malformed escapes of a source are those of its body's groups.
pub malformed_escapes_of-groups : (e : Encoding) (source : List ℕ)
    → malformed_escapes_of e source ≡ escapes_of_body 1 (held_groups_of (byte_order_mark e source).encoding (byte_order_mark e source).body)
unfolding malformed_escapes_of
malformed_escapes_of-groups e source =
    folded-source (λ n x rest. escapes_from n x (outcome_of x) rest) escapes_in escapes_of_body (λ g gs. refl) (λ n g gs. refl) (λ n. refl) e source

-- The line is no pair with a malformed escape. It may be a comment with one.
abbrev IsNoMalformedPair : List ℕ → Type 0
IsNoMalformedPair x = (is_comment_line x ≡ true) ⊎ ((kind : Malformed) → ¬ (IsOutcome x (broken kind)))

-- All malformed escapes are in comments exactly if no line is a malformed pair.
read-step : (n : ℕ) (x : List ℕ) (o : Outcome) (ms : List MalformedEscape) (xs : List (List ℕ)) → o ≡ outcome_of x
    → (AreInComments ms → OfEach IsNoMalformedPair xs) → AreInComments (escapes_from n x o ms) → OfEach IsNoMalformedPair (line_before o x xs)
read-step n x ignored ms xs s h k = h k
read-step n x (given content) ms xs s h k = (inr (λ kind b. cc (outcome_of-only x (broken kind) b)), h k)
read-step n x (broken kind) ms xs s h k = (inl k.0, h k.1)

-- If all are in comments, no line is a malformed pair,
in_comments-read : (gs : List (List Line)) → AreInComments (escapes_in gs) → OfEach IsNoMalformedPair (logical_lines gs)
in_comments-read [] h = tt
in_comments-read (g ∷ gs) h = read-step (first_number g) (joined g) (outcome_of (joined g)) (escapes_in gs) (logical_lines gs) refl (in_comments-read gs) h

comment-step : (n : ℕ) (x : List ℕ) (o : Outcome) (ms : List MalformedEscape) (xs : List (List ℕ)) → o ≡ outcome_of x
    → (OfEach IsNoMalformedPair xs → AreInComments ms) → OfEach IsNoMalformedPair (line_before o x xs) → AreInComments (escapes_from n x o ms)
comment-step n x ignored ms xs s h k = h k
comment-step n x (given content) ms xs s h k = h k.1
comment-step n x (broken kind) ms xs s h k = (is-comment k.0, h k.1)
  where
    is-comment : IsNoMalformedPair x → is_comment_line x ≡ true
    is-comment (inl c) = c
    is-comment (inr none) = absurd (none kind (subst (IsOutcome x) (sym s) (outcome_of-meets x)))

-- and the other way round.
read-in_comments : (gs : List (List Line)) → OfEach IsNoMalformedPair (logical_lines gs) → AreInComments (escapes_in gs)
read-in_comments [] h = tt
read-in_comments (g ∷ gs) h = comment-step (first_number g) (joined g) (outcome_of (joined g)) (escapes_in gs) (logical_lines gs) refl (read-in_comments gs) h

-- So it is of a source.
pub source-read : (e : Encoding) (source : List ℕ) → EscapesAre e source AreInComments → OfEach IsNoMalformedPair (logical_lines_of e source)
unfolding malformed_escapes_of
source-read e source h = rw lines-of-text at (in_comments-read (text_groups e source) (rw (malformed_escapes_of-only e source h.0 h.1) at h.2))

pub read-source : (e : Encoding) (source : List ℕ) → OfEach IsNoMalformedPair (logical_lines_of e source) → EscapesAre e source AreInComments
unfolding malformed_escapes_of
read-source e source h = (malformed_escapes_of e source, malformed_escapes_of-meets e source, read-in_comments (text_groups e source) (rw lines-of-text h))

-- a pair that means something
pair-read : (x key value : List ℕ) → IsOutcome x (given (pair key value)) → IsNoMalformedPair x
pair-read x key value h = inr (λ kind b. cc (outcome_of-only x (given (pair key value)) h, outcome_of-only x (broken kind) b))

-- After edits all malformed escapes are in comments, if they were before.
pub edits-in_comments : (r : Repertoire) (source : List ℕ) (edits : List Edit) (result : List ℕ) → AreScalarEdits edits
    → IsEditPairsResult r source edits (edited result) → EscapesAre r.encoding result AreInComments
edits-in_comments r source edits result k h =
    read-source r.encoding result (edits-each IsNoMalformedPair pair-read edits _ _ (edits-lines r source edits result h.0 k h.2)
    (source-read r.encoding source h.1))

-- Each line is blank, a comment or a pair, in exactly one way.
use Rattle.std.proofs.Common.{rules, ◌≡◌, ◌≢◌, ℕ, true, false, List, [], ◌∷◌, ◌++◌, refl, ap, sym, ◌∙◌, inl, inr, append_assoc, append-nil, arith}
use Rattle.std.proofs.lemmas.Bool.{cases_Bool}
use Rattle.properties_format.specs.Text.{is_blank, is_comment_sign, is_separator, without_leading_blanks, begins}
use Rattle.properties_format.specs.Split.{Logical, blank, comment, pair, AreBlanks, IsKey, IsBetween, nothing, blanks, separator, IsSplit}
use Rattle.properties_format.specs.Computed.Split.{KeyCut, trimmed, cut_key, past_separator, pair_of, split_full, split_of}
use Rattle.properties_format.proofs.Split.Blanks.{without_leading_blanks-only, without_leading_blanks-blanks, IsPast, without_leading_blanks-meets, trimmed-meets, trimmed-only}
use Rattle.properties_format.proofs.Split.Keys.{ends_here, cut_key-only, IsCut, cut_key-meets}

-- ---- what comes after a key

-- A separator isn't a blank.
pub separator-full : (c : ℕ) → is_separator c ≡ true → is_blank c ≡ false
separator-full c e = grind (arith)

-- A key ends before at least one blank.
blanks-end : (between value : List ℕ) → between ≢ [] → AreBlanks between → ends_here (between ++ value) ≡ true
blanks-end [] value h b = absurd (h refl)
blanks-end (c ∷ between) value h b = search (rules)

-- A key ends before what separates it from its value, or at the end of the line.
pub between-ends : (between value : List ℕ) → IsBetween between value → ends_here (between ++ value) ≡ true
between-ends between value h = grind (arith, blanks-end, append_assoc)

-- What separates the key from the value is followed by the value.
pub between-value : (between value : List ℕ) → IsBetween between value → past_separator (without_leading_blanks (between ++ value)) ≡ value
between-value between value h = grind (arith, without_leading_blanks-only, append_assoc)

pub record IsBehind (rest value : List ℕ) : Type 0 where
  pub between : List ℕ
  pub whole : rest ≡ between ++ value
  pub is_between : IsBetween between value

-- After the blanks there is a separator, or there is none.
after-step : (rest : List ℕ) (before y : List ℕ) → rest ≡ before ++ y → AreBlanks before → begins is_blank y ≡ false → ends_here rest ≡ true
    → IsBehind rest (past_separator y)
after-step rest [] [] e b f k = record { between = []; whole = e; is_between = nothing refl refl }
after-step rest (d ∷ before) [] e b f k = record { between = d ∷ before; whole = e; is_between = blanks (λ q. absurd (cc)) b refl refl }
after-step rest before (c ∷ y) e b f k = elim (cases_Bool (is_separator c)) [
  | inl s ↦ rw s (let p : IsPast y (without_leading_blanks y) = without_leading_blanks-meets y in record {
    between = before ++ (c ∷ p.before);
    whole = e ∙ ap (λ v. before ++ (c ∷ v)) p.whole ∙ sym (append_assoc before (c ∷ p.before) (without_leading_blanks y));
    is_between = separator before c p.before refl b s p.before_blank p.begins_full;
  })
  | inr s ↦ rw s (record { between = before; whole = e; is_between = blanks (search (rules)) b f s })
]

-- After a key come the text that separates it from the computed value, and that value.
after-meets : (rest : List ℕ) → ends_here rest ≡ true → IsBehind rest (past_separator (without_leading_blanks rest))
after-meets rest k = let p : IsPast rest (without_leading_blanks rest) =
    without_leading_blanks-meets rest in after-step rest p.before (without_leading_blanks rest) p.whole p.before_blank p.begins_full k

-- ---- the computed result is what the line is

-- Blanks, followed by a text that isn't empty and begins with neither a blank nor a comment sign, are the computed
-- pair.
full-pair : (line indent x : List ℕ) → line ≡ indent ++ x → AreBlanks indent → x ≢ [] → begins is_blank x ≡ false → begins is_comment_sign x ≡ false
    → IsSplit line (pair_of (cut_key x false))
full-pair line indent x e b h f m = whole (cut_key x false) (cut_key-meets x)
  where
    whole : (cut : KeyCut) → IsCut x cut → IsSplit line (pair_of cut)
    whole cut k =
        let r : IsBehind cut.rest (past_separator (without_leading_blanks cut.rest)) = after-meets cut.rest k.ends_it in
        let w : x ≡ cut.key ++ (r.between ++ past_separator (without_leading_blanks cut.rest)) = k.whole ∙ ap (λ v. cut.key ++ v) r.whole in
        record {
          indent = indent;
          between = r.between;
          whole = e ∙ ap (λ v. indent ++ v) w;
          indent_blank = b;
          not_empty = rw w at h;
          begins_full = rw w at f;
          no_comment = rw w at m;
          is_key = rw r.whole at k.is_key;
          is_between = r.is_between;
        }

-- Blanks, followed by a text that doesn't begin with a blank, are what is computed for that text.
full-meets : (line indent x : List ℕ) → line ≡ indent ++ x → AreBlanks indent → begins is_blank x ≡ false → IsSplit line (split_full x)
full-meets line indent [] e b f = rw (e, append-nil indent) b
full-meets line indent (c ∷ x) e b f = grind (arith, trimmed-meets, full-pair)

-- A line is what is computed for it.
pub split_of-meets : (line : List ℕ) → IsSplit line (split_of line)
unfolding split_of
split_of-meets line = let p : IsPast line (without_leading_blanks line) =
    without_leading_blanks-meets line in full-meets line p.before (without_leading_blanks line) p.whole p.before_blank p.begins_full

-- ---- what the line is, is the computed result

-- A comment sign isn't a blank.
pub sign-full : (c : ℕ) → is_comment_sign c ≡ true → is_blank c ≡ false
sign-full c e = grind (arith)

-- a line of blanks
pub split_of-blank : (line : List ℕ) → AreBlanks line → split_of line ≡ blank
unfolding split_of
split_of-blank line b = ap split_full (without_leading_blanks-blanks line b)

-- blanks, a comment sign, and what follows it
pub split_of-comment : (indent : List ℕ) (sign : ℕ) (rest : List ℕ) → AreBlanks indent → is_comment_sign sign ≡ true
    → split_of (indent ++ (sign ∷ rest)) ≡ comment (trimmed rest)
unfolding split_of
split_of-comment indent sign rest b m = ap split_full (without_leading_blanks-only indent (sign ∷ rest) b (sign-full sign m)) ∙ rw m refl

-- What is computed for a text that isn't empty and doesn't begin with a comment sign is a pair.
split_full-pair : (x : List ℕ) → x ≢ [] → begins is_comment_sign x ≡ false → split_full x ≡ pair_of (cut_key x false)
split_full-pair x h k = grind (arith)

-- Blanks, a key, what separates it from the value, and the value.
pub split_of-pair : (indent key between value : List ℕ) → AreBlanks indent → key ++ (between ++ value) ≢ []
    → begins is_blank (key ++ (between ++ value)) ≡ false → begins is_comment_sign (key ++ (between ++ value)) ≡ false
    → IsKey key (between ++ value) → IsBetween between value → split_of (indent ++ (key ++ (between ++ value))) ≡ pair key value
unfolding split_of
split_of-pair indent key between value b h f m k w = search (without_leading_blanks-only, split_full-pair, cut_key-only, between-ends, between-value)

-- A line is nothing else.
pub split_of-only : (line : List ℕ) (what : Logical) → IsSplit line what → what ≡ split_of line
split_of-only line blank h = sym (split_of-blank line h)
split_of-only line (comment text) h =
    ap comment (trimmed-only h.rest text h.trimmed) ∙ sym (ap split_of h.whole ∙ split_of-comment h.indent h.sign h.rest h.indent_blank h.is_sign)
split_of-only line (pair key value) h =
    sym (ap split_of h.whole ∙ split_of-pair h.indent key h.between value h.indent_blank h.not_empty h.begins_full h.no_comment h.is_key h.is_between)

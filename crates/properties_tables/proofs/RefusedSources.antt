-- Why a source is refused.
use Rattle.std.proofs.Common.{◌≡◌, List, ℕ, false, [], ◌∷◌, ◌++◌, refl, sym, ap, ◌∙◌, inl, inr, append-nil}
use Rattle.std.specs.Prelude.{Option, Some, None}
use Rattle.std.proofs.lemmas.Bool.{cases_Bool, cond-true, cond-false}
use Rattle.properties_format.specs.{Edits.AreInComments, Edits.EscapesAre, Encoding.Encoding, Found.AreMalformedEscapes, Computed.Found.escapes_in}
use Rattle.properties_format.specs.Found as format
use Rattle.properties_format.proofs.Found.{found-in_groups}
use Rattle.java_properties.specs.Findings.{escape_record, escape_records, HasMalformed}
use Rattle.properties_items.specs.declared.findings.MalformedEscape.{MalformedEscape}
use Rattle.properties_tables.specs.Private.Fold.{escapes_among, found_escape, found_pair, AreFindings, Finding}
use Rattle.properties_tables.specs.Private.Sought.{or_else}
use Rattle.properties_tables.specs.Sources.{first_in_pair, HasSoundBytes, IsFirstMalformedEscape, IsSound}
use Rattle.properties_tables.proofs.SourceFindings.{escapes-append, escapes-groups, findings-groups}

-- the first escape of a pair, after those in comments
record Begins (escapes : List format.MalformedEscape) (found : MalformedEscape) : Type 0 where
  pub before : List format.MalformedEscape
  pub escape : format.MalformedEscape
  pub after : List format.MalformedEscape
  pub division : escapes ≡ before ++ escape ∷ after
  pub passed : AreInComments before
  pub in_pair : escape.in_comment ≡ false
  pub is : found ≡ escape_record escape

pub none-first : (escapes : List format.MalformedEscape) → None ≡ first_in_pair (escape_records escapes) → AreInComments escapes
none-first [] h = tt
none-first (m ∷ ms) h = elim (cases_Bool m.in_comment) [
  | inl c ↦ (c, none-first ms (h ∙ cond-true m.in_comment _ _ c))
  | inr c ↦ let k : None ≡ Some (escape_record m) = h ∙ cond-false m.in_comment _ _ c in absurd (cc)
]

one-first : (escapes : List format.MalformedEscape) (found : MalformedEscape) → Some found ≡ first_in_pair (escape_records escapes) → Begins escapes found
one-first [] found h = absurd (cc)
one-first (m ∷ ms) found h = elim (cases_Bool m.in_comment) [
  | inl c ↦
      let k = one-first ms found (h ∙ cond-true m.in_comment _ _ c) in
      record {
        before = m ∷ k.before;
        escape = k.escape;
        after = k.after;
        division = ap (λ v. m ∷ v) k.division;
        passed = (c, k.passed);
        in_pair = k.in_pair;
        is = k.is;
      }
  | inr c ↦
      let k : Some found ≡ Some (escape_record m) = h ∙ cond-false m.in_comment _ _ c in
      record { before = []; escape = m; after = ms; division = refl; passed = tt; in_pair = c; is = cc }
]

-- the first escape of a pair among some and then others
pub first-append : (xs ys : List MalformedEscape) → first_in_pair (xs ++ ys) ≡ or_else (first_in_pair xs) (first_in_pair ys)
first-append [] ys = refl
first-append (x ∷ xs) ys = elim (cases_Bool x.in_comment) [ inl c ↦ rw c (first-append xs ys) | inr c ↦ rw c refl ]

-- The bytes are sound, and this is the first escape of a pair among those that are malformed.
pub first-among : {e : Encoding} {source : List ℕ} {escapes : List format.MalformedEscape} (escape : MalformedEscape) → HasSoundBytes e source
    → AreMalformedEscapes e source escapes
    → Some escape ≡ first_in_pair (escape_records escapes) → IsFirstMalformedEscape e source escape
first-among {escapes = escapes} escape bytes are is =
    let k = one-first escapes escape is in
    record {
      bytes = bytes;
      before = k.before;
      escape = k.escape;
      after = k.after;
      are = rw (sym k.division) are;
      passed = k.passed;
      in_pair = k.in_pair;
      is = k.is;
    }

pub first-malformed : {e : Encoding} {source : List ℕ} {found : List MalformedEscape} (escape : MalformedEscape) → HasSoundBytes e source
    → HasMalformed e source found
    → Some escape ≡ first_in_pair found → IsFirstMalformedEscape e source escape
first-malformed escape bytes h is = first-among escape bytes h.are (is ∙ ap first_in_pair h.is)

-- The bytes are sound, and no escape of a pair is malformed.
pub none-malformed : {e : Encoding} {source : List ℕ} {found : List MalformedEscape} → HasSoundBytes e source → HasMalformed e source found
    → None ≡ first_in_pair found → IsSound e source
none-malformed bytes h is = record { bytes = bytes; in_comments = (h.escapes, h.are, none-first h.escapes (is ∙ ap first_in_pair h.is)) }

-- ---- what is taken

-- A pair has no malformed escape.
pub first-kept : (findings : List Finding) (number : ℕ) (key value : List ℕ)
    → first_in_pair (escapes_among (findings ++ found_pair number key value ∷ [])) ≡ first_in_pair (escapes_among findings)
first-kept findings number key value =
    ap first_in_pair (escapes-append findings (found_pair number key value ∷ []) ∙ append-nil (escapes_among findings))

-- one more malformed escape
pub first-more : (findings : List Finding) (escape : MalformedEscape) (x : List ℕ) (old new : Option MalformedEscape) → old ≡ first_in_pair (escapes_among findings)
    → new ≡ or_else old (first_in_pair (escape ∷ [])) → new ≡ first_in_pair (escapes_among (findings ++ found_escape escape x ∷ []))
first-more findings escape x old new before now =
    now ∙ ap (λ o. or_else o (first_in_pair (escape ∷ []))) before
    ∙ sym (ap first_in_pair (escapes-append findings (found_escape escape x ∷ [])) ∙ first-append (escapes_among findings) (escape ∷ []))

module _ (e : Encoding) (source : List ℕ) (findings : List Finding) (are : AreFindings e source findings) where
  -- No escape of a pair is malformed.
  pub none-found : None ≡ first_in_pair (escapes_among findings) → EscapesAre e source AreInComments
  none-found none =
      let g = findings-groups e source findings are in
      (escapes_in g.0, found-in_groups _ g.1, none-first (escapes_in g.0) (none ∙ ap first_in_pair (ap escapes_among g.2 ∙ escapes-groups g.0)))

  -- or this is the first
  pub one-found : (escape : MalformedEscape) → HasSoundBytes e source → Some escape ≡ first_in_pair (escapes_among findings)
      → IsFirstMalformedEscape e source escape
  one-found escape bytes some =
      let g = findings-groups e source findings are in
      first-among escape bytes (found-in_groups _ g.1) (some ∙ ap first_in_pair (ap escapes_among g.2 ∙ escapes-groups g.0))

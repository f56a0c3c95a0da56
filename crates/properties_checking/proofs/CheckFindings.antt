-- What the findings of a check say.
use Rattle.std.proofs.Common.{◌≡◌, ℕ, ◌<◌, Bool, List, [], ◌∷◌, ◌++◌, get_or, length, map, refl, ap, sym, ◌∙◌, inl, inr, subst, arith}
use Rattle.std.specs.Prelude.{◌&&◌, ◌==◌, not, Option, Some, None, filter}
use Rattle.std.specs.{List.flat_map, Ordering.nat_cmp, Ordering.is_lt, List.Sorted.ties}
use Rattle.std.proofs.{lemmas.Bool.cases_Bool, lemmas.List.get_or-map, lemmas.List.length-map, lemmas.List.map-append}
use Rattle.properties_format.specs.{Encoding.Encoding, Windows1252.windows_1252_table, Lines.lines_in, Lines.Line}
use Rattle.java_properties.specs.Findings.{KeyPlace}
use Rattle.properties_items.specs.declared.findings.MalformedEscape.{MalformedEscape}
use Rattle.properties_checking.specs.Private.Checking.{escape_finding, finding_of, ill_formed_finding, misread_finding, otherwise_finding, place_at, row_findings, said_of, what_of, ArrangesFindings}
use Rattle.properties_checking.specs.Check.{first_of, has_replacement, ill_formed_of, is_ill_formed, is_malformed, is_misread, is_read_otherwise, other_bytes, repeats_key, repeats_of, said, words_after, AreOtherBytes, AreOtherwise, AreWithBytes, ArrangesByLine, SaidFinding}
use Rattle.properties_checking.specs.{declared.check.FindingKind.FindingKind, declared.check.FindingKind.TheVariants.NonAscii}
use Rattle.properties_checking.specs.{declared.check.FindingKind.TheVariants.ReadOtherwise, declared.check.Finding.Finding, declared.check.Words.Words}
use Rattle.properties_checking.specs.{declared.misread.Misread.Misread, declared.misread.Misread.TheVariants.MarkInside}
use Rattle.properties_checking.specs.{declared.check.FindingKind.TheVariants.Misread as MisreadKind, declared.request.Allowed.Allowed}
use Rattle.properties_checking.specs.{declared.request.Allowed.TheVariants.All, declared.request.Allowed.TheVariants.Latin1}
use Rattle.properties_checking.specs.declared.request.Allowed.TheVariants.{Ascii}
use Rattle.properties_checking.specs.Misread.{last_number, lines_of_pairs, misread_at, misread_end, AreMisread, AreMisreadEnds}

abbrev otherwise_said : ℕ → ℕ → SaidFinding
otherwise_said byte = said (is_read_otherwise byte)

abbrev misread_said : Misread → ℕ → SaidFinding
misread_said m = said (is_misread m)

abbrev escape_said : MalformedEscape → SaidFinding
escape_said escape = said (is_malformed escape.kind escape.in_comment) escape.line_number

module _ (P : List KeyPlace) where
  -- ---- each kind

  pub said-first : (kind : FindingKind) (o : Option ℕ) → map (said_of P) (first_of (finding_of kind) o) ≡ first_of (said (what_of P kind)) o
  said-first kind None = refl
  said-first kind (Some number) = refl

  pub said-all : (kind : FindingKind) (ns : List ℕ) → map (said_of P) (map (finding_of kind) ns) ≡ map (said (what_of P kind)) ns
  said-all kind [] = refl
  said-all kind (n ∷ ns) = ap (λ v. said (what_of P kind) n ∷ v) (said-all kind ns)

  pub said-ill_formed : (words : Words) (ns : List ℕ)
      → map (said_of P) (ill_formed_of ill_formed_finding words ns) ≡ ill_formed_of (λ w. said (is_ill_formed w)) words ns
  said-ill_formed words [] = refl
  said-ill_formed words (n ∷ ns) = ap (λ v. said (is_ill_formed words) n ∷ v) (said-ill_formed (words_after words) ns)

  pub said-escapes : (es : List MalformedEscape) → map (said_of P) (map escape_finding es) ≡ map escape_said es
  said-escapes [] = refl
  said-escapes (e ∷ es) = ap (λ v. escape_said e ∷ v) (said-escapes es)

  with-bytes : (e : Encoding) (source bytes : List ℕ) (fs : List Finding) → AreWithBytes otherwise_finding e source bytes fs
      → AreWithBytes otherwise_said e source bytes (map (said_of P) fs)
  with-bytes e source [] fs h = ap (map (said_of P)) h
  with-bytes e source (byte ∷ bytes) fs (numbers, others, are, is, rest) = (
    numbers,
    map (said_of P) others,
    are,
    ap (map (said_of P)) is
        ∙ map-append (said_of P) (map (otherwise_finding byte) numbers) others
        ∙ ap (λ v. v ++ map (said_of P) others) (said-all (ReadOtherwise byte) numbers),
    with-bytes e source bytes others rest,
  )

  said-bytes : (allowed : Allowed) (e : Encoding) (source : List ℕ) (fs : List Finding) → AreOtherBytes otherwise_finding allowed e source fs
      → AreOtherBytes otherwise_said allowed e source (map (said_of P) fs)
  said-bytes All e source fs h = ap (map (said_of P)) h
  said-bytes Latin1 e source fs h = with-bytes e source (other_bytes 0x80 windows_1252_table) fs h
  said-bytes Ascii e source fs h = ap (map (said_of P)) h

  pub misread-said-at : (number : ℕ) (misread : Option Misread)
      → map (said_of P) (misread_at misread_finding number misread) ≡ misread_at misread_said number misread
  misread-said-at number None = refl
  misread-said-at number (Some misread) = refl

  said-lines : (last : ℕ) (ls : List Line)
      → map (said_of P) (flat_map (λ l. misread_at misread_finding l.number (misread_end l.text (l.number == last))) ls)
      ≡ flat_map (λ l. misread_at misread_said l.number (misread_end l.text (l.number == last))) ls
  said-lines last [] = refl
  said-lines last (l ∷ ls) =
      let misread = misread_end l.text (l.number == last) in
      let rest = flat_map (λ (m : Line). misread_at misread_finding m.number (misread_end m.text (m.number == last))) ls in
      map-append (said_of P) (misread_at misread_finding l.number misread) rest
      ∙ ap (λ v. v ++ map (said_of P) rest) (misread-said-at l.number misread)
      ∙ ap (λ v. misread_at misread_said l.number misread ++ v) (said-lines last ls)

  said-ends : (e : Encoding) (source : List ℕ) (fs : List Finding) → AreMisreadEnds misread_finding e source fs
      → AreMisreadEnds misread_said e source (map (said_of P) fs)
  said-ends e source fs h = record {
    groups = h.groups;
    are_groups = h.are_groups;
    is = ap (map (said_of P)) h.is ∙ said-lines (last_number (lines_in h.groups)) (lines_of_pairs h.groups);
  }

  said-misread : (e : Encoding) (source : List ℕ) (fs : List Finding) → AreMisread misread_finding e source fs
      → AreMisread misread_said e source (map (said_of P) fs)
  said-misread e source fs h = record {
    inside = h.inside;
    are_inside = h.are_inside;
    ends = map (said_of P) h.ends;
    are_ends = said-ends e source h.ends h.are_ends;
    is =
        ap (map (said_of P)) h.is
        ∙ map-append (said_of P) (map (misread_finding MarkInside) h.inside) h.ends
        ∙ ap (λ v. v ++ map (said_of P) h.ends) (said-all (MisreadKind MarkInside) h.inside);
  }

  pub said-otherwise : (allowed : Allowed) (e : Encoding) (source : List ℕ) (fs : List Finding)
      → AreOtherwise misread_finding otherwise_finding allowed e source fs
      → AreOtherwise misread_said otherwise_said allowed e source (map (said_of P) fs)
  said-otherwise allowed e source fs h = record {
    misread = map (said_of P) h.misread;
    are_misread = said-misread e source h.misread h.are_misread;
    bytes = map (said_of P) h.bytes;
    are_bytes = said-bytes allowed e source h.bytes h.are_bytes;
    is = ap (map (said_of P)) h.is ∙ map-append (said_of P) h.misread h.bytes;
  }

  -- of a pair whose key has this row
  pub said-row : (w : Bool) (number row : ℕ) (key : List ℕ) (first : ℕ) → place_at P row ≡ record { number = first; key = key }
      → map (said_of P) (row_findings w number key row first) ≡ repeats_of w (record { number = number; key = key; first = first })
  said-row w number row key first at = elim (cases_Bool (first == number)) [
    | inl same ↦ rw same refl
    | inr other ↦ elim (cases_Bool (not w && has_replacement key)) [
      | inl left ↦ rw (other, left) refl
      | inr stays ↦ rw (other, stays) (ap (λ p. let q : KeyPlace = p in said (repeats_key q.key q.number) number ∷ []) at)
    ]
  ]

  -- ---- all of them

  pub said-parts : (m a b c d e f g : List Finding) (m' a' b' c' d' e' f' g' : List SaidFinding) → map (said_of P) m ≡ m' → map (said_of P) a ≡ a'
      → map (said_of P) b ≡ b' → map (said_of P) c ≡ c' → map (said_of P) d ≡ d' → map (said_of P) e ≡ e' → map (said_of P) f ≡ f'
      → map (said_of P) g ≡ g' → map (said_of P) (m ++ (a ++ (b ++ (c ++ (d ++ (e ++ (f ++ g)))))))
      ≡ m' ++ (a' ++ (b' ++ (c' ++ (d' ++ (e' ++ (f' ++ g'))))))
  said-parts m a b c d e f g m' a' b' c' d' e' f' g' hm ha hb hc hd he hf hg =
      rw (
        map-append (said_of P) m (a ++ (b ++ (c ++ (d ++ (e ++ (f ++ g)))))),
        map-append (said_of P) a (b ++ (c ++ (d ++ (e ++ (f ++ g))))),
        map-append (said_of P) b (c ++ (d ++ (e ++ (f ++ g)))),
        map-append (said_of P) c (d ++ (e ++ (f ++ g))),
        map-append (said_of P) d (e ++ (f ++ g)),
        map-append (said_of P) e (f ++ g),
        map-append (said_of P) f g,
        hm,
        ha,
        hb,
        hc,
        hd,
        he,
        hf,
        hg,
      ) refl

  -- ---- in order

  filter-said : (p : SaidFinding → Bool) (fs : List Finding) → filter p (map (said_of P) fs) ≡ map (said_of P) (filter (λ f. p (said_of P f)) fs)
  filter-said p [] = refl
  filter-said p (f ∷ fs) = elim (cases_Bool (p (said_of P f))) [
    | inl left ↦ rw left (ap (λ v. said_of P f ∷ v) (filter-said p fs))
    | inr stays ↦ rw stays (filter-said p fs)
  ]

  pub said-arranged : (fs gs : List Finding) → ArrangesFindings fs gs → ArrangesByLine (map (said_of P) fs) (map (said_of P) gs)
  said-arranged fs gs h =
      let none : Finding = finding_of NonAscii 0 in
      let below : (i : ℕ) → i < length (map (said_of P) gs) → i < length gs = λ i l. subst (λ n. i < n) (length-map gs (said_of P)) l in
      let line : (i : ℕ) (d : SaidFinding) → i < length gs → (get_or (map (said_of P) gs) i d).line ≡ (get_or gs i none).line_number =
      λ i d l. ap (λ s. let t : SaidFinding = s in t.line) (get_or-map (said_of P) gs i none d l) in
      record {
        in_order = λ i j d l m.
            let n = below j m in
            rw (line i d (omega arith), line j d n) (h.in_order i j none l n);
        stable = λ x.
            let test : SaidFinding → Bool = ties (λ s t. is_lt (nat_cmp s.line t.line)) x in
            filter-said test gs ∙ ap (map (said_of P)) (h.stable (finding_of NonAscii x.line)) ∙ sym (filter-said test fs);
      }

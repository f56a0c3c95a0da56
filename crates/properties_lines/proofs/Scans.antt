-- What a call of a scanner gives.
use Rattle.std.proofs.Common.{inl, inr, ◌≡◌, ◌≢◌, ◌⊎◌, ◌<◌, ◌+◌, ◌-◌, ◌^◌, ℕ, Bool, true, false, List, [], ◌∷◌, ◌++◌, take, drop, length, refl, sym, ap, ap₂, subst, ◌∙◌, append-nil, length-drop, arith}
use Rattle.std.specs.Prelude.{None}
use Rattle.std.proofs.lemmas.List.{take_rest, drop_all}
use Rattle.properties_format.specs.Encoding.{Encoding, InForce}
use Rattle.properties_format.specs.Lines.{more}
use Rattle.properties_format.specs.Cut.{HoldsNoLineEndingUnit}
use Rattle.properties_format.specs.Computed.Cut.{decoded_line}
use Rattle.properties_format.specs.ItemsToCome.{ReaderState}
use Rattle.properties_format.specs.Computed.ItemsToCome.{HoldsNoEnd}
use Rattle.properties_format.proofs.ItemsToCome.Lines.{natural-more}
use Rattle.properties_text.specs.Encoding.{encoding_of}
use Rattle.properties_lines.specs.LineSearch.{unit_size, whole_units}
use Rattle.properties_lines.specs.Scanner.{is_decided, scanner_state, front_of, raw_line_bytes, Fits, LinesCome, IsCutOff, HasRightFlags, GivesScannedLine, AsksForMore, IsAlike, IsReady, ScansLine, LacksEnd, TakesLast}
use Rattle.properties_lines.specs.declared.scanner.Front.{Front}
use Rattle.properties_lines.specs.declared.scanner.Front.TheVariants.{Mark, Feed, Nothing}
use Rattle.properties_lines.specs.declared.scanner.RawLine.{RawLine}
use Rattle.properties_lines.specs.declared.scanner.Scanner.{Scanner}
use Rattle.properties_lines.proofs.LineSearch.{nothing_searched, searched-whole}
use Rattle.properties_lines.proofs.ScannerFront.{comes-reads, reads-comes, comes-then, comes-last}

-- ---- nothing stands before the line

settled : {old new : Scanner} {held : List ℕ} {ended : Bool} → IsAlike old held ended new → new.front ≡ Nothing
settled h = ap (λ v. let w : Scanner = v in w.front) h.same

goes-on : {old new : Scanner} {held : List ℕ} {ended : Bool} → IsAlike old held ended new → old.is_done ≡ false → new.is_done ≡ false
goes-on h g = ap (λ v. let w : Scanner = v in w.is_done) h.same ∙ g

as-many : {old new : Scanner} {held : List ℕ} {ended : Bool} → IsAlike old held ended new → new.passed ≡ old.passed
as-many h = ap (λ v. let w : Scanner = v in w.passed) h.same

-- the scanner, where all that is held was searched
abbrev all_searched : Scanner → List ℕ → Scanner
all_searched s held = record s { searched = whole_units (encoding_of s.encoding) (length (drop s.at held)) }

-- the encoding in force, once it is known
pub kept-encoding : (s : ReaderState) (e : Encoding) (body : List ℕ) → s.is_decided ≡ true → front_of s ≡ record { encoding = e; body = body } → e ≡ s.encoding
kept-encoding s e body d h = sym (ap (λ v. let w : InForce = v in w.encoding) (rw d at h))

-- ---- a line up to its end

pub gives-ended_line : (old mid new : Scanner) (held : List ℕ) (ended : Bool) → old.is_done ≡ false → old.passed + 1 < 2 ^ 64 → IsAlike old held ended mid → ScansLine mid held new
    → GivesScannedLine old held ended new
gives-ended_line old mid new held ended g n h m =
    let e = encoding_of mid.encoding in
    let f = encoding_of new.encoding in
    let same : e ≡ f = ap (λ v. let w : Scanner = v in encoding_of w.encoding) (sym m.same) in
    let C : Encoding → Type 0 = λ v. (cut : IsCutOff v held new.line new.at) × (cut.ending ≢ None) in
    let cut : C f = subst C same (m.cut, m.ended) in
    let done : new.is_done ≡ false = ap (λ v. let w : Scanner = v in w.is_done) m.same ∙ goes-on h g in
    record {
      live = g;
      number = ap (λ v. let w : Scanner = v in w.passed) m.same ∙ ap (λ m. m + 1) (as-many h);
      numbered = n;
      comes = comes-then h.comes (comes-reads ended m.comes);
      cut = cut.0;
      front = h.front ∙ ap₂ (λ v w. let x : InForce = record { encoding = v; body = drop w held } in x) same (sym m.starts);
      short = λ w. subst (λ v. length (drop new.at held) < unit_size v) same (m.short w);
      decided = m.decided;
      going = inl (done, cut.1);
      fits = m.fits;
      flags = subst (λ v. HasRightFlags v (raw_line_bytes held new.line) new.line) same m.flags;
    }

-- ---- the last line

searched-ready : (s : Scanner) (held : List ℕ) → IsReady s held → HoldsNoLineEndingUnit (encoding_of s.encoding) (drop s.at held) → IsReady (all_searched s held) held
searched-ready s held h none = record {
  fits = record {
    within = h.fits.within;
    searched = searched-whole (encoding_of s.encoding) (drop s.at held) none;
    fresh = λ w. absurd (w h.settled);
    line = h.fits.line;
  };
  live = h.live;
  numbered = h.numbered;
  settled = h.settled;
}

-- where it is searched to its end, it may be taken
pub ready-searched : (old mid new : Scanner) (held : List ℕ) (ended : Bool) → old.is_done ≡ false → old.passed + 1 < 2 ^ 64 → IsAlike old held ended mid → LacksEnd mid held new
    → IsReady new held
ready-searched old mid new held ended g n h k =
    let before : IsReady mid held =
    record { fits = h.fits; live = goes-on h g; numbered = subst (λ m. m + 1 < 2 ^ 64) (sym (as-many h)) n; settled = settled h } in
    let P : Scanner → Type 0 = λ v. IsReady v held in
    subst P (sym k.same) (searched-ready mid held before k.none)

no-end : {old mid new : Scanner} {held : List ℕ} {ended : Bool} → old.is_done ≡ false → IsAlike old held ended mid → LacksEnd mid held new → HoldsNoEnd (scanner_state mid held)
no-end g h k = record { going = goes-on h g; decided = ap is_decided (settled h); none = k.none }

abbrev after_last : Scanner → List ℕ → RawLine → Scanner
after_last s held line = record s { is_done = true; passed = s.passed + 1; at = length held; searched = 0; line = line }

last-of : (old mid : Scanner) (held : List ℕ) (line : RawLine) → old.is_done ≡ false → old.passed + 1 < 2 ^ 64 → IsAlike old held true mid → HoldsNoEnd (scanner_state mid held)
    → line.start ≡ mid.at → line.end ≡ length held → HasRightFlags (encoding_of mid.encoding) (drop mid.at held) line → GivesScannedLine old held true (after_last mid held line)
last-of old mid held line g n h holds starts ends told =
    let e = encoding_of mid.encoding in
    let new = after_last mid held line in
    let text : raw_line_bytes held line ≡ drop mid.at held = ap₂ (λ m n. take (m - n) (drop n held)) ends starts ∙ take_rest held mid.at in
    let nothing : drop (length held) held ≡ [] = drop_all (length held) held (omega arith) in
    let all = comes-then h.comes (comes-last (scanner_state mid held) (scanner_state new held) holds refl) in
    let P : List ℕ → Type 0 = λ v. LinesCome true (scanner_state old held) (record { number = mid.passed + 1; text = decoded_line e v } ∷ []) (scanner_state new held) in
    record {
      live = g;
      number = ap (λ m. m + 1) (as-many h);
      numbered = n;
      comes = subst P (sym text) all;
      cut = record {
        ending = None;
        ordered = (omega (arith, starts, ends, h.fits.within), omega (arith, ends), omega arith);
        division = ap (λ n. drop n held) starts ∙ sym text ∙ sym (append-nil (raw_line_bytes held line)) ∙ ap (λ v. raw_line_bytes held line ++ v) (sym nothing);
        aligned = inl refl;
        none = subst (HoldsNoLineEndingUnit e) (sym text) holds.none;
        whole = nothing;
      };
      front = h.front ∙ ap (λ n. let x : InForce = record { encoding = e; body = drop n held } in x) (sym starts);
      short = λ w. let x = settled h in absurd (cc);
      decided = ap is_decided (settled h);
      going = inr (refl, refl, refl);
      fits = record {
        within = omega arith;
        searched = nothing_searched e (drop (length held) held);
        fresh = λ w. refl;
        line = (omega (arith, starts, ends, h.fits.within), omega (arith, ends));
      };
      flags = subst (λ v. HasRightFlags e v line) (sym text) told;
    }

pub gives-last_line : (old mid s new : Scanner) (held : List ℕ) → old.is_done ≡ false → old.passed + 1 < 2 ^ 64 → IsAlike old held true mid → LacksEnd mid held s → TakesLast s held new
    → GivesScannedLine old held true new
gives-last_line old mid s new held g n h k m =
    let line = new.line in
    let at : s.at ≡ mid.at = ap (λ v. let w : Scanner = v in w.at) k.same in
    let told = subst (λ v. let w : Scanner = v in HasRightFlags (encoding_of w.encoding) (drop w.at held) line) k.same m.flags in
    let core = last-of old mid held line g n h (no-end g h k) (m.starts ∙ at) m.ends told in
    let same : new ≡ after_last mid held line = m.same ∙ ap (λ v. after_last v held line) k.same in
    let P : Scanner → Type 0 = λ v. GivesScannedLine old held true v in
    subst P (sym same) core

-- ---- more bytes are asked for

more-of : (old mid : Scanner) (held : List ℕ) → Fits old held → old.is_done ≡ false → old.passed + 1 < 2 ^ 64 → IsAlike old held false mid → HoldsNoEnd (scanner_state mid held)
    → AsksForMore old held (all_searched mid held)
more-of old mid held f g n h holds = record {
  live = g;
  numbered = n;
  none = (h.comes.gives [] more tt).natural ∙ (natural-more (scanner_state mid held) holds).0;
  alike = reads-comes h.comes;
  passed = as-many h;
  done = ap (λ v. let w : Scanner = v in w.is_done) h.same;
  line = ap (λ v. let w : Scanner = v in w.line) h.same;
  encoding = λ d. (ap is_decided (settled h), kept-encoding (scanner_state old held) (encoding_of mid.encoding) (drop mid.at held) d h.front);
  stays = stays old.front refl;
  front = inr h.front;
  fits = record {
    within = h.fits.within;
    searched = searched-whole (encoding_of mid.encoding) (drop mid.at held) holds.none;
    fresh = λ w. absurd (w (settled h));
    line = h.fits.line;
  };
  saw = λ w. refl;
}
  where
    stays : (front : Front) → old.front ≡ front → (mid.at ≡ old.at) × (mid.front ≡ old.front) ⊎ (old.front ≢ Nothing) × (mid.front ≡ Nothing)
    stays Mark k = inr (λ w. absurd (cc), settled h)
    stays Feed k = inr (λ w. absurd (cc), settled h)
    stays Nothing k =
        let body : drop old.at held ≡ drop mid.at held = ap (λ v. let w : InForce = v in w.body) (rw k at h.front) in
        inl (omega (arith, ap length body, length-drop old.at held, length-drop mid.at held, f.within, h.fits.within), settled h ∙ sym k)

-- no line ending is held
pub asks-for_more : (old mid new : Scanner) (held : List ℕ) → Fits old held → old.is_done ≡ false → old.passed + 1 < 2 ^ 64 → IsAlike old held false mid → LacksEnd mid held new
    → AsksForMore old held new
asks-for_more old mid new held f g n h k =
    let P : Scanner → Type 0 = λ v. AsksForMore old held v in
    subst P (sym k.same) (more-of old mid held f g n h (no-end g h k))

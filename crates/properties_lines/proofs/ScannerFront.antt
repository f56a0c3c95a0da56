-- What may stand before the line that a scanner comes to.
use Rattle.std.proofs.Common.{inl, inr, ◌≡◌, ◌<◌, ◌≤◌, ◌+◌, ◌-◌, ◌*◌, ℕ, Bool, true, false, List, [], ◌∷◌, ◌++◌, drop, length, refl, sym, ap, ap₂, subst, ◌∙◌, length-append, length-drop, arith}
use Rattle.std.proofs.lemmas.Bool.{cases_Bool, eqb-true}
use Rattle.std.proofs.lemmas.List.{drop-drop, drop-append-le}
use Rattle.properties_format.specs.Text.{line_feed}
use Rattle.properties_format.specs.Utf16.{low_first, high_first}
use Rattle.properties_format.specs.Encoding.{Encoding, InForce, windows_1252, utf_8, utf_16le, utf_16be, ascii_bytes}
use Rattle.properties_format.specs.Lines as format
use Rattle.properties_format.specs.Lines.{InputEnd, end, more}
use Rattle.properties_format.specs.Cut.{units}
use Rattle.properties_format.specs.Computed.Lines.{begins_with_lf}
use Rattle.properties_format.specs.Computed.Encoding.{awaits_bom}
use Rattle.properties_format.specs.ItemsToCome.{ReaderState}
use Rattle.properties_format.specs.Computed.ItemsToCome.{natural_to_come, Gives, ReadsLines, HoldsNoEnd, after_decided, after_passed, next_line}
use Rattle.properties_format.proofs.ItemsToCome.Lines.{gives-decided, gives-decided_last, gives-passed_none, gives-passed_last, gives-passed_lf, gives-last, natural-more}
use Rattle.properties_format.proofs.ItemsToCome.Entries.{gives-on}
use Rattle.properties_format.proofs.ItemsToCome.Waiting.{waiting-no_end}
use Rattle.properties_text.specs.Encoding.{encoding_of, FindsByteOrderMark}
use Rattle.properties_text.specs.declared.encoding.byte_order_mark.ByteOrderMark.{ByteOrderMark}
use Rattle.properties_text.specs.declared.encoding.byte_order_mark.ByteOrderMark.TheVariants.{Present, Absent, Undecided}
use Rattle.properties_lines.specs.LineSearch.{unit_size, IsSearched}
use Rattle.properties_lines.specs.Scanner.{is_decided, after_cr, scanner_state, front_of, Fits, LinesCome, IsAlike, SkipsFront, SkipsFeed, feed_size, is_undecided}
use Rattle.properties_lines.specs.declared.scanner.Front.TheVariants.{Mark, Feed, Nothing}
use Rattle.properties_lines.specs.declared.scanner.Scanner.{Scanner}
use Rattle.properties_lines.proofs.LineSearch.{nothing_searched, searched-grown, length-ascii_bytes, short-none}

-- ---- what fits

-- a scanner may be called with more bytes
pub fits-grown : (s : Scanner) (held d : List ℕ) → Fits s held → Fits s (held ++ d)
fits-grown s held d h =
    let S : List ℕ → Type 0 = λ v. IsSearched (encoding_of s.encoding) v s.searched in
    record {
      within = omega (arith, h.within, length-append held d);
      searched = subst S (sym (drop-append-le s.at held d h.within)) (searched-grown (encoding_of s.encoding) (drop s.at held) d s.searched h.searched);
      fresh = h.fresh;
      line = (h.line.0, omega (arith, h.line.1, length-append held d));
    }

-- where none were searched, any bytes were
searched-none : (e : Encoding) (bytes : List ℕ) (count : ℕ) → count ≡ 0 → IsSearched e bytes count
searched-none e bytes count h = subst (IsSearched e bytes) (sym h) (nothing_searched e bytes)

-- ---- bytes are let go

abbrev pub release : Scanner → ℕ → Scanner
release s count = record s { at = s.at - count; line = record s.line { start = 0; end = 0 } }

rest-release : (s : Scanner) (held : List ℕ) (count : ℕ) → count ≤ s.at → drop (s.at - count) (drop count held) ≡ drop s.at held
rest-release s held count h = let at : count + (s.at - count) ≡ s.at = omega (arith, h) in drop-drop (s.at - count) count held ∙ ap (λ n. drop n held) at

-- with those that are left the scanner may be called
pub fits-release : (s : Scanner) (held : List ℕ) (count : ℕ) → count ≤ s.at → Fits s held → Fits (release s count) (drop count held)
fits-release s held count h k = record {
  within = omega (arith, h, k.within, length-drop count held);
  searched = subst (λ v. IsSearched (encoding_of s.encoding) v s.searched) (sym (rest-release s held count h)) k.searched;
  fresh = k.fresh;
  line = (omega arith, omega arith);
}

-- ---- what comes

pub comes-reads : (ended : Bool) {s t : ReaderState} {ls : List format.Line} → ReadsLines s [] ls t → LinesCome ended s ls t
comes-reads ended h = record { gives = λ d ending m. h.gives d ending }

pub reads-comes : {s t : ReaderState} {ls : List format.Line} → LinesCome false s ls t → ReadsLines s [] ls t
reads-comes h = record { gives = λ d ending. h.gives d ending tt }

pub comes-then : {ended : Bool} {s t u : ReaderState} {ls ms : List format.Line} → LinesCome ended s ls t → LinesCome ended t ms u → LinesCome ended s (ls ++ ms) u
comes-then h k = record { gives = λ d ending m. gives-on (h.gives d ending m) (k.gives d ending m) }

comes-decided : (ended : Bool) (s : ReaderState) → s.is_decided ≡ false → (ended ≡ false → awaits_bom s.held ≡ false) → LinesCome ended s [] (after_decided s)
comes-decided false s d h = record { gives = λ x ending m. gives-decided s x ending d (h refl) }
comes-decided true s d h = record {
  gives = λ x ending m. let P : List ℕ → Type 0 = λ v. Gives s v [] (after_decided s) v ending in subst P (sym m.0) (gives-decided_last s ending d);
}

-- bytes that are as long as a unit have one
pub some-units : (e : Encoding) (d : List ℕ) → unit_size e ≤ length d → 0 < length (units e d)
some-units windows_1252 d h = h
some-units utf_8 d h = h
some-units utf_16le [] h = absurd (omega arith)
some-units utf_16le (a ∷ []) h = absurd (omega arith)
some-units utf_16le (a ∷ b ∷ d) h = omega arith
some-units utf_16be [] h = absurd (omega arith)
some-units utf_16be (a ∷ []) h = absurd (omega arith)
some-units utf_16be (a ∷ b ∷ d) h = omega arith

comes-passed : (ended : Bool) (s : ReaderState) → s.is_decided ≡ true → begins_with_lf (units s.encoding s.held) ≡ false
    → (ended ≡ false → unit_size s.encoding ≤ length s.held) → LinesCome ended s [] (after_passed s s.held)
comes-passed false s d h k = record { gives = λ x ending m. gives-passed_none s x ending d (some-units s.encoding s.held (k refl)) h }
comes-passed true s d h k = record {
  gives = λ x ending m. let P : List ℕ → Type 0 = λ v. Gives s v [] (after_passed s s.held) v ending in subst P (sym m.0) (gives-passed_last s ending d h);
}

-- an LF at the front is its bytes
pub feed-first : (e : Encoding) (d : List ℕ) → begins_with_lf (units e d) ≡ true → d ≡ ascii_bytes e line_feed ++ drop (unit_size e) d
feed-first windows_1252 [] h = absurd (cc h)
feed-first windows_1252 (b ∷ d) h = ap (λ v. v ∷ d) (eqb-true b line_feed h)
feed-first utf_8 [] h = absurd (cc h)
feed-first utf_8 (b ∷ d) h = ap (λ v. v ∷ d) (eqb-true b line_feed h)
feed-first utf_16le [] h = absurd (cc h)
feed-first utf_16le (a ∷ []) h = absurd (cc h)
feed-first utf_16le (a ∷ b ∷ d) h =
    let unit : b * 0x100 + a ≡ 10 = eqb-true (low_first a b) line_feed h in
    let low : a ≡ line_feed = omega (arith, unit) in
    let high : b ≡ 0 = omega (arith, unit) in
    ap₂ (λ v w. v ∷ w ∷ d) low high
feed-first utf_16be [] h = absurd (cc h)
feed-first utf_16be (a ∷ []) h = absurd (cc h)
feed-first utf_16be (a ∷ b ∷ d) h =
    let unit : a * 0x100 + b ≡ 10 = eqb-true (high_first a b) line_feed h in
    let high : a ≡ 0 = omega (arith, unit) in
    let low : b ≡ line_feed = omega (arith, unit) in
    ap₂ (λ v w. v ∷ w ∷ d) high low

-- and within those that are held
feed-within : (e : Encoding) (d : List ℕ) → feed_size e d ≤ length d
feed-within e d = elim (cases_Bool (begins_with_lf (units e d))) [
  | inl h ↦
      let all = ap length (feed-first e d h) in
      let size : unit_size e ≤ length d = omega (arith, all, length-append (ascii_bytes e line_feed) (drop (unit_size e) d), length-ascii_bytes e line_feed) in
      rw h size
  | inr h ↦ rw h (omega arith)
]

comes-feed : (ended : Bool) (s : ReaderState) → s.is_decided ≡ true → s.after_cr ≡ true → (ended ≡ false → unit_size s.encoding ≤ length s.held)
    → LinesCome ended s [] (after_passed s (drop (feed_size s.encoding s.held) s.held))
comes-feed ended s d a k = elim (cases_Bool (begins_with_lf (units s.encoding s.held))) [
  | inl h ↦
      let passed : LinesCome ended s [] (after_passed s (drop (unit_size s.encoding) s.held)) = record {
        gives = λ x ending m. gives-passed_lf s (drop (unit_size s.encoding) s.held) x ending d a (feed-first s.encoding s.held h);
      } in
      rw h passed
  | inr h ↦ rw h (comes-passed ended s d h k)
]

pub comes-last : (s t : ReaderState) → HoldsNoEnd s → t.is_done ≡ true → LinesCome true s (next_line s s.held ∷ []) t
comes-last s t h k = record {
  gives = λ x ending m.
      let P : List ℕ → Type 0 = λ v. Gives s v (next_line s s.held ∷ []) t x ending in
      let Q : InputEnd → Type 0 = λ v. Gives s [] (next_line s s.held ∷ []) t x v in
      subst P (sym m.0) (subst Q (sym m.1) (gives-last s t x h k));
}

-- ---- a byte order mark

pub awaits-mark : (s : Scanner) (held : List ℕ) → s.is_done ≡ false → s.front ≡ Mark → awaits_bom (drop s.at held) ≡ true
    → natural_to_come (scanner_state s held) [] more ≡ []
awaits-mark s held g d k =
    let t = scanner_state s held in
    (gives-decided_last t more (ap is_decided d)).natural ∙ (natural-more (after_decided t) (waiting-no_end t g k)).0

pub mark-undecided : (held : List ℕ) (mark : ByteOrderMark) → FindsByteOrderMark held mark → is_undecided mark ≡ true → awaits_bom held ≡ true
mark-undecided held (Present e n) h k = absurd (cc)
mark-undecided held Absent h k = absurd (cc)
mark-undecided held Undecided h k = h.1

pub mark-decided : (held : List ℕ) (mark : ByteOrderMark) → FindsByteOrderMark held mark → is_undecided mark ≡ false → awaits_bom held ≡ false
mark-decided held (Present e n) h k = h.1
mark-decided held Absent h k = h.1
mark-decided held Undecided h k = absurd (cc)

abbrev front-held_by : ReaderState → InForce
front-held_by s = record { encoding = s.encoding; body = s.held }

front-undecided : (s : ReaderState) → s.is_decided ≡ false → front_of s ≡ front-held_by (after_decided s)
front-undecided s h = rw h refl

-- it is passed
pub skips-mark : (old new : Scanner) (held : List ℕ) (ended : Bool) → Fits old held → old.front ≡ Mark → (ended ≡ false → awaits_bom (drop old.at held) ≡ false)
    → scanner_state new held ≡ after_decided (scanner_state old held) → new.at ≤ length held → new ≡ record old { encoding = new.encoding; front = Nothing; at = new.at }
    → IsAlike old held ended new
skips-mark old new held ended h d waits is le same =
    let s = scanner_state old held in
    let P : ReaderState → Type 0 = λ v. LinesCome ended s [] v in
    let undecided : s.is_decided ≡ false = ap is_decided d in
    let fresh : old.searched ≡ 0 = h.fresh (λ w. absurd (cc (d, w))) in
    let settled : new.front ≡ Nothing = ap (λ v. let w : Scanner = v in w.front) same in
    let line : old.line ≡ new.line = ap (λ v. let w : Scanner = v in w.line) (sym same) in
    record {
      comes = subst P (sym is) (comes-decided ended s undecided waits);
      same = same;
      fits = record {
        within = le;
        searched = searched-none _ _ new.searched (ap (λ v. let w : Scanner = v in w.searched) same ∙ fresh);
        fresh = λ w. absurd (w settled);
        line = subst (λ v. (v.start ≤ v.end) × (v.end ≤ length held)) line h.line;
      };
      front = front-undecided s undecided ∙ ap (λ v. let w : ReaderState = v in front-held_by w) (sym is);
    }

-- ---- an LF of the line ending before

awaits-unit : (s : Scanner) (held : List ℕ) → s.is_done ≡ false → s.front ≡ Feed → length (drop s.at held) < unit_size (encoding_of s.encoding)
    → natural_to_come (scanner_state s held) [] more ≡ []
awaits-unit s held g a short =
    let t = scanner_state s held in
    (natural-more t (record { going = g; decided = ap is_decided a; none = short-none t.encoding t.held short })).0

front-after : (s : ReaderState) → s.is_decided ≡ true → s.after_cr ≡ true
    → front_of s ≡ record { encoding = s.encoding; body = drop (feed_size s.encoding s.held) s.held }
front-after s d a = rw (d, a) refl

-- it is passed, where it is there
passes-feed : (old : Scanner) (held : List ℕ) (ended : Bool) → Fits old held → old.front ≡ Feed
    → (ended ≡ false → unit_size (encoding_of old.encoding) ≤ length (drop old.at held))
    → IsAlike old held ended (record old { front = Nothing; at = old.at + feed_size (encoding_of old.encoding) (drop old.at held) })
passes-feed old held ended h a k =
    let s = scanner_state old held in
    let count = feed_size s.encoding s.held in
    let decided : s.is_decided ≡ true = ap is_decided a in
    let after : s.after_cr ≡ true = ap after_cr a in
    let rest : drop count (drop old.at held) ≡ drop (old.at + count) held = drop-drop count old.at held in
    let fresh : old.searched ≡ 0 = h.fresh (λ w. absurd (cc (a, w))) in
    let P : Bool → List ℕ → Type 0 = λ b v. LinesCome ended s [] (record s { is_decided = b; held = v; after_cr = false }) in
    let passed : P s.is_decided (drop count s.held) = comes-feed ended s decided after k in
    record {
      comes = subst (λ v. P true v) rest (subst (λ b. P b (drop count s.held)) decided passed);
      same = refl;
      fits = record {
        within = omega (arith, feed-within s.encoding s.held, length-drop old.at held, h.within);
        searched = searched-none _ _ old.searched fresh;
        fresh = λ w. fresh;
        line = h.line;
      };
      front = front-after s decided after ∙ ap (λ v. let w : InForce = record { encoding = s.encoding; body = v } in w) rest;
    }

-- unless more bytes decide whether it comes
pub skips_feed : (old new : Scanner) (held : List ℕ) (ended passed : Bool) → Fits old held → old.is_done ≡ false → old.front ≡ Feed
    → SkipsFeed (record old { front = Nothing }) held ended passed new → SkipsFront old held ended passed new
skips_feed old new held ended true h g a k =
    let P : Scanner → Type 0 = λ v. IsAlike old held ended v in
    subst P (sym k.1) (passes-feed old held ended h a k.0)
skips_feed old new held ended false h g a k =
    let same : new ≡ old = k.2 ∙ ap (λ v. let w : Scanner = record old { front = v } in w) (sym a) in
    (k.0, same, awaits-unit old held g a k.1, λ w. absurd (cc (a, w)))

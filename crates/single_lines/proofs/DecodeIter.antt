-- The steps of the iterator over characters.
use Rattle.std.proofs.Common.{◌≡◌, ◌⊎◌, ℕ, Bool, true, false, List, [], ◌∷◌, ◌++◌, length, drop, refl, ap, sym, ◌∙◌, inl, inr, append_assoc, append-nil, subst}
use Rattle.std.specs.Prelude.{Some, None}
use Rattle.std.specs.declared.io.Error.{Error}
use Rattle.counted_io.specs.Streams.{Reader}
use Rattle.counted_io.proofs.Streams.{read-none, read-more, failed-more}
use Rattle.properties_format.specs.Text.{piece_characters}
use Rattle.properties_format.specs.Encoding.{Encoding, byte_order_mark}
use Rattle.properties_format.specs.Computed.Encoding.{first_piece, pieces_of, decoded_of, characters_from, awaits_bom, awaits_more}
use Rattle.properties_format.proofs.Encodings.Pieces.{pieces_of-nil}
use Rattle.properties_format.proofs.Encodings.ByteOrderMarks.{decoded_of-append}
use Rattle.properties_format.proofs.Encodings.Waiting.{pieces_of-decided, characters-step}
use Rattle.single_lines.specs.DecodeIter.{Undecoded, is_over, awaits_piece, waits, coming, characters_to_come, CanCome, GivesOn, GoesOn, Decodes, Ends, ShowsFault}
use Rattle.single_lines.specs.declared.decode_iter.Ending.{Ending}
use Rattle.single_lines.specs.declared.decode_iter.Ending.TheVariants.{More, End, Fault}

-- ---- What comes where the input is over.

coming-over : (ending : Ending) (d : List ℕ) → is_over ending ≡ true → coming ending d ≡ []
coming-over More d h = absurd (cc)
coming-over End d h = refl
coming-over (Fault e) d h = refl

coming-nil : (ending : Ending) → coming ending [] ≡ []
coming-nil More = refl
coming-nil End = refl
coming-nil (Fault e) = refl

characters_from-nil : (e : Encoding) (decided : Bool) → characters_from e decided [] ≡ []
characters_from-nil e true = ap piece_characters (pieces_of-nil e)
characters_from-nil e false = ap piece_characters (pieces_of-nil e)

nothing-comes : (P : Type 0) (ending : Ending) (d : List ℕ) → (is_over ending ≡ true) ⊎ P → (coming ending d ≡ []) ⊎ P
nothing-comes P ending d (inl h) = inl (coming-over ending d h)
nothing-comes P ending d (inr h) = inr h

-- ---- A character, or a byte order mark, is taken.

bom-characters : (e f : Encoding) (held body x : List ℕ) → byte_order_mark e held ≡ record { encoding = f; body = body } → (x ≡ []) ⊎ (awaits_bom held ≡ false)
    → decoded_of e (held ++ x) ≡ piece_characters (pieces_of f (body ++ x))
bom-characters e f held body x h (inl none) =
    ap (λ v. decoded_of e (held ++ v)) none
    ∙ ap (decoded_of e) (append-nil held)
    ∙ ap (λ m. piece_characters (pieces_of m.encoding m.body)) h
    ∙ ap (λ v. piece_characters (pieces_of f v)) (sym (append-nil body))
    ∙ ap (λ v. piece_characters (pieces_of f (body ++ v))) (sym none)
bom-characters e f held body x h (inr decided) = decoded_of-append e held x decided ∙ ap (λ m. piece_characters (pieces_of m.encoding (m.body ++ x))) h

piece-characters : (e : Encoding) (b : ℕ) (d x : List ℕ) → (x ≡ []) ⊎ (awaits_more e b d ≡ false)
    → piece_characters (pieces_of e ((b ∷ d) ++ x)) ≡ (first_piece e b d).character ∷ piece_characters (pieces_of e (drop (length (first_piece e b d).bytes) (b ∷ d) ++ x))
piece-characters e b d x (inl none) =
    let rest = drop (length (first_piece e b d).bytes) (b ∷ d) in
    ap (λ v. piece_characters (pieces_of e ((b ∷ d) ++ v))) none
    ∙ ap (λ v. piece_characters (pieces_of e v)) (append-nil (b ∷ d))
    ∙ characters-step e b d
    ∙ ap (λ v. (first_piece e b d).character ∷ piece_characters (pieces_of e v)) (sym (append-nil rest))
    ∙ ap (λ v. (first_piece e b d).character ∷ piece_characters (pieces_of e (rest ++ v))) (sym none)
piece-characters e b d x (inr decided) = ap piece_characters (pieces_of-decided e b d x decided)

-- the byte order mark is decided: the encoding in force and the body say the characters to come
pub gives-bom : (s t : Undecoded) → s.is_decided ≡ false → (is_over s.ending ≡ true) ⊎ (awaits_bom s.held ≡ false)
    → byte_order_mark s.encoding s.held ≡ record { encoding = t.encoding; body = t.held } → t.is_decided ≡ true → t.ending ≡ s.ending → GivesOn s [] t
gives-bom s t undecided settled mark decided same = record {
  same = same;
  comes = λ d h.
      let x = coming s.ending d in
      ap (λ v. characters_from s.encoding v (s.held ++ x)) undecided
      ∙ bom-characters s.encoding t.encoding s.held t.held x mark (nothing-comes (awaits_bom s.held ≡ false) s.ending d settled)
      ∙ ap (λ v. characters_from t.encoding v (t.held ++ x)) (sym decided)
      ∙ ap (λ v. characters_from t.encoding t.is_decided (t.held ++ coming v d)) (sym same);
}

pub gives-character : (s t : Undecoded) (b : ℕ) (d : List ℕ) (c n : ℕ) → s.is_decided ≡ true → (is_over s.ending ≡ true) ⊎ (waits s ≡ false) → s.held ≡ b ∷ d
    → c ≡ (first_piece s.encoding b d).character → n ≡ length (first_piece s.encoding b d).bytes → t ≡ record s { held = drop n s.held } → GivesOn s (c ∷ []) t
gives-character s t b d c n decided settled whole character count after = record {
  same = ap (λ v. v.ending) after;
  comes = λ e h.
      let x = coming s.ending e in
      let more : (is_over s.ending ≡ true) ⊎ (awaits_more s.encoding b d ≡ false) = rw whole at settled in
      ap (λ v. characters_from s.encoding v (s.held ++ x)) decided
      ∙ ap (λ v. piece_characters (pieces_of s.encoding (v ++ x))) whole
      ∙ piece-characters s.encoding b d x (nothing-comes (awaits_more s.encoding b d ≡ false) s.ending e more)
      ∙ ap (λ v. v ∷ piece_characters (pieces_of s.encoding (drop (length (first_piece s.encoding b d).bytes) (b ∷ d) ++ x))) (sym character)
      ∙ ap (λ v. c ∷ piece_characters (pieces_of s.encoding (drop v (b ∷ d) ++ x))) (sym count)
      ∙ ap (λ v. c ∷ piece_characters (pieces_of s.encoding (drop n v ++ x))) (sym whole)
      ∙ ap (λ v. c ∷ characters_from s.encoding v (drop n s.held ++ x)) (sym decided)
      ∙ ap (λ v. c ∷ characters_to_come v e) (sym after);
}

-- ---- Steps in turn.

module _ {R : Type 0} (reader : Reader R) where
  goes_on-none : (ending : Ending) (a : R) → GoesOn reader a ending [] a ending
  goes_on-none More a = read-none a
  goes_on-none End a = (refl, refl, refl)
  goes_on-none (Fault e) a = (refl, refl, refl)

  -- where the input is over it stays so, and nothing is read
  goes_on-still : (j k : Ending) (b c : R) (q : List ℕ) → is_over j ≡ true → GoesOn reader b j q c k → (q ≡ []) × (c ≡ b) × (k ≡ j)
  goes_on-still More k b c q over h = absurd (cc)
  goes_on-still End k b c q over h = h
  goes_on-still (Fault e) k b c q over h = h

  goes_on-along : (i j k : Ending) (a b c : R) (r q : List ℕ) → GoesOn reader a i r b j → (q ≡ []) × (c ≡ b) × (k ≡ j) → GoesOn reader a i (r ++ q) c k
  goes_on-along i j k a b c r q g h = rw (h.0, h.1, h.2, append-nil r) g

  goes_on-over : (i j k : Ending) (a b c : R) (r q : List ℕ)
      → is_over i ≡ true → (r ≡ []) × (b ≡ a) × (j ≡ i) → GoesOn reader b j q c k → (r ++ q ≡ []) × (c ≡ a) × (k ≡ i)
  goes_on-over i j k a b c r q over g h =
      let s = goes_on-still j k b c q (ap is_over g.2 ∙ over) h in
      (rw g.0 s.0, s.1 ∙ g.1, s.2 ∙ g.2)

  goes_on-more : (i j k : Ending) (a b c : R) (r q : List ℕ) → GoesOn reader a i r b j → GoesOn reader b j q c k → GoesOn reader a i (r ++ q) c k
  goes_on-more More More More a b c r q g h = read-more g h
  goes_on-more More More End a b c r q g h = (read-more g h.0, h.1)
  goes_on-more More More (Fault e) a b c r q g h = failed-more g h
  goes_on-more More End k a b c r q g h = goes_on-along More End k a b c r q g (goes_on-still End k b c q refl h)
  goes_on-more More (Fault e) k a b c r q g h = goes_on-along More (Fault e) k a b c r q g (goes_on-still (Fault e) k b c q refl h)
  goes_on-more End j k a b c r q g h = goes_on-over End j k a b c r q refl g h
  goes_on-more (Fault e) j k a b c r q g h = goes_on-over (Fault e) j k a b c r q refl g h

  comes-still : (j : Ending) (q d : List ℕ) → is_over j ≡ true → q ≡ [] → CanCome j d → CanCome j (q ++ d)
  comes-still j q d over none h = rw none h

  comes-more : (j k : Ending) (b c : R) (q d : List ℕ) → GoesOn reader b j q c k → CanCome k d → CanCome j (q ++ d)
  comes-more More k b c q d g h = refl
  comes-more End k b c q d g h = let P : Ending → Type 0 = λ v. CanCome v d in comes-still End q d refl g.0 (subst P g.2 h)
  comes-more (Fault e) k b c q d g h = let P : Ending → Type 0 = λ v. CanCome v d in comes-still (Fault e) q d refl g.0 (subst P g.2 h)

module _ {R : Type 0} {reader : Reader R} where
  pub decodes-given : (a : R) (s t : Undecoded) (x : List ℕ) → GivesOn s x t → Decodes reader a s x a t
  decodes-given a s t x h = record { read = []; goes_on = rw h.same (goes_on-none reader s.ending a); comes = λ d k. h.comes d k }

  pub decodes-more : {a b c : R} {s t u : Undecoded} {x y : List ℕ} → Decodes reader a s x b t → Decodes reader b t y c u → Decodes reader a s (x ++ y) c u
  decodes-more {a} {b} {c} {s} {t} {u} {x} {y} g h = record {
    read = g.read ++ h.read;
    goes_on = goes_on-more reader s.ending t.ending u.ending a b c g.read h.read g.goes_on h.goes_on;
    comes = λ d k.
        ap (characters_to_come s) (append_assoc g.read h.read d)
        ∙ g.comes (h.read ++ d) (comes-more reader t.ending u.ending b c h.read d h.goes_on k)
        ∙ ap (λ v. x ++ v) (h.comes d k)
        ∙ sym (append_assoc x y (characters_to_come u d));
  }

  -- nothing is held, and nothing comes
  pub ends-by : {a b : R} {s t : Undecoded} (ending : Ending) (u : Undecoded)
      → Decodes reader a s [] b t → t.held ≡ [] → t.ending ≡ ending → is_over ending ≡ true → u.held ≡ [] → u.ending ≡ End
      → Ends reader a s ending b u
  ends-by {a} {b} {s} {t} ending u h empty same over after ended = record {
    read = h.read;
    goes_on = rw (← same) h.goes_on;
    none = ap (characters_to_come s) (sym (append-nil h.read))
        ∙ h.comes [] (coming-nil t.ending)
        ∙ ap (λ v. characters_from t.encoding t.is_decided (v ++ coming t.ending [])) empty
        ∙ ap (characters_from t.encoding t.is_decided) (coming-nil t.ending)
        ∙ characters_from-nil t.encoding t.is_decided;
    empty = after;
    over = ended;
  }

-- ---- The end.

over-empty : (s : Undecoded) → (is_over s.ending ≡ true) ⊎ (waits s ≡ false) → s.held ≡ [] → is_over s.ending ≡ true
over-empty s (inl h) e = h
over-empty s (inr h) e = absurd (let k : true ≡ false = sym (ap (awaits_piece s.encoding) e) ∙ h in cc)

no-fault : (ending : Ending) → is_over ending ≡ true → ShowsFault ending None → ending ≡ End
no-fault More over none = absurd (cc)
no-fault End over none = refl
no-fault (Fault e) over none = absurd (none e refl)

module _ {R : Type 0} {reader : Reader R} {a b : R} {s t v : Undecoded} (u : Undecoded)
    (h : Decodes reader a s [] b t) (settled : (is_over t.ending ≡ true) ⊎ (waits t ≡ false))
    (kept : (v ≡ t) × (t.held ≡ [])) (after : u ≡ record v { ending = End }) where
  empty : u.held ≡ []
  empty = ap (λ w. w.held) after ∙ ap (λ w. w.held) kept.0 ∙ kept.1

  pub ends-end : ShowsFault v.ending None → Ends reader a s End b u
  ends-end none =
      let P : Undecoded → Type 0 = λ w. ShowsFault w.ending None in
      ends-by End u h kept.1 (no-fault t.ending (over-empty t settled kept.1) (subst P kept.0 none)) refl empty (ap (λ w. w.ending) after)

  pub ends-fault : (e : Error) → ShowsFault v.ending (Some e) → Ends reader a s (Fault e) b u
  ends-fault e given =
      ends-by (Fault e) u h kept.1 (sym (ap (λ w. w.ending) kept.0) ∙ given) refl empty (ap (λ w. w.ending) after)

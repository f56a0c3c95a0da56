-- How a key is renamed, group after group of a view.
use Rattle.std.proofs.Common.{inl, inr, ◌≡◌, ◌≢◌, ◌<◌, ◌≤◌, ℕ, zero, suc, ◌+◌, ◌-◌, Bool, true, false, List, [], ◌∷◌, ◌++◌, length, take, drop, refl, sym, ap, ap₂, ◌∙◌, subst, arith, append_assoc, append-nil, length-append, lit<}
use Rattle.std.specs.Prelude.{◌==◌, ◌&&◌, not, bytes_eq, Option, Some, None, Ok}
use Rattle.std.specs.Global.{Vec}
use Rattle.std.specs.Option.{unwrap_or}
use Rattle.std.specs.Str.{chars}
use Rattle.std.proofs.lemmas.Bool.{cases_Bool}
use Rattle.std.proofs.Math.Seq.{drop-append_seam, take-add, take-append_seam}
use Rattle.std.proofs.lemmas.Bool.Decides.{nat_tests}
use Rattle.std.proofs.lemmas.List.{drop-drop, length-drop, take-append-drop}
use Rattle.std.proofs.lemmas.Str.{chars-nil}
use Rattle.std.proofs.lemmas.Slice.Eq.{bytes_eq-Decides}
use Rattle.properties_format.specs.Text.{equals_sign, is_blanks, is_empty}
use Rattle.properties_format.specs.Encoding.{Characters, Encoding, InForce, Repertoire, ascii_in, byte_order_mark, in_encoding, repertoire_in_force, latin_1_in, output_encoding, utf_8}
use Rattle.properties_format.specs.Split.{blank, comment, pair, IsSplit}
use Rattle.properties_format.specs.Printing.{encoded_text, in_prefix, printed_characters, printed_key}
use Rattle.properties_format.specs.Body.{HeldLine, HasKey, NoneHasKey, group_bytes, groups_bytes, held_in}
use Rattle.properties_format.specs.Computed.Valued.{between_if_pair, between_in}
use Rattle.properties_format.specs.Edited.{bom_of, is_editable}
use Rattle.properties_format.proofs.AsciiOnly.{printed_characters-alike, printed_characters-ascii, printed_characters-same}
use Rattle.properties_format.proofs.Valued.InAscii.{encoded-same}
use Rattle.properties_format.proofs.Edited.ByteOrderMarks.{source-whole}
use Rattle.properties_format.proofs.Edited.Pair.{editable-own}
use Rattle.properties_format.proofs.Printing.Characters.{encoded-ascii}
use Rattle.properties_format.proofs.Split.Unique.{split_of-only}
use Rattle.properties_format.proofs.Valued.Parts.{between_in-pair}
use Rattle.properties_format.proofs.Split.Laws.{split-unique}
use Rattle.properties_text.specs.Parsing.{bytes_in}
use Rattle.properties_text.specs.Printing.{in_format, key_bytes, puts_of, text_bytes}
use Rattle.properties_text.specs.declared.parse.Span.{Span}
use Rattle.properties_text.specs.Encoding.{encoding_of}
use Rattle.properties_text.specs.declared.encoding.Encoding as asked
use Rattle.properties_text.specs.declared.encoding.Encoding.TheVariants.{WINDOWS_1252, UTF_8, UTF_16LE, UTF_16BE}
use Rattle.properties_text.specs.declared.print.Place.TheVariants.{Prefix}
use Rattle.properties_text.specs.declared.print.Repertoire as code
use Rattle.properties_text.specs.declared.print.Repertoire.TheVariants.{Ascii}
use Rattle.properties_editing.specs.Private.BodyValues.{IsBetweenAt}
use Rattle.properties_editing.specs.Private.Sources.{PrintsIn}
use Rattle.properties_editing.specs.Editing.{MakesEditsFor}
use Rattle.properties_editing.specs.declared.source.Comments.{Comments}
use Rattle.properties_editing.specs.declared.source.Comments.TheVariants.{PassedOver, Read}
use Rattle.properties_editing.specs.Views.{GivesNext, AreGiven, AreOfPair, IsViewOf, ArePlaces, OpenView, TakesNext, viewed_line, past_group, size_before, with_bytes}
use Rattle.properties_editing.specs.declared.group.PartPlaces.{PartPlaces}
use Rattle.properties_editing.specs.declared.group.ViewedGroup.{ViewedGroup}
use Rattle.properties_renaming.specs.Renaming.{AreIn, AreAlike, ArePrinted, AreRekeyed, IsRenamed, Replaced, with_new, with_old, key_text}
use Rattle.properties_renaming.specs.Private.Copied.{IsNew, IsReplacedIn, copied_to}
use Rattle.properties_renaming.specs.Private.Renaming.{AreMade, IsAmong, PrintsKeys, IsAnyPair, IsRekeyedIn, IsSlice, is_join, later, past_joins}
use Rattle.properties_renaming.proofs.KeyPlaces.{IsPlaced}
use Rattle.properties_renaming.specs.declared.copied.Copied.{Copied}
use Rattle.properties_renaming.specs.declared.renaming.NewKey.{NewKey}

-- ---- what joins lines before a key

pub join-more : (bytes : List ℕ) (at : ℕ) → is_join (drop at bytes) ≡ true
    → (past_joins (drop (at + 1) bytes) ≡ past_joins (drop at bytes)) × (at < length bytes)
join-more [] zero h = absurd (cc)
join-more [] (suc at) h = absurd (cc)
join-more (b ∷ bs) zero h = (rw h refl, omega arith)
join-more (b ∷ bs) (suc at) h =
    let more = join-more bs at h in
    let same : suc at + 1 ≡ suc (at + 1) = omega arith in (ap (λ n. past_joins (drop n (b ∷ bs))) same ∙ more.0, omega arith)

-- ---- places

pub later-add : (a m n : ℕ) → later (a + m) (a + n) ≡ a + later m n
later-add a m n = grind (arith, nat_tests)

front-empty : (start : ℕ) (front : List ℕ) → (start + length front == start) ≡ is_empty front
front-empty start [] = grind (arith, nat_tests)
front-empty start (c ∷ front) = grind (arith, nat_tests)

-- ---- a group that is a pair

pub pair-places : (v : OpenView) (places : PartPlaces) → ArePlaces v places → IsAnyPair (viewed_line v)
    → (key : List ℕ) × (value : List ℕ) × AreOfPair v key value places
pair-places v places (blank, d) (k, w, p) = let same = split-unique (viewed_line v) blank (pair k w) d.0 p in absurd (cc)
pair-places v places (comment text, d) (k, w, p) = let same = split-unique (viewed_line v) (comment text) (pair k w) d.is_comment p in absurd (cc)
pair-places v places (pair key value, d) p = (key, value, d)

-- ---- copies of the source

pub copied-more : (c : Copied) (place n : ℕ) → c.done ≤ place → copied_to c (place + n) ≡ copied_to c place ++ take n (drop place c.source.now)
copied-more c place n h =
    let s = c.source.now in
    let count : place + n - c.done ≡ (place - c.done) + n = omega arith in
    let at : c.done + (place - c.done) ≡ place = omega arith in
    let rest : drop (place - c.done) (drop c.done s) ≡ drop place s = drop-drop (place - c.done) c.done s ∙ ap (λ k. drop k s) at in
    ap (λ v. c.bytes.items ++ v)
    (ap (λ k. take k (drop c.done s)) count ∙ take-add (place - c.done) n (drop c.done s) ∙ ap (λ v. take (place - c.done) (drop c.done s) ++ take n v) rest)
    ∙ sym (append_assoc c.bytes.items (take (place - c.done) (drop c.done s)) (take n (drop place s)))

-- the source from a group on begins with the group
slice-front : (v : OpenView) (s : List ℕ) → IsSlice v s
    → drop v.start s ≡ group_bytes v.group ++ drop (length (group_bytes v.group)) (drop v.start s)
slice-front v s h =
    let size = length (group_bytes v.group) in
    sym (take-append-drop size (drop v.start s)) ∙ ap (λ w. w ++ drop size (drop v.start s)) h.bytes

-- A group is copied as it stands.
pub copied-group : (v : OpenView) (c : Copied) → IsSlice v c.source.now → c.done ≤ v.start
    → copied_to c (v.start + length (group_bytes v.group)) ≡ copied_to c v.start ++ group_bytes v.group
copied-group v c h k = copied-more c v.start (length (group_bytes v.group)) k ∙ ap (λ w. copied_to c v.start ++ w) h.bytes

-- Another key is put in.
pub rekeyed-in : (characters : Characters) (v : OpenView) (old new : Copied) (key : NewKey) (places : PartPlaces) (name value text : List ℕ) (n : ℕ)
    (first : Bool)
    → (let t : Repertoire = record { encoding = v.encoding; characters = characters } in
    IsSlice v old.source.now → old.done ≤ v.start → (at : AreOfPair v name value places)
    → IsPlaced v.encoding v.group at.is_pair.indent name n (size_before at.key_end.0)
    → first ≡ (key.first && (v.start + n == v.start))
    → text ≡ encoded_text t.encoding (key_text t first (between_in (viewed_line v)) (chars key.text.now))
    → IsReplacedIn old (v.start + n) (later (v.start + n) places.key_end) text new → IsRekeyedIn t v old key new)
rekeyed-in characters v old new key places name value text n first slice done at k is_first printed replaced =
    let t : Repertoire = record { encoding = v.encoding; characters = characters } in
    let gb = group_bytes v.group in
    let s = old.source.now in
    let m = length (k.front ++ k.old) in
    let end : later (v.start + n) places.key_end ≡ v.start + m =
    ap (later (v.start + n)) at.key_end.1 ∙ later-add v.start n (size_before at.key_end.0) ∙ ap (λ w. v.start + w) k.end in
    let whole : gb ≡ (k.front ++ k.old) ++ k.back = k.whole ∙ sym (append_assoc k.front k.old k.back) in
    let sizes : length gb ≡ m + length k.back = ap length whole ∙ length-append (k.front ++ k.old) k.back in
    let after = drop (length gb) (drop v.start s) in
    let source : drop v.start s ≡ gb ++ after = slice-front v s slice in
    let front : take n (drop v.start s) ≡ k.front =
    ap₂ take k.start (source ∙ ap (λ w. w ++ after) k.whole ∙ append_assoc k.front (k.old ++ k.back) after) ∙ take-append_seam k.front ((k.old ++ k.back) ++ after) in
    let count : v.start + length gb - (v.start + m) ≡ length k.back = omega arith in
    let back : take (v.start + length gb - (v.start + m)) (drop (v.start + m) s) ≡ k.back =
    ap₂ take count
    (sym (drop-drop m v.start s)
    ∙ ap (drop m) (source ∙ ap (λ w. w ++ after) whole ∙ append_assoc (k.front ++ k.old) k.back after)
    ∙ drop-append_seam (k.front ++ k.old) (k.back ++ after))
    ∙ take-append_seam k.back after in
    let key_bytes : text ≡ encoded_text t.encoding (key_text t (key.first && is_empty k.front) at.is_pair.between (chars key.text.now)) =
    printed
    ∙ ap₂ (λ f b. encoded_text t.encoding (key_text t f b (chars key.text.now)))
    (is_first ∙ ap (λ b. key.first && b) (ap (λ w. v.start + w == v.start) k.start ∙ front-empty v.start k.front))
    (between_in-pair (viewed_line v) name value at.is_pair) in
    let bytes : copied_to new (v.start + length gb) ≡ (copied_to old (v.start + n) ++ text) ++ k.back =
    ap₂ (λ d r. new.bytes.items ++ take (v.start + length gb - d) (drop d r)) (replaced.done ∙ end) replaced.source_is
    ∙ ap₂ (λ a b. a ++ b) replaced.bytes_are back in
    let began : copied_to old (v.start + n) ≡ copied_to old v.start ++ k.front =
    copied-more old v.start n done ∙ ap (λ w. copied_to old v.start ++ w) front in
    record {
      made = k.front ++ (text ++ k.back);
      rekeyed = record {
        key = name;
        value = value;
        is_pair = at.is_pair;
        front = k.front;
        old = k.old;
        back = k.back;
        whole = k.whole;
        before = k.before;
        through = k.through;
        bytes_are = ap (λ a. k.front ++ (a ++ k.back)) key_bytes;
      };
      copied = bytes
          ∙ ap (λ w. (w ++ text) ++ k.back) began
          ∙ simp (append_assoc);
      done = let d = replaced.done ∙ end in omega arith;
      source_is = replaced.source_is;
    }

-- ---- group after group

pub none-append : (key : List ℕ) (gs : List (List HeldLine)) (g : List HeldLine) → NoneHasKey key gs → ¬ (HasKey key g) → NoneHasKey key (gs ++ g ∷ [])
none-append key [] g h k = (k, tt)
none-append key (f ∷ gs) g h k = (h.0, none-append key gs g h.1 k)

pub none-at : (key : List ℕ) (gs : List (List HeldLine)) (g : List HeldLine) (hs : List (List HeldLine)) → NoneHasKey key (gs ++ g ∷ hs) → ¬ (HasKey key g)
none-at key [] g hs h = h.0
none-at key (f ∷ gs) g hs h = none-at key gs g hs h.1

pub held-push : (gs : List (List HeldLine)) (g : List HeldLine) → length (held_in (gs ++ g ∷ [])) ≡ length (held_in gs) + length g
held-push [] g = let same : length g ≡ 0 + length g = omega arith in ap length (append-nil g) ∙ same
held-push (f ∷ gs) g =
    let more = held-push gs g in
    let a = length-append f (held_in (gs ++ g ∷ [])) in
    let b = length-append f (held_in gs) in
    omega arith

-- A group with bytes is one of all groups.
none-among : (before : List (List HeldLine)) (g : List HeldLine) (after : List (List HeldLine)) → [] ≡ before ++ g ∷ after → ⊥
none-among [] g after h = cc
none-among (f ∷ before) g after h = cc

pub bytes-front : (all before : List (List HeldLine)) (g : List HeldLine) (after : List (List HeldLine)) → with_bytes all ≡ before ++ g ∷ after
    → (more : List (List HeldLine)) × (all ≡ before ++ g ∷ more)
bytes-front [] before g after h = absurd (none-among before g after h)
bytes-front (f ∷ []) before g after h = elim (cases_Bool (is_empty (group_bytes f))) [
  | inl k ↦
      let none : with_bytes (f ∷ []) ≡ [] = rw k refl in
      absurd (none-among before g after (sym none ∙ h))
  | inr k ↦
      let one : with_bytes (f ∷ []) ≡ f ∷ [] = rw k refl in
      (after, sym one ∙ h)
]
bytes-front (f ∷ i ∷ all) [] g after h = let t : f ≡ g = cc in (i ∷ all, ap (λ w. w ∷ i ∷ all) t)
bytes-front (f ∷ i ∷ all) (d ∷ before) g after h =
    let t : f ≡ d = cc in
    let m = bytes-front (i ∷ all) before g after (cc) in
    (m.0, ap₂ (λ v w. v ∷ w) t m.1)

-- What was copied of the groups that a view gave so far, given what is made of a group.
pub record IsUpTo (Makes : Bool → List HeldLine → List ℕ → Type 0) (source : List ℕ) (v now : OpenView) (c : Copied) (first : Bool) : Type 0 where
  pub passed : List (List HeldLine)
  pub division : v.to_come ≡ passed ++ now.to_come
  pub rest : groups_bytes now.to_come ≡ drop (past_group now).start source
  pub within : (past_group now).start ≤ length source
  pub number : (past_group now).passed ≡ length (held_in passed)
  pub encoding : now.encoding ≡ v.encoding
  pub source_is : c.source.now ≡ source
  pub done : c.done ≤ (past_group now).start
  pub made : List ℕ
  pub copied : copied_to c (past_group now).start ≡ take v.start source ++ made
  pub goes_on : (more : List ℕ) → AreMade Makes first now.to_come more → AreMade Makes true v.to_come (made ++ more)

module _ {Makes : Bool → List HeldLine → List ℕ → Type 0} {source : List ℕ} {v : OpenView} where
  -- the next group is one of the groups of the source, and a slice of it
  pub next-among : {requested : Encoding} {now next : OpenView} {c : Copied} {first : Bool} → IsViewOf requested source v
      → IsUpTo Makes source v now c first → (group : ViewedGroup) → TakesNext now group next → IsAmong next.encoding next.group
  next-among {now = now} {next = next} o h group t =
      let encoding : next.encoding ≡ v.encoding = ap (λ w. let o : OpenView = w in o.encoding) t.moves ∙ h.encoding in
      let m = bytes-front o.given.all h.passed next.group next.to_come (sym o.given.are ∙ h.division ∙ ap (λ w. h.passed ++ w) t.takes) in
      subst (λ e. IsAmong e next.group) (sym encoding)
      (record { editable = o.editable; body = drop v.start source; groups = o.given.all; are = o.given.division; before = h.passed; after = m.0; division = m.1 })

  pub next-slice : {now next : OpenView} {c : Copied} {first : Bool} → IsUpTo Makes source v now c first → (group : List HeldLine)
      → now.to_come ≡ next.group ∷ next.to_come → next.start ≡ (past_group now).start → IsSlice next c.source.now
  next-slice {now} {next} {c} h group takes start =
      let gb = group_bytes next.group in
      let s = c.source.now in
      let whole : drop next.start s ≡ gb ++ groups_bytes next.to_come =
      ap₂ drop start h.source_is ∙ sym h.rest ∙ ap groups_bytes takes in
      let sizes : length (drop next.start s) ≡ length gb + length (groups_bytes next.to_come) =
      ap length whole ∙ length-append gb (groups_bytes next.to_come) in
      let left = length-drop next.start s in
      let all : length s ≡ length source = ap length h.source_is in
      let within = h.within in
      record {
        bytes = ap (take (length gb)) whole ∙ take-append_seam gb (groups_bytes next.to_come);
        within = omega arith;
      }

  -- Another group was copied, as it stands or with another key.
  pub next-up : {now next : OpenView} {c c' : Copied} {first : Bool} (group : ViewedGroup) (made : List ℕ)
      → (h : IsUpTo Makes source v now c first) → TakesNext now group next → c'.source.now ≡ c.source.now
      → c'.done ≤ next.start + length (group_bytes next.group)
      → copied_to c' (next.start + length (group_bytes next.group)) ≡ copied_to c next.start ++ made
      → Makes first next.group made
      → (up : IsUpTo Makes source v next c' false) × (up.passed ≡ h.passed ++ next.group ∷ [])
  next-up {now} {next} {c} {c'} {first = first} group made h t same done copied step =
      let gb = group_bytes next.group in
      let start : next.start ≡ (past_group now).start = ap (λ w. let o : OpenView = w in o.start) t.moves in
      let passed : next.passed ≡ (past_group now).passed = ap (λ w. let o : OpenView = w in o.passed) t.moves in
      let encoding : next.encoding ≡ v.encoding = ap (λ w. let o : OpenView = w in o.encoding) t.moves ∙ h.encoding in
      let slice = next-slice {next = next} h next.group t.takes start in
      let all : length c.source.now ≡ length source = ap length h.source_is in
      let whole : drop next.start source ≡ gb ++ groups_bytes next.to_come = ap (λ k. drop k source) start ∙ sym h.rest ∙ ap groups_bytes t.takes in
      let counted = held-push h.passed next.group in
      let numbers = h.number in
      let within = slice.within in (
        record {
          passed = h.passed ++ next.group ∷ [];
          division = h.division ∙ ap (λ w. h.passed ++ w) t.takes ∙ sym (append_assoc h.passed (next.group ∷ []) next.to_come);
          rest = sym (sym (drop-drop (length gb) next.start source) ∙ ap (drop (length gb)) whole ∙ drop-append_seam gb (groups_bytes next.to_come));
          within = omega arith;
          number = omega arith;
          encoding = encoding;
          source_is = same ∙ h.source_is;
          done = done;
          made = h.made ++ made;
          copied = copied ∙ ap (λ w. w ++ made) (ap (copied_to c) start ∙ h.copied) ∙ append_assoc (take v.start source) h.made made;
          goes_on = λ more k.
              subst (AreMade Makes true v.to_come) (sym (append_assoc h.made made more))
              (h.goes_on (made ++ more) (subst (λ w. AreMade Makes first w (made ++ more)) (sym t.takes) (made, more, step, refl, k)));
        },
        refl,
      )

  -- Nothing was copied yet,
  pub none-yet : {requested : Encoding} {c : Copied} → IsViewOf requested source v → IsNew source c
      → (up : IsUpTo Makes source v v c true) × (up.passed ≡ [])
  none-yet {c = c} h k =
      let none : length (group_bytes v.group) ≡ 0 = ap (λ g. length (group_bytes g)) h.none_given in
      let place : (past_group v).start ≡ v.start = omega arith in
      let none_given : length v.group ≡ 0 = ap length h.none_given in
      let none_passed = h.none_passed in
      let within = h.within in
      let zero_off : v.start - 0 ≡ v.start = omega arith in (
        record {
          passed = [];
          division = refl;
          rest = h.given.together ∙ ap (λ n. drop n source) (sym place);
          within = omega arith;
          number = omega arith;
          encoding = refl;
          source_is = k.source_is;
          done = let d = k.done in omega arith;
          made = [];
          copied = ap₂ (λ b s. b ++ take ((past_group v).start - c.done) (drop c.done s)) k.nothing k.source_is
              ∙ ap₂ (λ n d. take (n - d) (drop d source)) place k.done
              ∙ ap (λ n. take n source) zero_off
              ∙ sym (append-nil (take v.start source));
          goes_on = λ more k. k;
        },
        refl,
      )

-- The mark comes before the first group.
pub mark-front : {e : Encoding} {source : List ℕ} {v : OpenView} → IsViewOf e source v → bom_of source ≡ take v.start source
mark-front {e} {source} {v} h =
    let body = drop v.start source in
    let whole : source ≡ bom_of source ++ body = source-whole e source ∙ ap (λ w. let f : InForce = w in bom_of source ++ f.body) h.in_force in
    let sizes : length source ≡ length (bom_of source) + length body = ap length whole ∙ length-append (bom_of source) body in
    let left = length-drop v.start source in
    let within = h.within in
    let n : v.start ≡ length (bom_of source) = omega arith in
    sym (ap₂ take n whole ∙ take-append_seam (bom_of source) body)

-- All groups were copied.
pub record AreAllMade (Makes : Bool → List HeldLine → List ℕ → Type 0) (e : Encoding) (source bytes : List ℕ) (groups : List (List HeldLine)) : Type 0 where
  pub held : AreIn e source groups
  pub body : List ℕ
  pub made : AreMade Makes true groups body
  pub whole : bytes ≡ bom_of source ++ body

pub all-up : {Makes : Bool → List HeldLine → List ℕ → Type 0} {e : Encoding} {source : List ℕ} {v now : OpenView} {c : Copied} {first : Bool} (bytes : List ℕ)
    → IsViewOf e source v → (h : IsUpTo Makes source v now c first) → now.to_come ≡ [] → bytes ≡ copied_to c (length c.source.now)
    → AreAllMade Makes e source bytes h.passed
all-up {Makes} {e} {source} {v} {now} {c} {first} bytes o h none is =
    let left : drop (past_group now).start source ≡ [] = sym h.rest ∙ ap groups_bytes none in
    let sizes : length source - (past_group now).start ≡ 0 = sym (length-drop (past_group now).start source) ∙ ap length left in
    let within = h.within in
    let place : length c.source.now ≡ (past_group now).start = ap length h.source_is ∙ omega arith in
    let all : v.to_come ≡ h.passed = h.division ∙ ap (λ w. h.passed ++ w) none ∙ append-nil h.passed in
    record {
      held =
          subst (AreIn e source) all
          (subst (λ w. let f : InForce = w in AreGiven f.encoding f.body v.to_come) (sym o.in_force) o.given);
      body = h.made;
      made =
          subst (λ gs. AreMade Makes true gs h.made) all
          (subst (AreMade Makes true v.to_come) (append-nil h.made)
          (h.goes_on [] (subst (λ gs. AreMade Makes first gs []) (sym none) refl)));
      whole = is ∙ ap (copied_to c) place ∙ h.copied ∙ ap (λ w. w ++ h.made) (sym (mark-front o));
    }

-- the repertoire of a view, with these characters
abbrev pub viewed : Characters → OpenView → Repertoire
viewed characters v = record { encoding = v.encoding; characters = characters }

-- It is that in force.
pub viewed-force : {r : Repertoire} {source : List ℕ} {v : OpenView} → IsViewOf r.encoding source v → viewed r.characters v ≡ repertoire_in_force r source
viewed-force {r} {source} {v} o = sym (ap (λ w. let f : InForce = w in in_encoding r f.encoding) o.in_force)

-- ---- which key a logical line has

abbrev pub first-of : List ℕ × List ℕ → Option (List ℕ × List ℕ) → List ℕ
first-of p None = p.0
first-of p (Some q) = q.0

-- ---- the result

pub edited-editable : (r : Repertoire) (source : List ℕ) (bytes : Vec ℕ) (comments : Comments) → MakesEditsFor comments r source [] (Ok bytes)
    → is_editable (byte_order_mark r.encoding source).encoding ≡ true
edited-editable r source bytes Read h = h.edit.result.0
edited-editable r source bytes PassedOver h = h.result.0

-- ---- what is printed

sign-printed : (e : Encoding) → encoded_text e (equals_sign ∷ []) ≡ equals_sign ∷ []
sign-printed e = ap (λ o. unwrap_or o [] ++ []) (encoded-ascii e equals_sign (lit< tt))

pub prints-keys : {t : Repertoire} {r : code.Repertoire} → PrintsIn t r
    → ((text : List ℕ) → text_bytes r Prefix text ≡ encoded_text t.encoding (printed_characters t in_prefix text)) → PrintsKeys t r
prints-keys {t} h comments = record { keys = h.keys; comments = comments; sign = sign-printed t.encoding }

-- In ASCII alone, the text of a comment has the same bytes in each encoding;
pub comments-ascii : (e : Encoding) (text : List ℕ) → text_bytes Ascii Prefix text ≡ encoded_text e (printed_characters (ascii_in e) in_prefix text)
comments-ascii e text = encoded-same utf_8 e _ _ (printed_characters-ascii utf_8 in_prefix text) (printed_characters-same utf_8 e in_prefix text)

-- and what is read alike in ISO 8859-1 is ASCII, but in windows-1252.
comments-utf_8 : (text : List ℕ) → text_bytes Ascii Prefix text ≡ encoded_text utf_8 (printed_characters (latin_1_in utf_8) in_prefix text)
comments-utf_8 text = ap (encoded_text utf_8) (printed_characters-alike (ascii_in utf_8) (latin_1_in utf_8) (λ c. refl) in_prefix text)

pub comments-latin_1 : (e : asked.Encoding) → (e ≡ WINDOWS_1252 → ⊥) → (text : List ℕ)
    → text_bytes Ascii Prefix text
    ≡ encoded_text (output_encoding (encoding_of e)) (printed_characters (latin_1_in (output_encoding (encoding_of e))) in_prefix text)
comments-latin_1 WINDOWS_1252 other text = absurd (other refl)
comments-latin_1 UTF_8 other text = comments-utf_8 text
comments-latin_1 UTF_16LE other text = comments-utf_8 text
comments-latin_1 UTF_16BE other text = comments-utf_8 text

pub prints-same : {t : Repertoire} {r : code.Repertoire} → in_format r ≡ t → PrintsKeys t r
prints-same {t} {r} h = record {
  keys = λ first key. ap (λ w. let m : Repertoire = w in encoded_text m.encoding (printed_key m first key)) h;
  comments = λ text. ap (λ w. let m : Repertoire = w in encoded_text m.encoding (printed_characters m in_prefix text)) h;
  sign = sign-printed t.encoding;
}

-- a text with characters is printed as a key
pub key-some : (t : Repertoire) (first : Bool) (between key : List ℕ) → key ≢ [] → key_text t first between key ≡ printed_key t first key
key-some t first between [] some = absurd (some refl)
key-some t first between (c ∷ cs) some = refl

-- what is put in for an empty key
pub key-signed : (t : Repertoire) (first : Bool) (between key : List ℕ) → key ≡ [] → is_blanks between ≡ false
    → encoded_text t.encoding (key_text t first between key) ≡ []
key-signed t first between key none h = ap (λ k. encoded_text t.encoding (key_text t first between k)) none ∙ rw h refl

pub key-unsigned : (t : Repertoire) (first : Bool) (between key : List ℕ) → key ≡ [] → is_blanks between ≡ true
    → encoded_text t.encoding (key_text t first between key) ≡ equals_sign ∷ []
key-unsigned t first between key none h = ap (λ k. encoded_text t.encoding (key_text t first between k)) none ∙ rw h (sign-printed t.encoding)

-- ---- what separates key and value

pub sign-told : (line : List ℕ) (span : Span) → IsBetweenAt line span → IsAnyPair (chars line) → between_in (chars line) ≡ chars (bytes_in line span)
sign-told line span at (key, value, p) =
    ap (λ o. unwrap_or o []) (ap (λ w. between_if_pair w (chars line)) (split_of-only (chars line) (pair key value) p) ∙ at.of_pair)

pub comment-pair : (x text : List ℕ) → IsSplit x (comment text) → IsAnyPair x → ⊥
comment-pair x text h (key, value, p) = let same = split-unique x (comment text) (pair key value) h p in cc

pub blank-pair : (x : List ℕ) → IsSplit x blank → IsAnyPair x → ⊥
blank-pair x h (key, value, p) = let same = split-unique x blank (pair key value) h p in cc

pub not-true : (b : Bool) → true ≡ not b → b ≡ false
not-true true h = absurd (cc)
not-true false h = refl

pub not-false : (b : Bool) → false ≡ not b → b ≡ true
not-false true h = refl
not-false false h = absurd (cc)

pub and-true : (a b : Bool) → a ≡ true → (a && b) ≡ b
and-true a b h = rw h refl

pub key-printed : (t : Repertoire) (r : code.Repertoire) (first : Bool) (between key old new : List ℕ) → PrintsKeys t r → key ≢ []
    → new ≡ old ++ (key_bytes r first key ++ ([] ++ (puts_of r (chars []) ++ [])))
    → new ≡ old ++ encoded_text t.encoding (key_text t first between key)
key-printed t r first between key old new prints some h =
    let tail : key_bytes r first key ++ ([] ++ (puts_of r (chars []) ++ [])) ≡ key_bytes r first key =
    ap (λ w. key_bytes r first key ++ (puts_of r w ++ [])) chars-nil ∙ append-nil (key_bytes r first key) in
    h ∙ ap (λ w. old ++ w) (tail ∙ prints.keys first key ∙ ap (encoded_text t.encoding) (sym (key-some t first between key some)))

-- in the encoding of a view
pub prints-next : (r : Repertoire) (rep : code.Repertoire) (e f g : Encoding) → e ≡ f → is_editable f ≡ true → g ≡ f
    → PrintsKeys (in_encoding r (output_encoding e)) rep → PrintsKeys (record { encoding = g; characters = r.characters }) rep
prints-next r rep e f g h ok k prints =
    subst (λ x. PrintsKeys (in_encoding r x) rep) (ap output_encoding h ∙ editable-own f ok ∙ sym k) prints

pub none-left : (old new : OpenView) (answer : Option ViewedGroup) → GivesNext {E = ℕ} old (Ok answer) new
    → ((group : ViewedGroup) → answer ≡ Some group → ⊥) → old.to_come ≡ []
none-left old new None h none = h.0
none-left old new (Some group) h none = absurd (none group refl)

pub same-key : (old new : List ℕ) → bytes_eq old new ≡ true → old ≡ new
same-key old new h = (bytes_eq-Decides old new).0 h

pub other-key : (old new : List ℕ) → bytes_eq old new ≡ false → old ≢ new
other-key old new h same = let t = (bytes_eq-Decides old new).1 same in cc

-- ---- what stays

alike-behind : {r : Repertoire} {key old new : List ℕ} (x : List ℕ) → AreAlike r key old new → AreAlike r key (x ++ old) (x ++ new)
alike-behind {r} {key} {old} {new} x h = by h.parts h.printed h.old_is h.new_is
  where
    by : (parts : List Replaced) → ArePrinted r key parts → old ≡ with_old parts h.last → new ≡ with_new parts h.last → AreAlike r key (x ++ old) (x ++ new)
    by [] printed o n = record { parts = []; last = x ++ h.last; printed = tt; old_is = ap (λ w. x ++ w) o; new_is = ap (λ w. x ++ w) n }
    by (p ∷ ps) printed o n = record {
      parts = record { kept = x ++ p.kept; old = p.old; new = p.new } ∷ ps;
      last = h.last;
      printed = printed;
      old_is = ap (λ w. x ++ w) o ∙ sym (append_assoc x p.kept (p.old ++ with_old ps h.last));
      new_is = ap (λ w. x ++ w) n ∙ sym (append_assoc x p.kept (p.new ++ with_new ps h.last));
    }

pub renamed-alike : (r : Repertoire) (old key : List ℕ) (first : Bool) (gs : List (List HeldLine)) (bytes : List ℕ) → AreRekeyed r old key first gs bytes
    → AreAlike r key (groups_bytes gs) bytes
renamed-alike r old key first [] bytes h = record { parts = []; last = []; printed = tt; old_is = refl; new_is = h }
renamed-alike r old key first (g ∷ gs) bytes (made, more, inr other, is, rest) =
    subst (AreAlike r key (groups_bytes (g ∷ gs))) (sym (is ∙ ap (λ w. w ++ more) other.1))
    (alike-behind (group_bytes g) (renamed-alike r old key false gs more rest))
renamed-alike r old key first (g ∷ gs) bytes (made, more, inl has, is, rest) =
    let k = has.1 in
    let text = encoded_text r.encoding (key_text r (first && is_empty k.front) k.is_pair.between key) in
    let behind = alike-behind k.back (renamed-alike r old key false gs more rest) in
    record {
      parts = record { kept = k.front; old = k.old; new = text } ∷ behind.parts;
      last = behind.last;
      printed = ((first && is_empty k.front, k.is_pair.between, refl), behind.printed);
      old_is = ap (λ w. w ++ groups_bytes gs) k.whole
          ∙ append_assoc k.front (k.old ++ k.back) (groups_bytes gs)
          ∙ ap (λ w. k.front ++ w) (append_assoc k.old k.back (groups_bytes gs) ∙ ap (λ w. k.old ++ w) behind.old_is);
      new_is = is
          ∙ ap (λ w. w ++ more) k.bytes_are
          ∙ append_assoc k.front (text ++ k.back) more
          ∙ ap (λ w. k.front ++ w) (append_assoc text k.back more ∙ ap (λ w. text ++ w) behind.new_is);
    }

pub source-alike : (r : Repertoire) (source old new result : List ℕ) → IsRenamed r source old new result → AreAlike (repertoire_in_force r source) new source result
source-alike r source old new result h =
    let body = renamed-alike (repertoire_in_force r source) old new true h.groups h.body h.renamed in
    let alike = alike-behind (bom_of source) body in
    subst (λ w. AreAlike (repertoire_in_force r source) new w result) (ap (λ w. bom_of source ++ w) h.held.together ∙ sym (source-whole r.encoding source))
    (subst (AreAlike (repertoire_in_force r source) new (bom_of source ++ groups_bytes h.groups)) (sym h.whole) alike)

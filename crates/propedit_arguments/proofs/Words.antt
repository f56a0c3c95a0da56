-- The arguments of edits, one edit after another.
use Rattle.std.proofs.Common.{◌≡◌, ◌≢◌, ◌≤◌, ◌<◌, ◌-◌, ◌==◌, true, false, ℕ, List, [], ◌∷◌, ◌++◌, length, get_or, take, drop, map}
use Rattle.std.proofs.Common.{refl, ap, sym, subst, ◌∙◌, append_assoc, append-nil, arith, true≢false, eqb-true}
use Rattle.std.specs.{Prelude.codes, Prelude.string_bytes, declared.string.String.String, List.list_any}
use Rattle.std.proofs.lemmas.Grind.{common_steps}
use Rattle.std.proofs.lemmas.List.{length-append, length-map, map-append, nil_from_length}
use Rattle.propedit_arguments.specs.Private.Edits.{Edit, Meant, set, remove, rename, set_comment, Form, plain, literal, text_words, WrittenEdit, MayBegin, MayBeWritten, IsAssignment}
use Rattle.propedit_arguments.specs.Private.Edits.{asked_edit, asked_edits, meant_edit, edit_words, written_words, IsMistakeAt, no_edit, no_key, no_value, no_new_key, no_text}
use Rattle.propedit_arguments.specs.Private.Edits.{AreWrong, assignments, is_odd, is_sign, odd_key, odd_name}
use Rattle.propedit_arguments.proofs.Assignments.{has-sign}
use Rattle.propedit_arguments.specs.{declared.edits.AskedEdit.AskedEdit, declared.mistake.Mistake.Mistake}

-- the arguments of one edit more
words-more : (ws : List WrittenEdit) (w : WrittenEdit) → written_words (ws ++ (w ∷ [])) ≡ written_words ws ++ edit_words w.form w.edit
words-more [] w = append-nil (edit_words w.form w.edit)
words-more (v ∷ vs) w =
    ap (λ u. edit_words v.form v.edit ++ u) (words-more vs w) ∙ sym (append_assoc (edit_words v.form v.edit) (written_words vs) (edit_words w.form w.edit))

-- the first argument, if there is one
first-word : List (List ℕ) → List ℕ
first-word [] = []
first-word (w ∷ ws) = w

-- Two commands begin alike, and are two.
two-commands : codes "remove" ≡ codes "rename" → ⊥
two-commands e = true≢false (ap (list_any (λ c. c == 0x76)) e)

-- So do these.
set-commands : codes "set" ≡ codes "set-comment" → ⊥
set-commands e = true≢false (sym (ap (list_any (λ c. c == 0x2D)) e))

-- what comes after the arguments of an edit, which only one edit has
same-rest : (f g : Form) (e d : Edit) (a b : List (List ℕ)) → MayBeWritten f e → MayBeWritten g d → edit_words f e ++ a ≡ edit_words g d ++ b → a ≡ b
unfolding first-word
same-rest plain plain (set k v) (set l w) a b p q e = cc
same-rest plain literal (set k v) (set l w) a b p q e = absurd (p.0 (cc))
same-rest literal plain (set k v) (set l w) a b p q e = absurd (q.0 (cc))
same-rest literal literal (set k v) (set l w) a b p q e = cc
same-rest f g (set k v) (remove l) a b p q e = absurd (cc)
same-rest f g (set k v) (rename l w) a b p q e = absurd (cc)
same-rest f g (set k v) (set_comment l w) a b p q e = absurd (set-commands (ap first-word e))
same-rest f g (remove k) (set l w) a b p q e = absurd (cc)
same-rest plain plain (remove k) (remove l) a b p q e = cc
same-rest plain literal (remove k) (remove l) a b p q e = absurd (p (cc))
same-rest literal plain (remove k) (remove l) a b p q e = absurd (q (cc))
same-rest literal literal (remove k) (remove l) a b p q e = cc
same-rest f g (remove k) (rename l w) a b p q e = absurd (two-commands (ap first-word e))
same-rest f g (remove k) (set_comment l w) a b p q e = absurd (cc)
same-rest f g (rename k v) (set l w) a b p q e = absurd (cc)
same-rest f g (rename k v) (remove l) a b p q e = absurd (two-commands (sym (ap first-word e)))
same-rest plain plain (rename k v) (rename l w) a b p q e = cc
same-rest plain literal (rename k v) (rename l w) a b p q e = absurd (p.0 (cc))
same-rest literal plain (rename k v) (rename l w) a b p q e = absurd (q.0 (cc))
same-rest literal literal (rename k v) (rename l w) a b p q e = cc
same-rest f g (rename k v) (set_comment l w) a b p q e = absurd (cc)
same-rest f g (set_comment k v) (set l w) a b p q e = absurd (set-commands (sym (ap first-word e)))
same-rest f g (set_comment k v) (remove l) a b p q e = absurd (cc)
same-rest f g (set_comment k v) (rename l w) a b p q e = absurd (cc)
same-rest plain plain (set_comment k v) (set_comment l w) a b p q e = cc
same-rest plain literal (set_comment k v) (set_comment l w) a b p q e = absurd (p (cc))
same-rest literal plain (set_comment k v) (set_comment l w) a b p q e = absurd (q (cc))
same-rest literal literal (set_comment k v) (set_comment l w) a b p q e = cc

-- an edit has at least one argument
no-none : (f : Form) (e : Edit) (a : List (List ℕ)) → edit_words f e ++ a ≢ []
no-none f e a h = cc

-- if all arguments are those of edits, so are those after some edits
rest-of : (done all : List WrittenEdit) (rest : List (List ℕ)) → written_words all ≡ written_words done ++ rest → (others : List WrittenEdit) × (rest ≡ written_words others)
rest-of [] all rest e = (all, sym e)
rest-of (w ∷ done) [] rest e = absurd (no-none w.form w.edit (written_words done ++ rest) (sym (e ∙ append_assoc (edit_words w.form w.edit) (written_words done) rest)))
rest-of (w ∷ done) (v ∷ all) rest e =
    rest-of done all rest (same-rest v.form w.form v.edit w.edit (written_words all) (written_words done ++ rest) v.may w.may
    (e ∙ append_assoc (edit_words w.form w.edit) (written_words done) rest))

-- ---- the front of some texts

module _ {Z : Type 0} where
  pub none : (texts : List (String Z)) → length texts < 1 → texts ≡ []
  none [] few = refl
  none (a ∷ texts) few = absurd (omega arith)

  pub alone : (texts : List (String Z)) (text other : String Z) → 1 ≤ length texts → length texts < 2 → text ≡ get_or texts 0 other → texts ≡ text ∷ []
  alone [] text other some few is = absurd (omega arith)
  alone (a ∷ []) text other some few is = ap (λ v. v ∷ []) (sym is)
  alone (a ∷ b ∷ texts) text other some few is = absurd (omega arith)

  pub first : (texts : List (String Z)) (text other : String Z) → 1 ≤ length texts → text ≡ get_or texts 0 other
      → texts ≡ text ∷ take (length texts - 1) (drop 1 texts)
  first [] text other some is = absurd (omega arith)
  first (a ∷ texts) text other some is = grind (arith, common_steps)

  pub first-two : (texts : List (String Z)) (text next other another : String Z) → 2 ≤ length texts → text ≡ get_or texts 0 other
      → next ≡ get_or texts 1 another → texts ≡ text ∷ (next ∷ take (length texts - 2) (drop 2 texts))
  first-two [] text next other another some is at = absurd (omega arith)
  first-two (a ∷ []) text next other another some is at = absurd (omega arith)
  first-two (a ∷ b ∷ texts) text next other another some is at = grind (arith, common_steps)

  -- the same of arguments, of which two are borrowed
  pub two-words : (texts : List (String Z)) (text next other another : String Z) (a b : List ℕ) → 2 ≤ length texts → text ≡ get_or texts 0 other
      → next ≡ get_or texts 1 another → a ≡ string_bytes text → b ≡ string_bytes next
      → map string_bytes texts ≡ a ∷ (b ∷ map string_bytes (take (length texts - 2) (drop 2 texts)))
  two-words texts text next other another a b some is at one two =
      let others = map string_bytes (take (length texts - 2) (drop 2 texts)) in
      ap (map string_bytes) (first-two texts text next other another some is at) ∙ ap (λ v. v ∷ (string_bytes next ∷ others)) (sym one)
      ∙ ap (λ v. a ∷ (v ∷ others)) (sym two)

-- The arguments begin with a setting, if no slip is at their front.
pub takes-set : (form : Form) (words texts : List (List ℕ)) (key value : List ℕ) (others : List (List ℕ)) → words ≡ text_words form texts
    → MayBegin form texts → texts ≡ key ∷ (value ∷ others)
    → ((k v : List ℕ) (o : List (List ℕ)) → words ≡ k ∷ (v ∷ o) → (IsAssignment k → IsAssignment v → ⊥) × (is_odd k ≡ false))
    → (x : Form) × MayBeWritten x (set key value) × (codes "set" ∷ words ≡ edit_words x (set key value) ++ others)
takes-set plain words texts key value others is may front refuses =
    let sound = refuses key value others (is ∙ front) in
    (plain, ((λ e. may (value ∷ others) (front ∙ ap (λ k. k ∷ (value ∷ others)) e)), sound.0, sound.1), ap (λ v. codes "set" ∷ v) (is ∙ front))
takes-set literal words texts key value others is may front refuses =
    (literal, tt, ap (λ v. codes "set" ∷ v) (is ∙ ap (λ v. codes "--" ∷ v) front))

-- They begin with a renaming, if the new name isn't odd.
pub takes-renaming : (form : Form) (words texts : List (List ℕ)) (old new : List ℕ) (others : List (List ℕ)) → words ≡ text_words form texts
    → MayBegin form texts → texts ≡ old ∷ (new ∷ others)
    → ((a b : List ℕ) (o : List (List ℕ)) → words ≡ a ∷ (b ∷ o) → a ≢ codes "--" → is_odd b ≡ false)
    → (x : Form) × MayBeWritten x (rename old new) × (codes "rename" ∷ words ≡ edit_words x (rename old new) ++ others)
takes-renaming plain words texts old new others is may front refuses =
    let key : old ≢ codes "--" = λ e. may (new ∷ others) (front ∙ ap (λ k. k ∷ (new ∷ others)) e) in
    (plain, (key, refuses old new others (is ∙ front) key), ap (λ v. codes "rename" ∷ v) (is ∙ front))
takes-renaming literal words texts old new others is may front refuses =
    (literal, tt, ap (λ v. codes "rename" ∷ v) (is ∙ ap (λ v. codes "--" ∷ v) front))

-- some texts, by a test
pub some-words : {Z : Type 0} (texts : List (String Z)) → (length texts == 0) ≡ false → map string_bytes texts ≢ []
some-words [] h e = cc
some-words (a ∷ texts) h e = cc

-- and none
pub no-words : {Z : Type 0} (texts : List (String Z)) → (length texts == 0) ≡ true → map string_bytes texts ≡ []
no-words texts h = ap (map string_bytes) (nil_from_length texts (eqb-true (length texts) 0 h))

-- What comes after the arguments of an edit is shorter.
pub shorter : {Y Z : Type 0} (rest : List (String Y)) (others : List (String Z)) (form : Form) (edit : Edit)
    → map string_bytes rest ≡ edit_words form edit ++ map string_bytes others → length others < length rest
shorter rest others form edit is =
    let left = length-map rest string_bytes in
    let right = length-map others string_bytes in
    let both = ap length is ∙ length-append (edit_words form edit) (map string_bytes others) in
    omega arith

-- Edits were found and are made, and these arguments are left.
pub record HasMade (words : List (List ℕ)) (edits : List Meant) (rest : List (List ℕ)) : Type 0 where
  pub done : List WrittenEdit
  pub is : words ≡ written_words done ++ rest
  pub made : edits ≡ map (λ w. meant_edit w.edit) done

-- none of them yet
pub made-none : (words : List (List ℕ)) (edits : List AskedEdit) → edits ≡ [] → HasMade words (asked_edits edits) words
made-none words edits none = record { done = []; is = refl; made = ap asked_edits none }

-- one more
pub made-more : {more : List AskedEdit} (words : List (List ℕ)) (edits : List AskedEdit) (rest others : List (List ℕ))
    (form : Form) (edit : Edit) (made : AskedEdit) → HasMade words (asked_edits edits) rest → MayBeWritten form edit
    → rest ≡ edit_words form edit ++ others → asked_edit made ≡ meant_edit edit → more ≡ edits ++ (made ∷ []) → HasMade words (asked_edits more) others
made-more words edits rest others form edit made h may next same is = record {
  done = h.done ++ (w ∷ []);
  is =
      h.is ∙ ap (λ v. written_words h.done ++ v) next ∙ sym (append_assoc (written_words h.done) (edit_words form edit) others)
      ∙ ap (λ v. v ++ others) (sym (words-more h.done w));
  made =
      ap asked_edits is ∙ map-append asked_edit edits (made ∷ []) ∙ ap (λ v. asked_edits edits ++ (v ∷ [])) same
      ∙ ap (λ v. v ++ (meant_edit edit ∷ [])) h.made ∙ sym (map-append (λ v. meant_edit v.edit) h.done (w ∷ []));
}
  where
    w : WrittenEdit
    w = record { edit = edit; form = form; may = may }

-- ---- arguments that ask for no edit

-- `--` doesn't look like NAME=TEXT.
no-dashes : IsAssignment (codes "--") → ⊥
no-dashes a = true≢false (sym (has-sign a.name a.value) ∙ ap (list_any is_sign) (sym a.is))

-- Where something is wrong, no edit begins the arguments.
none-at : (words : List (List ℕ)) (mistake : Mistake) (f : Form) (e : Edit) (others : List (List ℕ)) → MayBeWritten f e → IsMistakeAt words mistake
    → words ≡ edit_words f e ++ others → ⊥
unfolding first-word
none-at words mistake f (set k v) others may (no_edit word rest is no-set no-removal no-renaming no-comment m) w = no-set (cc)
none-at words mistake f (remove k) others may (no_edit word rest is no-set no-removal no-renaming no-comment m) w = no-removal (cc)
none-at words mistake f (rename k v) others may (no_edit word rest is no-set no-removal no-renaming no-comment m) w = no-renaming (cc)
none-at words mistake f (set_comment k v) others may (no_edit word rest is no-set no-removal no-renaming no-comment m) w = no-comment (cc)
none-at words mistake plain (set k v) others may (no_key command edit plain c is m) w = cc
none-at words mistake plain (remove k) others may (no_key command edit plain c is m) w = cc
none-at words mistake literal (set k v) others may (no_key command edit plain c is m) w = cc
none-at words mistake literal (remove k) others may (no_key command edit plain c is m) w = cc
none-at words mistake plain (set k v) others may (no_key command edit literal c is m) w = cc
none-at words mistake plain (remove k) others may (no_key command edit literal c is m) w = may (cc)
none-at words mistake literal (set k v) others may (no_key command edit literal c is m) w = cc
none-at words mistake literal (remove k) others may (no_key command edit literal c is m) w = cc
none-at words mistake plain (rename k v) others may (no_key command edit plain c is m) w = cc
none-at words mistake literal (rename k v) others may (no_key command edit plain c is m) w = cc
none-at words mistake plain (rename k v) others may (no_key command edit literal c is m) w = cc
none-at words mistake literal (rename k v) others may (no_key command edit literal c is m) w = cc
none-at words mistake plain (set_comment k v) others may (no_key command edit plain c is m) w = cc
none-at words mistake literal (set_comment k v) others may (no_key command edit plain c is m) w = cc
none-at words mistake plain (set_comment k v) others may (no_key command edit literal c is m) w = may (cc)
none-at words mistake literal (set_comment k v) others may (no_key command edit literal c is m) w = cc
none-at words mistake plain (set k v) others may (no_value key plain is first m) w = cc
none-at words mistake literal (set k v) others may (no_value key plain is first m) w = cc
none-at words mistake plain (set k v) others may (no_value key literal is first m) w = may.0 (cc)
none-at words mistake literal (set k v) others may (no_value key literal is first m) w = cc
none-at words mistake f (remove k) others may (no_value key g is first m) w = cc
none-at words mistake f (rename k v) others may (no_value key g is first m) w = cc
none-at words mistake f (set_comment k v) others may (no_value key g is first m) w = set-commands (ap first-word (sym is ∙ w))
none-at words mistake f (set k v) others may (no_new_key key g is first m) w = cc
none-at words mistake f (remove k) others may (no_new_key key g is first m) w = two-commands (ap first-word (sym w ∙ is))
none-at words mistake plain (rename k v) others may (no_new_key key plain is first m) w = cc
none-at words mistake literal (rename k v) others may (no_new_key key plain is first m) w = cc
none-at words mistake plain (rename k v) others may (no_new_key key literal is first m) w = may.0 (cc)
none-at words mistake literal (rename k v) others may (no_new_key key literal is first m) w = cc
none-at words mistake f (set_comment k v) others may (no_new_key key g is first m) w = cc
none-at words mistake f (set k v) others may (no_text key g is first m) w = set-commands (ap first-word (sym w ∙ is))
none-at words mistake f (remove k) others may (no_text key g is first m) w = cc
none-at words mistake f (rename k v) others may (no_text key g is first m) w = cc
none-at words mistake plain (set_comment k v) others may (no_text key plain is first m) w = cc
none-at words mistake literal (set_comment k v) others may (no_text key plain is first m) w = cc
none-at words mistake plain (set_comment k v) others may (no_text key literal is first m) w = may (cc)
none-at words mistake literal (set_comment k v) others may (no_text key literal is first m) w = cc
none-at words mistake plain (set k v) others may (assignments key value rest is a b m) w =
    let one : key.now ≡ k = cc in
    let other : value.now ≡ v = cc in
    may.1 (subst IsAssignment one a) (subst IsAssignment other b)
none-at words mistake literal (set k v) others may (assignments key value rest is a b m) w =
    let dashes : key.now ≡ codes "--" = cc in no-dashes (subst IsAssignment dashes a)
none-at words mistake f (remove k) others may (assignments key value rest is a b m) w = cc
none-at words mistake f (rename k v) others may (assignments key value rest is a b m) w = cc
none-at words mistake f (set_comment k v) others may (assignments key value rest is a b m) w = set-commands (ap first-word (sym is ∙ w))
none-at words mistake plain (set k v) others may (odd_key key value rest is odd m) w =
    let same : key.now ≡ k = cc in true≢false (sym odd ∙ ap is_odd same ∙ may.2)
none-at words mistake literal (set k v) others may (odd_key key value rest is odd m) w =
    let dashes : key.now ≡ codes "--" = cc in true≢false (sym odd ∙ ap is_odd dashes)
none-at words mistake f (remove k) others may (odd_key key value rest is odd m) w = cc
none-at words mistake f (rename k v) others may (odd_key key value rest is odd m) w = cc
none-at words mistake f (set_comment k v) others may (odd_key key value rest is odd m) w = set-commands (ap first-word (sym is ∙ w))
none-at words mistake f (set k v) others may (odd_name old new rest is key odd m) w = cc
none-at words mistake f (remove k) others may (odd_name old new rest is key odd m) w = two-commands (ap first-word (sym w ∙ is))
none-at words mistake plain (rename k v) others may (odd_name old new rest is key odd m) w =
    let same : new.now ≡ v = cc in true≢false (sym odd ∙ ap is_odd same ∙ may.1)
none-at words mistake literal (rename k v) others may (odd_name old new rest is key odd m) w = key (cc)
none-at words mistake f (set_comment k v) others may (odd_name old new rest is key odd m) w = cc

-- If something is wrong, there are arguments.
some-wrong : (words : List (List ℕ)) (mistake : Mistake) → IsMistakeAt words mistake → words ≢ []
some-wrong words mistake (no_edit word rest is no-set no-removal no-renaming no-comment m) e = cc
some-wrong words mistake (no_key command edit form c is m) e = cc
some-wrong words mistake (no_value key form is first m) e = cc
some-wrong words mistake (no_new_key key form is first m) e = cc
some-wrong words mistake (no_text key form is first m) e = cc
some-wrong words mistake (assignments key value rest is a b m) e = cc
some-wrong words mistake (odd_key key value rest is odd m) e = cc
some-wrong words mistake (odd_name old new rest is key odd m) e = cc

-- If something is wrong after some edits, the arguments are not those of edits.
no-edits : (words : List (List ℕ)) (mistake : Mistake) → AreWrong words mistake → (all : List WrittenEdit) → words ≡ written_words all → ⊥
no-edits words mistake h all is = left (rest-of h.before all h.rest (sym is ∙ h.is))
  where
    left : (others : List WrittenEdit) × (h.rest ≡ written_words others) → ⊥
    left o = elim o.0 as (λ others. h.rest ≡ written_words others → ⊥) [
      | [] ↦ some-wrong h.rest mistake h.wrong
      | (w ∷ others) ↦ none-at h.rest mistake w.form w.edit (written_words others) w.may h.wrong
    ] o.1

-- An error that says what is wrong after some edits is what the arguments give.
pub refused : (words : List (List ℕ)) (edits : List Meant) (rest : List (List ℕ)) (mistake : Mistake)
    → HasMade words edits rest → rest ≢ [] → (rest ≢ [] → IsMistakeAt rest mistake)
    → AreWrong words mistake × ((all : List WrittenEdit) → words ≡ written_words all → ⊥)
refused words edits rest mistake h some wrong = (w, no-edits words mistake w)
  where
    w : AreWrong words mistake
    w = record { before = h.done; rest = rest; is = h.is; wrong = wrong some }

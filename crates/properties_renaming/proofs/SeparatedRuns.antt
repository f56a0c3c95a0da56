-- The separators among comment lines, as they are found line by line.
use Rattle.std.proofs.Common.{◌≡◌, ℕ, true, false, List, [], ◌∷◌, ◌++◌, refl, sym, ap, ◌∙◌, subst, inl, inr, append_assoc, append-nil}
use Rattle.std.specs.Prelude.{◌⊎◌, ◌&&◌, ◌==◌, Bool, get_or, if◌then◌else◌, not, reverse}
use Rattle.std.proofs.lemmas.Bool.{cases_Bool, eq-eqb, eqb-false, eqb-true, ne_eqb}
use Rattle.properties_format.specs.Lines.{is_comment_line}
use Rattle.properties_format.specs.Separators.{AreSeparated, ends_separated, ends_shaped, has_shape, last_sign, sign_of}
use Rattle.properties_format.proofs.Separators.{compare, other-place, same-place, shape-other, shape-same, sign-marks, turned}
use Rattle.properties_renaming.specs.FoundSeparators.{IsRunOf, PassesGroup}
use Rattle.properties_renaming.specs.declared.separators.LastRun.{LastRun}

-- ---- the run in which lines end

signed : (x : List ℕ) (s : ℕ) → is_comment_line x ≡ true → sign_of x ≡ s → ¬ (s ≡ 0)
signed x s line q none = let is = rw (q ∙ none) at (sign-marks x line) in absurd (cc)

-- A line has its sign, or another one.
pub passes-same : (x : List ℕ) (old new : LastRun) → is_comment_line x ≡ true → sign_of x ≡ old.sign → new.sign ≡ old.sign
    → new.separates ≡ (old.separates && has_shape x) → PassesGroup true x old false new
passes-same x old new line q sign separates lines h =
    let up = reverse lines in
    let turn = turned lines x in
    let same : sign_of x ≡ sign_of (get_or up 0 []) = q ∙ h.0 in (
      (
        sign ∙ sym q ∙ sym (ap (λ w. sign_of (get_or w 0 [])) turn),
        separates ∙ ap (λ b. b && has_shape x) h.1 ∙ shape-same up x (signed x _ line same) same ∙ sym (ap (λ w. ends_shaped w []) turn),
      ),
      sym (ap (λ b. not b && ends_separated lines []) (eq-eqb (sign_of x) (last_sign lines) same)),
    )

pub passes-new : (x : List ℕ) (old new : LastRun) → ¬ (sign_of x ≡ old.sign) → new.sign ≡ sign_of x → new.separates ≡ has_shape x
    → PassesGroup true x old old.separates new
passes-new x old new q sign separates lines h =
    let turn = turned lines x in
    let other : ¬ (sign_of x ≡ last_sign lines) = λ s. q (s ∙ sym h.0) in (
      (
        sign ∙ sym (ap (λ w. sign_of (get_or w 0 [])) turn),
        separates ∙ shape-other (reverse lines) x other ∙ sym (ap (λ w. ends_shaped w []) turn),
      ),
      h.1 ∙ sym (ap (λ b. not b && ends_separated lines []) (ne_eqb (sign_of x) (last_sign lines) other)),
    )

-- ---- the last separator

-- Comment lines were passed, of which those above go up to the last separator that is known, whatever the rest is; one of
-- those below may be a separator only if the last is.
pub record EndIn (above below : List (List ℕ)) (last : LastRun) : Type 0 where
  pub run : IsRunOf (above ++ below) last
  pub known : (rest : List (List ℕ)) → (above ≡ []) ⊎ (ends_separated above (below ++ rest) ≡ true)
  pub later : (line : List ℕ) (lines more rest : List (List ℕ)) → below ≡ line ∷ (lines ++ more)
      → ends_separated (above ++ line ∷ lines) (more ++ rest) ≡ true → ends_separated (above ++ below) rest ≡ true

pub none-yet : (last : LastRun) → IsRunOf [] last → EndIn [] [] last
none-yet last none = record { run = none; known = λ rest. inl refl; later = λ line lines after rest division is. absurd (cc) }

-- the lines above and below, given whether a separator was found directly below them all
abbrev pub above_if : {A : Type 0} → Bool → List A → List A → List A
above_if found above below = if found then above ++ below else above

abbrev pub below_if : {A : Type 0} → Bool → List A → List A
below_if found below = if found then [] else below

-- A front of lines and one more is all of them, or a front of the lines.
split-last : (x : List ℕ) (below front more : List (List ℕ)) → below ++ x ∷ [] ≡ front ++ more
    → (front ≡ below ++ x ∷ []) × (more ≡ []) ⊎ (m : List (List ℕ)) × (below ≡ front ++ m) × (more ≡ m ++ x ∷ [])
split-last x below front more q = let k = compare below (x ∷ []) front more q in by k.0 k.1
  where
    by : (m : List (List ℕ)) → (front ≡ below ++ m) × (x ∷ [] ≡ m ++ more) ⊎ (below ≡ front ++ m) × (more ≡ m ++ x ∷ [])
        → (front ≡ below ++ x ∷ []) × (more ≡ []) ⊎ (m : List (List ℕ)) × (below ≡ front ++ m) × (more ≡ m ++ x ∷ [])
    by m (inr k) = inr (m, k.0, k.1)
    by [] (inl k) = inr ([], sym (k.0 ∙ append-nil below) ∙ sym (append-nil front), sym k.1)
    by (z ∷ []) (inl k) = let same : z ≡ x = cc in let none : more ≡ [] = cc in inl (k.0 ∙ ap (λ w. below ++ w ∷ []) same, none)
    by (z ∷ w ∷ m) (inl k) = absurd (cc)

module _ {above below : List (List ℕ)} {old new : LastRun} (x : List ℕ) (h : EndIn above below old) (run : IsRunOf ((above ++ below) ++ x ∷ []) new) where
  -- No separator is found directly above a line.
  added : ((rest : List (List ℕ)) → ends_separated (above ++ below) (x ∷ rest) ≡ true → ends_shaped (x ∷ reverse (above ++ below)) rest ≡ true)
      → EndIn above (below ++ x ∷ []) new
  added more =
      let turn : reverse (above ++ (below ++ x ∷ [])) ≡ x ∷ reverse (above ++ below) = ap reverse (sym (append_assoc above below (x ∷ []))) ∙ turned (above ++ below) x in
      record {
        run = subst (λ w. IsRunOf w new) (append_assoc above below (x ∷ [])) run;
        known = λ rest. subst (λ w. (above ≡ []) ⊎ (ends_separated above w ≡ true)) (sym (append_assoc below (x ∷ []) rest)) (h.known (x ∷ rest));
        later = λ line lines after rest division is. elim (split-last x below (line ∷ lines) after division) [
          | inl (all, none) ↦ subst (λ w. ends_separated (above ++ w) rest ≡ true) all (subst (λ w. ends_separated (above ++ line ∷ lines) (w ++ rest) ≡ true) none is)
          | inr (m, front, tail) ↦ subst (λ w. ends_shaped w rest ≡ true) (sym turn) (more rest (h.later line lines m (x ∷ rest) front
              (subst (λ w. ends_separated (above ++ line ∷ lines) w ≡ true) (ap (λ w. w ++ rest) tail ∙ append_assoc m (x ∷ []) rest) is)))
        ];
      }

  -- One is.
  begun : ¬ (sign_of x ≡ last_sign (above ++ below)) → ends_separated (above ++ below) [] ≡ true → EndIn (above ++ below) (x ∷ []) new
  begun other all = record {
    run = run;
    known = λ rest. inr (other-place (reverse (above ++ below)) x rest other ∙ all);
    later = λ line lines after rest division is. elim (split-last x [] (line ∷ lines) after division) [
      | inl (whole, none) ↦
          subst (λ w. ends_separated ((above ++ below) ++ w) rest ≡ true) whole (subst (λ w. ends_separated ((above ++ below) ++ line ∷ lines) (w ++ rest) ≡ true) none is)
      | inr (m, front, tail) ↦ absurd (cc)
    ];
  }

-- What is known once a comment line was passed,
pub line-passed : (found : Bool) {above below : List (List ℕ)} {old new : LastRun} (x : List ℕ) → is_comment_line x ≡ true → PassesGroup true x old found new
    → EndIn above below old → EndIn (above_if found above below) (below_if found below ++ x ∷ []) new
line-passed found {above} {below} {old} {new} x line passes h =
    let all = above ++ below in
    let up = reverse all in
    let p = passes all h.run in
    let Such : Bool → Type 0 = λ b. EndIn (above_if b above below) (below_if b below ++ x ∷ []) new in
    elim (cases_Bool (sign_of x == last_sign all)) [
      | inl s ↦
          let same : sign_of x ≡ sign_of (get_or up 0 []) = eqb-true (sign_of x) (last_sign all) s in
          let off : found ≡ false = p.1 ∙ ap (λ b. not b && ends_separated all []) s in
          subst Such (sym off) (added x h p.0 (λ rest is. sym (same-place up x rest (signed x _ line same) same) ∙ is))
      | inr s ↦
          let other : ¬ (sign_of x ≡ sign_of (get_or up 0 [])) = eqb-false (sign_of x) (last_sign all) s in
          let on : found ≡ ends_separated all [] = p.1 ∙ ap (λ b. not b && ends_separated all []) s in
          elim (cases_Bool (ends_separated all [])) [
            | inl e ↦ subst Such (sym (on ∙ e)) (begun x h p.0 other e)
            | inr e ↦ subst Such (sym (on ∙ e)) (added x h p.0 (λ rest is. let none : true ≡ false = sym is ∙ other-place up x rest other ∙ e in absurd (cc)))
          ]
    ]

-- or another group.
pub other-passed : (found : Bool) {above below : List (List ℕ)} {old new : LastRun} (x : List ℕ) → PassesGroup false x old found new → EndIn above below old
    → AreSeparated (above_if found above below) (below_if found below)
other-passed found {above} {below} x passes h =
    let p = passes.1 (above ++ below) h.run in
    let Such : Bool → Type 0 = λ b. AreSeparated (above_if b above below) (below_if b below) in
    elim (cases_Bool (ends_separated (above ++ below) [])) [
      | inl e ↦ subst Such (sym (p ∙ e)) (record { last = inr e; none_below = λ line lines rest division. absurd (cc) })
      | inr e ↦ subst Such (sym (p ∙ e)) (record {
        last = subst (λ w. (above ≡ []) ⊎ (ends_separated above w ≡ true)) (append-nil below) (h.known []);
        none_below = λ line lines rest division. elim (cases_Bool (ends_separated (above ++ line ∷ lines) rest)) [
          | inl is ↦
              let all = h.later line lines rest [] division (subst (λ w. ends_separated (above ++ line ∷ lines) w ≡ true) (sym (append-nil rest)) is) in
              let none : true ≡ false = sym all ∙ e in absurd (cc)
          | inr is ↦ is
        ];
      })
    ]

-- Edits that are made in turn to the parts of a source.
use Rattle.std.proofs.Common.{◌≡◌, ◌<◌, ◌+◌, ℕ, zero, suc, ◌||◌, Bool, true, false, List, [], ◌∷◌, ◌++◌, length, take, get_or, refl, ap, sym, ◌∙◌, subst, arith}
use Rattle.std.specs.Prelude.{bytes_eq}
use Rattle.std.proofs.lemmas.Slice.Eq.{bytes_eq-Decides}
use Rattle.properties_format.specs.Encoding.{Repertoire}
use Rattle.properties_format.specs.Edits.{AreEdited, Edit}
use Rattle.properties_editing.specs.Editing.{edit_in, edits_in}
use Rattle.properties_editing.specs.declared.edit.Edit as code
use Rattle.properties_editing.specs.Private.BodyParts.{NamesKey, is_named}
use Rattle.properties_editing.specs.Private.EditedParts.{AreEditedParts, AreNamed, AreParts, HaveParts, edit_key}
use Rattle.properties_editing.specs.declared.parts.NamedKeys.{NamedKeys}
use Rattle.properties_editing.specs.declared.parts.source_parts.SourceParts.{SourceParts}
use Rattle.properties_editing.proofs.Editing.{edits_in-more}
use Rattle.properties_editing.proofs.EditsInTurn.{edited-more}

-- The parts stand for the source after these edits. The keys of all are named.
pub record ArePartsAfter (r : Repertoire) (read : List ℕ) (done all : List Edit) (p : SourceParts) : Type 0 where
  pub now : List ℕ
  pub named : List ℕ → Bool
  pub edited : AreEdited r read done now
  pub parts : AreParts r read now named p
  pub are_named : AreNamed named all

named-at : (named : List ℕ → Bool) (edits : List code.Edit) (i : ℕ) (d : code.Edit) → AreNamed named (edits_in edits) → i < length edits
    → named (edit_key (edit_in (get_or edits i d))) ≡ true
named-at named [] i d h k = absurd (omega arith)
named-at named (e ∷ es) zero d h k = h.0
named-at named (e ∷ es) (suc i) d h k = named-at named es i d h.1 (omega arith)

pub next-named : {r : Repertoire} {read : List ℕ} {done : List Edit} {p : SourceParts} (edits : List code.Edit) (i : ℕ) (d edit : code.Edit)
    → i < length edits → edit ≡ get_or edits i d → (h : ArePartsAfter r read done (edits_in edits) p) → h.named (edit_key (edit_in edit)) ≡ true
next-named edits i d edit k is h = ap (λ e. h.named (edit_key (edit_in e))) is ∙ named-at h.named edits i d h.are_named k

-- What the next edit asks, they have.
pub next-parts : {r : Repertoire} {read : List ℕ} {done : List Edit} {p : SourceParts} (edits : List code.Edit) (i : ℕ) (d edit : code.Edit)
    → i < length edits → edit ≡ get_or edits i d → ArePartsAfter r read done (edits_in edits) p → HaveParts (edit_key (edit_in edit)) read p
next-parts {r} edits i d edit k is h =
    record { repertoire = r; now = h.now; named = h.named; is_named_key = next-named edits i d edit k is h; parts = h.parts }

-- One more edit is made.
pub next-made : {r : Repertoire} {read : List ℕ} {p : SourceParts} (edits : List code.Edit) (i : ℕ) (d edit : code.Edit) (new : SourceParts)
    → i < length edits → edit ≡ get_or edits i d → (h : ArePartsAfter r read (edits_in (take i edits)) (edits_in edits) p)
    → AreEditedParts r (edit_in edit) read h.now h.named new → ArePartsAfter r read (edits_in (take (i + 1) edits)) (edits_in edits) new
next-made {r} {read} edits i d edit new k is h m =
    let before = edits_in (take i edits) in
    let all = edits_in-more edits i d k ∙ ap (λ e. before ++ edit_in e ∷ []) (sym is) in
    record {
      now = m.result;
      named = h.named;
      edited = subst (λ v. AreEdited r read v m.result) (sym all) (edited-more r read before (edit_in edit) h.now m.result h.edited m.edited);
      parts = m.parts;
      are_named = h.are_named;
    }

-- ---- the keys of the edits

-- The keys that were named are, and one more.
pub named-more : (old new : NamedKeys) (edits : List code.Edit) (i : ℕ) (d edit : code.Edit) → i < length edits → edit ≡ get_or edits i d
    → NamesKey (edit_key (edit_in edit)) old new → AreNamed (is_named old) (edits_in (take i edits)) → AreNamed (is_named new) (edits_in (take (i + 1) edits))
named-more old new edits i d edit k is m h =
    subst (AreNamed (is_named new)) (sym (edits_in-more edits i d k ∙ ap (λ e. edits_in (take i edits) ++ edit_in e ∷ []) (sym is)))
    (with-next (edits_in (take i edits)) h)
  where
    with-next : (es : List Edit) → AreNamed (is_named old) es → AreNamed (is_named new) (es ++ edit_in edit ∷ [])
    with-next [] h =
        (m.named (edit_key (edit_in edit)) ∙ ap (λ b. b || is_named old (edit_key (edit_in edit))) ((bytes_eq-Decides (edit_key (edit_in edit)) (edit_key (edit_in edit))).1 refl), tt)
    with-next (e ∷ es) h = (m.named (edit_key e) ∙ ap (λ b. bytes_eq (edit_key (edit_in edit)) (edit_key e) || b) h.0 ∙ or-true (bytes_eq (edit_key (edit_in edit)) (edit_key e)), with-next es h.1)
      where
        or-true : (b : Bool) → (b || true) ≡ true
        or-true true = refl
        or-true false = refl

-- How a body is read, group by group.
use Rattle.properties_format.specs.Computed.Lines.{closes}
use Rattle.std.proofs.Common.{◌≡◌, ℕ, ◌+◌, List, [], ◌∷◌, ◌++◌, length, refl, ap, sym, ◌∙◌, subst, inl, inr, append-nil, append_assoc, length-append, arith}
use Rattle.std.specs.Prelude.{true, false}
use Rattle.std.proofs.lemmas.Bool.{cases_Bool}
use Rattle.properties_editing.specs.Private.Sound.{AreSoundFor, IsSoundFor}
use Rattle.properties_editing.specs.declared.source.Comments.{Comments}
use Rattle.properties_editing.proofs.PassedOver.{sound-join}
use Rattle.properties_format.proofs.Body.Groups.{groups_bytes-append, groups-close, groups-leave}
use Rattle.std.specs.Str.{chars}
use Rattle.properties_format.specs.Encoding.{Encoding}
use Rattle.properties_format.specs.Lines.{Ended}
use Rattle.properties_format.specs.Computed.Cut.{cut_of}
use Rattle.properties_format.specs.Body.{HeldLine, as_lines, held_in, group_bytes, groups_bytes}
use Rattle.properties_format.specs.Computed.Body.{held_of, held_lines_of, held_groups_after, held_groups_of}
use Rattle.properties_format.proofs.Valued.Lined.{held_in-append}
use Rattle.properties_text.specs.Encoding.{encoding_of}
use Rattle.properties_editing.specs.Private.BodyGroups.{IsWithin, groups_left, group_text, TakesHeldGroup}
use Rattle.properties_editing.specs.declared.groups.Group.{Group}
use Rattle.properties_editing.specs.declared.groups.GroupReader.{GroupReader}

-- ---- the groups that were read

-- These groups of a body were read, in none of which anything is malformed that isn't passed over.
pub record HasRead (comments : Comments) (e : Encoding) (body : List ℕ) (groups : List (List HeldLine)) (s : GroupReader) : Type 0 where
  pub all : held_groups_of e body ≡ groups ++ groups_left body s
  pub sound : AreSoundFor comments groups
  pub counted : s.scanner.passed ≡ length (held_in groups)
  pub placed : s.scanner.at ≡ length (groups_bytes groups)
  pub within : IsWithin body s
  pub encoding : encoding_of s.scanner.encoding ≡ e

pub read-none : (comments : Comments) (body : List ℕ) (s : GroupReader) → s.scanner.at ≡ 0 → s.scanner.passed ≡ 0 → s.scanner.is_done ≡ false → IsWithin body s
    → HasRead comments (encoding_of s.scanner.encoding) body [] s
read-none comments body s at passed going w = record {
  all = rw (going, at) refl;
  sound = tt;
  counted = passed;
  placed = at;
  within = w;
  encoding = refl;
}

-- the next group was read, and nothing in it is malformed
pub read-more : {comments : Comments} {e : Encoding} {body : List ℕ} {groups : List (List HeldLine)} {s t : GroupReader} {group : Group} → HasRead comments e body groups s
    → (k : TakesHeldGroup body s group t) → IsSoundFor comments (chars (group_text body t group)) → HasRead comments e body (groups ++ k.held ∷ []) t
read-more {comments} {e} {body} {groups} {s} {t} {group} h k sound =
    let one : groups_bytes (k.held ∷ []) ≡ group_bytes k.held = append-nil (group_bytes k.held) in
    let placed = h.placed in
    let counted = h.counted in
    let all : length (groups_bytes (groups ++ k.held ∷ [])) ≡ length (groups_bytes groups) + length (group_bytes k.held) =
    ap length (groups_bytes-append groups (k.held ∷ []) ∙ ap (λ v. groups_bytes groups ++ v) one) ∙ length-append (groups_bytes groups) (group_bytes k.held) in
    let lines : length (held_in (groups ++ k.held ∷ [])) ≡ length (held_in groups) + length k.held =
    ap length (held_in-append groups (k.held ∷ []) ∙ ap (λ v. held_in groups ++ v) (append-nil k.held)) ∙ length-append (held_in groups) k.held in
    record {
      all = h.all ∙ ap (λ v. groups ++ v) k.groups ∙ sym (append_assoc groups (k.held ∷ []) (groups_left body t));
      sound = sound-join comments groups (k.held ∷ []) h.sound (subst (IsSoundFor comments) k.text sound, tt);
      counted = omega arith;
      placed = omega arith;
      within = k.within;
      encoding = k.encoding ∙ h.encoding;
    }

-- the last group was read
pub read-all : {comments : Comments} {e : Encoding} {body : List ℕ} {groups : List (List HeldLine)} {s : GroupReader} → HasRead comments e body groups s → s.scanner.is_done ≡ true
    → held_groups_of e body ≡ groups
read-all {comments} {e} {body} {groups} {s} h done = h.all ∙ (rw done (append-nil groups))

-- ---- there are groups

-- each body has lines
some-lines : (e : Encoding) (ls : List Ended) (last : List ℕ) → held_of e ls last ≡ [] → ⊥
some-lines e [] last h = absurd (cc)
some-lines e (l ∷ ls) last h = absurd (cc)

some-more : (p : List HeldLine) (h : HeldLine) → p ++ h ∷ [] ≡ [] → ⊥
some-more [] h k = absurd (cc)
some-more (i ∷ p) h k = absurd (cc)

some-after : (p hs : List HeldLine) → (p ≡ [] → hs ≡ [] → ⊥) → held_groups_after p hs ≡ [] → ⊥
some-after [] [] some h = some refl refl
some-after (i ∷ p) [] some h = absurd (cc)
some-after p (h ∷ hs) some k = elim (cases_Bool (closes (as_lines p) (record { number = 0; text = h.text }))) [
  | inl b ↦ let more = sym (groups-close p h hs b) ∙ k in absurd (cc)
  | inr b ↦ some-after (p ++ h ∷ []) hs (λ none. absurd (some-more p h none)) (sym (groups-leave p h hs b) ∙ k)
]

-- each body has groups
pub some-groups : (e : Encoding) (body : List ℕ) → held_groups_of e body ≡ [] → ⊥
unfolding held_groups_of
some-groups e body h = some-after [] (held_lines_of e body) (λ none. some-lines e (cut_of e body).ended (cut_of e body).last) h

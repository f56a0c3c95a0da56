-- An edit as a plan: what becomes of each group of a body. The bytes of the others stay as they are.
-- Source: java.util.Properties of Java SE 7, load (a later pair takes the place of an earlier one) and store (how a pair is written).
use Rattle.std.specs.Prelude.{ℕ, Bool, true, false, if◌then◌else◌, List, [], ◌∷◌, ◌++◌, Option, Some, None}
use Rattle.properties_format.specs.Text.{line_feed, is_empty}
use Rattle.properties_format.specs.Encoding.{Encoding, Repertoire, byte_order_mark, in_encoding}
use Rattle.properties_format.specs.Printing.{encoded_text}
use Rattle.properties_format.specs.Body.{HeldLine, ending_bytes, group_bytes, groups_bytes, last_ending}
use Rattle.properties_format.specs.Edited.{pair_bytes, final_group, separation_by, added_ending, bom_of, guarding_lf}
use Rattle.properties_format.specs.Valued.{value_text, ending_in, new_pair_bytes}
use Rattle.properties_format.specs.Computed.Body.{held_groups_of, has_key}
use Rattle.properties_format.specs.Computed.Valued.{value_front, between_of, has_value, last_between, separator_by}

-- ---- plans

-- A group stays; it goes, with its line ending; or it becomes these bytes, and keeps its last line ending.
pub data Change : Type 0 where
  stay : Change
  go : Change
  become : List ℕ → Change

-- the bytes of the groups after these changes, one for each
abbrev pub planned : List Change → List (List HeldLine) → List ℕ
planned (stay ∷ cs) (g ∷ gs) = group_bytes g ++ planned cs gs
planned (go ∷ cs) (g ∷ gs) = planned cs gs
planned (become x ∷ cs) (g ∷ gs) = x ++ (ending_bytes (last_ending g) ++ planned cs gs)
planned cs gs = groups_bytes gs

-- every pair with the key goes
abbrev pub removal : List ℕ → List (List HeldLine) → List Change
removal key [] = []
removal key (g ∷ gs) = (if has_key key g then go else stay) ∷ removal key gs

-- each of the groups stays
abbrev pub all_stay : List (List HeldLine) → List Change
all_stay [] = []
all_stay (g ∷ gs) = stay ∷ all_stay gs

-- the plan of a group and those behind it, which may have a plan; if they have none, the group changes if it has the key
abbrev pub this_or_later : Option (List Change) → Bool → Change → List (List HeldLine) → Option (List Change)
this_or_later (Some cs) has change gs = Some (stay ∷ cs)
this_or_later None true change gs = Some (change ∷ all_stay gs)
this_or_later None false change gs = None

-- The last pair with the key changes, if there is one; the flag says whether the first of these groups is the first of
-- its body.
abbrev pub at_last : List ℕ → (Bool → List HeldLine → Change) → Bool → List (List HeldLine) → Option (List Change)
at_last key change first [] = None
at_last key change first (g ∷ gs) = this_or_later (at_last key change false gs) (has_key key g) (change first g) gs

-- the bytes of the groups by this plan; or, without a plan, these bytes
abbrev pub planned_or : Option (List Change) → List ℕ → List (List HeldLine) → List ℕ
planned_or None other gs = other
planned_or (Some cs) other gs = planned cs gs

-- ---- edits of a body

-- a key is set
abbrev pub put_change : Repertoire → List ℕ → List ℕ → Bool → List HeldLine → Change
put_change r key value first g = become (pair_bytes r first key value)

abbrev pub put_added : Repertoire → List ℕ → List ℕ → List ℕ → List (List HeldLine) → List ℕ
put_added r source key value gs =
    let front : List ℕ = groups_bytes gs ++ separation_by (added_ending source) (final_group gs) in
    front ++ (pair_bytes r (is_empty front) key value ++ line_feed ∷ [])

abbrev pub put_in : Repertoire → List ℕ → List ℕ → List ℕ → List (List HeldLine) → List ℕ
put_in r source key value gs = planned_or (at_last key (put_change r key value) true gs) (put_added r source key value gs) gs

-- a value is set, and the front of its pair stays
abbrev pub value_change : Repertoire → List ℕ → Bool → List HeldLine → Change
value_change r value first g =
    if has_value value g then stay else become (value_front r.encoding g ++ encoded_text r.encoding (value_text r (between_of g) value))

abbrev pub value_added : Repertoire → List ℕ → List ℕ → List (List HeldLine) → List ℕ
value_added r key value gs =
    let front : List ℕ = groups_bytes gs ++ separation_by (ending_in gs) (final_group gs) in
    front ++ new_pair_bytes r front key (separator_by key (last_between gs)) value (ending_in gs)

abbrev pub value_in : Repertoire → List ℕ → List ℕ → List (List HeldLine) → List ℕ
value_in r key value gs = planned_or (at_last key (value_change r value) true gs) (value_added r key value gs) gs

-- ---- edits of a source

-- its mark, and its body as an edit of the groups makes it
abbrev pub edited_body : Encoding → List ℕ → (Encoding → List (List HeldLine) → List ℕ) → List ℕ
edited_body e source edit = let f = byte_order_mark e source in bom_of source ++ edit f.encoding (held_groups_of f.encoding f.body)

abbrev pub with_key_set : Repertoire → List ℕ → List ℕ → List ℕ → List ℕ
with_key_set r source key value = edited_body r.encoding source (λ e. put_in (in_encoding r e) source key value)

abbrev pub with_value_set : Repertoire → List ℕ → List ℕ → List ℕ → List ℕ
with_value_set r source key value = edited_body r.encoding source (λ e. value_in (in_encoding r e) key value)

abbrev pub with_key_removed : Encoding → List ℕ → List ℕ → List ℕ
with_key_removed e source key = edited_body e source (λ f gs. let rest = planned (removal key gs) gs in guarding_lf source rest ++ rest)

-- The parts of a body that is edited, and the groups that they stand for.
use Rattle.std.specs.Prelude.{◌≡◌, ◌≢◌, get_or, ◌⊎◌, ◌||◌, ◌==◌, ℕ, ◌+◌, ◌-◌, ◌≤◌, suc, nat_lt, max, Bool, true, false, if◌then◌else◌, map, List, [], ◌∷◌, ◌++◌, length, take, drop, bytes_eq, encode_utf8_all, bit_and, not, ◌%◌, ◌^◌, Option, Some, None, Result, Ok, Err}
use Rattle.std.specs.Int.{bit_at}
use Rattle.std.specs.Str.{chars}
use Rattle.std.specs.Option.{is_some, option_map, option_or}
use Rattle.std.specs.Map.{lookup, update}
use Rattle.std.specs.BTreeMap.{IsOrdered}
use Rattle.std.specs.String.{string_cmp}
use Rattle.std.specs.declared.string.String.{String}
use Rattle.properties_format.specs.Text.{carriage_return, line_feed}
use Rattle.properties_format.specs.Encoding.{Encoding}
use Rattle.properties_format.specs.Lines.{joined}
use Rattle.properties_format.specs.Items.{Outcome}
use Rattle.properties_format.specs.Body.{HeldLine, as_lines, groups_bytes, last_ending}
use Rattle.properties_format.specs.Body as body
use Rattle.properties_format.specs.Edited.{final_group, is_empty_line, is_left_open}
use Rattle.properties_format.specs.Computed.Body.{held_groups_of, unended_bytes}
use Rattle.properties_format.specs.Computed.Lines.{begins_with_lf}
use Rattle.properties_items.specs.BorrowedItems.{outcome_pair}
use Rattle.properties_format.specs.Computed.Items.{outcome_of}
use Rattle.properties_items.specs.Texts.{characters}
use Rattle.properties_items.specs.Line.{ending_of}
use Rattle.properties_items.specs.Errors.{IsBareError}
use Rattle.properties_items.specs.declared.error.ErrorKind.TheVariants as error
use Rattle.properties_items.specs.declared.error.PropertiesError.{PropertiesError}
use Rattle.properties_items.specs.declared.line.LineEnding.{LineEnding}
use Rattle.properties_items.specs.declared.line.LineEnding.TheVariants.{CR, LF, CRLF}
use Rattle.properties_editing.specs.Private.Sound.{AreSoundFor, IsSoundFor, IsErrorOfGroups, IsErrorOfLine}
use Rattle.properties_editing.specs.Private.BodyGroups.{closing_of}
use Rattle.properties_editing.specs.declared.source.Comments.{Comments}
use Rattle.properties_editing.specs.declared.groups.Group.{Group}
use Rattle.properties_editing.specs.declared.bytes.BodySpan.{BodySpan}
use Rattle.properties_editing.specs.declared.parts.PartText.{PartText}
use Rattle.properties_editing.specs.declared.parts.PartText.TheVariants as text
use Rattle.properties_editing.specs.declared.parts.PartKind.TheVariants as kind
use Rattle.properties_editing.specs.declared.parts.Part.{Part}
use Rattle.properties_editing.specs.declared.parts.KeyPlaces.{KeyPlaces}
use Rattle.properties_editing.specs.declared.parts.Places.{Places}
use Rattle.properties_editing.specs.declared.parts.NamedKeys.{NamedKeys}
use Rattle.properties_editing.specs.declared.parts.Parts.{Parts}
use Rattle.properties_editing.specs.declared.parts.read.Gap.{Gap}

-- ---- the bytes of parts

abbrev pub span_bytes : List ℕ → BodySpan → List ℕ
span_bytes d s = take (s.end - s.start) (drop s.start d)

abbrev pub part_text_bytes : List ℕ → PartText → List ℕ
part_text_bytes d (text.Span s) = span_bytes d s
part_text_bytes d (text.Own v) = v.items

abbrev pub ended_bytes : Option LineEnding → List ℕ
ended_bytes ending = body.ending_bytes (option_map ending_of ending)

abbrev pub part_bytes : List ℕ → Part → List ℕ
part_bytes d p = part_text_bytes d p.text ++ ended_bytes p.ending

-- the bytes of parts, in order
abbrev pub parts_bytes : List ℕ → List Part → List ℕ
parts_bytes d [] = []
parts_bytes d (p ∷ ps) = part_bytes d p ++ parts_bytes d ps

-- The span is in the bytes.
abbrev pub IsTextWithin : List ℕ → PartText → Type 0
IsTextWithin d (text.Span s) = (s.start ≤ s.end) × (s.end ≤ length d)
IsTextWithin d (text.Own v) = Unit {0}

-- the bytes of a span where a text is: in the body, or in own bytes
abbrev pub part_span_bytes : List ℕ → PartText → BodySpan → List ℕ
part_span_bytes d (text.Span t) s = span_bytes d s
part_span_bytes d (text.Own v) s = span_bytes v.items s

-- If there is a span, it is there.
abbrev pub IsSpanWithin : List ℕ → Option BodySpan → Type 0
IsSpanWithin d None = Unit {0}
IsSpanWithin d (Some s) = (s.start ≤ s.end) × (s.end ≤ length d)

abbrev pub IsLastWithin : List ℕ → PartText → Option BodySpan → Type 0
IsLastWithin d (text.Span t) last = IsSpanWithin d last
IsLastWithin d (text.Own v) last = IsSpanWithin v.items last

-- They are all in the bytes.
abbrev pub AreTextsWithin : List ℕ → List Part → Type 0
AreTextsWithin d [] = Unit {0}
AreTextsWithin d (p ∷ ps) = IsTextWithin d p.text × AreTextsWithin d ps

abbrev pub is_empty_text : PartText → Bool
is_empty_text (text.Span s) = s.start == s.end
is_empty_text (text.Own v) = false

abbrev pub is_empty_part : Part → Bool
is_empty_part p = is_empty_text p.text

-- ---- a pair that is taken out

-- a text without an LF at its front
abbrev pub begins_so : List ℕ → BodySpan → Bool
begins_so d s = if s.start == s.end then false else get_or d s.start 0 == line_feed

abbrev pub cut_text : List ℕ → PartText → PartText
cut_text d (text.Span s) = if begins_so d s then text.Span (record { start = suc s.start; end = s.end }) else text.Span s
cut_text d (text.Own v) = text.Own v

abbrev pub without_lf : List ℕ → Part → Part
without_lf d p = record { text = cut_text d p.text; ending = p.ending; kind = p.kind }

-- parts of which the first that isn't empty is without an LF at its front
abbrev pub without_lf_first : List ℕ → List Part → List Part
without_lf_first d [] = []
without_lf_first d (p ∷ ps) = if is_empty_part p then p ∷ without_lf_first d ps else without_lf d p ∷ ps

-- an empty part
abbrev pub no_part : Part
no_part = record { text = text.Span (record { start = 0; end = 0 }); ending = None; kind = kind.Others None }

-- the parts behind one that goes, which ended so
abbrev pub parts_behind : List ℕ → Option LineEnding → List Part → List Part
parts_behind d (Some CR) ps = without_lf_first d ps
parts_behind d ending ps = ps

-- the parts after the one in this place went, with its line ending
abbrev pub taken_out : List ℕ → ℕ → List Part → List Part
taken_out d place ps = take place ps ++ no_part ∷ parts_behind d (get_or ps place no_part).ending (drop (place + 1) ps)

-- the parts after those in these places went, one after another
abbrev pub taken_all : List ℕ → List ℕ → List Part → List Part
taken_all d [] ps = ps
taken_all d (i ∷ is) ps = taken_all d is (taken_out d i ps)

-- ---- keys that are named

-- what is stored of the pairs with a key
abbrev pub stored_of : {Y : Type 0} → List (String Y × KeyPlaces) → List ℕ → Option KeyPlaces
stored_of entries key = lookup (λ k. bytes_eq key (characters k)) entries

-- the places of the pairs with a key
abbrev pub all_places : Places → List ℕ
all_places p = p.earlier.items ++ p.last ∷ []

abbrev pub listed : Option Places → List ℕ
listed None = []
listed (Some p) = all_places p

abbrev pub listed_places : KeyPlaces → List ℕ
listed_places p = listed p.places

abbrev pub places_of : Option KeyPlaces → List ℕ
places_of None = []
places_of (Some p) = listed_places p

-- the value of the last pair with a key
abbrev pub value_of : Option KeyPlaces → Option (List ℕ)
value_of stored = option_map (λ p. characters p.value) stored

-- whether a key is named
abbrev pub is_named : NamedKeys → List ℕ → Bool
is_named keys key = keys.all || is_some (stored_of keys.places.entries key)

-- the bit of a key's length
abbrev pub length_place : List ℕ → ℕ
length_place key = length (encode_utf8_all key) % 64

-- Unless all keys are named, those that are have the bits of their lengths.
abbrev pub AreMasked : NamedKeys → Type 0
AreMasked keys = keys.all ≡ false → (key : List ℕ) → is_named keys key ≡ true → bit_at keys.lengths (length_place key) ≡ 1

-- Whether a key of so many bytes may be named. If it tells no, no such key is.
abbrev pub MayHave : NamedKeys → ℕ → Bool → Type 0
MayHave keys size told = told ≡ (keys.all || not (bit_and keys.lengths (2 ^ (size % 64)) == 0))

-- No key has places; if all keys are named, none is stored.
pub record AreUnplaced (keys : NamedKeys) : Type 0 where
  pub none : (key : List ℕ) → places_of (stored_of keys.places.entries key) ≡ []
  pub unread : keys.all ≡ true → (key : List ℕ) → stored_of keys.places.entries key ≡ None
  pub ordered : IsOrdered string_cmp keys.places
  pub masked : AreMasked keys

-- A key more is named.
pub record NamesKey (key : List ℕ) (old new : NamedKeys) : Type 0 where
  pub unplaced : AreUnplaced new
  pub named : (k : List ℕ) → is_named new k ≡ (bytes_eq key k || is_named old k)
  pub all : new.all ≡ old.all

-- A place more was stored, after all others of its key.
pub record HasPlaceAdded (key value : List ℕ) (place : ℕ) (old new : NamedKeys) : Type 0 where
  pub pair : KeyPlaces
  pub stored : (k : List ℕ) → stored_of new.places.entries k ≡ update bytes_eq (stored_of old.places.entries) key (Some pair) k
  pub places : listed_places pair ≡ places_of (stored_of old.places.entries key) ++ place ∷ []
  pub has_value : old.all ≡ true → characters pair.value ≡ value
  pub ordered : IsOrdered string_cmp new.places
  pub all : new.all ≡ old.all
  pub lengths : new.lengths ≡ old.lengths

-- So it was if the key is named; otherwise nothing changed.
abbrev pub AddsPlace : {E : Type 0} → List ℕ → List ℕ → ℕ → NamedKeys → Result Bool E → NamedKeys → Type 0
AddsPlace key value place old (Ok true) new = (is_named old key ≡ true) × HasPlaceAdded key value place old new
AddsPlace key value place old (Ok false) new = (is_named old key ≡ false) × (new ≡ old)
AddsPlace key value place old (Err error) new = Unit {0}

-- ---- gaps

abbrev pub no_gap : ℕ → Gap
no_gap start = record { start = start; last_start = start; last = None; before = None }

abbrev pub gap_with : Gap → ℕ → Option BodySpan → Gap
gap_with gap start last = record { start = gap.start; last_start = start; last = last; before = option_or gap.last gap.before }

-- the part of groups without a key that is named, unless there are none
abbrev pub part_if : Bool → Part → List Part
part_if true p = p ∷ []
part_if false p = []

abbrev pub others_part : ℕ → ℕ → Option BodySpan → List Part
others_part start end last = part_if (nat_lt start end) (record { text = text.Span (record { start = start; end = end }); ending = None; kind = kind.Others last })

-- the part of a pair
abbrev pub pair_part : BodySpan → Option LineEnding → Part
pair_part s ending = record { text = text.Span s; ending = ending; kind = kind.Pair }

-- the line ending that bytes begin with
abbrev pub ending_read : List ℕ → Option LineEnding
ending_read [] = None
ending_read (b ∷ bs) = if b == carriage_return then Some (if begins_with_lf bs then CRLF else CR) else (if b == line_feed then Some LF else None)

abbrev pub span_of_group : Group → BodySpan
span_of_group group = record { start = group.start; end = group.end }

-- a gap, and a pair behind it, became parts
pub record AddsReadPair (d : List ℕ) (group : Group) (next : ℕ) (key value : List ℕ) (gap : Gap) (old : Parts) (after : Gap) (new : Parts) : Type 0 where
  pub front : List Part
  pub is_front : front ≡ old.parts.items ++ others_part gap.start group.start (option_or gap.last gap.before)
  pub parts : new.parts.items ≡ front ++ pair_part (span_of_group group) (ending_read (take (next - group.end) (drop group.end d))) ∷ []
  pub named : is_named old.keys key ≡ true
  pub placed : HasPlaceAdded key value (length front) old.keys new.keys
  pub gap_after : after ≡ no_gap next

-- a pair whose key isn't named, or another group, is in the gap
pub record AddsOther (group : Group) (pair : Option BodySpan) (gap : Gap) (old : Parts) (after : Gap) (new : Parts) : Type 0 where
  pub parts : new.parts ≡ old.parts
  pub keys : new.keys ≡ old.keys
  pub gap_after : after ≡ gap_with gap group.start pair

abbrev pub AddsTold : List ℕ → Group → ℕ → Option (List ℕ × List ℕ) → Gap → Parts → Gap → Parts → Type 0
AddsTold d group next None gap old after new = AddsOther group None gap old after new
AddsTold d group next (Some (key, value)) gap old after new =
    AddsReadPair d group next key value gap old after new
    ⊎ (is_named old.keys key ≡ false) × AddsOther group (Some (span_of_group group)) gap old after new

-- The group with this logical line was read and stored; or there is an error in it, or memory ran out.
abbrev pub ReadsGroupParts : Comments → List ℕ → List ℕ → Group → ℕ → Gap → Parts → Result Gap PropertiesError → Parts → Type 0
ReadsGroupParts comments d line group next gap old (Ok after) new =
    IsSoundFor comments (chars line) × AddsTold d group next (outcome_pair (outcome_of (chars line))) gap old after new
ReadsGroupParts comments d line group next gap old (Err e) new = IsErrorOfLine comments group.number (chars line) e ⊎ IsBareError error.Memory e

-- The last gap became parts.
pub record ClosesGap (gap : Gap) (end : ℕ) (old new : Parts) : Type 0 where
  pub parts : let start = max gap.start gap.last_start in
      new.parts.items ≡ (old.parts.items ++ others_part gap.start start gap.before) ++ others_part start end gap.last
  pub keys : new.keys ≡ old.keys

-- ---- the groups that parts stand for

-- what a group says
abbrev pub outcome : List HeldLine → Outcome
outcome g = outcome_of (joined (as_lines g))

-- a pair with a key that is named, or groups without such a pair
pub data Piece : Type 0 where
  own : List HeldLine → Piece
  others : List (List HeldLine) → Piece

abbrev pub piece_groups : Piece → List (List HeldLine)
piece_groups (own g) = g ∷ []
piece_groups (others gs) = gs

abbrev pub pieces_groups : List Piece → List (List HeldLine)
pieces_groups [] = []
pieces_groups (p ∷ ps) = piece_groups p ++ pieces_groups ps

-- a key and its value, if something is a pair
abbrev pub Said : Type 0
Said = Option (List ℕ × List ℕ)

-- what a group says as a pair, and a piece that is one
abbrev pub group_said : List HeldLine → Said
group_said g = outcome_pair (outcome g)

abbrev pub piece_said : Piece → Said
piece_said (own g) = group_said g
piece_said (others gs) = None

-- whether it is a pair with a key that is named
abbrev pub names_said : (List ℕ → Bool) → Said → Bool
names_said named None = false
names_said named (Some (key, value)) = named key

abbrev pub names_group : (List ℕ → Bool) → List HeldLine → Bool
names_group named g = names_said named (group_said g)

-- No group is a pair with such a key.
abbrev pub NoneNamed : (List ℕ → Bool) → List (List HeldLine) → Type 0
NoneNamed named [] = Unit {0}
NoneNamed named (g ∷ gs) = (names_group named g ≡ false) × NoneNamed named gs

-- the bytes of the last pair among groups, without its last line ending
abbrev pub pair_bytes_of : List HeldLine → Option (List ℕ)
pair_bytes_of g = option_map (λ said. unended_bytes g) (group_said g)

abbrev pub last_pair_bytes : List (List HeldLine) → Option (List ℕ)
last_pair_bytes [] = None
last_pair_bytes (g ∷ gs) = option_or (last_pair_bytes gs) (pair_bytes_of g)

-- Each of these groups has bytes.
abbrev pub HaveBytes : List (List HeldLine) → Type 0
HaveBytes [] = Unit {0}
HaveBytes (g ∷ gs) = (body.group_bytes g ≢ []) × HaveBytes gs

-- The text is a span of what was read, or doesn't begin with an LF.
abbrev pub IsOthersText : PartText → Type 0
IsOthersText (text.Span s) = Unit {0}
IsOthersText (text.Own v) = begins_with_lf v.items ≡ false

-- The part is this pair.
pub record IsPairPart (d : List ℕ) (named : List ℕ → Bool) (p : Part) (g : List HeldLine) : Type 0 where
  pub kind : p.kind ≡ kind.Pair
  pub within : IsTextWithin d p.text
  pub bytes : part_text_bytes d p.text ≡ unended_bytes g
  pub some : unended_bytes g ≢ []
  pub ending : option_map ending_of p.ending ≡ last_ending g
  pub is_named_pair : names_group named g ≡ true

-- The part stands for these groups. Only one without groups is empty.
pub record IsOthersPart (d : List ℕ) (named : List ℕ → Bool) (p : Part) (gs : List (List HeldLine)) : Type 0 where
  pub last : Option BodySpan
  pub kind : p.kind ≡ kind.Others last
  pub within : IsTextWithin d p.text
  pub bytes : part_text_bytes d p.text ≡ groups_bytes gs
  pub ending : p.ending ≡ None
  pub empty : gs ≡ [] → is_empty_part p ≡ true
  pub have : HaveBytes gs
  pub others_text : IsOthersText p.text
  pub unnamed : NoneNamed named gs
  pub last_within : IsLastWithin d p.text last
  pub last_pair : option_map (part_span_bytes d p.text) last ≡ last_pair_bytes gs

abbrev pub IsPartOf : List ℕ → (List ℕ → Bool) → Part → Piece → Type 0
IsPartOf d named p (own g) = IsPairPart d named p g
IsPartOf d named p (others gs) = IsOthersPart d named p gs

abbrev pub ArePartsOf : List ℕ → (List ℕ → Bool) → List Part → List Piece → Type 0
ArePartsOf d named [] [] = Unit {0}
ArePartsOf d named (p ∷ ps) (q ∷ qs) = IsPartOf d named p q × ArePartsOf d named ps qs
ArePartsOf d named ps qs = ⊥

-- a place before others, or not
abbrev pub place_if : Bool → ℕ → List ℕ → List ℕ
place_if true n places = n ∷ places
place_if false n places = places

-- whether a pair has a key
abbrev pub said_with : List ℕ → Said → Bool
said_with key said = names_said (λ k. bytes_eq k key) said

-- the places of the pairs with a key, where the first place is this one
abbrev pub places_with : List ℕ → ℕ → List Said → List ℕ
places_with key n [] = []
places_with key n (s ∷ ss) = place_if (said_with key s) n (places_with key (suc n) ss)

-- the value of a key among these: that of the last pair with it
abbrev pub value_if : List ℕ → Said → Option (List ℕ)
value_if key None = None
value_if key (Some (k, v)) = if bytes_eq k key then Some v else None

abbrev pub value_said : List ℕ → List Said → Option (List ℕ)
value_said key [] = None
value_said key (s ∷ ss) = option_or (value_said key ss) (value_if key s)

abbrev pub value_among : List ℕ → List (List HeldLine) → Option (List ℕ)
value_among key gs = value_said key (map group_said gs)

-- The keys have the places of their pairs, and, if all are named, their values.
pub record ArePlaced (said : List Said) (keys : NamedKeys) : Type 0 where
  pub places : (key : List ℕ) → places_of (stored_of keys.places.entries key) ≡ places_with key 0 said
  pub values : keys.all ≡ true → (key : List ℕ) → value_of (stored_of keys.places.entries key) ≡ value_said key said
  pub ordered : IsOrdered string_cmp keys.places

-- The last piece is one group.
abbrev pub EndsAlone : List Piece → Type 0
EndsAlone [] = ⊥
EndsAlone (p ∷ []) = (g : List HeldLine) × (piece_groups p ≡ g ∷ [])
EndsAlone (p ∷ q ∷ ps) = EndsAlone (q ∷ ps)

-- Behind the pieces come no groups, and the last piece is one; or an empty line comes.
abbrev pub IsEnd : List Piece → List (List HeldLine) → Type 0
IsEnd pieces [] = EndsAlone pieces
IsEnd pieces (l ∷ []) = body.group_bytes l ≡ []
IsEnd pieces (l ∷ m ∷ ls) = ⊥

-- The pieces are all groups, but for an empty line at the end.
pub record AreEnded (pieces : List Piece) (groups : List (List HeldLine)) : Type 0 where
  pub line : List (List HeldLine)
  pub division : groups ≡ pieces_groups pieces ++ line
  pub end : IsEnd pieces line

-- Parts of a body stand for these groups, and the keys that are named have their places.
pub record StandFor (d : List ℕ) (named : List ℕ → Bool) (groups : List (List HeldLine)) (parts : Parts) : Type 0 where
  pub pieces : List Piece
  pub ended : AreEnded pieces groups
  pub are_parts : ArePartsOf d named parts.parts.items pieces
  pub placed : ArePlaced (map piece_said pieces) parts.keys
  pub closing : parts.closing ≡ closing_of (is_empty_line (final_group groups)) (is_left_open (final_group groups))

-- A body without malformed escapes was read, but for those that are passed over, and the parts stand for its groups; or
-- its first malformed escape was found, or memory ran out.
abbrev pub ReadsParts : Comments → Encoding → List ℕ → NamedKeys → Result Parts PropertiesError → Type 0
ReadsParts comments e d keys (Ok parts) =
    AreSoundFor comments (held_groups_of e d) × StandFor d (is_named keys) (held_groups_of e d) parts × (parts.keys.all ≡ keys.all)
ReadsParts comments e d keys (Err error) = IsErrorOfGroups comments (held_groups_of e d) error

-- What groups of lines of parts give, on either side alike.
use Rattle.std.proofs.Common.{rules, arith, ◌≡◌, ℕ, Bool, true, false, List, [], ◌∷◌, ◌++◌, map, refl, ap, ap₂}
use Rattle.std.specs.Prelude.{not, ◌||◌}
use Rattle.std.proofs.lemmas.List.{map-append}
use Rattle.properties_format.specs.Lines.{InputEnd, end, joined, last_group, first_number}
use Rattle.properties_format.specs.Computed.Lines.{closes, groups_after}
use Rattle.properties_format.specs.Escapes.{Malformed, Meaning}
use Rattle.properties_format.specs.Computed.Escapes.{meaning_of}
use Rattle.properties_format.specs.Items.{comment, pair, Entry, item, read_fault, Outcome, ignored, given, broken}
use Rattle.properties_format.specs.Computed.Items.{comment_outcome, pair_outcome, split_outcome, outcome_of, followed, entries_of}
use Rattle.properties_format.specs.Converting.{AreSameEntries, HoldNoMalformed, AreSameOutcomes, AreSameGroups}
use Rattle.properties_format.proofs.Items.Unique.{outcome_of-only}
use Rattle.properties_format.proofs.RespeltTexts.Parts.{Part, text, AreParts}
use Rattle.properties_format.proofs.RespeltTexts.Joined.{ends_open, comment_parts, opens, comments, PartLine, line_on, AreLinesOfParts, joined_parts, joins, joined-parts}
use Rattle.properties_format.proofs.RespeltTexts.Divided.{LogicalParts, nothing, a_comment, a_pair, logical_on, AreLogical, split_parts, splits, split-parts}
use Rattle.properties_format.proofs.RespeltTexts.Meant.{MeanAlike, both_mean, both_break, mean-alike}

-- ---- one logical line

-- The outcomes are the same, or both are malformed.
data GiveAlike : Outcome → Outcome → Type 0 where
  same_outcome : (o : Outcome) → GiveAlike o o
  both_broken : (k l : Malformed) → GiveAlike (broken k) (broken l)

comment-alike : (m n : Meaning) → MeanAlike m n → GiveAlike (comment_outcome m) (comment_outcome n)
comment-alike _ _ (both_mean x) = same_outcome (given (comment x))
comment-alike _ _ (both_break k l) = both_broken k l

pair-alike : (m n k l : Meaning) → MeanAlike m n → MeanAlike k l → GiveAlike (pair_outcome m k) (pair_outcome n l)
pair-alike _ _ _ _ (both_mean x) (both_mean y) = same_outcome (given (pair x y))
pair-alike _ _ _ _ (both_mean x) (both_break k l) = both_broken k l
pair-alike _ _ _ _ (both_break k l) h = both_broken k l

split-alike : (what : LogicalParts) → AreLogical what → GiveAlike (split_outcome (logical_on false what)) (split_outcome (logical_on true what))
split-alike nothing h = same_outcome ignored
split-alike (a_comment ps) h = comment-alike (meaning_of (text false ps)) (meaning_of (text true ps)) (mean-alike ps h)
split-alike (a_pair ps qs) h = grind (arith, pair-alike, mean-alike)

outcome-alike : (ps : List Part) → AreParts ps → GiveAlike (outcome_of (text false ps)) (outcome_of (text true ps))
outcome-alike ps h = rw (splits false ps h, splits true ps h) (split-alike (split_parts ps) (split-parts ps h))

-- ---- groups

abbrev pub closes_parts : List PartLine → PartLine → Bool
closes_parts [] l = comment_parts l.parts || not (ends_open l.parts)
closes_parts (p ∷ ps) l = not (ends_open l.parts)

abbrev pub last_parts : List PartLine → InputEnd → List (List PartLine)
last_parts (l ∷ ls) end = (l ∷ ls) ∷ []
last_parts ls ending = []

-- the groups of these lines after lines of a group that is still open
abbrev pub groups_parts : List PartLine → List PartLine → InputEnd → List (List PartLine)
groups_parts before [] ending = last_parts before ending
groups_parts before (l ∷ ls) ending = elim (closes_parts before l) [
  | true ↦ (before ++ l ∷ []) ∷ groups_parts [] ls ending
  | false ↦ groups_parts (before ++ l ∷ []) ls ending
]

closing : (side : Bool) (ps : List PartLine) (l : PartLine) → AreParts l.parts → closes (map (line_on side) ps) (line_on side l) ≡ closes_parts ps l
closing side ps l h1 = grind (arith, comments, opens)

last-one : (side : Bool) (ps : List PartLine) (e : InputEnd) → last_group (map (line_on side) ps) e ≡ map (map (line_on side)) (last_parts ps e)
last-one side ps e = grind (arith)

parts-step : (before : List PartLine) (l : PartLine) (ls : List PartLine) (e : InputEnd) (b : Bool) → closes_parts before l ≡ b
    → groups_parts before (l ∷ ls) e ≡ elim b [ true ↦ (before ++ l ∷ []) ∷ groups_parts [] ls e | false ↦ groups_parts (before ++ l ∷ []) ls e ]
parts-step before l ls e b h = rw (← h) refl

pub groups : (side : Bool) (before ls : List PartLine) (e : InputEnd) → AreLinesOfParts ls
    → groups_after (map (line_on side) before) (map (line_on side) ls) e ≡ map (map (line_on side)) (groups_parts before ls e)
groups side before [] e h = last-one side before e
groups side before (l ∷ ls) e h = search (rules, closing, map-append, groups side [] ls e h.1, parts-step, groups side (before ++ l ∷ []) ls e h.1)

abbrev pub AreGroupsOfParts : List (List PartLine) → Type 0
AreGroupsOfParts [] = Unit {0}
AreGroupsOfParts (g ∷ gs) = AreLinesOfParts g × AreGroupsOfParts gs

lines-append : (ls ms : List PartLine) → AreLinesOfParts ls → AreLinesOfParts ms → AreLinesOfParts (ls ++ ms)
lines-append [] ms h k = k
lines-append (l ∷ ls) ms h k = (h.0, lines-append ls ms h.1 k)

pub groups-parts : (before ls : List PartLine) (e : InputEnd) → AreLinesOfParts before → AreLinesOfParts ls → AreGroupsOfParts (groups_parts before ls e)
groups-parts before [] e h k = search (rules)
groups-parts before (l ∷ ls) e h k =
    grind (arith, parts-step, lines-append, groups-parts [] ls e tt k.1, groups-parts (before ++ l ∷ []) ls e (lines-append before (l ∷ []) h (k.0, tt)) k.1)

-- ---- entries

first-number : (side : Bool) (g : List PartLine) → first_number (map (line_on side) g) ≡ first_number (map (line_on false) g)
first-number side [] = refl
first-number side (l ∷ ls) = refl

followed-alike : (n m : ℕ) (o p : Outcome) (es fs : List Entry) → n ≡ m → GiveAlike o p → AreSameEntries es fs
    → AreSameEntries (followed n o es) (followed m p fs)
followed-alike n m o p es fs h1 h2 h3 = grind (arith)

group-alike : (g : List PartLine) → AreLinesOfParts g → GiveAlike (outcome_of (joined (map (line_on false) g))) (outcome_of (joined (map (line_on true) g)))
group-alike g h = rw (joins false g h, joins true g h) (outcome-alike (joined_parts g) (joined-parts g h))

-- The groups of either side give the same entries.
pub entries-alike : (n : ℕ) (e : InputEnd) (gs : List (List PartLine)) → AreGroupsOfParts gs
    → AreSameEntries (entries_of n e (map (map (line_on false)) gs)) (entries_of n e (map (map (line_on true)) gs))
entries-alike n e [] h = search (rules)
entries-alike n e (g ∷ gs) h = grind (arith, followed-alike, first-number, group-alike, entries-alike n e gs h.1)

-- If no escape is malformed, the entries are the same.
pub same-items : (es fs : List Entry) → HoldNoMalformed es → AreSameEntries es fs → es ≡ fs
same-items (item n c ∷ es) (item m d ∷ fs) h k = ap₂ (λ x y. x ∷ y) (ap₂ item k.0 k.1) (same-items es fs h k.2)
same-items (read_fault n ∷ es) (read_fault m ∷ fs) h k = ap₂ (λ x y. x ∷ y) (ap read_fault k.0) (same-items es fs h k.1)
same-items es fs h1 h2 = grind (arith)

-- ---- groups, past malformed escapes

same-outcomes : (o p : Outcome) → GiveAlike o p → AreSameOutcomes o p
same-outcomes o p h1 = grind (arith)

-- The groups of either side are the same.
pub groups-alike : (gs : List (List PartLine)) → AreGroupsOfParts gs → AreSameGroups (map (map (line_on false)) gs) (map (map (line_on true)) gs)
groups-alike [] h = tt
groups-alike (g ∷ gs) h = grind (arith, first-number, outcome_of-only, same-outcomes, group-alike, groups-alike gs h.1)

-- The items of two texts of parts.
use Rattle.std.proofs.Common.{◌≡◌, Bool, true, false, List, [], map, length, ap, ap₂, ◌∙◌}
use Rattle.properties_format.specs.Lines.{InputEnd, line_endings, numbered_lines}
use Rattle.properties_format.specs.Computed.Lines.{lines_of, groups_of}
use Rattle.properties_format.specs.Computed.Items.{entries_of, items_of_lines}
use Rattle.properties_format.specs.Converting.{AreSameEntries, AreSameGroups}
use Rattle.properties_format.proofs.RespeltTexts.Parts.{Part, text, AreParts}
use Rattle.properties_format.proofs.RespeltTexts.Joined.{PartLine, line_on}
use Rattle.properties_format.proofs.RespeltTexts.Entries.{groups_parts, groups, AreGroupsOfParts, groups-parts, groups-alike, entries-alike}
use Rattle.properties_format.proofs.RespeltTexts.Lined.{lines_parts, lines-alike, line-parts, numbered_parts, numbers, numbered-parts, same-count}

-- the groups of the lines of parts
abbrev all_groups : List Part → InputEnd → List (List PartLine)
all_groups ps e = let lines = lines_parts ps in groups_parts [] (numbered_parts 0 lines.ended lines.last e) e

groups-on : (side : Bool) (ps : List Part) (e : InputEnd) → AreParts ps
    → groups_of (numbered_lines (lines_of (text side ps)) e) e ≡ map (map (line_on side)) (all_groups ps e)
groups-on side ps e h =
    let lines = lines_parts ps in
    let k = line-parts ps h in
    let ls = numbered_parts 0 lines.ended lines.last e in
    ap (λ v. groups_of (numbered_lines v e) e) (lines-alike side ps h)
    ∙ ap (λ v. groups_of v e) (numbers side 0 lines.ended lines.last e)
    ∙ groups side [] ls e (numbered-parts 0 lines.ended lines.last e k.ended k.last)

all-parts : (ps : List Part) (e : InputEnd) → AreParts ps → AreGroupsOfParts (all_groups ps e)
all-parts ps e h =
    let lines = lines_parts ps in
    let k = line-parts ps h in
    groups-parts [] (numbered_parts 0 lines.ended lines.last e) e tt (numbered-parts 0 lines.ended lines.last e k.ended k.last)

-- Both texts of parts have the same groups.
pub groups_of-alike : (ps : List Part) (e : InputEnd) → AreParts ps
    → AreSameGroups (groups_of (numbered_lines (lines_of (text false ps)) e) e) (groups_of (numbered_lines (lines_of (text true ps)) e) e)
groups_of-alike ps e h = rw (groups-on false ps e h, groups-on true ps e h) (groups-alike (all_groups ps e) (all-parts ps e h))

items-on : (side : Bool) (ps : List Part) (e : InputEnd) → AreParts ps
    → items_of_lines (lines_of (text side ps)) e ≡ entries_of (length (lines_parts ps).ended) e (map (map (line_on side)) (all_groups ps e))
items-on side ps e h = ap₂ (λ n v. entries_of n e v) (ap line_endings (lines-alike side ps h) ∙ same-count side (lines_parts ps).ended) (groups-on side ps e h)

-- Both texts of parts have the same items.
pub items-alike : (ps : List Part) (e : InputEnd) → AreParts ps
    → AreSameEntries (items_of_lines (lines_of (text false ps)) e) (items_of_lines (lines_of (text true ps)) e)
items-alike ps e h = rw (items-on false ps e h, items-on true ps e h) (entries-alike (length (lines_parts ps).ended) e (all_groups ps e) (all-parts ps e h))

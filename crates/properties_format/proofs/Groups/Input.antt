-- The groups of an input exist and are unique.
use Rattle.std.proofs.Common.{◌≡◌, ℕ, List, ap, ◌∙◌}
use Rattle.properties_format.specs.Encoding.{Encoding}
use Rattle.properties_format.specs.Computed.Encoding.{decoded_of}
use Rattle.properties_format.specs.Lines.{InputEnd, Line, numbered_lines, IsGroups, HasGroups}
use Rattle.properties_format.specs.Computed.Lines.{lines_of, groups_of, groups_in}
use Rattle.properties_format.proofs.Encodings.Pieces.{decoded_of-meets, decoded_of-only}
use Rattle.properties_format.proofs.Lines.Meets.{lines_of-meets}
use Rattle.properties_format.proofs.Lines.Only.{lines_of-only}
use Rattle.properties_format.proofs.Groups.Meets.{groups_of-meets}
use Rattle.properties_format.proofs.Groups.Only.{groups_of-only}

module _ (e : Encoding) (bytes : List ℕ) (ending : InputEnd) where
  -- The groups of its computed lines are its groups.
  pub groups-of_lines : {gs : List (List Line)} → IsGroups (numbered_lines (lines_of (decoded_of e bytes)) ending) ending gs → HasGroups e bytes ending gs
  groups-of_lines h =
      let text = decoded_of e bytes in
      record { text = text; lines = lines_of text; decoded = decoded_of-meets e bytes; divided = lines_of-meets text; grouped = h }

  -- It has the computed groups.
  pub groups_in-meets : HasGroups e bytes ending (groups_in e bytes ending)
  groups_in-meets = groups-of_lines (groups_of-meets (numbered_lines (lines_of (decoded_of e bytes)) ending) ending)

  -- It has no other lines.
  pub lines_in-only : {gs : List (List Line)} (h : HasGroups e bytes ending gs) → h.lines ≡ lines_of (decoded_of e bytes)
  lines_in-only h = lines_of-only h.text h.lines h.divided ∙ ap lines_of (decoded_of-only e bytes h.text h.decoded)

  -- It has no other groups.
  pub groups_in-only : (gs : List (List Line)) → HasGroups e bytes ending gs → gs ≡ groups_in e bytes ending
  groups_in-only gs h =
      groups_of-only (numbered_lines h.lines ending) ending gs h.grouped ∙ ap (λ v. groups_of (numbered_lines v ending) ending) (lines_in-only h)

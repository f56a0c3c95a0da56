use Rattle.std.proofs.Common.{◌+◌, ◌≡◌, ◌≤◌, ◌<◌, ◌∙◌, ◌∷◌, ◌++◌, [], ap, arith, get_or, length, refl, subst, sym}
use Rattle.std.specs.Prelude.{string_bytes}
use Rattle.std.specs.Str.{chars}
use Rattle.std.proofs.lemmas.List.{get_or-map, length-map}
use Rattle.properties_format.specs.Body.{group_bytes, held_in}
use Rattle.properties_format.specs.Computed.Items.{outcome_of}
use Rattle.properties_text.specs.Encoding.{encoding_of}
use Rattle.properties_editing.specs.Views.{OpenView, past_group}
use Rattle.properties_editing.specs.Editing.{asked_for}
use Rattle.properties_renaming.specs.Renaming.{IsRekeyed}
use Rattle.properties_renaming.specs.Renames.{NewName, name_in, names_in}
use Rattle.properties_renaming.specs.Private.Keyed.{KeepsValue, value_of}
use Rattle.properties_renaming.specs.Private.Renames.{AreLinesOf, last_in}
use Rattle.properties_renaming.specs.declared.renames.Rename.{Rename}
use Rattle.properties_renaming.proofs.KeyedValues.{not-some}
use Rattle.properties_renaming.proofs.RenamedKeys.{copied-group, next-among, next-slice, none-left, prints-next, viewed}
use Rattle.properties_renaming.proofs.RenamesAtOnce.{any-name, all-next, all-none, all-passed, given-new, given-same, lines-kept, lines-same, named-at, named-pair}
use Rattle.properties_renaming.proofs.renames.rename_by_roles.Goals as goal
use Rattle.properties_renaming.proofs.renames.rename_by_roles.Goals.{then-is_some+in_ok-keep_value, else-is_some, in-Some-last_in+in_ok-put_key, in_default-last_in}

pub loop-lines-init : goal.loop-lines-init
loop-lines-init c = all-none c.new-lines.result.entries c.in_ok-view.ensures c.in_ok-copied.ensures c.new-lines.ensures.empty

pub put_key-requires-clause-pair : goal.put_key-requires-clause-pair
put_key-requires-clause-pair c =
    let roles = c.args.roles.now.entries in
    let told = ap (λ w. value_of roles (outcome_of w)) (sym c.line.ensures) ∙ sym c.in_ok-role.ensures in
    named-pair (named-at (names_in c.args.renames.now) roles c.next.new.self.group c.in-Some-last_in.last c.requires
    (ap last_in told ∙ sym c.last_in.ensures ∙ c.in-Some-last_in.is))

pub put_key-requires-clause-among : goal.put_key-requires-clause-among
put_key-requires-clause-among c =
    next-among c.in_ok-view.ensures c.loop-lines.invariant.up c.in-Some.group (rw c.in-Some.is at c.in_ok-group.ensures.gives)

pub put_key-requires-clause-slice : goal.put_key-requires-clause-slice
put_key-requires-clause-slice c =
    let takes = rw c.in-Some.is at c.in_ok-group.ensures.gives in
    next-slice c.loop-lines.invariant.up c.next.new.self.group takes.takes (ap (λ w. let o : OpenView = w in o.start) takes.moves)

pub loop-lines-preserved : goal.loop-lines-preserved
loop-lines-preserved c =
    let now = c.loop-lines.view in
    let next = c.next.new.self in
    let g = next.group in
    let names = names_in c.args.renames.now in
    let roles = c.args.roles.now.entries in
    let lines = c.loop-lines.lines.entries in
    let h = c.loop-lines.invariant in
    let takes = rw c.in-Some.is at c.in_ok-group.ensures.gives in
    let start : next.start ≡ (past_group now).start = ap (λ w. let o : OpenView = w in o.start) takes.moves in
    let passed : next.passed ≡ (past_group now).passed = ap (λ w. let o : OpenView = w in o.passed) takes.moves in
    let encoding : next.encoding ≡ c.in_ok-view.view.encoding = ap (λ w. let o : OpenView = w in o.encoding) takes.moves ∙ h.up.encoding in
    let slice = next-slice {next = next} h.up g takes.takes start in
    let done : c.loop-lines.copied.done ≤ next.start = subst (λ s. c.loop-lines.copied.done ≤ s) (sym start) h.up.done in
    let end : c.loop-lines.copied.done ≤ next.start + length (group_bytes g) = omega arith in
    let line = takes.is_group.line_number in
    let count = h.up.number in
    let number : c.in-Some.group.line_number ≡ length (held_in h.up.passed) + 1 = omega arith in
    let told = ap (λ w. value_of roles (outcome_of w)) (sym c.line.ensures) ∙ sym c.in_ok-role.ensures in
    let last = ap last_in told ∙ sym c.last_in.ensures in
    let met : AreLinesOf names (h.up.passed ++ g ∷ []) c.if-is_some.lines.entries = elim c.if-is_some.branch [
      | then-is_some+in_ok-keep_value w ↦
          rw w.lines-is
          (lines-kept names roles lines w.keep_value.new.values.entries h.up.passed g c.in-Some.group.line_number
          (rw told (sym c.is_some.ensures ∙ w.if-is_some.true)) h.met
          (subst (λ x. KeepsValue lines (outcome_of x) c.in-Some.group.line_number w.keep_value.new.values.entries) w.line-then-is_some.ensures
          w.in_ok-keep_value.ensures) number)
      | else-is_some w ↦
          rw w.lines-is (lines-same names roles lines h.up.passed g c.requires (rw told (sym c.is_some.ensures ∙ w.if-is_some.false)) h.met)
    ] in
    elim c.match-last_in.branch [
      | in-Some-last_in+in_ok-put_key w ↦
          let index = w.in-Some-last_in.last in
          let at = named-at names roles g index c.requires (last ∙ w.in-Some-last_in.is) in
          let rename = w.index-renames-last.result in
          let prints = prints-next (asked_for c.args.options) c.repertoire_for-repertoire.result
          (encoding_of c.encoding.result) c.in_ok-view.view.encoding next.encoding
          c.encoding.ensures c.in_ok-view.ensures.editable encoding c.repertoire_for-repertoire.ensures in
          let k = w.in_ok-put_key.ensures (asked_for c.args.options).characters prints in
          let within : index < length c.args.renames.now =
          let sizes = length-map c.args.renames.now name_in in let below = at.at.0 in omega arith in
          let meant : Rename = get_or c.args.renames.now index rename in
          let own : w.deref.result.now ≡ string_bytes meant.new = w.deref.ensures in
          let named : name_in meant ≡ get_or names index any-name = sym (get_or-map name_in c.args.renames.now index rename any-name within) in
          let new : chars w.deref.result.now ≡ (get_or names index any-name).new = ap chars own ∙ ap (λ w. let n : NewName = w in n.new) named in
          let rekeyed = subst (λ t. IsRekeyed (viewed (asked_for c.args.options).characters next) c.loop-lines.first g t k.made) new k.rekeyed in
          rw w.copied-is
          (all-next c.if-is_some.lines.entries c.in-Some.group k.made h takes k.source_is k.done k.copied (given-new at rekeyed) met)
      | in_default-last_in w ↦
          rw w.copied-is
          (all-next c.if-is_some.lines.entries c.in-Some.group (group_bytes g) h takes refl end (copied-group next c.loop-lines.copied slice done)
          (given-same names roles g c.requires (last ∙ not-some c.last_in.result w.in_default-last_in.not-Some)) met)
    ]

pub returns : goal.returns
returns c =
    let none = none-left c.loop-lines.view c.next.new.self c.in_ok-group.field-0 c.in_ok-group.ensures.gives c.in_default.not-Some in
    all-passed (record { bytes = c.in_ok-bytes.bytes; lines = c.loop-lines.lines }) c.in_ok-view.ensures c.loop-lines.invariant none c.in_ok-bytes.ensures

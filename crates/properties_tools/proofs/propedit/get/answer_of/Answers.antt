use Rattle.std.proofs.Common.{◌≡◌, ◌<◌, ℕ, List, [], ◌∷◌, ◌++◌, length, take, ap, sym, ◌∙◌, refl, arith, append-nil}
use Rattle.std.specs.Prelude.{map, Option, Some, None}
use Rattle.std.specs.{List.flat_map, Option.option_map}
use Rattle.std.proofs.lemmas.List.{flat_map_more, map_more, map-append}
use Rattle.java_properties.specs.Maps.{characters}
use Rattle.properties_tools.specs.{Propedit.Get.ended_if, Propedit.Get.found_status, Propedit.Get.value_or, declared.propedit.request.Terminator.Terminator}
use Rattle.properties_changing.specs.Change.{borrowed_characters}
use Rattle.properties_tables.specs.Values.{value_texts}
use Rattle.properties_tools.proofs.propedit.get.answer_of.Goals.{in-Some+in_ok-push_ended-in-Some, in-None}
use Rattle.properties_tools.proofs.propedit.get.answer_of.Goals as goal

-- the status with one text more
status-some : (texts : List (Option (List ℕ))) (text : List ℕ) → found_status (texts ++ Some text ∷ []) ≡ found_status texts
status-some [] text = refl
status-some (Some t ∷ texts) text = status-some texts text
status-some (None ∷ texts) text = refl

status-none : (texts : List (Option (List ℕ))) → found_status (texts ++ None ∷ []) ≡ 1
status-none [] = refl
status-none (Some t ∷ texts) = status-none texts
status-none (None ∷ texts) = refl

-- what is printed with it
printed : (end : Terminator) (texts : List (Option (List ℕ))) (text : Option (List ℕ)) (old new : List ℕ) → old ≡ flat_map (ended_if end) texts
    → new ≡ old ++ ended_if end text
    → new ≡ flat_map (ended_if end) (texts ++ text ∷ [])
printed end texts text old new h k = k ∙ ap (λ v. v ++ ended_if end text) h ∙ flat_map_more (ended_if end) [] texts text

pub loop-value-preserved : goal.loop-value-preserved
loop-value-preserved c =
    let values = c.args.values.now in
    let i = c.loop-value.value-index in
    let default = option_map borrowed_characters c.args.shown.default in
    let below : i < length values = omega arith in
    let found = value_texts (take i values) in
    let texts = map (value_or default) found in
    let value = option_map characters c.value-item.result in
    let one = map_more (option_map characters) values i c.value-item.result below ∙ ap (λ v. found ++ option_map characters v ∷ []) (sym c.value-item.is) in
    let more = ap (map (value_or default)) one ∙ map-append (value_or default) found (value ∷ []) in
    elim c.match-value_or.branch [
      | in-Some+in_ok-push_ended-in-Some w ↦
          let is = sym (ap (option_map borrowed_characters) w.in-Some.is) ∙ c.value_or.ensures in
          let with = ap (λ v. texts ++ v ∷ []) is ∙ sym more in
          record {
            text = printed c.args.shown.end texts (Some (borrowed_characters w.in-Some.word)) c.loop-value.text.items c.match-value_or.text.items
                c.loop-value.invariant.text
                (ap (λ v. v.items) w.text-is ∙ w.in_ok-push_ended-in-Some.ensures)
                ∙ ap (flat_map (ended_if c.args.shown.end)) with;
            status = w.status-is ∙ c.loop-value.invariant.status ∙ sym (status-some texts (borrowed_characters w.in-Some.word)) ∙ ap found_status with;
          }
      | in-None w ↦
          let is = sym (ap (option_map borrowed_characters) w.in-None.is) ∙ c.value_or.ensures in
          let with = ap (λ v. texts ++ v ∷ []) is ∙ sym more in
          record {
            text = printed c.args.shown.end texts None c.loop-value.text.items c.match-value_or.text.items c.loop-value.invariant.text
                (ap (λ v. v.items) w.text-is ∙ sym (append-nil c.loop-value.text.items))
                ∙ ap (flat_map (ended_if c.args.shown.end)) with;
            status = w.status-is ∙ sym (status-none texts) ∙ ap found_status with;
          }
    ]

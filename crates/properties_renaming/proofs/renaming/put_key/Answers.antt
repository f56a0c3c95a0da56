use Rattle.std.proofs.Common.{◌++◌, ◌+◌, ◌-◌, ◌≡◌, ◌≤◌, ◌∙◌, ap, ap₂, arith, drop, length, subst, sym, take}
use Rattle.std.specs.Prelude.{◌&&◌, ◌==◌}
use Rattle.std.specs.Str.{chars}
use Rattle.std.proofs.lemmas.Result.{on_ok_weaker}
use Rattle.std.proofs.lemmas.Bool.{and_left}
use Rattle.properties_format.specs.Body.{group_bytes}
use Rattle.properties_format.specs.Encoding.{Repertoire}
use Rattle.properties_format.specs.Printing.{encoded_text}
use Rattle.properties_format.specs.Computed.Valued.{between_in}
use Rattle.properties_editing.specs.Views.{viewed_line}
use Rattle.properties_format.proofs.GroupsInTurn.Merged.{in-turn, turn-at}
use Rattle.properties_renaming.specs.Renaming.{key_text}
use Rattle.properties_renaming.specs.Private.Renaming.{later, past_joins}
use Rattle.properties_renaming.proofs.KeyPlaces.{placed}
use Rattle.properties_renaming.specs.Private.Copied.{IsReplacedIn}
use Rattle.properties_renaming.proofs.RenamedKeys.{and-true, pair-places, rekeyed-in}
use Rattle.properties_renaming.proofs.renaming.put_key.Goals as goal
use Rattle.properties_renaming.proofs.renaming.put_key.Goals.{then-key, else-key}

pub returns : goal.returns
returns c =
    let v = c.args.view.now in
    let old = c.args.copied.now in
    let new = c.replace.new.self in
    let gb = group_bytes v.group in
    let n = c.joins_size.result in
    let places = c.in_ok-places.field-0 in
    let text = c.as_slice.result.now in
    let start = c.requires.group.start in
    let next = c.requires.group.next in
    let size : c.args.group.next - c.args.group.start ≡ length gb = omega arith in
    let same : take (c.args.group.next - c.args.group.start) (drop c.args.group.start c.source.result.now) ≡ gb =
    ap₂ take size (ap₂ drop start c.source.ensures) ∙ c.requires.slice.bytes in
    let within : n ≤ length gb = subst (λ w. n ≤ length w) same c.joins_size.ensures.within in
    let rest : drop n gb ≡ past_joins gb = subst (λ w. drop n w ≡ past_joins w) same c.joins_size.ensures.rest in
    let at = pair-places v places c.in_ok-places.ensures.places c.requires.pair in
    let m = c.requires.among in
    let (ending, lines, fit) = turn-at v.encoding m.before v.group m.after (rw m.division at (in-turn v.encoding m.body m.groups m.editable m.are)) in
    let k = placed v.encoding ending v.group at.0 at.1 m.editable lines fit at.2.is_pair n within rest at.2.key_end.0 in
    let first : c.if-key.is_first ≡ (c.args.key.first && (v.start + n == v.start)) = elim c.if-key.branch [
      | then-key w ↦ w.is_first-is ∙ ap (λ s. s + n == s) start ∙ sym (and-true c.args.key.first (v.start + n == v.start) w.if-key.true)
      | else-key w ↦ w.is_first-is ∙ w.if-key.false ∙ sym (and_left c.args.key.first (v.start + n == v.start) w.if-key.false)
    ] in
    let printed = rw c.line.ensures at c.in_ok-print_key.ensures in
    on_ok_weaker c.replace.result
    (λ replaced. λ characters prints.
    let t : Repertoire = record { encoding = v.encoding; characters = characters } in
    let key = encoded_text t.encoding (key_text t c.if-key.is_first (between_in (viewed_line v)) (chars c.args.key.text.now)) in
    rekeyed-in characters v old new c.args.key places at.0 at.1 text n c.if-key.is_first
    c.requires.slice (subst (λ s. old.done ≤ s) start c.requires.done) at.2 k first
    (c.as_slice.ensures ∙ printed c.requires.pair t prints ∙ ap (λ w. w ++ key) c.new-text.ensures)
    (subst (λ s. IsReplacedIn old (s + n) (later (s + n) places.key_end) text new) start
    (subst (λ e. IsReplacedIn old (c.args.group.start + n) e text new) c.later-end.ensures replaced)))
    c.replace.ensures

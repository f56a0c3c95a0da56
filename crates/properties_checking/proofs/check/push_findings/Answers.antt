use Rattle.std.proofs.Common.{◌≡◌, ◌≤◌, ◌+◌, ◌++◌, ◌∙◌, [], ◌∷◌, List, ap, arith, get_or, length, map, subst, sym, take}
use Rattle.std.proofs.lemmas.List.{map-append, take_all, take_more}
use Rattle.properties_checking.specs.{Private.Checking.finding_of, Private.Checking.said_of, Private.Objects.AddsReport, Kinds.is_ignored, Kinds.reported}
use Rattle.properties_checking.specs.{declared.check.Finding.Finding, declared.check.FindingKind.TheVariants.HoldsZero, declared.kinds.Kind.Kind}
use Rattle.properties_tables.specs.Private.Table.{table_places}
use Rattle.properties_checking.specs.Check.{finding_kind, said_line, said_value, SaidFinding}
use Rattle.properties_checking.proofs.{Json.adds-both, Json.adds-none, LeftOut.one-ignored, LeftOut.one-reported}
use Rattle.properties_checking.proofs.{check.push_findings.Goals.then-not-contains+in_ok-push_finding, check.push_findings.Goals.else-not-contains}
use Rattle.properties_checking.proofs.check.push_findings.Goals as goal

pub loop-finding-init : goal.loop-finding-init
loop-finding-init c = adds-none (said_line c.args.heading.name.now) (said_value c.args.heading.name.now) c.args.heading.report c.args.text.now

pub loop-finding-preserved : goal.loop-finding-preserved
loop-finding-preserved c =
    let name = c.args.heading.name.now in
    let said = said_of (table_places c.args.keys.now) in
    let ignored = c.args.heading.ignored in
    let kind : SaidFinding → Kind = λ s. finding_kind s.what in
    let fs : List Finding = c.args.findings.now in
    let i = c.loop-finding.finding-index in
    let d : Finding = finding_of HoldsZero 0 in
    let x : Finding = get_or fs i d in
    let before : List SaidFinding = map said (take i fs) in
    let more : map said (take (i + 1) fs) ≡ before ++ said x ∷ [] =
    ap (map said) (take_more fs i d c.loop-finding-test.true) ∙ map-append said (take i fs) (x ∷ []) in
    let told : is_ignored ignored (kind (said x)) ≡ c.contains.result =
    ap (is_ignored ignored) (sym (c.kind_of.ensures (table_places c.args.keys.now))) ∙ sym c.contains.ensures in
    elim c.if-not-contains.branch [
      | then-not-contains+in_ok-push_finding w ↦
          rw (w.text-is, more, one-reported ignored kind before (said x) (told ∙ w.if-not-contains.true)) (
          adds-both (said_line name) (said_value name) c.args.heading.report _ _ c.loop-finding.invariant w.in_ok-push_finding.ensures
          )
      | else-not-contains w ↦ rw (w.text-is, more, one-ignored ignored kind before (said x) (told ∙ w.if-not-contains.false)) c.loop-finding.invariant
    ]

pub returns : goal.returns
returns c =
    let name = c.args.heading.name.now in
    let fs : List Finding = c.args.findings.now in
    let i = c.loop-finding.finding-index in
    let test = c.loop-finding-test.false in
    let past : length fs ≤ i = omega arith in
    subst (λ v. AddsReport c.args.heading.report (said_line name) (said_value name)
    (reported c.args.heading.ignored (λ s. finding_kind s.what) (map (said_of (table_places c.args.keys.now)) v)) c.args.text.now c.loop-finding.text)
    (take_all i fs past) c.loop-finding.invariant

use Rattle.std.proofs.Common.{◌∙◌, ◌++◌, ℕ, List, ap, map}
use Rattle.properties_checking.specs.{Private.Checking.misread_finding, declared.check.Finding.Finding}
use Rattle.properties_checking.specs.declared.misread.Misread.TheVariants.{MarkInside}
use Rattle.properties_checking.proofs.misread.find_misread.Goals as goal

pub returns : goal.returns
returns c =
    let numbers : List ℕ = c.in_ok-numbers.numbers.items in
    let marks : List Finding = map (misread_finding MarkInside) numbers in
    let inside = (rw c.deref.ensures.value at c.in_ok-push_all.ensures) ∙ ap (λ v. v ++ marks) c.new-findings.ensures.items in
    let added = c.in_ok-push_ends.ensures in
    let ends : List Finding = added.0 in
    record {
      inside = numbers;
      are_inside = c.in_ok-numbers.ensures.are;
      ends = ends;
      are_ends = added.1;
      is = added.2 ∙ ap (λ v. v ++ ends) inside;
    }

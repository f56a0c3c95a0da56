-- A call that is refused because of a list.
use Rattle.std.proofs.Common.{ℕ, List, refl, inl, inr}
use Rattle.std.specs.Prelude.{◌⊎◌, ℤ}
use Rattle.properties_c.specs.{Crossing.crossing, Crossing.AnswersCall, Crossing.RefusesCall, Packed.Meaning, Packed.IsBadList, Packed.LacksText}
use Rattle.properties_c.specs.{Private.Lists.RefusesList, declared.status.Status.Status, declared.status.Status.TheVariants.NoMemory}
use Rattle.properties_c.specs.{declared.status.Status.TheVariants.NotUtf8, declared.status.Status.TheVariants.BadList}

pub list-crossed : {A : Type 0} (m : Meaning A) (list : List ℕ) (status : Status) (out : List ℕ) (returned : ℤ) (count line : ℕ)
    → RefusesList m list status → AnswersCall status 0 0 returned count line
    → IsBadList m list × RefusesCall BadList 0 (crossing out returned count line out)
    ⊎ (LacksText m list × RefusesCall NotUtf8 0 (crossing out returned count line out) ⊎ RefusesCall NoMemory 0 (crossing out returned count line out))
list-crossed m list BadList out returned count line h answers = inl (h, record { answers = answers; kept = refl })
list-crossed m list NotUtf8 out returned count line h answers = inr (inl (h, record { answers = answers; kept = refl }))
list-crossed m list NoMemory out returned count line h answers = inr (inr (record { answers = answers; kept = refl }))
list-crossed m list other out returned count line h answers = absurd h

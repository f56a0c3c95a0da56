use Rattle.std.proofs.Common.{◌≡◌, rules, refl, inl, inr, to_z, of_z, w32}
use Rattle.properties_c.proofs.GivenParts.{front-across}
use Rattle.properties_c.proofs.part.give_part.Goals as goal

pub returns-in-Some : goal.returns-in-Some
returns-in-Some c =
    let front = c.front_of-front in (
      front.result.now,
      front.ensures.0,
      front.ensures.1,
      inr (c.in-Some.number, c.in-Some.ensures, record { answers = search rules; kept = refl }),
    )

pub returns-in-Ok : goal.returns-in-Ok
returns-in-Ok c =
    let plain : to_z w32 (of_z w32 c.write_up_to.result) ≡ c.write_up_to.result = search rules in
    let front = c.front_of-front in
    rw plain (
      front.result.now,
      front.ensures.0,
      front.ensures.1,
      inl (
        c.in_default.ensures,
        inl (front-across c.deref.result.now c.in-Ok.items _ front.ensures.1 c.in-Ok.ensures c.deref.ensures.value c.write_up_to.ensures),
      ),
    )

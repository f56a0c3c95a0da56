-- What a program takes of the arguments that it is called with.
use Rattle.std.specs.Prelude.{◌≡◌, ◌≢◌, ◌⊎◌, List, [], ◌∷◌, Option, Some, None, Result, Ok, Err}
use Rattle.std.specs.Global.{Vec}
use Rattle.std.specs.IoError.{error_kind}
use Rattle.std.specs.Vec.Iter.{into_iter_items}
use Rattle.std.specs.declared.io.Error.{Error}
use Rattle.std.specs.declared.io.ErrorKind.TheVariants.{InvalidData, OutOfMemory}
use Rattle.std.specs.declared.vec.IntoIter.{IntoIter}

-- a list without its first element
abbrev pub after_first : {X : Type 0} → List X → List X
after_first [] = []
after_first (x ∷ xs) = xs

-- The arguments after the first, unless memory runs out for them. If one of them isn't UTF-8, there are none, and any
-- other error is returned.
abbrev pub TakesWords : {X Z : Type 0} → Result (IntoIter X Z) Error → Result (Option (Vec X)) Error → Type 0
TakesWords (Ok arguments) (Ok (Some words)) = words.items ≡ after_first (into_iter_items arguments)
TakesWords (Ok arguments) (Ok None) = ⊥
TakesWords (Ok arguments) (Err error) = error_kind error ≡ OutOfMemory
TakesWords (Err error) result = ((error_kind error ≡ InvalidData) × (result ≡ Ok None)) ⊎ ((error_kind error ≢ InvalidData) × (result ≡ Err error))

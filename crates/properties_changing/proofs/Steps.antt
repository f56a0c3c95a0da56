-- Steps of a change, one after another.
use Rattle.std.proofs.Common.{ℕ, List, [], ◌∷◌, ◌++◌, refl, subst}
use Rattle.std.specs.{Prelude.Ok, Global.Vec}
use Rattle.properties_format.specs.Encoding.{Encoding}
use Rattle.properties_changing.specs.{Change.ChangesByStep, Change.Leave, declared.request.Step.Step}

-- what one step more leaves
pub leave-more : (e : Encoding) (source : List ℕ) (steps : List Step) (left : List ℕ) (s : Step) (bytes : Vec ℕ)
    → Leave e source steps left → ChangesByStep e left s (Ok bytes) → Leave e source (steps ++ s ∷ []) bytes.items
leave-more e source [] left s bytes is made = (bytes, subst (λ b. ChangesByStep e b s (Ok bytes)) is made, refl)
leave-more e source (t ∷ steps) left s bytes (next, by, leave) made = (next, by, leave-more e next.items steps left s bytes leave made)

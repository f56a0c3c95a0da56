-- The bytes of a source, copied with some of them replaced.
use Rattle.std.specs.Prelude.{◌≡◌, ◌-◌, ◌++◌, ℕ, List, [], take, drop}
use Rattle.properties_renaming.specs.declared.copied.Copied.{Copied}

-- what was copied and put in, and the source from there up to this place
abbrev pub copied_to : Copied → ℕ → List ℕ
copied_to c place = c.bytes.items ++ take (place - c.done) (drop c.done c.source.now)

pub record IsNew (source : List ℕ) (c : Copied) : Type 0 where
  pub source_is : c.source.now ≡ source
  pub nothing : c.bytes.items ≡ []
  pub done : c.done ≡ 0

pub record IsReplacedIn (old : Copied) (start end : ℕ) (bytes : List ℕ) (new : Copied) : Type 0 where
  pub source_is : new.source.now ≡ old.source.now
  pub bytes_are : new.bytes.items ≡ copied_to old start ++ bytes
  pub done : new.done ≡ end

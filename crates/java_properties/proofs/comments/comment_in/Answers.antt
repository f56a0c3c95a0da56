use Rattle.std.proofs.Common.{◌≡◌, ℕ, List, ap, subst, ◌∙◌, inl}
use Rattle.std.specs.Prelude.{Option, Result, Ok, Err}
use Rattle.std.specs.Str.{chars}
use Rattle.std.specs.Global.{Global}
use Rattle.std.specs.declared.string.String.{String}
use Rattle.std.specs.declared.vec.Vec.{Vec}
use Rattle.properties_format.specs.Encoding.{Encoding}
use Rattle.properties_editing.specs.Documents.{OpenDocument}
use Rattle.properties_items.specs.declared.error.PropertiesError.{PropertiesError}
use Rattle.java_properties.specs.Commented.{TellsComment, TellsCommentIn}
use Rattle.java_properties.proofs.comments.comment_in.Goals as goal

told-in : (d : OpenDocument) (e : Encoding) (source key : List ℕ) (result : Result (Option (Vec (String Global) Global)) PropertiesError) → e ≡ d.repertoire.encoding
    → source ≡ d.bytes → TellsComment e source key result → TellsCommentIn d key result
told-in d e source key (Ok texts) encoding bytes h =
    subst (λ s. TellsComment d.repertoire.encoding s key (Ok texts)) bytes (subst (λ f. TellsComment f source key (Ok texts)) encoding h)
told-in d e source key (Err error) encoding bytes h =
    inl (subst (λ s. TellsComment {Y = Global} {Z = Global} d.repertoire.encoding s key (Err error)) bytes
    (subst (λ f. TellsComment {Y = Global} {Z = Global} f source key (Err error)) encoding h))

pub returns : goal.returns
returns c =
    told-in c.args.document.now _ c.deref.result.now (chars c.args.key.now) c.comment_of.result
    (ap (λ r. r.encoding) c.options.ensures.0)
    (c.deref.ensures.value ∙ c.in_ok-bytes.ensures)
    c.comment_of.ensures

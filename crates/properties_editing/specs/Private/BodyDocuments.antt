-- What a document holds: the parts of a source, in which nothing is malformed but in comments that are passed over.
use Rattle.std.specs.Prelude.{◌≡◌, ℕ, Bool, true, List}
use Rattle.properties_format.specs.Encoding.{Encoding, InForce, Repertoire, byte_order_mark, characters_for}
use Rattle.properties_format.specs.Body.{HeldLine}
use Rattle.properties_format.specs.Computed.Body.{held_groups_of}
use Rattle.properties_text.specs.Encoding.{encoding_of}
use Rattle.properties_editing.specs.Documents.{OpenDocument}
use Rattle.properties_editing.specs.Private.EditedParts.{AreParts}
use Rattle.properties_editing.specs.Private.Sound.{AreSoundFor}
use Rattle.properties_editing.specs.Private.SourceParts.{source_bytes}
use Rattle.properties_editing.specs.declared.document.Document.TheInside.{Inside}

-- the groups of the body of these bytes
abbrev pub document_groups : Encoding → List ℕ → List (List HeldLine)
document_groups e bytes = let w : InForce = byte_order_mark e bytes in held_groups_of w.encoding w.body

-- every key is named
abbrev pub every : List ℕ → Bool
every key = true

-- what was requested, and the bytes after the edits
abbrev pub document_repertoire : Inside → Repertoire
document_repertoire d =
    let opened = d.edited.opened in record { encoding = encoding_of d.encoding; characters = characters_for opened.ascii_only opened.latin_1 }

abbrev pub document_bytes : Inside → List ℕ
document_bytes d = source_bytes d.source.items d.edited

abbrev pub open_document : Inside → OpenDocument
open_document d = record { repertoire = document_repertoire d; comments = d.comments; bytes = document_bytes d }

-- The parts stand for its bytes, the values of all keys are stored, and nothing in it is malformed but in comments that
-- are passed over.
pub record IsDocument (d : Inside) : Type 0 where
  pub parts : AreParts (document_repertoire d) d.source.items (document_bytes d) every d.edited
  pub all : d.edited.parts.keys.all ≡ true
  pub sound : AreSoundFor d.comments (document_groups (encoding_of d.encoding) (document_bytes d))

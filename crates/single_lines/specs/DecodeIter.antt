-- What the iterator over characters is between two calls, and what a call of it does.
use Rattle.std.specs.Prelude.{◌≡◌, ℕ, Bool, true, false, List, [], ◌∷◌, ◌++◌, Option, Some, None, Result, Ok, Err}
use Rattle.std.specs.declared.io.Error.{Error}
use Rattle.counted_io.specs.Streams.{Reader, HasRead, HasFailed, has_ended}
use Rattle.properties_format.specs.Encoding.{Encoding}
use Rattle.properties_format.specs.Computed.Encoding.{characters_from, awaits_more}
use Rattle.properties_text.specs.Encoding.{encoding_of}
use Rattle.single_lines.specs.declared.decode_iter.CharacterDecoder.{CharacterDecoder}
use Rattle.single_lines.specs.declared.decode_iter.Ending.{Ending}
use Rattle.single_lines.specs.declared.decode_iter.Ending.TheVariants.{More, End, Fault}

-- The bytes read and not decoded: the encoding asked for, or the one in force once the byte order mark is decided; and how the input goes on after them.
pub record Undecoded : Type 0 where
  pub encoding : Encoding
  pub is_decided : Bool
  pub held : List ℕ
  pub ending : Ending

abbrev pub undecoded : CharacterDecoder → Undecoded
undecoded s = record { encoding = encoding_of s.encoding; is_decided = s.is_decided; held = s.bytes; ending = s.ending }

-- no bytes come any more
abbrev pub is_over : Ending → Bool
is_over More = false
is_over End = true
is_over (Fault e) = true

-- the first piece is not there, or bytes that come may change it
abbrev pub awaits_piece : Encoding → List ℕ → Bool
awaits_piece e [] = true
awaits_piece e (b ∷ d) = awaits_more e b d

abbrev pub waits : Undecoded → Bool
waits s = awaits_piece s.encoding s.held

-- the bytes that come: none where the input is over
abbrev pub coming : Ending → List ℕ → List ℕ
coming More d = d
coming End d = []
coming (Fault e) d = []

-- the characters to come, where these bytes come
abbrev pub characters_to_come : Undecoded → List ℕ → List ℕ
characters_to_come s d = characters_from s.encoding s.is_decided (s.held ++ coming s.ending d)

-- these bytes may come
abbrev pub CanCome : Ending → List ℕ → Type 0
CanCome ending d = coming ending d ≡ d

-- Whatever bytes come, the characters to come are this text and then those of the new state, which the input goes on after as it did.
pub record GivesOn (old : Undecoded) (text : List ℕ) (new : Undecoded) : Type 0 where
  pub same : new.ending ≡ old.ending
  pub comes : (d : List ℕ) → CanCome new.ending d → characters_to_come old d ≡ text ++ characters_to_come new d

-- the next character is given, or there is none
abbrev pub TakesCharacter : Undecoded → Option ℕ → Undecoded → Type 0
TakesCharacter old None new = (new ≡ old) × (old.held ≡ [])
TakesCharacter old (Some c) new = GivesOn old (c ∷ []) new

-- How an input went on by these bytes: more may come, or it ended, or a read failed. Where it was over, nothing was read.
abbrev pub GoesOn : {R : Type 0} → Reader R → R → Ending → List ℕ → R → Ending → Type 0
GoesOn reader old More read new More = HasRead reader old read new
GoesOn reader old More read new End = HasRead reader old read new × (has_ended reader new ≡ true)
GoesOn reader old More read new (Fault e) = HasFailed reader old read e new
GoesOn reader old End read new ending = (read ≡ []) × (new ≡ old) × (ending ≡ End)
GoesOn reader old (Fault e) read new ending = (read ≡ []) × (new ≡ old) × (ending ≡ Fault e)

-- Some bytes were read. Whatever comes after them, the characters to come are this text and then those of the new state.
pub record Decodes {R : Type 0} (reader : Reader R) (old : R) (from : Undecoded) (text : List ℕ) (new : R) (to : Undecoded) : Type 0 where
  pub read : List ℕ
  pub goes_on : GoesOn reader old from.ending read new to.ending
  pub comes : (d : List ℕ) → CanCome to.ending d → characters_to_come from (read ++ d) ≡ text ++ characters_to_come to d

-- Some bytes were read, and no character was taken.
abbrev pub ReadsOn : {R : Type 0} → Reader R → R → CharacterDecoder → R → CharacterDecoder → Type 0
ReadsOn reader old from new to = Decodes reader old (undecoded from) [] new (undecoded to)

-- Some bytes were read, up to this ending. No character comes of them, and from now on none is to come.
pub record Ends {R : Type 0} (reader : Reader R) (old : R) (from : Undecoded) (ending : Ending) (new : R) (to : Undecoded) : Type 0 where
  pub read : List ℕ
  pub goes_on : GoesOn reader old from.ending read new ending
  pub none : characters_to_come from read ≡ []
  pub empty : to.held ≡ []
  pub over : to.ending ≡ End

-- the iterator between two calls
pub record Decoding (R : Type 0) : Type 0 where
  pub reader : R
  pub undecoded : Undecoded

abbrev pub DecodesNext : {R : Type 0} → Reader R → Decoding R → Option (Result ℕ Error) → Decoding R → Type 0
DecodesNext reader old None new = Ends reader old.reader old.undecoded End new.reader new.undecoded
DecodesNext reader old (Some (Err e)) new = Ends reader old.reader old.undecoded (Fault e) new.reader new.undecoded
DecodesNext reader old (Some (Ok c)) new = Decodes reader old.reader old.undecoded (c ∷ []) new.reader new.undecoded

abbrev pub decoding : {R : Type 0} → R → CharacterDecoder → Decoding R
decoding reader decoder = record { reader = reader; undecoded = undecoded decoder }

-- the fault of an ending
abbrev pub ShowsFault : Ending → Option Error → Type 0
ShowsFault ending None = (e : Error) → ending ≡ Fault e → ⊥
ShowsFault ending (Some e) = ending ≡ Fault e

-- at the start, before the byte order mark
abbrev pub fresh : Encoding → Undecoded
fresh e = record { encoding = e; is_decided = false; held = []; ending = More }

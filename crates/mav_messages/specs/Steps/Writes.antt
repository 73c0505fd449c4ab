-- What is put into a payload field by field. Each says what the payload is before any rest, so that
-- the puts of a message follow one another.
use Rattle.std.specs.Prelude.{ℕ, ◌≡◌, ◌<◌, ◌^◌, Bool, if◌then◌else◌, List, [], ◌++◌, length}
use Rattle.mav_messages.specs.declared.messages.Message.{Message}
use Rattle.mav_messages.specs.Fields.{layout_of}
use Rattle.mav_messages.specs.Payload.{number_bytes, wire_bytes, Suit}
use Rattle.mav_messages.specs.Messages.{description_of, field_values}

-- A number of a width is put, and fits it.
pub record PutsNumber (width number : ℕ) (old new : List ℕ) : Type 0 where
  pub next : (rest : List ℕ) → new ++ rest ≡ old ++ (number_bytes width number ++ rest)
  pub fits : number < 256 ^ width

-- A number that version 1 doesn't send is put in version 2.
pub record PutsExtension (v2 : Bool) (width number : ℕ) (old new : List ℕ) : Type 0 where
  pub next : (rest : List ℕ)
      → new ++ rest ≡ old ++ ((if v2 then number_bytes width number else []) ++ rest)
  pub fits : number < 256 ^ width

-- So many bytes are put.
pub record PutsChars (size : ℕ) (chars old new : List ℕ) : Type 0 where
  pub next : (rest : List ℕ) → new ++ rest ≡ old ++ (chars ++ rest)
  pub count : length chars ≡ size

-- The bytes are those of the message's fields, and each value suits its row.
pub record IsSpelled (v2 : Bool) (message : Message) (bytes : List ℕ) : Type 0 where
  pub bytes_are : bytes ≡ wire_bytes v2 (layout_of (description_of message)) (field_values message)
  pub suit : Suit (layout_of (description_of message)) (field_values message)

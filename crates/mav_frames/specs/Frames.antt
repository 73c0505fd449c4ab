-- What stands in a frame.
--
-- Version 1: 0xFE, length, sequence, system, component, id, payload, CRC in two bytes, the low one
-- first. Version 2: 0xFD, length, incompat flags, compat flags, sequence, system, component, id in
-- three bytes, payload, CRC, and where the frame is signed thirteen bytes more.
use Rattle.std.specs.Prelude.{ℕ, ◌≡◌, ◌+◌, ◌-◌, ◌<◌, ◌==◌, ◌↔◌, Bool, if◌then◌else◌, List, [], ◌∷◌, ◌++◌, length, take, drop, slice_index, option_map, Some, IsTrue}
use Rattle.byteorder.specs.Endian.{little_number, little_bytes}
use Rattle.mav_crc.specs.Register.{crc_of}
use Rattle.mav_messages.specs.Fields.{Description, layout_of}
use Rattle.mav_messages.specs.Descriptions.{described}
use Rattle.mav_messages.specs.declared.messages.Message.{Message}
use Rattle.mav_messages.specs.Payload.{IsPayload}
use Rattle.mav_messages.specs.Messages.{SaysMessage, description_of, field_values}
use Rattle.mav_frames.specs.declared.frames.Frame.{Frame}
use Rattle.mav_frames.specs.declared.frames.Heading.{Heading}

abbrev pub is_v2 : List ℕ → Bool
is_v2 bytes = slice_index bytes 0 == 0xFD

-- where the sequence number stands; system and component follow it
abbrev pub sequence_place : Bool → ℕ
sequence_place v2 = if v2 then 4 else 2

-- where the payload begins
abbrev pub header_length : Bool → ℕ
header_length v2 = if v2 then 10 else 6

-- the incompat flags
abbrev pub flags_of : List ℕ → ℕ
flags_of bytes = if is_v2 bytes then slice_index bytes 2 else 0

abbrev pub id_of : List ℕ → ℕ
id_of bytes = if is_v2 bytes then little_number 3 (drop 7 bytes) else slice_index bytes 5

abbrev pub payload_of : List ℕ → List ℕ
payload_of bytes = take (slice_index bytes 1) (drop (header_length (is_v2 bytes)) bytes)

-- the bytes that the CRC covers: from after the start byte to the payload's end
abbrev pub covered : List ℕ → List ℕ
covered bytes = take (header_length (is_v2 bytes) + slice_index bytes 1 - 1) (drop 1 bytes)

-- the CRC that the frame has
abbrev pub crc_in : List ℕ → ℕ
crc_in bytes = little_number 2 (drop (header_length (is_v2 bytes) + slice_index bytes 1) bytes)

-- A right frame: its id is listed, its CRC is that of the covered bytes and then the message's
-- extra byte, and no incompat flag is set but for bit 0.
pub record IsRight (bytes : List ℕ) : Type 0 where
  pub extra : ℕ
  pub listed : option_map (λ (d : Description). d.extra) (described (id_of bytes)) ≡ Some extra
  pub agrees : crc_in bytes ≡ crc_of (crc_of 0xFFFF (covered bytes)) (extra ∷ [])
  pub known : flags_of bytes < 2

-- The frame has what stands in the bytes.
pub record IsReadFrom (bytes : List ℕ) (frame : Frame) : Type 0 where
  pub v2 : frame.v2 ≡ is_v2 bytes
  pub incompat : frame.incompat ≡ flags_of bytes
  pub seq : frame.seq ≡ slice_index bytes (sequence_place (is_v2 bytes))
  pub system : frame.system ≡ slice_index bytes (sequence_place (is_v2 bytes) + 1)
  pub component : frame.component ≡ slice_index bytes (sequence_place (is_v2 bytes) + 2)
  pub id : frame.id ≡ id_of bytes
  pub payload : frame.payload.items ≡ payload_of bytes
  pub right : IsTrue frame.right ↔ IsRight bytes

-- The heading has what stands in the bytes.
pub record IsHeadingOf (bytes : List ℕ) (heading : Heading) : Type 0 where
  pub v2 : heading.v2 ≡ is_v2 bytes
  pub system : heading.system ≡ slice_index bytes (sequence_place (is_v2 bytes) + 1)
  pub component : heading.component ≡ slice_index bytes (sequence_place (is_v2 bytes) + 2)

-- The message of a frame: the frame is right, and its payload says the message.
pub record IsMessageOf (bytes : List ℕ) (message : Message) : Type 0 where
  pub right : IsRight bytes
  pub says : SaysMessage (id_of bytes) (payload_of bytes) message

-- what stands before a payload of that length
abbrev pub head_bytes : Bool → ℕ → ℕ → ℕ → ℕ → ℕ → List ℕ
head_bytes v2 count seq system component id =
    if v2 then 0xFD ∷ count ∷ 0 ∷ 0 ∷ seq ∷ system ∷ component ∷ little_bytes 3 id
    else 0xFE ∷ count ∷ seq ∷ system ∷ component ∷ id ∷ []

-- a head and a payload, and after them their CRC
abbrev pub framed : List ℕ → ℕ → List ℕ
framed body extra = body ++ little_bytes 2 (crc_of (crc_of 0xFFFF (drop 1 body)) (extra ∷ []))

-- The frame of a message as it is sent.
pub record IsSent
    (v2 : Bool) (seq system component : ℕ) (message : Message) (bytes : List ℕ) : Type 0 where
  pub payload : List ℕ
  pub payload_is : IsPayload v2 (layout_of (description_of message)) (field_values message) payload
  pub bytes_are : bytes ≡ framed
      (head_bytes v2 (length payload) seq system component (description_of message).id ++ payload)
      (description_of message).extra

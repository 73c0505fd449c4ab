-- The records of the parameter storage.
use Rattle.std.specs.Prelude.{◌≡◌, ℕ, zero, suc, ◌+◌, ◌*◌, ◌/◌, ◌%◌, ◌<◌, ◌≤◌, nat_le, ◌==◌, ◌&&◌, Bool, List, [], ◌∷◌, ◌++◌, length, take, drop, slice_index, if◌then◌else◌, All, Option, Some, None, option_and_then}
use Rattle.std.specs.List.{flat_map, find}
use Rattle.std.specs.Option.{option_map_or}
use Rattle.std.specs.Str.{bytes_eq}
use Rattle.param_tree.specs.declared.Kind.{Kind}
use Rattle.param_tree.specs.declared.Kind.TheVariants.{I8, I16, I32, F32, Vec3}

-- A stored value: the key says which parameter or group of parameters, the element which one of a
-- group, by its path of indices.
pub record Record : Type 0 where
  pub key : ℕ
  pub element : ℕ
  pub kind : Kind
  pub value : List ℕ

-- the kind's type number
abbrev pub type_number : Kind → ℕ
type_number I8 = 1
type_number I16 = 2
type_number I32 = 3
type_number F32 = 4
type_number Vec3 = 5

-- the bytes of a value
abbrev pub size_of : Kind → ℕ
size_of I8 = 1
size_of I16 = 2
size_of I32 = 4
size_of F32 = 4
size_of Vec3 = 12

-- the kind with this type number
abbrev pub kind_with_number : ℕ → Option Kind
kind_with_number n = if n == 1 then Some I8
    else (if n == 2 then Some I16 else (if n == 3 then Some I32
    else (if n == 4 then Some F32 else (if n == 5 then Some Vec3 else None))))

-- four bytes, little endian
abbrev pub four_bytes : ℕ → List ℕ
four_bytes n = n % 0x100 ∷ n / 0x100 % 0x100 ∷ n / 0x1_0000 % 0x100 ∷ n / 0x100_0000 % 0x100 ∷ []

-- bits 0 to 7 are the key's low byte, bits 8 to 12 the type, bit 13 the key's bit 8, bits 14 to 31
-- the element
abbrev pub header_of : ℕ → ℕ → Kind → ℕ
header_of key element kind = key % 0x100 + 0x100 * type_number kind + 0x2000 * (key / 0x100)
    + 0x4000 * element

-- the number that stands before the record's value
abbrev pub header : Record → ℕ
header r = header_of r.key r.element r.kind

-- the bytes of a record
abbrev pub encoding : Record → List ℕ
encoding r = four_bytes (header r) ++ r.value

-- the bytes of records, one after the other
abbrev pub spelling : List Record → List ℕ
spelling records = flat_map encoding records

-- what a header can hold, and a value of the kind's size
pub record IsRecord (r : Record) : Type 0 where
  pub key : r.key < 0x200
  pub element : r.element < 0x4_0000
  pub value : length r.value ≡ size_of r.kind

-- No record begins here: the type isn't one of the five, or its value, or the header itself, runs
-- past the area.
abbrev pub IsEnd : List ℕ → Type 0
IsEnd bytes = (kind : Kind) → slice_index bytes 1 % 32 ≡ type_number kind
    → length bytes < 4 + size_of kind

-- what the parameter storage begins with
abbrev pub magic : List ℕ
magic = 0x50 ∷ 0x41 ∷ 0x06 ∷ 0 ∷ []

-- after each record stands the sentinel
abbrev pub sentinel : List ℕ
sentinel = 0xFF ∷ 0xFF ∷ 0x3F ∷ 0 ∷ []

-- The logical bytes are the magic, then these records, then an end, at this place.
pub record HasRecords (bytes : List ℕ) (records : List Record) (at : ℕ) : Type 0 where
  pub rest : List ℕ
  pub whole : bytes ≡ magic ++ (spelling records ++ rest)
  pub each : All IsRecord records
  pub last : IsEnd rest
  pub place : at ≡ 4 + length (spelling records)

-- the bytes read as a record of this kind
abbrev pub read_as : Kind → List ℕ → Record
read_as kind bytes = record {
  key = slice_index bytes 0 + 0x100 * (slice_index bytes 1 / 32 % 2);
  element = slice_index bytes 1 / 64 + 4 * slice_index bytes 2 + 1024 * slice_index bytes 3;
  kind = kind;
  value = take (size_of kind) (drop 4 bytes);
}

-- the record of this kind, where the bytes have it whole
abbrev pub read_whole : List ℕ → Kind → Option Record
read_whole bytes kind =
    if nat_le (4 + size_of kind) (length bytes) then Some (read_as kind bytes) else None

-- a record of this key, element and kind begins the bytes
pub record Begins (of_key of_element : ℕ) (of_kind : Kind) (bytes : List ℕ) : Type 0 where
  pub type : slice_index bytes 1 % 32 ≡ type_number of_kind
  pub fits : 4 + size_of of_kind ≤ length bytes
  pub key : of_key ≡ (read_as of_kind bytes).key
  pub element : of_element ≡ (read_as of_kind bytes).element

-- the record that begins the bytes, if one does
abbrev pub record_at : List ℕ → Option Record
record_at bytes = option_and_then (read_whole bytes) (kind_with_number (slice_index bytes 1 % 32))

-- the records up to the first end, at most n of them
unfoldable pub records_in : ℕ → List ℕ → List Record
records_in zero bytes = []
records_in (suc n) bytes =
    option_map_or (λ r. r ∷ records_in n (drop (length (encoding r)) bytes)) (record_at bytes) []

-- The records of the parameter storage; none where it doesn't begin with the magic. They are the
-- one list with `HasRecords` (the law `records_are_read`).
abbrev pub records_of : List ℕ → List Record
records_of bytes =
    if bytes_eq (take 4 bytes) magic then records_in (length bytes) (drop 4 bytes) else []

-- the place of the first end, where the next record begins
abbrev pub end_of : List ℕ → ℕ
end_of bytes = 4 + length (spelling (records_of bytes))

-- the same kind
abbrev pub kind_eq : Kind → Kind → Bool
kind_eq a b = type_number a == type_number b

-- the record has this key, element and kind
abbrev pub matches : ℕ → ℕ → Kind → Record → Bool
matches key element kind r = (r.key == key) && ((r.element == element) && kind_eq r.kind kind)

-- the value of the first record of the key, the element and the kind
abbrev pub value_in : ℕ → ℕ → Kind → List Record → Option (List ℕ)
value_in key element kind records =
    option_map_or (λ r. Some r.value) (find (matches key element kind) records) None

-- the place of that value, where the first record begins at this place
abbrev pub place_from : ℕ → ℕ → ℕ → Kind → List Record → Option ℕ
place_from at key element kind [] = None
place_from at key element kind (r ∷ records) = if matches key element kind r then Some (at + 4)
    else place_from (at + length (encoding r)) key element kind records

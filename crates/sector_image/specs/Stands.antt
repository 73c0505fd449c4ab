-- Which words are an image, and for which bytes they stand.
use Rattle.std.specs.Prelude.{◌≡◌, ℕ, ◌+◌, ◌%◌, List, ◌++◌, length, Bool, true, false, IsTrue}
use Rattle.flash_traits.specs.Words.{Words, halfwords_in}
use Rattle.flash_traits.specs.declared.numbers.TheConstants.{GUARD_HALFWORDS}
use Rattle.flash_traits.specs.declared.board.Mark.{Mark}
use Rattle.flash_traits.specs.declared.board.Mark.TheVariants.{Available, InUse, Full}
use Rattle.guard_row.specs.Row.{IsGuardRow}
use Rattle.guard_row.specs.Home.{first_of, second_of}
use Rattle.sector_log.specs.Entries.{Entry}
use Rattle.sector_log.specs.declared.heads.Marks.{Marks}
use Rattle.sector_log.specs.Heads.{may_stand}
use Rattle.sector_log.specs.Sector.{IsSector}
use Rattle.sector_log.specs.Bytes.{IsValue}
use Rattle.sector_image.specs.declared.kept.Shape.{Shape}
use Rattle.sector_image.specs.declared.kept.Shape.TheVariants as shape
use Rattle.sector_image.specs.Room.{has_room}

-- what may stand at the head of home: in use or full
abbrev pub home_marks : Marks
home_marks = record { available = false; in_use = true; full = true }

abbrev pub home_mark : Mark → Bool
home_mark = may_stand home_marks

-- what may stand beside it: available beside a home in use, available or in use beside a full one
abbrev pub marks_beside : Mark → Marks
marks_beside Available = record { available = false; in_use = false; full = false }
marks_beside InUse = record { available = true; in_use = false; full = false }
marks_beside Full = record { available = true; in_use = true; full = false }

abbrev pub beside : Mark → Mark → Bool
beside home = may_stand (marks_beside home)

-- what may stand at the head of the sector that isn't void: in use
abbrev pub marks_alone : Marks
marks_alone = record { available = false; in_use = true; full = false }

abbrev pub only_in_use : Mark → Bool
only_in_use = may_stand marks_alone

-- the room rule is asked where both sectors have entries
abbrev pub room_kept : Mark → ℕ → List Entry → List Entry → Bool
room_kept InUse halfwords home other = has_room halfwords home other
room_kept Available halfwords home other = true
room_kept Full halfwords home other = true

-- What the words of an image tell: the guard count, with the marks and entries of home and of the
-- other sector where the count is even, or with the entries of the sector that isn't void where it
-- is odd.
pub data Reading : Type 0 where
  Both : (count : ℕ) (home_mark other_mark : Mark) (home other : List Entry) → Reading
  One : (count : ℕ) (entries : List Entry) → Reading

-- No sector is void. Home in use beside an available sector stands alone; home full beside an
-- available sector is marked; home full beside a sector in use is spilled, and then the room rule
-- holds.
pub record IsBoth (w : Words) (count : ℕ) (m n : Mark) (home other : List Entry) : Type 0 where
  pub guard : IsGuardRow w.guard count
  pub even : count % 2 ≡ 0
  pub home_may : IsTrue (home_mark m)
  pub other_may : IsTrue (beside m n)
  pub first : IsSector (halfwords_in w (first_of count)) m home
  pub second : IsSector (halfwords_in w (second_of count)) n other
  pub room : IsTrue (room_kept n (length (halfwords_in w (second_of count))) home other)

-- One sector is void, and isn't looked at.
pub record IsOne (w : Words) (count : ℕ) (entries : List Entry) : Type 0 where
  pub guard : IsGuardRow w.guard count
  pub odd : count % 2 ≡ 1
  pub first : IsSector (halfwords_in w (first_of count)) InUse entries

-- the words are an image, and tell this
abbrev pub IsReadAs : Words → Reading → Type 0
IsReadAs w (Both count m n home other) = IsBoth w count m n home other
IsReadAs w (One count entries) = IsOne w count entries

-- the entries that count: home's, and then the other's
abbrev pub entries_in : Reading → List Entry
entries_in (Both count m n home other) = home ++ other
entries_in (One count entries) = entries

-- the words are an image, and these are its bytes
abbrev pub Stands : Words → List ℕ → Type 0
Stands w bytes = (reading : Reading) × IsReadAs w reading × IsValue (entries_in reading) bytes

-- the state
abbrev pub shape_of_reading : Reading → Shape
shape_of_reading (Both count InUse n home other) = shape.Alone
shape_of_reading (Both count Full InUse home other) = shape.Spilled
shape_of_reading (Both count m n home other) = shape.Marked
shape_of_reading (One count entries) = shape.Voided

-- the guard count
abbrev pub count_in : Reading → ℕ
count_in (Both count m n home other) = count
count_in (One count entries) = count

-- the guard count once the image stands alone again
abbrev pub count_after : Reading → ℕ
count_after (Both count Full n home other) = count + 2
count_after (Both count m n home other) = count
count_after (One count entries) = count + 1

-- home is in use: the image stands alone
abbrev pub is_alone : Reading → Bool
is_alone (Both count InUse n home other) = true
is_alone (Both count m n home other) = false
is_alone (One count entries) = false

-- home is full, and so is to be voided
abbrev pub is_due : Reading → Bool
is_due (Both count Full n home other) = true
is_due (Both count m n home other) = false
is_due (One count entries) = false

-- a sector of the image is to be voided, and the guard row is used up
pub record IsUsedUp (w : Words) : Type 0 where
  pub reading : Reading
  pub reads : IsReadAs w reading
  pub due : IsTrue (is_due reading)
  pub count : count_in reading ≡ GUARD_HALFWORDS

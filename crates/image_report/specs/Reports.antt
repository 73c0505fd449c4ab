-- The text of a report: each region judged by itself, and at last the whole image.
--
--     image 16384
--     guard 0
--     s0 inuse entries 0 torn 0 free 16380
--     s1 available entries 0 torn 0 free 16380
--     state alone
--
-- or of other words `guard foreign 1 00FF`, `s0 foreign 2 000E`, `s0 void`, `state foreign`.
use Rattle.std.specs.Prelude.{◌≡◌, ◌≢◌, ℕ, ◌*◌, ◌-◌, List, ◌++◌, length, codes, decimal, Option}
use Rattle.std.specs.Prelude.{Some, None}
use Rattle.flash_traits.specs.Words.{Words}
use Rattle.flash_traits.specs.declared.board.Region.{Region}
use Rattle.flash_traits.specs.declared.board.Region.TheVariants.{S0, S1}
use Rattle.guard_row.specs.Row as guard_row
use Rattle.guard_row.specs.Home.{void_of}
use Rattle.sector_log.specs.declared.log.Log.{Log}
use Rattle.sector_log.specs.Entries.{Entry}
use Rattle.sector_log.specs.Sector as sector
use Rattle.sector_log.specs.Log.{IsLogOf}
use Rattle.sector_image.specs.Stands.{Reading, IsReadAs, shape_of_reading}
use Rattle.sector_image.specs.declared.kept.Shape.{Shape}
use Rattle.image_report.specs.declared.findings.GuardFound.{GuardFound}
use Rattle.image_report.specs.declared.findings.GuardFound.TheVariants as guard
use Rattle.image_report.specs.declared.findings.SectorFound.{SectorFound}
use Rattle.image_report.specs.declared.findings.SectorFound.TheVariants as found
use Rattle.image_report.specs.declared.findings.Findings.{Findings}
use Rattle.printed_text.specs.Names.{region_name, mark_name}
use Rattle.printed_text.specs.Pieces.{with_newline}
use Rattle.image_report.specs.Texts.{size_text, shape_name, foreign_text}

-- the guard row has this count, or this is its first failing place
abbrev pub IsGuardFound : List ℕ → GuardFound → Type 0
IsGuardFound row (guard.Count count) = guard_row.IsGuardRow row count
IsGuardFound row (guard.Foreign offset word) = guard_row.FirstBad row offset word

-- The void sector by the guard count. Where the guard row is foreign no sector is void.
abbrev pub void_in : GuardFound → Option Region
void_in (guard.Count count) = void_of count
void_in (guard.Foreign offset word) = None

-- A void sector isn't looked at. Any other one has this log, or this is its first failing place.
abbrev pub IsSectorFound : Option Region → Region → List ℕ → SectorFound → Type 0
IsSectorFound void region halfwords found.Void = void ≡ Some region
IsSectorFound void region halfwords (found.Log log) = (void ≢ Some region)
    × ((entries : List Entry) × sector.IsSector halfwords log.mark entries
    × IsLogOf log region log.mark entries)
IsSectorFound void region halfwords (found.Foreign offset word) = (void ≢ Some region)
    × sector.FirstBad halfwords offset word

-- the words are in this state, or in none
abbrev pub IsStateFound : Words → Option Shape → Type 0
IsStateFound w (Some shape) = (reading : Reading) × IsReadAs w reading
    × (shape_of_reading reading ≡ shape)
IsStateFound w None = (reading : Reading) → IsReadAs w reading → ⊥

-- what is found in the words
pub record IsFound (w : Words) (findings : Findings) : Type 0 where
  pub guard : IsGuardFound w.guard findings.guard
  pub s0 : IsSectorFound (void_in findings.guard) S0 w.s0 findings.s0
  pub s1 : IsSectorFound (void_in findings.guard) S1 w.s1 findings.s1
  pub state : IsStateFound w findings.state

-- `image 16384`
abbrev pub image_line : ℕ → List ℕ
image_line sector_bytes = with_newline (size_text sector_bytes)

-- `guard 0` or `guard foreign 1 00FF`
abbrev pub guard_line : GuardFound → List ℕ
guard_line (guard.Count count) = with_newline (codes "guard " ++ decimal count)
guard_line (guard.Foreign offset word) = with_newline (codes "guard " ++ foreign_text offset word)

-- the bytes after the last entry
abbrev pub free_of : ℕ → Log → ℕ
free_of sector_bytes log = sector_bytes - 2 * log.end

-- what is said of a sector after its name
abbrev pub sector_text : ℕ → SectorFound → List ℕ
sector_text sector_bytes found.Void = codes "void"
sector_text sector_bytes (found.Log log) =
    mark_name log.mark ++ codes " entries " ++ decimal log.valid ++ codes " torn "
    ++ decimal log.gaps ++ codes " free " ++ decimal (free_of sector_bytes log)
sector_text sector_bytes (found.Foreign offset word) = foreign_text offset word

-- `s0 inuse entries 0 torn 0 free 16380`, `s0 foreign 2 000E` or `s0 void`
abbrev pub sector_line : ℕ → Region → SectorFound → List ℕ
sector_line sector_bytes region sector = with_newline (region_name region ++ codes " "
    ++ sector_text sector_bytes sector)

-- `state alone` or `state foreign`
abbrev pub state_line : Option Shape → List ℕ
state_line (Some shape) = with_newline (codes "state " ++ shape_name shape)
state_line None = with_newline (codes "state foreign")

-- the text of what is found at this sector size
unfoldable pub report_text : ℕ → Findings → List ℕ
report_text sector_bytes findings =
    image_line sector_bytes ++ guard_line findings.guard ++ sector_line sector_bytes S0 findings.s0
    ++ sector_line sector_bytes S1 findings.s1 ++ state_line findings.state

-- the text of any words: what is found in them
pub record IsReport (w : Words) (text : List ℕ) : Type 0 where
  pub findings : Findings
  pub found : IsFound w findings
  pub is : text ≡ report_text (2 * length w.s0) findings

-- Which statuses a call may end with, and what each tells.
use Rattle.std.specs.Prelude.{◌≡◌, ◌≢◌, ◌⊎◌, ℕ, List, ◌++◌, map, take, Option, Some, None, IfSome}
use Rattle.std.specs.Borrow.{Bor}
use Rattle.flash_traits.specs.declared.board.Fault.{Fault}
use Rattle.flash_traits.specs.declared.board.Fault.TheVariants.{Attach, Read, Flash, Recv, Send}
use Rattle.flash_traits.specs.Counts.{raised}
use Rattle.flash_traits.specs.Causes.{Rose, counts_after}
use Rattle.flash_traits.specs.declared.stream.Sink.{Ghosts}
use Rattle.command_line.specs.Arguments.{Text}
use Rattle.flash_traits.specs.Words.{Words}
use Rattle.command_line.specs.Lines.{CommandLine, serve, replay, format, dump, report, gen, line_of_words}
use Rattle.image_report.specs.Dumps.{IsDump}
use Rattle.image_report.specs.Reports.{IsReport}
use Rattle.storage_cli.specs.declared.status.TheConstants.{ATTACH_FAILED, DONE, FLASH_FAILED, FOREIGN_WORD, INPUT_FAILED, LINK_FAILED, NO_COMMAND, NO_MEMORY, OUTPUT_FAILED, READ_FAILED, SCRIPT_REFUSED, TURNS_OVER, WORN}
use Rattle.storage_cli.specs.Texts.{words_line, memory_line, read_line, flash_line, link_line, worn_line, attach_line}

-- the texts that words point to
abbrev pub texts : List (Bor Text) → List Text
texts words = map (λ word. word.now) words

-- The statuses of each command. Memory may be wanting while the words are read, for every command.
abbrev pub IsServeStatus : ℕ → Type 0
IsServeStatus n = (n ≡ DONE) ⊎ (n ≡ NO_MEMORY) ⊎ (n ≡ FOREIGN_WORD) ⊎ (n ≡ READ_FAILED)
    ⊎ (n ≡ FLASH_FAILED) ⊎ (n ≡ LINK_FAILED) ⊎ (n ≡ WORN) ⊎ (n ≡ TURNS_OVER)
    ⊎ (n ≡ OUTPUT_FAILED) ⊎ (n ≡ ATTACH_FAILED)

abbrev pub IsReplayStatus : ℕ → Type 0
IsReplayStatus n = (n ≡ DONE) ⊎ (n ≡ NO_MEMORY) ⊎ (n ≡ FOREIGN_WORD) ⊎ (n ≡ READ_FAILED)
    ⊎ (n ≡ WORN) ⊎ (n ≡ INPUT_FAILED) ⊎ (n ≡ OUTPUT_FAILED) ⊎ (n ≡ SCRIPT_REFUSED)
    ⊎ (n ≡ ATTACH_FAILED)

abbrev pub IsFormatStatus : ℕ → Type 0
IsFormatStatus n = (n ≡ DONE) ⊎ (n ≡ NO_MEMORY) ⊎ (n ≡ FLASH_FAILED) ⊎ (n ≡ OUTPUT_FAILED)
    ⊎ (n ≡ ATTACH_FAILED)

abbrev pub IsDumpStatus : ℕ → Type 0
IsDumpStatus n = (n ≡ DONE) ⊎ (n ≡ NO_MEMORY) ⊎ (n ≡ FOREIGN_WORD) ⊎ (n ≡ READ_FAILED)
    ⊎ (n ≡ OUTPUT_FAILED) ⊎ (n ≡ ATTACH_FAILED)

abbrev pub IsReportStatus : ℕ → Type 0
IsReportStatus n = (n ≡ DONE) ⊎ (n ≡ NO_MEMORY) ⊎ (n ≡ READ_FAILED) ⊎ (n ≡ OUTPUT_FAILED)
    ⊎ (n ≡ ATTACH_FAILED)

abbrev pub IsGenStatus : ℕ → Type 0
IsGenStatus n = (n ≡ DONE) ⊎ (n ≡ NO_MEMORY) ⊎ (n ≡ WORN) ⊎ (n ≡ OUTPUT_FAILED)

-- the statuses of a command line
abbrev pub IsStatusOf : Option CommandLine → ℕ → Type 0
IsStatusOf None n = (n ≡ NO_COMMAND) ⊎ (n ≡ NO_MEMORY) ⊎ (n ≡ OUTPUT_FAILED)
IsStatusOf (Some (serve image port turns)) n = IsServeStatus n
IsStatusOf (Some (replay image)) n = IsReplayStatus n
IsStatusOf (Some (format image sector_bytes)) n = IsFormatStatus n
IsStatusOf (Some (dump image)) n = IsDumpStatus n
IsStatusOf (Some (report image)) n = IsReportStatus n
IsStatusOf (Some (gen rounds)) n = IsGenStatus n

-- what is answered to an image with a foreign halfword, after the attach
abbrev pub IsForeignStatus : ℕ → Type 0
IsForeignStatus n = (n ≡ NO_MEMORY) ⊎ (n ≡ FOREIGN_WORD) ⊎ (n ≡ READ_FAILED)
    ⊎ (n ≡ OUTPUT_FAILED)

-- what a serve answers to an image whose guard row is used up where a sector is to be voided
abbrev pub IsWornStatus : ℕ → Type 0
IsWornStatus n = (n ≡ NO_MEMORY) ⊎ (n ≡ READ_FAILED) ⊎ (n ≡ FLASH_FAILED) ⊎ (n ≡ WORN)
    ⊎ (n ≡ OUTPUT_FAILED)

-- The attach didn't fail: it failed where its status comes, or where the count of failed attaches
-- rose and then the output failed too.
pub record IsPastAttach (status : ℕ) (before now : Fault → ℕ) : Type 0 where
  pub attach : status ≢ ATTACH_FAILED
  pub output : status ≡ OUTPUT_FAILED → Rose (before Attach) (now Attach) → ⊥

-- Memory was wanting for the words, before the attach: the board is as it was (`same`), and the
-- status is that of want of memory, or of the output where that failed too.
pub record IsUnasked (status : ℕ) (same : Type 0) : Type 0 where
  pub status_is : (status ≡ NO_MEMORY) ⊎ (status ≡ OUTPUT_FAILED)
  pub board : same

-- what holds of a `serve` on this condition, by its turns
abbrev pub OnServe : List Text → Type 0 → (ℕ → Type 0) → Type 0
OnServe words condition P = (image : Text) (port turns : ℕ)
    → line_of_words words ≡ Some (serve image port turns) → condition → P turns

-- what holds of a `replay` on this condition
abbrev pub OnReplay : List Text → Type 0 → Type 0 → Type 0
OnReplay words condition P = (image : Text) → line_of_words words ≡ Some (replay image)
    → condition → P

-- what holds on this condition where the words are no `replay`
abbrev pub OnOthers : List Text → Type 0 → Type 0 → Type 0
OnOthers words condition P = ((image : Text) → line_of_words words ≡ Some (replay image) → ⊥)
    → condition → P

-- what holds of a `format` on this condition, by its sector size
abbrev pub OnFormat : List Text → Type 0 → (ℕ → Type 0) → Type 0
OnFormat words condition P = (image : Text) (sector_bytes : ℕ)
    → line_of_words words ≡ Some (format image sector_bytes) → condition → P sector_bytes

-- what holds of a `dump` on this condition, and of a `report`
abbrev pub OnDump : List Text → Type 0 → Type 0 → Type 0
OnDump words condition P = (image : Text) → line_of_words words ≡ Some (dump image) → condition → P

abbrev pub OnReport : List Text → Type 0 → Type 0 → Type 0
OnReport words condition P = (image : Text) → line_of_words words ≡ Some (report image)
    → condition → P

-- what holds on this condition of the commands that only read the image
abbrev pub OnReading : List Text → Type 0 → Type 0 → Type 0
OnReading words condition P =
    OnDump words condition P × OnReport words condition P × OnReplay words condition P

-- what holds of a `gen` on this condition, by its rounds
abbrev pub OnGen : List Text → Type 0 → (ℕ → Type 0) → Type 0
OnGen words condition P = (rounds : ℕ) → line_of_words words ≡ Some (gen rounds) → condition
    → P rounds

-- a status that tells a fault comes only where the count of its kind rose
pub record TellsFaults (status : ℕ) (before now : Fault → ℕ) : Type 0 where
  pub attach : status ≡ ATTACH_FAILED → Rose (before Attach) (now Attach)
  pub read : status ≡ READ_FAILED → Rose (before Read) (now Read)
  pub flash : status ≡ FLASH_FAILED → Rose (before Flash) (now Flash)
  pub link : status ≡ LINK_FAILED → Rose (before Recv) (now Recv)
      ⊎ Rose (before Send) (now Send)

-- the status that tells a fault of the board
abbrev pub status_of_fault : Fault → ℕ
status_of_fault Attach = ATTACH_FAILED
status_of_fault Read = READ_FAILED
status_of_fault Flash = FLASH_FAILED
status_of_fault Recv = LINK_FAILED
status_of_fault Send = LINK_FAILED

-- At most one call of the board failed, and no count but that of its kind changed. The status is that
-- of this fault, or that of the output where its line failed too.
pub record ToldBoard (status : ℕ) (before now : Fault → ℕ) : Type 0 where
  pub fault : Option Fault
  pub counts : now ≡ counts_after fault before
  pub told : IfSome fault (λ kind. (status ≡ status_of_fault kind) ⊎ (status ≡ OUTPUT_FAILED))

-- the same of the reads of the input
abbrev pub ToldInput : ℕ → ℕ → ℕ → Type 0
ToldInput status before now = (now ≡ before)
    ⊎ ((now ≡ raised before) × ((status ≡ INPUT_FAILED) ⊎ (status ≡ OUTPUT_FAILED)))

-- the output failed once where its status comes, and nowhere else
abbrev pub ToldOutput : ℕ → ℕ → ℕ → Type 0
ToldOutput status before now = ((status ≡ OUTPUT_FAILED) × (now ≡ raised before))
    ⊎ ((status ≢ OUTPUT_FAILED) × (now ≡ before))

-- no count of faults changes that the status doesn't tell, and one that is told rises by one
pub record ToldFaults (status : ℕ) (before now : Fault → ℕ)
    (input_before input_now output_before output_now : ℕ) : Type 0 where
  pub board : ToldBoard status before now
  pub input : ToldInput status input_before input_now
  pub output : ToldOutput status output_before output_now

-- the sink has this text after what it had, where it tells its bytes
abbrev pub Prints : {K : Type 0} → Ghosts K → K → K → List ℕ → Type 0
Prints g old new text = g.tells_written new → g.written new ≡ g.written old ++ text

-- the line of each status that says no more than itself, where it is all that is printed
pub record PrintsStatus (status : ℕ) (printed : List ℕ → Type 0) : Type 0 where
  pub words : status ≡ NO_COMMAND → printed words_line
  pub memory : status ≡ NO_MEMORY → printed memory_line
  pub read : status ≡ READ_FAILED → printed read_line
  pub flash : status ≡ FLASH_FAILED → printed flash_line
  pub link : status ≡ LINK_FAILED → printed link_line
  pub worn : status ≡ WORN → printed worn_line
  pub attach : status ≡ ATTACH_FAILED → printed attach_line

-- where the output failed, a prefix of one of these texts was written
pub record IsCutShort (IsText : List ℕ → Type 0) (written_before written_now : List ℕ)
    : Type 0 where
  pub text : List ℕ
  pub is_text : IsText text
  pub count : ℕ
  pub written : written_now ≡ written_before ++ take count text

-- A `dump` or a `report` of these words was cut short in its text. It is known what that text is
-- where the words are told. A `replay` has printed some text when the output failed.
abbrev pub IsTextCutShort : Option CommandLine → Type 0 → Words → List ℕ → List ℕ → Type 0
IsTextCutShort (Some (dump image)) told words written_before written_now =
    told → IsCutShort (IsDump words) written_before written_now
IsTextCutShort (Some (report image)) told words written_before written_now =
    told → IsCutShort (IsReport words) written_before written_now
IsTextCutShort (Some (replay image)) told words written_before written_now =
    (text : List ℕ) × (written_now ≡ written_before ++ text)
IsTextCutShort _ told words written_before written_now = ⊥

-- no call of the board or of the output failed: no count of failed calls rose
pub record NothingFailed (before now : Fault → ℕ) (output_before output_now : ℕ) : Type 0 where
  pub board : (kind : Fault) → Rose (before kind) (now kind) → ⊥
  pub output : Rose output_before output_now → ⊥

-- all work was done, or memory was wanting
abbrev pub IsDoneUnlessMemory : ℕ → Type 0
IsDoneUnlessMemory n = (n ≡ DONE) ⊎ (n ≡ NO_MEMORY)

-- The messages by which values are shown.
use Rattle.std.specs.Prelude.{◌≡◌, ◌≢◌, ℕ, ◌^◌, List, IfSome, slice_get}
use Rattle.std.specs.List.{AllZip}
use Rattle.word_bits.specs.Pattern.{IsNearest}
use Rattle.param_tree.specs.MavTypes.{mav_type_of}
use Rattle.param_tree.specs.Rows.{vehicle_rows}
use Rattle.param_records.specs.declared.values.Value.{Value}
use Rattle.param_records.specs.declared.values.Value.TheVariants.{Whole, Bits}
use Rattle.mav_messages.specs.declared.messages.Message.{Message}
use Rattle.mav_messages.specs.declared.messages.Message.TheVariants.{ParamValue}
use Rattle.mav_messages.specs.declared.messages.Reply.{Reply}
use Rattle.storage_lines.specs.declared.lines.LineWrite.{LineWrite}
use Rattle.param_service.specs.Requests.{parameters}
use Rattle.param_service.specs.Service.{Shown, Did}

-- the binary32 pattern of a value: the nearest to a whole number, and never minus zero; a float's
-- is itself
abbrev pub IsPatternOf : Value → ℕ → Type 0
IsPatternOf (Whole z) bits = IsNearest bits z 1 × (bits ≢ 2 ^ 31)
IsPatternOf (Bits pattern) bits = bits ≡ pattern

-- the PARAM_VALUE of a row with this value
abbrev pub ShowsValue : ℕ → Value → Message → Type 0
ShowsValue index value message = IfSome (slice_get vehicle_rows index) (λ row.
    (bits : ℕ) × IsPatternOf value bits
    × (message ≡ ParamValue bits parameters index row.name (mav_type_of row.kind)))

-- a reply to the same with the row's PARAM_VALUE
abbrev pub IsReplyOf : Shown → Reply → Type 0
IsReplyOf shown reply = (reply.to ≡ shown.to) × ShowsValue shown.index shown.value reply.message

-- the replies show these values, in order
abbrev pub AreRepliesOf : List Shown → List Reply → Type 0
AreRepliesOf shown replies = AllZip IsReplyOf shown replies

-- A message was answered so: the lists that are being sent after it, the lines to issue, and the
-- replies to send after them.
pub record IsAnswered (d : Did) (next_rows : List ℕ) (writes : List LineWrite)
    (replies : List Reply) : Type 0 where
  pub state : next_rows ≡ d.next_rows
  pub lines : writes ≡ d.writes
  pub shown : AreRepliesOf d.shown replies

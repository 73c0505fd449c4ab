-- What every private call of a node says.
use Rattle.std.specs.Prelude.{◌≡◌, ◌⊎◌, ◌≤◌, ℕ, List, ◌++◌, Bool, false, Result, ⊤, OnOk, IfErr}
use Rattle.flash_traits.specs.declared.numbers.TheConstants.{GUARD_HALFWORDS}
use Rattle.flash_traits.specs.declared.board.Board.{Ghosts}
use Rattle.flash_traits.specs.declared.board.Fault.{Fault}
use Rattle.flash_traits.specs.declared.board.Fault.TheVariants.{Read, Flash, Send}
use Rattle.flash_traits.specs.Calls.{Passes}
use Rattle.flash_traits.specs.Causes.{counts_after, told_by}
use Rattle.flash_traits.specs.Losses.{Received, SentFrame, Outcome, After, KeepsWords}
use Rattle.block_store.specs.Refusals.{IsWorn}
use Rattle.dirty_lines.specs.Losses.{IsWornForNext}
use Rattle.vehicle_node.specs.Standing.{Node, IsAlone, IsAloneUnlessArmed}
use Rattle.vehicle_node.specs.Refusals.{OnMemory, OnFault, OnForeign, OnWorn, fault_in}
use Rattle.vehicle_node.specs.declared.NodeError.{NodeError}

-- nothing was received, and maybe some frames were sent
abbrev pub MaySend : {B : Type 0} → Ghosts B → B → B → Type 0
MaySend g board after_board = (e : List Received) (f : List SentFrame) → g.has_lists board e f
    → (sent : List SentFrame) × g.has_lists after_board e (f ++ sent)

-- These frames were sent and nothing was received: the lists of the board grow so, and what a loss
-- then leaves has made this step.
pub record HasSent {B : Type 0} (g : Ghosts B) (frames : List SentFrame)
    (step : Outcome → Outcome → Type 0) (board after_board : B) : Type 0 where
  pub lists : (e : List Received) (f : List SentFrame) → g.has_lists board e f
      → g.has_lists after_board e (f ++ frames)
  pub here : (o : Outcome) → g.now after_board o → After (g.now board) step o
  pub receptions : (g.moment after_board).receptions ≡ (g.moment board).receptions

-- A call: what a loss inside leaves, what it does to the lists, what was done where it wasn't cut
-- short, and what its error says.
pub record Call {B : Type 0} (g : Ghosts B) (lost : Outcome → Outcome → Type 0)
    (Stopped : NodeError → Type 0) (Done : Type 0)
    (board : B) (result : Result ⊤ NodeError) (after_board : B) : Type 0 where
  pub losses : Passes g board after_board lost lost
  pub lists : MaySend g board after_board
  pub done : OnOk result Done
  pub stopped : IfErr result Stopped

-- A call that isn't armed has found the guard row to be used up: where the store stood alone, home
-- lacks room for the next entry, and where the words are told the row ends at no more than the most
-- that the count can have come to.
pub record IsWornAlone {B : Type 0} (g : Ghosts B) (armed : Bool) (most : ℕ) (old new : Node)
    (after_board : B) : Type 0 where
  pub unarmed : armed ≡ false
  pub next : IsAlone old → IsWornForNext g after_board new.lines
  pub reached : g.tells after_board → GUARD_HALFWORDS ≤ most

abbrev pub WornAlone : {B : Type 0} → Ghosts B → Bool → ℕ → Node → Node → B → NodeError → Type 0
WornAlone g armed most old new after_board error =
    OnWorn error (λ count. IsWornAlone g armed most old new after_board)

-- The guard row is used up: where the store stood alone unless the vehicle was armed, home lacks
-- room for the next entry, or the vehicle was armed; and where the words are told, lines enough
-- were issued.
pub record IsWornWhere {B : Type 0} (g : Ghosts B) (old : Node) (Armed Enough : Type 0) (new : Node)
    (after_board : B) : Type 0 where
  pub next : IsAloneUnlessArmed old → IsWornForNext g after_board new.lines ⊎ Armed
  pub lines : g.tells after_board → Enough

abbrev pub WornWhere : {B : Type 0} → Ghosts B → Node → Type 0 → Type 0 → Node → B → NodeError
    → Type 0
WornWhere g old Armed Enough new after_board error =
    OnWorn error (λ count. IsWornWhere g old Armed Enough new after_board)

-- the faults that putting lines may meet
abbrev pub OfFlash : Fault → Type 0
OfFlash kind = kind ≡ Read ⊎ kind ≡ Flash

-- those of an answer, which also sends
abbrev pub OfAnswer : Fault → Type 0
OfAnswer kind = kind ≡ Read ⊎ (kind ≡ Flash ⊎ kind ≡ Send)

-- The geometry stays, no words are told that weren't, no count of faults changes that isn't told, and
-- the call stops only at a fault of these kinds or where the guard row is used up.
pub record Keeps {B : Type 0} (g : Ghosts B) (kinds : Fault → Type 0) (board : B)
    (result : Result ⊤ NodeError) (after_board : B) : Type 0 where
  pub geometry : g.sector_bytes after_board ≡ g.sector_bytes board
  pub told : g.tells after_board → g.tells board
  pub never_memory : IfErr result (λ e. OnMemory e ⊥)
  pub never_foreign : IfErr result (λ e. OnForeign e (λ place. ⊥))
  pub worn : IfErr result (λ e. OnWorn e (λ count. (count ≡ GUARD_HALFWORDS) × (bytes : _)
      × IsWorn g after_board bytes))
  pub fault : IfErr result (λ e. OnFault e kinds)
  pub counts : g.faults after_board ≡ counts_after (told_by fault_in result) (g.faults board)

-- A call that only sends keeps lines, places and words, and stops only where a sending failed.
pub record KeepsLines {B : Type 0} (g : Ghosts B) (old : Node) (board : B)
    (result : Result ⊤ NodeError) (new : Node) (after_board : B) : Type 0 where
  pub lines : new.lines ≡ old.lines
  pub index : new.index ≡ old.index
  pub words : KeepsWords g.sector_bytes g.tells g.words board after_board
  pub never_memory : IfErr result (λ e. OnMemory e ⊥)
  pub never_foreign : IfErr result (λ e. OnForeign e (λ place. ⊥))
  pub never_worn : IfErr result (λ e. OnWorn e (λ count. ⊥))
  pub fault : IfErr result (λ e. OnFault e (λ kind. kind ≡ Send))
  pub counts : g.faults after_board ≡ counts_after (told_by fault_in result) (g.faults board)

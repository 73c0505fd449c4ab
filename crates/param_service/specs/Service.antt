-- The parameter protocol: what a request does to the lists that are being sent, which lines it
-- writes, and what it shows.
use Rattle.std.specs.Prelude.{ℕ, ◌+◌, ◌-◌, min, Bool, List, [], ◌∷◌, replicate, Option, Some, None}
use Rattle.std.specs.Prelude.{◌||◌, if◌then◌else◌, codes, slice_get, slice_set, slice_index}
use Rattle.std.specs.List.{flat_map, range_with_len}
use Rattle.std.specs.Option.{option_map_or}
use Rattle.param_tree.specs.declared.Var.{Var}
use Rattle.param_tree.specs.Rules.{has_name}
use Rattle.param_tree.specs.Rows.{vehicle_rows}
use Rattle.storage_lines.specs.declared.lines.LineWrite.{LineWrite}
use Rattle.storage_lines.specs.Lines.{after}
use Rattle.storage_lines.specs.Pieces.{writes_of}
use Rattle.param_records.specs.declared.values.Value.{Value}
use Rattle.param_records.specs.Changes.{set_pieces, is_full}
use Rattle.param_records.specs.Steps.{records_in_storage}
use Rattle.param_records.specs.Values.{params_of}
use Rattle.mav_messages.specs.declared.messages.To.{To}
use Rattle.mav_messages.specs.declared.messages.To.TheVariants.{Station, All}
use Rattle.param_service.specs.Requests.{Request, Show, ShowAll, Set, parameters}
use Rattle.param_service.specs.Budget.{allowed_writes}

-- a row's value, and whom it is shown to
pub record Shown : Type 0 where
  pub to : To
  pub index : ℕ
  pub value : Value

-- What was done: the next row of each station's list, which is 240 where none is being sent; the
-- lines that are written, in order; the values that are shown, in order.
pub record Did : Type 0 where
  pub next_rows : List ℕ
  pub writes : List LineWrite
  pub shown : List Shown

-- no list is being sent to any of the eight stations
abbrev pub no_lists : List ℕ
no_lists = replicate 8 parameters

-- the row's value in these storage bytes
abbrev pub show : To → List ℕ → ℕ → List Shown
show to bytes index = option_map_or
    (λ row. record { to = to; index = index; value = params_of bytes row } ∷ [])
    (slice_get vehicle_rows index) []

-- how many mission commands and rally points there are isn't for a station to set
abbrev pub is_total : Var → Bool
is_total row = has_name (codes "MIS_TOTAL") row || has_name (codes "RALLY_TOTAL") row

-- the lines that set the row, or none where it isn't to be set or can't be
abbrev pub writes_for : List ℕ → Var → ℕ → List LineWrite
writes_for bytes row number =
    if is_total row || is_full (records_in_storage bytes) row number then []
    else writes_of bytes (set_pieces vehicle_rows (records_in_storage bytes) row number)

abbrev pub set_writes : List ℕ → ℕ → Option ℕ → List LineWrite
set_writes bytes index None = []
set_writes bytes index (Some number) =
    option_map_or (λ row. writes_for bytes row number) (slice_get vehicle_rows index) []

-- a row is to be set with these lines, and is then shown to all stations
abbrev pub set_with : List LineWrite → List ℕ → List ℕ → ℕ → Did
set_with writes bytes next_rows index = record {
  next_rows = next_rows;
  writes = writes;
  shown = show All (after bytes writes) index;
}

-- What a request of a station does over these storage bytes. Who asks for a row is shown it. Who
-- asks for all is sent a list from the first row on. A row that is to be set is shown to all
-- stations that were heard, with the value that it has then. Where a limit is given, so many lines
-- may be written, and a row that takes more keeps its value.
abbrev pub answered : List ℕ → Option ℕ → List ℕ → ℕ → Request → Did
answered bytes allowed next_rows station (Show index) =
    record { next_rows = next_rows; writes = []; shown = show (Station station) bytes index }
answered bytes allowed next_rows station ShowAll =
    record { next_rows = slice_set next_rows station 0; writes = []; shown = [] }
answered bytes allowed next_rows station (Set index number) =
    set_with (allowed_writes allowed (set_writes bytes index number)) bytes next_rows index

-- the same of a message that may ask for nothing
abbrev pub did : List ℕ → Option ℕ → List ℕ → ℕ → Option Request → Did
did bytes allowed next_rows station None =
    record { next_rows = next_rows; writes = []; shown = [] }
did bytes allowed next_rows station (Some request) =
    answered bytes allowed next_rows station request

-- the next eight rows of the station's list, or those that are left
abbrev pub streamed_rows : List ℕ → ℕ → List ℕ
streamed_rows next_rows station = range_with_len (slice_index next_rows station)
    (min 8 (parameters - slice_index next_rows station))

abbrev pub streamed : List ℕ → List ℕ → ℕ → Did
streamed bytes next_rows station = record {
  next_rows = slice_set next_rows station (min parameters (slice_index next_rows station + 8));
  writes = [];
  shown = flat_map (show (Station station) bytes) (streamed_rows next_rows station);
}

-- The mission protocol: what a request does to the uploads, which lines it writes, and what it
-- tells.
use Rattle.std.specs.Prelude.{ℕ, ◌+◌, Bool, false, not, ◌==◌, ◌&&◌, ◌||◌, nat_lt, nat_le}
use Rattle.std.specs.Prelude.{if◌then◌else◌, List, [], ◌∷◌, ◌++◌, length, slice_get, Option, Some}
use Rattle.std.specs.Prelude.{None, Result, Ok, Err}
use Rattle.std.specs.Option.{option_map_or}
use Rattle.storage_lines.specs.declared.lines.LineWrite.{LineWrite}
use Rattle.storage_lines.specs.Lines.{after}
use Rattle.param_records.specs.Steps.{records_in_storage}
use Rattle.param_records.specs.Changes.{is_full}
use Rattle.param_service.specs.Budget.{exceeds}
use Rattle.mission_commands.specs.declared.commands.Command.{Command}
use Rattle.mission_records.specs.declared.reading.TheConstants.{CAPACITY}
use Rattle.mission_records.specs.Mission.{total_row, total_of, mission_of, total_writes}
use Rattle.mission_records.specs.Mission.{begin_writes, put_writes}
use Rattle.fence_records.specs.declared.items.FenceItem.{FenceItem}
use Rattle.fence_records.specs.Lists as fence
pub use Rattle.mission_service.specs.declared.replies.Content.{Content}
pub use Rattle.mission_service.specs.declared.replies.Content.TheVariants.{Answer, Next, Total}
pub use Rattle.mission_service.specs.declared.replies.Content.TheVariants.{MissionItem, FencePart}
use Rattle.mission_service.specs.Uploads.{MissionType, Mission, Fence, kinds, Target, Upload}
use Rattle.mission_service.specs.Uploads.{Uploads, Quiet, Open, Finished, Missions, uploads_of}
use Rattle.mission_service.specs.Uploads.{with_uploads, mission_type_number}
use Rattle.mission_service.specs.Requests.{Given, ForMission, ForFence, type_of_given, Request}
use Rattle.mission_service.specs.Requests.{Begin, Give, Clear, Count, Show, Cancel, Unsupported}
use Rattle.mission_service.specs.Requests.{Asking, operation_cancelled}

-- MAV_MISSION_RESULT: the numbers of the answers that the protocol gives by itself
abbrev pub accepted : ℕ
accepted = 0

abbrev pub error : ℕ
error = 1

abbrev pub unsupported : ℕ
unsupported = 3

abbrev pub no_space : ℕ
no_space = 4

abbrev pub invalid_sequence : ℕ
invalid_sequence = 13

abbrev pub denied : ℕ
denied = 14

-- a content is told to a system and component, of the type with this number
pub record Told : Type 0 where
  pub target : Target
  pub number : ℕ
  pub content : Content

-- what was done
pub record Did : Type 0 where
  pub missions : Missions
  pub writes : List LineWrite
  pub told : List Told

-- who asks, and the number of the type
pub record From : Type 0 where
  pub station : ℕ
  pub target : Target
  pub number : ℕ

-- who asks is told this
abbrev pub tells : From → Content → List Told
tells from content = record { target = from.target; number = from.number; content = content } ∷ []

-- this becomes of the uploads, these lines are written, and this is told
abbrev pub does : From → Missions → List LineWrite → Content → Did
does from m writes content = record { missions = m; writes = writes; told = tells from content }

-- nothing is written
abbrev pub only : From → Missions → Content → Did
only from m content = does from m [] content

-- the first case that applies, or else the last one
abbrev pub first_case : {A : Type 0} → List (Bool × A) → A → A
first_case [] otherwise = otherwise
first_case (c ∷ cases) otherwise = if c.0 then c.1 else first_case cases otherwise

-- another station's upload is open
abbrev pub is_anothers : ℕ → Uploads → Bool
is_anothers station (Open u) = not (u.owner == station)
is_anothers station Quiet = false
is_anothers station (Finished s last) = false

-- an upload is open for the station, with no item yet
abbrev pub opened : From → ℕ → Uploads
opened from count = Open (record {
  owner = from.station;
  target = from.target;
  count = count;
  expected = 0;
  kept = [];
  idle = 0;
})

-- the lines with which an upload begins
abbrev pub first_writes : MissionType → List ℕ → List LineWrite
first_writes Mission bytes = begin_writes bytes
first_writes Fence bytes = []

-- the most items of a fence's upload
abbrev pub fence_capacity : ℕ
fence_capacity = 51

-- the most items of an upload
abbrev pub most_of : MissionType → ℕ
most_of Mission = CAPACITY
most_of Fence = fence_capacity

-- the lines that clear a type
abbrev pub type_writes : MissionType → List ℕ → List LineWrite
type_writes Mission bytes = total_writes bytes 0
type_writes Fence bytes = fence.clear_fence_writes bytes

-- the lines that clear these types, one after another
unfoldable pub clear_writes : List ℕ → List MissionType → List LineWrite
clear_writes bytes [] = []
clear_writes bytes (t ∷ ts) =
    type_writes t bytes ++ clear_writes (after bytes (type_writes t bytes)) ts

-- another station's upload of one of these types is open
abbrev pub any_anothers : ℕ → Missions → List MissionType → Bool
any_anothers station m [] = false
any_anothers station m (t ∷ ts) = is_anothers station (uploads_of t m) || any_anothers station m ts

-- no upload of these types is open, and none is finished
abbrev pub all_quiet : Missions → List MissionType → Missions
all_quiet m [] = m
all_quiet m (t ∷ ts) = all_quiet (with_uploads t m Quiet) ts

-- MISSION_CLEAR_ALL: each of these types is cleared, and the station's own uploads are closed.
abbrev pub cleared : List ℕ → Option ℕ → Missions → From → List MissionType → Did
cleared bytes allowed m from types = first_case
    ((any_anothers from.station m types, only from m (Answer denied))
    ∷ (exceeds allowed (clear_writes bytes types), only from m (Answer no_space))
    ∷ [])
    (does from (all_quiet m types) (clear_writes bytes types) (Answer accepted))

-- MISSION_COUNT: an upload of so many items is opened, in place of an older one of the station.
abbrev pub begun : List ℕ → Option ℕ → Missions → From → MissionType → ℕ → Did
begun bytes allowed m from t count = first_case
    ((is_anothers from.station (uploads_of t m), only from m (Answer denied))
    ∷ (nat_lt (most_of t) count, only from m (Answer no_space))
    ∷ (count == 0, cleared bytes allowed m from (t ∷ []))
    ∷ (exceeds allowed (first_writes t bytes), only from m (Answer no_space))
    ∷ [])
    (does from (with_uploads t m (opened from count)) (first_writes t bytes) (Next 0))

-- the next item is the last one
abbrev pub is_last : Upload → Bool
is_last u = u.expected + 1 == u.count

-- the lines of an item that is taken, and the fence items that are kept then
pub record Taken : Type 0 where
  pub writes : List LineWrite
  pub kept : List FenceItem

-- lines that may be issued, or else the answer that there is no space
abbrev pub if_allowed : Option ℕ → List FenceItem → Result (List LineWrite) ℕ → Result Taken ℕ
if_allowed allowed kept (Err result) = Err result
if_allowed allowed kept (Ok writes) =
    if exceeds allowed writes then Err no_space else Ok (record { writes = writes; kept = kept })

-- the lines that put a command, where a record of MIS_TOTAL has room
abbrev pub command_lines : List ℕ → ℕ → Command → Result (List LineWrite) ℕ
command_lines bytes i c =
    if is_full (records_in_storage bytes) total_row (i + 1) then Err no_space
    else Ok (put_writes bytes i c)

-- What taking the next item does: a command is put, a fence item is kept, and with the last one the
-- fence is written. Or the answer that refuses it.
abbrev pub taken : List ℕ → Option ℕ → Upload → Given → Result Taken ℕ
taken bytes allowed u (ForMission (Err result)) = Err result
taken bytes allowed u (ForMission (Ok c)) = if_allowed allowed [] (command_lines bytes u.expected c)
taken bytes allowed u (ForFence (Err result)) = Err result
taken bytes allowed u (ForFence (Ok item)) =
    if is_last u then if_allowed allowed [] (fence.replace_writes bytes (u.kept ++ item ∷ []))
    else Ok (record { writes = []; kept = u.kept ++ item ∷ [] })

-- the upload after an item that was taken
abbrev pub after_item : Upload → ℕ → List FenceItem → Uploads
after_item u station kept = if is_last u then Finished station u.expected
    else Open (record u { expected = u.expected + 1; kept = kept; idle = 0 })

-- what is told then
abbrev pub told_after : Upload → Content
told_after u = if is_last u then Answer accepted else Next (u.expected + 1)

-- the item is taken, or it is refused and closes the upload
abbrev pub took : Missions → From → MissionType → Upload → Result Taken ℕ → Did
took m from t u (Err result) = only from (with_uploads t m Quiet) (Answer result)
took m from t u (Ok x) =
    does from (with_uploads t m (after_item u from.station x.kept)) x.writes (told_after u)

-- MISSION_ITEM_INT
abbrev pub given_to : List ℕ → Option ℕ → Missions → From → MissionType → ℕ → Given → Uploads → Did
given_to bytes allowed m from t seq given Quiet = only from m (Answer error)
given_to bytes allowed m from t seq given (Finished station last) =
    only from m (Answer (if (station == from.station) && (seq == last) then accepted else error))
given_to bytes allowed m from t seq given (Open u) = first_case
    ((not (u.owner == from.station), only from m (Answer denied))
    ∷ (seq + 1 == u.expected, only from m (Next u.expected))
    ∷ (not (seq == u.expected), only from m (Answer invalid_sequence))
    ∷ [])
    (took m from t u (taken bytes allowed u given))

-- MISSION_REQUEST_LIST: how many items are stored
abbrev pub total : MissionType → List ℕ → ℕ
total Mission bytes = total_of bytes
total Fence bytes = length (fence.fence_of bytes)

-- MISSION_REQUEST_INT and MISSION_REQUEST: a stored item
abbrev pub shown : MissionType → List ℕ → ℕ → Content
shown Mission bytes seq = option_map_or (λ c. MissionItem seq c)
    (slice_get (mission_of bytes) seq) (Answer invalid_sequence)
shown Fence bytes seq = option_map_or (λ i. FencePart seq i)
    (slice_get (fence.fence_of bytes) seq) (Answer invalid_sequence)

-- the station's own upload is closed
abbrev pub cancelled : ℕ → Uploads → Uploads
cancelled station (Open u) = if u.owner == station then Quiet else Open u
cancelled station Quiet = Quiet
cancelled station (Finished s last) = Finished s last

-- nothing is done
abbrev pub nothing : Missions → Did
nothing m = record { missions = m; writes = []; told = [] }

-- What a request does over these storage bytes. Where a limit is given, so many lines may be
-- written.
abbrev pub answered : List ℕ → Option ℕ → Missions → From → Request → Did
answered bytes allowed m from (Begin t count) = begun bytes allowed m from t count
answered bytes allowed m from (Give seq given) = given_to bytes allowed m from
    (type_of_given given) seq given (uploads_of (type_of_given given) m)
answered bytes allowed m from (Clear types) = cleared bytes allowed m from types
answered bytes allowed m from (Count t) = only from m (Total (total t bytes))
answered bytes allowed m from (Show t seq) = only from m (shown t bytes seq)
answered bytes allowed m from (Cancel t) =
    nothing (with_uploads t m (cancelled from.station (uploads_of t m)))
answered bytes allowed m from Unsupported = only from m (Answer unsupported)

-- the same of a message that may ask for nothing, from a station and the system and component there
abbrev pub did : List ℕ → Option ℕ → Missions → ℕ → Target → Option Asking → Did
did bytes allowed m station target None = nothing m
did bytes allowed m station target (Some asking) = answered bytes allowed m
    (record { station = station; target = target; number = asking.number }) asking.request

-- so many idle turns in a row close an upload
abbrev pub idle_turns : ℕ
idle_turns = 8

-- what an open upload's station is told of it at an idle turn
abbrev pub reminds : MissionType → Upload → Content → List Told
reminds t u content =
    record { target = u.target; number = mission_type_number t; content = content } ∷ []

-- At an idle turn the station of an open upload is asked for its next item again. The eighth in a
-- row closes it.
abbrev pub idled : ℕ → MissionType → Uploads → Uploads × List Told
idled station t (Open u) = first_case
    ((not (u.owner == station), (Open u, []))
    ∷ (nat_le idle_turns (u.idle + 1), (Quiet, reminds t u (Answer operation_cancelled)))
    ∷ [])
    (Open (record u { idle = u.idle + 1 }), reminds t u (Next u.expected))
idled station t Quiet = (Quiet, [])
idled station t (Finished s last) = (Finished s last, [])

-- a station's idle turn for these types
abbrev pub all_idled : ℕ → List MissionType → Missions → Missions
all_idled station [] m = m
all_idled station (t ∷ ts) m =
    all_idled station ts (with_uploads t m (idled station t (uploads_of t m)).0)

-- what it is told of them
abbrev pub all_reminded : ℕ → List MissionType → Missions → List Told
all_reminded station [] m = []
all_reminded station (t ∷ ts) m =
    (idled station t (uploads_of t m)).1 ++ all_reminded station ts m

-- what a station's idle turn does, for each type
abbrev pub idle : Missions → ℕ → Did
idle m station = record {
  missions = all_idled station kinds m;
  writes = [];
  told = all_reminded station kinds m;
}

-- No request writes more lines than are allowed.
use Rattle.std.proofs.Common.{◌≡◌, ℕ, ◌+◌, ◌≤◌, false, cond, not, List, [], ◌∷◌, ◌++◌, length, refl, ◌∙◌, ap, subst, arith, Option, Some, None}
use Rattle.std.specs.Prelude.{Result, Ok, Err, nat_lt, ◌==◌}
use Rattle.std.proofs.lemmas.Bool.{cond_both}
use Rattle.std.proofs.lemmas.Bool.Decides.{nat_tests}
use Rattle.storage_lines.specs.declared.lines.LineWrite.{LineWrite}
use Rattle.fence_records.specs.Lists as fence
use Rattle.param_service.specs.Budget.{exceeds}
use Rattle.mission_service.specs.Uploads.{MissionType, Target, Upload, Uploads, Quiet, Open, Finished, Missions, uploads_of, with_uploads}
use Rattle.mission_service.specs.Requests.{Given, ForMission, ForFence, type_of_given, Request, Begin, Give, Clear, Count, Show, Cancel, Unsupported, Asking}
use Rattle.mission_service.specs.Service.{Content, Answer, Next, Did, From, Taken, denied, no_space, accepted, invalid_sequence, only, does, is_anothers, any_anothers, all_quiet, most_of, first_writes, clear_writes, cleared, begun, opened, is_last, if_allowed, command_lines, taken, took, given_to, answered, did}
use Rattle.mission_service.specs.Steps.Inside.{done_for}

-- what was done wrote so many lines at most
abbrev IsWithin : ℕ → Did → Type 0
IsWithin limit d = length d.writes ≤ limit

within_lines : (limit : ℕ) (writes : List LineWrite) → exceeds (Some limit) writes ≡ false → length writes ≤ limit
within_lines limit writes none = grind (arith, nat_tests)

none_within : (limit : ℕ) → length {A = LineWrite} [] ≤ limit
none_within limit = omega arith

cleared_within : (bytes : List ℕ) (limit : ℕ) (m : Missions) (from : From) (types : List MissionType) → IsWithin limit (cleared bytes (Some limit) m from types)
cleared_within bytes limit m from types =
    let ws = clear_writes bytes types in
    let done = does from (all_quiet m types) ws (Answer accepted) in
    let if_few = cond (exceeds (Some limit) ws) (only from m (Answer no_space)) done in
    cond_both (any_anothers from.station m types) (only from m (Answer denied)) if_few (IsWithin limit)
    (λ x. none_within limit)
    (λ x. cond_both (exceeds (Some limit) ws) (only from m (Answer no_space)) done (IsWithin limit) (λ y. none_within limit) (within_lines limit ws))

begun_within : (bytes : List ℕ) (limit : ℕ) (m : Missions) (from : From) (t : MissionType) (count : ℕ) → IsWithin limit (begun bytes (Some limit) m from t count)
begun_within bytes limit m from t count =
    let ws = first_writes t bytes in
    let done = does from (with_uploads t m (opened from count)) ws (Next 0) in
    let if_few = cond (exceeds (Some limit) ws) (only from m (Answer no_space)) done in
    let if_some = cond (count == 0) (cleared bytes (Some limit) m from (t ∷ [])) if_few in
    let if_room = cond (nat_lt (most_of t) count) (only from m (Answer no_space)) if_some in
    cond_both (is_anothers from.station (uploads_of t m)) (only from m (Answer denied)) if_room (IsWithin limit)
    (λ x. none_within limit)
    (λ x. cond_both (nat_lt (most_of t) count) (only from m (Answer no_space)) if_some (IsWithin limit)
    (λ x. none_within limit)
    (λ x. cond_both (count == 0) (cleared bytes (Some limit) m from (t ∷ [])) if_few (IsWithin limit)
    (λ x. cleared_within bytes limit m from (t ∷ []))
    (λ x. cond_both (exceeds (Some limit) ws) (only from m (Answer no_space)) done (IsWithin limit) (λ x. none_within limit) (within_lines limit ws))))

-- lines that are issued where they are allowed
allowed_within : (limit : ℕ) (m : Missions) (from : From) (t : MissionType) (u : Upload) (r : Result (List LineWrite) ℕ) → IsWithin limit (took m from t u (if_allowed (Some limit) [] r))
allowed_within limit m from t u (Err e) = none_within limit
allowed_within limit m from t u (Ok ws) =
    cond_both (exceeds (Some limit) ws) (Err no_space) (Ok (record { writes = ws; kept = [] })) (λ (r : Result Taken ℕ). IsWithin limit (took m from t u r)) (λ x. none_within limit) (within_lines limit ws)

taken_within : (bytes : List ℕ) (limit : ℕ) (m : Missions) (from : From) (t : MissionType) (u : Upload) (given : Given) → IsWithin limit (took m from t u (taken bytes (Some limit) u given))
taken_within bytes limit m from t u (ForMission (Err e)) = none_within limit
taken_within bytes limit m from t u (ForMission (Ok c)) = allowed_within limit m from t u (command_lines bytes u.expected c)
taken_within bytes limit m from t u (ForFence (Err e)) = none_within limit
taken_within bytes limit m from t u (ForFence (Ok item)) =
    let items = u.kept ++ item ∷ [] in
    cond_both (is_last u) (if_allowed (Some limit) [] (fence.replace_writes bytes items)) (Ok (record { writes = []; kept = items })) (λ (r : Result Taken ℕ). IsWithin limit (took m from t u r))
    (λ x. allowed_within limit m from t u (fence.replace_writes bytes items))
    (λ x. none_within limit)

given_within : (bytes : List ℕ) (limit : ℕ) (m : Missions) (from : From) (t : MissionType) (seq : ℕ) (given : Given) (before : Uploads) → IsWithin limit (given_to bytes (Some limit) m from t seq given before)
given_within bytes limit m from t seq given Quiet = none_within limit
given_within bytes limit m from t seq given (Finished s l) = none_within limit
given_within bytes limit m from t seq given (Open u) =
    let done = took m from t u (taken bytes (Some limit) u given) in
    let if_next = cond (not (seq == u.expected)) (only from m (Answer invalid_sequence)) done in
    let if_new = cond (seq + 1 == u.expected) (only from m (Next u.expected)) if_next in
    cond_both (not (u.owner == from.station)) (only from m (Answer denied)) if_new (IsWithin limit)
    (λ x. none_within limit)
    (λ x. cond_both (seq + 1 == u.expected) (only from m (Next u.expected)) if_next (IsWithin limit)
    (λ x. none_within limit)
    (λ x. cond_both (not (seq == u.expected)) (only from m (Answer invalid_sequence)) done (IsWithin limit) (λ x. none_within limit) (λ x. taken_within bytes limit m from t u given)))

answered_within : (bytes : List ℕ) (limit : ℕ) (m : Missions) (from : From) (request : Request) → IsWithin limit (answered bytes (Some limit) m from request)
answered_within bytes limit m from (Begin t count) = begun_within bytes limit m from t count
answered_within bytes limit m from (Give seq given) = given_within bytes limit m from (type_of_given given) seq given (uploads_of (type_of_given given) m)
answered_within bytes limit m from (Clear types) = cleared_within bytes limit m from types
answered_within bytes limit m from (Count t) = none_within limit
answered_within bytes limit m from (Show t seq) = none_within limit
answered_within bytes limit m from (Cancel t) = none_within limit
answered_within bytes limit m from Unsupported = none_within limit

-- A message that may ask for nothing writes no more lines than are allowed.
pub did_within : (bytes : List ℕ) (limit : ℕ) (m : Missions) (station : ℕ) (target : Target) (asked : Option Asking) → length (did bytes (Some limit) m station target asked).writes ≤ limit
did_within bytes limit m station target None = none_within limit
did_within bytes limit m station target (Some asking) = answered_within bytes limit m (record { station = station; target = target; number = asking.number }) asking.request

done_writes : (from : From) (m : Missions) (writes : List LineWrite) (told : Option Content) → (done_for from m writes told).writes ≡ writes
done_writes from m writes None = refl
done_writes from m writes (Some content) = refl

-- These are the lines of a request, and so no more than are allowed.
pub lines_within : (bytes : List ℕ) (allowed : Option ℕ) (old new : Missions) (from : From) (request : Request) (writes : List LineWrite) (told : Option Content) → answered bytes allowed old from request ≡ done_for from new writes told →
    (limit : ℕ) → allowed ≡ Some limit → length writes ≤ limit
lines_within bytes allowed old new from request writes told done limit is =
    let here = subst (λ (a : Option ℕ). answered bytes a old from request ≡ done_for from new writes told) is done in
    let lines : (answered bytes (Some limit) old from request).writes ≡ writes = ap (λ (d : Did). d.writes) here ∙ done_writes from new writes told in
    subst (λ (ws : List LineWrite). length ws ≤ limit) lines (answered_within bytes limit old from request)

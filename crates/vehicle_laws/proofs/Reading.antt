-- What is read of frames fits.
use Rattle.std.proofs.Common.{◌≡◌, inl, inr, ℕ, cond, List, [], ◌∷◌, ◌++◌, refl, sym, subst, Option, Some, None}
use Rattle.std.specs.Prelude.{IfSome, slice_get, map, option_map, ◌==◌}
use Rattle.std.proofs.lemmas.Bool.{cond_both}
use Rattle.flash_traits.specs.Losses.{Received, Datagram, Idle, End}
use Rattle.param_tree.specs.declared.Var.{Var}
use Rattle.param_tree.specs.Rows.{vehicle_rows}
use Rattle.param_records.specs.Steps.{IsKept}
use Rattle.param_records.proofs.SetLemmas.{kept_number}
use Rattle.param_service.specs.Requests as parameters
use Rattle.param_service.specs.Requests.{Show, ShowAll, Set, IsNumberFor, IsSetting, is_for, row_asked_for, row_named}
use Rattle.mav_messages.specs.declared.messages.Message.{Message}
use Rattle.mav_messages.specs.declared.messages.Message.TheVariants as message
use Rattle.mission_service.specs.declared.uploads.Target.{Target}
use Rattle.mission_service.specs.declared.requests.MissionType.{MissionType}
use Rattle.mission_service.specs.declared.requests.MissionType.TheVariants.{Mission, Fence}
use Rattle.mission_commands.specs.declared.commands.Item.{Item}
use Rattle.mission_service.specs.Uploads.{kinds, type_of}
use Rattle.mission_service.specs.Requests as missions
use Rattle.mission_service.specs.Requests.{Begin, Give, Clear, Count, Show as ShowItem, Cancel, Unsupported}
use Rattle.mission_service.specs.Asked.{RequestFits, AsksWhatFits}
use Rattle.vehicle_core.specs.declared.orders.VehicleCommand.{VehicleCommand}
use Rattle.vehicle_core.specs.Orders.{vehicle_command_of}
use Rattle.vehicle_core.specs.Vehicle.{Asked, Parameters, Missions, Asks, one_of, orders_for}
use Rattle.vehicle_core.specs.Acts.{Act, Beat, Stream}
use Rattle.vehicle_runs.specs.Reading.{sender_in, AreSaid, IsEvent, Reads, no_rests, streams, beats}
use Rattle.vehicle_runs.specs.Frames.{stations}
use Rattle.mav_frames.specs.Cut.{frames_in}
use Rattle.vehicle_laws.specs.Fitting.{SettingFits, ClearsOneOrAll, AskedFits, AllFit}
use Rattle.vehicle_laws.specs.Laws.{acts_of, ReadActsFit}

-- what is asked of the parameters, if anything
abbrev pub AskedSettingFits : Option parameters.Request → Type 0
AskedSettingFits None = Unit {0}
AskedSettingFits (Some request) = SettingFits request

number_fits : (o : Option Var) (bits : ℕ) (number : Option ℕ) → IfSome o (λ row. IsNumberFor row bits number) → (n : ℕ) → number ≡ Some n → IfSome o (λ row. IsKept row.kind n)
number_fits None bits number h n e = h
number_fits (Some row) bits None h n e = absurd (let clash : let none : Option ℕ = None in none ≡ Some n = e in cc)
number_fits (Some row) bits (Some m) h n e = let same : m ≡ n = cc in subst (λ (k : ℕ). IsKept row.kind k) same (kept_number row.kind bits m h)

setting_fits : (index bits : ℕ) (number : Option ℕ) → IfSome (slice_get vehicle_rows index) (λ row. IsNumberFor row bits number) → SettingFits (Set index number)
setting_fits index bits None h = tt
setting_fits index bits (Some n) h = number_fits (slice_get vehicle_rows index) bits (Some n) h n refl

set_fits : (row : Option ℕ) (bits : ℕ) (asked : Option parameters.Request) → IsSetting row bits asked → AskedSettingFits asked
set_fits None bits asked e = subst AskedSettingFits (sym e) tt
set_fits (Some index) bits asked h = subst AskedSettingFits (sym h.2) (setting_fits index bits h.0 h.1)

shown_fits : (o : Option ℕ) → AskedSettingFits (option_map Show o)
shown_fits None = tt
shown_fits (Some index) = tt

-- what a message asks of the parameters fits
parameters_fit : (m : Message) (asked : Option parameters.Request) → parameters.Asks m asked → AskedSettingFits asked
parameters_fit (message.ParamRequestRead index system component name) asked h = subst AskedSettingFits (sym h)
    (cond_both (is_for system component) (option_map Show (row_asked_for index name)) None AskedSettingFits (λ t. shown_fits (row_asked_for index name)) (λ t. tt))
parameters_fit (message.ParamRequestList system component) asked h = subst AskedSettingFits (sym h)
    (cond_both (is_for system component) (Some ShowAll) None AskedSettingFits (λ t. tt) (λ t. tt))
parameters_fit (message.ParamSet bits system component name kind) asked h = set_fits (cond (is_for system component) (row_named name) None) bits asked h
parameters_fit _ asked h = subst AskedSettingFits (sym h) tt

one_fits : (sender : Target) (request : Option parameters.Request) (asking : Option missions.Asking) (command : Option VehicleCommand) → AskedSettingFits request → ((a : missions.Asking) → asking ≡ Some a → RequestFits a.request × ClearsOneOrAll a.request) →
    AskedFits (one_of (option_map Parameters request) (one_of (option_map (Missions sender) asking) (option_map (orders_for sender) command)))
one_fits sender (Some request) asking command f g = f
one_fits sender None (Some asking) command f g = g asking refl
one_fits sender None None (Some command) f g = tt
one_fits sender None None None f g = tt

-- what is asked of the missions, if anything
abbrev AskedClears : Option missions.Asking → Type 0
AskedClears None = Unit {0}
AskedClears (Some asking) = ClearsOneOrAll asking.request

clears_so : (a : missions.Asking) → AskedClears (Some a) → ClearsOneOrAll a.request
clears_so a h = h

for_clears : (system component number : ℕ) (request : missions.Request) → ClearsOneOrAll request → AskedClears (missions.if_for system component (missions.ask number request))
for_clears system component number request h = cond_both (is_for system component) (missions.ask number request) None AskedClears (λ t. h) (λ t. tt)

type_clears : (o : Option MissionType) (f : MissionType → missions.Request) → ((t : MissionType) → ClearsOneOrAll (f t)) → ClearsOneOrAll (missions.of_type o f)
type_clears None f h = tt
type_clears (Some t) f h = h t

types_clear : (number : ℕ) → ClearsOneOrAll (missions.types_of number)
types_clear number = cond_both (number == missions.all_types) (Clear kinds) (missions.of_type (type_of number) (λ t. Clear (t ∷ []))) ClearsOneOrAll (λ t. inr refl) (λ t. type_clears (type_of number) (λ t. Clear (t ∷ [])) (λ t. inl (t, refl)))

item_clears : (o : Option MissionType) (item : Item) (request : missions.Request) → missions.IsGiven o item request → ClearsOneOrAll request
item_clears None item request h = subst ClearsOneOrAll (sym h) tt
item_clears (Some Mission) item request h = subst ClearsOneOrAll (sym h.2) tt
item_clears (Some Fence) item request h = subst ClearsOneOrAll (sym h.2) tt

cancel_clears : (o : Option MissionType) (number : ℕ) → AskedClears (missions.if_supported o (λ t. missions.ask number (Cancel t)))
cancel_clears None number = tt
cancel_clears (Some t) number = tt

-- what a message asks to clear is one type, or all
clears_fit : (m : Message) (asked : Option missions.Asking) → missions.Asks m asked → AskedClears asked
clears_fit (message.MissionCount count system component type) asked h = subst AskedClears (sym h) (for_clears system component type (missions.of_type (type_of type) (λ t. Begin t count)) (type_clears (type_of type) (λ t. Begin t count) (λ t. tt)))
clears_fit (message.MissionItemInt p1 p2 p3 p4 x y z seq command system component frame current autocontinue type) asked h =
    let item : Item = record { param1 = p1; param2 = p2; param3 = p3; param4 = p4; x = x; y = y; z = z; seq = seq; command = command; frame = frame; current = current; autocontinue = autocontinue } in
    subst AskedClears (sym h.2) (for_clears system component type h.0 (item_clears (type_of type) item h.0 h.1))
clears_fit (message.MissionClearAll system component type) asked h = subst AskedClears (sym h) (for_clears system component type (missions.types_of type) (types_clear type))
clears_fit (message.MissionRequestList system component type) asked h = subst AskedClears (sym h) (for_clears system component type (missions.of_type (type_of type) (λ t. Count t)) (type_clears (type_of type) (λ t. Count t) (λ t. tt)))
clears_fit (message.MissionRequestInt seq system component type) asked h = subst AskedClears (sym h) (for_clears system component type (missions.of_type (type_of type) (λ t. ShowItem t seq)) (type_clears (type_of type) (λ t. ShowItem t seq) (λ t. tt)))
clears_fit (message.MissionRequest seq system component type) asked h = subst AskedClears (sym h) (for_clears system component type (missions.of_type (type_of type) (λ t. ShowItem t seq)) (type_clears (type_of type) (λ t. ShowItem t seq) (λ t. tt)))
clears_fit (message.MissionAck system component result type) asked h =
    let cancels = missions.if_supported (type_of type) (λ t. missions.ask type (Cancel t)) in
    subst AskedClears (sym h) (cond_both (is_for system component) (cond (result == missions.operation_cancelled) cancels None) None AskedClears
    (λ t. cond_both (result == missions.operation_cancelled) cancels None AskedClears (λ t. cancel_clears (type_of type) type) (λ t. tt)) (λ t. tt))
clears_fit _ asked h = subst AskedClears (sym h) tt

-- what a message asks fits
asked_fits : AsksWhatFits → (sender : Target) (m : Message) (asked : Option Asked) → Asks sender m asked → AskedFits asked
asked_fits q sender m asked h = subst AskedFits (sym h.4) (one_fits sender h.0 h.2 (vehicle_command_of m) (parameters_fit m h.0 h.1) (λ a e. (q m a (subst (λ (x : Option missions.Asking). missions.Asks m x) e h.3), clears_so a (subst AskedClears e (clears_fit m h.2 h.3)))))

said_fit : AsksWhatFits → (station : ℕ) (frames : List (List ℕ)) (acts : List Act) → AreSaid station frames acts → AllFit acts
said_fit q station [] acts h = subst AllFit (sym h) tt
said_fit q station (bytes ∷ frames) acts (inl h) = said_fit q station frames acts h.1
said_fit q station (bytes ∷ frames) acts (inr h) = subst AllFit (sym h.4) (asked_fits q (sender_in bytes) h.2.message h.0 h.2.asks, said_fit q station frames h.1 h.3)

fit_append : (xs ys : List Act) → AllFit xs → AllFit ys → AllFit (xs ++ ys)
fit_append [] ys a b = b
fit_append (x ∷ xs) ys a b = (a.0, fit_append xs ys a.1 b)

streams_fit : (ss : List ℕ) → AllFit (map Stream ss)
streams_fit [] = tt
streams_fit (s ∷ ss) = (tt, streams_fit ss)

beats_fit : (ss : List ℕ) → AllFit (map Beat ss)
beats_fit [] = tt
beats_fit (s ∷ ss) = (tt, beats_fit ss)

event_fits : AsksWhatFits → (old : List (List ℕ)) (e : Received) (acts : List Act) (new : List (List ℕ)) → IsEvent old e acts new → AllFit acts
event_fits q old (Datagram station bytes) acts new h = subst AllFit (sym h.acts_are) (fit_append h.said streams (said_fit q station (frames_in h.heard.pieces) h.said h.heard.are_said) (streams_fit stations))
event_fits q old Idle acts new h = subst AllFit (sym h.0) (fit_append beats streams (beats_fit stations) (streams_fit stations))
event_fits q old End acts new h = subst AllFit (sym h.0) tt

reads_fit : AsksWhatFits → (old : List (List ℕ)) (events : List Received) (acts : List (List Act)) (new : List (List ℕ)) → Reads old events acts new → AllFit (acts_of acts)
reads_fit q old [] acts new h = subst (λ (l : List (List Act)). AllFit (acts_of l)) (sym h.0) tt
reads_fit q old (e ∷ es) acts new h = subst (λ (l : List (List Act)). AllFit (acts_of l)) (sym h.5) (fit_append h.0 (acts_of h.2) (event_fits q old e h.0 h.1 h.3) (reads_fit q h.1 es h.2 new h.4))

pub read_acts_fit : AsksWhatFits → ReadActsFit
read_acts_fit q events acts rests h = reads_fit q no_rests events acts rests h

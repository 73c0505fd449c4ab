-- What a message asks for.
use Rattle.std.proofs.Common.{◌≡◌, ◌≢◌, ℕ, Bool, true, false, List, [], ◌∷◌, Option, Some, None, refl, ap, sym, ◌∙◌, subst, arith, inl, inr}
use Rattle.std.specs.Prelude.{Result, Ok, Err, ◌==◌, cond}
use Rattle.std.proofs.lemmas.Option.{none-some}
use Rattle.std.specs.Option.{unwrap_or}
use Rattle.mav_messages.specs.declared.messages.Message.{Message}
use Rattle.mav_messages.specs.declared.messages.Message.TheVariants.{Heartbeat, ParamRequestRead, ParamRequestList, ParamValue, ParamSet, MissionRequest, MissionRequestList, MissionCount, MissionClearAll, MissionAck, MissionRequestInt, MissionItemInt, CommandLong, CommandAck}
use Rattle.mission_commands.specs.declared.commands.Item.{Item}
use Rattle.mission_commands.specs.declared.commands.Command.{Command}
use Rattle.mission_commands.specs.Commands.{Rule, FailsWith, Meets, item_rules, answer_of, Listed, Framed, Param1, Param2, Param3, Param4, Latitude, Longitude, Altitude}
use Rattle.mission_commands.specs.Table.{row_of}
use Rattle.mission_commands.specs.Results.{HasResult}
use Rattle.fence_records.specs.Results.{HasFenceResult}
use Rattle.fence_records.specs.Items.{MeetsFence, fence_rules}
use Rattle.param_service.specs.Requests.{is_for}
use Rattle.mission_commands.proofs.Results.{each_has_one_result}
use Rattle.mission_commands.proofs.Storable.{stores_fit}
use Rattle.fence_records.specs.declared.items.FenceItem.{FenceItem}
use Rattle.fence_records.proofs.Results.{each_has_one_fence_result, keeps_fence_items}
use Rattle.fence_records.specs.Lists.{IsFenceItem}
use Rattle.mission_service.specs.Uploads.{MissionType, Mission, Fence, kinds, type_of}
use Rattle.mission_service.specs.Requests.{ForMission, ForFence, Request, Give, Unsupported, Begin, Clear, Count, Show, Cancel, Asking, Asks, IsGiven, ask, if_for, if_supported, of_type, types_of}
use Rattle.mission_service.specs.Asked.{AsksOneThing, GivenFits, RequestFits, AsksWhatFits}

some_given : (t : Option MissionType) (item : Item) → (request : Request) × IsGiven t item request
some_given None item = (Unsupported, refl)
some_given (Some Mission) item = let o = each_has_one_result item in (Give item.seq (ForMission o.result), (o.result, o.has, refl))
some_given (Some Fence) item = let o = each_has_one_fence_result item in (Give item.seq (ForFence o.result), (o.result, o.has, refl))

one_given : (t : Option MissionType) (item : Item) (r s : Request) → IsGiven t item r → IsGiven t item s → r ≡ s
one_given None item r s h k = h ∙ sym k
one_given (Some Mission) item r s h k = let o = each_has_one_result item in h.2 ∙ (ap (λ x. Give item.seq (ForMission x)) (o.only h.0 h.1 ∙ sym (o.only k.0 k.1)) ∙ sym k.2)
one_given (Some Fence) item r s h k = let o = each_has_one_fence_result item in h.2 ∙ (ap (λ x. Give item.seq (ForFence x)) (o.only h.0 h.1 ∙ sym (o.only k.0 k.1)) ∙ sym k.2)

asked_some : (message : Message) → (asked : Option Asking) × Asks message asked
asked_some (Heartbeat a b c d e f) = (None, refl)
asked_some (ParamRequestRead a b c d) = (None, refl)
asked_some (ParamRequestList a b) = (None, refl)
asked_some (ParamValue a b c d e) = (None, refl)
asked_some (ParamSet a b c d e) = (None, refl)
asked_some (MissionRequest a b c d) = (_, refl)
asked_some (MissionRequestList a b c) = (_, refl)
asked_some (MissionCount a b c d) = (_, refl)
asked_some (MissionClearAll a b c) = (_, refl)
asked_some (MissionAck a b c d) = (_, refl)
asked_some (MissionRequestInt a b c d) = (_, refl)
asked_some (MissionItemInt p1 p2 p3 p4 x y z seq command system component frame current autocontinue type) =
    let g = some_given (type_of type) (record { param1 = p1; param2 = p2; param3 = p3; param4 = p4; x = x; y = y; z = z; seq = seq; command = command; frame = frame; current = current; autocontinue = autocontinue }) in
    (if_for system component (ask type g.0), (g.0, g.1, refl))
asked_some (CommandLong a b c d e f g h i j k) = (None, refl)
asked_some (CommandAck a b c d e f) = (None, refl)

asked_only : (message : Message) (asked other : Option Asking) → Asks message asked → Asks message other → asked ≡ other
asked_only (Heartbeat a b c d e f) x y h k = h ∙ sym k
asked_only (ParamRequestRead a b c d) x y h k = h ∙ sym k
asked_only (ParamRequestList a b) x y h k = h ∙ sym k
asked_only (ParamValue a b c d e) x y h k = h ∙ sym k
asked_only (ParamSet a b c d e) x y h k = h ∙ sym k
asked_only (MissionRequest a b c d) x y h k = h ∙ sym k
asked_only (MissionRequestList a b c) x y h k = h ∙ sym k
asked_only (MissionCount a b c d) x y h k = h ∙ sym k
asked_only (MissionClearAll a b c) x y h k = h ∙ sym k
asked_only (MissionAck a b c d) x y h k = h ∙ sym k
asked_only (MissionRequestInt a b c d) x y h k = h ∙ sym k
asked_only (MissionItemInt p1 p2 p3 p4 x y z seq command system component frame current autocontinue type) u v h k =
    let item : Item = record { param1 = p1; param2 = p2; param3 = p3; param4 = p4; x = x; y = y; z = z; seq = seq; command = command; frame = frame; current = current; autocontinue = autocontinue } in
    h.2 ∙ (ap (λ r. if_for system component (ask type r)) (one_given (type_of type) item h.0 k.0 h.1 k.1) ∙ sym k.2)
asked_only (CommandLong a b c d e f g h i j k) x y m n = m ∙ sym n
asked_only (CommandAck a b c d e f) x y h k = h ∙ sym k

pub asks_one_thing : AsksOneThing
asks_one_thing = record { some = asked_some; only = asked_only }

-- no rule's answer is 0
answer_some : (r : Rule) → answer_of r ≢ 0
answer_some Listed e = omega (arith, e)
answer_some Framed e = omega (arith, e)
answer_some Param1 e = omega (arith, e)
answer_some Param2 e = omega (arith, e)
answer_some Param3 e = omega (arith, e)
answer_some Param4 e = omega (arith, e)
answer_some Latitude e = omega (arith, e)
answer_some Longitude e = omega (arith, e)
answer_some Altitude e = omega (arith, e)

fails_some : (meets : Rule → Type 0) (rs : List Rule) (e : ℕ) → FailsWith meets rs e → e ≢ 0
fails_some meets [] e h z = h
fails_some meets (r ∷ rs) e (inl h) z = answer_some r (sym h.1 ∙ z)
fails_some meets (r ∷ rs) e (inr h) z = fails_some meets rs e h.1 z

same_asking : (a b : Asking) → Some a ≡ Some b → a ≡ b
same_asking a b h = ap (λ o. unwrap_or o a) h

-- what is asked, where it is for the vehicle
if_fits : (b : Bool) (a : Asking) (n : ℕ) (r : Request) → RequestFits r → Some a ≡ cond b (ask n r) None → RequestFits a.request
if_fits true a n r fits h = subst (λ (x : Asking). RequestFits x.request) (sym (same_asking a (record { number = n; request = r }) h)) fits
if_fits false a n r fits h = absurd (none-some a (sym h))

type_fits : (o : Option MissionType) (f : MissionType → Request) → ((t : MissionType) → RequestFits (f t)) → RequestFits (of_type o f)
type_fits None f h = tt
type_fits (Some t) f h = h t

types_fit : (b : Bool) (n : ℕ) → RequestFits (cond b (Clear kinds) (of_type (type_of n) (λ t. Clear (t ∷ []))))
types_fit true n = tt
types_fit false n = type_fits (type_of n) (λ t. Clear (t ∷ [])) (λ t. tt)

cancel_fits : (b k : Bool) (o : Option MissionType) (a : Asking) (n : ℕ) → Some a ≡ cond b (cond k (if_supported o (λ t. ask n (Cancel t))) None) None → RequestFits a.request
cancel_fits true true (Some t) a n h = subst (λ (x : Asking). RequestFits x.request) (sym (same_asking a (record { number = n; request = Cancel t }) h)) tt
cancel_fits true true None a n h = absurd (none-some a (sym h))
cancel_fits true false o a n h = absurd (none-some a (sym h))
cancel_fits false k o a n h = absurd (none-some a (sym h))

mission_fits : (item : Item) (r : Result Command ℕ) → HasResult item r → GivenFits (ForMission r)
mission_fits item (Ok c) h = stores_fit item c h.0 h.1
mission_fits item (Err e) h = fails_some (Meets item (row_of item.command)) item_rules e h

fence_fits : (item : Item) (r : Result FenceItem ℕ) → HasFenceResult item r → GivenFits (ForFence r)
fence_fits item (Ok i) h = subst IsFenceItem (sym h.1) (keeps_fence_items item h.0)
fence_fits item (Err e) h = fails_some (MeetsFence item) fence_rules e h

given_fits : (o : Option MissionType) (item : Item) (r : Request) → IsGiven o item r → RequestFits r
given_fits None item r h = subst RequestFits (sym h) tt
given_fits (Some Mission) item r h = subst RequestFits (sym h.2) (mission_fits item h.0 h.1)
given_fits (Some Fence) item r h = subst RequestFits (sym h.2) (fence_fits item h.0 h.1)

pub asks_what_fits : AsksWhatFits
asks_what_fits (Heartbeat a b c d e f) x h = absurd (none-some x (sym h))
asks_what_fits (ParamRequestRead a b c d) x h = absurd (none-some x (sym h))
asks_what_fits (ParamRequestList a b) x h = absurd (none-some x (sym h))
asks_what_fits (ParamValue a b c d e) x h = absurd (none-some x (sym h))
asks_what_fits (ParamSet a b c d e) x h = absurd (none-some x (sym h))
asks_what_fits (MissionRequest seq system component type) x h = if_fits (is_for system component) x type (of_type (type_of type) (λ t. Show t seq)) (type_fits (type_of type) (λ t. Show t seq) (λ t. tt)) h
asks_what_fits (MissionRequestList system component type) x h = if_fits (is_for system component) x type (of_type (type_of type) (λ t. Count t)) (type_fits (type_of type) (λ t. Count t) (λ t. tt)) h
asks_what_fits (MissionCount count system component type) x h = if_fits (is_for system component) x type (of_type (type_of type) (λ t. Begin t count)) (type_fits (type_of type) (λ t. Begin t count) (λ t. tt)) h
asks_what_fits (MissionClearAll system component type) x h = if_fits (is_for system component) x type (types_of type) (types_fit (type == 255) type) h
asks_what_fits (MissionAck system component kind type) x h = cancel_fits (is_for system component) (kind == 15) (type_of type) x type h
asks_what_fits (MissionRequestInt seq system component type) x h = if_fits (is_for system component) x type (of_type (type_of type) (λ t. Show t seq)) (type_fits (type_of type) (λ t. Show t seq) (λ t. tt)) h
asks_what_fits (MissionItemInt p1 p2 p3 p4 x y z seq command system component frame current autocontinue type) a h =
    let item : Item = record { param1 = p1; param2 = p2; param3 = p3; param4 = p4; x = x; y = y; z = z; seq = seq; command = command; frame = frame; current = current; autocontinue = autocontinue } in
    if_fits (is_for system component) a type h.0 (given_fits (type_of type) item h.0 h.1) h.2
asks_what_fits (CommandLong a b c d e f g h i j k) x m = absurd (none-some x (sym m))
asks_what_fits (CommandAck a b c d e f) x h = absurd (none-some x (sym h))

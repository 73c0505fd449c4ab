-- What messages ask for.
use Rattle.std.proofs.Common.{◌≡◌, ℕ, List, [], refl, sym, ap, subst, Bool, true, cond, Option, Some, None, option_map}
use Rattle.std.specs.Prelude.{ℤ}
use Rattle.mav_messages.specs.declared.messages.Message.{Message}
use Rattle.mav_messages.specs.declared.messages.Message.TheVariants.{ParamRequestRead, ParamRequestList, ParamSet}
use Rattle.param_service.specs.Requests.{Request, Show, ShowAll, Asks, IsSetting, is_for, row_asked_for, row_named}
use Rattle.param_service.specs.Service.{did}

pub asks_read : (m : Message) (index : ℤ) (system component : ℕ) (name : List ℕ) → m ≡ ParamRequestRead index system component name → is_for system component ≡ true → Asks m (option_map Show (row_asked_for index name))
asks_read m index system component name is fine =
    subst (λ (x : Message). Asks x (option_map Show (row_asked_for index name))) (sym is) (sym (ap (λ (b : Bool). cond b (option_map Show (row_asked_for index name)) None) fine))

pub asks_list : (m : Message) (system component : ℕ) → m ≡ ParamRequestList system component → is_for system component ≡ true → Asks m (Some ShowAll)
asks_list m system component is fine = subst (λ (x : Message). Asks x (Some ShowAll)) (sym is) (sym (ap (λ (b : Bool). cond b (Some ShowAll) None) fine))

pub asks_set : (m : Message) (bits system component : ℕ) (name : List ℕ) (kind : ℕ) (asked : Option Request) → m ≡ ParamSet bits system component name kind → is_for system component ≡ true → IsSetting (row_named name) bits asked → Asks m asked
asks_set m bits system component name kind asked is fine h =
    subst (λ (x : Message). Asks x asked) (sym is) (subst (λ (o : Option ℕ). IsSetting o bits asked) (sym (ap (λ (b : Bool). cond b (row_named name) None) fine)) h)

-- who asks for a row changes nothing
pub read_keeps : (bytes : List ℕ) (allowed : Option ℕ) (next_rows : List ℕ) (station : ℕ) (row : Option ℕ) →
    (next_rows ≡ (did bytes allowed next_rows station (option_map Show row)).next_rows) × ([] ≡ (did bytes allowed next_rows station (option_map Show row)).writes)
read_keeps bytes allowed next_rows station None = (refl, refl)
read_keeps bytes allowed next_rows station (Some index) = (refl, refl)

-- How many lines were issued before the storage acknowledgements among some answers.
use Rattle.std.proofs.Common.{◌≡◌, ℕ, zero, suc, ◌≤◌, Bool, true, false, max, List, [], ◌∷◌, ◌++◌, map, take, refl, ◌∙◌, ap, arith}
use Rattle.std.specs.Prelude.{IsFalse, if◌then◌else◌}
use Rattle.vehicle_core.specs.Vehicle.{Vehicle, Content, Told, is_storage_acknowledgement}
use Rattle.vehicle_runs.specs.Frames.{Machine, Answer, Delivery, acknowledged, told_to, deliveries, deliveries_of, numbered, counted}
use Rattle.vehicle_runs.proofs.Orders.{NoneAcknowledges}

max_over : (a x y : ℕ) → max a (max x y) ≡ max (max a x) y
max_over a x y = omega arith

pub acknowledged-append : (xs ys : List Answer) → acknowledged (xs ++ ys) ≡ max (acknowledged xs) (acknowledged ys)
acknowledged-append [] ys = omega arith
acknowledged-append (x ∷ xs) ys =
    let n = (if is_storage_acknowledgement x.content then x.issued else 0) in
    ap (max n) (acknowledged-append xs ys) ∙ max_over n (acknowledged xs) (acknowledged ys)

max_le : (a x y : ℕ) → x ≤ y → max a x ≤ max a y
max_le a x y le = omega arith

pub acknowledged_first : (n : ℕ) (xs : List Answer) → acknowledged (take n xs) ≤ acknowledged xs
acknowledged_first zero xs = omega arith
acknowledged_first (suc n) [] = omega arith
acknowledged_first (suc n) (x ∷ xs) =
    max_le (if is_storage_acknowledgement x.content then x.issued else 0) (acknowledged (take n xs)) (acknowledged xs) (acknowledged_first n xs)

if_le : (b : Bool) (n : ℕ) → (if b then n else 0) ≤ n
if_le true n = omega arith
if_le false n = omega arith

both_le : (a x n : ℕ) → a ≤ n → x ≤ n → max a x ≤ n
both_le a x n first second = omega arith

-- none is before more lines than were issued
pub acknowledged_most : (issued : ℕ) (m : Machine) (ds : List Delivery) → acknowledged (numbered issued m ds) ≤ issued
acknowledged_most issued m [] = omega arith
acknowledged_most issued m (d ∷ ds) =
    both_le (if is_storage_acknowledgement d.content then issued else 0) (acknowledged (numbered issued (counted m d) ds)) issued
    (if_le (is_storage_acknowledgement d.content) issued) (acknowledged_most issued (counted m d) ds)

-- none of these is a storage acknowledgement
abbrev Unacknowledging : List Delivery → Type 0
Unacknowledging [] = Unit {0}
Unacknowledging (d ∷ ds) = IsFalse (is_storage_acknowledgement d.content) × Unacknowledging ds

both_none : (xs ys : List Delivery) → Unacknowledging xs → Unacknowledging ys → Unacknowledging (xs ++ ys)
both_none [] ys first second = second
both_none (x ∷ xs) ys first second = (first.0, both_none xs ys first.1 second)

each_none : (listed : List ℕ) (content : Content) → IsFalse (is_storage_acknowledgement content)
    → Unacknowledging (map (λ station. let d : Delivery = record { station = station; content = content } in d) listed)
each_none [] content none = tt
each_none (s ∷ listed) content none = (none, each_none listed content none)

told_none : (v : Vehicle) (told : List Told) → NoneAcknowledges told → Unacknowledging (deliveries v told)
told_none v [] none = tt
told_none v (t ∷ told) none = both_none (deliveries_of v t) (deliveries v told) (each_none (told_to v t.to) t.content none.0) (told_none v told none.1)

zero_max : (n x : ℕ) (b : Bool) → b ≡ false → x ≡ 0 → max (if b then n else 0) x ≡ 0
zero_max n x true none is = absurd (cc)
zero_max n x false none is = omega arith

none_numbered : (issued : ℕ) (m : Machine) (ds : List Delivery) → Unacknowledging ds → acknowledged (numbered issued m ds) ≡ 0
none_numbered issued m [] none = refl
none_numbered issued m (d ∷ ds) none =
    zero_max issued (acknowledged (numbered issued (counted m d) ds)) (is_storage_acknowledgement d.content) none.0 (none_numbered issued (counted m d) ds none.1)

pub none_acknowledged : (issued : ℕ) (m : Machine) (v : Vehicle) (told : List Told) → NoneAcknowledges told → acknowledged (numbered issued m (deliveries v told)) ≡ 0
none_acknowledged issued m v told none = none_numbered issued m (deliveries v told) (told_none v told none)

-- Values that are shown.
use Rattle.std.proofs.Common.{◌≡◌, ℕ, zero, suc, ◌+◌, ◌<◌, List, [], ◌∷◌, ◌++◌, length, refl, sym, ◌∙◌, ap, subst, arith, Option, Some, get_or}
use Rattle.std.specs.Prelude.{slice_get}
use Rattle.std.specs.List.{flat_map, range_with_len}
use Rattle.std.specs.Option.{option_map_or}
use Rattle.std.proofs.lemmas.List.{append-nil}
use Rattle.std.proofs.lemmas.Option.{slice_get-get_or}
use Rattle.std.proofs.lemmas.List.Concat.{flat_map-append}
use Rattle.std.proofs.lemmas.Slice.Zip.{all_zipped_more}
use Rattle.param_tree.specs.declared.Var.{Var}
use Rattle.param_tree.proofs.Places.{blank}
use Rattle.param_tree.specs.Rows.{vehicle_rows, basic_rows, single_rows, mission_rows, fence_rows, rally_rows, navigation_rows, sensor_rows, compass_rows, inertial_rows, flight_rows, battery_rows, attitude_rows, rate_rows, flight_mode_rows, servo_rows, rc_rows, each_from}
use Rattle.param_records.specs.declared.values.Value.{Value}
use Rattle.param_records.specs.Values.{params_of}
use Rattle.mav_messages.specs.declared.messages.To.{To}
use Rattle.mav_messages.specs.declared.messages.Reply.{Reply}
use Rattle.param_service.specs.Service.{Shown, show}
use Rattle.param_service.specs.Replies.{IsReplyOf, AreRepliesOf}

pub length-vehicle_rows : length vehicle_rows ≡ 240
unfolding vehicle_rows basic_rows single_rows mission_rows fence_rows rally_rows navigation_rows sensor_rows compass_rows inertial_rows flight_rows battery_rows attitude_rows rate_rows flight_mode_rows servo_rows rc_rows each_from
length-vehicle_rows = refl

-- the row with an index
pub there : (index : ℕ) → index < 240 → (row : Var) × (slice_get vehicle_rows index ≡ Some row)
there index less = (get_or vehicle_rows index blank, slice_get-get_or vehicle_rows index blank (omega (arith, length-vehicle_rows)))

abbrev pub value_shown : To → ℕ → Value → Shown
value_shown to index value = record { to = to; index = index; value = value }

pub show-at : (to : To) (bytes : List ℕ) (index : ℕ) (row : Var) → slice_get vehicle_rows index ≡ Some row → show to bytes index ≡ value_shown to index (params_of bytes row) ∷ []
show-at to bytes index row is = ap (λ (o : Option Var). option_map_or (λ r. value_shown to index (params_of bytes r) ∷ []) o []) is

pub shows : (to : To) (bytes : List ℕ) (index : ℕ) (row : Var) (value : Value) (reply : Reply) → slice_get vehicle_rows index ≡ Some row → value ≡ params_of bytes row →
    IsReplyOf (value_shown to index value) reply → AreRepliesOf (show to bytes index) (reply ∷ [])
shows to bytes index row value reply is same h =
    subst (λ (l : List Shown). AreRepliesOf l (reply ∷ [])) (sym (show-at to bytes index row is)) (subst (λ (v : Value). IsReplyOf (value_shown to index v) reply) same h, tt)

-- one more row of a list
range_suc : (a n j : ℕ) → a + n ≡ j → range_with_len a (suc n) ≡ range_with_len a n ++ j ∷ []
range_suc a zero j e = ap (λ (k : ℕ). k ∷ []) (let h : a ≡ j = omega arith in h)
range_suc a (suc n) j e = ap (λ (l : List ℕ). a ∷ l) (range_suc (a + 1) n j (omega arith))

range_more : (a n j : ℕ) → a + n ≡ j → range_with_len a (n + 1) ≡ range_with_len a n ++ j ∷ []
range_more a n j e = let next : n + 1 ≡ suc n = omega arith in ap (range_with_len a) next ∙ range_suc a n j e

pub shows_more : (to : To) (bytes : List ℕ) (next n index : ℕ) (row : Var) (value : Value) (reply : Reply) (replies : List Reply) → next + n ≡ index → slice_get vehicle_rows index ≡ Some row → value ≡ params_of bytes row →
    IsReplyOf (value_shown to index value) reply → AreRepliesOf (flat_map (show to bytes) (range_with_len next n)) replies → AreRepliesOf (flat_map (show to bytes) (range_with_len next (n + 1))) (replies ++ reply ∷ [])
shows_more to bytes next n index row value reply replies e is same h before =
    let one : Shown = value_shown to index value in
    let all = flat_map (show to bytes) (range_with_len next n) in
    let grown : flat_map (show to bytes) (range_with_len next (n + 1)) ≡ all ++ one ∷ [] =
    ap (flat_map (show to bytes)) (range_more next n index e)
    ∙ flat_map-append (show to bytes) (range_with_len next n) (index ∷ [])
    ∙ ap (λ (l : List Shown). all ++ l) (append-nil (show to bytes index) ∙ show-at to bytes index row is ∙ ap (λ (v : Value). value_shown to index v ∷ []) (sym same)) in
    subst (λ (l : List Shown). AreRepliesOf l (replies ++ reply ∷ [])) (sym grown) (all_zipped_more IsReplyOf all replies one reply before h)

-- The commands that an area has.
use Rattle.std.proofs.Common.{◌≡◌, inl, inr, ℕ, zero, suc, ◌+◌, ◌*◌, ◌/◌, ◌%◌, ◌<◌, ◌≤◌, min, Bool, true, false, cond, List, [], ◌∷◌, ◌++◌, length, get_or, take, drop, refl, sym, ◌∙◌, ap, arith}
use Rattle.std.specs.Str.{bytes_eq}
use Rattle.std.proofs.lemmas.List.{take_all, length_push, length-take, length-take-le}
use Rattle.std.proofs.lemmas.Bool.{cases_lt, lt-ltb, le-ltb, ne_eqb}
use Rattle.std.proofs.lemmas.Slice.Eq.{bytes_eq-Decides}
use Rattle.param_records.specs.Values.{params_of}
use Rattle.mission_commands.specs.declared.commands.Command.{Command}
use Rattle.mission_records.specs.Mission.{version, total_row, mission_area, count_of, total_of, place_of_command, bytes_at, command_of, command_bytes, commands_in, mission_of}
use Rattle.mission_records.specs.declared.reading.TheConstants.{CAPACITY}
use Rattle.mission_records.specs.Steps.{HasVersion}
use Rattle.mission_commands.specs.Storable.{IsStorable}
use Rattle.mission_records.proofs.Listed.{listed_same}

pub length-commands_in : (n : ℕ) (L : List ℕ) → length (commands_in n L) ≡ n
unfolding commands_in
length-commands_in zero L = refl
length-commands_in (suc n) L = omega (arith, length_push (commands_in n L) (command_of (bytes_at n L)), length-commands_in n L)

-- they lie below the place of the next one
pub commands_same : (n : ℕ) (L M : List ℕ) → ((k : ℕ) → k < place_of_command n → get_or L k 0 ≡ get_or M k 0) → commands_in n L ≡ commands_in n M
unfolding commands_in
commands_same zero L M h = refl
commands_same (suc n) L M h =
    ap (λ (cs : List Command). cs ++ command_of (bytes_at n L) ∷ []) (commands_same n L M (λ k l. h k (omega arith)))
    ∙ ap (λ (bs : List ℕ). commands_in n M ++ command_of bs ∷ []) (listed_same 15 (λ k. get_or L (place_of_command n + k) 0) (λ k. get_or M (place_of_command n + k) 0) (λ k l. h (place_of_command n + k) (omega arith)))

pub commands_more : (n : ℕ) (L : List ℕ) → commands_in (suc n) L ≡ commands_in n L ++ command_of (bytes_at n L) ∷ []
unfolding commands_in
commands_more n L = refl

pub no_commands : (L : List ℕ) → commands_in 0 L ≡ []
unfolding commands_in
no_commands L = refl

-- a command's bytes are read as the command
long_back : (c : Command) → IsStorable c → 256 ≤ c.id → command_of (1 ∷ c.id % 256 ∷ c.id / 256 ∷ c.p1 % 256 ∷ c.p1 / 256 ∷ take 10 c.content) ≡ c
long_back c s high =
    let id : c.id % 256 + 256 * (c.id / 256) ≡ c.id = omega arith in
    let p1 : c.p1 % 256 + 256 * (c.p1 / 256) ≡ c.p1 = omega arith in
    let few : take 10 (take 10 c.content) ≡ take 10 c.content = take_all 10 (take 10 c.content) (omega (arith, length-take 10 c.content)) in
    ap (λ (n : ℕ). let r : Command = record { id = n; p1 = c.p1 % 256 + 256 * (c.p1 / 256); content = take 10 (take 10 c.content) ++ 0 ∷ 0 ∷ [] } in r) id
    ∙ ap (λ (n : ℕ). let r : Command = record { id = c.id; p1 = n; content = take 10 (take 10 c.content) ++ 0 ∷ 0 ∷ [] } in r) p1
    ∙ ap (λ (l : List ℕ). let r : Command = record { id = c.id; p1 = c.p1; content = l } in r) (ap (λ (l : List ℕ). l ++ 0 ∷ 0 ∷ []) few ∙ sym (s.short high))

short_back : (c : Command) → IsStorable c → command_of (c.id ∷ c.p1 % 256 ∷ c.p1 / 256 ∷ c.content) ≡ c
short_back c s =
    let p1 : c.p1 % 256 + 256 * (c.p1 / 256) ≡ c.p1 = omega arith in
    let long : Command = record { id = c.p1 % 256 + 256 * (c.p1 / 256); p1 = get_or c.content 0 0 + 256 * get_or c.content 1 0; content = take 10 (drop 2 c.content) ++ 0 ∷ 0 ∷ [] } in
    ap (λ (t : Bool). cond t long (record { id = c.id; p1 = c.p1 % 256 + 256 * (c.p1 / 256); content = take 12 c.content })) (ne_eqb c.id 1 s.no_mark)
    ∙ ap (λ (n : ℕ). let r : Command = record { id = c.id; p1 = n; content = take 12 c.content } in r) p1
    ∙ ap (λ (l : List ℕ). let r : Command = record { id = c.id; p1 = c.p1; content = l } in r) (take_all 12 c.content (omega (arith, s.content)))

pub command_back : (c : Command) → IsStorable c → command_of (command_bytes c) ≡ c
command_back c s = elim (cases_lt c.id 256) [
  | inl low ↦ ap (λ (t : Bool). command_of (cond t (c.id ∷ c.p1 % 256 ∷ c.p1 / 256 ∷ c.content) (1 ∷ c.id % 256 ∷ c.id / 256 ∷ c.p1 % 256 ∷ c.p1 / 256 ∷ take 10 c.content))) (lt-ltb c.id 256 low) ∙ short_back c s
  | inr high ↦ ap (λ (t : Bool). command_of (cond t (c.id ∷ c.p1 % 256 ∷ c.p1 / 256 ∷ c.content) (1 ∷ c.id % 256 ∷ c.id / 256 ∷ c.p1 % 256 ∷ c.p1 / 256 ∷ take 10 c.content))) (le-ltb c.id 256 high) ∙ long_back c s high
]

pub length-command : (c : Command) → IsStorable c → length (command_bytes c) ≡ 15
length-command c s = elim (cases_lt c.id 256) [
  | inl low ↦ ap (λ (t : Bool). length (cond t (c.id ∷ c.p1 % 256 ∷ c.p1 / 256 ∷ c.content) (1 ∷ c.id % 256 ∷ c.id / 256 ∷ c.p1 % 256 ∷ c.p1 / 256 ∷ take 10 c.content))) (lt-ltb c.id 256 low) ∙ omega (arith, s.content)
  | inr high ↦ ap (λ (t : Bool). length (cond t (c.id ∷ c.p1 % 256 ∷ c.p1 / 256 ∷ c.content) (1 ∷ c.id % 256 ∷ c.id / 256 ∷ c.p1 % 256 ∷ c.p1 / 256 ∷ take 10 c.content))) (le-ltb c.id 256 high) ∙ omega (arith, length-take-le 10 c.content (omega (arith, s.content)))
]

-- the total where the version is right
pub total_is : (b : List ℕ) → HasVersion b → total_of b ≡ min CAPACITY (count_of (params_of b total_row))
total_is b v = ap (λ (t : Bool). cond t (min CAPACITY (count_of (params_of b total_row))) 0) ((bytes_eq-Decides (take 4 (mission_area b)) version).1 v)

-- the same version and the same value of MIS_TOTAL
pub same_total : (a b : List ℕ) → take 4 (mission_area a) ≡ take 4 (mission_area b) → params_of a total_row ≡ params_of b total_row → total_of a ≡ total_of b
same_total a b v p =
    ap (λ (l : List ℕ). cond (bytes_eq l version) (min CAPACITY (count_of (params_of a total_row))) 0) v
    ∙ ap (λ (x : _). cond (bytes_eq (take 4 (mission_area b)) version) (min CAPACITY (count_of x)) 0) p

-- a total of 0 is no mission
zero_or_min : (t : Bool) (n : ℕ) → n ≡ 0 → cond t (min CAPACITY n) 0 ≡ 0
zero_or_min true n e = omega arith
zero_or_min false n e = refl

pub empty_mission : (b : List ℕ) → count_of (params_of b total_row) ≡ 0 → mission_of b ≡ []
empty_mission b e = ap (λ (n : ℕ). commands_in n (mission_area b)) (zero_or_min (bytes_eq (take 4 (mission_area b)) version) (count_of (params_of b total_row)) e) ∙ no_commands (mission_area b)

-- the same total over an area that is the same below the next place
pub same_mission : (a b : List ℕ) → total_of a ≡ total_of b → ((k : ℕ) → k < place_of_command (total_of b) → get_or (mission_area a) k 0 ≡ get_or (mission_area b) k 0) → mission_of a ≡ mission_of b
same_mission a b e h = ap (λ (n : ℕ). commands_in n (mission_area a)) e ∙ commands_same (total_of b) (mission_area a) (mission_area b) h

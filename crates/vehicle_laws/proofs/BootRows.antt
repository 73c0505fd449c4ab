-- What the rows read while boot's lines are made, and which records there are.
use Rattle.std.proofs.Common.{◌≡◌, inl, inr, ℕ, ◌<◌, Bool, true, false, List, [], ◌∷◌, ◌++◌, length, take, refl, sym, ◌∙◌, ap, subst, arith, append-nil}
use Rattle.std.specs.Prelude.{◌⊎◌, ◌==◌, ◌&&◌, All, IsTrue, map}
use Rattle.std.specs.Str.{bytes_eq}
use Rattle.std.proofs.lemmas.Bool.{cases_Bool, cases_lt, ne_eqb}
use Rattle.std.proofs.lemmas.Bool.Decides.{eqb_tells}
use Rattle.std.proofs.lemmas.List.{take_all, append_assoc}
use Rattle.std.proofs.lemmas.List.Elements.{All-head, All-tail, All-nil, All-cons}
use Rattle.storage_lines.specs.declared.lines.LineWrite.{LineWrite}
use Rattle.storage_lines.specs.declared.lines.TheConstants.{STORAGE_BYTES}
use Rattle.storage_lines.specs.declared.areas.Area.TheVariants.{Param}
use Rattle.storage_lines.specs.Areas.{logical_of}
use Rattle.storage_lines.specs.Bytes.{IsBytes}
use Rattle.storage_lines.specs.Lines.{after, EachPrefix}
use Rattle.storage_lines.specs.Pieces.{writes_of}
use Rattle.storage_lines.proofs.LineLemmas.{length-after, after-append}
use Rattle.storage_lines.proofs.PrefixLemmas.{prefix_append, prefix_nil}
use Rattle.param_tree.specs.declared.Var.{Var}
use Rattle.param_tree.specs.Rows.{vehicle_rows}
use Rattle.param_tree.proofs.Vehicle.{vehicle_is_table}
use Rattle.param_records.specs.Records.{Record, magic, kind_eq, value_in, matches}
use Rattle.param_records.specs.Changes.{formatting}
use Rattle.param_records.specs.Steps.{HasMagic, records_in_storage}
use Rattle.param_records.specs.Values.{value_in_records, params_of}
use Rattle.param_records.proofs.FormatLemmas.{formats}
use Rattle.param_records.proofs.OtherLemmas.{value_push}
use Rattle.param_records.proofs.StepLemmas.{no_records}
use Rattle.param_convert.specs.declared.rules.Rule.{Rule}
use Rattle.param_convert.specs.Rules.{HasRows, is_new_row, to_servo1_trim, to_fence_radius, to_rtl_alt, to_compass_ofs, vehicle_rules}
use Rattle.param_convert.specs.Conversion.{new_record}
use Rattle.param_convert.specs.Steps.{AddsOne, IsConversion}
use Rattle.param_convert.proofs.VehicleRules.{vehicle_rules_have_rows}
use Rattle.param_convert.proofs.ConvertSteps.{converts_in_steps}
use Rattle.vehicle_runs.specs.Runs.{convert_step, boot_steps, boot}
use Rattle.vehicle_laws.specs.Laws.{ReadsAsOneOf, AddsSomeOf, IsOneOf, IsCarriedOver, BootFormatsInSteps}
use Rattle.vehicle_laws.proofs.Boot.{rules_prefix, boot_rules, no_magic, fresh, boot_formatted, boot_in_one_line, boot_unformatted, boot_prefix, boot_bytes, boot_mission, boot_fence}

-- the rule doesn't make a record of the row
abbrev LeavesRow : Var → Rule → Type 0
LeavesRow row rule = is_new_row rule row ≡ false

-- no more than one of the rules makes one
abbrev MakesOnce : Var → List Rule → Type 0
MakesOnce row [] = Unit {0}
MakesOnce row (rule ∷ rules) = (LeavesRow row rule × MakesOnce row rules) ⊎ All (LeavesRow row) rules

other_key : (row : Var) (rule : Rule) → (row.key == rule.new_key) ≡ false → LeavesRow row rule
other_key row rule differ = ap (λ (same : Bool). same && ((row.element == rule.new_element) && kind_eq row.kind rule.kind)) differ

has_key : (row : Var) (key : ℕ) (rule : Rule) → row.key ≡ key → (key == rule.new_key) ≡ false → LeavesRow row rule
has_key row key rule is differ = other_key row rule (ap (λ (k : ℕ). k == rule.new_key) is ∙ differ)

made_once : (row : Var) → MakesOnce row vehicle_rules
made_once row =
    let L : Rule → Type 0 = LeavesRow row in
    elim (eqb_tells row.key 30) [
      | inl same ↦ inr (All-cons L to_fence_radius (to_rtl_alt ∷ to_compass_ofs ∷ []) (has_key row 30 to_fence_radius same.1 refl)
          (All-cons L to_rtl_alt (to_compass_ofs ∷ []) (has_key row 30 to_rtl_alt same.1 refl)
          (All-cons L to_compass_ofs [] (has_key row 30 to_compass_ofs same.1 refl) (All-nil L))))
      | inr trim ↦ inl (
        other_key row to_servo1_trim trim.0,
        elim (eqb_tells row.key 21) [
          | inl same ↦ inr (All-cons L to_rtl_alt (to_compass_ofs ∷ []) (has_key row 21 to_rtl_alt same.1 refl)
              (All-cons L to_compass_ofs [] (has_key row 21 to_compass_ofs same.1 refl) (All-nil L)))
          | inr radius ↦ inl (
            other_key row to_fence_radius radius.0,
            elim (eqb_tells row.key 1) [
              | inl same ↦ inr (All-cons L to_compass_ofs [] (has_key row 1 to_compass_ofs same.1 refl) (All-nil L))
              | inr alt ↦ inl (other_key row to_rtl_alt alt.0, inr (All-nil L))
            ],
          )
        ],
      )
    ]

-- the parameter storage after the lines of one rule, and what the lines are
record Converted (rule : Rule) (b : List ℕ) : Type 0 where
  is : IsConversion vehicle_rows rule b (convert_step rule b)
  last : AddsOne vehicle_rows rule b (after b (convert_step rule b))
  size : length (after b (convert_step rule b)) ≡ STORAGE_BYTES

converted : (rule : Rule) (b : List ℕ) → HasRows vehicle_rows rule → length b ≡ STORAGE_BYTES → IsBytes (logical_of Param b) → Converted rule b
converted rule b has size low =
    let ws = convert_step rule b in
    let is = converts_in_steps b vehicle_rows rule size low vehicle_is_table has in
    record {
      is = is;
      last = subst (λ (l : List LineWrite). AddsOne vehicle_rows rule b (after b l)) (take_all (length ws) ws (omega arith)) (is.each (length ws) (omega arith));
      size = length-after b ws ∙ size;
    }

-- A row that no rule makes is left by all lines.
rules_leave : (row : Var) (rules : List Rule) (b : List ℕ) → All (HasRows vehicle_rows) rules → All (LeavesRow row) rules → length b ≡ STORAGE_BYTES → IsBytes (logical_of Param b)
    → EachPrefix (λ now. params_of now row ≡ params_of b row) b (boot_steps (map convert_step rules) b)
rules_leave row rules b has none size low =
    rules_prefix (λ now. params_of now row ≡ params_of b row) (LeavesRow row)
    (λ rule old now leaves same adds. adds.others row (λ made. (let clash : true ≡ false = sym made ∙ leaves in cc)) ∙ same) rules b has none size low refl

-- One that a single rule makes has its old value or the new one after each of them.
rows_of_rules : (row : Var) (rules : List Rule) (b : List ℕ) → All (HasRows vehicle_rows) rules → MakesOnce row rules → length b ≡ STORAGE_BYTES → IsBytes (logical_of Param b)
    → EachPrefix (ReadsAsOneOf b (after b (boot_steps (map convert_step rules) b)) row) b (boot_steps (map convert_step rules) b)
rows_of_rules row [] b has once size low = prefix_nil (ReadsAsOneOf b b row) b (inl refl)
rows_of_rules row (rule ∷ rules) b has once size low =
    let ws = convert_step rule b in
    let m = after b ws in
    let rest = boot_steps (map convert_step rules) m in
    let c = converted rule b (All-head (HasRows vehicle_rows) rule rules has) size low in
    let P : List ℕ → Type 0 = ReadsAsOneOf b (after b (ws ++ rest)) row in
    let end : params_of (after b (ws ++ rest)) row ≡ params_of (after m rest) row = ap (λ (l : List ℕ). params_of l row) (after-append b ws rest) in
    let has_rest = All-tail (HasRows vehicle_rows) rule rules has in
    elim once [
      | inl left ↦
          let leaves : IsTrue (is_new_row rule row) → ⊥ = λ made. (let clash : true ≡ false = sym made ∙ left.0 in cc) in
          let still : params_of m row ≡ params_of b row = c.last.others row leaves in
          let later : EachPrefix (ReadsAsOneOf m (after m rest) row) m rest = rows_of_rules row rules m has_rest left.1 c.size c.last.low in
          prefix_append P b ws rest (λ j h. inl ((c.is.each j h).others row leaves)) (λ j h. elim (later j h) [
            | inl old ↦ inl (old ∙ still)
            | inr new ↦ inr (new ∙ sym end)
          ])
      | inr none ↦
          let stays : EachPrefix (λ now. params_of now row ≡ params_of m row) m rest = rules_leave row rules m has_rest none c.size c.last.low in
          let whole : params_of (after b (ws ++ rest)) row ≡ params_of m row =
          end ∙ subst (λ (l : List LineWrite). params_of (after m l) row ≡ params_of m row) (take_all (length rest) rest (omega arith)) (stays (length rest) (omega arith)) in
          let each : EachPrefix P b ws = λ j h. elim (cases_Bool (is_new_row rule row)) [
            | inl made ↦ elim ((c.is.each j h).own row made) [
              | inl old ↦ inl old
              | inr new ↦ inr (new.2 ∙ sym ((c.is.whole new.0 new.1).rows row made) ∙ sym whole)
            ]
            | inr not_made ↦ inl ((c.is.each j h).others row (λ made. (let clash : true ≡ false = sym made ∙ not_made in cc)))
          ] in
          prefix_append P b ws rest each (λ j h. inr (stays j h ∙ sym whole))
    ]

-- The records that the rules make come one after another, each whole.
records_of_rules : (rules : List Rule) (b : List ℕ) → All (HasRows vehicle_rows) rules → length b ≡ STORAGE_BYTES → IsBytes (logical_of Param b)
    → EachPrefix (AddsSomeOf b (after b (boot_steps (map convert_step rules) b))) b (boot_steps (map convert_step rules) b)
records_of_rules [] b has size low =
    let none : records_in_storage b ≡ records_in_storage b ++ [] = sym (append-nil (records_in_storage b)) in
    prefix_nil (AddsSomeOf b b) b (record { more = []; rest = []; added = none; all = none })
records_of_rules (rule ∷ rules) b has size low =
    let ws = convert_step rule b in
    let m = after b ws in
    let rest = boot_steps (map convert_step rules) m in
    let c = converted rule b (All-head (HasRows vehicle_rows) rule rules has) size low in
    let R : List ℕ → List Record = records_in_storage in
    let later : EachPrefix (AddsSomeOf m (after m rest)) m rest = records_of_rules rules m (All-tail (HasRows vehicle_rows) rule rules has) c.size c.last.low in
    let end : R (after b (ws ++ rest)) ≡ R (after m rest) = ap R (after-append b ws rest) in
    let first : AddsSomeOf m (after m rest) m = later 0 (omega arith) in
    let P : List ℕ → Type 0 = AddsSomeOf b (after b (ws ++ rest)) in
    let grown : (mid : List Record) × (R m ≡ R b ++ mid) = elim c.last.added [
      | inl same ↦ ([], same ∙ sym (append-nil (R b)))
      | inr new ↦ (new_record rule new.0 ∷ [], new.2)
    ] in
    let each : EachPrefix P b ws = λ j h. elim (c.is.each j h).added [
      | inl same ↦ record {
        more = [];
        rest = grown.0 ++ first.rest;
        added = same ∙ sym (append-nil (R b));
        all = end ∙ first.all ∙ ap (λ (l : List Record). l ++ first.rest) grown.1 ∙ append_assoc (R b) grown.0 first.rest ∙ ap (λ (l : List Record). l ++ (grown.0 ++ first.rest)) (sym same);
      }
      | inr new ↦ record {
        more = new_record rule new.0 ∷ [];
        rest = first.rest;
        added = new.2;
        all = end ∙ first.all ∙ ap (λ (l : List Record). l ++ first.rest) ((c.is.whole new.0 new.1).added ∙ sym new.2);
      }
    ] in
    prefix_append P b ws rest each (λ j h. let x = later j h in record {
      more = grown.0 ++ x.more;
      rest = x.rest;
      added = x.added ∙ ap (λ (l : List Record). l ++ x.more) grown.1 ∙ append_assoc (R b) grown.0 x.more;
      all = end ∙ x.all;
    })

-- The formatting makes its one record whole, where there was none.
formatting_records : (b : List ℕ) → length b ≡ STORAGE_BYTES → ¬ HasMagic b → EachPrefix (AddsSomeOf b (after b (writes_of b formatting))) b (writes_of b formatting)
formatting_records b size other j h =
    let ws = writes_of b formatting in
    let new = records_in_storage (after b ws) in
    let before : records_in_storage b ≡ [] = no_records (logical_of Param b) other in
    elim (cases_lt j (length ws)) [
      | inl fewer ↦
          let still : records_in_storage (after b (take j ws)) ≡ [] = no_records (logical_of Param (after b (take j ws))) ((formats b size).unformatted other j fewer) in
          record { more = []; rest = new; added = still ∙ sym before ∙ sym (append-nil (records_in_storage b)); all = ap (λ (l : List Record). l ++ new) (sym still) }
      | inr whole ↦ subst (λ (l : List LineWrite). AddsSomeOf b (after b ws) (after b l)) (sym (take_all j ws whole))
          (record { more = new; rest = []; added = ap (λ (l : List Record). l ++ new) (sym before); all = sym (append-nil new) })
    ]

formatting_rows : (b : List ℕ) (row : Var) → length b ≡ STORAGE_BYTES → ¬ HasMagic b → EachPrefix (ReadsAsOneOf b (after b (writes_of b formatting)) row) b (writes_of b formatting)
formatting_rows b row size other j h =
    let ws = writes_of b formatting in
    elim (cases_lt j (length ws)) [
      | inl fewer ↦
          let still : records_in_storage (after b (take j ws)) ≡ [] = no_records (logical_of Param (after b (take j ws))) ((formats b size).unformatted other j fewer) in
          inl (ap (λ (rs : List Record). value_in_records rs row) (still ∙ sym (no_records (logical_of Param b) other)))
      | inr whole ↦ inr (ap (λ (l : List LineWrite). params_of (after b l) row) (take_all j ws whole))
    ]

boot_rows : (b : List ℕ) (row : Var) → length b ≡ STORAGE_BYTES → IsBytes (logical_of Param b) → EachPrefix (ReadsAsOneOf b (after b (boot b)) row) b (boot b)
boot_rows b row size low =
    let E : List LineWrite → Type 0 = λ ws. EachPrefix (ReadsAsOneOf b (after b ws) row) b ws in
    elim (cases_Bool (bytes_eq (take 4 (logical_of Param b)) magic)) [
      | inl same ↦ subst E (sym (boot_rules b same)) (rows_of_rules row vehicle_rules b vehicle_rules_have_rows (made_once row) size low)
      | inr differ ↦ subst E (sym (fresh b size (no_magic b differ))) (formatting_rows b row size (no_magic b differ))
    ]

boot_records : (b : List ℕ) → length b ≡ STORAGE_BYTES → IsBytes (logical_of Param b) → EachPrefix (AddsSomeOf b (after b (boot b))) b (boot b)
boot_records b size low =
    let E : List LineWrite → Type 0 = λ ws. EachPrefix (AddsSomeOf b (after b ws)) b ws in
    elim (cases_Bool (bytes_eq (take 4 (logical_of Param b)) magic)) [
      | inl same ↦ subst E (sym (boot_rules b same)) (records_of_rules vehicle_rules b vehicle_rules_have_rows size low)
      | inr differ ↦ subst E (sym (fresh b size (no_magic b differ))) (formatting_records b size (no_magic b differ))
    ]

-- each of the vehicle's rules is one of them, and the record that one makes is no old record of any
rules_are : All (IsOneOf vehicle_rules) vehicle_rules
rules_are =
    let Q : Rule → Type 0 = IsOneOf vehicle_rules in
    All-cons Q to_servo1_trim (to_fence_radius ∷ to_rtl_alt ∷ to_compass_ofs ∷ []) (inl refl)
    (All-cons Q to_fence_radius (to_rtl_alt ∷ to_compass_ofs ∷ []) (inr (inl refl))
    (All-cons Q to_rtl_alt (to_compass_ofs ∷ []) (inr (inr (inl refl)))
    (All-cons Q to_compass_ofs [] (inr (inr (inr (inl refl)))) (All-nil Q))))

new_key_small : (rule : Rule) → IsOneOf vehicle_rules rule → rule.new_key < 100
new_key_small rule (inl is) = let key : rule.new_key ≡ 30 = ap (λ (r : Rule). r.new_key) is in omega (arith, key)
new_key_small rule (inr (inl is)) = let key : rule.new_key ≡ 21 = ap (λ (r : Rule). r.new_key) is in omega (arith, key)
new_key_small rule (inr (inr (inl is))) = let key : rule.new_key ≡ 1 = ap (λ (r : Rule). r.new_key) is in omega (arith, key)
new_key_small rule (inr (inr (inr (inl is)))) = let key : rule.new_key ≡ 24 = ap (λ (r : Rule). r.new_key) is in omega (arith, key)
new_key_small rule (inr (inr (inr (inr is)))) = absurd is

old_key_large : (rule : Rule) → IsOneOf vehicle_rules rule → 99 < rule.key
old_key_large rule (inl is) = let key : rule.key ≡ 100 = ap (λ (r : Rule). r.key) is in omega (arith, key)
old_key_large rule (inr (inl is)) = let key : rule.key ≡ 101 = ap (λ (r : Rule). r.key) is in omega (arith, key)
old_key_large rule (inr (inr (inl is))) = let key : rule.key ≡ 102 = ap (λ (r : Rule). r.key) is in omega (arith, key)
old_key_large rule (inr (inr (inr (inl is)))) = let key : rule.key ≡ 103 = ap (λ (r : Rule). r.key) is in omega (arith, key)
old_key_large rule (inr (inr (inr (inr is)))) = absurd is

no_old_record : (rule other : Rule) → IsOneOf vehicle_rules rule → IsOneOf vehicle_rules other → (value : List ℕ) → matches other.key other.element other.kind (new_record rule value) ≡ false
no_old_record rule other is it value =
    ap (λ (same : Bool). same && ((rule.new_element == other.element) && kind_eq rule.kind other.kind))
    (ne_eqb rule.new_key other.key (λ same. omega (arith, same, new_key_small rule is, old_key_large other it)))

-- the old record of each rule reads as at the start, and so does the row, or as carried over
abbrev StillOld : List ℕ → List ℕ → Type 0
StillOld b now = (rule : Rule) → IsOneOf vehicle_rules rule → value_in rule.key rule.element rule.kind (records_in_storage now) ≡ value_in rule.key rule.element rule.kind (records_in_storage b)

abbrev OldOrCarried : List ℕ → Var → List ℕ → Type 0
OldOrCarried b row now = (params_of now row ≡ params_of b row) ⊎ IsCarriedOver b row now

carried_still : (b : List ℕ) (row : Var) (old now : List ℕ) → params_of now row ≡ params_of old row → OldOrCarried b row old → OldOrCarried b row now
carried_still b row old now same (inl before) = inl (same ∙ before)
carried_still b row old now same (inr c) = inr (record { rule = c.rule; one_of = c.one_of; makes = c.makes; value = c.value; stored = c.stored; reads = same ∙ c.reads })

rule_carries : (b : List ℕ) (row : Var) (rule : Rule) (old now : List ℕ) → IsOneOf vehicle_rules rule → OldOrCarried b row old × StillOld b old → AddsOne vehicle_rows rule old now → OldOrCarried b row now × StillOld b now
rule_carries b row rule old now is p adds =
    let still : StillOld b now = λ other it. (let read : List Record → _ = λ rs. value_in other.key other.element other.kind rs in
    elim adds.added [
      | inl same ↦ ap read same ∙ p.1 other it
      | inr new ↦ ap read new.2 ∙ value_push other.key other.element other.kind (records_in_storage old) (new_record rule new.0) (no_old_record rule other is it new.0) ∙ p.1 other it
    ]) in
    let reads : OldOrCarried b row now = elim (cases_Bool (is_new_row rule row)) [
      | inl made ↦ elim (adds.own row made) [
        | inl same ↦ carried_still b row old now same p.0
        | inr new ↦ inr (record { rule = rule; one_of = is; makes = made; value = new.0; stored = sym (p.1 rule is) ∙ new.1.old; reads = new.2 })
      ]
      | inr not_made ↦ carried_still b row old now (adds.others row (λ made. (let clash : true ≡ false = sym made ∙ not_made in cc))) p.0
    ] in
    (reads, still)

boot_values : (b : List ℕ) (row : Var) → length b ≡ STORAGE_BYTES → IsBytes (logical_of Param b) → HasMagic b → EachPrefix (OldOrCarried b row) b (boot b)
boot_values b row size low formatted j h =
    (boot_prefix (λ now. OldOrCarried b row now × StillOld b now) (IsOneOf vehicle_rules) (rule_carries b row) rules_are b size low (inl refl, λ rule is. refl) (λ other. absurd (other formatted)) j h).0

pub boot_formats : BootFormatsInSteps
boot_formats = record { formatted = boot_formatted; in_one_line = boot_in_one_line; unformatted = boot_unformatted; bytes = boot_bytes; mission = boot_mission; fence = boot_fence; rows = boot_rows; values = boot_values; records = boot_records }

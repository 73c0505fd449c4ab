-- What boot leaves.
use Rattle.std.proofs.Common.{◌≡◌, inl, inr, ℕ, ◌<◌, Bool, true, false, cond, List, [], ◌∷◌, ◌++◌, length, take, refl, sym, ◌∙◌, ap, ap₂, subst, arith, ◌≢◌}
use Rattle.std.specs.Prelude.{All, map, min}
use Rattle.std.specs.Str.{bytes_eq}
use Rattle.std.proofs.lemmas.Bool.{cases_Bool, cases_lt}
use Rattle.std.proofs.lemmas.List.{take_all}
use Rattle.std.proofs.lemmas.List.Elements.{All-head, All-tail, All-nil, All-cons}
use Rattle.std.proofs.lemmas.Slice.Eq.{bytes_eq-Decides}
use Rattle.storage_lines.specs.declared.lines.LineWrite.{LineWrite}
use Rattle.storage_lines.specs.declared.lines.TheConstants.{STORAGE_BYTES}
use Rattle.storage_lines.specs.declared.areas.Area.TheVariants.{Param, Mission, Fence}
use Rattle.storage_lines.specs.Areas.{logical_of}
use Rattle.storage_lines.specs.Bytes.{IsBytes}
use Rattle.storage_lines.specs.Lines.{after, EachPrefix}
use Rattle.storage_lines.specs.Pieces.{writes_of}
use Rattle.storage_lines.proofs.LineLemmas.{length-after}
use Rattle.storage_lines.proofs.PrefixLemmas.{prefix_append, prefix_nil}
use Rattle.param_tree.specs.Rows.{vehicle_rows}
use Rattle.param_tree.proofs.Vehicle.{vehicle_is_table}
use Rattle.param_records.specs.declared.values.Value.{Value}
use Rattle.param_records.specs.Records.{Record, magic}
use Rattle.param_records.specs.Changes.{formatting, total_zero, piece}
use Rattle.param_records.specs.Steps.{HasMagic}
use Rattle.param_records.specs.Values.{value_in_records, params_of}
use Rattle.param_records.proofs.FormatLemmas.{formats}
use Rattle.param_records.proofs.OtherAreas.{two_fit}
use Rattle.param_records.proofs.RecordLemmas.{records_are}
use Rattle.param_records.proofs.StepLemmas.{no_records}
use Rattle.param_convert.specs.declared.rules.Rule.{Rule}
use Rattle.param_convert.specs.Rules.{HasRows, is_new_row, to_servo1_trim, to_fence_radius, to_rtl_alt, to_compass_ofs, vehicle_rules}
use Rattle.param_convert.specs.Steps.{AddsOne}
use Rattle.param_convert.proofs.VehicleRules.{vehicle_rules_have_rows}
use Rattle.param_convert.proofs.ConvertSteps.{converts_in_steps}
use Rattle.param_convert.proofs.LowBytes.{HasBytes, written_low, low_pieces}
use Rattle.mission_commands.specs.declared.commands.Command.{Command}
use Rattle.mission_records.specs.declared.reading.TheConstants.{CAPACITY}
use Rattle.mission_records.specs.Mission.{version, mission_area, commands_in, total_row, count_of, mission_of}
use Rattle.mission_records.specs.Steps.{IsTotalInOneLine}
use Rattle.mission_records.proofs.Puts.{in_one_line}
use Rattle.mission_records.proofs.Commands.{empty_mission}
use Rattle.fence_records.specs.Lists.{fence_of}
use Rattle.vehicle_runs.specs.Runs.{convert_step, boot_steps, boot, start}
use Rattle.vehicle_runs.proofs.BootLaws as runs
use Rattle.vehicle_laws.specs.Laws.{StartsFormatted}
use Rattle.vehicle_laws.proofs.FenceSteps.{same_fence}

-- What each rule keeps holds after each prefix of the lines of several rules.
pub rules_prefix : (P : List ℕ → Type 0) (Q : Rule → Type 0) → ((rule : Rule) (old now : List ℕ) → Q rule → P old → AddsOne vehicle_rows rule old now → P now)
    → (rules : List Rule) (b : List ℕ) → All (HasRows vehicle_rows) rules → All Q rules → length b ≡ STORAGE_BYTES → IsBytes (logical_of Param b) → P b
    → EachPrefix P b (boot_steps (map convert_step rules) b)
rules_prefix P Q keep [] b has q size low p = prefix_nil P b p
rules_prefix P Q keep (rule ∷ rules) b has q size low p =
    let ws = convert_step rule b in
    let done = converts_in_steps b vehicle_rows rule size low vehicle_is_table (All-head (HasRows vehicle_rows) rule rules has) in
    let last = done.each (length ws) (omega arith) in
    let all : take (length ws) ws ≡ ws = take_all (length ws) ws (omega arith) in
    let each : EachPrefix P b ws = λ j h. keep rule b (after b (take j ws)) (All-head Q rule rules q) p (done.each j h) in
    prefix_append P b ws (boot_steps (map convert_step rules) (after b ws)) each
    (rules_prefix P Q keep rules (after b ws) (All-tail (HasRows vehicle_rows) rule rules has) (All-tail Q rule rules q) (length-after b ws ∙ size)
    (subst (λ (l : List LineWrite). IsBytes (logical_of Param (after b l))) all last.low) (subst (λ (l : List LineWrite). P (after b l)) all (each (length ws) (omega arith))))

-- boot where the storage has its magic: the rules alone
pub boot_rules : (b : List ℕ) → bytes_eq (take 4 (logical_of Param b)) magic ≡ true → boot b ≡ boot_steps (map convert_step vehicle_rules) b
unfolding boot
boot_rules b h = ap (λ (ws : List LineWrite). ws ++ boot_steps (map convert_step vehicle_rules) (after b ws)) (ap (λ (t : Bool). cond t [] (writes_of b formatting)) h)

pub no_magic : (b : List ℕ) → bytes_eq (take 4 (logical_of Param b)) magic ≡ false → ¬ HasMagic b
no_magic b h m = let clash : true ≡ false = sym ((bytes_eq-Decides (take 4 (logical_of Param b)) magic).1 m) ∙ h in cc

pub fresh : (b : List ℕ) → length b ≡ STORAGE_BYTES → ¬ HasMagic b → boot b ≡ writes_of b formatting
fresh b size other = runs.boot_formats.fresh b size other

pub boot_formatted : (b : List ℕ) → length b ≡ STORAGE_BYTES → IsBytes (logical_of Param b) → StartsFormatted b
boot_formatted b size low = record { size = length-after b (boot b) ∙ size; params = runs.boot_formats.low b size low; magic = runs.boot_formats.magic b size low }

pub boot_in_one_line : (b : List ℕ) → length b ≡ STORAGE_BYTES → ¬ HasMagic b → IsTotalInOneLine (after b (start b).issued)
boot_in_one_line b size other = subst (λ (ws : List LineWrite). IsTotalInOneLine (after b ws)) (sym (fresh b size other)) (in_one_line b size)

pub boot_unformatted : (b : List ℕ) (j : ℕ) → length b ≡ STORAGE_BYTES → ¬ HasMagic b → j < length (boot b) → ¬ HasMagic (after b (take j (boot b)))
boot_unformatted b j size other =
    let P : List LineWrite → Type 0 = λ ws. j < length ws → ¬ HasMagic (after b (take j ws)) in
    subst P (sym (fresh b size other)) (λ less. (formats b size).unformatted other j less)

-- A property of the bytes holds after each prefix of boot's lines, where the rules keep it and the
-- formatting has it.
pub boot_prefix : (P : List ℕ → Type 0) (Q : Rule → Type 0) → ((rule : Rule) (old now : List ℕ) → Q rule → P old → AddsOne vehicle_rows rule old now → P now) → All Q vehicle_rules
    → (b : List ℕ) → length b ≡ STORAGE_BYTES → IsBytes (logical_of Param b) → P b → (¬ HasMagic b → EachPrefix P b (writes_of b formatting)) → EachPrefix P b (boot b)
boot_prefix P Q keep q b size low p formatted =
    let E : List LineWrite → Type 0 = λ ws. EachPrefix P b ws in
    elim (cases_Bool (bytes_eq (take 4 (logical_of Param b)) magic)) [
      | inl same ↦ subst E (sym (boot_rules b same)) (rules_prefix P Q keep vehicle_rules b vehicle_rules_have_rows q size low p)
      | inr differ ↦ subst E (sym (fresh b size (no_magic b differ))) (formatted (no_magic b differ))
    ]

abbrev Any : Rule → Type 0
Any rule = Unit {0}

any_rules : All Any vehicle_rules
any_rules =
    All-cons Any to_servo1_trim (to_fence_radius ∷ to_rtl_alt ∷ to_compass_ofs ∷ []) tt
    (All-cons Any to_fence_radius (to_rtl_alt ∷ to_compass_ofs ∷ []) tt
    (All-cons Any to_rtl_alt (to_compass_ofs ∷ []) tt
    (All-cons Any to_compass_ofs [] tt (All-nil Any))))

formatting_bytes : (b : List ℕ) → length b ≡ STORAGE_BYTES → IsBytes (logical_of Param b) → EachPrefix (λ now. IsBytes (logical_of Param now)) b (writes_of b formatting)
formatting_bytes b size low =
    let second = 0 ∷ 0 ∷ 0xFF ∷ 0xFF ∷ 0x3F ∷ 0 ∷ 0 ∷ 0 ∷ [] in
    let first = 0x50 ∷ 0x41 ∷ 0x06 ∷ 0 ∷ 0x14 ∷ 0x42 ∷ 0 ∷ 0 ∷ [] in
    let of_bytes : All HasBytes formatting = All-cons HasBytes (piece 8 second) (piece 0 first ∷ []) (written_low second refl) (All-cons HasBytes (piece 0 first) [] (written_low first refl) (All-nil HasBytes)) in
    low_pieces b formatting size (two_fit 8 0 second first (omega arith) (omega arith)) of_bytes low

pub boot_bytes : (b : List ℕ) → length b ≡ STORAGE_BYTES → IsBytes (logical_of Param b) → EachPrefix (λ now. IsBytes (logical_of Param now)) b (boot b)
boot_bytes b size low = boot_prefix (λ now. IsBytes (logical_of Param now)) Any (λ rule old now q p adds. adds.low) any_rules b size low low (λ other. formatting_bytes b size low)

-- no rule makes a record of MIS_TOTAL
abbrev IsNoTotal : Rule → Type 0
IsNoTotal rule = is_new_row rule total_row ≡ false

no_total : All IsNoTotal vehicle_rules
no_total =
    All-cons IsNoTotal to_servo1_trim (to_fence_radius ∷ to_rtl_alt ∷ to_compass_ofs ∷ []) refl
    (All-cons IsNoTotal to_fence_radius (to_rtl_alt ∷ to_compass_ofs ∷ []) refl
    (All-cons IsNoTotal to_rtl_alt (to_compass_ofs ∷ []) refl
    (All-cons IsNoTotal to_compass_ofs [] refl (All-nil IsNoTotal))))

mission_not_param : Mission ≢ Param
mission_not_param e = cc

fence_not_param : Fence ≢ Param
fence_not_param e = cc

-- the mission of an area and a value of MIS_TOTAL
abbrev mission_in : List ℕ → Value → List Command
mission_in area value = commands_in (cond (bytes_eq (take 4 area) version) (min CAPACITY (count_of value)) 0) area

rule_leaves_mission : (b : List ℕ) (rule : Rule) (old now : List ℕ) → IsNoTotal rule → mission_of old ≡ mission_of b → AddsOne vehicle_rows rule old now → mission_of now ≡ mission_of b
rule_leaves_mission b rule old now apart p adds =
    let area : mission_area now ≡ mission_area old = adds.areas Mission mission_not_param in
    let total : params_of now total_row ≡ params_of old total_row = adds.others total_row (λ is. (let clash : true ≡ false = sym is ∙ apart in cc)) in
    ap₂ mission_in area total ∙ p

-- without the magic there is no mission
none_stored : (now : List ℕ) → ¬ HasMagic now → mission_of now ≡ []
none_stored now h = empty_mission now (ap (λ (rs : List Record). count_of (value_in_records rs total_row)) (no_records (logical_of Param now) h))

none_formatted : (b : List ℕ) → length b ≡ STORAGE_BYTES → mission_of (after b (writes_of b formatting)) ≡ []
none_formatted b size =
    let now = after b (writes_of b formatting) in
    empty_mission now (ap (λ (rs : List Record). count_of (value_in_records rs total_row)) (records_are (logical_of Param now) (total_zero ∷ []) 10 (formats b size).whole))

formatting_mission : (b : List ℕ) → length b ≡ STORAGE_BYTES → ¬ HasMagic b → EachPrefix (λ now. mission_of now ≡ mission_of b) b (writes_of b formatting)
formatting_mission b size other j h =
    let ws = writes_of b formatting in
    elim (cases_lt j (length ws)) [
      | inl fewer ↦ none_stored (after b (take j ws)) ((formats b size).unformatted other j fewer) ∙ sym (none_stored b other)
      | inr whole ↦ ap (λ (l : List LineWrite). mission_of (after b l)) (take_all j ws whole) ∙ none_formatted b size ∙ sym (none_stored b other)
    ]

pub boot_mission : (b : List ℕ) → length b ≡ STORAGE_BYTES → IsBytes (logical_of Param b) → EachPrefix (λ now. mission_of now ≡ mission_of b) b (boot b)
boot_mission b size low = boot_prefix (λ now. mission_of now ≡ mission_of b) IsNoTotal (rule_leaves_mission b) no_total b size low refl (λ other. formatting_mission b size other)

pub boot_fence : (b : List ℕ) → length b ≡ STORAGE_BYTES → IsBytes (logical_of Param b) → EachPrefix (λ now. fence_of now ≡ fence_of b) b (boot b)
boot_fence b size low =
    boot_prefix (λ now. fence_of now ≡ fence_of b) Any (λ rule old now q p adds. same_fence now old (adds.areas Fence fence_not_param) ∙ p) any_rules b size low refl
    (λ other j h. same_fence (after b (take j (writes_of b formatting))) b ((formats b size).areas j h Fence fence_not_param))

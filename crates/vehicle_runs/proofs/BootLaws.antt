-- What boot leaves: a formatted parameter storage.
use Rattle.std.proofs.Common.{◌≡◌, inl, inr, ℕ, Bool, true, false, cond, List, [], ◌∷◌, ◌++◌, length, take, refl, sym, ◌∙◌, ap, subst, arith, append-nil, Some, None}
use Rattle.std.specs.Prelude.{All, map}
use Rattle.std.specs.Str.{bytes_eq}
use Rattle.std.proofs.lemmas.List.{take_all}
use Rattle.std.proofs.lemmas.List.Elements.{All-head, All-tail, All-nil, All-cons}
use Rattle.std.proofs.lemmas.Bool.{cases_Bool}
use Rattle.std.proofs.lemmas.Slice.Eq.{bytes_eq-Decides}
use Rattle.param_tree.specs.Rows.{vehicle_rows}
use Rattle.param_tree.proofs.Vehicle.{vehicle_is_table}
use Rattle.storage_lines.specs.declared.areas.Area.TheVariants.{Param}
use Rattle.storage_lines.specs.declared.lines.LineWrite.{LineWrite}
use Rattle.storage_lines.specs.declared.lines.TheConstants.{STORAGE_BYTES}
use Rattle.storage_lines.specs.Areas.{logical_of}
use Rattle.storage_lines.specs.Lines.{after}
use Rattle.storage_lines.specs.Pieces.{writes_of}
use Rattle.storage_lines.proofs.LineLemmas.{length-after, after-append}
use Rattle.param_records.specs.Records.{Record, magic, value_in}
use Rattle.param_records.specs.Changes.{piece, formatting, total_zero}
use Rattle.param_records.specs.Steps.{HasMagic, records_in_storage}
use Rattle.param_records.proofs.FormatLemmas.{formats}
use Rattle.param_records.proofs.OtherAreas.{two_fit}
use Rattle.param_records.proofs.RecordLemmas.{records_are}
use Rattle.param_records.proofs.StepLemmas.{front_is}
use Rattle.param_convert.specs.declared.rules.Rule.{Rule}
use Rattle.param_convert.specs.Rules.{HasRows, to_servo1_trim, to_fence_radius, to_rtl_alt, to_compass_ofs, vehicle_rules}
use Rattle.param_convert.specs.Conversion.{Converts}
use Rattle.param_convert.proofs.VehicleRules.{vehicle_rules_have_rows}
use Rattle.param_convert.proofs.ConvertSteps.{converts_in_steps}
use Rattle.param_convert.proofs.LowBytes.{IsLow, HasBytes, written_low, low_pieces}
use Rattle.param_convert.proofs.Due.{pieces_none}
use Rattle.vehicle_runs.specs.Runs.{format_step, convert_step, boot_steps, boot}
use Rattle.vehicle_runs.specs.Boot.{BootFormats}

-- storage that is formatted, and has bytes
record Ready (b : List ℕ) : Type 0 where
  size : length b ≡ STORAGE_BYTES
  low : IsLow b
  magic : HasMagic b

-- one rule keeps it so
convert_keeps : (rule : Rule) (b : List ℕ) → HasRows vehicle_rows rule → Ready b → Ready (after b (convert_step rule b))
convert_keeps rule b has is =
    let ws = convert_step rule b in
    let done = converts_in_steps b vehicle_rows rule is.size is.low vehicle_is_table has in
    let last = done.each (length ws) (omega arith) in
    let all : take (length ws) ws ≡ ws = take_all (length ws) ws (omega arith) in
    record {
      size = length-after b ws ∙ is.size;
      low = subst (λ (l : List LineWrite). IsLow (after b l)) all last.low;
      magic = sym (ap (λ (l : List LineWrite). take 4 (logical_of Param (after b l))) all) ∙ last.front ∙ is.magic;
    }

-- and so do several, one after the other
rules_keep : (rules : List Rule) (b : List ℕ) → All (HasRows vehicle_rows) rules → Ready b → Ready (after b (boot_steps (map convert_step rules) b))
rules_keep [] b has is = is
rules_keep (rule ∷ rules) b has is =
    let ws = convert_step rule b in
    subst Ready (sym (after-append b ws (boot_steps (map convert_step rules) (after b ws))))
    (rules_keep rules (after b ws) (All-tail (HasRows vehicle_rows) rule rules has) (convert_keeps rule b (All-head (HasRows vehicle_rows) rule rules has) is))

-- the formatting, where it isn't due and where it is
format_none : (b : List ℕ) → bytes_eq (take 4 (logical_of Param b)) magic ≡ true → format_step b ≡ []
format_none b h = ap (λ (t : Bool). cond t [] (writes_of b formatting)) h

format_some : (b : List ℕ) → bytes_eq (take 4 (logical_of Param b)) magic ≡ false → format_step b ≡ writes_of b formatting
format_some b h = ap (λ (t : Bool). cond t [] (writes_of b formatting)) h

formatting_low : All HasBytes formatting
formatting_low =
    let second = 0 ∷ 0 ∷ 0xFF ∷ 0xFF ∷ 0x3F ∷ 0 ∷ 0 ∷ 0 ∷ [] in
    let first = 0x50 ∷ 0x41 ∷ 0x06 ∷ 0 ∷ 0x14 ∷ 0x42 ∷ 0 ∷ 0 ∷ [] in
    All-cons HasBytes (piece 8 second) (piece 0 first ∷ []) (written_low second refl) (All-cons HasBytes (piece 0 first) [] (written_low first refl) (All-nil HasBytes))

format_ready : (b : List ℕ) → length b ≡ STORAGE_BYTES → IsLow b → Ready (after b (format_step b))
format_ready b size low = elim (cases_Bool (bytes_eq (take 4 (logical_of Param b)) magic)) [
  | inl same ↦ subst (λ (l : List LineWrite). Ready (after b l)) (sym (format_none b same)) (record { size = size; low = low; magic = (bytes_eq-Decides (take 4 (logical_of Param b)) magic).0 same })
  | inr other ↦
      let ws = writes_of b formatting in
      let all : take (length ws) ws ≡ ws = take_all (length ws) ws (omega arith) in
      let fit = two_fit 8 0 (0 ∷ 0 ∷ 0xFF ∷ 0xFF ∷ 0x3F ∷ 0 ∷ 0 ∷ 0 ∷ []) (0x50 ∷ 0x41 ∷ 0x06 ∷ 0 ∷ 0x14 ∷ 0x42 ∷ 0 ∷ 0 ∷ []) (omega arith) (omega arith) in
      subst (λ (l : List LineWrite). Ready (after b l)) (sym (format_some b other)) (record {
        size = length-after b ws ∙ size;
        low = subst (λ (l : List LineWrite). IsLow (after b l)) all (low_pieces b formatting size fit formatting_low low (length ws) (omega arith));
        magic = front_is (logical_of Param (after b ws)) (total_zero ∷ []) 10 (formats b size).whole;
      })
]

boot_ready : (b : List ℕ) → length b ≡ STORAGE_BYTES → IsLow b → Ready (after b (boot b))
unfolding boot
boot_ready b size low =
    let ws = format_step b in
    subst Ready (sym (after-append b ws (boot_steps (map convert_step vehicle_rules) (after b ws)))) (rules_keep vehicle_rules (after b ws) vehicle_rules_have_rows (format_ready b size low))

-- no old record stands in what the formatting leaves
abbrev FindsNone : Rule → Type 0
FindsNone rule = value_in rule.key rule.element rule.kind (total_zero ∷ []) ≡ None

rules_idle : (rules : List Rule) (b : List ℕ) → All FindsNone rules → records_in_storage b ≡ total_zero ∷ [] → boot_steps (map convert_step rules) b ≡ []
rules_idle [] b none is = refl
rules_idle (rule ∷ rules) b none is =
    let never : (value : List ℕ) → Converts vehicle_rows (records_in_storage b) rule value → ⊥ = λ value c.
    let old : value_in rule.key rule.element rule.kind (total_zero ∷ []) ≡ Some value = sym (ap (λ (rs : List Record). value_in rule.key rule.element rule.kind rs) is) ∙ c.old in
    let absent = All-head FindsNone rule rules none in
    let clash : None ≡ Some value = sym absent ∙ old in
    cc in
    let idle : convert_step rule b ≡ [] = ap (λ (qs : _). writes_of b qs) (pieces_none vehicle_rows (records_in_storage b) rule never) in
    ap (λ (ws : List LineWrite). ws ++ boot_steps (map convert_step rules) (after b ws)) idle ∙ rules_idle rules b (All-tail FindsNone rule rules none) is

vehicle_rules_idle : All FindsNone vehicle_rules
vehicle_rules_idle =
    All-cons FindsNone to_servo1_trim (to_fence_radius ∷ to_rtl_alt ∷ to_compass_ofs ∷ []) refl
    (All-cons FindsNone to_fence_radius (to_rtl_alt ∷ to_compass_ofs ∷ []) refl
    (All-cons FindsNone to_rtl_alt (to_compass_ofs ∷ []) refl
    (All-cons FindsNone to_compass_ofs [] refl (All-nil FindsNone))))

boot_fresh : (b : List ℕ) → length b ≡ STORAGE_BYTES → ¬ HasMagic b → boot b ≡ writes_of b formatting
unfolding boot
boot_fresh b size other = elim (cases_Bool (bytes_eq (take 4 (logical_of Param b)) magic)) [
  | inl same ↦ absurd (other ((bytes_eq-Decides (take 4 (logical_of Param b)) magic).0 same))
  | inr differ ↦
      let ws = writes_of b formatting in
      let now = after b ws in
      ap (λ (l : List LineWrite). l ++ boot_steps (map convert_step vehicle_rules) (after b l)) (format_some b differ)
      ∙ ap (λ (l : List LineWrite). ws ++ l) (rules_idle vehicle_rules now vehicle_rules_idle (records_are (logical_of Param now) (total_zero ∷ []) 10 (formats b size).whole))
      ∙ append-nil ws
]

pub boot_formats : BootFormats
boot_formats = record {
  magic = λ b size low. (boot_ready b size low).magic;
  low = λ b size low. (boot_ready b size low).low;
  fresh = boot_fresh;
}

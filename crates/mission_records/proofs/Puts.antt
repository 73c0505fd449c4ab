-- What the mission is while it begins, and while a command is put.
use Rattle.std.proofs.Common.{◌≡◌, ◌≢◌, inl, inr, ℕ, suc, ◌+◌, ◌<◌, ◌≤◌, List, [], ◌∷◌, ◌++◌, length, get_or, take, refl, sym, ◌∙◌, ap, subst, arith}
use Rattle.storage_lines.specs.declared.lines.LineWrite.{LineWrite}
use Rattle.storage_lines.specs.declared.lines.TheConstants.{STORAGE_BYTES}
use Rattle.storage_lines.specs.declared.areas.Area.TheVariants.{Param, Mission}
use Rattle.storage_lines.specs.Areas.{logical_of, size_of_area}
use Rattle.storage_lines.specs.Bytes.{IsBytes}
use Rattle.storage_lines.specs.Laws.{HasPut}
use Rattle.storage_lines.specs.Lines.{after, EachPrefix}
use Rattle.storage_lines.specs.Pieces.{writes_of, writes_of_piece}
use Rattle.storage_lines.proofs.LineLemmas.{length-after, after-append}
use Rattle.storage_lines.proofs.PieceLemmas.{pieces_in_steps, length-area}
use Rattle.storage_lines.proofs.PrefixLemmas.{prefix_append}
use Rattle.param_tree.specs.declared.Kind.TheVariants.{I16}
use Rattle.param_records.specs.Records.{Record, records_of, place_from}
use Rattle.param_records.specs.Values.{value_of_number, value_in_records, params_of}
use Rattle.param_records.specs.Changes.{formatting, total_zero, IsFull}
use Rattle.param_records.specs.Steps.{records_in_storage}
use Rattle.param_records.proofs.FormatLemmas.{formats}
use Rattle.param_records.proofs.RecordLemmas.{records_are}
use Rattle.mission_commands.specs.declared.commands.Command.{Command}
use Rattle.mission_commands.specs.Storable.{IsStorable}
use Rattle.mission_records.specs.declared.reading.TheConstants.{CAPACITY, TOTAL_INDEX}
use Rattle.mission_records.specs.Mission.{version, total_row, mission_area, count_of, total_of, place_of_command, bytes_at, command_of, command_bytes, commands_in, mission_of, total_writes, version_writes, command_writes, put_writes}
use Rattle.mission_records.specs.Steps.{IsFormatted, HasVersion, StaysFormatted, IsOneOf, BeginsInSteps, PutsCommand, PutsInSteps, OthersKeepMissions, FormatsInOneLine}
use Rattle.mission_records.proofs.Listed.{listed_same, listed_all, same_prefix}
use Rattle.mission_records.proofs.Commands.{length-commands_in, commands_more, command_back, length-command, total_is, same_total, empty_mission, same_mission}
use Rattle.mission_records.proofs.Totals.{all_writes, total_setting, total_number, sets, stays, same_area, same_place, mission_stays, zero_fits, clears}

mission_not_param : Mission ≢ Param
mission_not_param e = cc

-- the parameters' area is as before
abbrev pub KeepsParams : List ℕ → List ℕ → Type 0
KeepsParams old now = logical_of Param now ≡ logical_of Param old

pub in_mission : (at : ℕ) (new b : List ℕ) → length b ≡ STORAGE_BYTES → at + length new ≤ size_of_area Mission → EachPrefix (KeepsParams b) b (writes_of_piece Mission at new b)
in_mission at new b size fits j h = let steps = pieces_in_steps in steps.others Mission Param at new b j mission_not_param size fits h

same_params : (a b : List ℕ) → KeepsParams b a → params_of a total_row ≡ params_of b total_row
same_params a b p = ap (λ (l : List ℕ). value_in_records (records_of l) total_row) p

stays_beside : (b : List ℕ) (ws : List LineWrite) → KeepsParams b (after b ws) → IsFormatted b → StaysFormatted b (after b ws)
stays_beside b ws p f = record {
  formatted = record { size = length-after b ws ∙ f.size; params = subst IsBytes (sym p) f.params; magic = ap (λ (l : List ℕ). take 4 l) p ∙ f.magic };
  one_line = same_place b (after b ws) (ap (λ (l : List ℕ). place_from 4 20 1 I16 (records_of l)) p);
}

then_stays : (a b c : List ℕ) → StaysFormatted a b → StaysFormatted b c → StaysFormatted a c
then_stays a b c x y = record { formatted = y.formatted; one_line = λ t. y.one_line (x.one_line t) }

take_four : (L : List ℕ) → 4 ≤ length L → take 4 L ≡ get_or L 0 0 ∷ get_or L 1 0 ∷ get_or L 2 0 ∷ get_or L 3 0 ∷ []
take_four [] h = absurd (omega arith)
take_four (a ∷ []) h = absurd (omega arith)
take_four (a ∷ b ∷ []) h = absurd (omega arith)
take_four (a ∷ b ∷ c ∷ []) h = absurd (omega arith)
take_four (a ∷ b ∷ c ∷ d ∷ L) h = refl

four_same : (a b c d e f g h : ℕ) → a ≡ e → b ≡ f → c ≡ g → d ≡ h → let x : List ℕ = a ∷ b ∷ c ∷ d ∷ [] in let y : List ℕ = e ∷ f ∷ g ∷ h ∷ [] in x ≡ y
four_same a b c d e f g h p q r s = cc

-- the version is the area's prefix
version_put : (old now : List ℕ) → HasPut 0 version 4 old now → length now ≡ 4638 → take 4 now ≡ version
version_put old now h long = take_four now (omega arith) ∙ four_same (get_or now 0 0) (get_or now 1 0) (get_or now 2 0) (get_or now 3 0) 174 101 0 0 (h.put 0 (omega arith)) (h.put 1 (omega arith)) (h.put 2 (omega arith)) (h.put 3 (omega arith))

pub begins : BeginsInSteps
begins bytes formatted =
    let c = clears bytes formatted in
    let w1 = total_writes bytes 0 in
    let mid = after bytes w1 in
    let w2 = version_writes mid in
    let s = total_setting bytes 0 formatted (omega arith) (zero_fits (records_in_storage bytes)) in
    let stays1 : StaysFormatted bytes mid = all_writes (StaysFormatted bytes) bytes w1 c.stays in
    let size : length mid ≡ STORAGE_BYTES = stays1.formatted.size in
    let none : count_of (params_of mid total_row) ≡ 0 = ap count_of ((sets bytes TOTAL_INDEX total_row 0 s).whole formatted.magic) in
    let put = in_mission 0 version mid size (omega arith) in
    let empty : EachPrefix (λ now. mission_of now ≡ []) mid w2 = λ j h. empty_mission (after mid (take j w2)) (ap count_of (same_params (after mid (take j w2)) mid (put j h)) ∙ none) in
    let whole : after bytes (w1 ++ w2) ≡ after mid w2 = after-append bytes w1 w2 in
    let steps = pieces_in_steps in
    let done = steps.whole Mission 0 version mid size (omega arith) in
    record {
      clears = record {
        stays = prefix_append (StaysFormatted bytes) bytes w1 w2 c.stays
            (λ j h. then_stays bytes mid (after mid (take j w2)) stays1 (stays_beside mid (take j w2) (put j h) stays1.formatted));
        each = λ t. prefix_append (IsOneOf (mission_of bytes) []) bytes w1 w2 (c.each t) (λ j h. inr (empty j h));
        whole = ap mission_of whole ∙ all_writes (λ (now : List ℕ). mission_of now ≡ []) mid w2 empty;
      };
      versioned = ap (λ (b : List ℕ). take 4 (mission_area b)) whole
          ∙ version_put (mission_area mid) (mission_area (after mid w2)) done (length-area Mission (after mid w2));
    }

-- A command is put at the index that is the total.
puts_at : (bytes : List ℕ) (c : Command) → IsFormatted bytes → HasVersion bytes → IsStorable c → total_of bytes < CAPACITY → ¬ IsFull (records_in_storage bytes) total_row (total_of bytes + 1) → PutsCommand c bytes (put_writes bytes (total_of bytes) c)
puts_at bytes c formatted v storable few room =
    let n = total_of bytes in
    let at = place_of_command n in
    let new = command_bytes c in
    let long : length new ≡ 15 = length-command c storable in
    let fits : at + length new ≤ size_of_area Mission = omega arith in
    let w1 = command_writes bytes n c in
    let mid = after bytes w1 in
    let size = formatted.size in
    let steps = pieces_in_steps in
    let put = in_mission at new bytes size fits in
    let puts1 : KeepsParams bytes mid = all_writes (KeepsParams bytes) bytes w1 put in
    let stays1 : StaysFormatted bytes mid = stays_beside bytes w1 puts1 formatted in
    let records : records_in_storage mid ≡ records_in_storage bytes = ap (λ (l : List ℕ). records_of l) puts1 in
    let s = total_setting mid (n + 1) stays1.formatted (omega arith) (λ f. room (subst (λ (rs : List Record). IsFull rs total_row (n + 1)) records f)) in
    let w2 = total_writes mid (n + 1) in
    let r = sets mid TOTAL_INDEX total_row (n + 1) s in
    let area = mission_area bytes in
    let same : (b : List ℕ) (d : ℕ) → HasPut at new d area (mission_area b) → KeepsParams bytes b → (total_of b ≡ n) × (HasVersion b) × (mission_of b ≡ mission_of bytes) = λ b d h p.
    let prefix : take 4 (mission_area b) ≡ take 4 area = same_prefix 4 (mission_area b) area (length-area Mission b ∙ sym (length-area Mission bytes)) (λ i l. h.below i (omega arith)) in
    let total = same_total b bytes prefix (same_params b bytes p) in
    (total, prefix ∙ v, same_mission b bytes total (λ k l. h.below k l)) in
    let first : EachPrefix (λ now. mission_of now ≡ mission_of bytes) bytes w1 = λ j h.
    let found = steps.each Mission at new bytes j size fits h in (same (after bytes (take j w1)) found.0 found.3 (put j h)).2 in
    let whole1 = steps.whole Mission at new bytes size fits in
    let there = same mid (length new) whole1 puts1 in
    let last : bytes_at n (mission_area mid) ≡ new = listed_same 15 (λ k. get_or (mission_area mid) (at + k) 0) (λ k. get_or new k 0) (λ k l. whole1.put k (omega arith)) ∙ listed_all 15 new long in
    let more : commands_in (suc n) (mission_area mid) ≡ mission_of bytes ++ c ∷ [] =
    commands_more n (mission_area mid)
    ∙ ap (λ (x : Command). commands_in n (mission_area mid) ++ x ∷ []) (ap command_of last ∙ command_back c storable)
    ∙ ap (λ (cs : List Command). cs ++ c ∷ []) (ap (λ (i : ℕ). commands_in i (mission_area mid)) (sym there.0) ∙ there.2) in
    let old_total : (b : List ℕ) → mission_area b ≡ mission_area mid → params_of b total_row ≡ params_of mid total_row → mission_of b ≡ mission_of bytes = λ b m p. mission_stays b mid m p ∙ there.2 in
    let new_total : (b : List ℕ) → mission_area b ≡ mission_area mid → params_of b total_row ≡ value_of_number I16 (n + 1) → mission_of b ≡ mission_of bytes ++ c ∷ [] = λ b m p.
    let right : HasVersion b = ap (λ (l : List ℕ). take 4 l) m ∙ there.1 in
    let counts : count_of (params_of b total_row) ≡ n + 1 = ap count_of p ∙ total_number (n + 1) (omega arith) in
    let total : total_of b ≡ suc n = total_is b right ∙ omega arith in
    ap (λ (i : ℕ). commands_in i (mission_area b)) total ∙ ap (λ (l : List ℕ). commands_in (suc n) l) m ∙ more in
    let area2 : EachPrefix (λ now. mission_area now ≡ mission_area mid) mid w2 = same_area mid TOTAL_INDEX total_row (n + 1) s in
    let area_all : mission_area (after mid w2) ≡ mission_area mid = all_writes (λ (b : List ℕ). mission_area b ≡ mission_area mid) mid w2 area2 in
    let whole : after bytes (w1 ++ w2) ≡ after mid w2 = after-append bytes w1 w2 in
    record {
      stays = prefix_append (StaysFormatted bytes) bytes w1 w2 (λ j h. stays_beside bytes (take j w1) (put j h) formatted)
          (λ j h. then_stays bytes mid (after mid (take j w2)) stays1 (stays mid TOTAL_INDEX total_row (n + 1) s j h));
      each = λ t. let one = stays1.one_line t in prefix_append (IsOneOf (mission_of bytes) (mission_of bytes ++ c ∷ [])) bytes w1 w2 (λ j h. inl (first j h))
          (λ j h. elim ((r.each j h).in_one_line one.at one.there one.one_line) [
            | inl old ↦ inl (old_total (after mid (take j w2)) (area2 j h) old)
            | inr new ↦ inr (new_total (after mid (take j w2)) (area2 j h) new)
          ]);
      whole = ap mission_of whole ∙ new_total (after mid w2) area_all (r.whole stays1.formatted.magic);
      versioned = ap (λ (b : List ℕ). take 4 (mission_area b)) whole ∙ ap (λ (l : List ℕ). take 4 l) area_all ∙ there.1;
    }

pub puts : PutsInSteps
puts bytes c formatted v storable few room =
    let n = total_of bytes in
    let count : length (mission_of bytes) ≡ n = length-commands_in n (mission_area bytes) in
    subst (λ (i : ℕ). PutsCommand c bytes (put_writes bytes i c)) (sym count) (puts_at bytes c formatted v storable (omega arith) (λ f. room (subst (λ (i : ℕ). IsFull (records_in_storage bytes) total_row (i + 1)) (sym count) f)))

-- Writes that leave the parameters' area and the mission's area keep the mission.
pub others_keep : OthersKeepMissions
others_keep bytes ws f h = record {
  stays = λ j l. stays_beside bytes (take j ws) (h j l).params f;
  same = λ j l. mission_stays (after bytes (take j ws)) bytes (h j l).mission (same_params (after bytes (take j ws)) bytes (h j l).params);
  versioned = λ v. ap (λ (l : List ℕ). take 4 l) (all_writes (λ (b : List ℕ). mission_area b ≡ mission_area bytes) bytes ws (λ j l. (h j l).mission)) ∙ v;
}

-- after formatting MIS_TOTAL's record is the first one
pub in_one_line : FormatsInOneLine
in_one_line bytes size =
    let all = formats in
    let done = all bytes size in
    record {
      at = 8;
      there = ap (λ (rs : List Record). place_from 4 20 1 I16 rs) (records_are (logical_of Param (after bytes (writes_of bytes formatting))) (total_zero ∷ []) 10 done.whole);
      one_line = refl;
    }

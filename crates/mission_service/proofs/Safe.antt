-- The lines that are written leave the parameters' magic, and are of the storage.
use Rattle.std.proofs.Common.{◌≡◌, ◌≢◌, ℕ, ◌+◌, ◌/◌, ◌%◌, ◌<◌, ◌≤◌, Bool, true, false, cond, List, [], ◌∷◌, ◌++◌, length, take, drop, refl, sym, ◌∙◌, ap, subst, arith, length-drop, length-take}
use Rattle.std.specs.Prelude.{Ok, nat_lt}
use Rattle.std.proofs.lemmas.List.Elements.{All-nil, All-append}
use Rattle.storage_lines.specs.declared.lines.LineWrite.{LineWrite}
use Rattle.storage_lines.specs.declared.lines.TheConstants.{STORAGE_BYTES, LINES}
use Rattle.storage_lines.specs.declared.areas.Area.TheVariants.{Param, Mission, Fence}
use Rattle.storage_lines.specs.Areas.{size_of_area}
use Rattle.storage_lines.specs.Bytes.{IsBytes, AreInside}
use Rattle.storage_lines.specs.Lines.{after, changes, EachPrefix}
use Rattle.storage_lines.specs.Pieces.{writes_of_piece}
use Rattle.storage_lines.proofs.ApartLemmas.{whole_changes}
use Rattle.storage_lines.proofs.ByteLemmas.{changes_inside, writes_inside, bytes_in_area}
use Rattle.storage_lines.proofs.LineLemmas.{length-after}
use Rattle.storage_lines.proofs.PieceLemmas.{pieces_in_steps}
use Rattle.storage_lines.proofs.PrefixLemmas.{prefix_append, prefix_nil}
use Rattle.param_tree.specs.Rows.{vehicle_rows}
use Rattle.param_records.specs.Changes.{IsFull, set_pieces}
use Rattle.param_records.specs.Records.{records_of}
use Rattle.param_records.specs.Steps.{HasMagic, records_in_storage}
use Rattle.mission_commands.specs.declared.commands.Command.{Command}
use Rattle.mission_records.specs.declared.reading.TheConstants.{CAPACITY}
use Rattle.mission_records.specs.Mission.{total_row, command_bytes, place_of_command, total_writes, version_writes, command_writes, begin_writes, put_writes}
use Rattle.mission_records.specs.Steps.{IsFormatted}
use Rattle.mission_records.proofs.Totals.{all_writes, stays, total_setting, clears}
use Rattle.mission_records.proofs.Puts.{KeepsParams, in_mission, begins}
use Rattle.fence_records.specs.declared.items.FenceItem.{FenceItem}
use Rattle.fence_records.specs.Fence.{fence_version}
use Rattle.fence_records.specs.Write.{encoded, without_fence, with_records, with_fence, fence_writes}
use Rattle.fence_records.specs.Lists.{clear_fence_writes, replace_writes}
use Rattle.fence_records.proofs.Steps.{length-cleared, length-behind}
use Rattle.fence_records.proofs.Replaces.{replaced}
use Rattle.mission_service.specs.Steps.Parts.{AreSafe}

-- formatted bytes stay so
abbrev StaysSo : List ℕ → List LineWrite → Type 0
StaysSo b ws = IsFormatted b → EachPrefix IsFormatted b ws

stays_append : (b : List ℕ) (xs ys : List LineWrite) → StaysSo b xs → StaysSo (after b xs) ys → StaysSo b (xs ++ ys)
stays_append b xs ys first then f = prefix_append IsFormatted b xs ys (first f) (then (all_writes IsFormatted b xs (first f)))

-- lines that leave the parameters
stays_beside : (b : List ℕ) (ws : List LineWrite) → EachPrefix (KeepsParams b) b ws → StaysSo b ws
stays_beside b ws same f j h = record {
  size = length-after b (take j ws) ∙ f.size;
  params = subst IsBytes (sym (same j h)) f.params;
  magic = ap (λ (l : List ℕ). take 4 l) (same j h) ∙ f.magic;
}

safe : (b : List ℕ) (ws : List LineWrite) → length b ≡ STORAGE_BYTES → IsBytes b → AreInside ws → StaysSo b ws → AreSafe b ws
safe b ws size low inside keeps = record { inside = inside; magic = λ m j h. (keeps (record { size = size; params = bytes_in_area Param b low; magic = m }) j h).magic }

both_inside : (xs ys : List LineWrite) → AreInside xs → AreInside ys → AreInside (xs ++ ys)
both_inside xs ys h k = All-append (λ (write : LineWrite). write.line < LINES) xs ys h k

-- no lines
pub none_safe : (b : List ℕ) (ws : List LineWrite) → ws ≡ [] → AreSafe b ws
none_safe b ws e = subst (AreSafe b) (sym e) (record { inside = All-nil (λ (write : LineWrite). write.line < LINES); magic = λ m. prefix_nil HasMagic b m })

-- the lines of a mission
total_inside : (b : List ℕ) (n : ℕ) → AreInside (total_writes b n)
total_inside b n = writes_inside b (set_pieces vehicle_rows (records_in_storage b) total_row n)

piece_inside : (at : ℕ) (new b : List ℕ) → AreInside (writes_of_piece Mission at new b)
piece_inside at new b = changes_inside b _

clear_stays : (b : List ℕ) → StaysSo b (total_writes b 0)
clear_stays b f j h = let c = clears b f in (c.stays j h).formatted

pub begin_safe : (b : List ℕ) (ws : List LineWrite) → length b ≡ STORAGE_BYTES → IsBytes b → ws ≡ begin_writes b → AreSafe b ws
begin_safe b ws size low e =
    let keeps : StaysSo b (begin_writes b) = λ f j h. let c = begins b f in (c.clears.stays j h).formatted in
    subst (AreSafe b) (sym e) (safe b (begin_writes b) size low (both_inside (total_writes b 0) (version_writes (after b (total_writes b 0))) (total_inside b 0) (changes_inside (after b (total_writes b 0)) _)) keeps)

length_bytes : (c : Command) (t : Bool) → length c.content ≡ 12 → nat_lt c.id 0x100 ≡ t → length (command_bytes c) ≡ 15
length_bytes c true h e = ap (λ (b : Bool). length (cond b (c.id ∷ c.p1 % 0x100 ∷ c.p1 / 0x100 ∷ c.content) (1 ∷ c.id % 0x100 ∷ c.id / 0x100 ∷ c.p1 % 0x100 ∷ c.p1 / 0x100 ∷ take 10 c.content))) e ∙ omega (arith, h)
length_bytes c false h e = ap (λ (b : Bool). length (cond b (c.id ∷ c.p1 % 0x100 ∷ c.p1 / 0x100 ∷ c.content) (1 ∷ c.id % 0x100 ∷ c.id / 0x100 ∷ c.p1 % 0x100 ∷ c.p1 / 0x100 ∷ take 10 c.content))) e ∙ omega (arith, h, length-take 10 c.content)

total_stays : (b : List ℕ) (n : ℕ) → n ≤ CAPACITY → ¬ IsFull (records_in_storage b) total_row n → StaysSo b (total_writes b n)
total_stays b n few room f j h = (stays b _ total_row n (total_setting b n f few room) j h).formatted

pub put_safe : (b : List ℕ) (i : ℕ) (c : Command) (ws : List LineWrite) → length b ≡ STORAGE_BYTES → IsBytes b → i < CAPACITY → length c.content ≡ 12 → ¬ IsFull (records_in_storage b) total_row (i + 1) → ws ≡ put_writes b i c → AreSafe b ws
put_safe b i c ws size low few long room e =
    let xs = command_writes b i c in
    let mid = after b xs in
    let n : length (command_bytes c) ≡ 15 = length_bytes c (nat_lt c.id 0x100) long refl in
    let beside : EachPrefix (KeepsParams b) b xs = in_mission (place_of_command i) (command_bytes c) b size (omega (arith, n, few)) in
    let same : KeepsParams b mid = all_writes (KeepsParams b) b xs beside in
    let room' : ¬ IsFull (records_in_storage mid) total_row (i + 1) = λ full. room (subst (λ (l : List ℕ). IsFull (records_of l) total_row (i + 1)) same full) in
    let keeps : StaysSo b (put_writes b i c) = stays_append b xs (total_writes mid (i + 1)) (stays_beside b xs beside) (total_stays mid (i + 1) (omega (arith, few)) room') in
    subst (AreSafe b) (sym e) (safe b (put_writes b i c) size low (both_inside xs (total_writes mid (i + 1)) (changes_inside b _) (total_inside mid (i + 1))) keeps)

-- the lines of a fence
fence_not_param : Fence ≢ Param
fence_not_param e = cc

in_fence : (at : ℕ) (new b : List ℕ) → length b ≡ STORAGE_BYTES → at + length new ≤ size_of_area Fence → StaysSo b (writes_of_piece Fence at new b)
in_fence at new b size fits = stays_beside b (writes_of_piece Fence at new b) (λ j h. let steps = pieces_in_steps in steps.others Fence Param at new b j fence_not_param size fits h)

fence_clear_stays : (b : List ℕ) → length b ≡ STORAGE_BYTES → StaysSo b (clear_fence_writes b)
fence_clear_stays b size = in_fence 0 (fence_version ++ 99 ∷ []) b size (omega arith)

fence_stays : (new b : List ℕ) → length b ≡ STORAGE_BYTES → length new ≤ 416 → StaysSo b (fence_writes new b)
fence_stays new b size few =
    let xs = changes b (without_fence b) in
    let ys = changes (without_fence b) (with_records new b) in
    let zs = changes (with_records new b) (with_fence new b) in
    let s1 : length (without_fence b) ≡ STORAGE_BYTES = length-cleared b ∙ size in
    let s2 : length (with_records new b) ≡ STORAGE_BYTES = length-behind new b ∙ size in
    let e1 : after b xs ≡ without_fence b = whole_changes b (without_fence b) size s1 in
    let e2 : after (without_fence b) ys ≡ with_records new b = whole_changes (without_fence b) (with_records new b) s1 s2 in
    let last : StaysSo (with_records new b) zs = in_fence 0 (take 8 new) (with_records new b) s2 (omega (arith, length-take 8 new)) in
    let second : StaysSo (without_fence b) ys = in_fence 8 (drop 8 new) (without_fence b) s1 (omega (arith, length-drop 8 new, few)) in
    stays_append b xs (ys ++ zs) (fence_clear_stays b size)
    (subst (λ (c : List ℕ). StaysSo c (ys ++ zs)) (sym e1) (stays_append (without_fence b) ys zs second (subst (λ (c : List ℕ). StaysSo c zs) (sym e2) last)))

pub replace_safe : (b : List ℕ) (items : List FenceItem) (ws : List LineWrite) → length b ≡ STORAGE_BYTES → IsBytes b → replace_writes b items ≡ Ok ws → AreSafe b ws
replace_safe b items ws size low h =
    let r = replaced b items ws h in
    let new = encoded r.figures in
    subst (AreSafe b) (sym r.writes) (safe b (fence_writes new b) size low
    (both_inside (changes b (without_fence b)) (changes (without_fence b) (with_records new b) ++ changes (with_records new b) (with_fence new b)) (changes_inside b (without_fence b))
    (both_inside (changes (without_fence b) (with_records new b)) (changes (with_records new b) (with_fence new b)) (changes_inside (without_fence b) (with_records new b)) (changes_inside (with_records new b) (with_fence new b))))
    (fence_stays new b size r.few))

-- the lines that clear one, or both
pub clear_mission_safe : (b : List ℕ) (ws : List LineWrite) → length b ≡ STORAGE_BYTES → IsBytes b → ws ≡ total_writes b 0 → AreSafe b ws
clear_mission_safe b ws size low e = subst (AreSafe b) (sym e) (safe b (total_writes b 0) size low (total_inside b 0) (clear_stays b))

pub clear_fence_safe : (b : List ℕ) (ws : List LineWrite) → length b ≡ STORAGE_BYTES → IsBytes b → ws ≡ clear_fence_writes b → AreSafe b ws
clear_fence_safe b ws size low e = subst (AreSafe b) (sym e) (safe b (clear_fence_writes b) size low (changes_inside b (without_fence b)) (fence_clear_stays b size))

pub clear_both_safe : (b : List ℕ) (ws : List LineWrite) → length b ≡ STORAGE_BYTES → IsBytes b → ws ≡ total_writes b 0 ++ clear_fence_writes (after b (total_writes b 0)) → AreSafe b ws
clear_both_safe b ws size low e =
    let xs = total_writes b 0 in
    let mid = after b xs in
    subst (AreSafe b) (sym e) (safe b (xs ++ clear_fence_writes mid) size low (both_inside xs (clear_fence_writes mid) (total_inside b 0) (changes_inside mid (without_fence mid)))
    (stays_append b xs (clear_fence_writes mid) (clear_stays b) (fence_clear_stays mid (length-after b xs ∙ size))))

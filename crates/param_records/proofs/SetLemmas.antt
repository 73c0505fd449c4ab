-- The clauses of the calls that set a row, from the writes that they append.
use Rattle.std.proofs.Common.{◌≡◌, ℕ, ◌<◌, ◌^◌, List, ◌++◌, length, drop, sym, ◌∙◌, ap, subst, arith, refl, Option, Some, None}
use Rattle.std.specs.Prelude.{ℤ, slice_get, IfSome, OnOk, IsErr, Result, Ok, Err, ◌↔◌}
use Rattle.std.proofs.lemmas.List.{drop_at}
use Rattle.std.proofs.lemmas.Int.{ints}
use Rattle.param_tree.specs.declared.Kind.{Kind}
use Rattle.param_tree.specs.declared.Kind.TheVariants.{I8, I16, I32, F32, Vec3}
use Rattle.param_tree.specs.declared.Var.{Var}
use Rattle.param_tree.specs.Rules.{IsTable}
use Rattle.storage_lines.specs.declared.lines.LineWrite.{LineWrite}
use Rattle.storage_lines.specs.declared.lines.TheConstants.{STORAGE_BYTES}
use Rattle.storage_lines.specs.declared.areas.Area.TheVariants.{Param}
use Rattle.storage_lines.specs.Areas.{logical_of}
use Rattle.storage_lines.specs.Lines.{after}
use Rattle.storage_lines.specs.Pieces.{writes_of}
use Rattle.storage_lines.proofs.LineLemmas.{after-append}
use Rattle.word_bits.specs.Pattern.{IsFinite}
use Rattle.param_records.specs.declared.values.Value.{Value}
use Rattle.param_records.specs.declared.values.Value.TheVariants.{Whole, Bits}
use Rattle.param_records.specs.declared.setting.SetError.{SetError}
use Rattle.param_records.specs.Records.{records_of}
use Rattle.param_records.specs.Values.{value_of_number, params_of}
use Rattle.param_records.specs.Changes.{set_pieces, IsFull}
use Rattle.param_records.specs.Patterns.{IsInRangeOf, IsNumberOf, IsValueOf, number_of_whole}
use Rattle.param_records.specs.Steps.{HasMagic, IsKept, SetsRow, SetsWell}
use Rattle.storage_lines.specs.Bytes.{IsBytes}
use Rattle.param_records.proofs.OtherLemmas.{four_number}
use Rattle.param_records.proofs.PatternLemmas.{one_number}
use Rattle.param_records.proofs.StepLemmas.{set_steps}
use Rattle.param_records.proofs.WholeLemmas.{whole_back, signed_whole, unsigned_low}

-- a row that is there
if_some : (o : Option Var) (P Q : Var → Type 0) → IfSome o P → ((row : Var) → o ≡ Some row → P row → Q row) → IfSome o Q
if_some None P Q h f = tt
if_some (Some row) P Q h f = f row refl h

pub is_some : (o : Option Var) (P : Var → Type 0) (row : Var) → o ≡ Some row → IfSome o P → P row
is_some None P row e h = cc
is_some (Some x) P row e h = let same : x ≡ row = cc in subst P same h

-- what holds on success, from what does
pub on_ok : (r : Result (Unit {0}) SetError) (P Q : Type 0) → OnOk r P → ((IsErr r → ⊥) → P → Q) → OnOk r Q
on_ok (Ok u) P Q h f = f (λ e. cc) h
on_ok (Err e) P Q h f = tt

pub well_set : (r : Result (Unit {0}) SetError) (rows : List Var) (var number : ℕ) (before : List ℕ) (old new : List LineWrite) → length before ≡ STORAGE_BYTES → IsTable rows →
    OnOk r (IfSome (slice_get rows var) (λ row. new ≡ old ++ writes_of before (set_pieces rows (records_of (logical_of Param before)) row number))) →
    IfSome (slice_get rows var) (λ row. IsErr r ↔ IsFull (records_of (logical_of Param before)) row number) → OnOk r (SetsWell rows var number before old new)
well_set r rows var number before old new size table ok full = on_ok r _ _ ok (λ fine written low.
    if_some (slice_get rows var) _ _ written (λ row is items kept.
    let both = is_some (slice_get rows var) _ row is full in
    let ws = writes_of before (set_pieces rows (records_of (logical_of Param before)) row number) in
    let behind : drop (length old) new ≡ ws = ap (λ (l : List LineWrite). drop (length old) l) items ∙ drop_at old ws (length old) refl in
    subst (λ (l : List LineWrite). SetsRow rows var row number before l) (sym behind) (set_steps before rows var row number size low table is kept (λ f. fine (both.1 f)))))

-- a whole number of a kind is kept
pub kept_whole : (kind : Kind) (z : ℤ) → IsInRangeOf kind z → IsKept kind (number_of_whole z)
kept_whole I8 z h = let a = h.0 in let b = h.1 in (unsigned_low z (omega (arith, ints)) (omega (arith, ints)), whole_back I8 z h ∙ ap (λ (x : ℤ). Whole x) (sym (signed_whole z (omega (arith, ints)) (omega (arith, ints)))))
kept_whole I16 z h = let a = h.0 in let b = h.1 in (unsigned_low z (omega (arith, ints)) (omega (arith, ints)), whole_back I16 z h ∙ ap (λ (x : ℤ). Whole x) (sym (signed_whole z (omega (arith, ints)) (omega (arith, ints)))))
kept_whole I32 z h = (unsigned_low z h.0 h.1, whole_back I32 z h ∙ ap (λ (x : ℤ). Whole x) (sym (signed_whole z h.0 h.1)))
kept_whole F32 z h = absurd h
kept_whole Vec3 z h = absurd h

pub whole_value : (kind : Kind) (z : ℤ) → IsInRangeOf kind z → value_of_number kind (number_of_whole z) ≡ Whole z
whole_value kind z h = sym (kept_whole kind z h).1 ∙ whole_back kind z h

float_kept : (bits n : ℕ) → IsFinite bits → n ≡ bits → n < 2 ^ 32
float_kept bits n h e = omega (arith, h.0)

pub kept_number : (kind : Kind) (bits n : ℕ) → IsNumberOf kind bits n → IsKept kind n
kept_number I8 bits n h = subst (IsKept I8) (sym h.3) (kept_whole I8 h.0 h.1)
kept_number I16 bits n h = subst (IsKept I16) (sym h.3) (kept_whole I16 h.0 h.1)
kept_number I32 bits n h = subst (IsKept I32) (sym h.3) (kept_whole I32 h.0 h.1)
kept_number F32 bits n h = let few = float_kept bits n h.0 h.1 in (few, ap (λ (m : ℕ). Bits m) (four_number n few))
kept_number Vec3 bits n h = let few = float_kept bits n h.0 h.1 in (few, ap (λ (m : ℕ). Bits m) (four_number n few))

value_is : (kind : Kind) (bits n : ℕ) (v : Value) → IsNumberOf kind bits n → v ≡ value_of_number kind n → IsValueOf kind bits v
value_is I8 bits n v h e = (h.0, h.2, e ∙ ap (value_of_number I8) h.3 ∙ whole_value I8 h.0 h.1)
value_is I16 bits n v h e = (h.0, h.2, e ∙ ap (value_of_number I16) h.3 ∙ whole_value I16 h.0 h.1)
value_is I32 bits n v h e = (h.0, h.2, e ∙ ap (value_of_number I32) h.3 ∙ whole_value I32 h.0 h.1)
value_is F32 bits n v h e = e ∙ ap (λ (m : ℕ). Bits m) h.1
value_is Vec3 bits n v h e = e ∙ ap (λ (m : ℕ). Bits m) h.1

-- after the whole batch
after_all : (current : List ℕ) (old new ws : List LineWrite) → new ≡ old ++ ws → after current new ≡ after (after current old) ws
after_all current old new ws e = ap (λ (l : List LineWrite). after current l) e ∙ after-append current old ws

both_ok : (r : Result (Unit {0}) SetError) (P Q : Type 0) → OnOk r P → OnOk r Q → OnOk r (P × Q)
both_ok (Ok u) P Q p q = (p, q)
both_ok (Err e) P Q p q = tt

value_after : (rows : List Var) (var number : ℕ) (row : Var) (current before : List ℕ) (old new : List LineWrite) → before ≡ after current old → new ≡ old ++ writes_of before (set_pieces rows (records_of (logical_of Param before)) row number) →
    SetsRow rows var row number before (drop (length old) new) → HasMagic before → params_of (after current new) row ≡ value_of_number row.kind number
value_after rows var number row current before old new start items sets m =
    let ws = writes_of before (set_pieces rows (records_of (logical_of Param before)) row number) in
    let behind : drop (length old) new ≡ ws = ap (λ (l : List LineWrite). drop (length old) l) items ∙ drop_at old ws (length old) refl in
    ap (λ (b : List ℕ). params_of b row) (after_all current old new ws items ∙ ap (λ (b : List ℕ). after b ws) (sym start) ∙ ap (λ (l : List LineWrite). after before l) (sym behind)) ∙ sets.whole m

-- `set`
pub steps_of_number : (r : Result (Unit {0}) SetError) (rows : List Var) (var bits number : ℕ) (row : Var) (before : List ℕ) (old new : List LineWrite) → slice_get rows var ≡ Some row → IsNumberOf row.kind bits number → OnOk r (SetsWell rows var number before old new) →
    OnOk r (IsBytes (logical_of Param before) → IfSome (slice_get rows var) (λ x. (n : ℕ) → IsNumberOf x.kind bits n → SetsRow rows var x n before (drop (length old) new)))
steps_of_number r rows var bits number row before old new is has well = on_ok r _ _ well (λ fine w low.
    if_some (slice_get rows var) _ _ (w low) (λ x at sets n of.
    let both : Some row ≡ Some x = sym is ∙ at in
    let same : row ≡ x = cc in
    let mine : IsNumberOf x.kind bits number = subst (λ (y : Var). IsNumberOf y.kind bits number) same has in
    subst (λ (m : ℕ). SetsRow rows var x m before (drop (length old) new)) (one_number x.kind bits number n mine of) (sets (kept_number x.kind bits number mine))))

pub value_of_set : (r : Result (Unit {0}) SetError) (rows : List Var) (var bits number : ℕ) (row : Var) (current before : List ℕ) (old new : List LineWrite) → slice_get rows var ≡ Some row → IsNumberOf row.kind bits number → before ≡ after current old →
    OnOk r (IfSome (slice_get rows var) (λ x. new ≡ old ++ writes_of before (set_pieces rows (records_of (logical_of Param before)) x number))) → OnOk r (SetsWell rows var number before old new) →
    OnOk r (IsBytes (logical_of Param before) → HasMagic before → IfSome (slice_get rows var) (λ x. IsValueOf x.kind bits (params_of (after current new) x)))
value_of_set r rows var bits number row current before old new is has start ok well = on_ok r _ _ (both_ok r _ _ ok well) (λ fine w low m.
    if_some (slice_get rows var) _ _ (w.1 low) (λ x at sets.
    let both : Some row ≡ Some x = sym is ∙ at in
    let same : row ≡ x = cc in
    let mine : IsNumberOf x.kind bits number = subst (λ (y : Var). IsNumberOf y.kind bits number) same has in
    value_is x.kind bits number (params_of (after current new) x) mine (value_after rows var number x current before old new start (is_some (slice_get rows var) _ x at w.0) (sets (kept_number x.kind bits number mine)) m)))

-- `set_whole`
pub steps_of_whole : (r : Result (Unit {0}) SetError) (rows : List Var) (var number : ℕ) (z : ℤ) (before : List ℕ) (old new : List LineWrite) → number ≡ number_of_whole z → IfSome (slice_get rows var) (λ row. IsInRangeOf row.kind z) → OnOk r (SetsWell rows var number before old new) →
    OnOk r (IsBytes (logical_of Param before) → IfSome (slice_get rows var) (λ row. SetsRow rows var row (number_of_whole z) before (drop (length old) new)))
steps_of_whole r rows var number z before old new is range well = on_ok r _ _ well (λ fine w low.
    if_some (slice_get rows var) _ _ (w low) (λ row at sets.
    let kept : IsKept row.kind number = subst (IsKept row.kind) (sym is) (kept_whole row.kind z (is_some (slice_get rows var) _ row at range)) in
    subst (λ (n : ℕ). SetsRow rows var row n before (drop (length old) new)) is (sets kept)))

pub value_of_whole : (r : Result (Unit {0}) SetError) (rows : List Var) (var number : ℕ) (z : ℤ) (current before : List ℕ) (old new : List LineWrite) → number ≡ number_of_whole z → IfSome (slice_get rows var) (λ row. IsInRangeOf row.kind z) → before ≡ after current old →
    OnOk r (IfSome (slice_get rows var) (λ x. new ≡ old ++ writes_of before (set_pieces rows (records_of (logical_of Param before)) x number))) → OnOk r (SetsWell rows var number before old new) →
    OnOk r (IsBytes (logical_of Param before) → HasMagic before → IfSome (slice_get rows var) (λ row. params_of (after current new) row ≡ Whole z))
value_of_whole r rows var number z current before old new is range start ok well = on_ok r _ _ (both_ok r _ _ ok well) (λ fine w low m.
    if_some (slice_get rows var) _ _ (w.1 low) (λ row at sets.
    let fits = is_some (slice_get rows var) _ row at range in
    let kept : IsKept row.kind number = subst (IsKept row.kind) (sym is) (kept_whole row.kind z fits) in
    value_after rows var number row current before old new start (is_some (slice_get rows var) _ row at w.0) (sets kept) m ∙ ap (value_of_number row.kind) is ∙ whole_value row.kind z fits))

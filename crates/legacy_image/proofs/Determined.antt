-- An input has one list of storage bytes or one refusal, and never both.
use Rattle.std.proofs.Common.{◌≡◌, ◌≢◌, inl, inr, ℕ, Bool, true, false, List, refl, sym, ◌∙◌, ap, subst}
use Rattle.std.specs.Prelude.{All, IsTrue, Option, Some, None, Ok, Err, Result}
use Rattle.std.proofs.lemmas.List.Elements.{All-nil, All-append}
use Rattle.flash_traits.specs.declared.board.Mark.{Mark}
use Rattle.flash_traits.specs.declared.board.Mark.TheVariants.{Available, InUse, Full}
use Rattle.flash_traits.specs.Values.{IsValueUpTo}
use Rattle.flash_traits.proofs.ValueLemmas.{one_value_up_to}
use Rattle.sector_log.specs.Entries.{Entry}
use Rattle.sector_log.specs.Bytes.{written_lines}
use Rattle.legacy_image.specs.declared.numbers.TheConstants.{LEGACY_BYTES}
use Rattle.legacy_image.specs.declared.reading.LegacyError.{LegacyError}
use Rattle.legacy_image.specs.declared.reading.LegacyError.TheVariants as errors
use Rattle.legacy_image.specs.Sizes.{sector_0, sector_1}
use Rattle.legacy_image.specs.Heads.{head_in, is_pair, is_full}
use Rattle.legacy_image.specs.Logs.{IsLegacyEntry, HasEntries, HasFailure}
use Rattle.legacy_image.specs.Legacy.{HasHeads, in_order, IsLegacy, BadHead, FailsInOrder, FailsByOrder, BadEntry, IsRefusedBy}
use Rattle.legacy_image.proofs.LegacyEntries.{one_log, no_failure, one_failure}

-- the entries of a sector are those of a legacy image
pub each_legacy : (h : Option Mark) (words : List ℕ) (es : List Entry) → HasEntries h words es → All IsLegacyEntry es
each_legacy None words es p = subst (λ l. All IsLegacyEntry l) (sym p) (All-nil IsLegacyEntry)
each_legacy (Some Available) words es p = subst (λ l. All IsLegacyEntry l) (sym p) (All-nil IsLegacyEntry)
each_legacy (Some InUse) words es p = p.each
each_legacy (Some Full) words es p = p.each

pub each_in_order : (b : Option Mark) (es fs : List Entry) → All IsLegacyEntry es → All IsLegacyEntry fs → All IsLegacyEntry (in_order b es fs)
each_in_order None es fs p q = All-append IsLegacyEntry es fs p q
each_in_order (Some Available) es fs p q = All-append IsLegacyEntry es fs p q
each_in_order (Some InUse) es fs p q = All-append IsLegacyEntry es fs p q
each_in_order (Some Full) es fs p q = All-append IsLegacyEntry fs es q p

one_entries : (h : Option Mark) (words : List ℕ) (es fs : List Entry) → HasEntries h words es → HasEntries h words fs → es ≡ fs
one_entries None words es fs p q = p ∙ sym q
one_entries (Some Available) words es fs p q = p ∙ sym q
one_entries (Some InUse) words es fs p q = one_log words es fs p q
one_entries (Some Full) words es fs p q = one_log words es fs p q

no_both : (h : Option Mark) (words : List ℕ) (es : List Entry) (place word : ℕ) → HasEntries h words es → HasFailure h words place word → ⊥
no_both None words es place word p f = f
no_both (Some Available) words es place word p f = f
no_both (Some InUse) words es place word p f = no_failure words es place word p f
no_both (Some Full) words es place word p f = no_failure words es place word p f

one_fails : (h : Option Mark) (words : List ℕ) (p q v w : ℕ) → HasFailure h words p v → HasFailure h words q w → (p ≡ q) × (v ≡ w)
one_fails None words p q v w f g = absurd f
one_fails (Some Available) words p q v w f g = absurd f
one_fails (Some InUse) words p q v w f g = one_failure words p q v w f g
one_fails (Some Full) words p q v w f g = one_failure words p q v w f g

one_ok : (r : Result (Option Mark) ℕ) (a b : Option Mark) → r ≡ Ok a → r ≡ Ok b → a ≡ b
one_ok r a b p q = cc

one_err : (r : Result (Option Mark) ℕ) (v w : ℕ) → r ≡ Err v → r ≡ Err w → v ≡ w
one_err r v w p q = cc

ok_err : (r : Result (Option Mark) ℕ) (a : Option Mark) (w : ℕ) → r ≡ Ok a → r ≡ Err w → ⊥
ok_err r a w p q = cc

one_heads : (input : List ℕ) (a b c d : Option Mark) → HasHeads input a b → HasHeads input c d → (a ≡ c) × (b ≡ d)
one_heads input a b c d p q = (one_ok (head_in (sector_0 input)) a c p.first q.first, one_ok (head_in (sector_1 input)) b d p.second q.second)

true_false : (x : Bool) → IsTrue x → x ≡ false → ⊥
true_false true p e = cc
true_false false p e = cc

-- the bytes of an input
pub one_bytes : (input x y : List ℕ) → IsLegacy input x → IsLegacy input y → x ≡ y
one_bytes input x y p q =
    let same = one_heads input p.a p.b q.a q.b p.heads q.heads in
    let log_0 : HasEntries q.a (sector_0 input) p.entries_0 = subst (λ h. HasEntries h (sector_0 input) p.entries_0) same.0 p.log_0 in
    let log_1 : HasEntries q.b (sector_1 input) p.entries_1 = subst (λ h. HasEntries h (sector_1 input) p.entries_1) same.1 p.log_1 in
    let es : p.entries_0 ≡ q.entries_0 = one_entries q.a (sector_0 input) p.entries_0 q.entries_0 log_0 q.log_0 in
    let fs : p.entries_1 ≡ q.entries_1 = one_entries q.b (sector_1 input) p.entries_1 q.entries_1 log_1 q.log_1 in
    let order : in_order p.b p.entries_0 p.entries_1 ≡ in_order q.b q.entries_0 q.entries_1 =
    ap (λ (h : Option Mark). in_order h p.entries_0 p.entries_1) same.1 ∙ ap (λ (l : List Entry). in_order q.b l p.entries_1) es ∙ ap (λ (l : List Entry). in_order q.b q.entries_0 l) fs in
    let value : IsValueUpTo LEGACY_BYTES (written_lines (in_order q.b q.entries_0 q.entries_1)) x = subst (λ l. IsValueUpTo LEGACY_BYTES (written_lines l) x) order p.value in
    one_value_up_to LEGACY_BYTES (written_lines (in_order q.b q.entries_0 q.entries_1)) x y value q.value

-- heads that may stand side by side aren't bad
no_bad_head : (input : List ℕ) (a b : Option Mark) (sector word : ℕ) → HasHeads input a b → BadHead input sector word → ⊥
no_bad_head input a b sector word p (inl x) = ok_err (head_in (sector_0 input)) a word p.first x.1
no_bad_head input a b sector word p (inr (inl x)) = ok_err (head_in (sector_1 input)) b word p.second x.3
no_bad_head input a b sector word p (inr (inr x)) =
    let c = x.0 in
    let d = x.1 in
    let same_a : c ≡ a = one_ok (head_in (sector_0 input)) c a x.3 p.first in
    let same_b : d ≡ b = one_ok (head_in (sector_1 input)) d b x.4 p.second in
    true_false (is_pair a b) p.pair (sym (ap (λ (h : Option Mark). is_pair h d) same_a ∙ ap (λ (h : Option Mark). is_pair a h) same_b) ∙ x.5)

one_bad_head : (input : List ℕ) (s t v w : ℕ) → BadHead input s v → BadHead input t w → (s ≡ t) × (v ≡ w)
one_bad_head input s t v w (inl x) (inl y) = (x.0 ∙ sym y.0, one_err (head_in (sector_0 input)) v w x.1 y.1)
one_bad_head input s t v w (inl x) (inr (inl y)) = absurd (ok_err (head_in (sector_0 input)) y.0 v y.2 x.1)
one_bad_head input s t v w (inl x) (inr (inr y)) = absurd (ok_err (head_in (sector_0 input)) y.0 v y.3 x.1)
one_bad_head input s t v w (inr (inl x)) (inl y) = absurd (ok_err (head_in (sector_0 input)) x.0 w x.2 y.1)
one_bad_head input s t v w (inr (inl x)) (inr (inl y)) = (x.1 ∙ sym y.1, one_err (head_in (sector_1 input)) v w x.3 y.3)
one_bad_head input s t v w (inr (inl x)) (inr (inr y)) = absurd (ok_err (head_in (sector_1 input)) y.1 v y.4 x.3)
one_bad_head input s t v w (inr (inr x)) (inl y) = absurd (ok_err (head_in (sector_0 input)) x.0 w x.3 y.1)
one_bad_head input s t v w (inr (inr x)) (inr (inl y)) = absurd (ok_err (head_in (sector_1 input)) x.1 w x.4 y.3)
one_bad_head input s t v w (inr (inr x)) (inr (inr y)) = (x.2 ∙ sym y.2, x.6 ∙ sym y.6)

-- the first failing place of two sectors that are read one after the other
one_in_order : (m n : ℕ) (a b : Option Mark) (u w : List ℕ) (s t p q v x : ℕ) → FailsInOrder m a u n b w s p v → FailsInOrder m a u n b w t q x → (s ≡ t) × (p ≡ q) × (v ≡ x)
one_in_order m n a b u w s t p q v x (inl f) (inl g) = let r = one_fails a u p q v x f.1 g.1 in (f.0 ∙ sym g.0, r.0, r.1)
one_in_order m n a b u w s t p q v x (inl f) (inr g) = absurd (no_both a u g.1.0 p v g.1.1 f.1)
one_in_order m n a b u w s t p q v x (inr f) (inl g) = absurd (no_both a u f.1.0 q x f.1.1 g.1)
one_in_order m n a b u w s t p q v x (inr f) (inr g) = let r = one_fails b w p q v x f.2 g.2 in (f.0 ∙ sym g.0, r.0, r.1)

one_by_order : (full : Bool) (a b : Option Mark) (u w : List ℕ) (s t p q v x : ℕ) → FailsByOrder full a b u w s p v → FailsByOrder full a b u w t q x → (s ≡ t) × (p ≡ q) × (v ≡ x)
one_by_order true a b u w s t p q v x f g = one_in_order 1 0 b a w u s t p q v x f g
one_by_order false a b u w s t p q v x f g = one_in_order 0 1 a b u w s t p q v x f g

one_bad_entry : (input : List ℕ) (s t p q v w : ℕ) → BadEntry input s p v → BadEntry input t q w → (s ≡ t) × (p ≡ q) × (v ≡ w)
one_bad_entry input s t p q v w x y =
    let same = one_heads input x.a x.b y.a y.b x.heads y.heads in
    let moved : FailsByOrder (is_full y.b) y.a y.b (sector_0 input) (sector_1 input) s p v =
    subst (λ h. FailsByOrder (is_full y.b) h y.b (sector_0 input) (sector_1 input) s p v) same.0
    (subst (λ h. FailsByOrder (is_full h) x.a h (sector_0 input) (sector_1 input) s p v) same.1 x.fails) in
    one_by_order (is_full y.b) y.a y.b (sector_0 input) (sector_1 input) s t p q v w moved y.fails

no_in_order : (m n : ℕ) (a b : Option Mark) (u w : List ℕ) (es fs : List Entry) (s p v : ℕ) → HasEntries a u es → HasEntries b w fs → FailsInOrder m a u n b w s p v → ⊥
no_in_order m n a b u w es fs s p v x y (inl f) = no_both a u es p v x f.1
no_in_order m n a b u w es fs s p v x y (inr f) = no_both b w fs p v y f.2

no_by_order : (full : Bool) (a b : Option Mark) (u w : List ℕ) (es fs : List Entry) (s p v : ℕ) → HasEntries a u es → HasEntries b w fs → FailsByOrder full a b u w s p v → ⊥
no_by_order true a b u w es fs s p v x y f = no_in_order 1 0 b a w u fs es s p v y x f
no_by_order false a b u w es fs s p v x y f = no_in_order 0 1 a b u w es fs s p v x y f

-- a legacy image has no refusal
pub never_both : (input bytes : List ℕ) (e : LegacyError) → e ≢ errors.Memory → IsLegacy input bytes → IsRefusedBy input e → ⊥
never_both input bytes errors.Memory other p r = other refl
never_both input bytes (errors.Length len) other p r = r.bad p.heads.size
never_both input bytes (errors.Header sector word) other p r = no_bad_head input p.a p.b sector word p.heads r.1
never_both input bytes (errors.Entry sector offset word) other p r =
    let same = one_heads input p.a p.b r.a r.b p.heads r.heads in
    let log_0 : HasEntries r.a (sector_0 input) p.entries_0 = subst (λ h. HasEntries h (sector_0 input) p.entries_0) same.0 p.log_0 in
    let log_1 : HasEntries r.b (sector_1 input) p.entries_1 = subst (λ h. HasEntries h (sector_1 input) p.entries_1) same.1 p.log_1 in
    no_by_order (is_full r.b) r.a r.b (sector_0 input) (sector_1 input) p.entries_0 p.entries_1 sector offset word log_0 log_1 r.fails

pub one_refusal : (input : List ℕ) (d e : LegacyError) → d ≢ errors.Memory → e ≢ errors.Memory → IsRefusedBy input d → IsRefusedBy input e → d ≡ e
one_refusal input errors.Memory e x y p q = absurd (x refl)
one_refusal input (errors.Length m) errors.Memory x y p q = absurd (y refl)
one_refusal input (errors.Length m) (errors.Length n) x y p q = ap (λ (k : ℕ). errors.Length k) (p.shown ∙ sym q.shown)
one_refusal input (errors.Length m) (errors.Header t w) x y p q = absurd (p.bad q.0)
one_refusal input (errors.Length m) (errors.Entry t o w) x y p q = absurd (p.bad q.heads.size)
one_refusal input (errors.Header s v) errors.Memory x y p q = absurd (y refl)
one_refusal input (errors.Header s v) (errors.Length n) x y p q = absurd (q.bad p.0)
one_refusal input (errors.Header s v) (errors.Header t w) x y p q =
    let r = one_bad_head input s t v w p.1 q.1 in
    ap (λ (k : ℕ). errors.Header k v) r.0 ∙ ap (λ (k : ℕ). errors.Header t k) r.1
one_refusal input (errors.Header s v) (errors.Entry t o w) x y p q = absurd (no_bad_head input q.a q.b s v q.heads p.1)
one_refusal input (errors.Entry s i v) errors.Memory x y p q = absurd (y refl)
one_refusal input (errors.Entry s i v) (errors.Length n) x y p q = absurd (q.bad p.heads.size)
one_refusal input (errors.Entry s i v) (errors.Header t w) x y p q = absurd (no_bad_head input p.a p.b t w p.heads q.1)
one_refusal input (errors.Entry s i v) (errors.Entry t o w) x y p q =
    let r = one_bad_entry input s t i o v w p q in
    ap (λ (k : ℕ). errors.Entry k i v) r.0 ∙ ap (λ (k : ℕ). errors.Entry t k v) r.1 ∙ ap (λ (k : ℕ). errors.Entry t o k) r.2

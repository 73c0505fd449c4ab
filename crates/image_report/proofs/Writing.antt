-- Texts that are written one after the other.
use Rattle.std.proofs.Common.{◌≡◌, ◌≤◌, inl, inr, ℕ, ◌+◌, List, ◌++◌, [], take, length, sym, ◌∙◌, ap, subst, arith, append_assoc, refl}
use Rattle.std.specs.Prelude.{Result, Ok, Err, IsErrAnd, MatchResult}
use Rattle.std.proofs.lemmas.List.{take_all, take-append-le, append-nil}
use Rattle.std.proofs.lemmas.Bool.{cases_lt}
use Rattle.std.proofs.Math.Seq.{take-append_seam, take-append-add}
use Rattle.flash_traits.specs.declared.stream.Sink.{Ghosts}
use Rattle.flash_traits.specs.Counts.{raised}
use Rattle.flash_traits.specs.Causes.{HasOneCause}
use Rattle.image_report.specs.Writes.{WritesPrefix}
use Rattle.image_report.specs.Steps.Writes.{Writes}

-- a prefix of a text is one of a longer text
pub longer : (count : ℕ) (a b : List ℕ) → (n : ℕ) × (take n (a ++ b) ≡ take count a)
longer count a b = elim (cases_lt count (length a)) [
  | inl within ↦ (count, take-append-le count a b (omega arith))
  | inr after ↦ (length a, take-append_seam a b ∙ sym (take_all count a (omega arith)))
]

caused_later : {T E : Type 0} (a b c : ℕ) (r : Result T E) → b ≡ a → HasOneCause b c r → HasOneCause a c r
caused_later a b c r same cause = subst (λ (n : ℕ). HasOneCause n c r) same cause

caused_still : {T E : Type 0} (a b : ℕ) (r : Result T E) (P : E → Type 0) → IsErrAnd r P → b ≡ raised a → HasOneCause a b r
caused_still a b (Ok x) P failed cause = absurd failed
caused_still a b (Err e) P failed cause = cause

module _ {K : Type 0} (g : Ghosts K) where
  wrote_then : {T E : Type 0} (old mid new : List ℕ) (a b : List ℕ) (r : Result T E) → mid ≡ old ++ a
      → MatchResult r (λ _. new ≡ mid ++ b) (λ _. (count : ℕ) × (new ≡ mid ++ take count b))
      → MatchResult r (λ _. new ≡ old ++ (a ++ b)) (λ _. (count : ℕ) × (new ≡ old ++ take count (a ++ b)))
  wrote_then old mid new a b (Ok x) first second = second ∙ ap (λ (l : List ℕ). l ++ b) first ∙ append_assoc old a b
  wrote_then old mid new a b (Err e) first second = (
    length a + second.0,
    second.1 ∙ ap (λ (l : List ℕ). l ++ take second.0 b) first ∙ append_assoc old a (take second.0 b) ∙ ap (λ (l : List ℕ). old ++ l) (sym (take-append-add a b second.0)),
  )

  -- a whole text, and then another one
  pub writes_then : {S F T E : Type 0} (old mid new : K) (x : S) (r : Result T E) (a b : List ℕ) → Writes {T = S} {E = F} g old mid (Ok x) a → Writes g mid new r b → Writes g old new r (a ++ b)
  writes_then old mid new x r a b first second = record {
    told = λ told. first.told (second.told told);
    written = λ told. wrote_then (g.written old) (g.written mid) (g.written new) a b r (first.written (second.told told)) (second.written told);
    cause = caused_later (g.faults old) (g.faults mid) (g.faults new) r first.cause second.cause;
  }

  cut : {T E : Type 0} (old new a b : List ℕ) (r : Result T E) (count : ℕ) → IsErrAnd r (λ _. Unit {0}) → new ≡ old ++ take count a
      → MatchResult r (λ _. new ≡ old ++ (a ++ b)) (λ _. (n : ℕ) × (new ≡ old ++ take n (a ++ b)))
  cut old new a b (Ok x) count failed is = absurd failed
  cut old new a b (Err e) count failed is = let more = longer count a b in (more.0, is ∙ ap (λ (l : List ℕ). old ++ l) (sym more.1))

  failed_at : {T E : Type 0} (r : Result T E) (P : E → Type 0) → IsErrAnd r P → IsErrAnd r (λ _. Unit {0})
  failed_at (Ok x) P f = f
  failed_at (Err e) P f = tt

  -- a text that is cut off in front of another one
  pub writes_cut : {S F T E : Type 0} (old new : K) (e : F) (r : Result T E) (P : E → Type 0) (a b : List ℕ) → IsErrAnd r P → Writes {T = S} {E = F} g old new (Err e) a → Writes g old new r (a ++ b)
  writes_cut old new e r P a b failed part = record {
    told = part.told;
    written = λ told. cut (g.written old) (g.written new) a b r (part.written told).0 (failed_at r P failed) (part.written told).1;
    cause = caused_still (g.faults old) (g.faults new) r P failed part.cause;
  }

  -- the same text, said otherwise
  pub retext : {T E : Type 0} (old new : K) (r : Result T E) (a b : List ℕ) → a ≡ b → Writes g old new r a → Writes g old new r b
  retext old new r a b same part = subst (λ (text : List ℕ). Writes g old new r text) same part

  -- nothing is written
  pub writes_none : {S F : Type 0} (k : K) (x : S) → Writes {T = S} {E = F} g k k (Ok x) []
  writes_none k x = record { told = λ told. told; written = λ told. sym (append-nil (g.written k)); cause = refl }

-- of the one text, a whole or a prefix was written
pub part_of_one : {T E : Type 0} (IsText : List ℕ → Type 0) (r : Result T E) (old new text : List ℕ) → ((a b : List ℕ) → IsText a → IsText b → a ≡ b) → IsText text
    → MatchResult r (λ _. new ≡ old ++ text) (λ _. (count : ℕ) × (new ≡ old ++ take count text)) → WritesPrefix IsText old new
part_of_one IsText (Ok x) old new text one is written = λ other is_other. (length text, written ∙ ap (λ (l : List ℕ). old ++ l) (one text other is is_other ∙ sym (take_all (length text) other (omega (arith, ap length (one text other is is_other))))))
part_of_one IsText (Err e) old new text one is written = λ other is_other. (written.0, written.1 ∙ ap (λ (l : List ℕ). old ++ take written.0 l) (one text other is is_other))

-- nothing was written
pub part_of_none : (IsText : List ℕ → Type 0) (old new : List ℕ) → new ≡ old → WritesPrefix IsText old new
part_of_none IsText old new same = λ text is. (0, same ∙ sym (append-nil old))

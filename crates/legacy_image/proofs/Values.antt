-- Entries of a legacy image, applied one after the other to zeros, give its storage bytes.
use Rattle.std.proofs.Common.{◌≡◌, ◌≢◌, inl, inr, ℕ, ◌+◌, ◌*◌, ◌≤◌, Bool, true, false, List, [], ◌∷◌, length, get_or, refl, sym, ◌∙◌, ap, subst, arith, eq-eqb}
use Rattle.std.specs.Prelude.{All, if◌then◌else◌, ◌==◌}
use Rattle.std.specs.List.{fold}
use Rattle.std.proofs.lemmas.List.Sums.{fold-append}
use Rattle.std.proofs.lemmas.List.Elements.{All-head, All-tail, All-get_or, All-nil, All-append}
use Rattle.std.proofs.lemmas.Bool.{cases_eq}
use Rattle.std.proofs.lemmas.Bool.Decides.{nat_tests}
use Rattle.sector_log.specs.Entries.{Entry}
use Rattle.sector_log.specs.Bytes.{apply, applied, lines_from, lines_in, written_lines}
use Rattle.sector_log.proofs.ValueLemmas.{from_lines, put_content}
use Rattle.flash_traits.specs.Values.{put, IsValueUpTo, byte_written}
use Rattle.flash_traits.specs.Words.{bytes_of}
use Rattle.flash_traits.proofs.ValueLemmas.{length_bytes, length_put, put_line, IsLine, lines_byte}
use Rattle.legacy_image.specs.declared.numbers.TheConstants.{LEGACY_BYTES}
use Rattle.legacy_image.specs.Logs.{IsLegacyEntry}

not_zero : (n : ℕ) → n ≢ 0 → (n == 0) ≡ false
not_zero n h = grind (arith, nat_tests)

pub length_apply : (bytes : List ℕ) (e : Entry) → IsLegacyEntry e → length bytes ≡ LEGACY_BYTES → length (apply bytes e) ≡ LEGACY_BYTES
length_apply bytes e p size =
    elim (cases_eq e.header.state 0) [
      | inl valid ↦ ap (λ (b : Bool). length (if b then put (8 * e.header.line) (bytes_of e.content) bytes else bytes)) (eq-eqb e.header.state 0 valid)
          ∙ length_put (8 * e.header.line) (bytes_of e.content) bytes (omega (arith, length_bytes e.content, p.entry.whole, p.inside, size)) ∙ size
      | inr torn ↦ ap (λ (b : Bool). length (if b then put (8 * e.header.line) (bytes_of e.content) bytes else bytes)) (not_zero e.header.state torn) ∙ size
    ]

-- the lines of an entry are those of the storage, and it is applied by putting them
abbrev AppliesLines : Entry → List ℕ → Bool → Type 0
AppliesLines e bytes b = All (IsLine (length bytes)) (if b then lines_from e.header.line e.content else [])
    × ((if b then put (8 * e.header.line) (bytes_of e.content) bytes else bytes) ≡ fold put_line bytes (if b then lines_from e.header.line e.content else []))

entry_lines : (e : Entry) (bytes : List ℕ) → IsLegacyEntry e → length bytes ≡ LEGACY_BYTES → All (IsLine (length bytes)) (lines_in e) × (apply bytes e ≡ fold put_line bytes (lines_in e))
entry_lines e bytes p size =
    let fits : 8 * (e.header.line + e.header.lines) ≤ length bytes = omega (arith, p.inside, size) in
    elim (cases_eq e.header.state 0) [
      | inl valid ↦ by_test true (eq-eqb e.header.state 0 valid) (from_lines e.header.lines e.header.line e.content (length bytes) p.entry.whole fits, put_content e.header.lines e.header.line e.content bytes p.entry.whole fits)
      | inr torn ↦ by_test false (not_zero e.header.state torn) (All-nil (IsLine (length bytes)), refl)
    ]
  where
    by_test : (b : Bool) → (e.header.state == 0) ≡ b → AppliesLines e bytes b → AppliesLines e bytes (e.header.state == 0)
    by_test b is h = subst (AppliesLines e bytes) (sym is) h

all_lines : (es : List Entry) (bytes : List ℕ) → All IsLegacyEntry es → length bytes ≡ LEGACY_BYTES → All (IsLine (length bytes)) (written_lines es) × (applied bytes es ≡ fold put_line bytes (written_lines es))
all_lines [] bytes p size = (All-nil (IsLine (length bytes)), refl)
all_lines (e ∷ es) bytes p size =
    let first = entry_lines e bytes (All-head IsLegacyEntry e es p) size in
    let after = length_apply bytes e (All-head IsLegacyEntry e es p) size in
    let others = all_lines es (apply bytes e) (All-tail IsLegacyEntry e es p) after in (
      All-append (IsLine (length bytes)) (lines_in e) (written_lines es) first.0 (subst (λ (n : ℕ). All (IsLine n) (written_lines es)) (after ∙ sym size) others.0),
      others.1 ∙ ap (λ (b : List ℕ). fold put_line b (written_lines es)) first.1 ∙ sym (fold-append put_line bytes (lines_in e) (written_lines es)),
    )

pub length_applied : (es : List Entry) (bytes : List ℕ) → All IsLegacyEntry es → length bytes ≡ LEGACY_BYTES → length (applied bytes es) ≡ LEGACY_BYTES
length_applied [] bytes p size = size
length_applied (e ∷ es) bytes p size = length_applied es (apply bytes e) (All-tail IsLegacyEntry e es p) (length_apply bytes e (All-head IsLegacyEntry e es p) size)

-- over zeros, that is the value of the entries
pub value_applied : (es : List Entry) (zeros : List ℕ) → All IsLegacyEntry es → length zeros ≡ LEGACY_BYTES → All (λ b. b ≡ 0) zeros → IsValueUpTo LEGACY_BYTES (written_lines es) (applied zeros es)
value_applied es zeros p size all = record {
  size = length_applied es zeros p size;
  each = λ k below. let lines = all_lines es zeros p size in
      ap (λ (l : List ℕ). get_or l k 0) lines.1 ∙ lines_byte (written_lines es) zeros k lines.0
      ∙ ap (λ (d : ℕ). byte_written (written_lines es) d k) (All-get_or (λ (b : ℕ). b ≡ 0) zeros k 0 (omega (arith, below, size)) all);
}

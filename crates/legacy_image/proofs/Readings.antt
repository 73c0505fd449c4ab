-- Each input is a legacy image of some storage bytes, or is refused.
use Rattle.std.proofs.Common.{◌≡◌, ◌≢◌, ◌⊎◌, inl, inr, ℕ, zero, suc, ◌+◌, ◌*◌, ◌≤◌, Bool, true, false, List, [], ◌∷◌, ◌++◌, length, min, drop, replicate, get_or, refl, sym, ◌∙◌, ap, arith, append_assoc}
use Rattle.std.specs.Prelude.{All, IsTrue, Option, Some, None, Ok, Err, Result}
use Rattle.std.proofs.lemmas.List.{length-append, length-replicate}
use Rattle.std.proofs.lemmas.List.Elements.{All-nil, All-cons, All-replicate}
use Rattle.std.proofs.lemmas.Bool.{cases_eq, cases_lt}
use Rattle.flash_traits.specs.declared.board.Mark.{Mark}
use Rattle.flash_traits.specs.declared.board.Mark.TheVariants.{Available, InUse, Full}
use Rattle.sector_log.specs.Entries.{Entry, entry_words, words_of_entries}
use Rattle.sector_log.specs.Bytes.{applied}
use Rattle.sector_log.proofs.EntryLemmas.{same_entry}
use Rattle.sector_log.proofs.SectorLemmas.{entry_or_not, erased_or_other}
use Rattle.legacy_image.specs.declared.numbers.TheConstants.{LEGACY_BYTES, LEGACY_LINES, MOST_INPUT}
use Rattle.legacy_image.specs.declared.reading.LegacyError.TheVariants as errors
use Rattle.legacy_image.specs.Sizes.{IsLegacySectorSize, IsLegacyLength, sector_0, sector_1}
use Rattle.legacy_image.specs.Heads.{head_in, is_pair, is_full}
use Rattle.legacy_image.specs.Logs.{IsLegacyEntry, NoLegacyEntry, IsLog, FailsAt, HasEntries, HasFailure}
use Rattle.legacy_image.specs.Legacy.{HasHeads, in_order, FailsInOrder, FailsByOrder}
use Rattle.legacy_image.specs.Laws.{IsSomeLegacy, IsRefused}
use Rattle.legacy_image.proofs.LegacyEntries.{no_entry_nil}
use Rattle.legacy_image.proofs.Determined.{each_legacy, each_in_order}
use Rattle.legacy_image.proofs.Values.{value_applied}

-- a legacy image's entry begins these halfwords, or none does
legacy_or_not : (words : List ℕ) → ((e : Entry) × (more : List ℕ) × IsLegacyEntry e × (words ≡ entry_words e ++ more)) ⊎ NoLegacyEntry words
legacy_or_not words = elim (entry_or_not words) [
  | inr none ↦ inr (λ e more p same. none e more p.entry same)
  | inl found ↦ elim (cases_lt LEGACY_LINES (found.0.header.line + found.0.header.lines)) [
    | inr inside ↦ inl (found.0, found.1, record { entry = found.2; inside = inside }, found.3)
    | inl outside ↦ inr (λ e more p same.
        let one : e ≡ found.0 = (same_entry e found.0 more found.1 p.entry found.2 (sym same ∙ found.3)).0 in
        let line : e.header.line ≡ found.0.header.line = ap (λ (x : Entry). x.header.line) one in
        let lines : e.header.lines ≡ found.0.header.lines = ap (λ (x : Entry). x.header.lines) one in
        omega (arith, p.inside, outside, line, lines))
  ]
]

record Split (words : List ℕ) : Type 0 where
  entries : List Entry
  rest : List ℕ
  whole : words ≡ words_of_entries entries ++ rest
  each : All IsLegacyEntry entries
  last : NoLegacyEntry rest

split_within : (n : ℕ) (words : List ℕ) → length words ≤ n → Split words
split_within zero [] le = record { entries = []; rest = []; whole = refl; each = All-nil IsLegacyEntry; last = no_entry_nil }
split_within zero (w ∷ words) le = absurd (omega arith)
split_within (suc n) words le = elim (legacy_or_not words) [
  | inl found ↦
      let e = found.0 in
      let size : length words ≡ length (entry_words e) + length found.1 = ap length found.3 ∙ length-append (entry_words e) found.1 in
      let others = split_within n found.1 (omega arith) in
      record {
        entries = e ∷ others.entries;
        rest = others.rest;
        whole = found.3 ∙ ap (λ (l : List ℕ). entry_words e ++ l) others.whole ∙ sym (append_assoc (entry_words e) (words_of_entries others.entries) others.rest);
        each = All-cons IsLegacyEntry e others.entries found.2 others.each;
        last = others.last;
      }
  | inr none ↦ record { entries = []; rest = words; whole = refl; each = All-nil IsLegacyEntry; last = none }
]

-- a log has entries or a first failing place
log_or_failure : (words : List ℕ) → ((es : List Entry) × IsLog words es) ⊎ ((place : ℕ) × (word : ℕ) × FailsAt words place word)
log_or_failure words =
    let split = split_within (length (drop 2 words)) (drop 2 words) (omega arith) in
    elim (erased_or_other split.rest) [
      | inl erased ↦ inl (split.entries, record { rest = split.rest; whole = split.whole; each = split.each; erased = erased })
      | inr found ↦ inr (
        2 + length (words_of_entries split.entries) + found.0,
        found.1,
        record { entries = split.entries; rest = split.rest; erased = found.0; whole = split.whole; each = split.each; last = split.last; other = found.2; at = refl },
      )
    ]

entries_or_failure : (h : Option Mark) (words : List ℕ) → ((es : List Entry) × HasEntries h words es) ⊎ ((place : ℕ) × (word : ℕ) × HasFailure h words place word)
entries_or_failure None words = inl ([], refl)
entries_or_failure (Some Available) words = inl ([], refl)
entries_or_failure (Some InUse) words = log_or_failure words
entries_or_failure (Some Full) words = log_or_failure words

-- the same of two sectors that are read one after the other
record Both (a b : Option Mark) (first second : List ℕ) : Type 0 where
  es : List Entry
  fs : List Entry
  p : HasEntries a first es
  q : HasEntries b second fs

both_or_failure : (m n : ℕ) (a b : Option Mark) (first second : List ℕ) → Both a b first second ⊎ ((s : ℕ) × (place : ℕ) × (word : ℕ) × FailsInOrder m a first n b second s place word)
both_or_failure m n a b first second = elim (entries_or_failure a first) [
  | inr bad ↦ inr (m, bad.0, bad.1, inl (refl, bad.2))
  | inl good ↦ elim (entries_or_failure b second) [
    | inr bad ↦ inr (n, bad.0, bad.1, inr (refl, good, bad.2))
    | inl other ↦ inl (record { es = good.0; fs = other.0; p = good.1; q = other.1 })
  ]
]

by_order : (full : Bool) (a b : Option Mark) (u w : List ℕ) → Both a b u w ⊎ ((s : ℕ) × (place : ℕ) × (word : ℕ) × FailsByOrder full a b u w s place word)
by_order true a b u w = elim (both_or_failure 1 0 b a w u) [
  | inl good ↦ inl (record { es = good.fs; fs = good.es; p = good.q; q = good.p })
  | inr bad ↦ inr bad
]
by_order false a b u w = both_or_failure 0 1 a b u w

-- sectors that may stand side by side
heads_cases : (input : List ℕ) (a b : Option Mark) → HasHeads input a b → IsSomeLegacy input ⊎ IsRefused input
heads_cases input a b heads = elim (by_order (is_full b) a b (sector_0 input) (sector_1 input)) [
  | inr bad ↦ inr (errors.Entry bad.0 bad.1 bad.2, λ same. cc, record { a = a; b = b; heads = heads; fails = bad.3 })
  | inl good ↦
      let zeros : List ℕ = replicate LEGACY_BYTES 0 in
      let es = in_order b good.es good.fs in
      inl (
        applied zeros es,
        record {
          a = a;
          b = b;
          heads = heads;
          entries_0 = good.es;
          entries_1 = good.fs;
          log_0 = good.p;
          log_1 = good.q;
          value = value_applied es zeros (each_in_order b good.es good.fs (each_legacy a (sector_0 input) good.es good.p) (each_legacy b (sector_1 input) good.fs good.q))
              (length-replicate {A = ℕ} LEGACY_BYTES 0) (All-replicate (λ (b : ℕ). b ≡ 0) LEGACY_BYTES 0 refl);
        },
      )
]

ok_or_err : (r : Result (Option Mark) ℕ) → ((a : Option Mark) × (r ≡ Ok a)) ⊎ ((w : ℕ) × (r ≡ Err w))
ok_or_err (Ok a) = inl (a, refl)
ok_or_err (Err w) = inr (w, refl)

pair_or_not : (x : Bool) → IsTrue x ⊎ (x ≡ false)
pair_or_not true = inl refl
pair_or_not false = inr refl

length_cases : (input : List ℕ) → IsLegacyLength (length input) → IsSomeLegacy input ⊎ IsRefused input
length_cases input size = elim (ok_or_err (head_in (sector_0 input))) [
  | inr bad ↦ inr (errors.Header 0 bad.0, λ same. cc, (size, inl (refl, bad.1)))
  | inl a ↦ elim (ok_or_err (head_in (sector_1 input))) [
    | inr bad ↦ inr (errors.Header 1 bad.0, λ same. cc, (size, inr (inl (a.0, refl, a.1, bad.1))))
    | inl b ↦ elim (pair_or_not (is_pair a.0 b.0)) [
      | inl pair ↦ heads_cases input a.0 b.0 (record { size = size; first = a.1; second = b.1; pair = pair })
      | inr bad ↦ inr (errors.Header 1 (get_or (sector_1 input) 0 0), λ same. cc, (size, inr (inr (a.0, b.0, refl, a.1, b.1, bad, refl))))
    ]
  ]
]

-- the four lengths
pub is_length : (n : ℕ) → (n ≡ 32768) ⊎ (n ≡ 65536) ⊎ (n ≡ 131072) ⊎ (n ≡ 262144) → IsLegacyLength n
is_length n (inl is) = (16384, inl refl, is)
is_length n (inr (inl is)) = (32768, inr (inl refl), is)
is_length n (inr (inr (inl is))) = (65536, inr (inr (inl refl)), is)
is_length n (inr (inr (inr is))) = (131072, inr (inr (inr refl)), is)

-- a length is one of the four, or none
length_or_not : (n : ℕ) → IsLegacyLength n ⊎ (¬ IsLegacyLength n)
length_or_not n = elim (cases_eq n 32768) [
  | inl is ↦ inl (is_length n (inl is))
  | inr a ↦ elim (cases_eq n 65536) [
    | inl is ↦ inl (is_length n (inr (inl is)))
    | inr b ↦ elim (cases_eq n 131072) [
      | inl is ↦ inl (is_length n (inr (inr (inl is))))
      | inr c ↦ elim (cases_eq n 262144) [
        | inl is ↦ inl (is_length n (inr (inr (inr is))))
        | inr d ↦ inr (λ l. none l.0 l.1 l.2 a b c d)
      ]
    ]
  ]
]
  where
    none : (s : ℕ) → IsLegacySectorSize s → n ≡ 2 * s → n ≢ 32768 → n ≢ 65536 → n ≢ 131072 → n ≢ 262144 → ⊥
    none s (inl is) two a b c d = a (omega (arith, is, two))
    none s (inr (inl is)) two a b c d = b (omega (arith, is, two))
    none s (inr (inr (inl is))) two a b c d = c (omega (arith, is, two))
    none s (inr (inr (inr is))) two a b c d = d (omega (arith, is, two))

pub legacy_or_refused : (input : List ℕ) → IsSomeLegacy input ⊎ IsRefused input
legacy_or_refused input = elim (length_or_not (length input)) [
  | inl size ↦ length_cases input size
  | inr bad ↦ inr (errors.Length (min (length input) (MOST_INPUT + 1)), λ same. cc, record { shown = refl; bad = bad })
]

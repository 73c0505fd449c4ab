-- Each text is one, and the words that have none.
use Rattle.std.proofs.Common.{◌≡◌, ◌≢◌, ◌≤◌, ◌⊎◌, inl, inr, ℕ, ◌*◌, List, length, refl, sym, ◌∙◌, ap, subst, arith, Option, Some, None}
use Rattle.std.specs.Prelude.{count_by, ◌==◌}
use Rattle.flash_traits.specs.Words.{Words, HasShape, IsSectorSize}
use Rattle.flash_traits.specs.declared.board.Region.{Region}
use Rattle.flash_traits.specs.declared.board.Region.TheVariants.{S0, S1, Guard}
use Rattle.flash_traits.specs.declared.board.Mark.{Mark}
use Rattle.guard_row.proofs.RowLaws as row
use Rattle.sector_log.specs.declared.log.Log.{Log}
use Rattle.sector_log.specs.Entries.{Entry}
use Rattle.sector_log.specs.Bytes.{IsValue}
use Rattle.sector_log.specs.Sector.{IsSector}
use Rattle.sector_log.specs.Log.{IsLogOf, end_of_entries, torn_of}
use Rattle.sector_log.proofs.SectorLemmas as sectors
use Rattle.sector_log.proofs.ValueLemmas as values
use Rattle.sector_image.specs.Stands.{Reading, Stands, entries_in, count_in, shape_of_reading}
use Rattle.sector_image.specs.declared.kept.Shape.{Shape}
use Rattle.sector_image.proofs.ImageLaws as image
use Rattle.sector_image.proofs.Regions.{big, half_of}
use Rattle.image_report.specs.declared.findings.GuardFound.{GuardFound}
use Rattle.image_report.specs.declared.findings.GuardFound.TheVariants as guard
use Rattle.image_report.specs.declared.findings.SectorFound.{SectorFound}
use Rattle.image_report.specs.declared.findings.SectorFound.TheVariants as found
use Rattle.image_report.specs.declared.findings.Findings.{Findings}
use Rattle.image_report.specs.Dumps.{IsDump, dump_text}
use Rattle.image_report.specs.Reports.{IsGuardFound, IsSectorFound, IsStateFound, IsFound, IsReport, report_text, void_in}

-- words have at most one dump
pub one_dump : (w : Words) (a b : List ℕ) → IsDump w a → IsDump w b → a ≡ b
one_dump w a b p q =
    let same : p.reading ≡ q.reading = image.one_reading w p.reading q.reading p.reads q.reads in
    let bytes : p.bytes ≡ q.bytes = values.one_value (entries_in p.reading) p.bytes q.bytes p.value (subst (λ (r : Reading). IsValue (entries_in r) q.bytes) (sym same) q.value) in
    p.is ∙ (ap (λ (r : Reading). dump_text (2 * length w.s0) (count_in r) (shape_of_reading r) p.bytes) same ∙ ap (dump_text (2 * length w.s0) (count_in q.reading) (shape_of_reading q.reading)) bytes) ∙ sym q.is

-- words with a dump stand for bytes
pub dump_stands : (w : Words) (text : List ℕ) → IsDump w text → (bytes : List ℕ) × Stands w bytes
dump_stands w text p = (p.bytes, (p.reading, p.reads, p.value))

-- words that stand for bytes have a dump
pub dump_of : (w : Words) (bytes : List ℕ) → Stands w bytes → (text : List ℕ) × IsDump w text
dump_of w bytes s = (dump_text (2 * length w.s0) (count_in s.0) (shape_of_reading s.0) bytes, record { reading = s.0; bytes = bytes; reads = s.1; value = s.2; is = refl })

one_guard : (words : List ℕ) (f h : GuardFound) → IsGuardFound words f → IsGuardFound words h → f ≡ h
one_guard words (guard.Count c) (guard.Count d) p q = ap guard.Count (row.one_count words c d p q)
one_guard words (guard.Count c) (guard.Foreign at word) p q = absurd (row.never_both words c at word p q)
one_guard words (guard.Foreign at word) (guard.Count c) p q = absurd (row.never_both words c at word q p)
one_guard words (guard.Foreign at word) (guard.Foreign place other) p q = let same = row.one_place words at place word other p q in ap (λ (n : ℕ). guard.Foreign n word) same.0 ∙ ap (guard.Foreign place) same.1

one_log : (region : Region) (words : List ℕ) (a b : Log) (es fs : List Entry) → IsSector words a.mark es → IsSector words b.mark fs → IsLogOf a region a.mark es → IsLogOf b region b.mark fs → a ≡ b
one_log region words a b es fs x y p q =
    let same = sectors.one_sector words a.mark b.mark es fs x y in
    let same_region : a.region ≡ b.region = p.region ∙ sym q.region in
    let same_end : a.end ≡ b.end = p.end ∙ ap end_of_entries same.1 ∙ sym q.end in
    let same_torn : a.torn ≡ b.torn = p.torn ∙ ap torn_of same.1 ∙ sym q.torn in
    let same_valid : a.valid ≡ b.valid = p.valid ∙ ap (count_by (λ e. e.header.state == 0)) same.1 ∙ sym q.valid in
    let same_gaps : a.gaps ≡ b.gaps = p.gaps ∙ ap (count_by (λ e. e.header.state == 1)) same.1 ∙ sym q.gaps in
    λ i. record { region = same_region i; mark = same.0 i; end = same_end i; torn = same_torn i; valid = same_valid i; gaps = same_gaps i }

one_sector : (void : Option Region) (region : Region) (words : List ℕ) (f h : SectorFound) → IsSectorFound void region words f → IsSectorFound void region words h → f ≡ h
one_sector void region words found.Void found.Void p q = refl
one_sector void region words found.Void (found.Log b) p q = absurd (q.0 p)
one_sector void region words found.Void (found.Foreign place other) p q = absurd (q.0 p)
one_sector void region words (found.Log a) found.Void p q = absurd (p.0 q)
one_sector void region words (found.Log a) (found.Log b) p q = ap found.Log (one_log region words a b p.1.0 q.1.0 p.1.1 q.1.1 p.1.2 q.1.2)
one_sector void region words (found.Log a) (found.Foreign place other) p q = absurd (sectors.never_both words a.mark p.1.0 place other p.1.1 q.1)
one_sector void region words (found.Foreign at word) found.Void p q = absurd (p.0 q)
one_sector void region words (found.Foreign at word) (found.Log b) p q = absurd (sectors.never_both words b.mark q.1.0 at word q.1.1 p.1)
one_sector void region words (found.Foreign at word) (found.Foreign place other) p q = let same = sectors.one_place words at place word other p.1 q.1 in ap (λ (n : ℕ). found.Foreign n word) same.0 ∙ ap (found.Foreign place) same.1

one_state : (w : Words) (f h : Option Shape) → IsStateFound w f → IsStateFound w h → f ≡ h
one_state w None None p q = refl
one_state w None (Some b) p q = absurd (p q.0 q.1)
one_state w (Some a) None p q = absurd (q p.0 p.1)
one_state w (Some a) (Some b) p q = ap Some (sym p.2 ∙ (ap shape_of_reading (image.one_reading w p.0 q.0 p.1 q.1) ∙ q.2))

one_found : (w : Words) (f h : Findings) → IsFound w f → IsFound w h → f ≡ h
one_found w f h p q =
    let same_guard : f.guard ≡ h.guard = one_guard w.guard f.guard h.guard p.guard q.guard in
    let same_s0 : f.s0 ≡ h.s0 = one_sector (void_in f.guard) S0 w.s0 f.s0 h.s0 p.s0 (subst (λ (g : GuardFound). IsSectorFound (void_in g) S0 w.s0 h.s0) (sym same_guard) q.s0) in
    let same_s1 : f.s1 ≡ h.s1 = one_sector (void_in f.guard) S1 w.s1 f.s1 h.s1 p.s1 (subst (λ (g : GuardFound). IsSectorFound (void_in g) S1 w.s1 h.s1) (sym same_guard) q.s1) in
    let same_state : f.state ≡ h.state = one_state w f.state h.state p.state q.state in
    λ i. record { guard = same_guard i; s0 = same_s0 i; s1 = same_s1 i; state = same_state i }

-- words have at most one report
pub one_report : (w : Words) (a b : List ℕ) → IsReport w a → IsReport w b → a ≡ b
one_report w a b p q = p.is ∙ (ap (report_text (2 * length w.s0)) (one_found w p.findings q.findings p.found q.found) ∙ sym q.is)

guard_of : (words : List ℕ) → (f : GuardFound) × IsGuardFound words f
guard_of words = elim (row.row_cases words) [
  | inl p ↦ (guard.Count p.0, p.1)
  | inr p ↦ (guard.Foreign p.0 p.1, p.2)
]

same_or : (r q : Region) → (r ≡ q) ⊎ (r ≢ q)
same_or S0 S0 = inl refl
same_or S0 S1 = inr (λ e. cc)
same_or S0 Guard = inr (λ e. cc)
same_or S1 S0 = inr (λ e. cc)
same_or S1 S1 = inl refl
same_or S1 Guard = inr (λ e. cc)
same_or Guard S0 = inr (λ e. cc)
same_or Guard S1 = inr (λ e. cc)
same_or Guard Guard = inl refl

void_or : (void : Option Region) (r : Region) → (void ≡ Some r) ⊎ (void ≢ Some r)
void_or None r = inr (λ e. cc)
void_or (Some q) r = elim (same_or q r) [ inl e ↦ inl (ap Some e) | inr n ↦ inr (λ e. n (cc)) ]

log_of : Region → Mark → List Entry → Log
log_of region mark es = record { region = region; mark = mark; end = end_of_entries es; torn = torn_of es; valid = count_by (λ e. e.header.state == 0) es; gaps = count_by (λ e. e.header.state == 1) es }

log_found : (region : Region) (words : List ℕ) (mark : Mark) (es : List Entry) → IsSector words mark es → IsSector words (log_of region mark es).mark es × IsLogOf (log_of region mark es) region (log_of region mark es).mark es
unfolding log_of
log_found region words mark es s = (s, record { region = refl; mark = refl; end = refl; torn = refl; valid = refl; gaps = refl })

sector_of : (void : Option Region) (region : Region) (words : List ℕ) → 2 ≤ length words → (f : SectorFound) × IsSectorFound void region words f
sector_of void region words long = elim (void_or void region) [
  | inl is ↦ (found.Void, is)
  | inr not ↦ elim (sectors.one_of_both words long) [
    | inl p ↦ let log = log_found region words p.0 p.1 p.2 in (found.Log (log_of region p.0 p.1), (not, (p.1, log.0, log.1)))
    | inr p ↦ (found.Foreign p.0 p.1, (not, p.2))
  ]
]

state_of : (w : Words) (size : ℕ) → IsSectorSize size → HasShape size w → (f : Option Shape) × IsStateFound w f
state_of w size known shaped = elim (image.either w size known shaped) [
  | inl p ↦ (Some (shape_of_reading p.1.0), (p.1.0, p.1.1, refl))
  | inr p ↦ (None, λ reading reads. image.never_both w reading p.0 reads p.1)
]

-- words of right lengths have a report
pub report_of : (w : Words) (size : ℕ) → IsSectorSize size → HasShape size w → (text : List ℕ) × IsReport w text
report_of w size known shaped =
    let large = big size known in
    let first : 2 ≤ length w.s0 = omega (arith, shaped S0, large) in
    let second : 2 ≤ length w.s1 = omega (arith, shaped S1, large) in
    let guard = guard_of w.guard in
    let s0 = sector_of (void_in guard.0) S0 w.s0 first in
    let s1 = sector_of (void_in guard.0) S1 w.s1 second in
    let state = state_of w size known shaped in
    let f : Findings = record { guard = guard.0; s0 = s0.0; s1 = s1.0; state = state.0 } in
    (report_text (2 * length w.s0) f, record { findings = f; found = record { guard = guard.1; s0 = s0.1; s1 = s1.1; state = state.1 }; is = refl })

-- the sector size as the words tell it
pub size_told : (w : Words) (size : ℕ) → IsSectorSize size → HasShape size w → 2 * length w.s0 ≡ size
size_told w size known shaped = ap (λ (n : ℕ). 2 * n) (shaped S0) ∙ half_of size known

-- A history leaves the bytes of its start with the lines that its runs put.
use Rattle.std.proofs.Common.{◌≡◌, ◌≤◌, ◌+◌, ◌*◌, ℕ, List, [], ◌∷◌, ◌++◌, length, take, refl, sym, ◌∙◌, ap, subst, arith}
use Rattle.flash_traits.specs.Words.{Words}
use Rattle.storage_lines.specs.declared.lines.LineWrite.{LineWrite}
use Rattle.storage_lines.specs.Lines.{after, put_line, line_of}
use Rattle.storage_lines.proofs.LineLemmas.{length-after, after-append, line_put, line_kept}
use Rattle.sector_image.specs.Stands.{Stands}
use Rattle.sector_image.proofs.ImageLaws.{one_value}
use Rattle.vehicle_runs.specs.Runs.{run_of}
use Rattle.vehicle_runs.specs.Safe.{Safe}
use Rattle.script_board.specs.Taking.{events_of}
use Rattle.replay.specs.Histories.{Ran, IsRun, History}
use Rattle.replay.specs.Keeping.{Leaves, EachLeaves, all_lines, LeavesLine}

-- one run
left_by : (budget : ℕ) (before : Words) (r : Ran) (bytes : List ℕ) → IsRun budget before r → Stands before bytes
    → (put : List LineWrite) × Leaves budget bytes r put × Stands r.words (after bytes put)
left_by budget before r bytes is stands =
    let same : is.bytes ≡ bytes = one_value before is.bytes bytes is.began stands in
    let safe : Safe budget bytes (events_of r.lines) r.frames r.finished r.words =
    subst (λ (b : List ℕ). Safe budget b (events_of r.lines) r.frames r.finished r.words) same is.safe in (
      take safe.at.kept (run_of budget bytes safe.acts).issued,
      record { acts = safe.acts; rests = safe.rests; reads = safe.reads; kept = safe.at.kept; flushed = safe.at.enough; few = safe.at.few; put_is = refl },
      safe.at.stands,
    )

pub keeps : (budget : ℕ) (before now : Words) (runs : List Ran) (bytes : List ℕ) → History budget before runs now → Stands before bytes
    → (puts : List (List LineWrite)) × EachLeaves budget bytes runs puts × Stands now (after bytes (all_lines puts))
keeps budget before now [] bytes is stands = ([], refl, subst (λ (w : Words). Stands w bytes) (sym is) stands)
keeps budget before now (r ∷ runs) bytes is stands =
    let first = left_by budget before r bytes is.0 stands in
    let rest = keeps budget r.words now runs (after bytes first.0) is.1 first.2 in (
      first.0 ∷ rest.0,
      (first.1, rest.1),
      subst (λ (b : List ℕ). Stands now b) (sym (after-append bytes first.0 (all_lines rest.0))) rest.2,
    )

-- a line that none of these writes is of
stays : (bytes : List ℕ) (later : List LineWrite) (n : ℕ) → 8 * n + 8 ≤ length bytes → LeavesLine n later → line_of (after bytes later) n ≡ line_of bytes n
stays bytes [] n fits others = refl
stays bytes (w ∷ later) n fits others =
    stays (put_line bytes w) later n (omega (arith, fits, length-after bytes (w ∷ []))) others.1 ∙ line_kept bytes w n fits others.0

pub line_stays : (bytes : List ℕ) (earlier later : List LineWrite) (w : LineWrite) → length w.bytes ≡ 8 → 8 * w.line + 8 ≤ length bytes → LeavesLine w.line later
    → line_of (after bytes (earlier ++ w ∷ later)) w.line ≡ w.bytes
line_stays bytes earlier later w size fits others =
    let mid = after bytes earlier in
    let room : 8 * w.line + 8 ≤ length mid = omega (arith, fits, length-after bytes earlier) in
    ap (λ (b : List ℕ). line_of b w.line) (after-append bytes earlier (w ∷ later))
    ∙ stays (put_line mid w) later w.line (omega (arith, room, length-after mid (w ∷ []))) others
    ∙ line_put mid w w.line room refl size

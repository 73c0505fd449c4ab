-- How far the guard count rises over a history.
use Rattle.std.proofs.Common.{◌≤◌, ℕ, List, [], ◌∷◌, length, refl, sym, subst, arith}
use Rattle.flash_traits.specs.Words.{Words}
use Rattle.flash_traits.specs.Losses.{Received}
use Rattle.flash_traits.specs.declared.numbers.TheConstants.{GUARD_HALFWORDS}
use Rattle.guard_row.specs.Row.{IsGuardRow}
use Rattle.guard_row.proofs.RowLaws.{one_count}
use Rattle.sector_image.specs.Stands.{Stands, Both, One}
use Rattle.vehicle_runs.specs.Guard.{CountsUpTo, MayWear}
use Rattle.vehicle_runs.specs.Runs.{run_of}
use Rattle.replay.specs.Breaks.{OnWorn}
use Rattle.replay.specs.Guard.{Issues, raised_over, Rises}
use Rattle.replay.specs.Histories.{Ran, History, lines_issued}
use Rattle.replay.specs.declared.Stop.{Stop}
use Rattle.replay.specs.declared.Stop.TheVariants as stop

-- an image has a guard count
pub row_in : (w : Words) (b : List ℕ) → Stands w b → (count : ℕ) × IsGuardRow w.guard count
row_in w b (Both count m n home other, is, value) = (count, is.guard)
row_in w b (One count entries, is, value) = (count, is.guard)

counts_up : (a b : ℕ) (row : List ℕ) → a ≤ b → CountsUpTo a row → CountsUpTo b row
counts_up a b row le up = (up.0, up.1, let most = up.2 in omega (arith, le, most))

-- over runs that losses ended
pub counts_over : (budget : ℕ) (rs : List Ran) (w v : Words) (count : ℕ) → History budget w rs v → IsGuardRow w.guard count → CountsUpTo (raised_over (length rs) (lines_issued rs) count) v.guard
counts_over budget [] w v count is row = (count, subst (λ (u : Words). IsGuardRow u.guard count) (sym is) row, omega arith)
counts_over budget (x ∷ rs) w v count is row =
    let first = is.0.rises count row in
    let rest = counts_over budget rs x.words v first.0 is.1 first.1 in
    let up = first.2 in
    let more = rest.2 in
    (rest.0, rest.1, omega (arith, up, more))

-- a run, from the guard count of its first words
module _ (budget : ℕ) (v : Words) (b : List ℕ) (events : List Received) (count : ℕ) (row : IsGuardRow v.guard count) where
  pub issued_in : (u : Words) → Rises budget count b events u
      → (issued : ℕ) × Issues budget b events issued × ((other : ℕ) → IsGuardRow v.guard other → CountsUpTo (raised_over 1 issued other) u.guard)
  issued_in u rises = (
    length (run_of budget b rises.acts).issued,
    record { acts = rises.acts; rests = rises.rests; reads = rises.reads; number_is = refl },
    λ other is. counts_up _ _ u.guard (omega (arith, one_count v.guard count other row is)) rises.guard,
  )

  -- where the guard row is used up, it issues lines enough
  pub wears_in : (u : Words) (why : Stop) → Rises budget count b events u → OnWorn (λ full. (c : ℕ) (d : List ℕ) → IsGuardRow v.guard c → Stands v d → MayWear budget c d events) why → Stands v b
      → (issued : ℕ) × Issues budget b events issued × OnWorn (λ full. (other : ℕ) → IsGuardRow v.guard other → GUARD_HALFWORDS ≤ raised_over 1 issued other) why
  wears_in u (stop.Worn full) rises worn began =
      let wears = worn count b row began in (
        length (run_of budget b wears.acts).issued,
        record { acts = wears.acts; rests = wears.rests; reads = wears.reads; number_is = refl },
        λ other is. let enough = wears.enough in omega (arith, enough, one_count v.guard count other row is),
      )
  wears_in u stop.Memory rises worn began = let i = issued_in u rises in (i.0, i.1, tt)
  wears_in u (stop.Foreign region offset word) rises worn began = let i = issued_in u rises in (i.0, i.1, tt)
  wears_in u (stop.Refused line) rises worn began = let i = issued_in u rises in (i.0, i.1, tt)
  wears_in u stop.Input rises worn began = let i = issued_in u rises in (i.0, i.1, tt)
  wears_in u stop.Output rises worn began = let i = issued_in u rises in (i.0, i.1, tt)

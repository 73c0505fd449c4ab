-- What calls do to the bytes of an image, and what a loss inside them leaves.
use Rattle.std.specs.Prelude.{◌⊎◌, ℕ, ◌+◌, ◌*◌, ◌≤◌, List}
use Rattle.flash_traits.specs.Words.{Words}
use Rattle.flash_traits.specs.Values.{put}
use Rattle.guard_row.specs.Row.{IsGuardRow}
use Rattle.sector_image.specs.Stands.{Stands}

-- the guard count rises by at most so much, and never falls
abbrev pub RaisesGuard : ℕ → List ℕ → List ℕ → Type 0
RaisesGuard most old new =
    (c : ℕ) → IsGuardRow old c → (d : ℕ) × IsGuardRow new d × (c ≤ d) × (d ≤ c + most)

-- Old words that stand for bytes b become words that stand for f b, and the guard count rises by at
-- most so much.
pub record Moves (most : ℕ) (f : List ℕ → List ℕ) (old new : Words) : Type 0 where
  pub bytes : (b : List ℕ) → Stands old b → Stands new (f b)
  pub guard : RaisesGuard most old.guard new.guard

-- the same, or words that stand for b still
pub record MayMove (most : ℕ) (f : List ℕ → List ℕ) (old new : Words) : Type 0 where
  pub bytes : (b : List ℕ) → Stands old b → Stands new b ⊎ Stands new (f b)
  pub guard : RaisesGuard most old.guard new.guard

-- the words stand for the bytes that they stood for
abbrev pub KeepsBytes : ℕ → Words → Words → Type 0
KeepsBytes most = Moves most (λ b. b)

-- bytes with an entry from this line on
abbrev pub with_entry : ℕ → List ℕ → List ℕ → List ℕ
with_entry first entry b = put (8 * first) entry b

-- the words stand for the bytes with this entry, and the guard count is the same
abbrev pub Puts : ℕ → List ℕ → Words → Words → Type 0
Puts first entry = Moves 0 (with_entry first entry)

-- the same, or for the bytes that they stood for
abbrev pub MayPut : ℕ → List ℕ → Words → Words → Type 0
MayPut first entry = MayMove 0 (with_entry first entry)

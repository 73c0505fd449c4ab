-- What a device in memory tells, and the laws of it.
use Rattle.std.specs.Prelude.{◌≡◌, ◌≢◌, ◌↔◌, ℕ, ◌<◌, ◌-◌, ◌^◌, Bool, true, false, List, [], ◌∷◌, ◌++◌, length}
use Rattle.std.proofs.Common.{sym, ◌∙◌, ap, subst, inl, inr, arith}
use Rattle.flash_traits.specs.Words.{Words, IsSectorSize, HasShape}
use Rattle.flash_traits.specs.Losses.{Received, Idle, SentFrame, Moment, IsUpTo, Outcome, Elapses, ChangesWords, KeepsWords, Covers, Either, Unchanged, Receives, Sends}
use Rattle.flash_traits.proofs.Sizes.{size_not_zero}
use Rattle.flash_board.specs.Flash.{words_of}
use Rattle.flash_board.specs.Record.{replayed, LeftBy, only_last, counts_last}
use Rattle.flash_board.specs.Kept.{outcome_at_attach, moment_of}
use Rattle.flash_board.specs.declared.memory.Memory.{Memory}

-- while there is room in the record: what stands after all recorded calls
abbrev pub Now : Memory → Outcome → Type 0
Now m o = (m.full ≡ false) × (o ≡ replayed m.feed.items m.calls.items (outcome_at_attach m.base))

-- while there is room in the record: what a loss between or inside the recorded calls may have left
-- since a moment
abbrev pub Left : Memory → Moment → Outcome → Type 0
Left m t o = (m.full ≡ false) × LeftBy m.feed.items m.calls.items (moment_of m.first)
    (outcome_at_attach m.base)
    t o

-- a loss now leaves what reads give
pub reads_now : (m : Memory) (o : Outcome) → Now m o → (m.full ≡ false) × (o.words
    ≡ words_of m.image)
reads_now m o now = (now.0, ap (λ (o : Outcome). o.words) now.1 ∙ sym (m.kept now.0).words)

-- this moment is one of those since an earlier one
pub counts_left : (m : Memory) (t : Moment) (o : Outcome) → IsUpTo t (moment_of m.counts) →
    Now m o → Left m t o
counts_left m t o le now = (
  now.0,
  subst (λ (o : Outcome). LeftBy m.feed.items m.calls.items (moment_of m.first)
      (outcome_at_attach m.base) t o)
      (sym now.1)
      (counts_last m.feed.items m.calls.items (moment_of m.first) t (outcome_at_attach m.base)
      (subst (λ (n :
      Moment). IsUpTo t n) (m.kept now.0).moment le)),
)

-- since this moment there is no other
pub only_left : (m : Memory) (o : Outcome) → Left m (moment_of m.counts) o → Now m o
only_left m o left = (
  left.0,
  only_last m.feed.items m.calls.items (moment_of m.first) (outcome_at_attach m.base) o
      (subst (λ (n : Moment). LeftBy m.feed.items m.calls.items (moment_of m.first)
      (outcome_at_attach m.base) n
      o) (m.kept left.0).moment left.1),
)

-- the events received and the frames sent by the recorded calls
abbrev pub recorded_events : Memory → List Received
recorded_events m = (replayed m.feed.items m.calls.items (outcome_at_attach m.base)).events

abbrev pub recorded_frames : Memory → List SentFrame
recorded_frames m = (replayed m.feed.items m.calls.items (outcome_at_attach m.base)).frames

-- while there is room in the record, just these lists; afterwards any
abbrev pub HasLists : Memory → List Received → List SentFrame → Type 0
HasLists m e f = m.full ≡ false → (e ≡ recorded_events m) × (f ≡ recorded_frames m)

-- the clauses of a board's calls, of a device in memory
abbrev pub MemoryChanges : Memory → Memory → (Words → Words → Type 0) → (Words → Words → Type 0) →
    Type 0
MemoryChanges old new lost done = ChangesWords (Unit {0}) (λ (m : Memory). m.sector_bytes)
    (λ (m : Memory). m.full ≡ false) (λ (m : Memory). words_of m.image) HasLists
    (λ (m : Memory). moment_of m.counts) Now Left old new lost done

abbrev pub MemoryPasses : Memory → Memory → (Outcome → Outcome → Type 0) → (Outcome → Outcome →
    Type 0) → Type 0
MemoryPasses old new lost done = Elapses (Unit {0}) (λ (m : Memory).
    moment_of m.counts) Now Left old new lost done

abbrev pub MemoryCovers : Memory → Memory → (Outcome → Outcome → Type 0) → Type 0
MemoryCovers old new lost =
    Covers (Unit {0}) (λ (m : Memory). moment_of m.counts) Now Left old new lost

abbrev pub MemoryKeeps : Memory → Memory → Type 0
MemoryKeeps old new = KeepsWords (λ (m : Memory). m.sector_bytes) (λ (m : Memory). m.full
    ≡ false) (λ (m : Memory). words_of m.image) old new

-- where there is room in the record and for the count, what is told is told on
abbrev pub StaysTold : Memory → Memory → ℕ → Type 0
StaysTold old new count = old.full ≡ false → length old.calls.items < 65536 → count < 2 ^ 64 - 1 →
    new.full ≡ false

-- one more event
pub record MemoryReceives (old new : Memory) (r : Received) : Type 0 where
  pub words : MemoryKeeps old new
  pub lists : (e : List Received) (f : List SentFrame) → HasLists old e f →
      HasLists new (e ++ r ∷ []) f
  pub passes : MemoryPasses old new (Either Unchanged (Receives r)) (Receives r)
  pub covers : MemoryCovers old new (Either Unchanged (Receives r))

-- no event
pub record MemoryReceivesNothing (old new : Memory) : Type 0 where
  pub words : MemoryKeeps old new
  pub lists : (e : List Received) (f : List SentFrame) → HasLists old e f → HasLists new e f
  pub passes : MemoryPasses old new Unchanged Unchanged

-- one more frame, if it was sent
abbrev pub IfSent : Bool → (Outcome → Outcome → Type 0) → (Outcome → Outcome → Type 0) → Outcome →
    Outcome → Type 0
IfSent true done lost = done
IfSent false done lost = lost

-- the frames with one more, if it was sent
abbrev pub frames_after : Bool → List SentFrame → SentFrame → List SentFrame
frames_after true fs f = fs ++ f ∷ []
frames_after false fs f = fs

-- a sending, that was done or failed
pub record MemorySends (old new : Memory) (frame : SentFrame) (done : Bool) : Type 0 where
  pub words : MemoryKeeps old new
  pub lists : (e : List Received) (f : List SentFrame) → HasLists old e f →
      HasLists new e (frames_after done f frame)
  pub passes : MemoryPasses old new (Either Unchanged (Sends frame)) (IfSent done (Sends frame)
      (Either Unchanged (Sends frame)))
  pub covers : MemoryCovers old new (Either Unchanged (Sends frame))

-- while it tells, it stands for one pair of lists, and a loss now leaves just these and what reads
-- give
pub one_pair : (m : Memory) (told : m.full ≡ false) (e : List Received) (f : List SentFrame) →
    HasLists m e f ↔ ((e ≡ recorded_events m) × (f ≡ recorded_frames m))
one_pair m told e f = (λ stood. stood told, λ same told. same)

pub just_now : (m : Memory) (told : m.full ≡ false) (o : Outcome) → Now m o ↔
    ((o.words ≡ words_of m.image) × (o.events ≡ recorded_events m) × (o.frames ≡ recorded_frames m))
just_now m told o = (
  λ now. (
    ap (λ (o : Outcome). o.words) now.1 ∙ sym (m.kept told).words,
    ap (λ (o : Outcome).
        o.events) now.1,
    ap (λ (o : Outcome). o.frames) now.1,
  ),
  λ same. (
    told,
    λ i. record {
      words = (same.0 ∙ (m.kept told).words) i;
      events = same.1 i;
      frames = same.2 i;
    },
  ),
)

-- a board that doesn't tell its lists is one that tells nothing
pub untold_is_full : (m : Memory) → ((e : List Received) (f : List SentFrame) → HasLists m e f) →
    m.full ≡ false → ⊥
untold_is_full m any told =
    let none : [] ≡ recorded_events m = (any [] [] told).0 in
    let one : Idle ∷ [] ≡ recorded_events m = (any (Idle ∷ []) [] told).0 in
    cc

-- the lists have the lengths of the sector size
pub shape_now : (m : Memory) → IsSectorSize m.sector_bytes →
    HasShape m.sector_bytes (words_of m.image)
shape_now m known = let nonzero : m.sector_bytes ≢ 0 = size_not_zero m.sector_bytes known in
    subst (λ (n : ℕ). HasShape n (words_of m.image)) (sym (m.attached nonzero)) (m.shaped (subst
    IsSectorSize (m.attached nonzero) known))

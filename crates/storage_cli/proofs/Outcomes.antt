-- What a status says, by the ending that it comes from.
use Rattle.std.proofs.Common.{◌≡◌, ◌≢◌, ◌⊎◌, inl, inr, ℕ, List, refl, sym, ◌∙◌, subst, arith, Result, Err, Some, None}
use Rattle.flash_traits.specs.declared.board.Fault.{Fault}
use Rattle.flash_traits.specs.declared.board.Fault.TheVariants as fault
use Rattle.flash_traits.specs.Causes.{Rose}
use Rattle.flash_traits.specs.Words.{Words}
use Rattle.sector_image.specs.FirstBad.{foreign_place}
use Rattle.storage_cli.specs.declared.stop.Served.{Served}
use Rattle.storage_cli.specs.declared.stop.Foreign.{Foreign}
use Rattle.storage_cli.specs.declared.stop.Stop.{Stop}
use Rattle.storage_cli.specs.declared.stop.Stop.TheVariants as stop
use Rattle.storage_cli.specs.Statuses.{IsServeStatus, IsFormatStatus, IsGenStatus, IsPastAttach, TellsFaults, ToldBoard, ToldInput, ToldOutput, PrintsStatus}
use Rattle.storage_cli.specs.Serving.{NamesForeign}
use Rattle.storage_cli.specs.Steps.Sessions.{IsSessionStop}
use Rattle.storage_cli.specs.Steps.Replaying.{input_at}
use Rattle.storage_cli.specs.Steps.Stops.{status_of_stop, line_of_stop, IsServeStop, IsFormatStop, IsCausedBy, IsFirst, IsAttached, OnForeign, OnMemory, OnWorn, StopsEarly, StopsWorn}
use Rattle.storage_cli.proofs.Causes.{rose_of}

-- the status of an ending, or that of a failing output
abbrev pub Gives : ℕ → ℕ → Type 0
Gives status own = (status ≡ own) ⊎ (status ≡ 10)

pub other : (status own n : ℕ) → Gives status own → own ≢ n → 10 ≢ n → status ≡ n → ⊥
other status own n (inl is) a b e = a (sym is ∙ e)
other status own n (inr is) a b e = b (sym is ∙ e)

-- where the output didn't fail it is that of the ending
pub own_is : (status own n : ℕ) → Gives status own → 10 ≢ n → status ≡ n → own ≡ n
own_is status own n (inl is) b e = sym is ∙ e
own_is status own n (inr is) b e = absurd (b (sym is ∙ e))

-- each status is that of one ending
is_words : (why : Stop) → status_of_stop why ≡ 1 → why ≡ stop.Words
is_words stop.Words e = refl
is_words _ e = absurd (omega (arith, e))

is_memory : (why : Stop) → status_of_stop why ≡ 2 → why ≡ stop.Memory
is_memory stop.Memory e = refl
is_memory _ e = absurd (omega (arith, e))

is_foreign : (why : Stop) → status_of_stop why ≡ 3 → (found : Foreign) × (why ≡ stop.Foreign found)
is_foreign (stop.Foreign found) e = (found, refl)
is_foreign _ e = absurd (omega (arith, e))

is_read : (why : Stop) → status_of_stop why ≡ 4 → why ≡ stop.Read
is_read stop.Read e = refl
is_read _ e = absurd (omega (arith, e))

is_flash : (why : Stop) → status_of_stop why ≡ 5 → why ≡ stop.Flash
is_flash stop.Flash e = refl
is_flash _ e = absurd (omega (arith, e))

is_link : (why : Stop) → status_of_stop why ≡ 6 → why ≡ stop.Link
is_link stop.Link e = refl
is_link _ e = absurd (omega (arith, e))

is_worn : (why : Stop) → status_of_stop why ≡ 7 → why ≡ stop.Worn
is_worn stop.Worn e = refl
is_worn _ e = absurd (omega (arith, e))

is_turns : (why : Stop) → status_of_stop why ≡ 8 → (n : ℕ) × (why ≡ stop.Turns n)
is_turns (stop.Turns n) e = (n, refl)
is_turns _ e = absurd (omega (arith, e))

is_input : (why : Stop) → status_of_stop why ≡ 9 → why ≡ stop.Input
is_input stop.Input e = refl
is_input _ e = absurd (omega (arith, e))

is_script : (why : Stop) → status_of_stop why ≡ 11 → (n : ℕ) × (why ≡ stop.Script n)
is_script (stop.Script n) e = (n, refl)
is_script _ e = absurd (omega (arith, e))

is_attach : (why : Stop) → status_of_stop why ≡ 13 → why ≡ stop.Attach
is_attach stop.Attach e = refl
is_attach _ e = absurd (omega (arith, e))

-- the statuses of a serve and of a format
pub serve_done : (status : ℕ) → Gives status 0 → IsServeStatus status
serve_done status (inl is) = inl is
serve_done status (inr is) = inr (inr (inr (inr (inr (inr (inr (inr (inl is))))))))

pub serve_stopped : (status : ℕ) (why : Stop) → IsServeStop why → Gives status (status_of_stop why) → IsServeStatus status
serve_stopped status why serves (inr is) = inr (inr (inr (inr (inr (inr (inr (inr (inl is))))))))
serve_stopped status stop.Words serves (inl is) = absurd serves
serve_stopped status stop.Memory serves (inl is) = inr (inl is)
serve_stopped status (stop.Foreign found) serves (inl is) = inr (inr (inl is))
serve_stopped status stop.Read serves (inl is) = inr (inr (inr (inl is)))
serve_stopped status stop.Flash serves (inl is) = inr (inr (inr (inr (inl is))))
serve_stopped status stop.Link serves (inl is) = inr (inr (inr (inr (inr (inl is)))))
serve_stopped status stop.Worn serves (inl is) = inr (inr (inr (inr (inr (inr (inl is))))))
serve_stopped status (stop.Turns n) serves (inl is) = inr (inr (inr (inr (inr (inr (inr (inl is)))))))
serve_stopped status stop.Attach serves (inl is) = inr (inr (inr (inr (inr (inr (inr (inr (inr is))))))))
serve_stopped status stop.Input serves (inl is) = absurd serves
serve_stopped status (stop.Script line) serves (inl is) = absurd serves

pub format_stopped : (status : ℕ) (why : Stop) → IsFormatStop why → Gives status (status_of_stop why) → IsFormatStatus status
format_stopped status why formats (inr is) = inr (inr (inr (inl is)))
format_stopped status stop.Words formats (inl is) = absurd formats
format_stopped status stop.Memory formats (inl is) = absurd formats
format_stopped status (stop.Foreign found) formats (inl is) = absurd formats
format_stopped status stop.Read formats (inl is) = absurd formats
format_stopped status stop.Flash formats (inl is) = inr (inr (inl is))
format_stopped status stop.Link formats (inl is) = absurd formats
format_stopped status stop.Worn formats (inl is) = absurd formats
format_stopped status (stop.Turns n) formats (inl is) = absurd formats
format_stopped status stop.Attach formats (inl is) = inr (inr (inr (inr is)))
format_stopped status stop.Input formats (inl is) = absurd formats
format_stopped status (stop.Script line) formats (inl is) = absurd formats

pub format_others : (status : ℕ) (why : Stop) → IsFormatStop why → Gives status (status_of_stop why) → (status ≢ 2) × (status ≢ 3) × (status ≢ 7)
format_others status why formats (inr is) = (λ e. omega (arith, is, e), λ e. omega (arith, is, e), λ e. omega (arith, is, e))
format_others status stop.Words formats (inl is) = absurd formats
format_others status stop.Memory formats (inl is) = absurd formats
format_others status (stop.Foreign found) formats (inl is) = absurd formats
format_others status stop.Read formats (inl is) = absurd formats
format_others status stop.Flash formats (inl is) = (λ e. omega (arith, is, e), λ e. omega (arith, is, e), λ e. omega (arith, is, e))
format_others status stop.Link formats (inl is) = absurd formats
format_others status stop.Worn formats (inl is) = absurd formats
format_others status (stop.Turns n) formats (inl is) = absurd formats
format_others status stop.Attach formats (inl is) = (λ e. omega (arith, is, e), λ e. omega (arith, is, e), λ e. omega (arith, is, e))
format_others status stop.Input formats (inl is) = absurd formats
format_others status (stop.Script line) formats (inl is) = absurd formats

-- the statuses of a gen
pub gen_done : (status : ℕ) → Gives status 0 → IsGenStatus status
gen_done status (inl is) = inl is
gen_done status (inr is) = inr (inr (inr is))

pub gen_stopped : (status : ℕ) (why : Stop) → IsSessionStop why → Gives status (status_of_stop why) → IsGenStatus status
gen_stopped status why stops (inr is) = inr (inr (inr is))
gen_stopped status stop.Words stops (inl is) = absurd stops
gen_stopped status stop.Memory stops (inl is) = inr (inl is)
gen_stopped status (stop.Foreign found) stops (inl is) = absurd stops
gen_stopped status stop.Read stops (inl is) = absurd stops
gen_stopped status stop.Flash stops (inl is) = absurd stops
gen_stopped status stop.Link stops (inl is) = absurd stops
gen_stopped status stop.Worn stops (inl is) = inr (inr (inl is))
gen_stopped status (stop.Turns n) stops (inl is) = absurd stops
gen_stopped status stop.Attach stops (inl is) = absurd stops
gen_stopped status stop.Input stops (inl is) = absurd stops
gen_stopped status (stop.Script line) stops (inl is) = absurd stops

gen_other : (status n : ℕ) → IsGenStatus status → 0 ≢ n → 2 ≢ n → 7 ≢ n → 10 ≢ n → status ≢ n
gen_other status n (inl is) a b c d e = a (sym is ∙ e)
gen_other status n (inr (inl is)) a b c d e = b (sym is ∙ e)
gen_other status n (inr (inr (inl is))) a b c d e = c (sym is ∙ e)
gen_other status n (inr (inr (inr is))) a b c d e = d (sym is ∙ e)

pub gen_others : (status : ℕ) → IsGenStatus status → (status ≢ 1) × (status ≢ 3) × (status ≢ 4) × (status ≢ 5) × (status ≢ 6) × (status ≢ 8) × (status ≢ 13)
gen_others status known = (
  gen_other status 1 known (λ z. omega (arith, z)) (λ z. omega (arith, z)) (λ z. omega (arith, z)) (λ z. omega (arith, z)),
  gen_other status 3 known (λ z. omega (arith, z)) (λ z. omega (arith, z)) (λ z. omega (arith, z)) (λ z. omega (arith, z)),
  gen_other status 4 known (λ z. omega (arith, z)) (λ z. omega (arith, z)) (λ z. omega (arith, z)) (λ z. omega (arith, z)),
  gen_other status 5 known (λ z. omega (arith, z)) (λ z. omega (arith, z)) (λ z. omega (arith, z)) (λ z. omega (arith, z)),
  gen_other status 6 known (λ z. omega (arith, z)) (λ z. omega (arith, z)) (λ z. omega (arith, z)) (λ z. omega (arith, z)),
  gen_other status 8 known (λ z. omega (arith, z)) (λ z. omega (arith, z)) (λ z. omega (arith, z)) (λ z. omega (arith, z)),
  gen_other status 13 known (λ z. omega (arith, z)) (λ z. omega (arith, z)) (λ z. omega (arith, z)) (λ z. omega (arith, z)),
)

-- where all was done, no other status comes
pub not_done : (status n : ℕ) → Gives status 0 → 0 ≢ n → 10 ≢ n → {P : Type 0} → status ≡ n → P
not_done status n gives a b e = absurd (other status 0 n gives a b e)

pub faults_none : (status : ℕ) (before now : Fault → ℕ) → Gives status 0 → TellsFaults status before now
faults_none status before now gives = record {
  attach = not_done status 13 gives (λ z. omega (arith, z)) (λ z. omega (arith, z));
  read = not_done status 4 gives (λ z. omega (arith, z)) (λ z. omega (arith, z));
  flash = not_done status 5 gives (λ z. omega (arith, z)) (λ z. omega (arith, z));
  link = not_done status 6 gives (λ z. omega (arith, z)) (λ z. omega (arith, z));
}

pub prints_none : (status : ℕ) (printed : List ℕ → Type 0) → Gives status 0 → PrintsStatus status printed
prints_none status printed gives = record {
  words = not_done status 1 gives (λ z. omega (arith, z)) (λ z. omega (arith, z));
  memory = not_done status 2 gives (λ z. omega (arith, z)) (λ z. omega (arith, z));
  read = not_done status 4 gives (λ z. omega (arith, z)) (λ z. omega (arith, z));
  flash = not_done status 5 gives (λ z. omega (arith, z)) (λ z. omega (arith, z));
  link = not_done status 6 gives (λ z. omega (arith, z)) (λ z. omega (arith, z));
  worn = not_done status 7 gives (λ z. omega (arith, z)) (λ z. omega (arith, z));
  attach = not_done status 13 gives (λ z. omega (arith, z)) (λ z. omega (arith, z));
}

link_rose : (before now : Fault → ℕ) → IsCausedBy stop.Link before now → Rose (before fault.Recv) (now fault.Recv) ⊎ Rose (before fault.Send) (now fault.Send)
link_rose before now (inl raised) = inl (rose_of fault.Recv before now raised)
link_rose before now (inr raised) = inr (rose_of fault.Send before now raised)

-- the counts of the board's faults that a status tells
pub board_same : (status : ℕ) (before now : Fault → ℕ) → now ≡ before → ToldBoard status before now
board_same status before now same = record { fault = None; counts = same; told = tt }

pub board_stopped : (status : ℕ) (why : Stop) → Gives status (status_of_stop why) → (before now : Fault → ℕ) → IsCausedBy why before now → ToldBoard status before now
board_stopped status stop.Words gives before now cause = board_same status before now cause
board_stopped status stop.Memory gives before now cause = board_same status before now cause
board_stopped status (stop.Foreign found) gives before now cause = board_same status before now cause
board_stopped status stop.Read gives before now cause = record { fault = Some fault.Read; counts = cause; told = gives }
board_stopped status stop.Flash gives before now cause = record { fault = Some fault.Flash; counts = cause; told = gives }
board_stopped status stop.Link gives before now (inl cause) = record { fault = Some fault.Recv; counts = cause; told = gives }
board_stopped status stop.Link gives before now (inr cause) = record { fault = Some fault.Send; counts = cause; told = gives }
board_stopped status stop.Worn gives before now cause = board_same status before now cause
board_stopped status (stop.Turns n) gives before now cause = board_same status before now cause
board_stopped status stop.Attach gives before now cause = record { fault = Some fault.Attach; counts = cause; told = gives }
board_stopped status stop.Input gives before now cause = board_same status before now cause
board_stopped status (stop.Script line) gives before now cause = board_same status before now cause

-- and the count of the input's
pub input_told : (status : ℕ) (why : Stop) → Gives status (status_of_stop why) → (before now : ℕ) → now ≡ input_at why before → ToldInput status before now
input_told status stop.Words gives before now same = inl same
input_told status stop.Memory gives before now same = inl same
input_told status (stop.Foreign found) gives before now same = inl same
input_told status stop.Read gives before now same = inl same
input_told status stop.Flash gives before now same = inl same
input_told status stop.Link gives before now same = inl same
input_told status stop.Worn gives before now same = inl same
input_told status (stop.Turns n) gives before now same = inl same
input_told status stop.Attach gives before now same = inl same
input_told status stop.Input gives before now same = inr (same, gives)
input_told status (stop.Script line) gives before now same = inl same

-- the output's count rose where its status comes
pub output_rose : (status before now : ℕ) → ToldOutput status before now → status ≡ 10 → Rose before now
output_rose status before now (inl told) e = omega (arith, told.1)
output_rose status before now (inr told) e = absurd (told.0 e)

module _ (status : ℕ) (why : Stop) (gives : Gives status (status_of_stop why)) where
  -- the ending that a status tells
  pub ends_words : status ≡ 1 → why ≡ stop.Words
  ends_words e = is_words why (own_is status (status_of_stop why) 1 gives (λ z. omega (arith, z)) e)

  pub ends_memory : status ≡ 2 → why ≡ stop.Memory
  ends_memory e = is_memory why (own_is status (status_of_stop why) 2 gives (λ z. omega (arith, z)) e)

  pub ends_foreign : status ≡ 3 → (found : Foreign) × (why ≡ stop.Foreign found)
  ends_foreign e = is_foreign why (own_is status (status_of_stop why) 3 gives (λ z. omega (arith, z)) e)

  pub ends_read : status ≡ 4 → why ≡ stop.Read
  ends_read e = is_read why (own_is status (status_of_stop why) 4 gives (λ z. omega (arith, z)) e)

  pub ends_flash : status ≡ 5 → why ≡ stop.Flash
  ends_flash e = is_flash why (own_is status (status_of_stop why) 5 gives (λ z. omega (arith, z)) e)

  pub ends_link : status ≡ 6 → why ≡ stop.Link
  ends_link e = is_link why (own_is status (status_of_stop why) 6 gives (λ z. omega (arith, z)) e)

  pub ends_worn : status ≡ 7 → why ≡ stop.Worn
  ends_worn e = is_worn why (own_is status (status_of_stop why) 7 gives (λ z. omega (arith, z)) e)

  pub ends_turns : status ≡ 8 → (n : ℕ) × (why ≡ stop.Turns n)
  ends_turns e = is_turns why (own_is status (status_of_stop why) 8 gives (λ z. omega (arith, z)) e)

  pub ends_attach : status ≡ 13 → why ≡ stop.Attach
  ends_attach e = is_attach why (own_is status (status_of_stop why) 13 gives (λ z. omega (arith, z)) e)

  pub ends_input : status ≡ 9 → why ≡ stop.Input
  ends_input e = is_input why (own_is status (status_of_stop why) 9 gives (λ z. omega (arith, z)) e)

  pub ends_script : status ≡ 11 → (n : ℕ) × (why ≡ stop.Script n)
  ends_script e = is_script why (own_is status (status_of_stop why) 11 gives (λ z. omega (arith, z)) e)

  pub faults_stopped : (before now : Fault → ℕ) → IsCausedBy why before now → TellsFaults status before now
  faults_stopped before now cause = record {
    attach = λ e. rose_of fault.Attach before now (subst (λ (w : Stop). IsCausedBy w before now) (ends_attach e) cause);
    read = λ e. rose_of fault.Read before now (subst (λ (w : Stop). IsCausedBy w before now) (ends_read e) cause);
    flash = λ e. rose_of fault.Flash before now (subst (λ (w : Stop). IsCausedBy w before now) (ends_flash e) cause);
    link = λ e. link_rose before now (subst (λ (w : Stop). IsCausedBy w before now) (ends_link e) cause);
  }

  pub prints_stopped : (printed : List ℕ → Type 0) → (status ≢ 10 → printed (line_of_stop why)) → PrintsStatus status printed
  prints_stopped printed line = record {
    words = λ e. subst (λ (w : Stop). printed (line_of_stop w)) (ends_words e) (line (λ z. omega (arith, z, e)));
    memory = λ e. subst (λ (w : Stop). printed (line_of_stop w)) (ends_memory e) (line (λ z. omega (arith, z, e)));
    read = λ e. subst (λ (w : Stop). printed (line_of_stop w)) (ends_read e) (line (λ z. omega (arith, z, e)));
    flash = λ e. subst (λ (w : Stop). printed (line_of_stop w)) (ends_flash e) (line (λ z. omega (arith, z, e)));
    link = λ e. subst (λ (w : Stop). printed (line_of_stop w)) (ends_link e) (line (λ z. omega (arith, z, e)));
    worn = λ e. subst (λ (w : Stop). printed (line_of_stop w)) (ends_worn e) (line (λ z. omega (arith, z, e)));
    attach = λ e. subst (λ (w : Stop). printed (line_of_stop w)) (ends_attach e) (line (λ z. omega (arith, z, e)));
  }

  -- a foreign halfword
  pub foreign_named : (printed : List ℕ → Type 0) (told : Type 0) (words : Words) → (status ≢ 10 → printed (line_of_stop why)) → (told → IsFirst words why) → status ≡ 3 → NamesForeign told words printed
  foreign_named printed told words line first e =
      let found = ends_foreign e in
      record {
        place = foreign_place found.0.region found.0.offset found.0.word;
        first = λ t. subst (λ (w : Stop). IsFirst words w) found.1 (first t);
        line = subst (λ (w : Stop). printed (line_of_stop w)) found.1 (line (λ z. omega (arith, z, e)));
      }

  -- want of memory, and a guard row that is used up
  pub memory_told : (P : Type 0) → OnMemory why P → status ≡ 2 → P
  memory_told P holds e = subst (λ (w : Stop). OnMemory w P) (ends_memory e) holds

  pub foreign_told : (P : Type 0) → OnForeign why P → status ≡ 3 → P
  foreign_told P holds e = let found = ends_foreign e in subst (λ (w : Stop). OnForeign w P) found.1 holds

  pub worn_told : (P : Type 0) → OnWorn why P → status ≡ 7 → P
  worn_told P holds e = subst (λ (w : Stop). OnWorn w P) (ends_worn e) holds

-- where the attach didn't fail
pub attached : (T : Type 0) (status : ℕ) (before now : Fault → ℕ) (why : Stop) → Gives status (status_of_stop why) → IsCausedBy why before now → IsPastAttach status before now → (let r : Result T Stop = Err why in IsAttached r)
attached T status before now stop.Words gives cause past = tt
attached T status before now stop.Memory gives cause past = tt
attached T status before now (stop.Foreign found) gives cause past = tt
attached T status before now stop.Read gives cause past = tt
attached T status before now stop.Flash gives cause past = tt
attached T status before now stop.Link gives cause past = tt
attached T status before now stop.Worn gives cause past = tt
attached T status before now (stop.Turns n) gives cause past = tt
attached T status before now stop.Attach (inl is) cause past = past.attach is
attached T status before now stop.Attach (inr is) cause past = past.output is (rose_of fault.Attach before now cause)
attached T status before now stop.Input gives cause past = tt
attached T status before now (stop.Script line) gives cause past = tt

-- what an early stop and a used up guard row leave for the status
pub stops_early : (T : Type 0) (status : ℕ) (why : Stop) → Gives status (status_of_stop why) → (let r : Result T Stop = Err why in StopsEarly r) → status ≢ 13 → (status ≡ 2) ⊎ (status ≡ 3) ⊎ (status ≡ 4) ⊎ (status ≡ 10)
stops_early T status why (inr is) early past = inr (inr (inr is))
stops_early T status stop.Memory (inl is) early past = inl is
stops_early T status (stop.Foreign found) (inl is) early past = inr (inl is)
stops_early T status stop.Read (inl is) early past = inr (inr (inl is))
stops_early T status stop.Attach (inl is) early past = absurd (past is)
stops_early T status stop.Input (inl is) early past = absurd early
stops_early T status (stop.Script line) (inl is) early past = absurd early
stops_early T status stop.Words (inl is) early past = absurd early
stops_early T status stop.Flash (inl is) early past = absurd early
stops_early T status stop.Link (inl is) early past = absurd early
stops_early T status stop.Worn (inl is) early past = absurd early
stops_early T status (stop.Turns n) (inl is) early past = absurd early

pub stops_worn : (status : ℕ) (why : Stop) → Gives status (status_of_stop why) → (let r : Result Served Stop = Err why in StopsWorn r) → status ≢ 13 → (status ≡ 2) ⊎ (status ≡ 4) ⊎ (status ≡ 5) ⊎ (status ≡ 7) ⊎ (status ≡ 10)
stops_worn status why (inr is) worn past = inr (inr (inr (inr is)))
stops_worn status stop.Memory (inl is) worn past = inl is
stops_worn status stop.Read (inl is) worn past = inr (inl is)
stops_worn status stop.Flash (inl is) worn past = inr (inr (inl is))
stops_worn status stop.Worn (inl is) worn past = inr (inr (inr (inl is)))
stops_worn status stop.Attach (inl is) worn past = absurd (past is)
stops_worn status stop.Input (inl is) worn past = absurd worn
stops_worn status (stop.Script line) (inl is) worn past = absurd worn
stops_worn status stop.Words (inl is) worn past = absurd worn
stops_worn status (stop.Foreign found) (inl is) worn past = absurd worn
stops_worn status stop.Link (inl is) worn past = absurd worn
stops_worn status (stop.Turns n) (inl is) worn past = absurd worn

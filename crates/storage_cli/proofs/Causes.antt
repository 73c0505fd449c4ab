-- Why a serve stops, by the error of its node's opening.
use Rattle.std.proofs.Common.{◌≡◌, ◌⊎◌, inl, inr, ℕ, List, Result, Ok, Err, sym, ◌∙◌, ap, subst, arith}
use Rattle.std.specs.Prelude.{IfErr, IsErrAnd, OnErr}
use Rattle.flash_traits.specs.declared.board.Fault.{Fault}
use Rattle.flash_traits.specs.declared.board.Fault.TheVariants as fault
use Rattle.flash_traits.specs.Causes.{Rose, raised_at, counts_after}
use Rattle.flash_traits.proofs.Counting.{counts_rise}
use Rattle.flash_traits.specs.Words.{Words}
use Rattle.sector_image.specs.FirstBad.{Place, FirstBad, foreign_place}
use Rattle.sector_image.specs.Stands.{Stands, IsUsedUp}
use Rattle.sector_image.proofs.ImageLaws as image
use Rattle.vehicle_node.specs.declared.NodeError.{NodeError}
use Rattle.vehicle_node.specs.declared.NodeError.TheVariants as node_error
use Rattle.vehicle_node.specs.Refusals as node
use Rattle.storage_cli.specs.declared.stop.Served.{Served}
use Rattle.storage_cli.specs.declared.stop.Stop.{Stop}
use Rattle.storage_cli.specs.declared.stop.Stop.TheVariants as stop
use Rattle.storage_cli.specs.Serving.{HasToVoid}
use Rattle.storage_cli.specs.Steps.Stops.{stop_of_fault, stop_of, IsFirst, IsDone, IsServeStop, IsEventStop, IsCausedBy, OnForeign, OnMemory, OnWorn, StopsByCause, StopsEarly, StopsWorn}
use Rattle.flash_traits.specs.declared.board.Board.{Ghosts}

-- words never stand for bytes and have a foreign halfword
pub never_both : (words : Words) (place : Place) → (b : List ℕ) × Stands words b → FirstBad words place → ⊥
never_both words place stands bad = image.never_both words stands.1.0 place stands.1.1 bad

pub first_fault : (kind : Fault) (words : Words) → IsFirst words (stop_of_fault kind)
first_fault fault.Attach words = tt
first_fault fault.Read words = tt
first_fault fault.Flash words = tt
first_fault fault.Recv words = tt
first_fault fault.Send words = tt

pub is_first : (e : NodeError) (told : Type 0) (words : Words) → node.OnForeign e (λ place. told → FirstBad words place) → told → IsFirst words (stop_of e)
is_first node_error.Memory told words bad t = tt
is_first (node_error.Fault kind) told words bad t = first_fault kind words
is_first (node_error.Foreign region offset word) told words bad t = bad t
is_first (node_error.Worn count) told words bad t = tt

-- the turns of an event aren't told by its error
pub not_done : (why : Stop) → IsEventStop why → (IsDone (Err why)) → ⊥
not_done stop.Words event done = done
not_done stop.Memory event done = done
not_done (stop.Foreign found) event done = done
not_done stop.Read event done = done
not_done stop.Flash event done = done
not_done stop.Link event done = done
not_done stop.Worn event done = done
not_done (stop.Turns n) event done = event
not_done stop.Attach event done = done
not_done stop.Input event done = done
not_done (stop.Script line) event done = done

-- what the stop of an opening is, where there is a foreign halfword and where the guard row is used up
early_fault : (kind : Fault) → kind ≡ fault.Read → (let r : Result Served Stop = Err (stop_of_fault kind) in StopsEarly r)
early_fault fault.Attach is = tt
early_fault fault.Read is = tt
early_fault fault.Flash is = absurd (cc)
early_fault fault.Recv is = absurd (cc)
early_fault fault.Send is = absurd (cc)

module _ (words : Words) (told : Type 0) where
  pub opens_early : (e : NodeError) → node.OnFault e (λ kind. kind ≡ fault.Read)
      → node.OnWorn e (λ count. told → (b : List ℕ) × Stands words b)
      → told → (place : Place) → FirstBad words place → (let r : Result Served Stop = Err (stop_of e) in StopsEarly r)
  opens_early node_error.Memory fails worn t place bad = tt
  opens_early (node_error.Fault kind) fails worn t place bad = early_fault kind fails
  opens_early (node_error.Foreign region offset word) fails worn t place bad = tt
  opens_early (node_error.Worn count) fails worn t place bad = absurd (never_both words place (worn t) bad)

  worn_fault_stop : (kind : Fault) → (kind ≡ fault.Read) ⊎ (kind ≡ fault.Flash) → (let r : Result Served Stop = Err (stop_of_fault kind) in StopsWorn r)
  worn_fault_stop fault.Attach is = tt
  worn_fault_stop fault.Read is = tt
  worn_fault_stop fault.Flash is = tt
  worn_fault_stop fault.Recv (inl is) = absurd (cc)
  worn_fault_stop fault.Recv (inr is) = absurd (cc)
  worn_fault_stop fault.Send (inl is) = absurd (cc)
  worn_fault_stop fault.Send (inr is) = absurd (cc)

  pub opens_worn : (e : NodeError) → node.OnFault e (λ kind. (kind ≡ fault.Read) ⊎ (kind ≡ fault.Flash))
      → node.OnForeign e (λ place. told → FirstBad words place) → told → IsUsedUp words → (let r : Result Served Stop = Err (stop_of e) in StopsWorn r)
  opens_worn node_error.Memory fails foreign t used = tt
  opens_worn (node_error.Fault kind) fails foreign t used = worn_fault_stop kind fails
  opens_worn (node_error.Foreign region offset word) fails foreign t used = absurd (image.never_both words used.reading (foreign_place region offset word) used.reads (foreign t))
  opens_worn (node_error.Worn count) fails foreign t used = tt

-- what the errors of a node make of a result: `?` gives the stop of the error
module _ {T : Type 0} (r : Result T Stop) (why : Stop) (is : IsErrAnd r (λ e. e ≡ why)) where
  err_is : {S : Type 0} (q : Result S Stop) → IsErrAnd q (λ e. e ≡ why) → q ≡ Err why
  err_is (Ok x) given = absurd given
  err_is (Err e) given = ap Err given

  pub stopped_by : r ≡ Err why
  stopped_by = err_is r is

  pub on_stop : (P : Stop → Type 0) → P why → IfErr r P
  on_stop P p = subst (λ (q : Result T Stop). IfErr q P) (sym stopped_by) p

  pub on_result : (P : Result T Stop → Type 0) → P (Err why) → P r
  on_result P p = subst P (sym stopped_by) p

  pub caused : (before now : Fault → ℕ) → IsCausedBy why before now → StopsByCause before now r
  caused before now cause = subst (λ (q : Result T Stop). StopsByCause before now q) (sym stopped_by) cause

-- a failed call is counted
pub fault_cause : (kind : Fault) (before now : Fault → ℕ) → now ≡ raised_at kind before → IsCausedBy (stop_of_fault kind) before now
fault_cause fault.Attach before now raised = raised
fault_cause fault.Read before now raised = raised
fault_cause fault.Flash before now raised = raised
fault_cause fault.Recv before now raised = inl raised
fault_cause fault.Send before now raised = inr raised

pub node_cause : (e : NodeError) (before now : Fault → ℕ) → now ≡ counts_after (node.fault_in e) before → IsCausedBy (stop_of e) before now
node_cause node_error.Memory before now counts = counts
node_cause (node_error.Fault kind) before now counts = fault_cause kind before now counts
node_cause (node_error.Foreign region offset word) before now counts = counts
node_cause (node_error.Worn count) before now counts = counts

-- a stop behind a stretch that told none
pub cause_later : (why : Stop) (before mid now : Fault → ℕ) → mid ≡ before → IsCausedBy why mid now → IsCausedBy why before now
cause_later why before mid now same cause = subst (λ (f : Fault → ℕ). IsCausedBy why f now) same cause

-- the count of a fault that is told rose
pub rose_of : (kind : Fault) (before now : Fault → ℕ) → now ≡ raised_at kind before → Rose (before kind) (now kind)
rose_of kind before now raised = subst (λ (f : Fault → ℕ). Rose (before kind) (f kind)) (sym raised) (counts_rise kind before)

pub on_err : {T E : Type 0} (r : Result T E) (P : Type 0) → P → OnErr r P
on_err (Ok x) P p = tt
on_err (Err e) P p = p

fault_stop : (kind : Fault) → IsEventStop (stop_of_fault kind)
fault_stop fault.Attach = tt
fault_stop fault.Read = tt
fault_stop fault.Flash = tt
fault_stop fault.Recv = tt
fault_stop fault.Send = tt

pub event_stop : (e : NodeError) → node.OnMemory e ⊥ → node.OnForeign e (λ place. ⊥) → IsEventStop (stop_of e)
event_stop node_error.Memory memory foreign = memory
event_stop (node_error.Fault kind) memory foreign = fault_stop kind
event_stop (node_error.Foreign region offset word) memory foreign = foreign
event_stop (node_error.Worn count) memory foreign = tt

-- why an event stops a serve is why a serve stops
pub serve_event : (why : Stop) → IsEventStop why → IsServeStop why
serve_event stop.Words event = event
serve_event stop.Memory event = absurd event
serve_event (stop.Foreign found) event = absurd event
serve_event stop.Read event = tt
serve_event stop.Flash event = tt
serve_event stop.Link event = tt
serve_event stop.Worn event = tt
serve_event (stop.Turns n) event = absurd event
serve_event stop.Attach event = tt
serve_event stop.Input event = event
serve_event (stop.Script line) event = event

pub serve_stop : (e : NodeError) → IsServeStop (stop_of e)
serve_stop node_error.Memory = tt
serve_stop (node_error.Fault kind) = serve_event (stop_of_fault kind) (fault_stop kind)
serve_stop (node_error.Foreign region offset word) = tt
serve_stop (node_error.Worn count) = tt

-- no event and no close tells of memory or of a foreign halfword
pub event_memory : (why : Stop) (P : Type 0) → IsEventStop why → OnMemory why P
event_memory stop.Words P event = tt
event_memory stop.Memory P event = absurd event
event_memory (stop.Foreign found) P event = tt
event_memory stop.Read P event = tt
event_memory stop.Flash P event = tt
event_memory stop.Link P event = tt
event_memory stop.Worn P event = tt
event_memory (stop.Turns n) P event = tt
event_memory stop.Attach P event = tt
event_memory stop.Input P event = tt
event_memory (stop.Script line) P event = tt

pub event_first : (why : Stop) (words : Words) → IsEventStop why → IsFirst words why
event_first stop.Words words event = tt
event_first stop.Memory words event = tt
event_first (stop.Foreign found) words event = absurd event
event_first stop.Read words event = tt
event_first stop.Flash words event = tt
event_first stop.Link words event = tt
event_first stop.Worn words event = tt
event_first (stop.Turns n) words event = tt
event_first stop.Attach words event = tt
event_first stop.Input words event = tt
event_first (stop.Script line) words event = tt

pub event_foreign : (why : Stop) (P : Type 0) → IsEventStop why → OnForeign why P
event_foreign stop.Words P event = tt
event_foreign stop.Memory P event = tt
event_foreign (stop.Foreign found) P event = absurd event
event_foreign stop.Read P event = tt
event_foreign stop.Flash P event = tt
event_foreign stop.Link P event = tt
event_foreign stop.Worn P event = tt
event_foreign (stop.Turns n) P event = tt
event_foreign stop.Attach P event = tt
event_foreign stop.Input P event = tt
event_foreign (stop.Script line) P event = tt

fault_memory : (kind : Fault) (P : Type 0) → OnMemory (stop_of_fault kind) P
fault_memory kind P = event_memory (stop_of_fault kind) P (fault_stop kind)

pub memory_stop : (e : NodeError) (P : Type 0) → node.OnMemory e P → OnMemory (stop_of e) P
memory_stop node_error.Memory P p = p
memory_stop (node_error.Fault kind) P p = fault_memory kind P
memory_stop (node_error.Foreign region offset word) P p = tt
memory_stop (node_error.Worn count) P p = tt

pub foreign_stop : (e : NodeError) (P : Type 0) → node.OnForeign e (λ place. P) → OnForeign (stop_of e) P
foreign_stop node_error.Memory P p = tt
foreign_stop (node_error.Fault kind) P p = event_foreign (stop_of_fault kind) P (fault_stop kind)
foreign_stop (node_error.Foreign region offset word) P p = p
foreign_stop (node_error.Worn count) P p = tt

fault_worn : (kind : Fault) (P : Type 0) → OnWorn (stop_of_fault kind) P
fault_worn fault.Attach P = tt
fault_worn fault.Read P = tt
fault_worn fault.Flash P = tt
fault_worn fault.Recv P = tt
fault_worn fault.Send P = tt

pub worn_stop : (e : NodeError) (Q : ℕ → Type 0) (P : Type 0) → ((count : ℕ) → Q count → P) → node.OnWorn e Q → OnWorn (stop_of e) P
worn_stop node_error.Memory Q P f q = tt
worn_stop (node_error.Fault kind) Q P f q = fault_worn kind P
worn_stop (node_error.Foreign region offset word) Q P f q = tt
worn_stop (node_error.Worn count) Q P f q = f count q

pub worn_map : (why : Stop) (Q P : Type 0) → (Q → P) → OnWorn why Q → OnWorn why P
worn_map stop.Words Q P f q = tt
worn_map stop.Memory Q P f q = tt
worn_map (stop.Foreign found) Q P f q = tt
worn_map stop.Read Q P f q = tt
worn_map stop.Flash Q P f q = tt
worn_map stop.Link Q P f q = tt
worn_map stop.Worn Q P f q = f q
worn_map (stop.Turns n) Q P f q = tt
worn_map stop.Attach Q P f q = tt
worn_map stop.Input Q P f q = tt
worn_map (stop.Script line) Q P f q = tt

-- the image as it was attached
pub void_from : {B : Type 0} (g : Ghosts B) (words before : Words) (board : B) → (g.tells board → words ≡ before) → HasToVoid g words board → HasToVoid g before board
void_from g words before board same (inl used) = inl (λ t. subst IsUsedUp (same t) (used t))
void_from g words before board same (inr next) = inr next

pub worn_in : {T : Type 0} (r : Result T Stop) (Q P : Type 0) → (Q → P) → IfErr r (λ why. OnWorn why Q) → IfErr r (λ why. OnWorn why P)
worn_in (Ok x) Q P f q = tt
worn_in (Err why) Q P f q = worn_map why Q P f q

foreign_map : (why : Stop) (Q P : Type 0) → (Q → P) → OnForeign why Q → OnForeign why P
foreign_map stop.Words Q P f q = tt
foreign_map stop.Memory Q P f q = tt
foreign_map (stop.Foreign found) Q P f q = f q
foreign_map stop.Read Q P f q = tt
foreign_map stop.Flash Q P f q = tt
foreign_map stop.Link Q P f q = tt
foreign_map stop.Worn Q P f q = tt
foreign_map (stop.Turns n) Q P f q = tt
foreign_map stop.Attach Q P f q = tt
foreign_map stop.Input Q P f q = tt
foreign_map (stop.Script line) Q P f q = tt

pub foreign_in : {T : Type 0} (r : Result T Stop) (Q P : Type 0) → (Q → P) → IfErr r (λ why. OnForeign why Q) → IfErr r (λ why. OnForeign why P)
foreign_in (Ok x) Q P f q = tt
foreign_in (Err why) Q P f q = foreign_map why Q P f q

-- A node fits its board after an act: while armed there is room for all that may still be written.
use Rattle.std.proofs.Common.{◌≡◌, inr, Bool, true, false, ℕ, ◌+◌, ◌-◌, ◌*◌, ◌≤◌, List, [], ◌++◌, length, append-nil, refl, sym, ◌∙◌, ap, subst, arith, Option, Some, None, Result, Ok, Err}
use Rattle.std.specs.Prelude.{⊤, OnOk, IfSome, IsTrue, is_some, ◌&&◌}
use Rattle.std.proofs.lemmas.Bool.{and_parts}
use Rattle.std.proofs.lemmas.List.Sums.{fold-append}
use Rattle.flash_traits.specs.Budget.{budget_of, line_bytes}
use Rattle.flash_traits.specs.declared.board.Board.{Ghosts}
use Rattle.flash_traits.specs.Losses.{SentFrame, KeepsWords}
use Rattle.storage_lines.specs.declared.lines.LineWrite.{LineWrite}
use Rattle.storage_lines.specs.Lines.{after, put_line}
use Rattle.param_tree.specs.Rows.{vehicle_rows}
use Rattle.param_index.specs.Places.{Places, IsIndexOf}
use Rattle.block_store.specs.Store.{Store, StoreState, Alone, Spilled, Spent, FitsState, durable_of, in_one_sector, is_alone, spare_in, HasSpare}
use Rattle.sector_image.specs.Images.{Bytes}
use Rattle.block_store.specs.Store as store
use Rattle.block_store.proofs.StoreLaws.{fits_kept as store_kept}
use Rattle.dirty_lines.specs.Lines.{Lines, current_of}
use Rattle.vehicle_core.specs.declared.orders.Need.{Need}
use Rattle.vehicle_core.specs.declared.orders.Need.TheVariants.{FlushAll}
use Rattle.vehicle_core.specs.Vehicle.{Vehicle, is_armed}
use Rattle.vehicle_core.specs.CoreState.{CoreState}
use Rattle.vehicle_core.specs.Acts.{Act, SinceArming}
use Rattle.vehicle_core.proofs.Arming.{did_counts}
use Rattle.vehicle_runs.specs.Frames.{Machine, Delivery}
use Rattle.vehicle_node.specs.Standing.{Node, HasRoomSince, Fits, IsAlone, IsIndexed, armed_in}
use Rattle.vehicle_node.specs.Steps.Inside.{view_of}
use Rattle.vehicle_node.specs.Steps.Answering.{did_at, deliveries_at, node_after, armed_over, HasSpareFor, HasRoom, OnlyPuts, Answered, AnsweredAs, AnswerDone, ActDone, FlushedAll, FlushDone}
use Rattle.vehicle_node.specs.declared.Node.TheInside.{Inside}
use Rattle.vehicle_node.specs.declared.NodeError.{NodeError}
use Rattle.vehicle_node.proofs.FramesSent.{counted-vehicle}

state_spare : {B : Type 0} (g : Ghosts B) (b : B) (state : StoreState) (bytes : Bytes) → FitsState g b state bytes → IsTrue (in_one_sector state) → line_bytes * budget_of (g.sector_bytes b) ≤ spare_in state bytes
state_spare g b (Alone kept) bytes fits is = omega (arith, ap budget_of fits.0.home.size)
state_spare g b (Spilled kept) bytes fits is = absurd (cc)
state_spare g b Spent bytes fits is = absurd fits

-- a store that stands alone has the whole budget to spare
pub fits_spare : {B : Type 0} (g : Ghosts B) (b : B) (s : Store) → store.Fits g b s → IsTrue (is_alone s) → HasSpare s (budget_of (g.sector_bytes b))
fits_spare g b s fits is = state_spare g b s.state s.bytes fits is

-- who is armed has room for the pending lines
since_room : (node : Node) (armed : Option ℕ) → IfSome armed (HasRoomSince node) → is_some armed ≡ true → HasSpareFor node 0
since_room node None room is = absurd (cc)
since_room node (Some since) room is = omega (arith, room.spare)

pub fits_room : {B : Type 0} (g : Ghosts B) (b : B) (node : Node) (armed : Bool) → Fits g b node → armed ≡ armed_in node → HasRoom armed node
fits_room g b node armed fits is on = since_room node node.machine.vehicle.armed fits.armed (sym is ∙ on)

-- and for the lines that an act writes
act_room : (node : Node) (old new : Option ℕ) (writes : List LineWrite) (need : Need) → IfSome old (HasRoomSince node) → SinceArming node.budget old new writes need → is_some old ≡ true → is_some new ≡ true → HasSpareFor node (length writes)
act_room node None new writes need room since was is = absurd (cc)
act_room node (Some before) None writes need room since was is = absurd (cc)
act_room node (Some before) (Some now) writes need room since was is =
    let within = room.within in
    let most = since.1 within in
    omega (arith, room.spare, since.0, most)

pub act_spare : {B : Type 0} (g : Ghosts B) (b : B) (node : Node) (vehicle : Vehicle) (writes : List LineWrite) (need : Need) → Fits g b node → SinceArming node.budget node.machine.vehicle.armed vehicle.armed writes need
    → (armed_in node && is_armed vehicle) ≡ true → HasSpareFor node (length writes)
act_spare g b node vehicle writes need fits since over =
    let both = and_parts (armed_in node) (is_armed vehicle) over in
    act_room node node.machine.vehicle.armed vehicle.armed writes need fits.armed since both.0 both.1

-- what may still be written after an act
room_after : {B : Type 0} (g : Ghosts B) (b : B) (node new : Node) (before now : Option ℕ) (writes : List LineWrite) (need : Need) → store.Fits g b new.lines.store → new.budget ≡ node.budget → node.budget ≡ budget_of (g.sector_bytes b)
    → SinceArming node.budget before now writes need → IfSome before (HasRoomSince node)
    → ((is_some before && is_some now) ≡ true → (more : ℕ) → HasSpareFor node (length writes + more) → HasSpareFor new more)
    → ((is_some before && is_some now) ≡ false → need ≡ FlushAll → IsAlone new) → (need ≡ FlushAll → new.lines.pending ≡ []) → IfSome now (HasRoomSince new)
room_after g b node new before None writes need fits same is since room spare alone whole = tt
room_after g b node new None (Some now) writes need fits same is since room spare alone whole =
    let none = whole since.2 in
    let has = fits_spare g b new.lines.store fits (alone refl since.2) in
    record { within = omega (arith, since.0); spare = omega (arith, has, since.0, same, is, ap length none) }
room_after g b node new (Some before) (Some now) writes need fits same is since room spare alone whole =
    let within = room.within in
    let most = since.1 within in
    let more = node.budget - now in
    let left : HasSpareFor node (length writes + (node.budget - now)) = omega (arith, room.spare, since.0, most) in
    record { within = omega (arith, most, same); spare = omega (arith, spare refl (node.budget - now) left, same) }

-- the current bytes after lines were issued and a prefix of all was put
current_after : (old new : Lines) (put writes : List LineWrite) → put ++ new.pending ≡ old.pending ++ writes → durable_of new.store ≡ after (durable_of old.store) put → current_of new ≡ after (current_of old) writes
current_after old new put writes split durable =
    ap (λ (l : List ℕ). after l new.pending) durable ∙ sym (fold-append put_line (durable_of old.store) put new.pending)
    ∙ ap (after (durable_of old.store)) split ∙ fold-append put_line (durable_of old.store) old.pending writes

-- the places are those of the current bytes
pub indexed_as : (node : Node) (bytes : List ℕ) (index : Places) → current_of node.lines ≡ bytes → node.index ≡ index → IsIndexOf vehicle_rows bytes index → IsIndexed node
indexed_as node bytes index is same found = subst (λ (b : List ℕ). IsIndexOf vehicle_rows b node.index) (sym is) (subst (λ (i : Places). IsIndexOf vehicle_rows bytes i) (sym same) found)

-- and so are those of the core inside
pub indexed_inside : (s : Inside) (node : Node) (bytes : List ℕ) → view_of s ≡ node → bytes ≡ current_of s.lines → IsIndexed node → IsIndexOf vehicle_rows bytes s.core.index
indexed_inside s node bytes is same found = subst (λ (b : List ℕ). IsIndexOf vehicle_rows b s.core.index) (sym same) (subst IsIndexed (sym is) found)

module _ {B : Type 0} (g : Ghosts B) (need : Need) (armed : Bool) (writes : List LineWrite) (ds : List Delivery) (old : Node) (a : B) (new : Node) (b : B) where
  -- the places once an act was answered
  pub answered_index : AnsweredAs g need armed writes ds old a new b → (bytes : List ℕ) → bytes ≡ current_of old.lines → new.index ≡ old.index → IsIndexOf vehicle_rows (after bytes writes) old.index → IsIndexed new
  answered_index x bytes is same found =
      indexed_as new (after bytes writes) old.index
      (current_after old.lines new.lines x.answered.put writes x.answered.split x.answered.durable ∙ ap (λ (l : List ℕ). after l writes) (sym is)) same found

  -- they stay where nothing was issued
  pub quiet_index : (r : Result ⊤ NodeError) → AnswerDone g need armed writes ds old a r new b → writes ≡ [] → OnOk r (new.index ≡ old.index) → IsIndexed old → OnOk r (IsIndexed new)
  quiet_index (Ok v) d none same found =
      answered_index d.done (current_of old.lines) refl same (subst (λ (l : List LineWrite). IsIndexOf vehicle_rows (after (current_of old.lines) l) old.index) (sym none) found)
  quiet_index (Err e) d none same found = tt

pub fits_after : {B : Type 0} (g : Ghosts B) (a b : B) (node : Node) (act : Act) (frames : List SentFrame) (new : Node) → Fits g a node → g.sector_bytes b ≡ g.sector_bytes a → store.Fits g b new.lines.store → IsIndexed new
    → Answered (did_at node act).need (armed_over node act) (did_at node act).writes (deliveries_at node act) (node_after node act) frames new → Fits g b new
fits_after g a b node act frames new fits geometry holds index x =
    let is : node.budget ≡ budget_of (g.sector_bytes b) = fits.budget ∙ ap budget_of (sym geometry) in
    let vehicle : new.machine.vehicle ≡ (did_at node act).vehicle =
    ap (λ (m : Machine). m.vehicle) x.machine ∙ counted-vehicle (node_after node act).machine (deliveries_at node act) in
    record {
      store = holds;
      budget = x.budget ∙ is;
      armed = subst (λ (v : Vehicle). IfSome v.armed (HasRoomSince new)) (sym vehicle)
          (room_after g b node new node.machine.vehicle.armed (did_at node act).vehicle.armed (did_at node act).writes (did_at node act).need holds x.budget is
          (did_counts node.budget (current_of node.lines) node.machine.vehicle act) fits.armed (λ over more has. x.spare over more has) (λ over needs. x.alone over (inr needs)) (λ needs. x.whole needs));
      index = index;
    }

-- a node fits as long as no word changes
pub fits_kept : {B : Type 0} (g : Ghosts B) (a b : B) (node : Node) → KeepsWords g.sector_bytes g.tells g.words a b → Fits g a node → Fits g b node
fits_kept g a b node k fits = record { store = store_kept g a b node.lines.store k fits.store; budget = fits.budget ∙ ap budget_of (sym k.geometry); armed = fits.armed; index = fits.index }

pub fits_act : {B : Type 0} (g : Ghosts B) (a last : B) (old : Node) (act : Act) (result : Result ⊤ NodeError) (new : Node) → Fits g a old → ActDone g old a act result new last → OnOk result (store.Fits g last new.lines.store) → OnOk result (IsIndexed new)
    → g.sector_bytes last ≡ g.sector_bytes a → OnOk result (Fits g last new)
fits_act g a last old act (Ok v) new fits d holds index geometry =
    let x : AnsweredAs g (did_at old act).need (armed_over old act) (did_at old act).writes (deliveries_at old act) (node_after old act) a new last = d.done in
    fits_after g a last old act x.frames new fits geometry holds index x.answered
fits_act g a last old act (Err e) new fits d holds index geometry = tt

-- an act that says nothing finds room
pub quiet_room : {B : Type 0} (g : Ghosts B) (b : B) (s : Inside) (node : Node) (flag : Bool) (core : CoreState) (writes : List LineWrite) → view_of s ≡ node → Fits g b node → flag ≡ is_armed core.vehicle → is_armed core.vehicle ≡ is_armed s.core.vehicle → writes ≡ []
    → flag ≡ true → HasSpareFor (view_of s) (length writes)
quiet_room g b s node flag core writes is fits armed same none on =
    let has : HasSpareFor (view_of s) 0 = fits_room g b (view_of s) flag (subst (Fits g b) (sym is) fits) (armed ∙ same) on in
    omega (arith, has, ap length none)

-- and so does a message
pub message_room : {B : Type 0} (g : Ghosts B) (b : B) (s : Inside) (node : Node) (flag : Bool) (core : CoreState) (writes : List LineWrite) (need : Need) → view_of s ≡ node → Fits g b node
    → SinceArming s.budget s.core.vehicle.armed core.vehicle.armed writes need → flag ≡ (is_armed s.core.vehicle && is_armed core.vehicle) → flag ≡ true → HasSpareFor (view_of s) (length writes)
message_room g b s node flag core writes need is fits since over on = act_spare g b (view_of s) core.vehicle writes need (subst (Fits g b) (sym is) fits) since (sym over ∙ on)

-- the flag of an act that says nothing
pub quiet_over : (was now : Bool) → now ≡ was → now ≡ (was && now)
quiet_over true now is = refl
quiet_over false true is = absurd (cc)
quiet_over false false is = refl

-- what the node inside says of being armed
pub flag_is : (s : Inside) (node : Node) (flag : Bool) → view_of s ≡ node → flag ≡ is_armed s.core.vehicle → flag ≡ armed_in node
flag_is s node flag is armed = armed ∙ ap armed_in is

flushed_room : (old new : Node) (flag : Bool) (armed : Option ℕ) → new.budget ≡ old.budget → flag ≡ is_some armed → (flag ≡ true → (more : ℕ) → HasSpareFor old more → HasSpareFor new more) → IfSome armed (HasRoomSince old) → IfSome armed (HasRoomSince new)
flushed_room old new flag None same is spare room = tt
flushed_room old new flag (Some since) same is spare room =
    let has = spare is (old.budget - since) room.spare in
    let within = room.within in
    record { within = omega (arith, within, same); spare = omega (arith, has, same) }

-- putting lines changes no current byte
pub puts_index : (flag : Bool) (old new : Node) → OnlyPuts flag old new → IsIndexed old → IsIndexed new
puts_index flag old new p found = indexed_as new (current_of old.lines) old.index (current_after old.lines new.lines p.put [] (p.split ∙ sym (append-nil old.lines.pending)) p.durable) p.index found

-- a node fits after lines were put
pub fits_flushed : {B : Type 0} (g : Ghosts B) (a b : B) (n : ℕ) (flag : Bool) (old new : Node) → Fits g a old → flag ≡ armed_in old → FlushDone g n flag old a (Ok tt) new b → store.Fits g b new.lines.store → g.sector_bytes b ≡ g.sector_bytes a → Fits g b new
fits_flushed g a b n flag old new fits is f holds geometry =
    let w : FlushedAll g n flag old a new b = f.done in
    let p = w.flushed.puts in
    record {
      store = holds;
      budget = p.budget ∙ fits.budget ∙ ap budget_of (sym geometry);
      armed = subst (λ (m : Machine). IfSome m.vehicle.armed (HasRoomSince new)) (sym p.machine) (flushed_room old new flag old.machine.vehicle.armed p.budget is p.spare fits.armed);
      index = puts_index flag old new p fits.index;
    }

-- the flag of a message: armed before it and after it
pub both_armed : (was is flag : Bool) → was ≡ true → flag ≡ is → flag ≡ (was && is)
both_armed true is flag on same = same
both_armed false is flag on same = absurd (cc)

pub not_armed : (was is flag : Bool) → was ≡ false → flag ≡ false → flag ≡ (was && is)
not_armed true is flag off same = absurd (cc)
not_armed false is flag off same = same

pub both_flags : (was is before now : Bool) → was ≡ before → is ≡ now → (was && is) ≡ (before && now)
both_flags was is before now first second = ap (λ (b : Bool). b && is) first ∙ ap (λ (b : Bool). before && b) second

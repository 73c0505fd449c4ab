-- Frames sent, one after another.
use Rattle.std.proofs.Common.{◌≡◌, ◌⊎◌, ⊎_elim, ℕ, Bool, ◌+◌, List, [], ◌∷◌, ◌++◌, length, take, Result, Ok, Err, refl, sym, ◌∙◌, ap, subst, arith, append_assoc, append-nil, length-append}
use Rattle.std.specs.Prelude.{slice_index}
use Rattle.std.proofs.lemmas.List.Sums.{fold-append}
use Rattle.flash_traits.specs.declared.board.Board.{Ghosts}
use Rattle.flash_traits.specs.Losses.{Received, SentFrame, sent_frame, Outcome, After, Either, Unchanged, Sends, ByResult}
use Rattle.flash_traits.specs.Calls.{Passes}
use Rattle.flash_traits.proofs.Moments.{weaker, chained}
use Rattle.vehicle_core.specs.Vehicle.{Content, speaks_v2}
use Rattle.vehicle_core.specs.Replies.{Tells}
use Rattle.mav_messages.specs.declared.messages.Message.{Message}
use Rattle.mav_frames.specs.Frames.{IsSent}
use Rattle.vehicle_runs.specs.Frames.{Machine, Answer, Delivery, IsFrameOf, numbered, counted, counted_all, AreFramesOf}
use Rattle.vehicle_node.specs.Standing.{Node, raised_by}
use Rattle.vehicle_node.specs.Steps.Calls.{MaySend}
use Rattle.vehicle_node.specs.Steps.Sending.{SendsFrames, SendsPrefix, answers_to, delivery, SentAll, SendDone}
use Rattle.vehicle_node.proofs.Passing.{begun, lists_kept}

-- the frames of some answers and then of others
pub frames-append : (xs ys : List Answer) (us vs : List SentFrame) → AreFramesOf xs us → AreFramesOf ys vs → AreFramesOf (xs ++ ys) (us ++ vs)
frames-append [] ys [] vs front back = back
frames-append [] ys (u ∷ us) vs front back = absurd front
frames-append (x ∷ xs) ys [] vs front back = absurd front
frames-append (x ∷ xs) ys (u ∷ us) vs front back = (front.0, frames-append xs ys us vs front.1 back)

-- all of some answers, and a prefix of others
pub frames_over : (xs ys : List Answer) (us vs : List SentFrame) → AreFramesOf xs us → AreFramesOf (take (length vs) ys) vs → AreFramesOf (take (length (us ++ vs)) (xs ++ ys)) (us ++ vs)
frames_over [] ys [] vs front back = back
frames_over [] ys (u ∷ us) vs front back = absurd front
frames_over (x ∷ xs) ys [] vs front back = absurd front
frames_over (x ∷ xs) ys (u ∷ us) vs front back = (front.0, frames_over xs ys us vs front.1 back)

-- a prefix of some answers, with others after them
pub frames_front : (xs ys : List Answer) (us : List SentFrame) → AreFramesOf (take (length us) xs) us → AreFramesOf (take (length us) (xs ++ ys)) us
frames_front xs ys [] first = tt
frames_front [] ys (u ∷ us) first = absurd first
frames_front (x ∷ xs) ys (u ∷ us) first = (first.0, frames_front xs ys us first.1)

-- all are a prefix
pub frames_all : (xs : List Answer) (us : List SentFrame) → AreFramesOf xs us → AreFramesOf (take (length us) xs) us
frames_all [] [] all = tt
frames_all [] (u ∷ us) all = absurd all
frames_all (x ∷ xs) [] all = absurd all
frames_all (x ∷ xs) (u ∷ us) all = (all.0, frames_all xs us all.1)

pub numbered-append : (issued : ℕ) (m : Machine) (xs ys : List Delivery) → numbered issued m (xs ++ ys) ≡ numbered issued m xs ++ numbered issued (counted_all m xs) ys
numbered-append issued m [] ys = refl
numbered-append issued m (d ∷ xs) ys =
    let a : Answer = record { station = d.station; v2 = speaks_v2 m.vehicle d.station; sequence = slice_index m.sequences d.station; content = d.content; issued = issued } in
    ap (λ (l : List Answer). a ∷ l) (numbered-append issued (counted m d) xs ys)

-- a frame doesn't say how many lines were issued before it
frame_any : (issued : ℕ) (m : Machine) (d : Delivery) (f : SentFrame)
    → IsFrameOf (record { station = d.station; v2 = speaks_v2 m.vehicle d.station; sequence = slice_index m.sequences d.station; content = d.content; issued = 0 }) f
    → IsFrameOf (record { station = d.station; v2 = speaks_v2 m.vehicle d.station; sequence = slice_index m.sequences d.station; content = d.content; issued = issued }) f
frame_any issued m d f is = record { peer = is.peer; message = is.message; tells = is.tells; sent = is.sent }

pub frames_any : (issued : ℕ) (m : Machine) (ds : List Delivery) (frames : List SentFrame) → AreFramesOf (answers_to m ds) frames → AreFramesOf (numbered issued m ds) frames
frames_any issued m [] [] are = are
frames_any issued m [] (f ∷ frames) are = absurd are
frames_any issued m (d ∷ ds) [] are = absurd are
frames_any issued m (d ∷ ds) (f ∷ frames) are = (frame_any issued m d f are.0, frames_any issued (counted m d) ds frames are.1)

pub first_any : (issued : ℕ) (m : Machine) (ds : List Delivery) (frames : List SentFrame) → AreFramesOf (take (length frames) (answers_to m ds)) frames → AreFramesOf (take (length frames) (numbered issued m ds)) frames
first_any issued m ds [] are = tt
first_any issued m [] (f ∷ frames) are = absurd are
first_any issued m (d ∷ ds) (f ∷ frames) are = (frame_any issued m d f are.0, first_any issued (counted m d) ds frames are.1)

pub counted-append : (m : Machine) (xs ys : List Delivery) → counted_all (counted_all m xs) ys ≡ counted_all m (xs ++ ys)
counted-append m xs ys = sym (fold-append counted m xs ys)

-- the vehicle stays
pub counted-vehicle : (m : Machine) (ds : List Delivery) → (counted_all m ds).vehicle ≡ m.vehicle
counted-vehicle m [] = refl
counted-vehicle m (d ∷ ds) = counted-vehicle (counted m d) ds

pub raised-more : (n j k : ℕ) → raised_by k (raised_by j n) ≡ raised_by (j + k) n
raised-more n j k = omega arith

sent_as : (v w : Bool) (p q : ℕ) (m : Message) (xs ys : List ℕ) → v ≡ w → p ≡ q → ys ≡ xs → IsSent v p 1 1 m xs → IsSent w q 1 1 m ys
sent_as v w p q m xs ys version sequence bytes sent =
    subst (λ (l : List ℕ). IsSent w q 1 1 m l) (sym bytes) (subst (λ (n : ℕ). IsSent w n 1 1 m xs) sequence (subst (λ (b : Bool). IsSent b p 1 1 m xs) version sent))

-- the frame of one delivery
pub delivered : (old node : Node) (to : ℕ) (content : Content) (m : Message) (v : Bool) (xs ys : List ℕ) → old ≡ node → Tells content m → v ≡ speaks_v2 old.machine.vehicle to
    → ys ≡ xs → IsSent v (slice_index old.machine.sequences to) 1 1 m xs → AreFramesOf (answers_to node.machine (delivery to content ∷ [])) (sent_frame to ys ∷ [])
delivered old node to content m v xs ys is tells version bytes sent = (
  record {
    peer = refl;
    message = m;
    tells = tells;
    sent = sent_as v (speaks_v2 node.machine.vehicle to) (slice_index old.machine.sequences to) (slice_index node.machine.sequences to) m xs ys
        (version ∙ ap (λ (n : Node). speaks_v2 n.machine.vehicle to) is) (ap (λ (n : Node). slice_index n.machine.sequences to) is) bytes sent;
  },
  tt,
)

module _ (answers : List Answer) (f : SentFrame) (is : AreFramesOf answers (f ∷ [])) where
  sends_one : (s o : Outcome) → Sends f s o → SendsPrefix answers s o
  sends_one s o step = record {
    words = ap (λ (o : Outcome). o.words) step;
    events = ap (λ (o : Outcome). o.events) step;
    sent = f ∷ [];
    frames = ap (λ (o : Outcome). o.frames) step;
    first = frames_all answers (f ∷ []) is;
  }

  sends_maybe : (s o : Outcome) → Either Unchanged (Sends f) s o → SendsPrefix answers s o
  sends_maybe s o step = ⊎_elim
      (λ (still : _). record {
        words = ap (λ (o : Outcome). o.words) still;
        events = ap (λ (o : Outcome). o.events) still;
        sent = [];
        frames = ap (λ (o : Outcome). o.frames) still ∙ sym (append-nil s.frames);
        first = tt;
      })
      (λ (sent : _). sends_one s o sent) step

  sends_so : {T E : Type 0} (r : Result T E) (s o : Outcome) → ByResult r (Sends f) (Either Unchanged (Sends f)) s o → SendsPrefix answers s o
  sends_so (Ok x) s o step = sends_one s o step
  sends_so (Err e) s o step = sends_maybe s o step

  -- a loss inside one sending
  pub one_losses : {B : Type 0} (g : Ghosts B) {a b : B} {T E : Type 0} (r : Result T E)
      → Passes g a b (Either Unchanged (Sends f)) (ByResult r (Sends f) (Either Unchanged (Sends f))) → Passes g a b (SendsPrefix answers) (SendsPrefix answers)
  one_losses g r time = weaker (SendsPrefix answers) (SendsPrefix answers) time (λ s o now step. sends_maybe s o step) (λ s o now step. sends_so r s o step)

-- a prefix of some answers is one of more
pub prefix_more : (m : Machine) (xs ys : List Delivery) (s o : Outcome) → SendsPrefix (answers_to m xs) s o → SendsPrefix (answers_to m (xs ++ ys)) s o
prefix_more m xs ys s o some = record {
  words = some.words;
  events = some.events;
  sent = some.sent;
  frames = some.frames;
  first = subst (λ (l : List Answer). AreFramesOf (take (length some.sent) l) some.sent) (sym (numbered-append 0 m xs ys))
      (frames_front (answers_to m xs) (answers_to (counted_all m xs) ys) some.sent some.first);
}

-- one sending, whether it failed or not
pub one_list : {B : Type 0} (g : Ghosts B) (f : SentFrame) (a b : B) → ((e : List Received) (l : List SentFrame) → g.has_lists a e l → g.has_lists b e (l ++ f ∷ [])) → MaySend g a b
one_list g f a b lists e l stood = (f ∷ [], lists e l stood)

pub either_list : {B : Type 0} (g : Ghosts B) (f : SentFrame) (a b : B)
    → ((e : List Received) (l : List SentFrame) → g.has_lists a e l → g.has_lists b e l ⊎ g.has_lists b e (l ++ f ∷ [])) → MaySend g a b
either_list g f a b lists e l stood = ⊎_elim
    (λ (kept : _). ([], subst (g.has_lists b e) (sym (append-nil l)) kept))
    (λ (sent : _). (f ∷ [], sent)) (lists e l stood)

module _ {B : Type 0} (g : Ghosts B) where
  pub one_here : (f : SentFrame) (a b : B) → ((o : Outcome) → g.now b o → After (g.now a) (Sends f) o) → (o : Outcome) → g.now b o → After (g.now a) (SendsFrames (f ∷ [])) o
  one_here f a b here o now =
      let at = here o now in
      record {
        from = at.from;
        was = at.was;
        steps = record {
          words = ap (λ (o : Outcome). o.words) at.steps;
          events = ap (λ (o : Outcome). o.events) at.steps;
          frames_are = ap (λ (o : Outcome). o.frames) at.steps;
        };
      }

  -- nothing is sent
  pub sent_none : (node : Node) (b : B) → SendDone g [] node b (Ok tt) node b
  sent_none node b = record {
    losses = begun g b (SendsPrefix []) (λ o now. record { words = refl; events = refl; sent = []; frames = sym (append-nil o.frames); first = tt });
    lists = lists_kept g b b (λ e f stood. stood);
    done = record {
      frames = [];
      sent = record { budget = refl; lines = refl; machine = refl; rests = refl; frames_are = tt; frame_count = omega arith; line_count = refl };
      told = record {
        lists = λ e f stood. subst (g.has_lists b e) (sym (append-nil f)) stood;
        here = λ o now. record { from = o; was = now; steps = record { words = refl; events = refl; frames_are = sym (append-nil o.frames) } };
        receptions = refl;
      };
      still = record { erases = refl };
    };
    stopped = tt;
  }

  -- some deliveries, and then others
  module _ (xs ys : List Delivery) (old : Node) (a : B) (mid : Node) (b : B) (first : SentAll g xs old a mid b) where
    answers_mid : answers_to old.machine xs ++ answers_to mid.machine ys ≡ answers_to old.machine (xs ++ ys)
    answers_mid = ap (λ (m : Machine). answers_to old.machine xs ++ answers_to m ys) first.sent.machine ∙ sym (numbered-append 0 old.machine xs ys)

    pub sent_then : (new : Node) (c : B) → SentAll g ys mid b new c → SentAll g (xs ++ ys) old a new c
    sent_then new c second = record {
      frames = first.frames ++ second.frames;
      sent = record {
        budget = second.sent.budget ∙ first.sent.budget;
        lines = second.sent.lines ∙ first.sent.lines;
        machine = second.sent.machine ∙ ap (λ (m : Machine). counted_all m ys) first.sent.machine ∙ counted-append old.machine xs ys;
        rests = second.sent.rests ∙ first.sent.rests;
        frames_are = subst (λ (l : List Answer). AreFramesOf l (first.frames ++ second.frames)) answers_mid
            (frames-append (answers_to old.machine xs) (answers_to mid.machine ys) first.frames second.frames first.sent.frames_are second.sent.frames_are);
        frame_count = second.sent.frame_count ∙ ap (λ (n : ℕ). raised_by (length second.frames) n) first.sent.frame_count
            ∙ raised-more old.frames (length first.frames) (length second.frames)
            ∙ ap (λ (n : ℕ). raised_by n old.frames) (sym (length-append first.frames second.frames));
        line_count = second.sent.line_count ∙ first.sent.line_count;
      };
      told = record {
        lists = λ e f stood. subst (g.has_lists c e) (append_assoc f first.frames second.frames) (second.told.lists e (f ++ first.frames) (first.told.lists e f stood));
        here = λ o now.
            let n = second.told.here o now in
            let m = first.told.here n.from n.was in
            record {
              from = m.from;
              was = m.was;
              steps = record {
                words = n.steps.words ∙ m.steps.words;
                events = n.steps.events ∙ m.steps.events;
                frames_are = n.steps.frames_are ∙ ap (λ (l : List SentFrame). l ++ second.frames) m.steps.frames_are ∙ append_assoc m.from.frames first.frames second.frames;
              };
            };
        receptions = second.told.receptions ∙ first.told.receptions;
      };
      still = record { erases = second.still.erases ∙ first.still.erases };
    }

    then_some : (s m o : Outcome) → SendsFrames first.frames s m → SendsPrefix (answers_to mid.machine ys) m o → SendsPrefix (answers_to old.machine (xs ++ ys)) s o
    then_some s m o all some = record {
      words = some.words ∙ all.words;
      events = some.events ∙ all.events;
      sent = first.frames ++ some.sent;
      frames = some.frames ∙ ap (λ (l : List SentFrame). l ++ some.sent) all.frames_are ∙ append_assoc s.frames first.frames some.sent;
      first = subst (λ (l : List Answer). AreFramesOf (take (length (first.frames ++ some.sent)) l) (first.frames ++ some.sent)) answers_mid
          (frames_over (answers_to old.machine xs) (answers_to mid.machine ys) first.frames some.sent first.sent.frames_are some.first);
    }

    pub losses_then : (c : B) → Passes g a b (SendsPrefix (answers_to old.machine xs)) (SendsPrefix (answers_to old.machine xs))
        → Passes g b c (SendsPrefix (answers_to mid.machine ys)) (SendsPrefix (answers_to mid.machine ys))
        → Passes g a c (SendsPrefix (answers_to old.machine (xs ++ ys))) (SendsPrefix (answers_to old.machine (xs ++ ys)))
    losses_then c before now =
        let all : Passes g a b (SendsPrefix (answers_to old.machine xs)) (SendsFrames first.frames) =
        record { later = before.later; inside = before.inside; here = first.told.here; keeps = before.keeps } in
        let whole = SendsPrefix (answers_to old.machine (xs ++ ys)) in
        chained whole whole all now (prefix_more old.machine xs ys) (λ s m o is all some. then_some s m o all some) (λ s m o is all some. then_some s m o all some)

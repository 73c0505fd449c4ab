-- A station's bytes, one after another.
use Rattle.std.proofs.Common.{◌≡◌, inl, inr, ℕ, ◌+◌, ◌<◌, length, take, drop, get_or, take-append-drop, List, [], ◌∷◌, ◌++◌, refl, sym, ◌∙◌, ap, subst, append_assoc, arith, Bool, Option, Some, None, Result, Ok, Err}
use Rattle.std.specs.Prelude.{⊤, IsOk, IsErrAnd, MatchOption, slice_get, slice_set, option_to_list}
use Rattle.std.proofs.lemmas.List.{append-nil, take_more, drop-take, take-take}
use Rattle.std.proofs.lemmas.Result.{IfErr-weaker}
use Rattle.flash_traits.specs.declared.board.Board.{Ghosts}
use Rattle.flash_traits.specs.Losses.{SentFrame, Outcome}
use Rattle.flash_traits.proofs.Moments.{weaker}
use Rattle.mav_frames.specs.Cut.{Pushes, Whole}
use Rattle.mav_frames.specs.Frames.{is_v2, IsReadFrom}
use Rattle.mav_frames.specs.declared.frames.Frame.{Frame as Read}
use Rattle.vehicle_core.specs.Acts.{Act, Said, heard_as}
use Rattle.vehicle_runs.specs.Arming.{IsArmedOnce}
use Rattle.vehicle_runs.specs.Reading.{AreSaid, IsHeard}
use Rattle.vehicle_runs.specs.Runs.{Run, all_acts}
use Rattle.vehicle_runs.proofs.Orders.{once_after}
use Rattle.vehicle_runs.proofs.Readings.{rest_kept, heard_nothing, heard_more}
use Rattle.vehicle_node.specs.declared.NodeError.{NodeError}
use Rattle.vehicle_node.specs.Standing.{Node, Fits, armed_in}
use Rattle.vehicle_node.specs.Steps.Calls.{WornWhere}
use Rattle.vehicle_node.specs.Steps.Answering.{FrameDone, ActDone}
use Rattle.vehicle_node.specs.Steps.Hearing.{Pushed, KeepsButRests, HasRest, IsFront, StandsBelow, SafeIn, AnsweredAll, ActsAnswered, ActsDone, SafeHearing, SafeHeard, ArmedHearing, WearingHearing, MayWearIn, HeardAll, HearDone}
use Rattle.vehicle_node.proofs.At.{stands_same}
use Rattle.vehicle_node.proofs.Putting.{now_stands, now_within}
use Rattle.vehicle_node.proofs.Passing.{on_ok, cut_call, begun, going_on, lists_kept, lists_then}
use Rattle.vehicle_node.proofs.ActsDone.{worn_later, wears_after, inside_still, inside_after, answered_none, answered_then, acts_none, acts_one, below_then}

heard_push : (station byte : ℕ) (frame : Option (List ℕ)) (old new : List (List ℕ)) (said : List Act) → Pushed station byte frame old new → AreSaid station (option_to_list frame) said → IsHeard station (byte ∷ []) old said new
heard_push station byte frame old new said p are = record {
  rest = p.rest;
  rest_is = p.rest_is;
  pieces = p.pushes.pieces;
  new_rest = p.new_rest;
  cut = p.pushes.cut;
  are_said = subst (λ (l : List (List ℕ)). AreSaid station l said) (sym p.pushes.frames) are;
  new_is = p.new_is;
}

-- a node with other rests is where the run is
below_same : (limit : ℕ) (old : Node) (rests : List (List ℕ)) (b : List ℕ) (r : Run) (sent : List SentFrame) → StandsBelow limit old b r sent → StandsBelow limit (record old { rests = rests }) b r sent
below_same limit old rests b r sent s = record { at = stands_same old b r sent s.at rests; ahead = s.ahead }

answered_from : {B : Type 0} (g : Ghosts B) (old : Node) (rests : List (List ℕ)) (board : B) (acts : List Act) (new : Node) (last : B) → AnsweredAll g (record old { rests = rests }) board acts new last → AnsweredAll g old board acts new last
answered_from g old rests board acts new last a = record {
  frames = a.frames;
  sent = a.sent;
  stands = λ b r sent at. a.stands b r sent (stands_same old b r sent at rests);
  issued = a.issued;
  grew = λ b r sent at. a.grew b r sent (stands_same old b r sent at rests);
  counted = a.counted;
  put = a.put;
  split = a.split;
  few = a.few;
  ahead = a.ahead;
  budget = a.budget;
  armed = a.armed;
  alone = a.alone;
  still = a.still;
  unworn = a.unworn;
}

at_ok_result : (result : Result ⊤ NodeError) (P : Result ⊤ NodeError → Type 0) → IsOk result → P (Ok tt) → P result
at_ok_result (Ok v) P ok p = p
at_ok_result (Err e) P ok p = absurd (cc)

-- a whole frame leaves the rests as they are
heard_front : (station : ℕ) (bytes : List ℕ) (rests : List (List ℕ)) (said : List Act) → IsFront station bytes rests → AreSaid station (bytes ∷ []) said → IsHeard station bytes rests said rests
heard_front station bytes rests said front are =
    record {
      rest = [];
      rest_is = front.rest_is;
      pieces = Whole bytes ∷ [];
      new_rest = [];
      cut = front.cut;
      are_said = are;
      new_is = sym (rest_kept rests station [] front.rest_is);
    }

module _ {B : Type 0} (g : Ghosts B) (reads : (b : B) (o : Outcome) → g.now b o → g.tells b × (o.words ≡ g.words b)) where
  -- no byte yet
  pub hear_none : (node : Node) (board : B) (station : ℕ) → Fits g board node → HasRest station node.rests → HearDone g node board station [] (Ok tt) node board
  hear_none node board station fits has =
      let heard = heard_nothing node.rests station has.rest has.rest_is has.cut in
      record {
        losses = begun g board (SafeHeard station [] node) (λ s is limit b r sent below. record {
          first = [];
          more = [];
          split = refl;
          said = [];
          mid = node.rests;
          heard = heard;
          inside = inside_still node limit b r sent below s (now_stands g reads board node.lines.store fits.store s is) (now_within g reads board node fits.store s is);
        });
        lists = lists_kept g board board (λ e f stood. stood);
        done = record { said = []; heard = heard; answered = answered_none g node board };
        stopped = tt;
      }

  -- acts that bytes say, where the node has the rests after them
  heard_by : (old : Node) (rests : List (List ℕ)) (board : B) (station : ℕ) (bytes : List ℕ) (said : List Act) (result : Result ⊤ NodeError) (new : Node) (last : B) → IsHeard station bytes old.rests said rests → ActsDone g (record old { rests = rests }) board said result new last → HearDone g old board station bytes result new last
  heard_by old rests board station bytes said result new last heard d =
      let mid : Node = record old { rests = rests } in
      let S = SafeHeard station bytes old in
      let inside : (s o : Outcome) → SafeIn mid said s o → S s o = λ s o x limit b r sent below. record {
        first = bytes;
        more = [];
        split = append-nil bytes;
        said = said;
        mid = rests;
        heard = heard;
        inside = x limit b r sent (below_same limit old rests b r sent below);
      } in
      record {
        losses = weaker S S d.losses (λ s o is x. inside s o x) (λ s o is x. inside s o x);
        lists = d.lists;
        done = on_ok result (ActsAnswered g mid board said new last) (HeardAll g old board station bytes new last)
            (λ all. record {
              said = said;
              heard = subst (IsHeard station bytes old.rests said) (sym all.rests) heard;
              answered = answered_from g old rests board said new last all.answered;
            })
            d.done;
        stopped = IfErr-weaker result (WornWhere g mid (IsArmedOnce (armed_in mid) said) (MayWearIn mid said) new last) (WornWhere g old (ArmedHearing station bytes old) (WearingHearing station bytes old) new last)
            (λ e worn. worn_later g old mid (IsArmedOnce (armed_in mid) said) (ArmedHearing station bytes old) new last e (λ unless. unless)
            (λ once. record { first = bytes; more = []; split = append-nil bytes; said = said; mid = rests; heard = heard; armed = once })
            (λ wears. record {
              first = bytes;
              more = [];
              split = append-nil bytes;
              said = said;
              mid = rests;
              heard = heard;
              enough = λ limit b r sent below. wears limit b r sent (below_same limit old rests b r sent below);
            }) worn) d.stopped;
      }

  -- a whole frame, where the station has no rest before it
  pub hear_whole : (old : Node) (board : B) (station : ℕ) (bytes : List ℕ) (result : Result ⊤ NodeError) (new : Node) (last : B)
      → Fits g board old → IsFront station bytes old.rests → FrameDone g old board station bytes result new last → HearDone g old board station bytes result new last
  hear_whole old board station bytes result new last fits front d =
      let heard : (said : List Act) → AreSaid station (bytes ∷ []) said → IsHeard station bytes old.rests said old.rests = λ said are. heard_front station bytes old.rests said front are in
      elim d [
        | inl silent ↦
            at_ok_result result (λ t. HearDone g old board station bytes t new last) silent.1
            (subst (λ (n : Node). HearDone g old board station bytes (Ok tt) n last) (sym silent.2)
            (subst (λ (l : B). HearDone g old board station bytes (Ok tt) old l) (sym silent.3)
            (heard_by old old.rests board station bytes [] (Ok tt) old board (heard [] (inl (silent.0, refl))) (acts_none g reads old board fits.store))))
        | inr says ↦
            let said = Said station (heard_as (is_v2 bytes) says.0) in
            heard_by old old.rests board station bytes (said ∷ []) result new last (heard (said ∷ []) (inr (says.0, [], says.1, refl, refl)))
            (acts_one g old board said result new last says.2)
      ]

  module _ (old : Node) (rests : List (List ℕ)) (board : B) (station byte : ℕ) (frame : Option (List ℕ)) (p : Pushed station byte frame old.rests rests) where
    -- acts that a byte says, where the node has the rests after it
    heard_acts : (said : List Act) (result : Result ⊤ NodeError) (new : Node) (last : B) → AreSaid station (option_to_list frame) said → ActsDone g (record old { rests = rests }) board said result new last → HearDone g old board station (byte ∷ []) result new last
    heard_acts said result new last are d = heard_by old rests board station (byte ∷ []) said result new last (heard_push station byte frame old.rests rests said p are) d

    -- a byte by which nothing is said
    silent_byte : Fits g board old → AreSaid station (option_to_list frame) [] → HearDone g old board station (byte ∷ []) (Ok tt) (record old { rests = rests }) board
    silent_byte fits silent =
        let mid : Node = record old { rests = rests } in
        heard_acts [] (Ok tt) mid board silent (acts_none g reads mid board fits.store)

  pub hear_silent : (old mid : Node) (board : B) (station byte : ℕ) (frame : Option (List ℕ)) → Fits g board old → KeepsButRests old mid → Pushed station byte frame old.rests mid.rests → AreSaid station (option_to_list frame) []
      → HearDone g old board station (byte ∷ []) (Ok tt) mid board
  hear_silent old mid board station byte frame fits same p silent =
      subst (λ (n : Node). HearDone g old board station (byte ∷ []) (Ok tt) n board) (sym same) (silent_byte old mid.rests board station byte frame p fits silent)

  -- a byte by which a frame is whole
  pub hear_frame : (old mid : Node) (board : B) (station byte : ℕ) (bytes : List ℕ) (result : Result ⊤ NodeError) (new : Node) (last : B)
      → Fits g board old → KeepsButRests old mid → Pushed station byte (Some bytes) old.rests mid.rests → FrameDone g mid board station bytes result new last
      → HearDone g old board station (byte ∷ []) result new last
  hear_frame old mid board station byte bytes result new last fits same p d = elim d [
    | inl silent ↦
        at_ok_result result (λ t. HearDone g old board station (byte ∷ []) t new last) silent.1
        (subst (λ (n : Node). HearDone g old board station (byte ∷ []) (Ok tt) n last) (sym silent.2)
        (subst (λ (l : B). HearDone g old board station (byte ∷ []) (Ok tt) mid l) (sym silent.3)
        (hear_silent old mid board station byte (Some bytes) fits same p (inl (silent.0, refl)))))
    | inr says ↦
        let said = Said station (heard_as (is_v2 bytes) says.0) in
        let done : ActDone g (record old { rests = mid.rests }) board said result new last = subst (λ (n : Node). ActDone g n board said result new last) same says.2 in
        heard_acts old mid.rests board station byte (Some bytes) p (said ∷ []) result new last (inr (says.0, [], says.1, refl, refl))
        (acts_one g (record old { rests = mid.rests }) board said result new last done)
  ]

hearing_sooner : (station : ℕ) (xs ys : List ℕ) (node : Node) (limit : ℕ) (b : List ℕ) (r : Run) (sent : List SentFrame) (s o : Outcome) → SafeHearing station xs node limit b r sent s o → SafeHearing station (xs ++ ys) node limit b r sent s o
hearing_sooner station xs ys node limit b r sent s o x = record {
  first = x.first;
  more = x.more ++ ys;
  split = sym (append_assoc x.first x.more ys) ∙ ap (λ (l : List ℕ). l ++ ys) x.split;
  said = x.said;
  mid = x.mid;
  heard = x.heard;
  inside = x.inside;
}

armed_sooner : (station : ℕ) (xs ys : List ℕ) (node : Node) → ArmedHearing station xs node → ArmedHearing station (xs ++ ys) node
armed_sooner station xs ys node x = record {
  first = x.first;
  more = x.more ++ ys;
  split = sym (append_assoc x.first x.more ys) ∙ ap (λ (l : List ℕ). l ++ ys) x.split;
  said = x.said;
  mid = x.mid;
  heard = x.heard;
  armed = x.armed;
}

wearing_sooner : (station : ℕ) (xs ys : List ℕ) (node : Node) → WearingHearing station xs node → WearingHearing station (xs ++ ys) node
wearing_sooner station xs ys node x = record {
  first = x.first;
  more = x.more ++ ys;
  split = sym (append_assoc x.first x.more ys) ∙ ap (λ (l : List ℕ). l ++ ys) x.split;
  said = x.said;
  mid = x.mid;
  heard = x.heard;
  enough = x.enough;
}

-- so many bytes, and so many after them
take_add : (at count : ℕ) (bytes : List ℕ) → take (at + count) bytes ≡ take at bytes ++ take count (drop at bytes)
take_add at count bytes =
    sym (take-append-drop at (take (at + count) bytes))
    ∙ ap (λ (l : List ℕ). l ++ drop at (take (at + count) bytes)) (take-take at (at + count) bytes (omega arith))
    ∙ ap (λ (l : List ℕ). take at bytes ++ l) (drop-take at count bytes)

module _ {B : Type 0} (g : Ghosts B) where
  -- bytes after others
  pub hear_then : (old : Node) (board : B) (station : ℕ) (xs ys : List ℕ) (mid : Node) (mid_board : B) (result : Result ⊤ NodeError) (new : Node) (last : B)
      → HearDone g old board station xs (Ok tt) mid mid_board → HearDone g mid mid_board station ys result new last → HearDone g old board station (xs ++ ys) result new last
  hear_then old board station xs ys mid mid_board result new last first second =
      let all : HeardAll g old board station xs mid mid_board = first.done in
      let answered = all.answered in
      let S = SafeHeard station (xs ++ ys) old in
      record {
        losses = going_on g S [] answered.frames
            (weaker S S first.losses
            (λ s o is x limit b r sent below. hearing_sooner station xs ys old limit b r sent s o (x limit b r sent below))
            (λ s o is x limit b r sent below. hearing_sooner station xs ys old limit b r sent s o (x limit b r sent below)))
            answered.sent.here second.losses
            (λ s m o was is adds y limit b r sent below.
            let x = y limit b (all_acts old.budget b r all.said) (sent ++ answered.frames) (below_then g limit old board all.said mid mid_board b r sent answered below) in
            record {
              first = xs ++ x.first;
              more = x.more;
              split = append_assoc xs x.first x.more ∙ ap (λ (l : List ℕ). xs ++ l) x.split;
              said = all.said ++ x.said;
              mid = x.mid;
              heard = heard_more station xs x.first old.rests mid.rests x.mid all.said x.said all.heard x.heard;
              inside = inside_after g limit old board all.said mid mid_board x.said b r sent answered s m o adds x.inside;
            });
        lists = lists_then g board mid_board last first.lists second.lists;
        done = on_ok result (HeardAll g mid mid_board station ys new last) (HeardAll g old board station (xs ++ ys) new last)
            (λ more. record {
              said = all.said ++ more.said;
              heard = heard_more station xs ys old.rests mid.rests new.rests all.said more.said all.heard more.heard;
              answered = answered_then g old board all.said mid mid_board more.said new last answered more.answered;
            })
            second.done;
        stopped = IfErr-weaker result (WornWhere g mid (ArmedHearing station ys mid) (WearingHearing station ys mid) new last)
            (WornWhere g old (ArmedHearing station (xs ++ ys) old) (WearingHearing station (xs ++ ys) old) new last)
            (λ e worn. worn_later g old mid (ArmedHearing station ys mid) (ArmedHearing station (xs ++ ys) old) new last e answered.alone
            (λ x. record {
              first = xs ++ x.first;
              more = x.more;
              split = append_assoc xs x.first x.more ∙ ap (λ (l : List ℕ). xs ++ l) x.split;
              said = all.said ++ x.said;
              mid = x.mid;
              heard = heard_more station xs x.first old.rests mid.rests x.mid all.said x.said all.heard x.heard;
              armed = once_after (armed_in old) all.said x.said (subst (λ (b : Bool). IsArmedOnce b x.said) answered.armed x.armed);
            })
            (λ x. record {
              first = xs ++ x.first;
              more = x.more;
              split = append_assoc xs x.first x.more ∙ ap (λ (l : List ℕ). xs ++ l) x.split;
              said = all.said ++ x.said;
              mid = x.mid;
              heard = heard_more station xs x.first old.rests mid.rests x.mid all.said x.said all.heard x.heard;
              enough = wears_after g old board all.said mid mid_board x.said answered x.enough;
            }) worn) second.stopped;
      }

  -- one byte more of a datagram
  pub hear_next : (old : Node) (board : B) (station : ℕ) (bytes : List ℕ) (at : ℕ) → at < length bytes → (mid : Node) (mid_board : B) (result : Result ⊤ NodeError) (new : Node) (last : B)
      → HearDone g old board station (take at bytes) (Ok tt) mid mid_board → HearDone g mid mid_board station (get_or bytes at 0 ∷ []) result new last → HearDone g old board station (take (at + 1) bytes) result new last
  hear_next old board station bytes at lt mid mid_board result new last first second =
      subst (λ (l : List ℕ). HearDone g old board station l result new last) (sym (take_more bytes at 0 lt)) (hear_then old board station (take at bytes) (get_or bytes at 0 ∷ []) mid mid_board result new last first second)

  -- where only a prefix of the bytes was heard
  pub hear_cut : (old : Node) (board : B) (station : ℕ) (bytes : List ℕ) (at : ℕ) → at < length bytes → (mid : Node) (mid_board : B) (e : NodeError) (result : Result ⊤ NodeError) (new : Node) (last : B) → IsErrAnd result (λ d. d ≡ e)
      → HearDone g old board station (take at bytes) (Ok tt) mid mid_board → HearDone g mid mid_board station (get_or bytes at 0 ∷ []) (Err e) new last → HearDone g old board station bytes result new last
  hear_cut old board station bytes at lt mid mid_board e result new last err first second =
      let some = hear_next old board station bytes at lt mid mid_board (Err e) new last first second in
      cut_call g (WornWhere g old (ArmedHearing station bytes old) (WearingHearing station bytes old) new last) (HeardAll g old board station bytes new last) board last e result some err
      (λ s o is x limit b r sent below. subst (λ (l : List ℕ). SafeHearing station l old limit b r sent s o) (take-append-drop (at + 1) bytes)
      (hearing_sooner station (take (at + 1) bytes) (drop (at + 1) bytes) old limit b r sent s o (x limit b r sent below)))
      (worn_later g old old (ArmedHearing station (take (at + 1) bytes) old) (ArmedHearing station bytes old) new last e (λ unless. unless)
      (λ x. subst (λ (l : List ℕ). ArmedHearing station l old) (take-append-drop (at + 1) bytes) (armed_sooner station (take (at + 1) bytes) (drop (at + 1) bytes) old x))
      (λ x. subst (λ (l : List ℕ). WearingHearing station l old) (take-append-drop (at + 1) bytes) (wearing_sooner station (take (at + 1) bytes) (drop (at + 1) bytes) old x)))

  -- more bytes of a datagram
  pub hear_more : (old : Node) (board : B) (station : ℕ) (bytes : List ℕ) (at count : ℕ) (mid : Node) (mid_board : B) (result : Result ⊤ NodeError) (new : Node) (last : B)
      → HearDone g old board station (take at bytes) (Ok tt) mid mid_board → HearDone g mid mid_board station (take count (drop at bytes)) result new last → HearDone g old board station (take (at + count) bytes) result new last
  hear_more old board station bytes at count mid mid_board result new last first second =
      subst (λ (l : List ℕ). HearDone g old board station l result new last) (sym (take_add at count bytes)) (hear_then old board station (take at bytes) (take count (drop at bytes)) mid mid_board result new last first second)

  -- where only a prefix of them was heard
  pub hear_more_cut : (old : Node) (board : B) (station : ℕ) (bytes : List ℕ) (at count : ℕ) (mid : Node) (mid_board : B) (e : NodeError) (result : Result ⊤ NodeError) (new : Node) (last : B) → IsErrAnd result (λ d. d ≡ e)
      → HearDone g old board station (take at bytes) (Ok tt) mid mid_board → HearDone g mid mid_board station (take count (drop at bytes)) (Err e) new last → HearDone g old board station bytes result new last
  hear_more_cut old board station bytes at count mid mid_board e result new last err first second =
      let some = hear_more old board station bytes at count mid mid_board (Err e) new last first second in
      cut_call g (WornWhere g old (ArmedHearing station bytes old) (WearingHearing station bytes old) new last) (HeardAll g old board station bytes new last) board last e result some err
      (λ s o is x limit b r sent below. subst (λ (l : List ℕ). SafeHearing station l old limit b r sent s o) (take-append-drop (at + count) bytes)
      (hearing_sooner station (take (at + count) bytes) (drop (at + count) bytes) old limit b r sent s o (x limit b r sent below)))
      (worn_later g old old (ArmedHearing station (take (at + count) bytes) old) (ArmedHearing station bytes old) new last e (λ unless. unless)
      (λ x. subst (λ (l : List ℕ). ArmedHearing station l old) (take-append-drop (at + count) bytes) (armed_sooner station (take (at + count) bytes) (drop (at + count) bytes) old x))
      (λ x. subst (λ (l : List ℕ). WearingHearing station l old) (take-append-drop (at + count) bytes) (wearing_sooner station (take (at + count) bytes) (drop (at + count) bytes) old x)))

-- what the cutter makes of a byte, in the list of all rests
pub pushed_by : (result : Option Read) (station byte : ℕ) (old new : List (List ℕ)) (rest new_rest : List ℕ) → slice_get old station ≡ Some rest → new ≡ slice_set old station new_rest
    → MatchOption result (Pushes rest byte None new_rest) (λ frame. (bytes : List ℕ) × Pushes rest byte (Some bytes) new_rest × IsReadFrom bytes frame)
    → MatchOption result (Pushed station byte None old new) (λ frame. (bytes : List ℕ) × Pushed station byte (Some bytes) old new × IsReadFrom bytes frame)
pushed_by None station byte old new rest new_rest is new_is p = record { rest = rest; rest_is = is; new_rest = new_rest; pushes = p; new_is = new_is }
pushed_by (Some frame) station byte old new rest new_rest is new_is p = (p.0, record { rest = rest; rest_is = is; new_rest = new_rest; pushes = p.1; new_is = new_is }, p.2)

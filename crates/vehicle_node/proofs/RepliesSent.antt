-- Replies sent one after another.
use Rattle.std.proofs.Common.{◌≡◌, ℕ, zero, suc, ◌+◌, ◌-◌, ◌<◌, ◌≤◌, false, List, [], ◌∷◌, ◌++◌, length, take, drop, get_or, map, Result, Ok, Err, refl, sym, ◌∙◌, ap, subst, arith, append-nil, take-append-drop}
use Rattle.std.specs.Prelude.{⊤, IsErrAnd, filter}
use Rattle.std.specs.List.{range_with_len}
use Rattle.std.proofs.lemmas.List.{map-append}
use Rattle.std.proofs.lemmas.List.Elements.{filter-append}
use Rattle.std.proofs.lemmas.Grind.{flat_map-append}
use Rattle.flash_traits.specs.declared.board.Board.{Ghosts}
use Rattle.mav_messages.specs.declared.messages.Reply.{Reply}
use Rattle.vehicle_core.specs.Vehicle.{Vehicle, Content, Told, is_heard}
use Rattle.vehicle_core.specs.Replies.{IsReplyOf, AreRepliesOf}
use Rattle.vehicle_runs.specs.Frames.{Machine, Delivery, stations, deliveries, deliveries_of}
use Rattle.vehicle_node.specs.declared.NodeError.{NodeError}
use Rattle.vehicle_node.specs.Standing.{Node}
use Rattle.vehicle_node.specs.Steps.Sending.{SentAll, SendDone, delivery, deliveries_to}
use Rattle.vehicle_node.proofs.FramesSent.{counted-vehicle, prefix_more, sent_none, sent_then, losses_then}
use Rattle.vehicle_node.proofs.Passing.{on_ok, cut_call, no_stop, lists_then}

module _ {B : Type 0} (g : Ghosts B) where
  pub done_none : (ds : List Delivery) (node : Node) (b : B) → ds ≡ [] → SendDone g ds node b (Ok tt) node b
  done_none ds node b none = subst (λ (ds : List Delivery). SendDone g ds node b (Ok tt) node b) (sym none) (sent_none g node b)

  -- some deliveries are sent, and then others, or this is cut short
  pub done_then : (xs ys zs : List Delivery) (old : Node) (a : B) (mid : Node) (b : B) (r : Result ⊤ NodeError) (new : Node) (c : B)
      → SendDone g xs old a (Ok tt) mid b → SendDone g ys mid b r new c → zs ≡ xs ++ ys → SendDone g zs old a r new c
  done_then xs ys zs old a mid b r new c first second is =
      let sent : SentAll g xs old a mid b = first.done in
      subst (λ (ds : List Delivery). SendDone g ds old a r new c) (sym is) (record {
        losses = losses_then g xs ys old a mid b sent c first.losses second.losses;
        lists = lists_then g a b c first.lists second.lists;
        stopped = no_stop r;
        done = on_ok r (SentAll g ys mid b new c) (SentAll g (xs ++ ys) old a new c) (λ more. sent_then g xs ys old a mid b sent new c more) second.done;
      })

  -- more was to be sent
  pub done_short : (xs ys zs : List Delivery) (old : Node) (a : B) (e : NodeError) (r : Result ⊤ NodeError) (new : Node) (c : B)
      → SendDone g xs old a (Err e) new c → IsErrAnd r (λ d. d ≡ e) → zs ≡ xs ++ ys → SendDone g zs old a r new c
  done_short xs ys zs old a e r new c some err is =
      subst (λ (ds : List Delivery). SendDone g ds old a r new c) (sym is)
      (cut_call g (λ e. Unit {0}) (SentAll g (xs ++ ys) old a new c) a c e r some err (λ u o now step. prefix_more old.machine xs ys u o step) (λ s. s))

  -- the same over a vehicle that stays
  pub vehicle_stays : (ds : List Delivery) (old : Node) (a : B) (new : Node) (c : B) → SendDone g ds old a (Ok tt) new c → new.machine.vehicle ≡ old.machine.vehicle
  vehicle_stays ds old a new c d =
      let sent : SentAll g ds old a new c = d.done in
      ap (λ (m : Machine). m.vehicle) sent.sent.machine ∙ counted-vehicle old.machine ds

-- to whom it is told
pub unheard : (v : Vehicle) (station : ℕ) (content : Content) → is_heard v station ≡ false → deliveries_to v (station ∷ []) content ≡ []
unheard v station content is = rw is refl

range-split : (a m n : ℕ) → range_with_len a (m + n) ≡ range_with_len a m ++ range_with_len (a + m) n
range-split a zero n =
    let none : zero + n ≡ n = omega arith in
    let here : a ≡ a + zero = omega arith in
    ap (λ (k : ℕ). range_with_len a k) none ∙ ap (λ (k : ℕ). range_with_len k n) here
range-split a (suc m) n =
    let one : suc m + n ≡ suc (m + n) = omega arith in
    let here : (a + 1) + m ≡ a + suc m = omega arith in
    ap (λ (k : ℕ). range_with_len a k) one ∙ ap (λ (l : List ℕ). a ∷ l) (range-split (a + 1) m n ∙ ap (λ (k : ℕ). range_with_len (a + 1) m ++ range_with_len k n) here)

to-append : (v : Vehicle) (xs ys : List ℕ) (content : Content) → deliveries_to v (xs ++ ys) content ≡ deliveries_to v xs content ++ deliveries_to v ys content
to-append v xs ys content =
    ap (λ (l : List ℕ). map (λ station. delivery station content) l) (filter-append (is_heard v) xs ys)
    ∙ map-append (λ station. delivery station content) (filter (is_heard v) xs) (filter (is_heard v) ys)

pub to-more : (v : Vehicle) (n : ℕ) (content : Content) → deliveries_to v (range_with_len 0 (n + 1)) content ≡ deliveries_to v (range_with_len 0 n) content ++ deliveries_to v (n ∷ []) content
to-more v n content =
    let here : 0 + n ≡ n = omega arith in
    ap (λ (l : List ℕ). deliveries_to v l content) (range-split 0 n 1 ∙ ap (λ (k : ℕ). range_with_len 0 n ++ k ∷ []) here) ∙ to-append v (range_with_len 0 n) (n ∷ []) content

pub to-rest : (v : Vehicle) (n : ℕ) (content : Content) → n ≤ 8 → deliveries_to v stations content ≡ deliveries_to v (range_with_len 0 n) content ++ deliveries_to v (range_with_len n (8 - n)) content
to-rest v n content le =
    let eight : 8 ≡ n + (8 - n) = omega arith in
    let here : 0 + n ≡ n = omega arith in
    ap (λ (k : ℕ). deliveries_to v (range_with_len 0 k) content) eight
    ∙ ap (λ (l : List ℕ). deliveries_to v l content) (range-split 0 n (8 - n) ∙ ap (λ (k : ℕ). range_with_len 0 n ++ range_with_len k (8 - n)) here)
    ∙ to-append v (range_with_len 0 n) (range_with_len n (8 - n)) content

-- what a reply says
pub record ToldAt (told : List Told) (i : ℕ) (reply : Reply) : Type 0 where
  pub one : Told
  pub next : take (i + 1) told ≡ take i told ++ one ∷ []
  pub says : IsReplyOf one reply

pub told_at : (told : List Told) (replies : List Reply) (i : ℕ) (d : Reply) → AreRepliesOf told replies → i < length replies → ToldAt told i (get_or replies i d)
told_at [] [] i d are lt = absurd (omega arith)
told_at [] (r ∷ replies) i d are lt = absurd are
told_at (t ∷ told) [] i d are lt = absurd are
told_at (t ∷ told) (r ∷ replies) zero d are lt = record { one = t; next = refl; says = are.0 }
told_at (t ∷ told) (r ∷ replies) (suc i) d are lt =
    let at = told_at told replies i d are.1 (omega arith) in
    let here : suc i + 1 ≡ suc (i + 1) = omega arith in
    record { one = at.one; next = ap (λ (k : ℕ). take k (t ∷ told)) here ∙ ap (λ (l : List Told). t ∷ l) at.next; says = at.says }

none_told : (n : ℕ) → take n (let none : List Told = [] in none) ≡ []
none_told zero = refl
none_told (suc n) = refl

pub all_told : (told : List Told) (replies : List Reply) (n : ℕ) → AreRepliesOf told replies → length replies ≤ n → take n told ≡ told
all_told [] [] n are le = none_told n
all_told [] (r ∷ replies) n are le = absurd are
all_told (t ∷ told) [] n are le = absurd are
all_told (t ∷ told) (r ∷ replies) zero are le = absurd (omega arith)
all_told (t ∷ told) (r ∷ replies) (suc n) are le = ap (λ (l : List Told). t ∷ l) (all_told told replies n are.1 (omega arith))

pub told-more : (v : Vehicle) (told : List Told) (i : ℕ) (one : Told) → take (i + 1) told ≡ take i told ++ one ∷ [] → deliveries v (take (i + 1) told) ≡ deliveries v (take i told) ++ deliveries_of v one
told-more v told i one next =
    ap (deliveries v) next ∙ flat_map-append (deliveries_of v) (take i told) (one ∷ []) ∙ ap (λ (l : List Delivery). deliveries v (take i told) ++ l) (append-nil (deliveries_of v one))

pub told-rest : (v : Vehicle) (told : List Told) (n : ℕ) → deliveries v told ≡ deliveries v (take n told) ++ deliveries v (drop n told)
told-rest v told n = ap (deliveries v) (sym (take-append-drop n told)) ∙ flat_map-append (deliveries_of v) (take n told) (drop n told)

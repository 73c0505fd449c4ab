use Rattle.std.proofs.Common.{◌≡◌, inr, ◌+◌, List, [], ◌∷◌, ◌++◌, drop, map, true, refl, sym, ◌∙◌, ap, subst, arith, slice_get}
use Rattle.flash_traits.specs.Losses.{Moment, Outcome, Received, received, Either, Unchanged, Receives}
use Rattle.flash_board.specs.Record.{stepped, event_of}
use Rattle.flash_board.specs.Kept.{outcome_at_attach, frame_of}
use Rattle.flash_board.specs.declared.record.Feed.{Feed}
use Rattle.flash_board.specs.declared.record.Call.TheVariants as call
use Rattle.flash_board.proofs.MemCalls.{before_of, kept-push, elapses, covers}
use Rattle.flash_board.proofs.Recorded.{replayed-noted}
use Rattle.flash_board.proofs.memory.Memory.recv.Goals as goal

pub invariant_of-self : goal.invariant_of-self
invariant_of-self c = let m = c.args.self.now in record {
  kept = λ told. let was = c.note.ensures.full told in kept-push m m.image c.note.new.calls.items m.frames.items _ (call.Recv m.next true) was (c.note.ensures.noted told) refl
      (let one : c.saturating_add-self.result ≡ m.counts.receptions + 1 = omega (arith, c.note.ensures.count told) in
      ap (λ n. let t : Moment = record { programs = m.counts.programs; erases = m.counts.erases; receptions = n; sendings = m.counts.sendings } in t) one)
      (m.kept was).frames;
  room = record { calls_room = omega (arith, m.room.calls_room); calls_size = omega arith; frames_room = m.room.frames_room; frames_size = m.room.frames_size };
  shaped = m.shaped;
  attached = m.attached;
  peers = m.peers;
}

pub returns-clause-receives : goal.returns-clause-receives
returns-clause-receives c =
    let m = c.args.self.now in
    let event = c.deliver-event.ensures.event ∙ ap (λ (l : List Feed). event_of (slice_get l m.next)) c.deref.ensures.value in
    let done = subst (λ (r : Received). Receives r (before_of m) (stepped m.feed.items (call.Recv m.next true) (before_of m))) (sym event) refl in
    record {
      words = record { geometry = refl; told = c.note.ensures.full; content = λ told. refl };
      lists = λ e f stood told.
          let was = stood (c.note.ensures.full told) in
          let after = replayed-noted m.feed.items m.calls.items c.note.new.calls.items (call.Recv m.next true) (outcome_at_attach m.base) (c.note.ensures.noted told) in (
            ap (λ (l : List Received). l ++ (received c.deliver-event.result c.deliver-event.new.into) ∷ []) was.0 ∙ ap (λ (r : Received). (before_of m).events ++ r ∷ []) event ∙ sym (ap (λ (o : Outcome). o.events) after),
            was.1 ∙ sym (ap (λ (o : Outcome). o.frames) after),
          );
      passes = elapses m _ (call.Recv m.next true) (record { feed = refl; base = refl; first = refl; told = c.note.ensures.full; noted = c.note.ensures.noted }) (Either Unchanged (Receives (received c.deliver-event.result c.deliver-event.new.into))) (Receives (received c.deliver-event.result c.deliver-event.new.into)) (record { programs = omega arith; erases = omega arith; receptions = omega arith; sendings = omega arith })
          (λ o may. subst (λ (r : Received). Either Unchanged (Receives r) (before_of m) o) (sym event) may)
          (λ told. inr done)
          (λ told. done);
      covers = covers m _ (call.Recv m.next true) (record { feed = refl; base = refl; first = refl; told = c.note.ensures.full; noted = c.note.ensures.noted }) (Either Unchanged (Receives (received c.deliver-event.result c.deliver-event.new.into))) (λ o may. subst (λ (r : Received). Either Unchanged (Receives r) (before_of m) o) event may);
    }

pub returns-clause-holdings : goal.returns-clause-holdings
returns-clause-holdings c =
    let m = c.args.self.now in
    let upcoming = ap (λ (l : List Feed). drop c.following-self.result l) (sym c.deref-2.ensures.value) ∙ c.following-self.ensures ∙ ap (λ (l : List Feed). drop 1 (drop m.next l)) c.deref-2.ensures.value in
    λ i. record { image_size = m.size; upcoming = upcoming i; first_frames = map frame_of m.frames.items; recorded = c.note.ensures.size i }

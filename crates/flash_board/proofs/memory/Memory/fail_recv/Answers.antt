use Rattle.std.proofs.Common.{◌≡◌, ◌+◌, false, refl, sym, ◌∙◌, ap, arith}
use Rattle.flash_traits.specs.Losses.{Moment, Outcome, Unchanged}
use Rattle.flash_board.specs.Kept.{outcome_at_attach}
use Rattle.flash_board.specs.declared.record.Call.TheVariants as call
use Rattle.flash_board.proofs.MemCalls.{kept-push, elapses}
use Rattle.flash_board.proofs.Recorded.{replayed-noted}
use Rattle.flash_board.proofs.memory.Memory.fail_recv.Goals as goal

pub invariant_of-self : goal.invariant_of-self
invariant_of-self c = let m = c.args.self.now in record {
  kept = λ told. let was = c.note.ensures.full told in kept-push m m.image c.note.new.calls.items m.frames.items _ (call.Recv m.next false) was (c.note.ensures.noted told) refl
      (let one : c.saturating_add-self.result ≡ m.counts.receptions + 1 = omega (arith, c.note.ensures.count told) in
      ap (λ n. let t : Moment = record { programs = m.counts.programs; erases = m.counts.erases; receptions = n; sendings = m.counts.sendings } in t) one)
      (m.kept was).frames;
  room = record { calls_room = omega (arith, m.room.calls_room); calls_size = omega arith; frames_room = m.room.frames_room; frames_size = m.room.frames_size };
  shaped = m.shaped;
  attached = m.attached;
  peers = m.peers;
}

pub returns-clause-receives : goal.returns-clause-receives
returns-clause-receives c =
    let m = c.args.self.now in record {
      words = record { geometry = refl; told = c.note.ensures.full; content = λ told. refl };
      lists = λ e f stood told.
          let was = stood (c.note.ensures.full told) in
          let after = replayed-noted m.feed.items m.calls.items c.note.new.calls.items (call.Recv m.next false) (outcome_at_attach m.base) (c.note.ensures.noted told) in
          (was.0 ∙ sym (ap (λ (o : Outcome). o.events) after), was.1 ∙ sym (ap (λ (o : Outcome). o.frames) after));
      passes = elapses m _ (call.Recv m.next false) (record { feed = refl; base = refl; first = refl; told = c.note.ensures.full; noted = c.note.ensures.noted }) Unchanged Unchanged (record { programs = omega arith; erases = omega arith; receptions = omega arith; sendings = omega arith }) (λ o may. may) (λ told. refl) (λ told. refl);
    }

use Rattle.std.proofs.Common.{◌≡◌, inr, ◌+◌, ℕ, List, [], ◌∷◌, ◌++◌, take, true, refl, sym, ◌∙◌, ap, subst, arith}
use Rattle.flash_traits.specs.Losses.{Moment, Outcome, SentFrame, sent_frame, Either, Unchanged, Sends}
use Rattle.flash_board.specs.Record.{stepped}
use Rattle.flash_board.specs.Kept.{outcome_at_attach}
use Rattle.flash_board.specs.declared.record.Call.TheVariants as call
use Rattle.flash_board.proofs.MemCalls.{before_of, kept-push, frames-push, elapses, covers}
use Rattle.flash_board.proofs.Recorded.{replayed-noted}
use Rattle.flash_board.proofs.memory.Memory.send.Goals as goal

pub invariant_of-self : goal.invariant_of-self
invariant_of-self c = let m = c.args.self.now in record {
  kept = λ told. let was = c.note.ensures.full told in kept-push m m.image c.note.new.calls.items c.keep.new.frames.items _ (call.Send c.args.peer c.copied-bytes.result true) was (c.note.ensures.noted told) refl
      (let one : c.saturating_add-self.result ≡ m.counts.sendings + 1 = omega (arith, c.note.ensures.count told) in
      ap (λ n. let t : Moment = record { programs = m.counts.programs; erases = m.counts.erases; receptions = m.counts.receptions; sendings = n } in t) one)
      (frames-push m was c.keep.new.frames.items (sent_frame c.args.peer c.args.bytes.now) c.keep.ensures.frames ∙ ap (λ (l : List ℕ). take 4096 ((before_of m).frames ++ sent_frame c.args.peer l ∷ [])) (sym c.copied-bytes.ensures));
  room = record { calls_room = omega (arith, m.room.calls_room); calls_size = omega arith; frames_room = omega (arith, m.room.frames_room); frames_size = c.keep.ensures.size };
  shaped = m.shaped;
  attached = m.attached;
  peers = m.peers;
}

pub returns-clause-sends : goal.returns-clause-sends
returns-clause-sends c =
    let m = c.args.self.now in
    let same = ap (λ (l : List ℕ). sent_frame c.args.peer l) c.copied-bytes.ensures in
    let done = subst (λ (f : SentFrame). Sends f (before_of m) (stepped m.feed.items (call.Send c.args.peer c.copied-bytes.result true) (before_of m))) same refl in
    record {
      words = record { geometry = refl; told = c.note.ensures.full; content = λ told. refl };
      lists = λ e f stood told.
          let was = stood (c.note.ensures.full told) in
          let after = replayed-noted m.feed.items m.calls.items c.note.new.calls.items (call.Send c.args.peer c.copied-bytes.result true) (outcome_at_attach m.base) (c.note.ensures.noted told) in (
            was.0 ∙ sym (ap (λ (o : Outcome). o.events) after),
            ap (λ (l : List SentFrame). l ++ (sent_frame c.args.peer c.args.bytes.now) ∷ []) was.1 ∙ ap (λ (r : SentFrame). (before_of m).frames ++ r ∷ []) (sym same) ∙ sym (ap (λ (o : Outcome). o.frames) after),
          );
      passes = elapses m _ (call.Send c.args.peer c.copied-bytes.result true) (record { feed = refl; base = refl; first = refl; told = c.note.ensures.full; noted = c.note.ensures.noted }) (Either Unchanged (Sends (sent_frame c.args.peer c.args.bytes.now))) (Sends (sent_frame c.args.peer c.args.bytes.now)) (record { programs = omega arith; erases = omega arith; receptions = omega arith; sendings = omega arith })
          (λ o may. subst (λ (f : SentFrame). Either Unchanged (Sends f) (before_of m) o) same may)
          (λ told. inr done)
          (λ told. done);
      covers = covers m _ (call.Send c.args.peer c.copied-bytes.result true) (record { feed = refl; base = refl; first = refl; told = c.note.ensures.full; noted = c.note.ensures.noted }) (Either Unchanged (Sends (sent_frame c.args.peer c.args.bytes.now))) (λ o may. subst (λ (f : SentFrame). Either Unchanged (Sends f) (before_of m) o) (sym same) may);
    }

use Rattle.std.proofs.Common.{◌≡◌, inl, ◌+◌, false, refl, ap, arith}
use Rattle.flash_traits.specs.Words.{ProgramMayLeave}
use Rattle.flash_traits.specs.Losses.{Moment, OnWords}
use Rattle.flash_board.specs.declared.record.Call.TheVariants as call
use Rattle.flash_board.proofs.MemCalls.{kept-push, changes, covers}
use Rattle.flash_board.proofs.memory.Memory.fail_program.Goals as goal

pub invariant_of-self : goal.invariant_of-self
invariant_of-self c = let m = c.args.self.now in record {
  kept = λ told. let was = c.note.ensures.full told in kept-push m m.image c.note.new.calls.items m.frames.items _ (call.Program c.args.region c.args.at c.args.word false) was (c.note.ensures.noted told) refl
      (let one : c.saturating_add-self.result ≡ m.counts.programs + 1 = omega (arith, c.note.ensures.count told) in
      ap (λ n. let t : Moment = record { programs = n; erases = m.counts.erases; receptions = m.counts.receptions; sendings = m.counts.sendings } in t) one)
      (m.kept was).frames;
  room = record { calls_room = omega (arith, m.room.calls_room); calls_size = omega arith; frames_room = m.room.frames_room; frames_size = m.room.frames_size };
  shaped = m.shaped;
  attached = m.attached;
  peers = m.peers;
}

pub returns-clause-changes : goal.returns-clause-changes
returns-clause-changes c =
    let m = c.args.self.now in
    changes m _ (call.Program c.args.region c.args.at c.args.word false) (record { feed = refl; base = refl; first = refl; told = c.note.ensures.full; noted = c.note.ensures.noted }) (ProgramMayLeave c.args.region c.args.at c.args.word) (ProgramMayLeave c.args.region c.args.at c.args.word) refl refl refl (record { programs = omega arith; erases = omega arith; receptions = omega arith; sendings = omega arith })
    (λ o may. may)
    (λ told. record { words = inl refl; events = refl; frames = refl })
    (λ told. record { words = inl refl; events = refl; frames = refl })

pub returns-clause-covers : goal.returns-clause-covers
returns-clause-covers c = let m = c.args.self.now in covers m _ (call.Program c.args.region c.args.at c.args.word false) (record { feed = refl; base = refl; first = refl; told = c.note.ensures.full; noted = c.note.ensures.noted }) (OnWords (ProgramMayLeave c.args.region c.args.at c.args.word)) (λ o may. may)

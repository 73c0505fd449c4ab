use Rattle.std.proofs.Common.{◌≡◌, ◌+◌, true, refl, sym, ap, subst, arith}
use Rattle.flash_traits.specs.Words.{Words, Erases, EraseMayLeave, HasShape}
use Rattle.flash_traits.specs.Losses.{Moment, OnWords}
use Rattle.flash_board.specs.Flash.{words_of}
use Rattle.flash_board.specs.declared.record.Call.TheVariants as call
use Rattle.flash_board.proofs.MemCalls.{before_of, kept-push, changes, covers}
use Rattle.flash_board.proofs.Shapes.{shape-erased, erased_may}
use Rattle.flash_board.proofs.memory.Memory.erase.Goals as goal

pub invariant_of-self : goal.invariant_of-self
invariant_of-self c = let m = c.args.self.now in record {
  kept = λ told. let was = c.note.ensures.full told in kept-push m c.erase.new.self c.note.new.calls.items m.frames.items _ (call.Erase c.args.region true) was (c.note.ensures.noted told) c.erase.ensures
      (let one : c.saturating_add-self.result ≡ m.counts.erases + 1 = omega (arith, c.note.ensures.count told) in
      ap (λ n. let t : Moment = record { programs = m.counts.programs; erases = n; receptions = m.counts.receptions; sendings = m.counts.sendings } in t) one)
      (m.kept was).frames;
  room = record { calls_room = omega (arith, m.room.calls_room); calls_size = omega arith; frames_room = m.room.frames_room; frames_size = m.room.frames_size };
  shaped = λ size. subst (λ (w : Words). HasShape m.size w) (sym c.erase.ensures) (shape-erased m.size (words_of m.image) c.args.region (m.shaped size));
  attached = m.attached;
  peers = m.peers;
}

pub returns-clause-changes : goal.returns-clause-changes
returns-clause-changes c =
    let m = c.args.self.now in
    changes m _ (call.Erase c.args.region true) (record { feed = refl; base = refl; first = refl; told = c.note.ensures.full; noted = c.note.ensures.noted }) (EraseMayLeave c.args.region) (Erases c.args.region) refl refl refl (record { programs = omega arith; erases = omega arith; receptions = omega arith; sendings = omega arith })
    (λ o may. may)
    (λ told. record { words = erased_may (before_of m).words c.args.region; events = refl; frames = refl })
    (λ told. record { words = refl; events = refl; frames = refl })

pub returns-clause-covers : goal.returns-clause-covers
returns-clause-covers c = let m = c.args.self.now in covers m _ (call.Erase c.args.region true) (record { feed = refl; base = refl; first = refl; told = c.note.ensures.full; noted = c.note.ensures.noted }) (OnWords (EraseMayLeave c.args.region)) (λ o may. may)

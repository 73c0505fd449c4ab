use Rattle.std.proofs.Common.{◌≡◌, ◌∙◌, List, ℕ, length, drop, Some, slice_get, refl, ap, sym}
use Rattle.std.proofs.lemmas.List.{take_at}
use Rattle.std.proofs.lemmas.Option.{slice_get_read}
use Rattle.flash_traits.specs.Losses.{Datagram}
use Rattle.flash_board.specs.Record.{event_of}
use Rattle.flash_board.specs.declared.record.Feed.{Feed}
use Rattle.flash_board.specs.declared.record.Feed.TheVariants as fed
use Rattle.flash_board.proofs.Fed.{peer_fits}
use Rattle.flash_board.proofs.memory.deliver.Goals as goal

pub returns-in-Some-Datagram-clause-bounds : goal.returns-in-Some-Datagram-clause-bounds
returns-in-Some-Datagram-clause-bounds c =
    let at : slice_get c.args.feed.now c.args.next ≡ Some (fed.Datagram c.in-Some-Datagram.peer c.in-Some-Datagram.bytes) =
    slice_get_read c.args.feed.now (length c.args.feed.now) c.args.next c.in-Some-Datagram.field-0.now refl (c.in-Some-Datagram.ensures.lookup).3.0 (c.in-Some-Datagram.ensures.lookup).1
    ∙ ap (λ (f : Feed). Some f) c.in-Some-Datagram.field-0-is in
    (peer_fits c.args.feed.now c.args.next c.in-Some-Datagram.peer c.in-Some-Datagram.bytes c.requires.peers at, c.as_slice-bytes.ensures.fits)

pub returns-in-Some-Datagram-clause-event : goal.returns-in-Some-Datagram-clause-event
returns-in-Some-Datagram-clause-event c =
    let at : slice_get c.args.feed.now c.args.next ≡ Some (fed.Datagram c.in-Some-Datagram.peer c.in-Some-Datagram.bytes) =
    slice_get_read c.args.feed.now (length c.args.feed.now) c.args.next c.in-Some-Datagram.field-0.now refl (c.in-Some-Datagram.ensures.lookup).3.0 (c.in-Some-Datagram.ensures.lookup).1
    ∙ ap (λ (f : Feed). Some f) c.in-Some-Datagram.field-0-is in
    let same = c.copy_from_slice.ensures.after in
    let front = take_at c.copy_from_slice.new.self (drop (length c.as_slice-bytes.result.now) c.args.into.now) (length c.as_slice-bytes.result.now) (ap length same) in
    ap (λ (l : List ℕ). Datagram c.in-Some-Datagram.peer l) (front ∙ same ∙ c.as_slice-bytes.ensures.value)
    ∙ ap event_of (sym at)

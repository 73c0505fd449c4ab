use Rattle.std.proofs.Common.{◌∷◌, [], ℕ, ◌^◌, ◌<◌, arith, subst, length-append}
use Rattle.flash_traits.specs.Losses.{received}
use Rattle.session_boards.specs.Session.{IsEventAt}
use Rattle.session_boards.proofs.Events.{event_counted}
use Rattle.session_boards.proofs.count_board.CountBoardBoard.recv.Goals as goal

pub returns-clause-lists : goal.returns-clause-lists
returns-clause-lists g c = λ e f lists.
    let self = c.args.self.now in
    let event = received c.event_at.result c.event_at.new.into in
    let few = self.few in
    let same = self.same in
    let small : g.N.Session.rounds < 2 ^ 16 = omega (arith, few, same) in
    record {
      session = event_counted g.N.Session.rounds self.events e event small lists.session lists.events_count
          (subst (λ (n : ℕ). IsEventAt n self.events event) self.same c.event_at.ensures.event);
      events_count = omega (arith, lists.events_count, length-append e (event ∷ []), c.saturating_add-self-2.ensures);
      frames_count = lists.frames_count;
    }

use Rattle.std.proofs.Common.{[], ◌∷◌, ap}
use Rattle.flash_traits.specs.Losses.{sent_frame, Moment}
use Rattle.vehicle_runs.specs.Frames.{AreFramesOf}
use Rattle.vehicle_node.specs.Steps.Inside.{view_of}
use Rattle.vehicle_node.specs.Steps.Sending.{answers_to, delivery}
use Rattle.vehicle_node.proofs.FramesSent.{delivered, one_losses, one_here, one_list, either_list}
use Rattle.vehicle_node.proofs.Node.send_message.Goals as goal

pub returns-in-Ok-clause-done : goal.returns-in-Ok-clause-done
returns-in-Ok-clause-done g c = λ content tells.
    let node = c.args.self.now in
    let to = c.args.station in
    let ds = delivery to content ∷ [] in
    let f = sent_frame to c.as_slice.result.now in
    let n = c.count_frame.ensures in
    let are : AreFramesOf (answers_to node.machine ds) (f ∷ []) =
    delivered (view_of c.self.inside) node to content c.args.message.now c.version_two-v2.result c.write_frame_into.new.frame.items c.as_slice.result.now c.self.view_is tells
    c.version_two-v2.ensures c.as_slice.ensures.value c.write_frame_into.ensures.sent in
    record {
      losses = one_losses (answers_to node.machine ds) f are g.B.Board c.send.result c.send.ensures.time;
      lists = one_list g.B.Board f c.args.board.now c.send.new.self c.in-Ok.ensures.lists;
      done = record {
        frames = f ∷ [];
        sent = record {
          budget = n.budget;
          lines = n.lines;
          machine = n.machine content;
          rests = n.rests;
          frames_are = are;
          frame_count = n.frame_count;
          line_count = n.line_count;
        };
        told = record {
          lists = c.in-Ok.ensures.lists;
          here = one_here g.B.Board f c.args.board.now c.send.new.self c.in-Ok.ensures.time.here;
          receptions = ap (λ (t : Moment). t.receptions) c.send.ensures.moment;
        };
        still = record { erases = ap (λ (t : Moment). t.erases) c.send.ensures.moment };
      };
      stopped = tt;
    }

pub returns-in-Err-clause-done : goal.returns-in-Err-clause-done
returns-in-Err-clause-done g c = λ content tells.
    let node = c.args.self.now in
    let to = c.args.station in
    let ds = delivery to content ∷ [] in
    let f = sent_frame to c.as_slice.result.now in
    let are : AreFramesOf (answers_to node.machine ds) (f ∷ []) =
    delivered (view_of c.self.inside) node to content c.args.message.now c.version_two-v2.result c.write_frame_into.new.frame.items c.as_slice.result.now c.self.view_is tells
    c.version_two-v2.ensures c.as_slice.ensures.value c.write_frame_into.ensures.sent in
    record {
      losses = one_losses (answers_to node.machine ds) f are g.B.Board c.send.result c.send.ensures.time;
      lists = either_list g.B.Board f c.args.board.now c.send.new.self c.in-Err.ensures.lists;
      done = tt;
      stopped = tt;
    }

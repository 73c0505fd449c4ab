use Rattle.std.proofs.Common.{◌∙◌}
use Rattle.vehicle_node.proofs.Boot.{closed_at, closed_worn, closed_wears, closed_unworn, closed_fits, flushing_leaves}
use Rattle.vehicle_node.proofs.Finishing.{Leaves, leaves_safe, leaves_rising}
use Rattle.vehicle_node.proofs.Fitting.{fits_room, flag_is}
use Rattle.flash_traits.proofs.Moments.{weaker}
use Rattle.vehicle_node.proofs.Node.close.Goals as goal

pub flush_all-requires-clause-room : goal.flush_all-requires-clause-room
flush_all-requires-clause-room g c = fits_room g.B.Board c.args.board.now c.args.self c.armed-armed.result c.requires.fits (flag_is c.self.inside c.args.self c.armed-armed.result c.self.view_is c.armed-armed.ensures)

pub returns-clause-done : goal.returns-clause-done
returns-clause-done g c =
    closed_at g.B.Board c.armed-armed.result c.flush_all.result c.args.self c.args.board.now c.flush_all.new.self c.flush_all.new.board c.flush_all.ensures.done c.flush_all.ensures.nothing c.flush_all.ensures.fits

pub returns-clause-losses : goal.returns-clause-losses
returns-clause-losses g c = leaves_safe g.B.Board g.met.B.Board.reads c.args.self c.args.board.now c.flush_all.new.board
    (weaker (Leaves c.args.self) (Leaves c.args.self) c.flush_all.ensures.done.losses (λ s o is a. flushing_leaves c.args.self s o a) (λ s o is a. flushing_leaves c.args.self s o a))

pub returns-clause-guard : goal.returns-clause-guard
returns-clause-guard g c = leaves_rising g.B.Board g.met.B.Board.reads c.args.self c.args.board.now c.flush_all.new.board
    (weaker (Leaves c.args.self) (Leaves c.args.self) c.flush_all.ensures.done.losses (λ s o is a. flushing_leaves c.args.self s o a) (λ s o is a. flushing_leaves c.args.self s o a))

pub returns-clause-still : goal.returns-clause-still
returns-clause-still g c = λ armed. c.flush_all.ensures.still (flag_is c.self.inside c.args.self c.armed-armed.result c.self.view_is c.armed-armed.ensures ∙ armed)

pub returns-clause-worn_next : goal.returns-clause-worn_next
returns-clause-worn_next g c =
    closed_worn g.B.Board c.armed-armed.result c.args.self c.flush_all.new.self c.flush_all.new.board c.flush_all.result (flag_is c.self.inside c.args.self c.armed-armed.result c.self.view_is c.armed-armed.ensures)
    c.flush_all.ensures.done.stopped

pub returns-clause-worn_lines : goal.returns-clause-worn_lines
returns-clause-worn_lines g c = closed_wears g.B.Board c.armed-armed.result c.args.self c.flush_all.new.self c.flush_all.new.board c.flush_all.result c.flush_all.ensures.done.stopped

pub returns-clause-unworn : goal.returns-clause-unworn
returns-clause-unworn g c =
    closed_unworn g.B.Board c.armed-armed.result c.flush_all.result c.args.self c.args.board.now c.flush_all.new.self c.flush_all.new.board
    (flag_is c.self.inside c.args.self c.armed-armed.result c.self.view_is c.armed-armed.ensures) c.flush_all.ensures.done c.flush_all.ensures.nothing c.flush_all.ensures.fits

pub returns-clause-used_up : goal.returns-clause-used_up
returns-clause-used_up g c = λ not voids full. closed_fits g.B.Board c.flush_all.result c.args.self c.flush_all.new.board (returns-clause-unworn g c) not voids full

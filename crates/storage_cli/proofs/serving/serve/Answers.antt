use Rattle.std.proofs.Common.{◌≡◌, ◌∙◌, ap, sym, subst, ℕ, []}
use Rattle.std.specs.Prelude.{⊤}
use Rattle.flash_traits.specs.declared.board.Fault.{Fault}
use Rattle.flash_traits.specs.declared.board.Fault.TheVariants.{Attach}
use Rattle.flash_traits.specs.Budget.{budget_of}
use Rattle.flash_traits.specs.Words.{Words, HasShape}
use Rattle.sector_image.specs.FirstBad.{FirstBad}
use Rattle.sector_image.specs.Stands.{Stands}
use Rattle.storage_cli.specs.Serving.{HasToVoid}
use Rattle.storage_cli.specs.Steps.Guard.{WearsFrom}
use Rattle.storage_cli.specs.Steps.Progress.{IsSafeRun, CompletesServe}
use Rattle.storage_cli.specs.Steps.Stops.{StopsByCause}
use Rattle.storage_cli.proofs.Causes.{void_from, worn_in, foreign_in}
use Rattle.storage_cli.proofs.Formatting.{no_cause, on_ok_part, size_part}
use Rattle.storage_cli.proofs.Serves.{safe_run, completes_attached, wears_attached}
use Rattle.storage_cli.proofs.serving.serve.Goals as goal

pub returns-clause-losses : goal.returns-clause-losses
returns-clause-losses g c = λ attached b stands o left.
    let a = c.attach.ensures in
    let ok = sym c.is_err.ensures.value ∙ c.if-is_err.false in
    let begins = λ (t : g.B.Board.tells c.attach.new.self). subst (λ (w : Words). Stands w b) (sym (on_ok_part c.attach.result _ ok a.words t)) (stands (a.told t)) in
    let safe = safe_run g.B.Board g.met.B.Board.reads g.met.B.Board.only_now c.args.board.now c.attach.new.self c.serve_image.new.board (budget_of (g.B.Board.sector_bytes c.attach.new.self)) b a.moment (on_ok_part c.attach.result _ ok a.starts) begins
    (c.serve_image.ensures.losses b begins) o left in
    subst (λ (n : ℕ). IsSafeRun (budget_of n) b o) (sym c.serve_image.ensures.geometry) safe

pub returns-clause-completes : goal.returns-clause-completes
returns-clause-completes g c = λ done.
    let a = c.attach.ensures in
    let ok = sym c.is_err.ensures.value ∙ c.if-is_err.false in
    let budget = budget_of (g.B.Board.sector_bytes c.serve_image.new.board) in
    completes_attached g.B.Board budget c.attach.new.self c.serve_image.new.board (g.B.Board.words c.args.board.now) c.args.turns c.serve_image.result
    (λ t. on_ok_part c.attach.result _ ok a.words (c.serve_image.ensures.told t)) (on_ok_part c.attach.result _ ok a.lists)
    (subst (λ (n : ℕ). CompletesServe g.B.Board (budget_of n) (g.B.Board.words c.attach.new.self) (g.B.Board.has_lists c.attach.new.self [] []) c.serve_image.new.board c.args.turns c.serve_image.result) (sym c.serve_image.ensures.geometry) (c.serve_image.ensures.completes done))

pub returns-clause-foreign_where : goal.returns-clause-foreign_where
returns-clause-foreign_where g c = λ told place bad.
    let ok = sym c.is_err.ensures.value ∙ c.if-is_err.false in
    let same = on_ok_part c.attach.result _ ok c.attach.ensures.words (c.serve_image.ensures.told told) in
    c.serve_image.ensures.foreign_where told place (subst (λ (w : Words). FirstBad w place) (sym same) bad)

pub returns-clause-worn_only : goal.returns-clause-worn_only
returns-clause-worn_only g c =
    let ok = sym c.is_err.ensures.value ∙ c.if-is_err.false in
    let words = g.B.Board.words c.attach.new.self in
    let before = g.B.Board.words c.args.board.now in
    let same = λ (t : g.B.Board.tells c.serve_image.new.board). on_ok_part c.attach.result _ ok c.attach.ensures.words (c.serve_image.ensures.told t) in
    let begun = on_ok_part c.attach.result _ ok c.attach.ensures.lists in
    worn_in c.serve_image.result (g.B.Board.has_lists c.attach.new.self [] [] → HasToVoid g.B.Board words c.serve_image.new.board) (HasToVoid g.B.Board before c.serve_image.new.board)
    (λ void. void_from g.B.Board words before c.serve_image.new.board same (void begun)) c.serve_image.ensures.worn_only

pub returns-clause-foreign_idle : goal.returns-clause-foreign_idle
returns-clause-foreign_idle g c =
    foreign_in c.serve_image.result _ _ (λ idle. idle ∙ c.attach.ensures.moment) c.serve_image.ensures.foreign_idle

pub returns-clause-left_alone : goal.returns-clause-left_alone
returns-clause-left_alone g c = λ attached told place bad.
    let ok = sym c.is_err.ensures.value ∙ c.if-is_err.false in
    let same = on_ok_part c.attach.result _ ok c.attach.ensures.words (c.serve_image.ensures.told told) in
    let left = c.serve_image.ensures.left_alone told place (subst (λ (w : Words). FirstBad w place) (sym same) bad) in
    record { moment = left.moment ∙ c.attach.ensures.moment; words = left.words ∙ same }

pub returns-clause-shape : goal.returns-clause-shape
returns-clause-shape g c = λ attached told.
    let ok = sym c.is_err.ensures.value ∙ c.if-is_err.false in
    let t = c.serve_image.ensures.told told in
    let same = on_ok_part c.attach.result _ ok c.attach.ensures.words t in
    let known = size_part c.attach.result (g.B.Board.sector_bytes c.attach.new.self) (λ _. Unit {0}) ok c.attach.ensures.geometry in
    subst (λ (n : ℕ). HasShape n (g.B.Board.words c.args.board.now)) (sym c.serve_image.ensures.geometry)
    (subst (λ (w : Words). HasShape (g.B.Board.sector_bytes c.attach.new.self) w) same (g.met.B.Board.shape c.attach.new.self t known))

pub returns-clause-worn_lines : goal.returns-clause-worn_lines
returns-clause-worn_lines g c =
    let a = c.attach.new.self in
    let d = c.serve_image.new.board in
    let ok = sym c.is_err.ensures.value ∙ c.if-is_err.false in
    let words = g.B.Board.words a in
    let before = g.B.Board.words c.args.board.now in
    let n = budget_of (g.B.Board.sector_bytes a) in
    let budget = budget_of (g.B.Board.sector_bytes d) in
    worn_in c.serve_image.result (WearsFrom g.B.Board n words (g.B.Board.has_lists a [] []) d) (WearsFrom g.B.Board budget before ⊤ d)
    (λ wears. wears_attached g.B.Board n budget words before a d (ap budget_of (sym c.serve_image.ensures.geometry))
    (λ t. on_ok_part c.attach.result _ ok c.attach.ensures.words (c.serve_image.ensures.told t)) (on_ok_part c.attach.result _ ok c.attach.ensures.lists) wears) c.serve_image.ensures.worn_lines

pub returns-clause-cause : goal.returns-clause-cause
returns-clause-cause g c =
    let ok = sym c.is_err.ensures.value ∙ c.if-is_err.false in
    let before = g.B.Board.faults c.args.board.now in
    let same : g.B.Board.faults c.attach.new.self ≡ before = no_cause c.attach.result Attach before (g.B.Board.faults c.attach.new.self) ok c.attach.ensures.cause in
    subst (λ (f : Fault → ℕ). StopsByCause f (g.B.Board.faults c.serve_image.new.board) c.serve_image.result) same c.serve_image.ensures.cause

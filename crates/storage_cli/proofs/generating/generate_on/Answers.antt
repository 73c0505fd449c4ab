use Rattle.std.proofs.Common.{◌≤◌, ◌∙◌, ap, sym, subst, refl, arith, ℕ}
use Rattle.flash_traits.specs.Words.{Words}
use Rattle.flash_traits.specs.declared.board.Fault.{Fault}
use Rattle.sha2.specs.Sha256.{sha256}
use Rattle.sector_image.specs.Stands.{Stands}
use Rattle.session_boards.specs.Session.{AreFirst}
use Rattle.storage_cli.specs.Sessions.{fresh_storage, WearsOut}
use Rattle.storage_cli.specs.Steps.Sessions.{IsSessionStop}
use Rattle.storage_cli.specs.Steps.Stops.{OnWorn}
use Rattle.storage_cli.proofs.Causes.{on_stop}
use Rattle.storage_cli.proofs.FreshImage.{fresh_stands, fresh_size}
use Rattle.storage_cli.proofs.Sessions.{session_stop, not_over, survey_answers, counted_at, summary_of, wears_out}
use Rattle.storage_cli.proofs.generating.generate_on.Goals as goal

no_faults : Fault → ℕ
no_faults k = 0

pub returns-in_err-served-clause-stops : goal.returns-in_err-served-clause-stops
unfolding no_faults
returns-in_err-served-clause-stops g c =
    let why = c.in_err-served.field-0.0 in
    let e = c.in_err-served.ensures in
    let few : g.N.Session.rounds ≤ 1000 = omega (arith, c.requires.range, c.requires.session) in
    on_stop c.from_residual-in_err-served.result why c.from_residual-in_err-served.ensures.1 IsSessionStop
    (session_stop why no_faults no_faults _ fresh_storage e.stops (λ k. refl) e.cause c.one_of_both.ensures
    (subst (λ (w : Words). Stands w fresh_storage) (sym c.in_ok-board.ensures.words) fresh_stands) (e.foreign tt)
    (not_over _ _ g.N.Session.rounds _ _ why e.completes c.session_ends.ensures few c.tells_session.ensures.events))

pub unreachable-requires : goal.unreachable-requires
unreachable-requires g c =
    let done = c.in_ok-served.ensures.completes tt in
    let stood = subst (λ (w : Words). Stands w fresh_storage) (sym c.in_ok-board.ensures.words) fresh_stands in
    survey_answers c.in_default.field-0 _ _ c.one_of_both.ensures (done.whole tt fresh_storage stood).whole.all_lines c.in_default.ensures.foreign c.in_default.ensures.counts

pub returns-clause-summary : goal.returns-clause-summary
returns-clause-summary g c =
    let served = c.in_ok-served.served in
    let e = c.in_ok-served.ensures in
    let done = e.completes tt in
    let stood = subst (λ (w : Words). Stands w fresh_storage) (sym c.in_ok-board.ensures.words) fresh_stands in
    let size = fresh_size _ _ c.in_ok-board.ensures.words (e.geometry tt) (e.shape tt tt) in
    let run = counted_at _ size served done.events done.frames _ (done.whole tt fresh_storage stood) in
    let first = subst (λ (n : ℕ). AreFirst n done.events) (sym c.requires.session) (c.tells_session.ensures.events done.events done.frames (done.lists tt)) in
    summary_of c.args.rounds served c.digest.result c.survey.new.images.whole done.events done.frames _ c.session_ends.ensures c.one_of_both.ensures first done.ends (done.counted tt)
    run (c.in-Ok.ensures.stands tt) (c.digest.ensures ∙ ap sha256 c.whole.ensures.bytes)

pub returns-in_err-served-clause-worn : goal.returns-in_err-served-clause-worn
returns-in_err-served-clause-worn g c =
    let why = c.in_err-served.field-0.0 in
    let e = c.in_err-served.ensures in
    on_stop c.from_residual-in_err-served.result why c.from_residual-in_err-served.ensures.1 (λ w. OnWorn w (WearsOut c.args.rounds))
    (wears_out _ c.args.rounds _ _ _ why e.geometry (λ attached. e.shape attached tt) c.in_ok-board.ensures.words
    (λ events frames has. subst (λ (n : ℕ). AreFirst n events) (sym c.requires.session) (c.tells_session.ensures.events events frames has)) tt e.worn_lines)

use Rattle.std.proofs.Common.{◌≡◌, ◌∙◌, inl, [], ◌++◌, refl, sym, subst, ap, append-nil, ℕ, List, take, drop, length, arith}
use Rattle.std.proofs.lemmas.List.{take_at}
use Rattle.flash_traits.specs.Words.{IsSectorSize}
use Rattle.flash_traits.specs.Budget.{budget_of}
use Rattle.sector_image.specs.Stands.{Stands}
use Rattle.script_board.specs.Image.{words_of}
use Rattle.storage_cli.specs.Replays.{AllTell}
use Rattle.storage_cli.specs.declared.stop.Stop.TheVariants as stop
use Rattle.storage_cli.specs.declared.replaying.Replayed.{Replayed}
use Rattle.storage_cli.specs.Steps.Stops.{StopsEarly}
use Rattle.storage_cli.specs.Steps.Replaying.{input_after, output_after}
use Rattle.storage_cli.proofs.Causes.{on_stop, on_result, caused, never_both}
use Rattle.storage_cli.proofs.ReplayStops.{early_read, read_early, read_input, input_ends, output_ends, never_whole, output_failed, ending_causes, stops_inside, foreign_map}
use Rattle.storage_cli.proofs.ReplayRuns.{whole_run, part_run, no_foreign}
use Rattle.storage_cli.proofs.replaying.replay_image.Goals as goal

pub returns-in_err-images-clause-stops : goal.returns-in_err-images-clause-stops
returns-in_err-images-clause-stops g c = on_stop c.from_residual.result stop.Memory c.from_residual.ensures.1 _ (inl (record { early = tt; untouched = (refl, refl); first = λ told. tt }))

pub returns-in_err-images-clause-grows : goal.returns-in_err-images-clause-grows
returns-in_err-images-clause-grows g c = λ told. ([], sym (append-nil (g.K.Sink.written c.args.out.now)))

pub returns-in_err-copy-clause-stops : goal.returns-in_err-copy-clause-stops
returns-in_err-copy-clause-stops g c = on_stop c.from_residual-in_err-copy.result stop.Memory c.from_residual-in_err-copy.ensures.1 _ (inl (record { early = tt; untouched = (refl, refl); first = λ told. tt }))

pub returns-in_err-copy-clause-grows : goal.returns-in_err-copy-clause-grows
returns-in_err-copy-clause-grows g c = λ told. ([], sym (append-nil (g.K.Sink.written c.args.out.now)))

pub returns-in_err-read_image-clause-stops : goal.returns-in_err-read_image-clause-stops
returns-in_err-read_image-clause-stops g c =
    let why = c.in_err-read_image.field-0.0 in
    on_stop c.from_residual-in_err-read_image.result why c.from_residual-in_err-read_image.ensures.1 _
    (inl (record { early = early_read why c.in_err-read_image.ensures.stops; untouched = (refl, refl); first = c.in_err-read_image.ensures.foreign }))

pub returns-in_err-read_image-clause-grows : goal.returns-in_err-read_image-clause-grows
returns-in_err-read_image-clause-grows g c = λ told. ([], sym (append-nil (g.K.Sink.written c.args.out.now)))

pub returns-in_err-read_image-clause-foreign_where : goal.returns-in_err-read_image-clause-foreign_where
returns-in_err-read_image-clause-foreign_where g c = λ told place bad.
    let why = c.in_err-read_image.field-0.0 in
    on_result c.from_residual-in_err-read_image.result why c.from_residual-in_err-read_image.ensures.1 (λ r. StopsEarly r) (read_early Replayed why c.in_err-read_image.ensures.stops)

pub returns-in_err-read_image-clause-cause : goal.returns-in_err-read_image-clause-cause
returns-in_err-read_image-clause-cause g c =
    let why = c.in_err-read_image.field-0.0 in
    caused c.from_residual-in_err-read_image.result why c.from_residual-in_err-read_image.ensures.1 _ _ c.in_err-read_image.ensures.cause

pub geometry-sector_bytes-requires : goal.geometry-sector_bytes-requires
geometry-sector_bytes-requires g c = subst IsSectorSize (sym c.read_image.ensures.reads.changes.geometry) c.requires.attached

pub replay_script-requires-clause-size : goal.replay_script-requires-clause-size
replay_script-requires-clause-size g c = subst IsSectorSize (sym (c.geometry-sector_bytes.ensures ∙ c.read_image.ensures.reads.changes.geometry)) c.requires.attached

pub returns-in-Ok-clause-foreign_where : goal.returns-in-Ok-clause-foreign_where
returns-in-Ok-clause-foreign_where g c = λ told place bad. absurd (never_both (g.B.Board.words c.args.board.now) place (c.in_ok-read_image.ensures.stands told) bad)

pub returns-in-Ok-clause-cause : goal.returns-in-Ok-clause-cause
returns-in-Ok-clause-cause g c = c.in_ok-read_image.ensures.cause

pub returns-in-Ok-clause-whole : goal.returns-in-Ok-clause-whole
returns-in-Ok-clause-whole g c = λ tell.
    let w = g.B.Board.words c.args.board.now in
    let read = c.read_image.new.copy in
    let copy : List ℕ = take c.in_ok-copy.copy.len (read ++ drop (length read) c.in_ok-copy.copy.items) in
    let is : copy ≡ read = take_at read (drop (length read) c.in_ok-copy.copy.items) c.in_ok-copy.copy.len (omega (arith, c.read_image.auto.copy, c.deref_mut.ensures.len)) in
    whole_run (g.B.Board.tells c.read_image.new.board) w copy (g.B.Board.sector_bytes c.read_image.new.board) c.geometry-sector_bytes.result.sector_bytes c.geometry-sector_bytes.ensures
    (λ t. subst (λ (n : ℕ). words_of n copy ≡ w) (sym c.read_image.ensures.reads.changes.geometry) (ap (words_of (g.B.Board.sector_bytes c.args.board.now)) is ∙ c.in_ok-read_image.ensures.copied t)) c.in_ok-read_image.ensures.stands
    (g.S.Source.rest c.args.input.now) (g.S.Source.rest c.replay_script.new.input) (g.K.Sink.written c.args.out.now) (g.K.Sink.written c.replay_script.new.out)
    c.in-Ok.digest tell.0 (c.in-Ok.ensures.replayed tell.1 tell.2)

pub returns-clause-foreign_where : goal.returns-clause-foreign_where
returns-clause-foreign_where g c = λ told place bad. absurd (never_both (g.B.Board.words c.args.board.now) place (c.in_ok-read_image.ensures.stands told) bad)

pub returns-clause-cause : goal.returns-clause-cause
returns-clause-cause g c = ending_causes c.in-Err.why c.ending_of.result c.ending_of.ensures _ _ c.in_ok-read_image.ensures.cause

pub returns-clause-whole : goal.returns-clause-whole
returns-clause-whole g c = never_whole c.in-Err.why c.ending_of.result c.ending_of.ensures _

pub returns-clause-output : goal.returns-clause-output
returns-clause-output g c = output_failed c.in-Err.why c.ending_of.result c.ending_of.ensures _ c.in-Err.ensures.output

pub returns-clause-stops : goal.returns-clause-stops
returns-clause-stops g c =
    let w = g.B.Board.words c.args.board.now in
    let read = c.read_image.new.copy in
    let copy : List ℕ = take c.in_ok-copy.copy.len (read ++ drop (length read) c.in_ok-copy.copy.items) in
    let is : copy ≡ read = take_at read (drop (length read) c.in_ok-copy.copy.items) c.in_ok-copy.copy.len (omega (arith, c.read_image.auto.copy, c.deref_mut.ensures.len)) in
    let size = g.B.Board.sector_bytes c.read_image.new.board in
    let sector_bytes = c.geometry-sector_bytes.result.sector_bytes in
    let told = g.B.Board.tells c.read_image.new.board in
    let tell : Type 0 = AllTell g.B.Board g.S.Source g.K.Sink c.read_image.new.board c.replay_script.new.input c.replay_script.new.out in
    let copied = λ (t : told). subst (λ (n : ℕ). words_of n copy ≡ w) (sym c.read_image.ensures.reads.changes.geometry) (ap (words_of (g.B.Board.sector_bytes c.args.board.now)) is ∙ c.in_ok-read_image.ensures.copied t) in
    let rest_before = g.S.Source.rest c.args.input.now in
    let rest_now = g.S.Source.rest c.replay_script.new.input in
    let written_before = g.K.Sink.written c.args.out.now in
    let written_now = g.K.Sink.written c.replay_script.new.out in
    stops_inside c.in-Err.why c.ending_of.result c.ending_of.ensures tell (budget_of size) w _ rest_before rest_now written_before written_now _ _
    (λ other (t : tell). part_run told w copy size sector_bytes c.geometry-sector_bytes.ensures copied c.in_ok-read_image.ensures.stands rest_before rest_now written_before written_now c.in-Err.why t.0 (c.in-Err.ensures.cut_short other t.1 t.2))
    (foreign_map c.in-Err.why (λ place. g.S.Source.tells_rest c.replay_script.new.input → g.K.Sink.tells_written c.replay_script.new.out → (b : List ℕ) → Stands (words_of sector_bytes copy) b → ⊥) (tell → ⊥)
    (λ place never t. no_foreign told w copy size sector_bytes c.geometry-sector_bytes.ensures copied c.in_ok-read_image.ensures.stands rest_before rest_now written_before written_now t.0 (never t.1 t.2)) c.in-Err.ensures.foreign)
    c.in-Err.ensures.input told

pub returns-in_err-images-clause-input_counts : goal.returns-in_err-images-clause-input_counts
returns-in_err-images-clause-input_counts g c =
    let n = g.S.Source.faults c.args.input.now in
    on_result c.from_residual.result stop.Memory c.from_residual.ensures.1 (λ r. n ≡ input_after r n) refl

pub returns-in_err-images-clause-output_counts : goal.returns-in_err-images-clause-output_counts
returns-in_err-images-clause-output_counts g c =
    let n = g.K.Sink.faults c.args.out.now in
    on_result c.from_residual.result stop.Memory c.from_residual.ensures.1 (λ r. n ≡ output_after r n) refl

pub returns-in_err-copy-clause-input_counts : goal.returns-in_err-copy-clause-input_counts
returns-in_err-copy-clause-input_counts g c =
    let n = g.S.Source.faults c.args.input.now in
    on_result c.from_residual-in_err-copy.result stop.Memory c.from_residual-in_err-copy.ensures.1 (λ r. n ≡ input_after r n) refl

pub returns-in_err-copy-clause-output_counts : goal.returns-in_err-copy-clause-output_counts
returns-in_err-copy-clause-output_counts g c =
    let n = g.K.Sink.faults c.args.out.now in
    on_result c.from_residual-in_err-copy.result stop.Memory c.from_residual-in_err-copy.ensures.1 (λ r. n ≡ output_after r n) refl

pub returns-in_err-images-clause-cause : goal.returns-in_err-images-clause-cause
returns-in_err-images-clause-cause g c = caused c.from_residual.result stop.Memory c.from_residual.ensures.1 _ _ refl

pub returns-in_err-copy-clause-cause : goal.returns-in_err-copy-clause-cause
returns-in_err-copy-clause-cause g c = caused c.from_residual-in_err-copy.result stop.Memory c.from_residual-in_err-copy.ensures.1 _ _ refl

pub returns-in_err-read_image-clause-input_counts : goal.returns-in_err-read_image-clause-input_counts
returns-in_err-read_image-clause-input_counts g c =
    let n = g.S.Source.faults c.args.input.now in
    let why = c.in_err-read_image.field-0.0 in
    on_result c.from_residual-in_err-read_image.result why c.from_residual-in_err-read_image.ensures.1 (λ r. n ≡ input_after r n) (read_input why n c.in_err-read_image.ensures.stops)

pub returns-in_err-read_image-clause-output_counts : goal.returns-in_err-read_image-clause-output_counts
returns-in_err-read_image-clause-output_counts g c =
    let n = g.K.Sink.faults c.args.out.now in
    let why = c.in_err-read_image.field-0.0 in
    on_result c.from_residual-in_err-read_image.result why c.from_residual-in_err-read_image.ensures.1 (λ r. n ≡ output_after r n) refl

pub returns-clause-input_counts : goal.returns-clause-input_counts
returns-clause-input_counts g c = input_ends c.in-Err.why c.ending_of.result c.ending_of.ensures _ _ c.in-Err.ensures.input_counts

pub returns-clause-output_counts : goal.returns-clause-output_counts
returns-clause-output_counts g c = output_ends c.in-Err.why c.ending_of.result c.ending_of.ensures _ _ c.in-Err.ensures.output_counts

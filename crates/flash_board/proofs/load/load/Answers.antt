use Rattle.std.proofs.Common.{ℕ, List, length, map, take, arith, IsTrue, refl, sym, ◌∙◌, ap, subst}
use Rattle.flash_board.specs.Record.{replayed, moment_after}
use Rattle.flash_board.specs.Kept.{outcome_at_attach, frame_of, peers_fit}
use Rattle.flash_board.specs.Image.{image_words}
use Rattle.flash_board.specs.declared.record.Feed.{Feed}
use Rattle.flash_board.specs.declared.record.Call.{Call}
use Rattle.flash_board.specs.declared.record.Sent.{Sent}
use Rattle.flash_board.proofs.Images.{shape-image}
use Rattle.flash_board.proofs.load.load.Goals as goal

pub invariant_of-result : goal.invariant_of-result
invariant_of-result c = record {
  kept = λ told. record {
    words = c.in_ok-load_flash.ensures ∙ sym c.in_ok-load_flash-2.ensures
        ∙ ap (λ (l : List Call). (replayed c.in_ok-copy_feed.field-0.items l (outcome_at_attach c.in_ok-load_flash-2.field-0)).words) (sym c.in_ok-with_capacity.ensures.items);
    moment = ap (λ (l : List Call). moment_after c.in_ok-copy_feed.field-0.items l (record { programs = 0; erases = 0; receptions = 0; sendings = 0 })) (sym c.in_ok-with_capacity.ensures.items);
    frames = ap (λ (l : List Sent). map frame_of l) c.in_ok-with_capacity-2.ensures.items
        ∙ ap (λ (l : List Call). take 4096 (replayed c.in_ok-copy_feed.field-0.items l (outcome_at_attach c.in_ok-load_flash-2.field-0)).frames) (sym c.in_ok-with_capacity.ensures.items);
  };
  room = record {
    calls_room = omega (arith, c.in_ok-with_capacity.ensures.exact);
    calls_size = omega (arith, ap (λ (l : List Call). length l) c.in_ok-with_capacity.ensures.items);
    frames_room = omega (arith, c.in_ok-with_capacity-2.ensures.exact);
    frames_size = omega (arith, ap (λ (l : List Sent). length l) c.in_ok-with_capacity-2.ensures.items);
  };
  shaped = shape-image c.args.image.now c.size_or_zero.result _ c.size_or_zero.ensures (c.in_ok-load_flash.ensures ∙ ap (λ (n : ℕ). image_words n c.args.image.now) (sym c.size_or_zero.ensures));
  attached = λ nonzero. absurd (nonzero refl);
  peers = subst (λ (l : List Feed). IsTrue (peers_fit l)) (sym c.in_ok-copy_feed.ensures) c.requires;
}

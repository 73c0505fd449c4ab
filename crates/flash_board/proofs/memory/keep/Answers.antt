use Rattle.std.proofs.Common.{◌≡◌, List, ℕ, [], ◌∷◌, ◌++◌, take, map, ◌∙◌, ap, arith}
use Rattle.std.proofs.lemmas.Grind.{common_steps}
use Rattle.flash_traits.specs.Losses.{sent_frame}
use Rattle.flash_board.specs.Kept.{frame_of}
use Rattle.flash_board.specs.declared.record.Sent.{Sent}
use Rattle.flash_board.proofs.Frames.{kept-more, kept-all}
use Rattle.flash_board.proofs.memory.keep.Goals as goal

pub returns-then-len-lt-FRAMES-clause-frames : goal.returns-then-len-lt-FRAMES-clause-frames
returns-then-len-lt-FRAMES-clause-frames c =
    let old = c.args.frames.now.items in
    let one : Sent = record { peer = c.args.peer; bytes = c.copied-bytes.result } in
    let pushed : c.push.new.self.items ≡ old ++ one ∷ [] = grind (arith, common_steps, c.push.ensures.items, c.push.ensures.succeeds) in
    ap (λ (l : List Sent). map frame_of l) pushed ∙ kept-more 4096 old one (omega arith)
    ∙ ap (λ (bytes : List ℕ). take 4096 (map frame_of old ++ sent_frame c.args.peer bytes ∷ [])) c.copied-bytes.ensures

pub returns-else-len-lt-FRAMES-clause-frames : goal.returns-else-len-lt-FRAMES-clause-frames
returns-else-len-lt-FRAMES-clause-frames c = kept-all 4096 c.args.frames.now.items (sent_frame c.args.peer c.args.bytes.now) (omega arith)

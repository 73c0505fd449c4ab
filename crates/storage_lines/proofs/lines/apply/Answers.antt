use Rattle.std.proofs.Common.{◌≡◌, ◌+◌, ◌-◌, ◌*◌, drop, arith, refl}
use Rattle.std.proofs.lemmas.List.{length-take, length-drop}
use Rattle.storage_lines.proofs.LineLemmas.{put_written}
use Rattle.storage_lines.proofs.lines.apply.Goals as goal

pub returns : goal.returns
returns c =
    let eight : 8 * c.args.write.now.line + 8 - 8 * c.args.write.now.line ≡ 8 = omega arith in
    put_written c.args.bytes.now c.copy_from_slice.new.self c.args.write.now _ _ c.copy_from_slice.ensures.after (omega (arith, c.copy_from_slice.ensures.len, length-take 8 (drop (8 * c.args.write.now.line) c.args.bytes.now), length-drop (8 * c.args.write.now.line) c.args.bytes.now, simp eight at c.copy_from_slice.ensures.len)) refl eight (omega arith)

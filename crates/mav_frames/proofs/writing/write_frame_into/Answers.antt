use Rattle.std.proofs.Common.{◌++◌, ℕ, List, ap, sym, ◌∙◌, subst, arith}
use Rattle.mav_messages.specs.Messages.{SaysMessage}
use Rattle.mav_frames.specs.Cut.{IsFrame}
use Rattle.mav_frames.specs.Frames.{IsMessageOf, head_bytes}
use Rattle.mav_frames.proofs.CutLemmas.{one_piece}
use Rattle.mav_frames.proofs.FrameLemmas.{written}
use Rattle.mav_frames.proofs.writing.write_frame_into.Goals as goal

-- the frame is whole, and its message is what arrives
facts : (c : goal.After-put_crc) → IsFrame c.put_crc.new.frame.items × IsMessageOf c.put_crc.new.frame.items c.encode_into.ensures.said.0
facts c =
    let payload = c.encode_into.new.payload.items in
    written c.args.v2 c.args.seq c.args.system c.args.component c.id-id.result c.len.result c.in-Some.extra c.encode_into.ensures.said.0
    payload c.put_head.new.frame.items c.append.new.list.items c.put_crc.new.frame.items
    c.len.ensures.value
    (c.put_head.ensures ∙ ap (λ (l : List ℕ). l ++ head_bytes c.args.v2 c.len.result c.args.seq c.args.system c.args.component c.id-id.result) c.clear.ensures)
    (c.append.ensures ∙ ap (λ (l : List ℕ). c.put_head.new.frame.items ++ l) c.as_slice.ensures.value)
    c.put_crc.ensures.after
    (let short = c.id-id.ensures.short in omega arith) c.put_crc.ensures.small (sym c.in-Some.ensures.listed)
    (subst (λ (n : ℕ). SaysMessage n payload c.encode_into.ensures.said.0) (sym c.id-id.ensures.id) c.encode_into.ensures.said.2)

pub returns-clause-frame : goal.returns-clause-frame
returns-clause-frame c = (facts c).0

pub returns-clause-cut : goal.returns-clause-cut
returns-clause-cut c = one_piece c.put_crc.new.frame.items (facts c).0

pub returns-clause-reads : goal.returns-clause-reads
returns-clause-reads c = (c.encode_into.ensures.said.0, c.encode_into.ensures.said.1, (facts c).1)

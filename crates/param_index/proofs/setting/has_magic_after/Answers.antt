use Rattle.std.proofs.Common.{◌≡◌, ◌+◌, ◌<◌, Bool, List, [], length, get_or, take, sym, subst, arith}
use Rattle.std.specs.Prelude.{IsTrue, ◌↔◌}
use Rattle.std.proofs.lemmas.List.{take_more, take_all}
use Rattle.std.proofs.lemmas.List.Elements.{All-push}
use Rattle.storage_lines.specs.Bytes.{IsBytes, HaveBytes}
use Rattle.storage_lines.specs.Lines.{after}
use Rattle.storage_lines.specs.declared.lines.LineWrite.{LineWrite}
use Rattle.storage_lines.proofs.ByteLemmas.{bytes_after}
use Rattle.param_records.specs.Steps.{HasMagic}
use Rattle.param_index.proofs.MagicLemmas.{magic_written, magic_kept}
use Rattle.param_index.proofs.setting.has_magic_after.Goals.{then-write-eq0, else-write-eq0}
use Rattle.param_index.proofs.setting.has_magic_after.Goals as goal

abbrev none : LineWrite
none = record { line = 0; bytes = [] }

pub loop-write-preserved : goal.loop-write-preserved
loop-write-preserved c =
    let b = c.args.current.now in
    let ws = c.args.writes.now in
    let i = c.loop-write.write-index in
    let inside : i < length ws = omega (arith, c.loop-write-test.true) in
    let bytes : HaveBytes (take (i + 1) ws) =
    subst (λ (l : List LineWrite). HaveBytes l) (sym (take_more ws i none inside)) (All-push (λ (w : LineWrite). IsBytes w.bytes) (take i ws) (get_or ws i none) c.loop-write.invariant.bytes c.is_magic-is_magic.ensures.bytes) in
    elim c.if-write-eq0.branch [
      | then-write-eq0 w ↦ record { magic = subst (λ (m : Bool). IsTrue m ↔ HasMagic (after b (take (i + 1) ws))) (sym w.magic-is) (magic_written b ws i none c.is_magic-is_magic.result c.requires inside c.is_magic-is_magic.ensures.size w.if-write-eq0.true c.is_magic-is_magic.ensures.magic); bytes = bytes }
      | else-write-eq0 w ↦ record { magic = subst (λ (m : Bool). IsTrue m ↔ HasMagic (after b (take (i + 1) ws))) (sym w.magic-is) (magic_kept b ws i none c.loop-write.magic c.requires inside w.if-write-eq0.false c.loop-write.invariant.magic); bytes = bytes }
    ]

pub returns-clause-bytes : goal.returns-clause-bytes
returns-clause-bytes c =
    let ws = c.args.writes.now in
    let all : take c.loop-write.write-index ws ≡ ws = take_all c.loop-write.write-index ws (omega arith) in
    bytes_after c.args.current.now ws (λ i. omega (arith, c.type_inv.current i)) (subst (λ (l : List LineWrite). HaveBytes l) all c.loop-write.invariant.bytes)

use Rattle.std.proofs.Common.{◌≡◌, ◌<◌, ◌++◌, List, length, sym, ◌∙◌, ap, subst, arith}
use Rattle.std.proofs.lemmas.List.{length-append}
use Rattle.std.proofs.lemmas.List.Elements.{All-append}
use Rattle.storage_lines.specs.declared.lines.LineWrite.{LineWrite}
use Rattle.storage_lines.specs.declared.lines.TheConstants.{STORAGE_BYTES, LINES}
use Rattle.storage_lines.specs.Areas.{put_in}
use Rattle.storage_lines.specs.Bytes.{IsBytes, HaveBytes, AreInside}
use Rattle.storage_lines.specs.Lines.{after, changes}
use Rattle.storage_lines.proofs.LineLemmas.{length-after}
use Rattle.storage_lines.proofs.ByteLemmas.{few_lines, changes_inside, changes_bytes, put_bytes, bytes_after}
use Rattle.storage_lines.proofs.pieces.split.Goals as goal
use Rattle.storage_lines.proofs.pieces.split.Goals.{In-Ok}

-- what the batch has got
got : (c : In-Ok) → c.try_extend_from_slice.new.self.items ≡ c.args.out.now.items ++ changes (after c.args.current.now c.as_slice.result.now)
    (put_in c.spans_of-spans.result c.args.at c.args.bytes.now (after c.args.current.now c.as_slice.result.now))
got c = c.in-Ok.ensures.ok ∙ ap (λ (l : List LineWrite). c.args.out.now.items ++ l) (c.as_slice-in-Some.ensures.value ∙ c.in-Some.ensures)

pub returns-in-Ok-clause-few : goal.returns-in-Ok-clause-few
returns-in-Ok-clause-few c =
    let before = after c.args.current.now c.as_slice.result.now in
    let size : length before ≡ STORAGE_BYTES = length-after c.args.current.now c.as_slice.result.now ∙ c.requires in
    let new = changes before (put_in c.spans_of-spans.result c.args.at c.args.bytes.now before) in
    omega (arith, ap (λ (l : List LineWrite). length l) (got c), length-append c.args.out.now.items new, few_lines c.spans_of-spans.result c.args.at c.args.bytes.now before size)

pub returns-in-Ok-clause-inside : goal.returns-in-Ok-clause-inside
returns-in-Ok-clause-inside c = λ h.
    let before = after c.args.current.now c.as_slice.result.now in
    let now = put_in c.spans_of-spans.result c.args.at c.args.bytes.now before in
    subst (λ (l : List LineWrite). AreInside l) (sym (got c)) (All-append (λ (write : LineWrite). write.line < LINES) c.args.out.now.items (changes before now) h (changes_inside before now))

pub returns-in-Ok-clause-bytes : goal.returns-in-Ok-clause-bytes
returns-in-Ok-clause-bytes c = λ h.
    let before = after c.args.current.now c.as_slice.result.now in
    let now = put_in c.spans_of-spans.result c.args.at c.args.bytes.now before in
    let old : IsBytes before = bytes_after c.args.current.now c.as_slice.result.now (λ i. omega (arith, c.type_inv.current i)) (subst (λ (l : List LineWrite). HaveBytes l) (sym c.as_slice.ensures.value) h) in
    subst (λ (l : List LineWrite). HaveBytes l) (sym (got c))
    (All-append (λ (write : LineWrite). IsBytes write.bytes) c.args.out.now.items (changes before now) h (changes_bytes before now (put_bytes c.spans_of-spans.result c.args.at c.args.bytes.now before (λ i. omega (arith, c.type_inv.bytes i)) old)))

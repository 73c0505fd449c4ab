use Rattle.std.proofs.Common.{arith, refl, ap, ◌∙◌, ◌≡◌, ◌≤◌, ◌*◌, ◌++◌, ◌∷◌, [], drop, take, map, get_or, length, subst, w32, to_z, ℤ}
use Rattle.std.specs.Prelude.{◌==◌, pos, ◌⊎◌}
use Rattle.std.proofs.lemmas.Int.{ints}
use Rattle.std.proofs.lemmas.Grind.{common_steps}
use Rattle.std.proofs.lemmas.List.{take_rest}
use Rattle.word_bits.specs.Pattern.{IsNearest}
use Rattle.storage_lines.specs.Numbers.{number_of}
use Rattle.fence_records.specs.Fence.{Polygon, Round, ReturnPoint, item, point_of, points_from}
use Rattle.fence_records.proofs.Points.{point_of-fits, points_from-fit, length-points_from}
use Rattle.fence_records.proofs.Bytes.{IsBytes, drop-IsBytes}
use Rattle.fence_records.proofs.Figures.{no_record, home_record, round_record, polygon_at, polygon_code, round_code, part-small, counted}
use Rattle.fence_records.proofs.read.read_record.Goals as goal

pub returns-then-bytes-lt9-clause-figure : goal.returns-then-bytes-lt9-clause-figure
returns-then-bytes-lt9-clause-figure c = (no_record c.args.bytes.now (λ h. omega arith) (λ h. omega arith) (λ h. omega arith), refl)

pub returns-then-bytes-lt13-clause-figure : goal.returns-then-bytes-lt13-clause-figure
returns-then-bytes-lt13-clause-figure c = (no_record c.args.bytes.now (λ h. omega arith) (λ h. omega arith) (λ h. omega arith), refl)

pub returns-then-bytes-count-clause-figure : goal.returns-then-bytes-count-clause-figure
returns-then-bytes-count-clause-figure c = (no_record c.args.bytes.now (λ h. omega arith) (λ h. omega arith) (λ h. omega arith), refl)

pub returns-else-bytes-lt9-clause-figure : goal.returns-else-bytes-lt9-clause-figure
returns-else-bytes-lt9-clause-figure c =
    let bytes : IsBytes c.args.bytes.now = λ i. omega (arith, c.type_inv.bytes i) in
    let long : 8 ≤ length (drop 1 c.args.bytes.now) = grind (arith, common_steps) in
    let point : c.point_of.result ≡ point_of (drop 1 c.args.bytes.now) = c.point_of.ensures ∙ ap point_of (take_rest c.args.bytes.now 1) in (
      ReturnPoint (point_of (drop 1 c.args.bytes.now)),
      point_of-fits (drop 1 c.args.bytes.now) long (drop-IsBytes 1 c.args.bytes.now bytes),
      home_record c.args.bytes.now bytes c.if-bytes-lt9.false c.in-95.is,
      c.push_item.ensures.items ∙ ap (λ z. c.args.items.now.items ++ item 5000 0 z ∷ []) point,
    )

pub returns-else-bytes-lt13-clause-figure : goal.returns-else-bytes-lt13-clause-figure
returns-else-bytes-lt13-clause-figure c =
    let bytes : IsBytes c.args.bytes.now = λ i. omega (arith, c.type_inv.bytes i) in
    let long : 8 ≤ length (drop 1 c.args.bytes.now) = grind (arith, common_steps) in
    let code : (get_or c.args.bytes.now 0 0 ≡ 92) ⊎ (get_or c.args.bytes.now 0 0 ≡ 93) = grind arith in
    let point : c.point_of-in-92.result ≡ point_of (drop 1 c.args.bytes.now) = c.point_of-in-92.ensures ∙ ap point_of (take_rest c.args.bytes.now 1) in (
      Round (get_or c.args.bytes.now 0 0 == 92) (number_of (take 4 (drop 9 c.args.bytes.now))) (point_of (drop 1 c.args.bytes.now)),
      (part-small c.args.bytes.now 9 bytes (omega arith), point_of-fits (drop 1 c.args.bytes.now) long (drop-IsBytes 1 c.args.bytes.now bytes)),
      round_record c.args.bytes.now (get_or c.args.bytes.now 0 0 == 92) bytes c.if-bytes-lt13.false (round_code (get_or c.args.bytes.now 0 0) code),
      c.push_item-in-92.ensures.items
          ∙ (ap (λ z. c.args.items.now.items ++ item c.choice-command.result c.number_of.result z ∷ []) point
          ∙ (ap (λ z. c.args.items.now.items ++ item c.choice-command.result z (point_of (drop 1 c.args.bytes.now)) ∷ []) c.number_of.ensures.value
          ∙ ap (λ z. c.args.items.now.items ++ item z (number_of (take 4 (drop 9 c.args.bytes.now))) (point_of (drop 1 c.args.bytes.now)) ∷ []) c.choice-command.ensures)),
    )

pub returns-else-bytes-count-clause-figure : goal.returns-else-bytes-count-clause-figure
returns-else-bytes-count-clause-figure c =
    let bytes : IsBytes c.args.bytes.now = λ i. omega (arith, c.type_inv.bytes i) in
    let code : (get_or c.args.bytes.now 0 0 ≡ 97) ⊎ (get_or c.args.bytes.now 0 0 ≡ 98) = grind arith in
    let long : 8 * c.count_of-count.result ≤ length (drop 2 c.args.bytes.now) = grind (arith, common_steps) in
    let size : length (points_from c.count_of-count.result (drop 2 c.args.bytes.now)) ≡ c.count_of-count.result = length-points_from c.count_of-count.result (drop 2 c.args.bytes.now) in
    let number : to_z w32 c.count_of-count.result ≡ pos c.count_of-count.result = omega (arith, ints) in
    let nearest = subst (λ (z : ℤ). IsNearest c.bits_of.result z 1) number c.bits_of.ensures.nearest in (
      Polygon (get_or c.args.bytes.now 0 0 == 98) c.bits_of.result (points_from c.count_of-count.result (drop 2 c.args.bytes.now)),
      (
        omega arith,
        counted c.count_of-count.result c.bits_of.result (drop 2 c.args.bytes.now) (nearest, c.bits_of.ensures.no_minus_zero),
        points_from-fit c.count_of-count.result (drop 2 c.args.bytes.now) long (drop-IsBytes 2 c.args.bytes.now bytes),
      ),
      polygon_at c.args.bytes.now (get_or c.args.bytes.now 0 0 == 98) c.bits_of.result c.count_of-count.result c.count_of-count.ensures.value bytes c.if-bytes-count.false (polygon_code (get_or c.args.bytes.now 0 0) code),
      c.push_points.ensures.items
          ∙ (ap (λ t. c.args.items.now.items ++ map (item c.choice-command-in-97.result c.bits_of.result) (points_from c.count_of-count.result t)) (take_rest c.args.bytes.now 2)
          ∙ ap (λ k. c.args.items.now.items ++ map (item k c.bits_of.result) (points_from c.count_of-count.result (drop 2 c.args.bytes.now))) c.choice-command-in-97.ensures),
    )

use Rattle.std.proofs.Common.{◌≡◌, ℕ, zero, suc, ◌+◌, List, [], ◌∷◌, drop, refl, ◌∙◌, ap, arith}
use Rattle.flash_board.specs.declared.record.Feed.{Feed}
use Rattle.flash_board.proofs.memory.following.Goals as goal

drop_one : (n : ℕ) (xs : List Feed) → drop (suc n) xs ≡ drop 1 (drop n xs)
drop_one zero xs = refl
drop_one (suc n) [] = refl
drop_one (suc n) (x ∷ xs) = drop_one n xs

pub returns-then-next-feed : goal.returns-then-next-feed
returns-then-next-feed c =
    let one : c.args.next + 1 ≡ suc c.args.next = omega arith in
    ap (λ (n : ℕ). drop n c.args.feed.now) one ∙ drop_one c.args.next c.args.feed.now

-- Words are an image with one reading, or have one first foreign word.
use Rattle.std.proofs.Common.{◌≡◌, ◌⊎◌, inl, inr, ℕ, ◌%◌, ◌≤◌, Bool, true, false, List, length, refl, sym, ◌∙◌, ap, subst, arith}
use Rattle.std.specs.Prelude.{All, IsTrue}
use Rattle.std.proofs.lemmas.List.Elements.{All-append}
use Rattle.std.proofs.lemmas.Bool.{cases_eq}
use Rattle.flash_traits.specs.Words.{Words, halfwords_in, HasShape, IsSectorSize, IsSectorRegion}
use Rattle.flash_traits.specs.declared.board.Region.{Region}
use Rattle.flash_traits.specs.declared.board.Region.TheVariants.{S0, S1, Guard}
use Rattle.flash_traits.specs.declared.board.Mark.{Mark}
use Rattle.flash_traits.specs.declared.board.Mark.TheVariants.{Available, InUse, Full}
use Rattle.guard_row.specs.Row.{IsGuardRow}
use Rattle.guard_row.specs.Row as guard
use Rattle.sector_log.specs.Entries.{Entry, IsEntry}
use Rattle.sector_log.specs.Sector.{IsSector, HasHead, BadHead, BadLog}
use Rattle.flash_traits.specs.Marks.{mark_word}
use Rattle.sector_log.specs.Bytes.{applied, IsValue}
use Rattle.sector_log.specs.Storage.{storage_bytes}
use Rattle.sector_log.proofs.ValueLemmas.{value_applied}
use Rattle.sector_log.proofs.ValueLemmas as values
use Rattle.sector_image.specs.Stands.{home_mark, beside, only_in_use, room_kept, Reading, Both, One, IsBoth, IsOne, IsReadAs, entries_in, Stands}
use Rattle.guard_row.specs.Home.{first_of, second_of}
use Rattle.sector_image.specs.FirstBad.{Place, foreign_place, At, AreHeads, FirstBad, GuardRow, HomeHead, OtherHead, HomeLog, OtherLog, NoRoom, OnlyHead, OnlyLog}
use Rattle.sector_image.proofs.Checks.{BadOtherLog, BadHomeLog, BadOtherHead, BadBoth, BadOne, BadSectors, BadInside, inside_of}
use Rattle.sector_image.proofs.Values.{zeros_of}
use Rattle.sector_image.proofs.LawsBelow.{sector_parts, sector_reading, guard_law}
use Rattle.sector_image.proofs.Regions.{big}
use Rattle.guard_row.proofs.HomeLemmas.{first_sector, second_sector}

same_place : (p q : Place) → p.region ≡ q.region → p.at ≡ q.at → p.word ≡ q.word → p ≡ q
same_place p q e f g =
    ap (λ (r : Region). record p { region = r }) e ∙ ap (λ (n : ℕ). record { region = q.region; at = n; word = p.word }) f ∙ ap (λ (w : ℕ). record q { word = w }) g

at_once : (r : Region) (fails : ℕ → ℕ → Type 0) → ((p q v w : ℕ) → fails p v → fails q w → (p ≡ q) × (v ≡ w)) → (p q : Place) → At r fails p → At r fails q → p ≡ q
at_once r fails single p q x y = let same = single p.at q.at p.word q.word x.1 y.1 in same_place p q (x.0 ∙ sym y.0) same.0 same.1

one_other_log : (s : Region) (other : List ℕ) (n : Mark) (es : List Entry) (p q : Place) → BadOtherLog s other n es p → BadOtherLog s other n es q → p ≡ q
one_other_log s other n es p q x y = elim x [
  | inl a ↦ elim y [
    | inl b ↦ at_once s (BadLog other) (sector_parts.one_bad_log other) p q a b
    | inr b ↦ absurd (sector_parts.no_bad_log other n b.0 p.at p.word b.1 a.1)
  ]
  | inr a ↦ elim y [
    | inl b ↦ absurd (sector_parts.no_bad_log other n a.0 q.at q.word a.1 b.1)
    | inr b ↦ same_place p q (a.3.0 ∙ sym b.3.0) (a.3.1.0 ∙ sym b.3.1.0) (a.3.1.1 ∙ sym b.3.1.1)
  ]
]

one_home_log : (r s : Region) (home other : List ℕ) (m n : Mark) (p q : Place) → BadHomeLog r s home other m n p → BadHomeLog r s home other m n q → p ≡ q
one_home_log r s home other m n p q x y = elim x [
  | inl a ↦ elim y [
    | inl b ↦ at_once r (BadLog home) (sector_parts.one_bad_log home) p q a b
    | inr b ↦ absurd (sector_parts.no_bad_log home m b.0 p.at p.word b.1 a.1)
  ]
  | inr a ↦ elim y [
    | inl b ↦ absurd (sector_parts.no_bad_log home m a.0 q.at q.word a.1 b.1)
    | inr b ↦ one_other_log s other n a.0 p q a.2 (subst (λ (es : List Entry). BadOtherLog s other n es q) (sector_reading.sector home m m b.0 a.0 b.1 a.1).1 b.2)
  ]
]

one_other_head : (r s : Region) (home other : List ℕ) (m : Mark) (p q : Place) → BadOtherHead r s home other m p → BadOtherHead r s home other m q → p ≡ q
one_other_head r s home other m p q x y = elim x [
  | inl a ↦ elim y [
    | inl b ↦ at_once s (BadHead (beside m) other) (sector_parts.one_bad_head (beside m) other) p q a b
    | inr b ↦ absurd (sector_parts.no_bad_head (beside m) other b.0 p.at p.word b.1 b.2 a.1)
  ]
  | inr a ↦ elim y [
    | inl b ↦ absurd (sector_parts.no_bad_head (beside m) other a.0 q.at q.word a.1 a.2 b.1)
    | inr b ↦ one_home_log r s home other m a.0 p q a.3 (subst (λ (n : Mark). BadHomeLog r s home other m n q) (sector_parts.one_head other b.0 a.0 b.2 a.2) b.3)
  ]
]

one_both : (w : Words) (count : ℕ) (p q : Place) → BadBoth w count p → BadBoth w count q → p ≡ q
one_both w count p q x y =
    let home = halfwords_in w (first_of count) in
    let other = halfwords_in w (second_of count) in
    elim x [
      | inl a ↦ elim y [
        | inl b ↦ at_once (first_of count) (BadHead home_mark home) (sector_parts.one_bad_head home_mark home) p q a b
        | inr b ↦ absurd (sector_parts.no_bad_head home_mark home b.0 p.at p.word b.1 b.2 a.1)
      ]
      | inr a ↦ elim y [
        | inl b ↦ absurd (sector_parts.no_bad_head home_mark home a.0 q.at q.word a.1 a.2 b.1)
        | inr b ↦ one_other_head (first_of count) (second_of count) home other a.0 p q a.3
            (subst (λ (m : Mark). BadOtherHead (first_of count) (second_of count) home other m q) (sector_parts.one_head home b.0 a.0 b.2 a.2) b.3)
      ]
    ]

one_one : (w : Words) (count : ℕ) (p q : Place) → BadOne w count p → BadOne w count q → p ≡ q
one_one w count p q x y =
    let only = halfwords_in w (first_of count) in
    elim x [
      | inl a ↦ elim y [
        | inl b ↦ at_once (first_of count) (BadHead only_in_use only) (sector_parts.one_bad_head only_in_use only) p q a b
        | inr b ↦ absurd (sector_parts.no_bad_head only_in_use only InUse p.at p.word refl b.0 a.1)
      ]
      | inr a ↦ elim y [
        | inl b ↦ absurd (sector_parts.no_bad_head only_in_use only InUse q.at q.word refl a.0 b.1)
        | inr b ↦ at_once (first_of count) (BadLog only) (sector_parts.one_bad_log only) p q a.1 b.1
      ]
    ]

one_sectors : (w : Words) (count : ℕ) (p q : Place) → BadSectors w count p → BadSectors w count q → p ≡ q
one_sectors w count p q x y = elim x [
  | inl a ↦ elim y [
    | inl b ↦ one_both w count p q a.1 b.1
    | inr b ↦ absurd (omega (arith, a.0, b.0))
  ]
  | inr a ↦ elim y [
    | inl b ↦ absurd (omega (arith, a.0, b.0))
    | inr b ↦ one_one w count p q a.1 b.1
  ]
]

one_inside : (w : Words) (p q : Place) → BadInside w p → BadInside w q → p ≡ q
one_inside w p q x y = elim x [
  | inl a ↦ elim y [
    | inl b ↦ at_once Guard (guard.FirstBad w.guard) (guard_law.one_place w.guard) p q a b
    | inr b ↦ absurd (guard_law.never_both w.guard b.0 p.at p.word b.1 a.1)
  ]
  | inr a ↦ elim y [
    | inl b ↦ absurd (guard_law.never_both w.guard a.0 q.at q.word a.1 b.1)
    | inr b ↦ one_sectors w a.0 p q a.2 (subst (λ (c : ℕ). BadSectors w c q) (guard_law.one_count w.guard b.0 a.0 b.1 a.1) b.2)
  ]
]

pub one_place : (w : Words) (p q : Place) → FirstBad w p → FirstBad w q → p ≡ q
one_place w p q x y = one_inside w p q (inside_of w p x) (inside_of w q y)

-- an image with both sectors read has no failing place there
good_both : (w : Words) (count : ℕ) (m n : Mark) (es fs : List Entry) (p : Place) → IsBoth w count m n es fs → BadBoth w count p → ⊥
good_both w count m n es fs p good bad =
    let home = halfwords_in w (first_of count) in
    let other = halfwords_in w (second_of count) in
    let home_head : HasHead home m = sector_parts.has_head home m es good.first in
    let other_head : HasHead other n = sector_parts.has_head other n fs good.second in
    elim bad [
      | inl a ↦ sector_parts.no_bad_head home_mark home m p.at p.word good.home_may home_head a.1
      | inr a ↦ elim (subst (λ (k : Mark). BadOtherHead (first_of count) (second_of count) home other k p) (sector_parts.one_head home a.0 m a.2 home_head) a.3) [
        | inl b ↦ sector_parts.no_bad_head (beside m) other n p.at p.word good.other_may other_head b.1
        | inr b ↦ elim (subst (λ (k : Mark). BadHomeLog (first_of count) (second_of count) home other m k p) (sector_parts.one_head other b.0 n b.2 other_head) b.3) [
          | inl d ↦ sector_parts.no_bad_log home m es p.at p.word good.first d.1
          | inr d ↦ elim (subst (λ (l : List Entry). BadOtherLog (second_of count) other n l p) (sector_reading.sector home m m d.0 es d.1 good.first).1 d.2) [
            | inl f ↦ sector_parts.no_bad_log other n fs p.at p.word good.second f.1
            | inr f ↦
                let same : f.0 ≡ fs = (sector_reading.sector other n n f.0 fs f.1 good.second).1 in
                let wrong : room_kept n (length other) es fs ≡ false = sym (ap (λ (l : List Entry). room_kept n (length other) es l) same) ∙ f.2 in
                let clash : true ≡ false = sym good.room ∙ wrong in
                cc
          ]
        ]
      ]
    ]

good_one : (w : Words) (count : ℕ) (es : List Entry) (p : Place) → IsOne w count es → BadOne w count p → ⊥
good_one w count es p good bad =
    let only = halfwords_in w (first_of count) in
    elim bad [
      | inl a ↦ sector_parts.no_bad_head only_in_use only InUse p.at p.word refl (sector_parts.has_head only InUse es good.first) a.1
      | inr a ↦ sector_parts.no_bad_log only InUse es p.at p.word good.first a.1.1
    ]

never_inside : (w : Words) (reading : Reading) (p : Place) → IsReadAs w reading → BadInside w p → ⊥
never_inside w (Both count m n es fs) p good bad = elim bad [
  | inl a ↦ guard_law.never_both w.guard count p.at p.word good.guard a.1
  | inr a ↦ elim (subst (λ (c : ℕ). BadSectors w c p) (guard_law.one_count w.guard a.0 count a.1 good.guard) a.2) [
    | inl b ↦ good_both w count m n es fs p good b.1
    | inr b ↦ omega (arith, b.0, good.even)
  ]
]
never_inside w (One count es) p good bad = elim bad [
  | inl a ↦ guard_law.never_both w.guard count p.at p.word good.guard a.1
  | inr a ↦ elim (subst (λ (c : ℕ). BadSectors w c p) (guard_law.one_count w.guard a.0 count a.1 good.guard) a.2) [
    | inl b ↦ omega (arith, b.0, good.odd)
    | inr b ↦ good_one w count es p good b.1
  ]
]

pub never_both : (w : Words) (reading : Reading) (p : Place) → IsReadAs w reading → FirstBad w p → ⊥
never_both w reading p good bad = never_inside w reading p good (inside_of w p bad)

same_both : (c d : ℕ) (m n k l : Mark) (es fs gs hs : List Entry) → c ≡ d → m ≡ k → n ≡ l → es ≡ gs → fs ≡ hs → Both c m n es fs ≡ Both d k l gs hs
same_both c d m n k l es fs gs hs a b e f g = cc

-- the reading is determined
pub one_reading : (w : Words) (a b : Reading) → IsReadAs w a → IsReadAs w b → a ≡ b
one_reading w (Both c m n es fs) (Both d k l gs hs) p q =
    let count : c ≡ d = guard_law.one_count w.guard c d p.guard q.guard in
    let first = sector_reading.sector (halfwords_in w (first_of c)) m k es gs p.first (subst (λ (i : ℕ). IsSector (halfwords_in w (first_of i)) k gs) (sym count) q.first) in
    let second = sector_reading.sector (halfwords_in w (second_of c)) n l fs hs p.second (subst (λ (i : ℕ). IsSector (halfwords_in w (second_of i)) l hs) (sym count) q.second) in
    same_both c d m n k l es fs gs hs count first.0 second.0 first.1 second.1
one_reading w (Both c m n es fs) (One d gs) p q = absurd (omega (arith, guard_law.one_count w.guard c d p.guard q.guard, p.even, q.odd))
one_reading w (One c es) (Both d k l gs hs) p q = absurd (omega (arith, guard_law.one_count w.guard c d p.guard q.guard, p.odd, q.even))
one_reading w (One c es) (One d gs) p q =
    let count : c ≡ d = guard_law.one_count w.guard c d p.guard q.guard in
    let first : es ≡ gs = (sector_reading.sector (halfwords_in w (first_of c)) InUse InUse es gs p.first (subst (λ (i : ℕ). IsSector (halfwords_in w (first_of i)) InUse gs) (sym count) q.first)).1 in
    cc

pub one_value : (w : Words) (a b : List ℕ) → Stands w a → Stands w b → a ≡ b
one_value w a b p q =
    values.one_value (entries_in p.0) a b p.2 (subst (λ (r : Reading). IsValue (entries_in r) b) (one_reading w q.0 p.0 q.1 p.1) q.2)

true_or_false : (b : Bool) → (b ≡ true) ⊎ (b ≡ false)
true_or_false true = inl refl
true_or_false false = inr refl

each_in : (w : Words) (reading : Reading) → IsReadAs w reading → All IsEntry (entries_in reading)
each_in w (Both count m n es fs) p = All-append IsEntry es fs p.first.each p.second.each
each_in w (One count es) p = p.first.each

stands_of : (w : Words) (reading : Reading) → IsReadAs w reading → (bytes : List ℕ) × Stands w bytes
stands_of w reading p =
    let zeros = zeros_of storage_bytes in
    (applied zeros.0 (entries_in reading), (reading, p, value_applied (entries_in reading) zeros.0 (each_in w reading p) zeros.1 zeros.2))

abbrev Decided : Words → Type 0
Decided w = ((reading : Reading) × IsReadAs w reading) ⊎ ((p : Place) × FirstBad w p)

decide_both : (w : Words) (count : ℕ) → IsGuardRow w.guard count → count % 2 ≡ 0 → 2 ≤ length (halfwords_in w (first_of count)) → 2 ≤ length (halfwords_in w (second_of count)) → Decided w
decide_both w count guard_row even some some' =
    let r = first_of count in
    let s = second_of count in
    let home = halfwords_in w r in
    let other = halfwords_in w s in
    let heads : (m n : Mark) → IsTrue (home_mark m) → IsTrue (beside m n) → HasHead home m → HasHead other n → AreHeads w count m n =
    λ m n may beside_may first second. record { guard = guard_row; even = even; home_may = may; other_may = beside_may; first = first; second = second } in
    elim (sector_parts.head home_mark home some) [
      | inr bad ↦ inr (foreign_place r bad.0 bad.1, HomeHead count guard_row even (refl, bad.2))
      | inl h ↦ elim (sector_parts.head (beside h.0) other some') [
        | inr bad ↦ inr (foreign_place s bad.0 bad.1, OtherHead count h.0 guard_row even h.1 h.2 (refl, bad.2))
        | inl o ↦ elim (sector_parts.log home h.0 h.2) [
          | inr bad ↦ inr (foreign_place r bad.0 bad.1, HomeLog count h.0 o.0 (heads h.0 o.0 h.1 o.1 h.2 o.2) (refl, bad.2))
          | inl es ↦ elim (sector_parts.log other o.0 o.2) [
            | inr bad ↦ inr (foreign_place s bad.0 bad.1, OtherLog count h.0 o.0 es.0 (heads h.0 o.0 h.1 o.1 h.2 o.2) es.1 (refl, bad.2))
            | inl fs ↦ elim (true_or_false (room_kept o.0 (length other) es.0 fs.0)) [
              | inr none ↦ inr (foreign_place s 0 (mark_word o.0), NoRoom count h.0 o.0 es.0 fs.0 (heads h.0 o.0 h.1 o.1 h.2 o.2) es.1 fs.1 none (refl, (refl, refl)))
              | inl room ↦ inl (
                Both count h.0 o.0 es.0 fs.0,
                record { guard = guard_row; even = even; home_may = h.1; other_may = o.1; first = es.1; second = fs.1; room = room },
              )
            ]
          ]
        ]
      ]
    ]

pub only_mark : (m : Mark) → IsTrue (only_in_use m) → m ≡ InUse
only_mark Available h = cc
only_mark InUse h = refl
only_mark Full h = cc

decide_one : (w : Words) (count : ℕ) → IsGuardRow w.guard count → count % 2 ≡ 1 → 2 ≤ length (halfwords_in w (first_of count)) → Decided w
decide_one w count guard_row odd some =
    let r = first_of count in
    let only = halfwords_in w r in
    elim (sector_parts.head only_in_use only some) [
      | inr bad ↦ inr (foreign_place r bad.0 bad.1, OnlyHead count guard_row odd (refl, bad.2))
      | inl h ↦
          let head : HasHead only InUse = subst (λ (m : Mark). HasHead only m) (only_mark h.0 h.1) h.2 in
          elim (sector_parts.log only InUse head) [
            | inr bad ↦ inr (foreign_place r bad.0 bad.1, OnlyLog count guard_row odd head (refl, bad.2))
            | inl es ↦ inl (One count es.0, record { guard = guard_row; odd = odd; first = es.1 })
          ]
    ]

sector_least : (w : Words) (n : ℕ) → IsSectorSize n → HasShape n w → (r : Region) → IsSectorRegion r → 2 ≤ length (halfwords_in w r)
sector_least w n size shape S0 is = omega (arith, shape S0, big n size)
sector_least w n size shape S1 is = omega (arith, shape S1, big n size)
sector_least w n size shape Guard is = absurd is

decide : (w : Words) (n : ℕ) → IsSectorSize n → HasShape n w → Decided w
decide w n size shape = elim (guard_law.either w.guard) [
  | inr bad ↦ inr (foreign_place Guard bad.0 bad.1, GuardRow (refl, bad.2))
  | inl found ↦
      let some = sector_least w n size shape (first_of found.0) (first_sector found.0) in
      let some' = sector_least w n size shape (second_of found.0) (second_sector found.0) in
      elim (cases_eq (found.0 % 2) 0) [
        | inl even ↦ decide_both w found.0 found.1 even some some'
        | inr odd ↦ decide_one w found.0 found.1 (omega arith) some
      ]
]

pub either : (w : Words) (n : ℕ) → IsSectorSize n → HasShape n w → ((bytes : List ℕ) × Stands w bytes) ⊎ ((p : Place) × FirstBad w p)
either w n size shape = elim (decide w n size shape) [
  | inl found ↦ inl (stands_of w found.0 found.1)
  | inr bad ↦ inr bad
]

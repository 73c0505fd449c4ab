-- Words that stand for bytes, and what keeps them so.
use Rattle.std.proofs.Common.{◌≡◌, ◌⊎◌, ℕ, ◌+◌, ◌*◌, ◌%◌, ◌<◌, ◌≤◌, List, [], ◌++◌, length, refl, sym, ◌∙◌, ap, subst, arith}
use Rattle.std.specs.Prelude.{bit_and, slice_set, slice_index, nat_le}
use Rattle.std.proofs.lemmas.Bool.{le-leb}
use Rattle.std.proofs.lemmas.List.{append-nil}
use Rattle.flash_traits.specs.Words.{Words, halfwords_in}
use Rattle.flash_traits.specs.declared.board.Mark.TheVariants.{Available, InUse, Full}
use Rattle.guard_row.specs.Row.{IsGuardRow}
use Rattle.guard_row.proofs.StepLemmas.{next_count}
use Rattle.sector_log.specs.declared.log.Log.{Log}
use Rattle.sector_log.specs.Entries.{Entry}
use Rattle.sector_log.specs.Sector.{IsSector}
use Rattle.sector_log.specs.Bytes.{IsValue, value_of}
use Rattle.flash_traits.specs.Values.{put}
use Rattle.sector_log.specs.Log.{end_of_entries}
use Rattle.sector_image.specs.declared.kept.Kept.{Kept}
use Rattle.sector_image.specs.declared.kept.Shape.TheVariants as shape
use Rattle.sector_image.specs.Images.{Bytes}
use Rattle.sector_image.specs.Room.{left_to_copy, finishing, copied_end, has_room}
use Rattle.sector_image.specs.Stands.{Both, One, IsBoth, Stands}
use Rattle.guard_row.specs.Home.{first_of, second_of}
use Rattle.sector_image.specs.Losses.{RaisesGuard, KeepsBytes, Puts, MayPut}
use Rattle.sector_image.specs.Fits.{OneLogWords, TwoLogWords}
use Rattle.sector_image.proofs.LawsBelow.{guard_law}
use Rattle.sector_image.proofs.Values.{value_is}
use Rattle.sector_image.proofs.ImageLaws.{one_value}

-- guard counts
pub raises_none : (most : ℕ) (a b : List ℕ) → b ≡ a → RaisesGuard most a b
raises_none most a b same = λ c is. (c, subst (λ (l : List ℕ). IsGuardRow l c) (sym same) is, omega arith, omega arith)

pub raises_one : (halfwords_in : List ℕ) (count : ℕ) → IsGuardRow halfwords_in count → count < length halfwords_in → RaisesGuard 1 halfwords_in (slice_set halfwords_in count (bit_and (slice_index halfwords_in count) 0))
raises_one halfwords_in count is lt = λ c other. let same : c ≡ count = guard_law.one_count halfwords_in c count other is in
    (count + 1, next_count halfwords_in count is lt, omega (arith, same), omega (arith, same))

pub raises_then : (m n : ℕ) (a b c : List ℕ) → RaisesGuard m a b → RaisesGuard n b c → RaisesGuard (m + n) a c
raises_then m n a b c first second = λ k is. let mid = first k is in let last = second mid.0 mid.1 in
    (last.0, last.1, omega (arith, mid.2, last.2), omega (arith, mid.3, last.3))

-- words that stand for the same bytes
pub keeps : (most : ℕ) (w v : Words) (bytes : List ℕ) → Stands w bytes → Stands v bytes → RaisesGuard most w.guard v.guard → KeepsBytes most w v
keeps most w v bytes was is raised = record { bytes = λ b other. subst (λ (l : List ℕ). Stands v l) (one_value w bytes b was other) is; guard = raised }

pub keeps_all : (most : ℕ) (w : Words) → KeepsBytes most w w
keeps_all most w = record { bytes = λ b is. is; guard = raises_none most w.guard w.guard refl }

pub keeps_then : (m n : ℕ) (u v w : Words) → KeepsBytes m u v → KeepsBytes n v w → KeepsBytes (m + n) u w
keeps_then m n u v w first second = record { bytes = λ b is. second.bytes b (first.bytes b is); guard = raises_then m n u.guard v.guard w.guard first.guard second.guard }

pub keeps_more : (m n : ℕ) (u v : Words) → m ≤ n → KeepsBytes m u v → KeepsBytes n u v
keeps_more m n u v le is = record { bytes = is.bytes; guard = λ c halfwords_in. let d = is.guard c halfwords_in in (d.0, d.1, d.2, omega (arith, d.3, le)) }

-- the room rule by the bytes of both lists
pub copied_is : (home other : List Entry) (whole upper : List ℕ) → IsValue (home ++ other) whole → IsValue other upper
    → copied_end home other ≡ 66 * left_to_copy whole upper (finishing whole other) + 2 * end_of_entries other
unfolding copied_end
copied_is home other whole upper value above =
    let end : List ℕ → List ℕ → ℕ = λ a b. 66 * left_to_copy a b (finishing a other) + 2 * end_of_entries other in
    ap (λ (a : List ℕ). end a (value_of other)) (value_is (home ++ other) whole value) ∙ ap (λ (b : List ℕ). end whole b) (value_is other upper above)

pub room_is : (halfwords : ℕ) (home other : List Entry) (whole upper : List ℕ) → IsValue (home ++ other) whole → IsValue other upper
    → has_room halfwords home other ≡ nat_le (66 * left_to_copy whole upper (finishing whole other) + 2 * end_of_entries other) (2 * halfwords)
room_is halfwords home other whole upper value above = ap (λ (n : ℕ). nat_le n (2 * halfwords)) (copied_is home other whole upper value above)

-- what makes words a spilled image
pub reads_spilled : (w : Words) (count : ℕ) (home other : List Entry) (whole upper : List ℕ) → IsGuardRow w.guard count → count % 2 ≡ 0
    → IsSector (halfwords_in w (first_of count)) Full home → IsSector (halfwords_in w (second_of count)) InUse other → IsValue (home ++ other) whole → IsValue other upper
    → 66 * left_to_copy whole upper (finishing whole other) + 2 * end_of_entries other ≤ 2 * length (halfwords_in w (second_of count)) → IsBoth w count Full InUse home other
reads_spilled w count home other whole upper guard even first second value above room = record {
  guard = guard;
  even = even;
  home_may = refl;
  other_may = refl;
  first = first;
  second = second;
  room = room_is (length (halfwords_in w (second_of count))) home other whole upper value above ∙ le-leb _ _ room;
}

-- an entry that is put, or may be
pub may_put : (first : ℕ) (entry : List ℕ) (w v : Words) (bytes : List ℕ) → Stands w bytes → v.guard ≡ w.guard → Stands v bytes ⊎ Stands v (put (8 * first) entry bytes) → MayPut first entry w v
may_put first entry w v bytes was guard is = record {
  bytes = λ b other. subst (λ (l : List ℕ). Stands v l ⊎ Stands v (put (8 * first) entry l)) (one_value w bytes b was other) is;
  guard = raises_none 0 w.guard v.guard guard;
}

pub puts : (first : ℕ) (entry : List ℕ) (w v : Words) (bytes : List ℕ) → Stands w bytes → v.guard ≡ w.guard → Stands v (put (8 * first) entry bytes) → Puts first entry w v
puts first entry w v bytes was guard is = record {
  bytes = λ b other. subst (λ (l : List ℕ). Stands v (put (8 * first) entry l)) (one_value w bytes b was other) is;
  guard = raises_none 0 w.guard v.guard guard;
}

-- the bytes that the words stand for
pub stands_both : (m : _) (n : _) (kept : Kept) (entries : List Entry) (whole : List ℕ) (w : Words) → IsBoth w kept.guard m n entries [] → IsValue entries whole → Stands w whole
stands_both m n kept entries whole w reads value = (Both kept.guard m n entries [], reads, subst (λ (es : List Entry). IsValue es whole) (sym (append-nil entries)) value)

pub stands_alone : (kept : Kept) (images : Bytes) (w : Words) → OneLogWords shape.Alone kept images w → Stands w images.whole
stands_alone kept images w told = stands_both InUse Available kept told.entries images.whole w told.reads told.whole

pub stands_marked : (kept : Kept) (images : Bytes) (w : Words) → OneLogWords shape.Marked kept images w → Stands w images.whole
stands_marked kept images w told = stands_both Full Available kept told.entries images.whole w told.reads told.whole

pub stands_void : (kept : Kept) (images : Bytes) (w : Words) → OneLogWords shape.Voided kept images w → Stands w images.whole
stands_void kept images w told = (One kept.guard told.entries, told.reads, told.whole)

pub stands_now : (kept : Kept) (log : Log) (images : Bytes) (w : Words) → TwoLogWords kept log images w → Stands w images.whole
stands_now kept log images w told = (Both kept.guard Full InUse told.home told.other, told.reads, told.whole)

-- What is stored fits fifteen bytes.
use Rattle.std.proofs.Common.{◌≡◌, ◌≢◌, ℕ, zero, suc, ◌+◌, ◌-◌, ◌/◌, ◌%◌, ◌<◌, ◌≤◌, Bool, true, false, not, ◌&&◌, ◌||◌, nat_lt, ltb-true, eqb-true, List, [], ◌∷◌, ◌++◌, length, take, replicate, refl, ap, sym, ◌∙◌, subst, arith, append_assoc, length-append, inl, inr}
use Rattle.std.specs.Prelude.{◌==◌, unwrap_or, Option, Some, cond}
use Rattle.std.specs.List.{find, list_all}
use Rattle.std.proofs.Math.Seq.{take-append_seam}
use Rattle.std.proofs.lemmas.Bool.{and_parts, or_cases}
use Rattle.mission_commands.specs.declared.table.Row.{Row}
use Rattle.mission_commands.specs.declared.table.Use.{Use}
use Rattle.mission_commands.specs.declared.table.Use.TheVariants.{Unused, Whole, Signed, Pattern}
use Rattle.mission_commands.specs.declared.table.Shape.{Shape}
use Rattle.mission_commands.specs.declared.table.Shape.TheVariants.{Located, Plain, Unlisted}
use Rattle.mission_commands.specs.declared.commands.Item.{Item}
use Rattle.mission_commands.specs.declared.commands.Command.{Command}
use Rattle.storage_lines.specs.Numbers.{bytes_of_number, unsigned}
use Rattle.mission_commands.specs.Rows.{IsRow, stored_width}
use Rattle.mission_commands.specs.Table.{rows, row_of, unlisted}
use Rattle.mission_commands.specs.Commands.{StoredAs, IsPacked, IsListed, has_location, parameter_bytes, filled_to, frame_flags, sign_flag}
use Rattle.storage_lines.specs.Bytes.{IsBytes}
use Rattle.mission_commands.specs.Storable.{StoresFit}
use Rattle.storage_lines.proofs.NumberLemmas.{length-bytes_of}
use Rattle.mission_commands.proofs.Rows.{find-passes, row_of-IsRow}
use Rattle.mission_commands.proofs.Tested.{length-StoredAs}
use Rattle.mission_commands.proofs.Comes.{IsRestOf, rest_of}
use Rattle.mission_commands.proofs.Back.{flags-small}

pub low_nil : IsBytes []
low_nil i = omega arith

pub low_cons : (x : ℕ) (xs : List ℕ) → x < 256 → IsBytes xs → IsBytes (x ∷ xs)
low_cons x xs h k zero = h
low_cons x xs h k (suc i) = k i

pub low_append : (xs ys : List ℕ) → IsBytes xs → IsBytes ys → IsBytes (xs ++ ys)
low_append [] ys h k i = k i
low_append (x ∷ xs) ys h k zero = h zero
low_append (x ∷ xs) ys h k (suc i) = low_append xs ys (λ j. h (suc j)) k i

pub low_bytes_of : (w n : ℕ) → IsBytes (bytes_of_number w n)
unfolding bytes_of_number
low_bytes_of zero n = low_nil
low_bytes_of (suc w) n = low_cons (n % 256) (bytes_of_number w (n / 256)) (omega arith) (low_bytes_of w (n / 256))

pub low_zeros : (n : ℕ) → IsBytes (replicate {A = ℕ} n 0)
low_zeros zero = low_nil
low_zeros (suc n) = low_cons 0 (replicate {A = ℕ} n 0) (omega arith) (low_zeros n)

length-zeros : (n : ℕ) → length (replicate {A = ℕ} n 0) ≡ n
length-zeros zero = refl
length-zeros (suc n) = ap suc (length-zeros n)

pub low_part : (u : Use) (bits : ℕ) (part : List ℕ) → StoredAs u bits part → IsBytes part
low_part Unused bits part h = subst IsBytes (sym h) low_nil
low_part (Whole low high width) bits part h = subst IsBytes (sym h.2) (low_bytes_of width _)
low_part (Signed high width) bits part h = subst IsBytes (sym h.2) (low_bytes_of width _)
low_part Pattern bits part h = subst IsBytes (sym h) (low_bytes_of 4 bits)

pub low_filled : (xs : List ℕ) → IsBytes xs → IsBytes (filled_to 12 xs)
low_filled xs h = low_append xs (replicate {A = ℕ} (12 - length xs) 0) h (low_zeros (12 - length xs))

pub length-filled : (xs : List ℕ) → length xs ≤ 12 → length (filled_to 12 xs) ≡ 12
length-filled xs h =
    let rest : length (replicate {A = ℕ} (12 - length xs) 0) ≡ 12 - length xs = length-zeros (12 - length xs) in
    let both : length (filled_to 12 xs) ≡ length xs + length (replicate {A = ℕ} (12 - length xs) 0) = length-append xs (replicate {A = ℕ} (12 - length xs) 0) in
    omega arith

two_more : (m n : ℕ) → n ≡ suc (suc m) → replicate {A = ℕ} n 0 ≡ replicate {A = ℕ} m 0 ++ 0 ∷ 0 ∷ []
two_more zero n e = rw e refl
two_more (suc m) n e = rw e (ap (λ t. 0 ∷ t) (two_more m (suc (suc m)) refl))

-- at most ten bytes are filled with two zeros at least
pub ends_with_zeros : (xs : List ℕ) → length xs ≤ 10 → filled_to 12 xs ≡ take 10 (filled_to 12 xs) ++ 0 ∷ 0 ∷ []
ends_with_zeros xs h =
    let front = xs ++ replicate {A = ℕ} (10 - length xs) 0 in
    let whole : filled_to 12 xs ≡ front ++ 0 ∷ 0 ∷ [] =
    ap (λ t. xs ++ t) (two_more (10 - length xs) (12 - length xs) (omega arith)) ∙ sym (append_assoc xs (replicate {A = ℕ} (10 - length xs) 0) (0 ∷ 0 ∷ [])) in
    let rest : length (replicate {A = ℕ} (10 - length xs) 0) ≡ 10 - length xs = length-zeros (10 - length xs) in
    let both : length (xs ++ replicate {A = ℕ} (10 - length xs) 0) ≡ length xs + length (replicate {A = ℕ} (10 - length xs) 0) = length-append xs (replicate {A = ℕ} (10 - length xs) 0) in
    let size : 10 ≡ length (xs ++ replicate {A = ℕ} (10 - length xs) 0) = omega arith in
    let part : take 10 (filled_to 12 xs) ≡ front = ap (take 10) whole ∙ (ap (λ k. take k (front ++ 0 ∷ 0 ∷ [])) size ∙ take-append_seam front (0 ∷ 0 ∷ [])) in
    whole ∙ ap (λ t. t ++ 0 ∷ 0 ∷ []) (sym part)

-- the row that is found has the id
found_at : (id : ℕ) (x : Row) (o : Option Row) (b : Bool) → (x.id == id) ≡ b → ((unwrap_or o unlisted).shape ≢ Unlisted → (unwrap_or o unlisted).id ≡ id)
    → (unwrap_or (cond b (Some x) o) unlisted).shape ≢ Unlisted → (unwrap_or (cond b (Some x) o) unlisted).id ≡ id
found_at id x o true e k h = eqb-true x.id id e
found_at id x o false e k h = k h

found_id : (id : ℕ) (xs : List Row) → (unwrap_or (find (λ r. r.id == id) xs) unlisted).shape ≢ Unlisted → (unwrap_or (find (λ r. r.id == id) xs) unlisted).id ≡ id
found_id id [] h = absurd (h refl)
found_id id (x ∷ xs) h = found_at id x (find (λ r. r.id == id) xs) (x.id == id) refl (found_id id xs) h

pub row_id : (id : ℕ) → (row_of id).shape ≢ Unlisted → (row_of id).id ≡ id
unfolding row_of
row_id id h = found_id id rows h

abbrev widths : Row → ℕ
widths row = stored_width row.param1 + stored_width row.param2 + stored_width row.param3 + stored_width row.param4

-- ids of two bytes, none of which marks the long form, and room for the long form
unfoldable fits_bytes : Row → Bool
fits_bytes row = (not (row.id == 1) && nat_lt row.id 65536) && (nat_lt row.id 256 || (nat_lt (widths row) 11 && not (has_location row.shape)))

pub record HasBytes (row : Row) : Type 0 where
  pub no_mark : row.id ≢ 1
  pub small : row.id < 65536
  pub long : 256 ≤ row.id → (widths row ≤ 10) × (has_location row.shape ≡ false)

not_one : (n : ℕ) → not (n == 1) ≡ true → n ≢ 1
not_one n h e = let k : not (1 == 1) ≡ true = subst (λ m. not (m == 1) ≡ true) e h in cc

not_true : (b : Bool) → not b ≡ true → b ≡ false
not_true true h = cc
not_true false h = refl

fits_tells : (row : Row) → fits_bytes row ≡ true → HasBytes row
unfolding fits_bytes
fits_tells row h =
    let both = and_parts (not (row.id == 1) && nat_lt row.id 65536) (nat_lt row.id 256 || (nat_lt (widths row) 11 && not (has_location row.shape))) h in
    let ids = and_parts (not (row.id == 1)) (nat_lt row.id 65536) both.0 in
    record {
      no_mark = not_one row.id ids.0;
      small = ltb-true row.id 65536 ids.1;
      long = λ high. elim (or_cases (nat_lt row.id 256) (nat_lt (widths row) 11 && not (has_location row.shape)) both.1) [
        | inl short ↦ let less : row.id < 256 = ltb-true row.id 256 short in absurd (omega arith)
        | inr w ↦ let parts = and_parts (nat_lt (widths row) 11) (not (has_location row.shape)) w in
            let less : widths row < 11 = ltb-true (widths row) 11 parts.0 in (omega arith, not_true (has_location row.shape) parts.1)
      ];
    }

table_fits : list_all fits_bytes rows ≡ true
unfolding rows fits_bytes
table_fits = refl

unlisted_fits : fits_bytes unlisted ≡ true
unfolding fits_bytes
unlisted_fits = refl

pub row_fits : (id : ℕ) → HasBytes (row_of id)
unfolding row_of
row_fits id = fits_tells (row_of id) (find-passes (λ r. r.id == id) fits_bytes unlisted rows table_fits unlisted_fits)

packed_length : (row : Row) (item : Item) (bytes : List ℕ) → (p : IsPacked row item bytes) → length (p.first ++ p.second ++ p.third ++ p.fourth) ≡ widths row
packed_length row item bytes p =
    let a : length p.first ≡ stored_width row.param1 = length-StoredAs row.param1 item.param1 p.first p.stored1 in
    let b : length p.second ≡ stored_width row.param2 = length-StoredAs row.param2 item.param2 p.second p.stored2 in
    let c : length p.third ≡ stored_width row.param3 = length-StoredAs row.param3 item.param3 p.third p.stored3 in
    let d : length p.fourth ≡ stored_width row.param4 = length-StoredAs row.param4 item.param4 p.fourth p.stored4 in
    let e = length-append p.first p.second in
    let f = length-append (p.first ++ p.second) p.third in
    let g = length-append (p.first ++ p.second ++ p.third) p.fourth in
    omega (arith, e, f, g)

packed_low : (row : Row) (item : Item) (bytes : List ℕ) → (p : IsPacked row item bytes) → IsBytes (p.first ++ p.second ++ p.third ++ p.fourth)
packed_low row item bytes p =
    low_append (p.first ++ p.second ++ p.third) p.fourth
    (low_append (p.first ++ p.second) p.third (low_append p.first p.second (low_part row.param1 item.param1 p.first p.stored1) (low_part row.param2 item.param2 p.second p.stored2)) (low_part row.param3 item.param3 p.third p.stored3))
    (low_part row.param4 item.param4 p.fourth p.stored4)

small_flags : (f : ℕ) (negative : Bool) → frame_flags f + sign_flag negative < 256
small_flags f true = elim (flags-small f) [ inl e ↦ omega (arith, e) | inr h ↦ elim h [ inl e ↦ omega (arith, e) | inr e ↦ omega (arith, e) ] ]
small_flags f false = elim (flags-small f) [ inl e ↦ omega (arith, e) | inr h ↦ elim h [ inl e ↦ omega (arith, e) | inr e ↦ omega (arith, e) ] ]

-- a content: twelve bytes, the last two 0 where the parameters have ten at most and there is no location
record IsContent (row : Row) (content : List ℕ) : Type 0 where
  pub size : length content ≡ 12
  pub low : IsBytes content
  pub short : widths row ≤ 10 → has_location row.shape ≡ false → content ≡ take 10 content ++ 0 ∷ 0 ∷ []

content_of : (s : Shape) (row : Row) (item : Item) (c : Command) → row.shape ≡ s → IsRow row → IsPacked row item (parameter_bytes s c) → IsRestOf s row item c → IsContent row c.content
content_of Located row item c e sound p l =
    let flags = frame_flags item.frame + sign_flag l.negative in
    let a = bytes_of_number 3 (unsigned 3 l.altitude) in
    let b = bytes_of_number 4 (unsigned 4 item.x) in
    let d = bytes_of_number 4 (unsigned 4 item.y) in
    let la : length (bytes_of_number 3 (unsigned 3 l.altitude)) ≡ 3 = length-bytes_of 3 (unsigned 3 l.altitude) in
    let lb : length (bytes_of_number 4 (unsigned 4 item.x)) ≡ 4 = length-bytes_of 4 (unsigned 4 item.x) in
    let ld : length (bytes_of_number 4 (unsigned 4 item.y)) ≡ 4 = length-bytes_of 4 (unsigned 4 item.y) in
    let e1 : length ((flags ∷ []) ++ a) ≡ 1 + length a = length-append (flags ∷ []) a in
    let e2 : length (((flags ∷ []) ++ a) ++ b) ≡ length ((flags ∷ []) ++ a) + length b = length-append ((flags ∷ []) ++ a) b in
    let e3 : length (((flags ∷ []) ++ a ++ b) ++ d) ≡ length ((flags ∷ []) ++ a ++ b) + length d = length-append ((flags ∷ []) ++ a ++ b) d in
    let size : length (((flags ∷ []) ++ a ++ b) ++ d) ≡ 12 = omega (arith, la, lb, ld, e1, e2, e3) in
    record {
      size = ap length l.bytes ∙ size;
      low = subst IsBytes (sym l.bytes) (low_append ((flags ∷ []) ++ a ++ b) d
          (low_append ((flags ∷ []) ++ a) b (low_append (flags ∷ []) a (low_cons flags [] (small_flags item.frame l.negative) low_nil) (low_bytes_of 3 (unsigned 3 l.altitude))) (low_bytes_of 4 (unsigned 4 item.x)))
          (low_bytes_of 4 (unsigned 4 item.y)));
      short = λ few none. let here : has_location row.shape ≡ true = ap has_location e in cc;
    }
content_of Plain row item c e sound p l =
    let size = packed_length row item c.content p in
    let room : widths row ≤ 12 = rw e at sound.room in
    let low = packed_low row item c.content p in
    record {
      size = ap length p.together ∙ length-filled (p.first ++ p.second ++ p.third ++ p.fourth) (omega (arith, size, room));
      low = subst IsBytes (sym p.together) (low_filled (p.first ++ p.second ++ p.third ++ p.fourth) low);
      short = λ few none. subst (λ (t : List ℕ). t ≡ take 10 t ++ 0 ∷ 0 ∷ []) (sym p.together) (ends_with_zeros (p.first ++ p.second ++ p.third ++ p.fourth) (omega (arith, size, few)));
    }
content_of Unlisted row item c e sound p l = absurd l

listed_shape : (s : Shape) → IsListed s → s ≢ Unlisted
listed_shape Located h e = cc
listed_shape Plain h e = cc
listed_shape Unlisted h e = h

pub stores_fit : StoresFit
stores_fit item c meets stored =
    let row = row_of item.command in
    let fits = row_fits item.command in
    let same : (row_of item.command).id ≡ c.id = row_id item.command (listed_shape (row_of item.command).shape meets.0) ∙ sym stored.id in
    let content = content_of (row_of item.command).shape (row_of item.command) item c refl (row_of-IsRow item.command) stored.params (rest_of (row_of item.command).shape item c stored.rest) in
    record {
      id = rw same at fits.small;
      no_mark = λ one. fits.no_mark (same ∙ one);
      p1 = stored.p1;
      content = content.size;
      bytes = content.low;
      short = λ high. let long = fits.long (rw same high) in content.short long.0 long.1;
    }

-- The rows after each prefix of the writes that set one.
use Rattle.std.proofs.Common.{◌≡◌, ◌≢◌, ◌⊎◌, inl, inr, ℕ, ◌+◌, ◌-◌, ◌*◌, ◌/◌, ◌%◌, ◌^◌, ◌<◌, ◌≤◌, true, cond, List, [], ◌∷◌, ◌++◌, length, get_or, take, drop, refl, sym, ◌∙◌, ap, subst, arith, Option, Some, None}
use Rattle.std.specs.Prelude.{All, slice_get, IsTrue, ◌&&◌, nat_lt, nat_le}
use Rattle.std.specs.Option.{option_map_or}
use Rattle.std.specs.Str.{bytes_eq}
use Rattle.std.proofs.lemmas.List.{length-take, length-append, take_all, take-append-drop, get_or-take, ext_get_or}
use Rattle.std.proofs.lemmas.List.Elements.{All-head, All-tail, All-nil, All-cons}
use Rattle.std.proofs.lemmas.Bool.{cases_eq, cases_lt, cases_Bool, and_parts, or_cases, ltb-true}
use Rattle.std.proofs.lemmas.Slice.Eq.{bytes_eq-Decides}
use Rattle.param_tree.specs.declared.Kind.{Kind}
use Rattle.param_tree.specs.declared.Kind.TheVariants.{I8, I16, I32, F32, Vec3}
use Rattle.param_tree.specs.declared.Var.{Var}
use Rattle.param_tree.specs.Rules.{IsTable, row_fits, parts_of, is_value_of, is_whole_pattern}
use Rattle.word_bits.specs.Pattern.{exponent, is_finite}
use Rattle.storage_lines.specs.declared.lines.LineWrite.{LineWrite}
use Rattle.storage_lines.specs.declared.lines.TheConstants.{STORAGE_BYTES}
use Rattle.storage_lines.specs.declared.areas.Area.{Area}
use Rattle.storage_lines.specs.declared.areas.Area.TheVariants.{Param}
use Rattle.storage_lines.specs.Areas.{logical_of, place_of, spans_of as parts_in}
use Rattle.storage_lines.specs.Lines.{after, EachPrefix}
use Rattle.storage_lines.specs.Laws.{EndsWithLine}
use Rattle.storage_lines.specs.Pieces.{Piece, writes_of, writes_of_piece}
use Rattle.storage_lines.proofs.LineLemmas.{length-after}
use Rattle.storage_lines.proofs.SplitLemmas.{between_ends}
use Rattle.storage_lines.proofs.PrefixLemmas.{prefix_nil, prefix_append}
use Rattle.param_records.specs.declared.records.TheConstants.{PARAM_BYTES}
use Rattle.param_records.specs.Records.{Record, size_of, four_bytes, header, sentinel, encoding, spelling, IsRecord, magic, HasRecords, matches, records_in, records_of, value_in, place_from}
use Rattle.param_records.specs.Values.{value_from, value_of_number, value_in_records, params_of}
use Rattle.param_records.specs.Changes.{piece, part_size, part_bytes, overwritten, fresh, fresh_bytes, appending, set_pieces, IsFull}
use Rattle.storage_lines.specs.Bytes.{IsBytes}
use Rattle.param_records.specs.Steps.{records_in_storage, HasMagic, place_of_row, IsKept, torn_value, IsInOneLine, ReadsBetween, SetsInSteps}
use Rattle.param_records.proofs.RecordLemmas.{with_value, records_are, end_is, all_right}
use Rattle.param_records.proofs.PieceLemmas.{piece_prefix, param_rises, length-logical}
use Rattle.param_records.proofs.AppendLemmas.{OldOrNew, append_done, no_more}
use Rattle.param_records.proofs.RewriteLemmas.{rewrite_prefix, rewrite_whole, value_fits}
use Rattle.param_records.proofs.WalkLemmas.{has_records}
use Rattle.param_records.proofs.WholeLemmas.{own_over}
use Rattle.param_records.proofs.ValueLemmas.{First, first_at, value_none, value_first, match_kind}
use Rattle.param_records.proofs.StoreLemmas.{get_all, in_place, set_at, set_default, set_fresh, Fits, row_is, full_from}
use Rattle.param_records.proofs.OtherAreas.{other_areas, set_pieces_fit}
use Rattle.param_records.proofs.OtherLemmas.{other_rewritten, other_appended, own_appended, rows_apart}

-- a row's value depends on the records alone
reads : (b : List ℕ) (rs : List Record) (end : ℕ) (row : Var) → HasRecords (logical_of Param b) rs end → params_of b row ≡ value_in_records rs row
reads b rs end row h = ap (λ (x : List Record). value_in_records x row) (records_are (logical_of Param b) rs end h)

pub front_is : (L : List ℕ) (rs : List Record) (end : ℕ) → HasRecords L rs end → take 4 L ≡ magic
front_is L rs end h = ap (λ (l : List ℕ). take 4 l) h.whole

-- bytes without the magic have no records
pub no_records : (L : List ℕ) → take 4 L ≢ magic → records_of L ≡ []
no_records L other = elim (cases_Bool (bytes_eq (take 4 L) magic)) [
  | inl same ↦ absurd (other ((bytes_eq-Decides (take 4 L) magic).0 same))
  | inr differ ↦ ap (λ (t : _). cond t (records_in (length L) (drop 4 L)) []) differ
]

-- what a row of a table has
pub record RowFacts (v : Var) : Type 0 where
  pub fits : Fits v
  pub part : v.part < parts_of v.kind
  pub default : v.default < 2 ^ 32

whole_low : (half d : ℕ) → half ≤ 2147483648 → is_whole_pattern half d ≡ true → d < 2 ^ 32
whole_low half d small h = elim (or_cases (nat_lt d half) (nat_le (0x1_0000_0000 - half) d && nat_lt d 0x1_0000_0000) h) [
  | inl a ↦ omega (arith, ltb-true d half a)
  | inr a ↦ omega (arith, ltb-true d 0x1_0000_0000 (and_parts (nat_le (0x1_0000_0000 - half) d) (nat_lt d 0x1_0000_0000) a).1)
]

finite_low : (d : ℕ) → is_finite d ≡ true → d < 2 ^ 32
finite_low d h = ltb-true d (2 ^ 32) (and_parts (nat_lt d (2 ^ 32)) (nat_lt (exponent (d % 2 ^ 31)) 0xFF) h).0

default_low : (kind : Kind) (d : ℕ) → is_value_of kind d ≡ true → d < 2 ^ 32
default_low I8 d h = whole_low 128 d (omega arith) h
default_low I16 d h = whole_low 32768 d (omega arith) h
default_low I32 d h = whole_low 2147483648 d (omega arith) h
default_low F32 d h = finite_low d h
default_low Vec3 d h = finite_low d h

row_facts : (v : Var) → IsTrue (row_fits v) → RowFacts v
row_facts v h =
    let halves = and_parts (nat_lt v.key 512 && nat_lt v.element 0x4_0000) (nat_lt v.part (parts_of v.kind) && is_value_of v.kind v.default) h in
    let right = and_parts (nat_lt v.part (parts_of v.kind)) (is_value_of v.kind v.default) halves.1 in
    record { fits = row_is v h; part = ltb-true v.part (parts_of v.kind) right.0; default = default_low v.kind v.default right.1 }

facts_of : (rows : List Var) (i : ℕ) (v : Var) → IsTable rows → slice_get rows i ≡ Some v → RowFacts v
facts_of rows i v table h = row_facts v (get_all (λ (x : Var). IsTrue (row_fits x)) rows i v table.fitting h)

clash : (n : ℕ) → Some n ≡ None → ⊥
clash n e = cc

fresh_size : (kind : Kind) (rows : List Var) (row : Var) (number : ℕ) → length (fresh_bytes kind rows row number) ≡ size_of kind
fresh_size I8 rows row number = refl
fresh_size I16 rows row number = refl
fresh_size I32 rows row number = refl
fresh_size F32 rows row number = refl
fresh_size Vec3 rows row number = refl

part_length : (kind : Kind) (number : ℕ) → length (part_bytes kind number) ≡ part_size kind
part_length I8 number = refl
part_length I16 number = refl
part_length I32 number = refl
part_length F32 number = refl
part_length Vec3 number = refl

part_small : (kind : Kind) → part_size kind ≤ 4
part_small I8 = omega arith
part_small I16 = omega arith
part_small I32 = omega arith
part_small F32 = omega arith
part_small Vec3 = omega arith

value_small : (kind : Kind) → size_of kind ≤ 12
value_small I8 = omega arith
value_small I16 = omega arith
value_small I32 = omega arith
value_small F32 = omega arith
value_small Vec3 = omega arith

-- what all cases have
record Setting (bytes : List ℕ) (rows : List Var) (var : ℕ) (row : Var) (number : ℕ) : Type 0 where
  pub size : length bytes ≡ STORAGE_BYTES
  pub table : IsTable rows
  pub is : slice_get rows var ≡ Some row
  pub kept : IsKept row.kind number
  pub room : ¬ IsFull (records_in_storage bytes) row number

-- what `SetsRow` says of the parameters
record SetsRecords (rows : List Var) (var : ℕ) (row : Var) (number : ℕ) (old : List ℕ) (writes : List LineWrite) : Type 0 where
  pub each : (j : ℕ) → j ≤ length writes → ReadsBetween rows var row number old (after old (take j writes))
  pub whole : HasMagic old → params_of (after old writes) row ≡ value_of_number row.kind number
  pub new_record : HasMagic old → place_of_row old row ≡ None → number ≢ row.default → records_in_storage (after old writes) ≡ records_in_storage old ++ fresh rows row number ∷ []

-- the row is set by the writes of these pieces
abbrev SetBy : List ℕ → List Var → ℕ → Var → ℕ → List Piece → Type 0
SetBy bytes rows var row number pieces = SetsRecords rows var row number bytes (writes_of bytes pieces)

-- the same records, and none for the row
same_records : (rows : List Var) (var : ℕ) (row : Var) (number : ℕ) (old now : List ℕ) → take 4 (logical_of Param now) ≡ take 4 (logical_of Param old) → records_in_storage now ≡ records_in_storage old → place_of_row old row ≡ None →
    ReadsBetween rows var row number old now
same_records rows var row number old now front same none = record {
  front = front;
  others = λ i other differ is. ap (λ (x : List Record). value_in_records x other) same;
  appended = λ e. inl (same, ap (λ (x : List Record). value_in_records x row) same);
  rewritten = λ at value e f. absurd (clash at (sym e ∙ none));
  in_one_line = λ at e l. absurd (clash at (sym e ∙ none));
  moves_none = λ at e. absurd (clash at (sym e ∙ none));
}

-- nothing is written
no_writes : (bytes : List ℕ) (rows : List Var) (var : ℕ) (row : Var) (number : ℕ) → place_of_row bytes row ≡ None → number ≡ row.default → SetBy bytes rows var row number []
no_writes bytes rows var row number none same =
    let read : params_of bytes row ≡ value_of_number row.kind row.default =
    ap (λ (v : Option (List ℕ)). option_map_or (value_from row.kind row.part) v (value_of_number row.kind row.default)) (value_none 4 row.key row.element row.kind (records_in_storage bytes) none) in
    record {
      each = prefix_nil (λ (now : List ℕ). ReadsBetween rows var row number bytes now) bytes (same_records rows var row number bytes bytes refl refl none);
      whole = λ m. read ∙ ap (λ (n : ℕ). value_of_number row.kind n) (sym same);
      new_record = λ m n other. absurd (other same);
    }

-- a record is appended
appends : (bytes : List ℕ) (rows : List Var) (var : ℕ) (row : Var) (number end : ℕ) → Setting bytes rows var row number → HasRecords (logical_of Param bytes) (records_in_storage bytes) end → place_of_row bytes row ≡ None → number ≢ row.default →
    SetBy bytes rows var row number (appending end (fresh rows row number))
appends bytes rows var row number end s has none other =
    let R = records_in_storage bytes in
    let r = fresh rows row number in
    let facts = facts_of rows var row s.table s.is in
    let fits = facts.fits in
    let value : length r.value ≡ size_of row.kind = fresh_size row.kind rows row number in
    let one : IsRecord r = record { key = fits.key; element = fits.element; value = value } in
    let place = has.place in
    let room : end + 8 + length r.value ≤ PARAM_BYTES = elim (cases_lt PARAM_BYTES (4 + length (spelling R) + 8 + size_of row.kind)) [
      | inl beyond ↦ absurd (s.room (full_from (records_in_storage bytes) row number none other beyond))
      | inr inside ↦ omega arith
    ] in
    let done = append_done R end r bytes s.size has one room in
    let ws = writes_of bytes (appending end r) in
    let front = front_is (logical_of Param bytes) R end has in
    let new_value : (now : List ℕ) → HasRecords (logical_of Param now) (R ++ r ∷ []) (end + length (encoding r)) → params_of now row ≡ value_of_number row.kind number =
    λ now h. reads now (R ++ r ∷ []) (end + length (encoding r)) row h ∙ own_appended rows row number R none facts.part s.kept.0 ∙ s.kept.1 in
    let weaker : (now : List ℕ) → OldOrNew R end r now → ReadsBetween rows var row number bytes now = λ now x. elim x [
      | inl old ↦ same_records rows var row number bytes now (front_is (logical_of Param now) R end old ∙ sym front) (records_are (logical_of Param now) R end old) none
      | inr new ↦ record {
        front = front_is (logical_of Param now) (R ++ r ∷ []) (end + length (encoding r)) new ∙ sym front;
        others = λ i o differ is.
            let f = facts_of rows i o s.table is in
            reads now (R ++ r ∷ []) (end + length (encoding r)) o new
            ∙ other_appended rows row o number i R none facts.part f.part (rows_apart rows var i row o s.table.places_differ (λ e. differ (sym e)) s.is is) f.default s.table.places_differ is;
        appended = λ e. inr (records_are (logical_of Param now) (R ++ r ∷ []) (end + length (encoding r)) new, new_value now new);
        rewritten = λ at v e g. absurd (clash at (sym e ∙ none));
        in_one_line = λ at e l. absurd (clash at (sym e ∙ none));
        moves_none = λ at e. absurd (clash at (sym e ∙ none));
      }
    ] in
    record {
      each = λ j h. weaker (after bytes (take j ws)) (done.each j h);
      whole = λ m. new_value (after bytes ws) done.whole;
      new_record = λ m n o. records_are (logical_of Param (after bytes ws)) (R ++ r ∷ []) (end + length (encoding r)) done.whole;
    }

-- the first four bytes are as they were
record FrontStays (first b : List ℕ) : Type 0 where
  pub each : (i : ℕ) → i < 4 → get_or (logical_of Param b) i 0 ≡ get_or first i 0

front_same : (old now : List ℕ) → FrontStays (logical_of Param old) now → take 4 (logical_of Param now) ≡ take 4 (logical_of Param old)
front_same old now s =
    let L = logical_of Param now in
    let M = logical_of Param old in
    ext_get_or 0 (take 4 L) (take 4 M) (omega (arith, length-take 4 L, length-take 4 M, length-logical now, length-logical old))
    (λ i h. let few : i < 4 = omega (arith, length-take 4 L) in get_or-take 4 L i 0 few ∙ s.each i few ∙ sym (get_or-take 4 M i 0 few))

-- a piece behind them
record IsBehind (q : Piece) : Type 0 where
  pub area : q.area ≡ Param
  pub behind : 4 ≤ q.at
  pub fits : q.at + length q.bytes ≤ PARAM_BYTES

front_piece : (first b : List ℕ) (q : Piece) → length b ≡ STORAGE_BYTES → IsBehind q → FrontStays first b → EachPrefix (FrontStays first) b (writes_of_piece q.area q.at q.bytes b)
front_piece first b q size is s =
    let behind = is.behind in
    subst (λ (a : Area). EachPrefix (FrontStays first) b (writes_of_piece a q.at q.bytes b)) (sym is.area)
    (λ j h. let found = piece_prefix q.at q.bytes b j size is.fits h in record { each = λ i l. found.3.below i (omega arith) ∙ s.each i l })

front_pieces : (first b : List ℕ) (qs : List Piece) → length b ≡ STORAGE_BYTES → All IsBehind qs → FrontStays first b → EachPrefix (FrontStays first) b (writes_of b qs)
front_pieces first b [] size is s = prefix_nil (FrontStays first) b s
front_pieces first b (q ∷ qs) size is s =
    let ws = writes_of_piece q.area q.at q.bytes b in
    let here = front_piece first b q size (All-head IsBehind q qs is) s in
    let all : take (length ws) ws ≡ ws = take_all (length ws) ws (omega arith) in
    let then : FrontStays first (after b ws) = subst (λ (x : List LineWrite). FrontStays first (after b x)) all (here (length ws) (omega arith)) in
    prefix_append (FrontStays first) b ws (writes_of (after b ws) qs) here (front_pieces first (after b ws) qs (length-after b ws ∙ size) (All-tail IsBehind q qs is) then)

-- a record is appended to a storage that hasn't the magic, and so is none
unread : (bytes : List ℕ) (rows : List Var) (var : ℕ) (row : Var) (number : ℕ) → Setting bytes rows var row number → ¬ HasMagic bytes → place_of_row bytes row ≡ None → SetBy bytes rows var row number (appending 4 (fresh rows row number))
unread bytes rows var row number s other none =
    let L = logical_of Param bytes in
    let r = fresh rows row number in
    let value : length r.value ≡ size_of row.kind = fresh_size row.kind rows row number in
    let small = value_small row.kind in
    let head = four_bytes (header r) in
    let q1 = piece (4 + 4 + length r.value) sentinel in
    let q2 = piece (4 + 4) r.value in
    let q3 = piece 4 head in
    let b1 : IsBehind q1 = record { area = refl; behind = omega arith; fits = omega arith } in
    let b2 : IsBehind q2 = record { area = refl; behind = omega arith; fits = omega arith } in
    let b3 : IsBehind q3 = record { area = refl; behind = omega arith; fits = omega arith } in
    let all : All IsBehind (appending 4 r) = All-cons IsBehind q1 (q2 ∷ q3 ∷ []) b1 (All-cons IsBehind q2 (q3 ∷ []) b2 (All-cons IsBehind q3 [] b3 (All-nil IsBehind))) in
    let start : FrontStays L bytes = record { each = λ i h. refl } in
    let stays = front_pieces L bytes (appending 4 r) s.size all start in
    let ws = writes_of bytes (appending 4 r) in
    record {
      each = λ j h.
          let now = after bytes (take j ws) in
          let front = front_same bytes now (stays j h) in
          same_records rows var row number bytes now front (no_records (logical_of Param now) (λ e. other (sym front ∙ e)) ∙ sym (no_records L other)) none;
      whole = λ m. absurd (other m);
      new_record = λ m n o. absurd (other m);
    }

length-with : (r : Record) (v : List ℕ) → length v ≡ length r.value → length (encoding (with_value r v)) ≡ length (encoding r)
length-with r v e = omega (arith, length-append (four_bytes (header r)) v, length-append (four_bytes (header r)) r.value)

-- another value of the same length moves no record
place_middle : (start k e : ℕ) (kind : Kind) (front back : List Record) (r : Record) (v : List ℕ) → length v ≡ length r.value → place_from start k e kind (front ++ with_value r v ∷ back) ≡ place_from start k e kind (front ++ r ∷ back)
place_middle start k e kind [] back r v same = ap (λ (n : ℕ). cond (matches k e kind r) (Some (start + 4)) (place_from (start + n) k e kind back)) (length-with r v same)
place_middle start k e kind (q ∷ front) back r v same = ap (λ (o : Option ℕ). cond (matches k e kind q) (Some (start + 4)) o) (place_middle (start + length (encoding q)) k e kind front back r v same)

-- in one line there is no line's end
one_line_ends : (q n c : ℕ) → q + n ≤ PARAM_BYTES → place_of Param q / 8 ≡ place_of Param (q + n - 1) / 8 → EndsWithLine Param q n c → (c ≡ 0) ⊎ (c ≡ n)
one_line_ends q n c fits one (inl none) = inl none
one_line_ends q n c fits one (inr (inl all)) = inr all
one_line_ends q n c fits one (inr (inr cut)) =
    let some = cut.0 in
    let less = cut.1 in
    let low = (between_ends (parts_in Param) q n (c - 1) param_rises fits (omega arith)).0 in
    let high = (between_ends (parts_in Param) q n c param_rises fits less).1 in
    let same : q + (c - 1) ≡ q + c - 1 = omega arith in
    let e : place_of Param (q + (c - 1)) ≡ place_of Param (q + c - 1) = ap (λ (i : ℕ). place_of Param i) same in
    let ends = cut.2 in
    absurd (omega arith)

-- a value of which nothing is overwritten, and one of which a part is
over_none : (k : ℕ) (v : List ℕ) → overwritten k [] v ≡ v
over_none k v = let same : k + 0 ≡ k = omega arith in ap (λ (n : ℕ). take k v ++ drop n v) same ∙ take-append-drop k v

torn_none : (row : Var) (number c : ℕ) (v : List ℕ) → c ≡ 0 → torn_value row number c v ≡ value_from row.kind row.part v
torn_none row number c v e = ap (λ (n : ℕ). torn_value row number n v) e ∙ ap (λ (l : List ℕ). value_from row.kind row.part l) (over_none (4 * row.part) v)

torn_all : (row : Var) (number c : ℕ) (v : List ℕ) → row.part < parts_of row.kind → length v ≡ size_of row.kind → c ≡ part_size row.kind → torn_value row number c v ≡ value_from row.kind 0 (part_bytes row.kind number)
torn_all row number c v part size e =
    let x = part_bytes row.kind number in
    let all : take (part_size row.kind) x ≡ x = take_all (part_size row.kind) x (omega (arith, part_length row.kind number)) in
    ap (λ (n : ℕ). torn_value row number n v) e ∙ ap (λ (l : List ℕ). value_from row.kind row.part (overwritten (4 * row.part) l v)) all ∙ own_over row.kind row.part number v part size

-- what a value that is rewritten has
record Rewriting (bytes : List ℕ) (row : Var) (number end at : ℕ) : Type 0 where
  pub first : First 4 row.key row.element row.kind (records_in_storage bytes) at
  pub has : HasRecords (logical_of Param bytes) (first.front ++ first.one ∷ first.back) end
  pub value : length first.one.value ≡ size_of row.kind
  pub fits : at + size_of row.kind ≤ PARAM_BYTES

rewriting : (bytes : List ℕ) (row : Var) (number end at : ℕ) → HasRecords (logical_of Param bytes) (records_in_storage bytes) end → place_of_row bytes row ≡ Some at → Rewriting bytes row number end at
rewriting bytes row number end at has here =
    let L = logical_of Param bytes in
    let f = first_at 4 row.key row.element row.kind (records_in_storage bytes) at here in
    let has' : HasRecords L (f.front ++ f.one ∷ f.back) end = subst (λ (x : List Record). HasRecords L x end) f.whole has in
    let one : IsRecord f.one = All-head IsRecord f.one f.back (all_right f.front (f.one ∷ f.back) has'.each) in
    let value : length f.one.value ≡ size_of row.kind = one.value ∙ ap size_of (match_kind row.key row.element row.kind f.one f.is) in
    record { first = f; has = has'; value = value; fits = omega (arith, f.place, value_fits L f.front f.back f.one end has', length-logical bytes) }

-- the row reads a value that stands in its record
reads_first : (now : List ℕ) (row : Var) (front back : List Record) (r : Record) (end : ℕ) → HasRecords (logical_of Param now) (front ++ r ∷ back) end → place_from 4 row.key row.element row.kind front ≡ None → matches row.key row.element row.kind r ≡ true →
    params_of now row ≡ value_from row.kind row.part r.value
reads_first now row front back r end h none is = reads now (front ++ r ∷ back) end row h
    ∙ ap (λ (o : Option (List ℕ)). option_map_or (value_from row.kind row.part) o (value_of_number row.kind row.default)) (value_first 4 row.key row.element row.kind front back r none is)

-- after some of the writes
rewrites_step : (bytes now : List ℕ) (rows : List Var) (var : ℕ) (row : Var) (number end at c : ℕ) (w : Rewriting bytes row number end at) → Setting bytes rows var row number → place_of_row bytes row ≡ Some at → c ≤ part_size row.kind →
    EndsWithLine Param (at + 4 * row.part) (part_size row.kind) c →
    HasRecords (logical_of Param now) (w.first.front ++ with_value w.first.one (overwritten (4 * row.part) (take c (part_bytes row.kind number)) w.first.one.value) ∷ w.first.back) end → ReadsBetween rows var row number bytes now
rewrites_step bytes now rows var row number end at c w s here few ends h =
    let facts = facts_of rows var row s.table s.is in
    let f = w.first in
    let r = f.one in
    let xs = take c (part_bytes row.kind number) in
    let over = overwritten (4 * row.part) xs r.value in
    let t = with_value r over in
    let L = logical_of Param bytes in
    let N = logical_of Param now in
    let cut : length xs ≤ 4 = omega (arith, length-take c (part_bytes row.kind number), part_small row.kind) in
    let one : IsRecord t = All-head IsRecord t f.back (all_right f.front (t ∷ f.back) h.each) in
    let same_size : length over ≡ length r.value = one.value ∙ ap size_of (match_kind row.key row.element row.kind r f.is) ∙ sym w.value in
    let value : params_of now row ≡ torn_value row number c r.value = reads_first now row f.front f.back t end h f.none f.is in
    let part = facts.fits.part in
    record {
      front = front_is N (f.front ++ t ∷ f.back) end h ∙ sym (front_is L (f.front ++ r ∷ f.back) end w.has);
      others = λ i o differ is.
          let g = facts_of rows i o s.table is in
          reads now (f.front ++ t ∷ f.back) end o h
          ∙ other_rewritten row o f.front f.back r 4 xs f.none f.is w.value facts.part g.part (rows_apart rows var i row o s.table.places_differ (λ e. differ (sym e)) s.is is) cut
          ∙ sym (reads bytes (f.front ++ r ∷ f.back) end o w.has);
      appended = λ e. absurd (clash at (sym here ∙ e));
      rewritten = λ at' v e g.
          let same : Some v ≡ Some r.value = sym g ∙ ap (λ (y : List Record). value_in row.key row.element row.kind y) f.whole ∙ value_first 4 row.key row.element row.kind f.front f.back r f.none f.is in
          let v-is : v ≡ r.value = cc in
          let both : Some at' ≡ Some at = sym e ∙ here in
          let at-is : at' ≡ at = cc in (
            c,
            few,
            subst (λ (n : ℕ). EndsWithLine Param (n + 4 * row.part) (part_size row.kind) c) (sym at-is) ends,
            value ∙ ap (λ (y : List ℕ). torn_value row number c y) (sym v-is),
          );
      in_one_line = λ at' e line.
          let both : Some at' ≡ Some at = sym e ∙ here in
          let at-is : at' ≡ at = cc in
          let line' : IsInOneLine row at = subst (λ (n : ℕ). IsInOneLine row n) at-is line in
          let fits = w.fits in
          elim (one_line_ends (at + 4 * row.part) (part_size row.kind) c (omega arith) line' ends) [
            | inl none ↦ inl (value ∙ torn_none row number c r.value none ∙ sym (reads_first bytes row f.front f.back r end w.has f.none f.is))
            | inr all ↦ inr (value ∙ torn_all row number c r.value facts.part w.value all ∙ s.kept.1)
          ];
      moves_none = λ at' e. record {
        places = λ k e kind. ap (λ (x : List Record). place_from 4 k e kind x) (records_are N (f.front ++ t ∷ f.back) end h)
            ∙ place_middle 4 k e kind f.front f.back r over same_size
            ∙ sym (ap (λ (x : List Record). place_from 4 k e kind x) (records_are L (f.front ++ r ∷ f.back) end w.has));
        end = end_is N (f.front ++ t ∷ f.back) end h ∙ sym (end_is L (f.front ++ r ∷ f.back) end w.has);
      };
    }

-- a value is rewritten
rewrites : (bytes : List ℕ) (rows : List Var) (var : ℕ) (row : Var) (number end at : ℕ) → Setting bytes rows var row number → HasRecords (logical_of Param bytes) (records_in_storage bytes) end → place_of_row bytes row ≡ Some at →
    SetBy bytes rows var row number (in_place row number at)
rewrites bytes rows var row number end at s has here =
    let facts = facts_of rows var row s.table s.is in
    let part = facts.fits.part in
    let w = rewriting bytes row number end at has here in
    let f = w.first in
    let r = f.one in
    let value = w.value in
    let x = part_bytes row.kind number in
    let long : length x ≡ part_size row.kind = part_length row.kind number in
    let p = 8 + length (spelling f.front) in
    let place : p + 4 * row.part ≡ at + 4 * row.part = omega (arith, f.place) in
    let ws = writes_of_piece Param (p + 4 * row.part) x bytes in
    let writes : writes_of bytes (in_place row number at) ≡ ws = no_more bytes (piece (at + 4 * row.part) x) ∙ ap (λ (n : ℕ). writes_of_piece Param n x bytes) (sym place) in
    let done = rewrite_whole bytes f.front f.back r end (4 * row.part) x s.size w.has (omega arith) in
    let t = with_value r (overwritten (4 * row.part) x r.value) in
    subst (λ (l : List LineWrite). SetsRecords rows var row number bytes l) (sym writes) (record {
      each = λ j h.
          let found = rewrite_prefix bytes f.front f.back r end (4 * row.part) x j s.size w.has (omega arith) h in
          let c = found.0 in
          let few = found.1 in
          let ends : EndsWithLine Param (at + 4 * row.part) (part_size row.kind) c =
          subst (λ (n : ℕ). EndsWithLine Param n (part_size row.kind) c) place (subst (λ (n : ℕ). EndsWithLine Param (p + 4 * row.part) n c) long found.2) in
          rewrites_step bytes (after bytes (take j ws)) rows var row number end at c w s here (omega arith) ends found.3;
      whole = λ m. reads_first (after bytes ws) row f.front f.back t end done f.none f.is ∙ own_over row.kind row.part number r.value facts.part value ∙ s.kept.1;
      new_record = λ m n o. absurd (clash at (sym here ∙ n));
    })

-- where the storage has the magic
with_magic : (bytes : List ℕ) (rows : List Var) (var : ℕ) (row : Var) (number end : ℕ) (o : Option ℕ) → Setting bytes rows var row number → HasRecords (logical_of Param bytes) (records_in_storage bytes) end → place_of_row bytes row ≡ o →
    SetBy bytes rows var row number (set_pieces rows (records_in_storage bytes) row number)
with_magic bytes rows var row number end None s has none = elim (cases_eq number row.default) [
  | inl same ↦ subst (SetBy bytes rows var row number) (sym (set_default rows (records_in_storage bytes) row number none same)) (no_writes bytes rows var row number none same)
  | inr other ↦ subst (SetBy bytes rows var row number) (sym (set_fresh rows (records_in_storage bytes) row number none other ∙ ap (λ (n : ℕ). appending n (fresh rows row number)) (sym has.place)))
      (appends bytes rows var row number end s has none other)
]
with_magic bytes rows var row number end (Some at) s has here =
    subst (SetBy bytes rows var row number) (sym (set_at rows (records_in_storage bytes) row number at here)) (rewrites bytes rows var row number end at s has here)

-- where it hasn't
without_magic : (bytes : List ℕ) (rows : List Var) (var : ℕ) (row : Var) (number : ℕ) → Setting bytes rows var row number → ¬ HasMagic bytes → SetBy bytes rows var row number (set_pieces rows (records_in_storage bytes) row number)
without_magic bytes rows var row number s other =
    let R = records_in_storage bytes in
    let empty : R ≡ [] = no_records (logical_of Param bytes) other in
    let none : place_of_row bytes row ≡ None = ap (λ (x : List Record). place_from 4 row.key row.element row.kind x) empty in
    elim (cases_eq number row.default) [
      | inl same ↦ subst (SetBy bytes rows var row number) (sym (set_default rows R row number none same)) (no_writes bytes rows var row number none same)
      | inr differ ↦ subst (SetBy bytes rows var row number) (sym (set_fresh rows R row number none differ ∙ ap (λ (x : List Record). appending (4 + length (spelling x)) (fresh rows row number)) empty))
          (unread bytes rows var row number s other none)
    ]

records_set : (bytes : List ℕ) (rows : List Var) (var : ℕ) (row : Var) (number : ℕ) → length bytes ≡ STORAGE_BYTES → IsBytes (logical_of Param bytes) → IsTable rows → slice_get rows var ≡ Some row → IsKept row.kind number →
    ¬ IsFull (records_in_storage bytes) row number → SetBy bytes rows var row number (set_pieces rows (records_in_storage bytes) row number)
records_set bytes rows var row number size low table is kept room =
    let L = logical_of Param bytes in
    let s : Setting bytes rows var row number = record { size = size; table = table; is = is; kept = kept; room = room } in
    elim (cases_Bool (bytes_eq (take 4 L) magic)) [
      | inl front ↦
          let found = has_records L low ((bytes_eq-Decides (take 4 L) magic).0 front) in
          let has : HasRecords L (records_in_storage bytes) found.1 = subst (λ (x : List Record). HasRecords L x found.1) (sym (records_are L found.0 found.1 found.2)) found.2 in
          with_magic bytes rows var row number found.1 (place_of_row bytes row) s has refl
      | inr differ ↦ without_magic bytes rows var row number s (λ e. let holds : bytes_eq (take 4 L) magic ≡ true = (bytes_eq-Decides (take 4 L) magic).1 e in cc)
    ]

pub set_steps : SetsInSteps
set_steps bytes rows var row number size low table is kept room =
    let set = records_set bytes rows var row number size low table is kept room in
    let fit = set_pieces_fit rows bytes row number low (facts_of rows var row table is).fits room in
    record {
      each = set.each;
      whole = set.whole;
      new_record = set.new_record;
      areas = other_areas bytes (set_pieces rows (records_in_storage bytes) row number) size fit;
    }

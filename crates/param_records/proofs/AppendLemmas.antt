-- A record that is appended, piece by piece.
use Rattle.std.proofs.Common.{cond, ◌≡◌, ◌≢◌, ◌⊎◌, inl, inr, ℕ, ◌+◌, ◌-◌, ◌/◌, ◌%◌, ◌<◌, ◌≤◌, List, [], ◌∷◌, ◌++◌, length, get_or, take, drop, refl, sym, ◌∙◌, ap, subst, arith, append_assoc}
use Rattle.std.proofs.lemmas.List.{length-append, length-take, length-drop, get_or-take, get_or-drop, get_or_append_left, get_or-append_right, ext_get_or, take-append-drop, drop-drop, append-nil}
use Rattle.std.proofs.lemmas.Bool.{cases_lt, cases_eq, lt-ltb, le-ltb, eq-eqb, ne_eqb}
use Rattle.std.specs.Prelude.{Bool, ◌==◌}
use Rattle.storage_lines.specs.declared.lines.TheConstants.{STORAGE_BYTES}
use Rattle.storage_lines.specs.declared.lines.LineWrite.{LineWrite}
use Rattle.storage_lines.specs.declared.areas.Area.TheVariants.{Param}
use Rattle.storage_lines.specs.Areas.{logical_of}
use Rattle.storage_lines.specs.Lines.{after, EachPrefix}
use Rattle.storage_lines.specs.Pieces.{writes_of_piece, Piece, writes_of}
use Rattle.storage_lines.proofs.LineLemmas.{length-after, after-append}
use Rattle.param_records.specs.declared.records.TheConstants.{PARAM_BYTES}
use Rattle.param_records.specs.Records.{Record, four_bytes, header, encoding, IsRecord, sentinel, HasRecords}
use Rattle.param_records.specs.Changes.{piece, header_pieces, appending}
use Rattle.param_records.proofs.RecordLemmas.{Keeps, kept_records, appended_records}
use Rattle.storage_lines.specs.Laws.{HasPut}
use Rattle.storage_lines.proofs.PrefixLemmas.{prefix_append, prefix_weaker}
use Rattle.param_records.proofs.PieceLemmas.{piece_prefix, piece_whole, one_line, length-logical}

-- Below the end, and in the byte that holds the type there, all is as it was.
pub record Stays (at : ℕ) (old new : List ℕ) : Type 0 where
  pub size : length new ≡ length old
  pub front : (i : ℕ) → i < at → get_or new i 0 ≡ get_or old i 0
  pub type : get_or new (at + 1) 0 ≡ get_or old (at + 1) 0

pub stays_keeps : (at : ℕ) (old new : List ℕ) → Stays at old new → Keeps at old new
stays_keeps at old new s = record {
  size = s.size;
  front = ext_get_or 0 (take at new) (take at old) (let size = s.size in omega (arith, length-take at new, length-take at old))
      (λ i h. let few : i < at = omega (arith, length-take at new) in get_or-take at new i 0 few ∙ s.front i few ∙ sym (get_or-take at old i 0 few));
  type = s.type;
}

-- a piece that leaves them
pub stays_put : (p at : ℕ) (new : List ℕ) (c : ℕ) (first old now : List ℕ) → p ≤ at → ((c ≡ 0) ⊎ ((at + c ≤ p + 1) ⊎ (p + 1 < at))) → Stays p first old → HasPut at new c old now → Stays p first now
stays_put p at new c first old now behind apart s h = record {
  size = h.size ∙ s.size;
  front = λ i below. h.below i (omega arith) ∙ s.front i below;
  type = elim apart [
    | inl none ↦ elim (cases_lt (p + 1) at) [
      | inl past ↦ h.below (p + 1) past ∙ s.type
      | inr over ↦ h.behind (p + 1) (omega arith) ∙ s.type
    ]
    | inr x ↦ elim x [
      | inl over ↦ h.behind (p + 1) over ∙ s.type
      | inr past ↦ h.below (p + 1) past ∙ s.type
    ]
  ];
}

abbrev pub StaysIn : ℕ → List ℕ → List ℕ → Type 0
StaysIn p first b = Stays p first (logical_of Param b)

-- a piece behind the byte that holds the type, or in front of it: all stays after each of its writes
pub piece_stays : (p at : ℕ) (new first b : List ℕ) → length b ≡ STORAGE_BYTES → at + length new ≤ PARAM_BYTES → p ≤ at → ((at + length new ≤ p + 1) ⊎ (p + 1 < at)) → StaysIn p first b →
    EachPrefix (StaysIn p first) b (writes_of_piece Param at new b)
piece_stays p at new first b size fits behind apart s j h =
    let found = piece_prefix at new b j size fits h in
    let few = found.2.few in
    stays_put p at new found.1 first (logical_of Param b) (logical_of Param (after b (take j (writes_of_piece Param at new b)))) behind
    (elim apart [ inl over ↦ inr (inl (omega arith)) | inr past ↦ inr (inr past) ]) s found.3

-- bytes that are spelled at a place
pub spelled_at : (L xs : List ℕ) (p : ℕ) → p + length xs ≤ length L → ((i : ℕ) → i < length xs → get_or L (p + i) 0 ≡ get_or xs i 0) → drop p L ≡ xs ++ drop (p + length xs) L
spelled_at L xs p fits each =
    let cut : take (length xs) (drop p L) ≡ xs = ext_get_or 0 (take (length xs) (drop p L)) xs (omega (arith, length-take (length xs) (drop p L), length-drop p L))
    (λ i h. let few : i < length xs = omega (arith, length-take (length xs) (drop p L), length-drop p L) in get_or-take (length xs) (drop p L) i 0 few ∙ get_or-drop p L i 0 ∙ each i few) in
    sym (take-append-drop (length xs) (drop p L)) ∙ ap (λ (l : List ℕ). l ++ drop (length xs) (drop p L)) cut ∙ ap (λ (l : List ℕ). xs ++ l) (drop-drop (length xs) p L)

-- The new record and the sentinel stand at the end, and below all is as it was.
pub record Appended (p : ℕ) (r : Record) (first now : List ℕ) : Type 0 where
  pub size : length now ≡ length first
  pub front : (i : ℕ) → i < p → get_or now i 0 ≡ get_or first i 0
  pub head : (i : ℕ) → i < 4 → get_or now (p + i) 0 ≡ get_or (four_bytes (header r)) i 0
  pub value : (i : ℕ) → i < length r.value → get_or now (p + 4 + i) 0 ≡ get_or r.value i 0
  pub sentinel : (i : ℕ) → i < 4 → get_or now (p + 4 + length r.value + i) 0 ≡ get_or sentinel i 0

pub appended_has : (old now : List ℕ) (rs : List Record) (p : ℕ) (r : Record) → HasRecords old rs p → IsRecord r → p + 8 + length r.value ≤ length old → Appended p r old now →
    HasRecords now (rs ++ r ∷ []) (p + length (encoding r))
appended_has old now rs p r h one fits a =
    let xs = encoding r ++ sentinel in
    let n = length r.value in
    let size : length xs ≡ 8 + n = omega (arith, length-append (encoding r) sentinel, length-append (four_bytes (header r)) r.value) in
    let long : length (encoding r) ≡ 4 + n = omega (arith, length-append (four_bytes (header r)) r.value) in
    let each : (i : ℕ) → i < length xs → get_or now (p + i) 0 ≡ get_or xs i 0 = λ i l. elim (cases_lt i 4) [
      | inl head ↦ a.head i head ∙ sym (get_or_append_left (four_bytes (header r)) r.value 0 i head) ∙ sym (get_or_append_left (encoding r) sentinel 0 i (omega arith))
      | inr over ↦ elim (cases_lt i (4 + n)) [
        | inl value ↦
            let at : p + 4 + (i - 4) ≡ p + i = omega arith in
            sym (ap (λ (k : ℕ). get_or now k 0) at) ∙ a.value (i - 4) (omega arith) ∙ sym (get_or-append_right (four_bytes (header r)) r.value 4 i 0 refl over) ∙ sym (get_or_append_left (encoding r) sentinel 0 i (omega arith))
        | inr behind ↦
            let at : p + 4 + n + (i - (4 + n)) ≡ p + i = omega arith in
            sym (ap (λ (k : ℕ). get_or now k 0) at) ∙ a.sentinel (i - (4 + n)) (omega arith) ∙ sym (get_or-append_right (encoding r) sentinel (4 + n) i 0 long behind)
      ]
    ] in
    let more = drop (p + length xs) now in
    let spelled : drop p now ≡ encoding r ++ (sentinel ++ more) = spelled_at now xs p (omega (arith, a.size)) each ∙ append_assoc (encoding r) sentinel more in
    let front : take p now ≡ take p old = ext_get_or 0 (take p now) (take p old) (omega (arith, a.size, length-take p now, length-take p old))
    (λ i h'. let few : i < p = omega (arith, length-take p now) in get_or-take p now i 0 few ∙ a.front i few ∙ sym (get_or-take p old i 0 few)) in
    appended_records old now rs p r more h one front spelled

-- these bytes stand at this place
pub record Holds (q : ℕ) (xs bytes : List ℕ) : Type 0 where
  pub each : (i : ℕ) → i < length xs → get_or bytes (q + i) 0 ≡ get_or xs i 0

pub holds_put : (q at : ℕ) (xs new : List ℕ) (c : ℕ) (old now : List ℕ) → (q + length xs ≤ at) ⊎ (at + c ≤ q) → Holds q xs old → HasPut at new c old now → Holds q xs now
holds_put q at xs new c old now apart s h = record {
  each = λ i l. elim apart [
    | inl before ↦ h.below (q + i) (omega arith) ∙ s.each i l
    | inr behind ↦ h.behind (q + i) (omega arith) ∙ s.each i l
  ];
}

pub put_holds : (at : ℕ) (new old now : List ℕ) → HasPut at new (length new) old now → Holds at new now
put_holds at new old now h = record { each = h.put }

abbrev pub OldOrNew : List Record → ℕ → Record → List ℕ → Type 0
OldOrNew rs p r b = HasRecords (logical_of Param b) rs p ⊎ HasRecords (logical_of Param b) (rs ++ r ∷ []) (p + length (encoding r))

-- The sentinel and the value stand behind the end, and all is as it was otherwise.
pub record Ready (p : ℕ) (r : Record) (first now : List ℕ) : Type 0 where
  pub stays : Stays p first now
  pub value : Holds (p + 4) r.value now
  pub sentinel : Holds (p + 4 + length r.value) sentinel now

-- The last piece, which has the type: some of the header's bytes that lie in one line, the others being there.
pub record IsLast (p at : ℕ) (r : Record) (new now : List ℕ) : Type 0 where
  pub behind : p ≤ at
  pub inside : at + length new ≤ p + 4
  pub one : (at + length new - 1) / 8 ≡ at / 8
  pub part : (i : ℕ) → i < length new → get_or new i 0 ≡ get_or (four_bytes (header r)) (at - p + i) 0
  pub before : (i : ℕ) → p + i < at → get_or now (p + i) 0 ≡ get_or (four_bytes (header r)) i 0
  pub after : (i : ℕ) → i < 4 → at + length new ≤ p + i → get_or now (p + i) 0 ≡ get_or (four_bytes (header r)) i 0

last_put : (p at : ℕ) (r : Record) (new first old now : List ℕ) → Ready p r first old → IsLast p at r new old → HasPut at new (length new) old now → Appended p r first now
last_put p at r new first old now ready is h =
    let behind = is.behind in
    let inside = is.inside in
    let value = holds_put (p + 4) at r.value new (length new) old now (inr (omega arith)) ready.value h in
    let sent = holds_put (p + 4 + length r.value) at sentinel new (length new) old now (inr (omega arith)) ready.sentinel h in
    record {
      size = h.size ∙ ready.stays.size;
      front = λ i l. h.below i (omega arith) ∙ ready.stays.front i l;
      head = λ i l. elim (cases_lt (p + i) at) [
        | inl before ↦ h.below (p + i) before ∙ is.before i before
        | inr over ↦ elim (cases_lt (p + i) (at + length new)) [
          | inl here ↦
              let place : at + (p + i - at) ≡ p + i = omega arith in
              let part : at - p + (p + i - at) ≡ i = omega arith in
              sym (ap (λ (k : ℕ). get_or now k 0) place) ∙ h.put (p + i - at) (omega arith) ∙ is.part (p + i - at) (omega arith) ∙ ap (λ (k : ℕ). get_or (four_bytes (header r)) k 0) part
          | inr past ↦ h.behind (p + i) past ∙ is.after i l past
        ]
      ];
      value = value.each;
      sentinel = sent.each;
    }

-- after the last piece's writes, one or none, the record is there whole, and before it is absent
pub last_prefix : (rs : List Record) (p at : ℕ) (r : Record) (new first b : List ℕ) → length b ≡ STORAGE_BYTES → HasRecords first rs p → IsRecord r → p + 8 + length r.value ≤ PARAM_BYTES → length first ≡ PARAM_BYTES →
    Ready p r first (logical_of Param b) → IsLast p at r new (logical_of Param b) → EachPrefix (OldOrNew rs p r) b (writes_of_piece Param at new b)
last_prefix rs p at r new first b size has one fits whole ready is j h =
    let inside = is.inside in
    let found = piece_prefix at new b j size (omega arith) h in
    let now = logical_of Param (after b (take j (writes_of_piece Param at new b))) in
    elim (one_line at (length new) found.0 found.1 (omega arith) is.one found.2) [
      | inl none ↦ inl (kept_records first now rs p has (stays_keeps p first now (stays_put p at new found.1 first (logical_of Param b) now is.behind (inl none) ready.stays found.3)))
      | inr all ↦
          let put : HasPut at new (length new) (logical_of Param b) now = subst (λ (c : ℕ). HasPut at new c (logical_of Param b) now) all found.3 in
          inr (appended_has first now rs p r has one (omega arith) (last_put p at r new first (logical_of Param b) now ready is put))
    ]

pub last_whole : (p at : ℕ) (r : Record) (new first b : List ℕ) → length b ≡ STORAGE_BYTES → p + 8 + length r.value ≤ PARAM_BYTES → Ready p r first (logical_of Param b) → IsLast p at r new (logical_of Param b) →
    Appended p r first (logical_of Param (after b (writes_of_piece Param at new b)))
last_whole p at r new first b size fits ready is =
    let inside = is.inside in
    last_put p at r new first (logical_of Param b) (logical_of Param (after b (writes_of_piece Param at new b))) ready is (piece_whole at new b size (omega arith))

-- a piece of the header that hasn't the type keeps what is ready
pub ready_put : (p at : ℕ) (r : Record) (new first b : List ℕ) → length b ≡ STORAGE_BYTES → p + 8 + length r.value ≤ PARAM_BYTES → p ≤ at → at + length new ≤ p + 4 → ((at + length new ≤ p + 1) ⊎ (p + 1 < at)) →
    Ready p r first (logical_of Param b) → Ready p r first (logical_of Param (after b (writes_of_piece Param at new b)))
ready_put p at r new first b size fits behind inside apart ready =
    let now = logical_of Param (after b (writes_of_piece Param at new b)) in
    let h = piece_whole at new b size (omega arith) in
    record {
      stays = stays_put p at new (length new) first (logical_of Param b) now behind (inr apart) ready.stays h;
      value = holds_put (p + 4) at r.value new (length new) (logical_of Param b) now (inr (omega arith)) ready.value h;
      sentinel = holds_put (p + 4 + length r.value) at sentinel new (length new) (logical_of Param b) now (inr (omega arith)) ready.sentinel h;
    }

pub no_more : (b : List ℕ) (q : Piece) → writes_of b (q ∷ []) ≡ writes_of_piece q.area q.at q.bytes b
no_more b q = append-nil (writes_of_piece q.area q.at q.bytes b)

-- The header's pieces, with what holds after each of their writes, and at the end.
pub record HeaderDone (rs : List Record) (p : ℕ) (r : Record) (first b : List ℕ) (pieces : List Piece) : Type 0 where
  pub each : EachPrefix (OldOrNew rs p r) b (writes_of b pieces)
  pub whole : Appended p r first (logical_of Param (after b (writes_of b pieces)))

-- one piece
header_one : (rs : List Record) (p at : ℕ) (r : Record) (new first b : List ℕ) → length b ≡ STORAGE_BYTES → HasRecords first rs p → IsRecord r → p + 8 + length r.value ≤ PARAM_BYTES → length first ≡ PARAM_BYTES →
    Ready p r first (logical_of Param b) → IsLast p at r new (logical_of Param b) → HeaderDone rs p r first b (piece at new ∷ [])
header_one rs p at r new first b size has one fits whole ready is =
    let same = no_more b (piece at new) in
    record {
      each = subst (EachPrefix (OldOrNew rs p r) b) (sym same) (last_prefix rs p at r new first b size has one fits whole ready is);
      whole = subst (λ (ws : List LineWrite). Appended p r first (logical_of Param (after b ws))) (sym same) (last_whole p at r new first b size fits ready is);
    }

-- two pieces
header_two : (rs : List Record) (p a1 at : ℕ) (r : Record) (n1 new first b : List ℕ) → length b ≡ STORAGE_BYTES → HasRecords first rs p → IsRecord r → p + 8 + length r.value ≤ PARAM_BYTES → length first ≡ PARAM_BYTES →
    p ≤ a1 → a1 + length n1 ≤ p + 4 → ((a1 + length n1 ≤ p + 1) ⊎ (p + 1 < a1)) →
    Ready p r first (logical_of Param b) → IsLast p at r new (logical_of Param (after b (writes_of_piece Param a1 n1 b))) → HeaderDone rs p r first b (piece a1 n1 ∷ piece at new ∷ [])
header_two rs p a1 at r n1 new first b size has one fits whole behind inside apart ready is =
    let w1 = writes_of_piece Param a1 n1 b in
    let b1 = after b w1 in
    let size1 : length b1 ≡ STORAGE_BYTES = length-after b w1 ∙ size in
    let ready1 = ready_put p a1 r n1 first b size fits behind inside apart ready in
    let done = header_one rs p at r new first b1 size1 has one fits whole ready1 is in
    let stays = piece_stays p a1 n1 first b size (omega arith) behind apart ready.stays in
    record {
      each = prefix_append (OldOrNew rs p r) b w1 (writes_of b1 (piece at new ∷ []))
          (prefix_weaker (StaysIn p first) (OldOrNew rs p r) b w1 (λ c l s. inl (kept_records first (logical_of Param c) rs p has (stays_keeps p first (logical_of Param c) s))) stays)
          done.each;
      whole = subst (λ (c : List ℕ). Appended p r first (logical_of Param c)) (sym (after-append b w1 (writes_of b1 (piece at new ∷ [])))) done.whole;
    }

header_in_one : (rs : List Record) (p : ℕ) (r : Record) (first b : List ℕ) → length b ≡ STORAGE_BYTES → HasRecords first rs p → IsRecord r → p + 8 + length r.value ≤ PARAM_BYTES → length first ≡ PARAM_BYTES →
    Ready p r first (logical_of Param b) → p % 8 < 5 → HeaderDone rs p r first b (piece p (four_bytes (header r)) ∷ [])
header_in_one rs p r first b size has one fits whole ready low =
    header_one rs p p r (four_bytes (header r)) first b size has one fits whole ready (record {
      behind = omega arith;
      inside = omega arith;
      one = omega arith;
      part = λ i h. let same : i ≡ p - p + i = omega arith in ap (λ (k : ℕ). get_or (four_bytes (header r)) k 0) same;
      before = λ i h. absurd (omega arith);
      after = λ i h g. absurd (omega arith);
    })

header_at_seven : (rs : List Record) (p : ℕ) (r : Record) (first b : List ℕ) → length b ≡ STORAGE_BYTES → HasRecords first rs p → IsRecord r → p + 8 + length r.value ≤ PARAM_BYTES → length first ≡ PARAM_BYTES →
    Ready p r first (logical_of Param b) → p % 8 ≡ 7 → HeaderDone rs p r first b (piece p (take 1 (four_bytes (header r))) ∷ piece (p + 1) (drop 1 (four_bytes (header r))) ∷ [])
header_at_seven rs p r first b size has one fits whole ready seven =
    let head = four_bytes (header r) in
    let put = piece_whole p (take 1 head) b size (omega arith) in
    header_two rs p p (p + 1) r (take 1 head) (drop 1 head) first b size has one fits whole (omega arith) (omega arith) (inl (omega arith)) ready (record {
      behind = omega arith;
      inside = omega arith;
      one = omega arith;
      part = λ i h. let same : 1 + i ≡ p + 1 - p + i = omega arith in get_or-drop 1 head i 0 ∙ ap (λ (k : ℕ). get_or head k 0) same;
      before = λ i h. let few : i < 1 = omega arith in put.put i few ∙ get_or-take 1 head i 0 few;
      after = λ i h g. absurd (omega arith);
    })

header_in_two : (rs : List Record) (p s : ℕ) (r : Record) (first b : List ℕ) → length b ≡ STORAGE_BYTES → HasRecords first rs p → IsRecord r → p + 8 + length r.value ≤ PARAM_BYTES → length first ≡ PARAM_BYTES →
    Ready p r first (logical_of Param b) → s ≡ 8 - p % 8 → 5 ≤ p % 8 → p % 8 ≢ 7 → HeaderDone rs p r first b (piece (p + s) (drop s (four_bytes (header r))) ∷ piece p (take s (four_bytes (header r))) ∷ [])
header_in_two rs p s r first b size has one fits whole ready cut low high =
    let head = four_bytes (header r) in
    let long : length head ≡ 4 = refl in
    let first_size : length (take s head) ≡ s = omega (arith, length-take s head, long) in
    let last_size : length (drop s head) ≡ 4 - s = omega (arith, length-drop s head, long) in
    let put = piece_whole (p + s) (drop s head) b size (omega arith) in
    header_two rs p (p + s) p r (drop s head) (take s head) first b size has one fits whole (omega arith) (omega arith) (inr (omega arith)) ready (record {
      behind = omega arith;
      inside = omega arith;
      one = omega arith;
      part = λ i h. let same : i ≡ p - p + i = omega arith in let few : i < s = omega arith in get_or-take s head i 0 few ∙ ap (λ (k : ℕ). get_or head k 0) same;
      before = λ i h. absurd (omega arith);
      after = λ i h g.
          let place : p + s + (i - s) ≡ p + i = omega arith in
          let part : s + (i - s) ≡ i = omega arith in
          sym (ap (λ (k : ℕ). get_or (logical_of Param (after b (writes_of_piece Param (p + s) (drop s head) b))) k 0) place)
          ∙ put.put (i - s) (omega arith) ∙ get_or-drop s head (i - s) 0 ∙ ap (λ (k : ℕ). get_or head k 0) part;
    })

pub header_done : (rs : List Record) (p : ℕ) (r : Record) (first b : List ℕ) → length b ≡ STORAGE_BYTES → HasRecords first rs p → IsRecord r → p + 8 + length r.value ≤ PARAM_BYTES → length first ≡ PARAM_BYTES →
    Ready p r first (logical_of Param b) → HeaderDone rs p r first b (header_pieces p (four_bytes (header r)))
header_done rs p r first b size has one fits whole ready =
    let head = four_bytes (header r) in
    let a = piece p head ∷ [] in
    let c = piece p (take 1 head) ∷ piece (p + 1) (drop 1 head) ∷ [] in
    let d = piece (p + (8 - p % 8)) (drop (8 - p % 8) head) ∷ piece p (take (8 - p % 8) head) ∷ [] in
    let D : List Piece → Type 0 = λ qs. HeaderDone rs p r first b qs in
    elim (cases_lt (p % 8) 5) [
      | inl low ↦ subst D (sym (ap (λ (t : Bool). cond t a (cond ((p % 8) == 7) c d)) (lt-ltb (p % 8) 5 low))) (header_in_one rs p r first b size has one fits whole ready low)
      | inr high ↦ elim (cases_eq (p % 8) 7) [
        | inl seven ↦ subst D (sym (ap (λ (t : Bool). cond t a (cond ((p % 8) == 7) c d)) (le-ltb (p % 8) 5 high) ∙ ap (λ (t : Bool). cond t c d) (eq-eqb (p % 8) 7 seven))) (header_at_seven rs p r first b size has one fits whole ready seven)
        | inr other ↦ subst D (sym (ap (λ (t : Bool). cond t a (cond ((p % 8) == 7) c d)) (le-ltb (p % 8) 5 high) ∙ ap (λ (t : Bool). cond t c d) (ne_eqb (p % 8) 7 other))) (header_in_two rs p (8 - p % 8) r first b size has one fits whole ready refl high other)
      ]
    ]

-- After each prefix of the writes that append a record the records are the old ones, or the old ones and the new one, and after all of them the latter.
pub record AppendDone (rs : List Record) (p : ℕ) (r : Record) (b : List ℕ) : Type 0 where
  pub each : EachPrefix (OldOrNew rs p r) b (writes_of b (appending p r))
  pub whole : HasRecords (logical_of Param (after b (writes_of b (appending p r)))) (rs ++ r ∷ []) (p + length (encoding r))

pub append_done : (rs : List Record) (p : ℕ) (r : Record) (b : List ℕ) → length b ≡ STORAGE_BYTES → HasRecords (logical_of Param b) rs p → IsRecord r → p + 8 + length r.value ≤ PARAM_BYTES → AppendDone rs p r b
append_done rs p r b size has one fits =
    let first = logical_of Param b in
    let n = length r.value in
    let long : length first ≡ PARAM_BYTES = length-logical b in
    let w1 = writes_of_piece Param (p + 4 + n) sentinel b in
    let b1 = after b w1 in
    let size1 : length b1 ≡ STORAGE_BYTES = length-after b w1 ∙ size in
    let w2 = writes_of_piece Param (p + 4) r.value b1 in
    let b2 = after b1 w2 in
    let size2 : length b2 ≡ STORAGE_BYTES = length-after b1 w2 ∙ size1 in
    let stays0 : Stays p first first = record { size = refl; front = λ i h. refl; type = refl } in
    let put1 = piece_whole (p + 4 + n) sentinel b size (omega arith) in
    let put2 = piece_whole (p + 4) r.value b1 size1 (omega arith) in
    let stays1 = stays_put p (p + 4 + n) sentinel 4 first first (logical_of Param b1) (omega arith) (inr (inr (omega arith))) stays0 put1 in
    let stays2 = stays_put p (p + 4) r.value n first (logical_of Param b1) (logical_of Param b2) (omega arith) (inr (inr (omega arith))) stays1 put2 in
    let ready : Ready p r first (logical_of Param b2) = record {
      stays = stays2;
      value = put_holds (p + 4) r.value (logical_of Param b1) (logical_of Param b2) put2;
      sentinel = holds_put (p + 4 + n) (p + 4) sentinel r.value n (logical_of Param b1) (logical_of Param b2) (inr (omega arith)) (put_holds (p + 4 + n) sentinel first (logical_of Param b1) put1) put2;
    } in
    let pieces = header_pieces p (four_bytes (header r)) in
    let done = header_done rs p r first b2 size2 has one fits long ready in
    let old : (c : List ℕ) → StaysIn p first c → OldOrNew rs p r c = λ c s. inl (kept_records first (logical_of Param c) rs p has (stays_keeps p first (logical_of Param c) s)) in
    let each1 = prefix_weaker (StaysIn p first) (OldOrNew rs p r) b w1 (λ c l s. old c s) (piece_stays p (p + 4 + n) sentinel first b size (omega arith) (omega arith) (inr (omega arith)) stays0) in
    let each2 = prefix_weaker (StaysIn p first) (OldOrNew rs p r) b1 w2 (λ c l s. old c s) (piece_stays p (p + 4) r.value first b1 size1 (omega arith) (omega arith) (inr (omega arith)) stays1) in
    let w3 = writes_of b2 pieces in
    let all : after b (w1 ++ (w2 ++ w3)) ≡ after b2 w3 = after-append b w1 (w2 ++ w3) ∙ after-append b1 w2 w3 in
    record {
      each = prefix_append (OldOrNew rs p r) b w1 (w2 ++ w3) each1 (prefix_append (OldOrNew rs p r) b1 w2 w3 each2 done.each);
      whole = subst (λ (c : List ℕ). HasRecords (logical_of Param c) (rs ++ r ∷ []) (p + length (encoding r))) (sym all) (appended_has first (logical_of Param (after b2 w3)) rs p r has one (omega arith) done.whole);
    }

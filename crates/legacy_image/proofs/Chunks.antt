-- The legacy image that is made of storage bytes, and what is read of it.
use Rattle.std.proofs.Common.{◌≡◌, inl, inr, ℕ, zero, suc, ◌+◌, ◌-◌, ◌*◌, ◌/◌, ◌%◌, ◌<◌, ◌≤◌, Bool, true, false, List, [], ◌∷◌, ◌++◌, length, get_or, take, drop, replicate, refl, sym, ◌∙◌, ap, subst, arith, append_assoc, append-nil}
use Rattle.std.specs.Prelude.{All, Some, if◌then◌else◌}
use Rattle.std.specs.Str.{bytes_eq}
use Rattle.std.proofs.lemmas.List.{length-append, length-take, length-take-le, length-drop, length-replicate, get_or-take, get_or-drop, get_or-replicate, get_or_past, take_at, drop_at, take_all}
use Rattle.std.proofs.lemmas.Slice.Eq.{bytes_eq-Decides}
use Rattle.std.proofs.lemmas.List.Concat.{flat_map-append}
use Rattle.std.proofs.lemmas.List.Sums.{fold-append}
use Rattle.std.proofs.lemmas.List.Elements.{All-nil, All-cons, All-append, All-replicate, All-get_or}
use Rattle.std.proofs.lemmas.Bool.{cases_lt}
use Rattle.flash_traits.specs.Words.{bytes_of, halfwords_of}
use Rattle.flash_traits.specs.Values.{put, IsValueUpTo}
use Rattle.flash_traits.specs.declared.board.Mark.TheVariants.{Available, InUse}
use Rattle.flash_traits.proofs.ValueLemmas.{length_bytes, length_put, put_below, put_within, put_above}
use Rattle.sector_log.specs.Entries.{Entry, IsEntry, entry_words, words_of_entries}
use Rattle.sector_log.specs.Bytes.{apply, applied, written_lines}
use Rattle.sector_log.proofs.BytesLemmas.{length_halfwords}
use Rattle.legacy_image.specs.declared.numbers.TheConstants.{LEGACY_BYTES}
use Rattle.legacy_image.specs.Sizes.{IsLegacySectorSize, IsLegacyLength, sector_0, sector_1}
use Rattle.legacy_image.specs.Heads.{head_in}
use Rattle.legacy_image.specs.Logs.{IsLegacyEntry}
use Rattle.legacy_image.specs.Legacy.{IsLegacy}
use Rattle.legacy_image.specs.Made.{legacy_chunks, chunk_of, is_zero_chunk, chunk_entry, entry_in, entries_below, IsMade}
use Rattle.legacy_image.specs.Steps.{entry_head}
use Rattle.legacy_image.proofs.LegacyEntries.{all_erased}
use Rattle.legacy_image.proofs.Values.{value_applied}
use Rattle.legacy_image.proofs.Words.{halfwords-append, bytes-append, bytes-back, words-back, halfwords-erased}

pub entries_none : (bytes : List ℕ) → entries_below 0 bytes ≡ []
unfolding entries_below
entries_none bytes = refl

pub entries_more : (c : ℕ) (bytes : List ℕ) → entries_below (c + 1) bytes ≡ entries_below c bytes ++ entry_in bytes c
unfolding entries_below
entries_more c bytes = let e : c + 1 ≡ suc c = omega arith in ap (λ (n : ℕ). entries_below n bytes) e

-- the bytes of one more chunk
pub bytes_more : (c : ℕ) (bytes : List ℕ) → bytes_of (23550 ∷ 20840 ∷ words_of_entries (entries_below (c + 1) bytes)) ≡ bytes_of (23550 ∷ 20840 ∷ words_of_entries (entries_below c bytes)) ++ bytes_of (words_of_entries (entry_in bytes c))
bytes_more c bytes =
    ap (λ (l : List Entry). bytes_of (23550 ∷ 20840 ∷ words_of_entries l)) (entries_more c bytes)
    ∙ ap (λ (l : List ℕ). bytes_of (23550 ∷ 20840 ∷ l)) (flat_map-append entry_words (entries_below c bytes) (entry_in bytes c))
    ∙ bytes-append (23550 ∷ 20840 ∷ words_of_entries (entries_below c bytes)) (words_of_entries (entry_in bytes c))

short : (bytes : List ℕ) (c : ℕ) → length (chunk_of bytes c) ≤ 64
short bytes c = omega (arith, length-take 64 (drop (64 * c) bytes))

small_chunk : (bytes : List ℕ) (c : ℕ) → ((k : ℕ) → get_or bytes k 0 < 256) → (k : ℕ) → get_or (chunk_of bytes c) k 0 < 256
small_chunk bytes c small k = elim (cases_lt k 64) [
  | inl lt ↦ let e : get_or (chunk_of bytes c) k 0 ≡ get_or bytes (64 * c + k) 0 = get_or-take 64 (drop (64 * c) bytes) k 0 lt ∙ get_or-drop (64 * c) bytes k 0 in omega (arith, e, small (64 * c + k))
  | inr le ↦ let e : get_or (chunk_of bytes c) k 0 ≡ 0 = get_or_past (chunk_of bytes c) k 0 (omega (arith, le, short bytes c)) in omega (arith, e)
]

same_bytes : (xs ys : List ℕ) → bytes_eq xs ys ≡ true → xs ≡ ys
same_bytes xs ys e = (bytes_eq-Decides xs ys).0 e

-- the bytes of a chunk that isn't all zeros
pub chunk_bytes : (bytes part : List ℕ) (c : ℕ) → length bytes ≡ LEGACY_BYTES → c < legacy_chunks → ((k : ℕ) → get_or bytes k 0 < 256) → part ≡ chunk_of bytes c → is_zero_chunk bytes c ≡ false
    → entry_head c % 256 ∷ entry_head c / 256 ∷ part ≡ bytes_of (words_of_entries (entry_in bytes c))
chunk_bytes bytes part c size lt small is other =
    let head : 0 + 4 * (8 * c) + 8192 * (8 - 1) ≡ entry_head c = omega arith in
    let w = 0 + 4 * (8 * c) + 8192 * (8 - 1) in
    let chunk = chunk_of bytes c in
    let long : length chunk ≡ 2 * 32 = length-take-le 64 (drop (64 * c) bytes) (omega (arith, size, lt, length-drop (64 * c) bytes)) in
    let back : bytes_of (halfwords_of chunk) ≡ chunk = bytes-back 32 chunk long (small_chunk bytes c small) in
    let one : bytes_of (words_of_entries (chunk_entry bytes c ∷ [])) ≡ w % 256 ∷ w / 256 ∷ chunk =
    ap (λ (l : List ℕ). w % 256 ∷ w / 256 ∷ bytes_of l) (append-nil (halfwords_of chunk)) ∙ ap (λ (l : List ℕ). w % 256 ∷ w / 256 ∷ l) back in
    ap (λ (n : ℕ). n % 256 ∷ n / 256 ∷ part) (sym head) ∙ ap (λ (l : List ℕ). w % 256 ∷ w / 256 ∷ l) is ∙ sym one
    ∙ sym (ap (λ (b : Bool). bytes_of (words_of_entries (if b then [] else chunk_entry bytes c ∷ []))) other)

-- each entry is one of a legacy image
chunk_fits : (bytes : List ℕ) (c : ℕ) → length bytes ≡ LEGACY_BYTES → c < legacy_chunks → IsLegacyEntry (chunk_entry bytes c)
chunk_fits bytes c size lt =
    let long : length (chunk_of bytes c) ≡ 64 = length-take-le 64 (drop (64 * c) bytes) (omega (arith, size, lt, length-drop (64 * c) bytes)) in
    record {
      entry = record { lawful = record { known = omega arith; some = omega arith; most = omega arith; inside = omega (arith, lt) }; whole = omega (arith, length_halfwords (chunk_of bytes c), long) };
      inside = omega (arith, lt);
    }

each_in : (bytes : List ℕ) (c : ℕ) (b : Bool) → length bytes ≡ LEGACY_BYTES → c < legacy_chunks → All IsLegacyEntry (if b then [] else chunk_entry bytes c ∷ [])
each_in bytes c true size lt = All-nil IsLegacyEntry
each_in bytes c false size lt = All-cons IsLegacyEntry (chunk_entry bytes c) [] (chunk_fits bytes c size lt) (All-nil IsLegacyEntry)

pub each_below : (c : ℕ) (bytes : List ℕ) → length bytes ≡ LEGACY_BYTES → c ≤ legacy_chunks → All IsLegacyEntry (entries_below c bytes)
each_below zero bytes size le = subst (λ l. All IsLegacyEntry l) (sym (entries_none bytes)) (All-nil IsLegacyEntry)
each_below (suc c) bytes size le =
    let e : entries_below (suc c) bytes ≡ entries_below c bytes ++ entry_in bytes c = let n : suc c ≡ c + 1 = omega arith in ap (λ (k : ℕ). entries_below k bytes) n ∙ entries_more c bytes in
    subst (λ l. All IsLegacyEntry l) (sym e) (All-append IsLegacyEntry (entries_below c bytes) (entry_in bytes c) (each_below c bytes size (omega arith)) (each_in bytes c (is_zero_chunk bytes c) size (omega arith)))

pub plain : (es : List Entry) → All IsLegacyEntry es → All IsEntry es
plain es p = λ k d h. (p k d h).entry

-- an entry takes 33 halfwords at most
few_in : (bytes : List ℕ) (c : ℕ) (b : Bool) → length bytes ≡ LEGACY_BYTES → c < legacy_chunks → length (words_of_entries (if b then [] else chunk_entry bytes c ∷ [])) ≤ 33
few_in bytes c true size lt = omega arith
few_in bytes c false size lt =
    let whole = (chunk_fits bytes c size lt).entry.whole in
    let one : length (words_of_entries (chunk_entry bytes c ∷ [])) ≡ length (entry_words (chunk_entry bytes c)) = ap length (append-nil (entry_words (chunk_entry bytes c))) in
    omega (arith, whole, one)

pub few_words : (c : ℕ) (bytes : List ℕ) → length bytes ≡ LEGACY_BYTES → c ≤ legacy_chunks → length (words_of_entries (entries_below c bytes)) ≤ 33 * c
few_words zero bytes size le = let e : length (words_of_entries (entries_below 0 bytes)) ≡ 0 = ap (λ (l : List Entry). length (words_of_entries l)) (entries_none bytes) in omega (arith, e)
few_words (suc c) bytes size le =
    let n : suc c ≡ c + 1 = omega arith in
    let e : length (words_of_entries (entries_below (suc c) bytes)) ≡ length (words_of_entries (entries_below c bytes)) + length (words_of_entries (entry_in bytes c)) =
    ap (λ (k : ℕ). length (words_of_entries (entries_below k bytes))) n ∙ ap (λ (l : List Entry). length (words_of_entries l)) (entries_more c bytes)
    ∙ ap length (flat_map-append entry_words (entries_below c bytes) (entry_in bytes c)) ∙ length-append (words_of_entries (entries_below c bytes)) (words_of_entries (entry_in bytes c)) in
    omega (arith, e, few_words c bytes size (omega arith), few_in bytes c (is_zero_chunk bytes c) size (omega arith))

-- the halfwords of a front of halfwords and erased bytes behind it
erased_behind : (words : List ℕ) (j : ℕ) → halfwords_of (bytes_of words ++ replicate (2 * j) 255) ≡ words ++ replicate j 65535
erased_behind words j =
    halfwords-append (length words) (bytes_of words) (replicate (2 * j) 255) (length_bytes words)
    ∙ ap (λ (l : List ℕ). l ++ halfwords_of (replicate (2 * j) 255)) (words-back words) ∙ ap (λ (l : List ℕ). words ++ l) (halfwords-erased j)

record Common (n : ℕ) : Type 0 where
  even : 2 * (n / 2) ≡ n
  least : 16384 ≤ n

-- what the four sizes have in common
common : (n : ℕ) → IsLegacySectorSize n → Common n
common n (inl is) = record { even = omega (arith, is); least = omega (arith, is) }
common n (inr (inl is)) = record { even = omega (arith, is); least = omega (arith, is) }
common n (inr (inr (inl is))) = record { even = omega (arith, is); least = omega (arith, is) }
common n (inr (inr (inr is))) = record { even = omega (arith, is); least = omega (arith, is) }

-- both sectors, as they are made
pub made : (bytes image : List ℕ) (n j : ℕ) → IsLegacySectorSize n → length bytes ≡ LEGACY_BYTES
    → image ≡ (bytes_of (23550 ∷ 20840 ∷ words_of_entries (entries_below legacy_chunks bytes)) ++ replicate (2 * j) 255) ++ ((255 ∷ 91 ∷ 104 ∷ 81 ∷ []) ++ replicate (n - 4) 255)
    → 4 + 2 * length (words_of_entries (entries_below legacy_chunks bytes)) + 2 * j ≡ n → IsMade bytes n image
made bytes image n j size long is fits =
    let es = entries_below legacy_chunks bytes in
    let ws : List ℕ = 23550 ∷ 20840 ∷ words_of_entries es in
    let front : List ℕ = bytes_of ws ++ replicate (2 * j) 255 in
    let back : List ℕ = (255 ∷ 91 ∷ 104 ∷ 81 ∷ []) ++ replicate (n - 4) 255 in
    let k = n / 2 - 2 in
    let even = (common n size).even in
    let rest : replicate {A = ℕ} (n - 4) 255 ≡ replicate (2 * k) 255 = ap (λ (m : ℕ). replicate m 255) (omega (arith, even, fits)) in
    let front_size : length front ≡ n = omega (arith, fits, length-append (bytes_of ws) (replicate (2 * j) 255), length_bytes ws, length-replicate {A = ℕ} (2 * j) 255) in
    let back_size : length back ≡ n = omega (arith, fits, length-append {A = ℕ} (255 ∷ 91 ∷ 104 ∷ 81 ∷ []) (replicate (n - 4) 255), length-replicate {A = ℕ} (n - 4) 255) in
    let whole : length image ≡ 2 * n = omega (arith, ap length is, length-append front back, front_size, back_size) in
    let half : length image / 2 ≡ n = omega (arith, whole) in
    let first : sector_0 image ≡ ws ++ replicate j 65535 =
    ap (λ (m : ℕ). halfwords_of (take m image)) half ∙ ap (λ (l : List ℕ). halfwords_of (take n l)) is ∙ ap halfwords_of (take_at front back n front_size) ∙ erased_behind ws j in
    let second : sector_1 image ≡ 23551 ∷ 20840 ∷ replicate k 65535 =
    ap (λ (m : ℕ). halfwords_of (drop m image)) half ∙ ap (λ (l : List ℕ). halfwords_of (drop n l)) is ∙ ap halfwords_of (drop_at front back n front_size)
    ∙ ap (λ (l : List ℕ). halfwords_of ((255 ∷ 91 ∷ 104 ∷ 81 ∷ []) ++ l)) rest ∙ ap (λ (l : List ℕ). 23551 ∷ 20840 ∷ l) (halfwords-erased k) in
    record {
      size = whole;
      first = record { rest = replicate j 65535; whole = first; each = plain es (each_below legacy_chunks bytes long (omega arith)); available = λ e. cc; erased = all_erased j };
      second = record { rest = replicate k 65535; whole = second; each = All-nil IsEntry; available = λ e. refl; erased = all_erased k };
    }

-- applied to zeros, the entries of the first chunks give these chunks, and leave the rest
record Gives (n c : ℕ) (bytes now : List ℕ) : Type 0 where
  size : length now ≡ n
  below : (k : ℕ) → k < 64 * c → get_or now k 0 ≡ get_or bytes k 0
  above : (k : ℕ) → 64 * c ≤ k → get_or now k 0 ≡ 0

in_chunk : (bytes : List ℕ) (c k : ℕ) → 64 * c ≤ k → k < 64 * c + 64 → get_or (chunk_of bytes c) (k - 64 * c) 0 ≡ get_or bytes k 0
in_chunk bytes c k from to = get_or-take 64 (drop (64 * c) bytes) (k - 64 * c) 0 (omega arith) ∙ get_or-drop (64 * c) bytes (k - 64 * c) 0 ∙ ap (λ (m : ℕ). get_or bytes m 0) (omega arith)

one_zero : (bytes now : List ℕ) (n c : ℕ) → Gives n c bytes now → is_zero_chunk bytes c ≡ true → Gives n (c + 1) bytes now
one_zero bytes now n c g zeros =
    let same : chunk_of bytes c ≡ replicate 64 0 = same_bytes (chunk_of bytes c) (replicate 64 0) zeros in
    record {
      size = g.size;
      below = λ k lt. elim (cases_lt k (64 * c)) [
        | inl less ↦ g.below k less
        | inr from ↦ g.above k from ∙ sym (sym (in_chunk bytes c k from (omega arith)) ∙ ap (λ (l : List ℕ). get_or l (k - 64 * c) 0) same ∙ get_or-replicate 64 (k - 64 * c) 0 0 (omega arith))
      ];
      above = λ k from. g.above k (omega arith);
    }

one_put : (bytes now new : List ℕ) (n c : ℕ) → Gives n c bytes now → 64 * c + 64 ≤ n → length new ≡ 64 → new ≡ chunk_of bytes c → Gives n (c + 1) bytes (put (64 * c) new now)
one_put bytes now new n c g fits long is = record {
  size = length_put (64 * c) new now (omega (arith, long, g.size)) ∙ g.size;
  below = λ k lt. elim (cases_lt k (64 * c)) [
    | inl less ↦ put_below (64 * c) new now k (omega (arith, g.size)) less ∙ g.below k less
    | inr from ↦ put_within (64 * c) new now k (omega (arith, g.size)) from (omega (arith, long)) ∙ ap (λ (l : List ℕ). get_or l (k - 64 * c) 0) is ∙ in_chunk bytes c k from (omega arith)
  ];
  above = λ k from. put_above (64 * c) new now k (omega (arith, g.size)) (omega (arith, long)) ∙ g.above k (omega arith);
}

one_more : (bytes now : List ℕ) (n c : ℕ) (b : Bool) → is_zero_chunk bytes c ≡ b → length bytes ≡ LEGACY_BYTES → n ≡ LEGACY_BYTES → c < legacy_chunks → ((k : ℕ) → get_or bytes k 0 < 256)
    → Gives n c bytes now → Gives n (c + 1) bytes (applied now (if b then [] else chunk_entry bytes c ∷ []))
one_more bytes now n c true zeros long is lt small g = one_zero bytes now n c g zeros
one_more bytes now n c false zeros long is lt small g =
    let chunk = chunk_of bytes c in
    let size : length chunk ≡ 2 * 32 = length-take-le 64 (drop (64 * c) bytes) (omega (arith, long, lt, length-drop (64 * c) bytes)) in
    let part : bytes_of (halfwords_of chunk) ≡ chunk = bytes-back 32 chunk size (small_chunk bytes c small) in
    let long' : length (bytes_of (halfwords_of chunk)) ≡ 64 = ap length part ∙ size in
    let place : 8 * (8 * c) ≡ 64 * c = omega arith in
    subst (λ (at : ℕ). Gives n (c + 1) bytes (put at (bytes_of (halfwords_of chunk)) now)) (sym place) (one_put bytes now (bytes_of (halfwords_of chunk)) n c g (omega (arith, is, lt)) long' part)

gives : (bytes zeros : List ℕ) (n c : ℕ) → length bytes ≡ LEGACY_BYTES → n ≡ LEGACY_BYTES → length zeros ≡ n → All (λ b. b ≡ 0) zeros → c ≤ legacy_chunks → ((k : ℕ) → get_or bytes k 0 < 256) → Gives n c bytes (applied zeros (entries_below c bytes))
gives bytes zeros n zero long is size all le small =
    subst (λ l. Gives n 0 bytes (applied zeros l)) (sym (entries_none bytes)) (record {
      size = size;
      below = λ k lt. absurd (omega arith);
      above = λ k from. elim (cases_lt k (length zeros)) [
        | inl lt ↦ All-get_or (λ (b : ℕ). b ≡ 0) zeros k 0 lt all
        | inr past ↦ get_or_past zeros k 0 past
      ];
    })
gives bytes zeros n (suc c) long is size all le small =
    let before = applied zeros (entries_below c bytes) in
    let step : Gives n (c + 1) bytes (applied before (entry_in bytes c)) = one_more bytes before n c (is_zero_chunk bytes c) refl long is (omega arith) small (gives bytes zeros n c long is size all (omega arith) small) in
    let next : c + 1 ≡ suc c = omega arith in
    let e : applied before (entry_in bytes c) ≡ applied zeros (entries_below (suc c) bytes) =
    sym (fold-append apply zeros (entries_below c bytes) (entry_in bytes c)) ∙ ap (λ (l : List Entry). applied zeros l) (sym (entries_more c bytes)) ∙ ap (λ (k : ℕ). applied zeros (entries_below k bytes)) next in
    subst (λ (m : ℕ). Gives n m bytes (applied zeros (entries_below (suc c) bytes))) next (subst (λ l. Gives n (c + 1) bytes l) e step)

-- the bytes are the value of the entries that are made of them
value_made : (bytes : List ℕ) → length bytes ≡ LEGACY_BYTES → ((k : ℕ) → get_or bytes k 0 < 256) → IsValueUpTo LEGACY_BYTES (written_lines (entries_below legacy_chunks bytes)) bytes
value_made bytes long small =
    let n = length bytes in
    let zeros : List ℕ = replicate n 0 in
    let size : length zeros ≡ n = length-replicate {A = ℕ} n 0 in
    let all : All (λ b. b ≡ 0) zeros = All-replicate (λ (b : ℕ). b ≡ 0) n 0 refl in
    let es = entries_below legacy_chunks bytes in
    let g = gives bytes zeros n legacy_chunks long long size all (omega arith) small in
    let v = value_applied es zeros (each_below legacy_chunks bytes long (omega arith)) (size ∙ long) all in
    record { size = long; each = λ k lt. sym (g.below k (omega (arith, lt))) ∙ v.each k lt }

legacy_length : (n : ℕ) → IsLegacySectorSize n → IsLegacyLength (2 * n)
legacy_length n is = (n, is, refl)

-- what is made of storage bytes reads as these bytes
pub reads_made : (bytes image : List ℕ) (n : ℕ) → IsLegacySectorSize n → length bytes ≡ LEGACY_BYTES → ((k : ℕ) → get_or bytes k 0 < 256) → IsMade bytes n image → IsLegacy image bytes
reads_made bytes image n size long small m =
    let es = entries_below legacy_chunks bytes in
    record {
      a = Some InUse;
      b = Some Available;
      heads = record {
        size = subst IsLegacyLength (sym m.size) (legacy_length n size);
        first = ap head_in m.first.whole;
        second = ap head_in m.second.whole;
        pair = refl;
      };
      entries_0 = es;
      entries_1 = [];
      log_0 = record { rest = m.first.rest; whole = ap (λ (l : List ℕ). drop 2 l) m.first.whole; each = each_below legacy_chunks bytes long (omega arith); erased = m.first.erased };
      log_1 = refl;
      value = subst (λ l. IsValueUpTo LEGACY_BYTES (written_lines l) bytes) (sym (append-nil es)) (value_made bytes long small);
    }

-- the same from what was pushed: the entries, erased bytes, the other mark, erased bytes
pub exported : (bytes image resized marked whole : List ℕ) (n v w : ℕ) → IsLegacySectorSize n → length bytes ≡ LEGACY_BYTES
    → image ≡ bytes_of (23550 ∷ 20840 ∷ words_of_entries (entries_below legacy_chunks bytes)) → v ≡ length image → resized ≡ take n image ++ replicate (n - v) 255
    → marked ≡ resized ++ (255 ∷ 91 ∷ 104 ∷ 81 ∷ []) → w ≡ length marked → whole ≡ take (2 * n) marked ++ replicate (2 * n - w) 255 → IsMade bytes n whole
exported bytes image resized marked whole n v w size long is v_is r_is m_is w_is all =
    let ws : List ℕ = 23550 ∷ 20840 ∷ words_of_entries (entries_below legacy_chunks bytes) in
    let j = n / 2 - 2 - length (words_of_entries (entries_below legacy_chunks bytes)) in
    let even = (common n size).even in
    let big = (common n size).least in
    let few = few_words legacy_chunks bytes long (omega arith) in
    let image_size : length image ≡ 4 + 2 * length (words_of_entries (entries_below legacy_chunks bytes)) = ap length is ∙ length_bytes ws ∙ omega arith in
    let gap : n - v ≡ 2 * j = omega (arith, even, big, few, image_size, v_is) in
    let front : resized ≡ bytes_of ws ++ replicate (2 * j) 255 =
    r_is ∙ ap (λ (l : List ℕ). l ++ replicate (n - v) 255) (take_all n image (omega (arith, big, few, image_size)) ∙ is) ∙ ap (λ (m : ℕ). bytes_of ws ++ replicate m 255) gap in
    let front_size : length resized ≡ n = ap length front ∙ length-append (bytes_of ws) (replicate (2 * j) 255) ∙ omega (arith, length_bytes ws, length-replicate {A = ℕ} (2 * j) 255, even, big, few) in
    let marked_size : length marked ≡ n + 4 = ap length m_is ∙ length-append {A = ℕ} resized (255 ∷ 91 ∷ 104 ∷ 81 ∷ []) ∙ omega (arith, front_size) in
    let rest : 2 * n - w ≡ n - 4 = omega (arith, marked_size, w_is) in
    let back : whole ≡ resized ++ ((255 ∷ 91 ∷ 104 ∷ 81 ∷ []) ++ replicate (n - 4) 255) =
    all ∙ ap (λ (l : List ℕ). l ++ replicate (2 * n - w) 255) (take_all (2 * n) marked (omega (arith, marked_size, big)) ∙ m_is)
    ∙ ap (λ (m : ℕ). (resized ++ (255 ∷ 91 ∷ 104 ∷ 81 ∷ [])) ++ replicate m 255) rest ∙ append_assoc resized (255 ∷ 91 ∷ 104 ∷ 81 ∷ []) (replicate (n - 4) 255) in
    made bytes whole n j size long (back ∙ ap (λ (l : List ℕ). l ++ ((255 ∷ 91 ∷ 104 ∷ 81 ∷ []) ++ replicate (n - 4) 255)) front) (omega (arith, even, big, few))

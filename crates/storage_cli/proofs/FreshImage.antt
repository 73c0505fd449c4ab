-- A fresh image stands for zeros.
use Rattle.std.proofs.Common.{inl, inr, ◌/◌, ◌≡◌, ℕ, suc, [], ◌∷◌, length, replicate, slice_set, refl, sym, ◌∙◌, ap, arith, rules}
use Rattle.std.specs.List.{All}
use Rattle.std.proofs.lemmas.List.{length-replicate, get_or-replicate}
use Rattle.flash_traits.specs.Words.{Words, HasShape, IsSectorSize}
use Rattle.flash_traits.specs.declared.board.Region.TheVariants.{S0}
use Rattle.session_boards.specs.declared.device.TheConstants.{SECTOR_BYTES}
use Rattle.flash_traits.specs.declared.board.Mark.{Mark}
use Rattle.flash_traits.specs.declared.board.Mark.TheVariants.{Available, InUse}
use Rattle.flash_traits.specs.declared.numbers.TheConstants.{ERASED, SIGNATURE, GUARD_HALFWORDS}
use Rattle.flash_traits.specs.Marks.{mark_word}
use Rattle.guard_row.specs.Row.{IsGuardRow}
use Rattle.sector_log.specs.Storage.{storage_bytes}
use Rattle.sector_log.specs.Entries.{IsEntry}
use Rattle.sector_log.specs.Sector.{IsSector}
use Rattle.sector_log.specs.Bytes.{IsValue}
use Rattle.sector_image.specs.Stands.{Stands, Both}
use Rattle.session_boards.specs.Device.{fresh_words}
use Rattle.session_boards.specs.Sizes.{fresh_sector}
use Rattle.storage_cli.specs.Sessions.{zeros, fresh_storage}

no_entries : All IsEntry []
no_entries i d lt = absurd (omega (arith, lt))

begun_at : (n mark : ℕ) → slice_set (slice_set (replicate (suc (suc n)) ERASED) 0 mark) 1 SIGNATURE ≡ mark ∷ SIGNATURE ∷ replicate n ERASED
begun_at n mark = refl

all_erased : (n : ℕ) → All (λ word. word ≡ ERASED) (replicate n ERASED)
all_erased n i d lt = get_or-replicate n i ERASED d (omega (arith, length-replicate n ERASED, lt))

begun_sector : (mark : Mark) → IsSector (fresh_sector (mark_word mark)) mark []
begun_sector mark = record {
  rest = replicate 65534 ERASED;
  whole = begun_at 65534 (mark_word mark);
  each = no_entries;
  available = λ is. refl;
  erased = all_erased 65534;
}

no_count : IsGuardRow (replicate GUARD_HALFWORDS ERASED) 0
no_count = record { erased = GUARD_HALFWORDS; whole = refl }

zeros_value : (size : ℕ) → size ≡ storage_bytes → IsValue [] (zeros size)
unfolding zeros
zeros_value size is = record {
  size = length-replicate size 0 ∙ is;
  each = λ k lt. get_or-replicate size k 0 0 (omega (arith, is, lt));
}

pub fresh_guard : IsGuardRow fresh_words.guard 0
fresh_guard = no_count

pub fresh_stands : Stands fresh_words fresh_storage
fresh_stands = (
  Both 0 InUse Available [] [],
  record {
    guard = no_count;
    even = refl;
    home_may = search rules;
    other_may = search rules;
    first = begun_sector InUse;
    second = begun_sector Available;
    room = search rules;
  },
  zeros_value storage_bytes refl,
)

-- words of its shape have its sector size
half_size : (n : ℕ) → IsSectorSize n → 65536 ≡ n / 2 → n ≡ SECTOR_BYTES
half_size n (inl is) half = omega (arith, is, half)
half_size n (inr (inl is)) half = omega (arith, is, half)
half_size n (inr (inr (inl is))) half = omega (arith, is, half)
half_size n (inr (inr (inr is))) half = is

begun_length : (mark : ℕ) → length (fresh_sector mark) ≡ 65536
begun_length mark = ap length (begun_at 65534 mark) ∙ ap (λ (n : ℕ). suc (suc n)) (length-replicate 65534 ERASED)

pub fresh_size : (n : ℕ) (w : Words) → w ≡ fresh_words → IsSectorSize n → HasShape n w → n ≡ SECTOR_BYTES
fresh_size n w is known shape =
    let long : length w.s0 ≡ n / 2 = shape S0 in
    half_size n known (sym (begun_length (mark_word InUse)) ∙ ap (λ (v : Words). length v.s0) (sym is) ∙ long)

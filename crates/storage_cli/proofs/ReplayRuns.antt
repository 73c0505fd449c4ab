-- What a script came to over the copy of an image, said of the image.
use Rattle.std.proofs.Common.{◌≡◌, ℕ, List, ◌++◌, sym, subst}
use Rattle.flash_traits.specs.Words.{Words}
use Rattle.flash_traits.specs.Budget.{budget_of}
use Rattle.sector_image.specs.Stands.{Stands}
use Rattle.script_board.specs.Image.{words_of}
use Rattle.replay.specs.declared.Stop as script
use Rattle.script_replay.specs.Replays.{ReplaysWhole, ReplaysPart}
use Rattle.storage_cli.specs.Steps.Replaying.{HasPart}

-- `copy` are the bytes of the copy, and `size` the sector size of the board, which tells the same
module _ (told : Type 0) (words : Words) (copy : List ℕ) (size sector_bytes : ℕ) (is_size : sector_bytes ≡ size) (copied : told → words_of size copy ≡ words) (stands : told → (bytes : List ℕ) × Stands words bytes)
    (rest_before rest_now written_before written_now : List ℕ) where
  same_words : told → words_of sector_bytes copy ≡ words
  same_words t = subst (λ (n : ℕ). words_of n copy ≡ words) (sym is_size) (copied t)

  -- the copy stands for the bytes of the image
  copy_stands : (t : told) → Stands (words_of sector_bytes copy) (stands t).0
  copy_stands t = subst (λ (w : Words). Stands w (stands t).0) (sym (same_words t)) (stands t).1

  pub whole_run : (digest : List ℕ) → told
      → ((b : List ℕ) → Stands (words_of sector_bytes copy) b → (text : List ℕ) × (written_now ≡ written_before ++ text) × ReplaysWhole (budget_of sector_bytes) (words_of sector_bytes copy) rest_before rest_now text digest)
      → (text : List ℕ) × (written_now ≡ written_before ++ text) × ReplaysWhole (budget_of size) words rest_before rest_now text digest
  whole_run digest t run =
      let r = run (stands t).0 (copy_stands t) in (
        r.0,
        r.1,
        subst (λ (w : Words). ReplaysWhole (budget_of size) w rest_before rest_now r.0 digest) (same_words t)
            (subst (λ (n : ℕ). ReplaysWhole (budget_of n) (words_of sector_bytes copy) rest_before rest_now r.0 digest) is_size r.2),
      )

  pub part_run : (why : script.Stop) → told
      → ((b : List ℕ) → Stands (words_of sector_bytes copy) b → (text : List ℕ) × (written_now ≡ written_before ++ text) × ReplaysPart (budget_of sector_bytes) (words_of sector_bytes copy) rest_before rest_now text why)
      → HasPart (budget_of size) words rest_before rest_now written_before written_now why
  part_run why t run =
      let r = run (stands t).0 (copy_stands t) in record {
        text = r.0;
        written = r.1;
        part = subst (λ (w : Words). ReplaysPart (budget_of size) w rest_before rest_now r.0 why) (same_words t)
            (subst (λ (n : ℕ). ReplaysPart (budget_of n) (words_of sector_bytes copy) rest_before rest_now r.0 why) is_size r.2);
      }

  pub no_foreign : told → ((b : List ℕ) → Stands (words_of sector_bytes copy) b → ⊥) → ⊥
  no_foreign t never = never (stands t).0 (copy_stands t)

-- What a call has written to a sink.
use Rattle.std.specs.Prelude.{◌≡◌, ℕ, ◌++◌, take, List}

-- one of these texts is written after what was there
pub record WritesOne (IsText : List ℕ → Type 0) (old new : List ℕ) : Type 0 where
  pub text : List ℕ
  pub is_text : IsText text
  pub written : new ≡ old ++ text

-- of each of these texts at most a prefix is written, and nothing else
abbrev pub WritesPrefix : (List ℕ → Type 0) → List ℕ → List ℕ → Type 0
WritesPrefix IsText old new = (text : List ℕ) → IsText text
    → (count : ℕ) × (new ≡ old ++ take count text)

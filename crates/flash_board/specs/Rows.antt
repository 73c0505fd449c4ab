-- A list of halfwords in memory, with its room.
use Rattle.std.specs.Prelude.{ℕ, ◌≤◌, List, [], ◌∷◌, length, Vec, vec_capacity}
use Rattle.std.specs.declared.alloc.Global.{Global}

-- at most n halfwords, in room for n, so that no call takes memory
pub record HasRoomFor (halfwords : Vec ℕ Global) (n : ℕ) : Type 0 where
  pub size : length halfwords.items ≤ n
  pub room : n ≤ vec_capacity halfwords

-- FFFF at the odd offsets
abbrev pub half_set : List ℕ → List ℕ
half_set [] = []
half_set (x ∷ []) = x ∷ []
half_set (x ∷ y ∷ rest) = x ∷ 65535 ∷ half_set rest

-- The stops of a script, as the command tells them: status, line, and when each comes.
use Rattle.std.proofs.Common.{◌≡◌, ◌⊎◌, inl, inr, ℕ, refl, subst, arith, Result, Ok, Err}
use Rattle.replay.specs.Breaks.{OnForeign, OnInput}
use Rattle.replay.specs.declared.Stop as script
use Rattle.replay.specs.declared.Stop.TheVariants as script_stop
use Rattle.storage_cli.specs.declared.stop.Stop.{Stop}
use Rattle.storage_cli.specs.declared.stop.Stop.TheVariants as stop
use Rattle.storage_cli.specs.declared.replaying.Replayed.{Replayed}
use Rattle.storage_cli.specs.declared.replaying.Replayed.TheVariants as replayed
use Rattle.storage_cli.specs.Replays.{status_of_script, line_of_script}
use Rattle.storage_cli.specs.Steps.Stops.{status_of_stop, line_of_stop}
use Rattle.storage_cli.specs.Steps.Replaying.{ending_of, IsEarly}

never_ok : (r : Replayed) (a : Stop) → (let x : Result Replayed Stop = Ok r in x ≡ Err a) → ⊥
never_ok r a e = cc

-- the status and the line of a stop are those of the script's
at_one : (P : Stop → Type 0) (a b : Stop) → (let x : Result Replayed Stop = Err a in x ≡ Err b) → P a → P b
at_one P a b e p = subst P (one a b e) p
  where
    one : (a b : Stop) → (let x : Result Replayed Stop = Err a in x ≡ Err b) → a ≡ b
    one a b e = cc

pub ending_status : (s : script.Stop) (why : Stop) → ending_of s ≡ Err why → status_of_stop why ≡ status_of_script s
ending_status script_stop.Memory why is = at_one (λ w. status_of_stop w ≡ 2) stop.Memory why is refl
ending_status (script_stop.Foreign region offset word) why is = at_one (λ w. status_of_stop w ≡ 3) (stop.Foreign (record { region = region; offset = offset; word = word })) why is refl
ending_status (script_stop.Worn count) why is = at_one (λ w. status_of_stop w ≡ 7) stop.Worn why is refl
ending_status (script_stop.Refused line) why is = at_one (λ w. status_of_stop w ≡ 11) (stop.Script line) why is refl
ending_status script_stop.Input why is = at_one (λ w. status_of_stop w ≡ 9) stop.Input why is refl
ending_status script_stop.Output why is = absurd (never_ok replayed.Prefix why is)

pub ending_line : (s : script.Stop) (why : Stop) → ending_of s ≡ Err why → line_of_stop why ≡ line_of_script s
ending_line script_stop.Memory why is = at_one (λ w. line_of_stop w ≡ line_of_script script_stop.Memory) stop.Memory why is refl
ending_line (script_stop.Foreign region offset word) why is =
    at_one (λ w. line_of_stop w ≡ line_of_script (script_stop.Foreign region offset word)) (stop.Foreign (record { region = region; offset = offset; word = word })) why is refl
ending_line (script_stop.Worn count) why is = at_one (λ w. line_of_stop w ≡ line_of_script (script_stop.Worn count)) stop.Worn why is refl
ending_line (script_stop.Refused line) why is = at_one (λ w. line_of_stop w ≡ line_of_script (script_stop.Refused line)) (stop.Script line) why is refl
ending_line script_stop.Input why is = at_one (λ w. line_of_stop w ≡ line_of_script script_stop.Input) stop.Input why is refl
ending_line script_stop.Output why is = absurd (never_ok replayed.Prefix why is)

-- a foreign halfword that the script met, and a failed read of the input
pub foreign_at : (s : script.Stop) (P : Type 0) → OnForeign (λ place. P) s → status_of_script s ≡ 3 → P
foreign_at script_stop.Memory P p e = absurd (omega (arith, e))
foreign_at (script_stop.Foreign region offset word) P p e = p
foreign_at (script_stop.Worn count) P p e = absurd (omega (arith, e))
foreign_at (script_stop.Refused line) P p e = absurd (omega (arith, e))
foreign_at script_stop.Input P p e = absurd (omega (arith, e))
foreign_at script_stop.Output P p e = absurd (omega (arith, e))

pub input_at : (s : script.Stop) (P : Type 0) → OnInput P s → status_of_script s ≡ 9 → P
input_at script_stop.Memory P p e = absurd (omega (arith, e))
input_at (script_stop.Foreign region offset word) P p e = absurd (omega (arith, e))
input_at (script_stop.Worn count) P p e = absurd (omega (arith, e))
input_at (script_stop.Refused line) P p e = absurd (omega (arith, e))
input_at script_stop.Input P p e = p
input_at script_stop.Output P p e = absurd (omega (arith, e))

-- no script stops at a failed read or attach of the board
pub never_at : (s : script.Stop) (n : ℕ) → (n ≡ 4) ⊎ (n ≡ 13) → status_of_script s ≡ n → ⊥
never_at script_stop.Memory n is e = omega (arith, is, e)
never_at (script_stop.Foreign region offset word) n is e = omega (arith, is, e)
never_at (script_stop.Worn count) n is e = omega (arith, is, e)
never_at (script_stop.Refused line) n is e = omega (arith, is, e)
never_at script_stop.Input n is e = omega (arith, is, e)
never_at script_stop.Output n is e = omega (arith, is, e)

-- before the script no other stop than these comes
pub early_status : (why : Stop) → IsEarly why → (status_of_stop why ≡ 2) ⊎ (status_of_stop why ≡ 3) ⊎ (status_of_stop why ≡ 4) ⊎ (status_of_stop why ≡ 13)
early_status stop.Memory early = inl refl
early_status (stop.Foreign found) early = inr (inl refl)
early_status stop.Read early = inr (inr (inl refl))
early_status stop.Attach early = inr (inr (inr refl))
early_status _ early = absurd early

pub inside_status : (s : script.Stop) (why : Stop) → ending_of s ≡ Err why → (status_of_script s ≡ 2) ⊎ (status_of_script s ≡ 3) ⊎ (status_of_script s ≡ 7) ⊎ (status_of_script s ≡ 9) ⊎ (status_of_script s ≡ 11)
inside_status script_stop.Memory why is = inl refl
inside_status (script_stop.Foreign region offset word) why is = inr (inl refl)
inside_status (script_stop.Worn count) why is = inr (inr (inl refl))
inside_status script_stop.Input why is = inr (inr (inr (inl refl)))
inside_status (script_stop.Refused line) why is = inr (inr (inr (inr refl)))
inside_status script_stop.Output why is = absurd (never_ok replayed.Prefix why is)

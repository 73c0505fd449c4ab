-- What holds by why a replay stopped.
use Rattle.std.proofs.Common.{◌≡◌, ◌≢◌, ℕ, Result, Ok, Err, sym, ◌∙◌, ap, subst}
use Rattle.sector_image.specs.FirstBad.{Place, foreign_place}
use Rattle.replay.specs.Breaks.{OnStopped, OnForeign, OnWorn, OnRefused, BetweenEvents, counted_at}
use Rattle.replay.specs.declared.Stop.{Stop}
use Rattle.replay.specs.declared.Stop.TheVariants as stop
use Rattle.replay.specs.declared.Break.{Break}
use Rattle.replay.specs.declared.Break.TheVariants.{Lost, Stopped}

pub stopped_by : (P : Stop → Type 0) (how : Break) (why : Stop) → how ≡ Stopped why → OnStopped P how → P why
stopped_by P how why is on = subst (OnStopped P) is on

pub foreign_map : {P Q : Place → Type 0} (why : Stop) → ((place : Place) → P place → Q place) → OnForeign P why → OnForeign Q why
foreign_map (stop.Foreign region offset word) f is = f (foreign_place region offset word) is
foreign_map stop.Memory f is = tt
foreign_map (stop.Worn count) f is = tt
foreign_map (stop.Refused line) f is = tt
foreign_map stop.Input f is = tt
foreign_map stop.Output f is = tt

pub worn_map : {P Q : ℕ → Type 0} (why : Stop) → ((count : ℕ) → P count → Q count) → OnWorn P why → OnWorn Q why
worn_map (stop.Worn count) f is = f count is
worn_map stop.Memory f is = tt
worn_map (stop.Foreign region offset word) f is = tt
worn_map (stop.Refused line) f is = tt
worn_map stop.Input f is = tt
worn_map stop.Output f is = tt

pub worn_in : {P Q : ℕ → Type 0} (how : Break) → ((count : ℕ) → P count → Q count) → OnStopped (OnWorn P) how → OnStopped (OnWorn Q) how
worn_in Lost f is = tt
worn_in (Stopped why) f is = worn_map why f is

pub refused_map : {P Q : ℕ → Type 0} (why : Stop) → ((line : ℕ) → P line → Q line) → OnRefused P why → OnRefused Q why
refused_map (stop.Refused line) f is = f line is
refused_map stop.Memory f is = tt
refused_map (stop.Foreign region offset word) f is = tt
refused_map (stop.Worn count) f is = tt
refused_map stop.Input f is = tt
refused_map stop.Output f is = tt

pub between_map : {P Q : Type 0} (why : Stop) → (P → Q) → BetweenEvents P why → BetweenEvents Q why
between_map (stop.Refused line) f is = f is
between_map stop.Input f is = f is
between_map stop.Memory f is = tt
between_map (stop.Foreign region offset word) f is = tt
between_map (stop.Worn count) f is = tt
between_map stop.Output f is = tt

pub between_all : {P : Type 0} (why : Stop) → P → BetweenEvents P why
between_all (stop.Refused line) is = is
between_all stop.Input is = is
between_all stop.Memory is = tt
between_all (stop.Foreign region offset word) is = tt
between_all (stop.Worn count) is = tt
between_all stop.Output is = tt

-- a count, by how it broke off
pub lost_counts : (counted : Stop → ℕ → ℕ) (how : Break) (before now : ℕ) → how ≡ Lost → now ≡ counted_at counted how before → now ≡ before
lost_counts counted how before now is counts = counts ∙ ap (λ (h : Break). counted_at counted h before) is

pub stopped_counts : (counted : Stop → ℕ → ℕ) (how : Break) (why : Stop) (before now : ℕ) → how ≡ Stopped why → now ≡ counted_at counted how before → now ≡ counted why before
stopped_counts counted how why before now is counts = counts ∙ ap (λ (h : Break). counted_at counted h before) is

-- the sink didn't fail
abbrev pub NotOutput : {T : Type 0} → Result T Break → Type 0
NotOutput r = r ≢ Err (Stopped stop.Output)

pub ok_otherwise : {T : Type 0} (t : T) → NotOutput (Ok t)
ok_otherwise t is = cc

same_how : {T : Type 0} (how : Break) → (let r : Result T Break = Err how in r) ≡ Err (Stopped stop.Output) → how ≡ Stopped stop.Output
same_how how is = cc

not_lost : Lost ≡ Stopped stop.Output → ⊥
not_lost is = cc

same_stop : (why : Stop) → Stopped why ≡ Stopped stop.Output → why ≡ stop.Output
same_stop why is = cc

pub err_otherwise : {T U : Type 0} (how : Break) → NotOutput {T = U} (Err how) → NotOutput {T = T} (Err how)
err_otherwise {T} {U} how other is = other (ap (λ (h : Break). let r : Result U Break = Err h in r) (same_how {T = T} how is))

pub lost_otherwise : {T : Type 0} (how : Break) → how ≡ Lost → NotOutput {T = T} (Err how)
lost_otherwise {T} how lost is = not_lost (sym lost ∙ same_how {T = T} how is)

pub stopped_otherwise : {T U : Type 0} (how : Break) (why : Stop) → how ≡ Stopped why → (let r : Result U Stop = Err why in r ≢ Err stop.Output) → NotOutput {T = T} (Err how)
stopped_otherwise {T} {U} how why stopped other is = other (ap (λ (w : Stop). let r : Result U Stop = Err w in r) (same_stop why (sym stopped ∙ same_how {T = T} how is)))

-- Counts of faults, one call after the other.
use Rattle.std.proofs.Common.{◌≡◌, ◌≤◌, ℕ, refl, sym, ◌∙◌, ap, subst, arith}
use Rattle.std.specs.Prelude.{Bool, true, false, if◌then◌else◌, Option, Some, None, max}
use Rattle.flash_traits.specs.Counts.{counts, raised}
use Rattle.flash_traits.specs.declared.board.Fault.{Fault}
use Rattle.flash_traits.specs.declared.board.Fault.TheVariants.{Attach, Read, Flash, Recv, Send}
use Rattle.flash_traits.specs.Causes.{Rose, counts_by_kind, is_kind, raised_at, counts_after}

-- counts that agree at each kind are the same
each_kind : (f g : Fault → ℕ) → f Attach ≡ g Attach → f Read ≡ g Read → f Flash ≡ g Flash → f Recv ≡ g Recv → f Send ≡ g Send → (k : Fault) → f k ≡ g k
each_kind f g a r p v s Attach = a
each_kind f g a r p v s Read = r
each_kind f g a r p v s Flash = p
each_kind f g a r p v s Recv = v
each_kind f g a r p v s Send = s

-- functions that agree everywhere are the same
by_points : (f g : Fault → ℕ) → ((k : Fault) → f k ≡ g k) → f ≡ g
by_points f g same = λ i k. same k i

pub by_kind : (f g : Fault → ℕ) → f Attach ≡ g Attach → f Read ≡ g Read → f Flash ≡ g Flash → f Recv ≡ g Recv → f Send ≡ g Send → f ≡ g
by_kind f g a r p v s = by_points f g (each_kind f g a r p v s)

-- five counts, of which one rises
pub raised_attach : (a r p v s n : ℕ) → n ≡ raised a → counts_by_kind n r p v s ≡ raised_at Attach (counts_by_kind a r p v s)
raised_attach a r p v s n is = by_kind _ _ is refl refl refl refl

pub raised_read : (a r p v s n : ℕ) → n ≡ raised r → counts_by_kind a n p v s ≡ raised_at Read (counts_by_kind a r p v s)
raised_read a r p v s n is = by_kind _ _ refl is refl refl refl

pub raised_flash : (a r p v s n : ℕ) → n ≡ raised p → counts_by_kind a r n v s ≡ raised_at Flash (counts_by_kind a r p v s)
raised_flash a r p v s n is = by_kind _ _ refl refl is refl refl

pub raised_recv : (a r p v s n : ℕ) → n ≡ raised v → counts_by_kind a r p n s ≡ raised_at Recv (counts_by_kind a r p v s)
raised_recv a r p v s n is = by_kind _ _ refl refl refl is refl

pub raised_send : (a r p v s n : ℕ) → n ≡ raised s → counts_by_kind a r p v n ≡ raised_at Send (counts_by_kind a r p v s)
raised_send a r p v s n is = by_kind _ _ refl refl refl refl is

-- no count falls
chosen_later : (n : ℕ) (c : Bool) → n ≤ (if c then raised n else n)
chosen_later n true = omega arith
chosen_later n false = omega arith

pub counts_later : (told : Option Fault) (before : Fault → ℕ) (k : Fault) → before k ≤ counts_after told before k
counts_later None before k = omega arith
counts_later (Some kind) before k = chosen_later (before k) (is_kind kind k)

-- the count of the kind that is told rose
pub counts_rise : (kind : Fault) (before : Fault → ℕ) → Rose (before kind) (raised_at kind before kind)
counts_rise Attach before = omega arith
counts_rise Read before = omega arith
counts_rise Flash before = omega arith
counts_rise Recv before = omega arith
counts_rise Send before = omega arith

-- counts that stand at their end stay there
ended_at : (n : ℕ) (c : Bool) → n ≡ raised n → n ≡ (if c then raised n else n)
ended_at n true ended = ended
ended_at n false ended = refl

pub raised_at_end : (kind : Fault) (before : Fault → ℕ) → ((k : Fault) → before k ≡ raised (before k)) → before ≡ raised_at kind before
raised_at_end kind before ended = by_points _ _ (λ k. ended_at (before k) (is_kind kind k) (ended k))

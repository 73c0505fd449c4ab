-- The unread bytes of a buffer.
use Rattle.std.proofs.Common.{◌≡◌, inl, inr, ℕ, zero, suc, ◌+◌, ◌-◌, ◌≤◌, List, [], ◌∷◌, ◌++◌, length, take, drop, refl, sym, ◌∙◌, ap, subst, arith, length-append, length-drop, append_assoc, append-nil}
use Rattle.std.proofs.Math.Seq.{drop-nil}
use Rattle.script_lines.specs.Script.{ScriptLine, Spells, line_feed}
use Rattle.script_lines.specs.Reading.{unread_of, Finds, FindsLine, FindsLast}
use Rattle.script_lines.specs.declared.reading.Next.{Next}
use Rattle.script_lines.specs.declared.reading.Next.TheVariants.{Line, Last}
use Rattle.script_board.specs.Taking.{IsAhead, HasNoLine}

pub unread_length : (buffer : List ℕ) (ahead : ℕ) → ahead ≤ length buffer → length (unread_of buffer ahead) ≡ ahead
unread_length buffer ahead le = length-drop (length buffer - ahead) buffer ∙ omega (arith, le)

more : (n k : ℕ) → n + suc k ≡ suc (n + k)
more n k = omega arith

drop_drop : (n k : ℕ) (l : List ℕ) → drop (n + k) l ≡ drop n (drop k l)
drop_drop n zero l = ap (λ (m : ℕ). drop m l) (omega arith)
drop_drop n (suc k) [] = drop-nil (n + suc k) ∙ sym (drop-nil n)
drop_drop n (suc k) (x ∷ l) = ap (λ (m : ℕ). drop m (x ∷ l)) (more n k) ∙ drop_drop n k l

-- so many of the unread bytes are taken
pub unread_drop : (buffer : List ℕ) (ahead bytes : ℕ) → bytes ≤ ahead → ahead ≤ length buffer → unread_of buffer (ahead - bytes) ≡ drop bytes (unread_of buffer ahead)
unread_drop buffer ahead bytes few fits =
    let place : length buffer - (ahead - bytes) ≡ bytes + (length buffer - ahead) = omega (arith, few, fits) in
    ap (λ (n : ℕ). drop n buffer) place ∙ drop_drop bytes (length buffer - ahead) buffer

take_first : (text later : List ℕ) → take (length text) (text ++ later) ≡ text
take_first [] later = refl
take_first (t ∷ text) later = ap (λ (l : List ℕ). t ∷ l) (take_first text later)

take_all : (text : List ℕ) → take (length text) text ≡ text
take_all [] = refl
take_all (t ∷ text) = ap (λ (l : List ℕ). t ∷ l) (take_all text)

module _ (unread : List ℕ) (bytes : ℕ) where
  pub line_fits : FindsLine bytes unread → bytes + 1 ≤ length unread
  line_fits f = omega (arith, ap length f.whole, length-append f.text (line_feed ∷ f.later), f.long)

  pub text_is : (f : FindsLine bytes unread) → take bytes unread ≡ f.text
  text_is f = ap (λ (n : ℕ). take n unread) (sym f.long) ∙ ap (take (length f.text)) f.whole ∙ take_first f.text (line_feed ∷ f.later)

  pub last_is : {told : Type 0} {rest : List ℕ} → FindsLast bytes unread told rest → take bytes unread ≡ unread
  last_is f = ap (λ (n : ℕ). take n unread) (sym f.long) ∙ take_all unread

  pub line_ahead : (line : ScriptLine) (told : Type 0) (rest : List ℕ) → FindsLine bytes unread → Spells line (take bytes unread) → IsAhead line (bytes + 1) unread told rest
  line_ahead line told rest f spells = record {
    text = f.text;
    spells = subst (Spells line) (text_is f) spells;
    takes = f.text ++ line_feed ∷ [];
    later = f.later;
    unread_are = f.whole ∙ sym (append_assoc f.text (line_feed ∷ []) f.later);
    long = length-append f.text (line_feed ∷ []) ∙ ap (λ (n : ℕ). n + 1) f.long;
    ends = inl refl;
  }

  pub last_ahead : (line : ScriptLine) (told : Type 0) (rest : List ℕ) → FindsLast bytes unread told rest → Spells line (take bytes unread) → IsAhead line bytes unread told rest
  last_ahead line told rest f spells = record {
    text = unread;
    spells = subst (Spells line) (last_is f) spells;
    takes = unread;
    later = [];
    unread_are = sym (append-nil unread);
    long = f.long;
    ends = inr (refl, refl, f.ended);
  }

  pub no_line : (told : Type 0) (rest : List ℕ) → FindsLine bytes unread → ((line : ScriptLine) → Spells line (take bytes unread) → ⊥) → HasNoLine unread told rest
  no_line told rest f none = inr (inl (f.text, f.later, f.whole, f.no_end, λ line spells. none line (subst (Spells line) (sym (text_is f)) spells)))

  pub no_last : (told : Type 0) (rest : List ℕ) → FindsLast bytes unread told rest → ((line : ScriptLine) → Spells line (take bytes unread) → ⊥) → HasNoLine unread told rest
  no_last told rest f none = inr (inr (inl (λ line spells. none line (subst (Spells line) (sym (last_is f)) spells), f.no_end, f.ended)))

  pub as_line : (next : Next) (told : Type 0) (rest : List ℕ) → next ≡ Line bytes → Finds next unread told rest → FindsLine bytes unread
  as_line next told rest is finds = subst (λ (n : Next). Finds n unread told rest) is finds

  pub as_last : (next : Next) (told : Type 0) (rest : List ℕ) → next ≡ Last bytes → Finds next unread told rest → FindsLast bytes unread told rest
  as_last next told rest is finds = subst (λ (n : Next). Finds n unread told rest) is finds

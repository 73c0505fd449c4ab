-- Writes that keep the mission, or empty it.
use Rattle.std.proofs.Common.{◌≡◌, inl, inr, ℕ, List, [], ◌++◌, take, sym, ◌∙◌, subst, refl}
use Rattle.storage_lines.specs.declared.lines.LineWrite.{LineWrite}
use Rattle.storage_lines.specs.Lines.{after, EachPrefix}
use Rattle.storage_lines.proofs.LineLemmas.{after-append}
use Rattle.storage_lines.proofs.PrefixLemmas.{prefix_append, prefix_nil}
use Rattle.mission_records.specs.Mission.{mission_of}
use Rattle.mission_records.specs.Steps.{IsFormatted, IsTotalInOneLine, HasVersion, StaysFormatted, IsOneOf, KeepsMission, Clears}
use Rattle.mission_records.proofs.Totals.{all_writes}

-- After each prefix of the writes the mission is the old one or empty.
pub record Empties (old : List ℕ) (writes : List LineWrite) : Type 0 where
  pub stays : EachPrefix (StaysFormatted old) old writes
  pub each : IsTotalInOneLine old → EachPrefix (IsOneOf (mission_of old) []) old writes

pub keeps_none : (b : List ℕ) → IsFormatted b → KeepsMission b []
keeps_none b f = record {
  stays = prefix_nil (StaysFormatted b) b (record { formatted = f; one_line = λ t. t });
  same = prefix_nil (λ now. mission_of now ≡ mission_of b) b refl;
  versioned = λ v. v;
}

pub keeps_empties : (b : List ℕ) (ws : List LineWrite) → KeepsMission b ws → Empties b ws
keeps_empties b ws k = record { stays = k.stays; each = λ t j h. inl (k.same j h) }

pub clears_empties : (b : List ℕ) (ws : List LineWrite) → Clears b ws → Empties b ws
clears_empties b ws c = record { stays = c.stays; each = c.each }

-- after all writes the bytes are formatted
pub formatted_then : (b : List ℕ) (ws : List LineWrite) → EachPrefix (StaysFormatted b) b ws → IsFormatted (after b ws)
formatted_then b ws h = (all_writes (StaysFormatted b) b ws h).formatted

pub then_stays : (a b c : List ℕ) → StaysFormatted a b → StaysFormatted b c → StaysFormatted a c
then_stays a b c x y = record { formatted = y.formatted; one_line = λ t. y.one_line (x.one_line t) }

pub empties_then : (b : List ℕ) (xs ys : List LineWrite) → Empties b xs → Empties (after b xs) ys → Empties b (xs ++ ys)
empties_then b xs ys x y =
    let mid = after b xs in
    let at_mid : StaysFormatted b mid = all_writes (StaysFormatted b) b xs x.stays in
    let P : List ℕ → Type 0 = IsOneOf (mission_of b) [] in
    record {
      stays = prefix_append (StaysFormatted b) b xs ys x.stays (λ j h. then_stays b mid (after mid (take j ys)) at_mid (y.stays j h));
      each = λ t. prefix_append P b xs ys (x.each t)
          (λ j h. elim (y.each (at_mid.one_line t) j h) [
            | inl same ↦ elim (all_writes P b xs (x.each t)) [
              | inl old ↦ inl (same ∙ old)
              | inr none ↦ inr (same ∙ none)
            ]
            | inr none ↦ inr none
          ]);
    }

pub keeps_then : (b : List ℕ) (xs ys : List LineWrite) → KeepsMission b xs → KeepsMission (after b xs) ys → KeepsMission b (xs ++ ys)
keeps_then b xs ys x y =
    let mid = after b xs in
    let at_mid : StaysFormatted b mid = all_writes (StaysFormatted b) b xs x.stays in
    let same : mission_of mid ≡ mission_of b = all_writes (λ (now : List ℕ). mission_of now ≡ mission_of b) b xs x.same in
    record {
      stays = prefix_append (StaysFormatted b) b xs ys x.stays (λ j h. then_stays b mid (after mid (take j ys)) at_mid (y.stays j h));
      same = prefix_append (λ now. mission_of now ≡ mission_of b) b xs ys x.same (λ j h. y.same j h ∙ same);
      versioned = λ v. subst HasVersion (sym (after-append b xs ys)) (y.versioned (x.versioned v));
    }

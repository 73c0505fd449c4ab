use Rattle.std.proofs.Common.{◌≡◌, ℕ, ◌/◌, List, length, get_or, take, drop, Option, Ok, sym, ◌∙◌, ap, subst, arith}
use Rattle.std.specs.Prelude.{All, IsTrue, Result}
use Rattle.std.proofs.lemmas.List.{take_at}
use Rattle.flash_traits.specs.declared.board.Mark.{Mark}
use Rattle.flash_traits.specs.Words.{halfwords_of}
use Rattle.flash_traits.specs.Values.{IsValueUpTo}
use Rattle.sector_log.specs.Bytes.{written_lines}
use Rattle.legacy_image.specs.declared.numbers.TheConstants.{LEGACY_BYTES}
use Rattle.legacy_image.specs.Sizes.{IsLegacyLength, sector_0, sector_1}
use Rattle.legacy_image.specs.Heads.{head_of, head_in, is_pair}
use Rattle.legacy_image.specs.Logs.{HasEntries}
use Rattle.legacy_image.specs.Legacy.{IsLegacy, in_order}
use Rattle.legacy_image.specs.Steps.{AreRead}
use Rattle.legacy_image.proofs.Determined.{each_legacy, each_in_order}
use Rattle.legacy_image.proofs.Values.{value_applied}
use Rattle.legacy_image.proofs.reading.import.Goals as goal

head_is : (words : List ℕ) (v w : ℕ) (r : Result (Option Mark) ℕ) (h : Option Mark) → v ≡ get_or words 0 0 → w ≡ get_or words 1 0 → r ≡ head_of v w → r ≡ Ok h → head_in words ≡ Ok h
head_is words v w r h p q made is = sym (ap (λ (x : ℕ). head_of x w) p ∙ ap (λ (y : ℕ). head_of (get_or words 0 0) y) q) ∙ sym made ∙ is

legacy : (input first second before after : List ℕ) (a b : Option Mark) → IsLegacyLength (length input) → first ≡ take (length input / 2) input → second ≡ drop (length input / 2) input
    → head_in (halfwords_of first) ≡ Ok a → head_in (halfwords_of second) ≡ Ok b → IsTrue (is_pair a b) → AreRead a b (halfwords_of first) (halfwords_of second) before after
    → length before ≡ LEGACY_BYTES → All (λ b. b ≡ 0) before → IsLegacy input after
legacy input first second before after a b size p q head_a head_b pair r long zeros =
    let first_is : halfwords_of first ≡ sector_0 input = ap halfwords_of p in
    let second_is : halfwords_of second ≡ sector_1 input = ap halfwords_of q in
    let log_0 : HasEntries a (sector_0 input) r.entries_0 = subst (λ w. HasEntries a w r.entries_0) first_is r.log_0 in
    let log_1 : HasEntries b (sector_1 input) r.entries_1 = subst (λ w. HasEntries b w r.entries_1) second_is r.log_1 in
    let es = in_order b r.entries_0 r.entries_1 in
    record {
      a = a;
      b = b;
      heads = record { size = size; first = sym (ap head_in first_is) ∙ head_a; second = sym (ap head_in second_is) ∙ head_b; pair = pair };
      entries_0 = r.entries_0;
      entries_1 = r.entries_1;
      log_0 = log_0;
      log_1 = log_1;
      value = subst (λ l. IsValueUpTo LEGACY_BYTES (written_lines es) l) (sym r.bytes)
          (value_applied es before (each_in_order b r.entries_0 r.entries_1 (each_legacy a (sector_0 input) r.entries_0 log_0) (each_legacy b (sector_1 input) r.entries_1 log_1)) long zeros);
    }

pub returns-clause-ok : goal.returns-clause-ok
returns-clause-ok c =
    let input = c.args.bytes.now in
    let a = c.in-Ok.head in
    let b = c.in-Ok-head_of.head in
    let zeros = c.in-Ok-zeros.zeros in
    let new = c.read_both.new.into in
    let size : IsLegacyLength (length input) = c.is_legacy_length.ensures.0 c.if-not-is_legacy_length.false in
    let pair : IsTrue (is_pair a b) = subst IsTrue c.is_pair.ensures c.if-not-is_pair.false in
    let read : AreRead a b (halfwords_of c.split_at.result.0.now) (halfwords_of c.split_at.result.1.now) c.deref_mut.result.now new = c.in_ok-read_both.ensures.ok in
    let head_a = head_is (halfwords_of c.split_at.result.0.now) c.word_at.result c.word_at-2.result c.head_of.result a c.word_at.ensures c.word_at-2.ensures c.head_of.ensures c.in-Ok.is in
    let head_b = head_is (halfwords_of c.split_at.result.1.now) c.word_at-3.result c.word_at-4.result c.head_of-2.result b c.word_at-3.ensures c.word_at-4.ensures c.head_of-2.ensures c.in-Ok-head_of.is in
    let items : List ℕ = zeros.items in
    let long : length c.deref_mut.result.now ≡ LEGACY_BYTES = ap length c.deref_mut.ensures.value ∙ c.in-Ok-zeros.ensures.size in
    let all : All (λ b. b ≡ 0) c.deref_mut.result.now = subst (λ l. All (λ b. b ≡ 0) l) (sym c.deref_mut.ensures.value) c.in-Ok-zeros.ensures.zeros in
    let kept : length new ≡ zeros.len = omega (arith, c.read_both.auto.into, c.deref_mut.ensures.len) in
    subst (λ l. IsLegacy input l) (sym (take_at new (drop (length new) items) zeros.len kept))
    (legacy input c.split_at.result.0.now c.split_at.result.1.now c.deref_mut.result.now new a b size c.split_at.ensures.front c.split_at.ensures.back head_a head_b pair read long all)

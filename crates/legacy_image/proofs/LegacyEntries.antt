-- Which lists begin with an entry of a legacy image, and that a list has one splitting into entries and a rest.
use Rattle.std.proofs.Common.{◌≡◌, ◌≢◌, Bool, true, false, eq-eqb, ℕ, zero, suc, ◌+◌, ◌-◌, ◌*◌, ◌/◌, ◌<◌, ◌≤◌, List, [], ◌∷◌, ◌++◌, length, get_or, take, drop, replicate, refl, sym, ◌∙◌, ap, subst, arith, append_assoc, append-nil}
use Rattle.std.specs.Prelude.{All, if◌then◌else◌, ◌==◌}
use Rattle.std.proofs.lemmas.List.{length-append, length-drop}
use Rattle.std.proofs.lemmas.List.Elements.{All-head, All-tail, All-nil, All-cons, All-push}
use Rattle.std.proofs.lemmas.List.Sums.{fold-append}
use Rattle.sector_log.specs.declared.header.Header.{Header}
use Rattle.sector_log.specs.Header.{header_word, IsLawful}
use Rattle.sector_log.specs.Entries.{Entry, IsEntry, entry_words, words_of_entries}
use Rattle.sector_log.specs.Bytes.{apply}
use Rattle.sector_log.proofs.EntryLemmas.{same_header, same_entry}
use Rattle.sector_log.proofs.LogLemmas.{front, entry_at, is_entry, entry_here}
use Rattle.sector_log.proofs.BytesLemmas.{length_halfwords}
use Rattle.flash_traits.specs.Values.{put}
use Rattle.flash_traits.specs.Words.{bytes_of, halfwords_of}
use Rattle.sector_log.proofs.Pushes.{spelling_push}
use Rattle.sector_log.proofs.SectorLemmas.{one_other, erased_no_other}
use Rattle.legacy_image.specs.declared.numbers.TheConstants.{LEGACY_LINES}
use Rattle.legacy_image.specs.Logs.{IsLegacyEntry, NoLegacyEntry, IsLog, FailsAt}
use Rattle.legacy_image.specs.Steps.{AddsEntry, BadHere, Walked, IsFirstOther, IsHeaderAt}
use Rattle.legacy_image.proofs.Words.{part-back}

abbrev pub Erased : List ℕ → Type 0
Erased words = All (λ word. word ≡ 65535) words

pub no_entry_nil : NoLegacyEntry []
no_entry_nil e more p same = cc

-- a halfword that is the header of no entry of a legacy image
pub no_entry_word : (word : ℕ) (words : List ℕ) → ((h : Header) → IsLawful h → h.line + h.lines ≤ LEGACY_LINES → header_word h ≡ word → ⊥) → NoLegacyEntry (word ∷ words)
no_entry_word word words none e more p same = let head : header_word e.header ≡ word = cc in none e.header p.entry.lawful p.inside head

pub no_entry_erased : (words : List ℕ) → NoLegacyEntry (65535 ∷ words)
no_entry_erased words = no_entry_word 65535 words (λ h p i same. let known = p.known in let most = p.most in omega arith)

pub no_entry_all_erased : (words : List ℕ) → Erased words → NoLegacyEntry words
no_entry_all_erased [] h = no_entry_nil
no_entry_all_erased (w ∷ words) h = subst (λ v. NoLegacyEntry (v ∷ words)) (sym (All-head (λ (v : ℕ). v ≡ 65535) w words h)) (no_entry_erased words)

-- a lawful header whose lines a legacy image doesn't have
pub no_entry_outside : (g : Header) (words : List ℕ) → IsLawful g → LEGACY_LINES < g.line + g.lines → NoLegacyEntry (header_word g ∷ words)
no_entry_outside g words lawful outside = no_entry_word (header_word g) words (λ h p i same.
    let header : h ≡ g = same_header h g p lawful same in
    let line : h.line ≡ g.line = ap (λ (x : Header). x.line) header in
    let lines : h.lines ≡ g.lines = ap (λ (x : Header). x.lines) header in
    omega arith)

-- an entry that doesn't fit
pub no_entry_short : (h : Header) (words : List ℕ) → IsLawful h → length words < 4 * h.lines → NoLegacyEntry (header_word h ∷ words)
no_entry_short h words lawful short e more p same =
    let heads : header_word h ≡ header_word e.header = cc in
    let tails : words ≡ e.content ++ more = cc in
    let header : h ≡ e.header = same_header h e.header lawful p.entry.lawful heads in
    let lines : h.lines ≡ e.header.lines = ap (λ (g : Header). g.lines) header in
    omega (arith, p.entry.whole, ap length tails ∙ length-append e.content more)

-- a list has one splitting into entries and a rest that begins with none
pub one_split : (es fs : List Entry) (x y : List ℕ) → All IsLegacyEntry es → All IsLegacyEntry fs → NoLegacyEntry x → NoLegacyEntry y → words_of_entries es ++ x ≡ words_of_entries fs ++ y → (es ≡ fs) × (x ≡ y)
one_split [] [] x y p q nx ny same = (refl, same)
one_split [] (f ∷ fs) x y p q nx ny same = absurd (nx f (words_of_entries fs ++ y) (All-head IsLegacyEntry f fs q) (same ∙ append_assoc (entry_words f) (words_of_entries fs) y))
one_split (e ∷ es) [] x y p q nx ny same = absurd (ny e (words_of_entries es ++ x) (All-head IsLegacyEntry e es p) (sym same ∙ append_assoc (entry_words e) (words_of_entries es) x))
one_split (e ∷ es) (f ∷ fs) x y p q nx ny same =
    let first = same_entry e f (words_of_entries es ++ x) (words_of_entries fs ++ y) (All-head IsLegacyEntry e es p).entry (All-head IsLegacyEntry f fs q).entry
    (sym (append_assoc (entry_words e) (words_of_entries es) x) ∙ same ∙ append_assoc (entry_words f) (words_of_entries fs) y) in
    let others = one_split es fs x y (All-tail IsLegacyEntry e es p) (All-tail IsLegacyEntry f fs q) nx ny first.1 in
    let head : e ≡ f = first.0 in
    let tail : es ≡ fs = others.0 in
    let all : e ∷ es ≡ f ∷ fs = cc in
    (all, others.1)

-- the entries of a log are determined
pub one_log : (words : List ℕ) (es fs : List Entry) → IsLog words es → IsLog words fs → es ≡ fs
one_log words es fs p q = (one_split es fs p.rest q.rest p.each q.each (no_entry_all_erased p.rest p.erased) (no_entry_all_erased q.rest q.erased) (sym p.whole ∙ q.whole)).0

-- a log doesn't fail
pub no_failure : (words : List ℕ) (es : List Entry) (place word : ℕ) → IsLog words es → FailsAt words place word → ⊥
no_failure words es place word s b =
    let parts = one_split es b.entries s.rest b.rest s.each b.each (no_entry_all_erased s.rest s.erased) b.last (sym s.whole ∙ b.whole) in
    erased_no_other s.rest b.other.more b.erased word s.erased (parts.1 ∙ b.other.at) b.other.other

-- the first failing place is determined
pub one_failure : (words : List ℕ) (p q v w : ℕ) → FailsAt words p v → FailsAt words q w → (p ≡ q) × (v ≡ w)
one_failure words p q v w a b =
    let parts = one_split a.entries b.entries a.rest b.rest a.each b.each a.last b.last (sym a.whole ∙ b.whole) in
    let others = one_other b.rest a.other.more b.other.more a.erased b.erased v w (sym parts.1 ∙ a.other.at) a.other.other b.other.at b.other.other in
    let sizes : length (words_of_entries a.entries) ≡ length (words_of_entries b.entries) = ap (λ (l : List Entry). length (words_of_entries l)) parts.0 in
    (a.at ∙ (omega (arith, sizes, others.0)) ∙ sym b.at, others.1)

-- a halfword that begins an entry past the last line, or one that doesn't fit
pub bad_outside : (words : List ℕ) (at word : ℕ) (h : Header) → at < length words → word ≡ get_or words at 0 → IsLawful h → header_word h ≡ word → LEGACY_LINES < h.line + h.lines → NoLegacyEntry (drop at words)
bad_outside words at word h within is lawful spelled outside =
    subst NoLegacyEntry (sym (front words at (header_word h) within (spelled ∙ is))) (no_entry_outside h (drop (at + 1) words) lawful outside)

pub bad_short : (words : List ℕ) (at word : ℕ) (h : Header) → at < length words → word ≡ get_or words at 0 → IsLawful h → header_word h ≡ word → length words - at ≤ 4 * h.lines → NoLegacyEntry (drop at words)
bad_short words at word h within is lawful spelled short =
    subst NoLegacyEntry (sym (front words at (header_word h) within (spelled ∙ is)))
    (no_entry_short h (drop (at + 1) words) lawful (omega (arith, length-drop (at + 1) words)))

pub bad_word : (words : List ℕ) (at word : ℕ) → at < length words → word ≡ get_or words at 0 → ((h : Header) → IsLawful h → header_word h ≡ word → ⊥) → NoLegacyEntry (drop at words)
bad_word words at word within is none =
    subst NoLegacyEntry (sym (front words at word within is)) (no_entry_word word (drop (at + 1) words) (λ h p i. none h p))

pub none_erased : (words : List ℕ) (at word : ℕ) → at < length words → word ≡ get_or words at 0 → word ≡ 65535 → NoLegacyEntry (drop at words)
none_erased words at word within is erased =
    subst NoLegacyEntry (sym (front words at 65535 within (sym erased ∙ is))) (no_entry_erased (drop (at + 1) words))

-- one more entry
pub walked_none : (words bytes : List ℕ) → Walked words 2 bytes bytes []
walked_none words bytes = record { whole = refl; each = All-nil IsLegacyEntry; end = refl; bytes = refl }

pub walked_more : (words : List ℕ) (at end : ℕ) (before mid after : List ℕ) (es : List Entry) (e : Entry) → Walked words at before mid es → AddsEntry words at end mid after e → Walked words end before after (es ++ e ∷ [])
walked_more words at end before mid after es e w a =
    let spelled = spelling_push es e in
    let size : length (words_of_entries (es ++ e ∷ [])) ≡ length (words_of_entries es) + length (entry_words e) = ap length spelled ∙ length-append (words_of_entries es) (entry_words e) in
    record {
      whole = w.whole ∙ ap (λ (l : List ℕ). words_of_entries es ++ l) a.here ∙ sym (append_assoc (words_of_entries es) (entry_words e) (drop end words)) ∙ ap (λ (l : List ℕ). l ++ drop end words) (sym spelled);
      each = All-push IsLegacyEntry es e w.each a.entry;
      end = omega (arith, a.behind, w.end, size);
      bytes = a.bytes ∙ ap (λ (b : List ℕ). apply b e) w.bytes ∙ sym (fold-append apply before es (e ∷ []));
    }

-- where the walk ends
pub walked_log : (words : List ℕ) (at : ℕ) (before after : List ℕ) (es : List Entry) → Walked words at before after es → Erased (drop at words) → IsLog words es
walked_log words at before after es w erased = record { rest = drop at words; whole = w.whole; each = w.each; erased = erased }

pub fails_here : (words : List ℕ) (at : ℕ) (before after : List ℕ) (es : List Entry) (place word : ℕ) → Walked words at before after es → BadHere words at place word → FailsAt words place word
fails_here words at before after es place word w bad = record {
  entries = es;
  rest = drop at words;
  erased = 0;
  whole = w.whole;
  each = w.each;
  last = bad.none;
  other = record { more = drop (at + 1) words; at = front words at word bad.within bad.is; other = bad.other };
  at = omega (arith, bad.here, w.end);
}

pub fails_behind : (words : List ℕ) (at : ℕ) (before after : List ℕ) (es : List Entry) (place word : ℕ) → Walked words at before after es → NoLegacyEntry (drop at words) → IsFirstOther words at place word → FailsAt words place word
fails_behind words at before after es place word w none first = record {
  entries = es;
  rest = drop at words;
  erased = first.0;
  whole = w.whole;
  each = w.each;
  last = none;
  other = first.2;
  at = first.1 ∙ ap (λ (m : ℕ). m + first.0) w.end;
}

-- nothing begins behind the last halfword
pub none_past : (words : List ℕ) (at : ℕ) → length words ≤ at → NoLegacyEntry (drop at words)
none_past words at past = nothing (drop at words) (omega (arith, length-drop at words))
  where
    nothing : (l : List ℕ) → length l ≡ 0 → NoLegacyEntry l
    nothing [] h = no_entry_nil
    nothing (x ∷ l) h = absurd (omega arith)

-- the first halfword behind an offset that isn't FFFF
pub first_other : (words : List ℕ) (from at word : ℕ) → from ≤ at → at < length words → word ≡ get_or words at 0 → word ≢ 65535 → drop from words ≡ replicate (at - from) 65535 ++ drop at words → IsFirstOther words from at word
first_other words from at word le within is other so_far = (
  at - from,
  omega arith,
  record {
    more = drop (at + 1) words;
    at = so_far ∙ ap (λ (l : List ℕ). replicate (at - from) 65535 ++ l) (front words at word within is);
    other = other;
  },
)

pub all_erased : (n : ℕ) → Erased (replicate n 65535)
all_erased zero = All-nil (λ (w : ℕ). w ≡ 65535)
all_erased (suc n) = All-cons (λ (w : ℕ). w ≡ 65535) 65535 (replicate n 65535) refl (all_erased n)

pub erased_to_the_end : (words : List ℕ) (from at : ℕ) → length words ≤ at → drop from words ≡ replicate (at - from) 65535 ++ drop at words → Erased (drop from words)
erased_to_the_end words from at past so_far =
    let none : drop at words ≡ [] = nothing (drop at words) (omega (arith, length-drop at words)) in
    subst Erased (sym (so_far ∙ ap (λ (l : List ℕ). replicate (at - from) 65535 ++ l) none ∙ append-nil (replicate (at - from) 65535))) (all_erased (at - from))
  where
    nothing : (l : List ℕ) → length l ≡ 0 → l ≡ []
    nothing [] h = refl
    nothing (x ∷ l) h = absurd (omega arith)

-- the entry that begins here, where it is valid, and where it is torn
pub adds_valid : (bytes : List ℕ) (at : ℕ) (h : Header) (before after : List ℕ) → length bytes ≡ 2 * (length bytes / 2) → ((k : ℕ) → get_or bytes k 0 < 256) → IsHeaderAt bytes at h → h.state ≡ 0
    → after ≡ put (8 * h.line) (take (8 * h.lines) (drop (2 * at + 2) bytes)) before → (e : Entry) × AddsEntry (halfwords_of bytes) at (at + 1 + 4 * h.lines) before after e
adds_valid bytes at h before after even small is state copied =
    let words = halfwords_of bytes in
    let e = entry_at words at h in
    let fits : at + 1 + 4 * h.lines ≤ length words = omega (arith, length_halfwords bytes, is.fits, even) in
    let valid : (h.state == 0) ≡ true = eq-eqb h.state 0 state in
    let size : 2 * (4 * h.lines) ≡ 8 * h.lines = omega arith in
    let place : 2 * (at + 1) ≡ 2 * at + 2 = omega arith in
    let entry : IsEntry e = is_entry words at h is.lawful fits in
    let content : bytes_of e.content ≡ take (8 * h.lines) (drop (2 * at + 2) bytes) =
    part-back (at + 1) (4 * h.lines) bytes (omega (arith, is.fits)) small
    ∙ ap (λ (n : ℕ). take n (drop (2 * (at + 1)) bytes)) size ∙ ap (λ (n : ℕ). take (8 * h.lines) (drop n bytes)) place in (
      e,
      record {
        entry = record { entry = entry; inside = is.inside };
        here = entry_here words at (header_word h) h refl is.word fits;
        behind = omega (arith, entry.whole);
        bytes = copied ∙ ap (λ (l : List ℕ). put (8 * h.line) l before) (sym content) ∙ sym (ap (λ (b : Bool). if b then put (8 * h.line) (bytes_of e.content) before else before) valid);
      },
    )

pub adds_torn : (bytes : List ℕ) (at : ℕ) (h : Header) (before : List ℕ) → length bytes ≡ 2 * (length bytes / 2) → IsHeaderAt bytes at h → h.state ≢ 0
    → (e : Entry) × AddsEntry (halfwords_of bytes) at (at + 1 + 4 * h.lines) before before e
adds_torn bytes at h before even is state =
    let words = halfwords_of bytes in
    let e = entry_at words at h in
    let fits : at + 1 + 4 * h.lines ≤ length words = omega (arith, length_halfwords bytes, is.fits, even) in
    let known = is.lawful.known in
    let one : h.state ≡ 1 = omega arith in
    let valid : (h.state == 0) ≡ false = ap (λ (s : ℕ). s == 0) one in
    let entry : IsEntry e = is_entry words at h is.lawful fits in (
      e,
      record {
        entry = record { entry = entry; inside = is.inside };
        here = entry_here words at (header_word h) h refl is.word fits;
        behind = omega (arith, entry.whole);
        bytes = sym (ap (λ (b : Bool). if b then put (8 * h.line) (bytes_of e.content) before else before) valid);
      },
    )

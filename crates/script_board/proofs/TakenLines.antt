-- Lines that were taken, one after another.
use Rattle.std.proofs.Common.{◌≡◌, ◌⊎◌, inl, inr, ℕ, ◌+◌, List, [], ◌∷◌, ◌++◌, length, drop, refl, sym, ◌∙◌, ap, subst, arith, append_assoc, append-nil, length-append}
use Rattle.std.specs.Prelude.{Option, Some, None, IfSome, IfNone}
use Rattle.flash_traits.specs.declared.stream.Source.{Ghosts}
use Rattle.script_lines.specs.Script.{ScriptLine, Datagram, Idle, LossNow, LossLater, End, Spells, AreLines, line_feed}
use Rattle.script_lines.specs.Reading.{ReadsBytes}
use Rattle.script_board.specs.Taking.{IsAhead, AreTaken, Took}

pub at_some : {A : Type 0} (o : Option A) (x : A) (P : A → Type 0) → o ≡ Some x → IfSome o P → P x
at_some o x P is some = subst (λ (o : Option _). IfSome o P) is some

pub at_none : {A : Type 0} (o : Option A) (P : Type 0) → o ≡ None → IfNone o P → P
at_none o P is none = subst (λ (o : Option _). IfNone o P) is none

drop_first : (xs ys : List ℕ) → drop (length xs) (xs ++ ys) ≡ ys
drop_first [] ys = refl
drop_first (x ∷ xs) ys = drop_first xs ys

pub lines-append : (a b : List ScriptLine) (x y : List ℕ) → AreLines a x → AreLines b y → AreLines (a ++ b) (x ++ y)
lines-append [] b x y first second = subst (AreLines b) (sym (ap (λ (l : List ℕ). l ++ y) first)) second
lines-append (l ∷ a) b x y first second = (
  first.0,
  first.1 ++ y,
  first.2,
  ap (λ (l : List ℕ). l ++ y) first.3 ∙ append_assoc first.0 (line_feed ∷ first.1) y,
  lines-append a b first.1 y first.4 second,
)

some_text : (l : ScriptLine) (text : List ℕ) → Spells l text → text ≡ [] → ⊥
some_text (Datagram s b) text is none = let e = sym is.text_is ∙ none in cc
some_text Idle text is none = cc
some_text LossNow text is none = cc
some_text (LossLater k h) text is none = let e = sym is.text_is ∙ none in cc
some_text End text is none = cc

ends_empty : (text rest : List ℕ) → text ++ line_feed ∷ rest ≡ line_feed ∷ [] → text ≡ []
ends_empty [] rest is = refl
ends_empty (t ∷ []) rest is = absurd (cc)
ends_empty (t ∷ u ∷ text) rest is = absurd (cc)

not_empty : (text rest : List ℕ) → text ++ line_feed ∷ rest ≡ [] → ⊥
not_empty [] rest is = cc
not_empty (t ∷ text) rest is = cc

-- no bytes are no lines
none_of : (ls : List ScriptLine) → AreLines ls [] → ls ≡ []
none_of [] are = refl
none_of (l ∷ ls) are = absurd (not_empty are.0 are.1 (sym are.3))

-- and neither is an end alone
no_line : (ls : List ScriptLine) → AreLines ls (line_feed ∷ []) → ⊥
no_line [] are = cc
no_line (l ∷ ls) are = some_text l are.0 are.2 (ends_empty are.0 are.1 (sym are.3))

no_first : (x y : List ℕ) → x ++ y ≡ [] → x ≡ []
no_first [] y is = refl
no_first (a ∷ x) y is = absurd (cc)

no_second : (x y : List ℕ) → x ++ y ≡ [] → y ≡ []
no_second [] y is = is
no_second (a ∷ x) y is = absurd (cc)

-- lines that were taken after others; nothing follows a last line that lacks its end
pub taken_join : (ls ms : List ScriptLine) (x y v w f r0 r1 : List ℕ) → AreTaken ls x (v ++ r0) → AreTaken ms y (w ++ r1) → r0 ≡ f ++ r1 → v ++ f ≡ y ++ w
    → AreTaken (ls ++ ms) (x ++ y) (w ++ r1)
taken_join ls ms x y v w f r0 r1 (inl a) (inl b) rest unread = inl (lines-append ls ms x y a b)
taken_join ls ms x y v w f r0 r1 (inl a) (inr b) rest unread = inr (
  subst (AreLines (ls ++ ms)) (sym (append_assoc x y (line_feed ∷ []))) (lines-append ls ms x (y ++ line_feed ∷ []) a b.0),
  b.1,
)
taken_join ls ms x y v w f r0 r1 (inr a) b rest unread =
    let no_rest : f ++ r1 ≡ [] = sym rest ∙ no_second v r0 a.1 in
    let no_more : v ++ f ≡ [] = ap (λ (l : List ℕ). l ++ f) (no_first v r0 a.1) ∙ no_first f r1 no_rest in
    let none : y ++ w ≡ [] = sym unread ∙ no_more in
    let no_bytes : y ≡ [] = no_first y w none in
    let ending : w ++ r1 ≡ [] = ap (λ (l : List ℕ). l ++ r1) (no_second y w none) ∙ no_second f r1 no_rest in
    last a.0 b no_bytes ending
  where
    last : AreLines ls (x ++ line_feed ∷ []) → AreTaken ms y (w ++ r1) → y ≡ [] → w ++ r1 ≡ [] → AreTaken (ls ++ ms) (x ++ y) (w ++ r1)
    last a (inl b) none ending =
        let no_lines : ms ≡ [] = none_of ms (subst (AreLines ms) none b) in
        inr (
          subst (AreLines (ls ++ ms)) (ap (λ (l : List ℕ). (x ++ l) ++ line_feed ∷ []) (sym none))
              (subst (λ (l : List ℕ). AreLines (ls ++ ms) (l ++ line_feed ∷ [])) (sym (append-nil x))
              (subst (λ (l : List ScriptLine). AreLines (ls ++ l) (x ++ line_feed ∷ [])) (sym no_lines)
              (subst (λ (l : List ScriptLine). AreLines l (x ++ line_feed ∷ [])) (sym (append-nil ls)) a))),
          ending,
        )
    last a (inr b) none ending = absurd (no_line ms (subst (λ (l : List ℕ). AreLines ms (l ++ line_feed ∷ [])) none b.0))

-- Lines that were taken, and lines that were taken after them, are all those lines.
pub taken-append : (ls ms : List ScriptLine) (a x b y c : List ℕ) → a ≡ x ++ b → AreTaken ls x b → b ≡ y ++ c → AreTaken ms y c
    → (a ≡ (x ++ y) ++ c) × AreTaken (ls ++ ms) (x ++ y) c
taken-append ls ms a x b y c first are second more = (
  first ∙ ap (λ (l : List ℕ). x ++ l) second ∙ sym (append_assoc x y c),
  taken_join ls ms x y [] [] y b c are more second (sym (append-nil y)),
)

module _ {S : Type 0} (g : Ghosts S) where
  -- what was unread and what the source had left: the bytes of the lines, and what is unread and left
  pub took_lists : (old new : S) (before now : List ℕ) (lines : List ScriptLine) (count : ℕ) → (t : Took g old new before now lines count) → g.tells_rest new
      → (before ++ g.rest old ≡ t.bytes ++ (now ++ g.rest new)) × AreTaken lines t.bytes (now ++ g.rest new)
  took_lists old new before now lines count t told = (
    ap (λ (l : List ℕ). before ++ l) (t.rest told) ∙ sym (append_assoc before t.fresh (g.rest new)) ∙ ap (λ (l : List ℕ). l ++ g.rest new) t.unread ∙ append_assoc t.bytes now (g.rest new),
    t.whole told,
  )

  pub took_nothing : (s : S) (unread : List ℕ) → Took g s s unread unread [] 0
  took_nothing s unread = record {
    fresh = [];
    bytes = [];
    long = refl;
    unread = append-nil unread;
    given = λ told. sym (append-nil (g.given s));
    rest = λ told. refl;
    told_given = λ told. told;
    told_rest = λ told. told;
    whole = λ told. inl refl;
  }

  pub took_none : (old new : S) (before now fresh : List ℕ) → ReadsBytes g old new before now fresh → Took g old new before now [] 0
  took_none old new before now fresh reads = record {
    fresh = fresh;
    bytes = [];
    long = refl;
    unread = sym reads.unread;
    given = reads.given;
    rest = reads.rest;
    told_given = reads.told_given;
    told_rest = reads.told_rest;
    whole = λ told. inl refl;
  }

  pub took_refused : (old mid new : S) (before between now fresh : List ℕ) → ReadsBytes g old mid before between fresh → new ≡ mid → now ≡ between → Took g old new before now [] 0
  took_refused old mid new before between now fresh reads same is =
      subst (λ (s : S). Took g old s before now [] 0) (sym same) (subst (λ (l : List ℕ). Took g old mid before l [] 0) (sym is) (took_none old mid before between fresh reads))

  pub took_same : (old new : S) (before now : List ℕ) → new ≡ old → now ≡ before → Took g old new before now [] 0
  took_same old new before now same is =
      subst (λ (s : S). Took g old s before now [] 0) (sym same) (subst (λ (l : List ℕ). Took g old old before l [] 0) (sym is) (took_nothing old before))

  pub took_line : (old new : S) (before mid now fresh : List ℕ) (line : ScriptLine) (bytes : ℕ) → ReadsBytes g old new before mid fresh
      → IsAhead line bytes mid (g.tells_rest new) (g.rest new) → now ≡ drop bytes mid → Took g old new before now (line ∷ []) bytes
  took_line old new before mid now fresh line bytes reads ahead is =
      let later : now ≡ ahead.later = is ∙ ap (λ (n : ℕ). drop n mid) (sym ahead.long) ∙ ap (drop (length ahead.takes)) ahead.unread_are ∙ drop_first ahead.takes ahead.later in
      record {
        fresh = fresh;
        bytes = ahead.takes;
        long = ahead.long;
        unread = sym reads.unread ∙ ahead.unread_are ∙ ap (λ (l : List ℕ). ahead.takes ++ l) (sym later);
        given = reads.given;
        rest = reads.rest;
        told_given = reads.told_given;
        told_rest = reads.told_rest;
        whole = λ told. taken ahead.ends later told;
      }
    where
      taken : (ahead.takes ≡ ahead.text ++ line_feed ∷ []) ⊎ ((ahead.takes ≡ ahead.text) × (ahead.later ≡ []) × (g.tells_rest new → g.rest new ≡ []))
          → now ≡ ahead.later → g.tells_rest new → AreTaken (line ∷ []) ahead.takes (now ++ g.rest new)
      taken (inl whole) later told = inl (ahead.text, [], ahead.spells, whole, refl)
      taken (inr last) later told = inr (
        (ahead.text, [], ahead.spells, ap (λ (l : List ℕ). l ++ line_feed ∷ []) last.0, refl),
        ap (λ (l : List ℕ). l ++ g.rest new) (later ∙ last.1) ∙ last.2 told,
      )

  pub took_then : (a b c : S) (u v w : List ℕ) (ls ms : List ScriptLine) (m n : ℕ) → Took g a b u v ls m → Took g b c v w ms n → Took g a c u w (ls ++ ms) (m + n)
  took_then a b c u v w ls ms m n first second = record {
    fresh = first.fresh ++ second.fresh;
    bytes = first.bytes ++ second.bytes;
    long = length-append first.bytes second.bytes ∙ omega (arith, first.long, second.long);
    unread = sym (append_assoc u first.fresh second.fresh) ∙ ap (λ (l : List ℕ). l ++ second.fresh) first.unread
        ∙ append_assoc first.bytes v second.fresh ∙ ap (λ (l : List ℕ). first.bytes ++ l) second.unread ∙ sym (append_assoc first.bytes second.bytes w);
    given = λ told. second.given told ∙ ap (λ (l : List ℕ). l ++ second.fresh) (first.given (second.told_given told)) ∙ append_assoc (g.given a) first.fresh second.fresh;
    rest = λ told. first.rest (second.told_rest told) ∙ ap (λ (l : List ℕ). first.fresh ++ l) (second.rest told) ∙ sym (append_assoc first.fresh second.fresh (g.rest c));
    told_given = λ told. first.told_given (second.told_given told);
    told_rest = λ told. first.told_rest (second.told_rest told);
    whole = λ told. taken_join ls ms first.bytes second.bytes v w second.fresh (g.rest b) (g.rest c)
        (first.whole (second.told_rest told)) (second.whole told) (second.rest told) second.unread;
  }

  -- what stays as it was behind it
  pub took_still : (a b c : S) (u v w : List ℕ) (ls : List ScriptLine) (m : ℕ) → Took g a b u v ls m → c ≡ b → w ≡ v → Took g a c u w ls m
  took_still a b c u v w ls m took same is =
      subst (λ (s : S). Took g a s u w ls m) (sym same) (subst (λ (l : List ℕ). Took g a b u l ls m) (sym is) took)

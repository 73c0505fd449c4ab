-- One more recorded call of a board in memory.
use Rattle.std.proofs.Common.{◌≡◌, ◌⊎◌, inl, inr, ⊎_elim, ℕ, zero, suc, List, [], ◌∷◌, ◌++◌, take, map, false, refl, sym, ◌∙◌, ap, subst}
use Rattle.flash_traits.specs.Words.{Words}
use Rattle.flash_traits.specs.Losses.{SentFrame, Moment, IsUpTo, Outcome, Elapses, OnWords, ChangesWords, Covers}
use Rattle.flash_board.specs.Flash.{words_of}
use Rattle.flash_board.specs.Record.{stepped, replayed, counted, moment_after, MayLeave, LeftBy}
use Rattle.flash_board.specs.Kept.{outcome_at_attach, moment_of, frame_of, KeepsRecord}
use Rattle.flash_board.specs.MemoryLaws.{Now, Left, HasLists}
use Rattle.flash_board.specs.declared.memory.Memory.{Memory}
use Rattle.flash_board.specs.declared.flash.Flash.{Flash}
use Rattle.flash_board.specs.declared.record.Feed.{Feed}
use Rattle.flash_board.specs.declared.record.Call.{Call}
use Rattle.flash_board.specs.declared.record.Sent.{Sent}
use Rattle.flash_board.specs.declared.counts.Counts.{Counts}
use Rattle.flash_board.proofs.Recorded.{replayed-push, replayed-noted, moment-push, left-push, left-keep, left-cover}
use Rattle.flash_traits.proofs.Moments.{up_to_self}

-- the outcome that the record gives
abbrev pub before_of : Memory → Outcome
before_of m = replayed m.feed.items m.calls.items (outcome_at_attach m.base)

-- what the fields have to do with each other, after one more call
pub kept-push : (m : Memory) (image : Flash) (calls : List Call) (sent : List Sent) (after : Counts) (c : Call)
    → (told : m.full ≡ false) → calls ≡ m.calls.items ++ c ∷ []
    → words_of image ≡ (stepped m.feed.items c (record { words = words_of m.image; events = (before_of m).events; frames = (before_of m).frames })).words
    → moment_of after ≡ counted m.feed.items c (moment_of m.counts)
    → map frame_of sent ≡ take 4096 (stepped m.feed.items c (before_of m)).frames
    → KeepsRecord image m.base m.feed.items calls sent after m.first
kept-push m image calls sent after c told is words moment frames =
    let o = before_of m in
    let kept = m.kept told in
    let pushed = replayed-noted m.feed.items m.calls.items calls c (outcome_at_attach m.base) is in
    record {
      words = words ∙ ap (λ (w : Words). let from : Outcome = record { words = w; events = o.events; frames = o.frames } in (stepped m.feed.items c from).words) kept.words
          ∙ sym (ap (λ (o : Outcome). o.words) pushed);
      moment = moment ∙ ap (λ (t : Moment). counted m.feed.items c t) kept.moment
          ∙ sym (moment-push m.feed.items m.calls.items c (moment_of m.first))
          ∙ ap (λ (l : List Call). moment_after m.feed.items l (moment_of m.first)) (sym is);
      frames = frames ∙ ap (λ (o : Outcome). take 4096 o.frames) (sym pushed);
    }

-- one more frame among the first
take-take : (n : ℕ) (xs ys : List SentFrame) → take n (take n xs ++ ys) ≡ take n (xs ++ ys)
take-take zero xs ys = refl
take-take (suc n) [] ys = refl
take-take (suc n) (x ∷ xs) ys = ap (λ (l : List SentFrame). x ∷ l) (take-take n xs ys)

pub frames-push : (m : Memory) (told : m.full ≡ false) (sent : List Sent) (f : SentFrame)
    → map frame_of sent ≡ take 4096 (map frame_of m.frames.items ++ f ∷ [])
    → map frame_of sent ≡ take 4096 ((before_of m).frames ++ f ∷ [])
frames-push m told sent f is =
    is ∙ ap (λ (l : List SentFrame). take 4096 (l ++ f ∷ [])) (m.kept told).frames ∙ take-take 4096 (before_of m).frames (f ∷ [])

-- what stays, and the call on the record
pub record Notes (old new : Memory) (c : Call) : Type 0 where
  pub feed : new.feed.items ≡ old.feed.items
  pub base : new.base ≡ old.base
  pub first : new.first ≡ old.first
  pub told : new.full ≡ false → old.full ≡ false
  pub noted : new.full ≡ false → new.calls.items ≡ old.calls.items ++ c ∷ []

module _ (old new : Memory) (c : Call) (notes : Notes old new c) where
  abbrev feed : List Feed
  feed = old.feed.items

  abbrev before : Outcome
  before = replayed feed old.calls.items (outcome_at_attach old.base)

  pub after_is : new.full ≡ false → replayed new.feed.items new.calls.items (outcome_at_attach new.base) ≡ stepped feed c before
  after_is told =
      ap (λ (f : List Feed). replayed f new.calls.items (outcome_at_attach new.base)) notes.feed
      ∙ ap (λ (b : Flash). replayed feed new.calls.items (outcome_at_attach b)) notes.base
      ∙ ap (λ (l : List Call). replayed feed l (outcome_at_attach old.base)) (notes.noted told)
      ∙ replayed-push feed old.calls.items c (outcome_at_attach old.base)

  left_is : (t : Moment) (o : Outcome) → Left new t o → Left old t o ⊎ (MayLeave feed c before o ⊎ (o ≡ stepped feed c before))
  left_is t o left =
      let old_left : LeftBy feed (old.calls.items ++ c ∷ []) (moment_of old.first) (outcome_at_attach old.base) t o =
      subst (λ (l : List Call). LeftBy feed l (moment_of old.first) (outcome_at_attach old.base) t o) (notes.noted left.0)
      (subst (λ (n : Counts). LeftBy feed new.calls.items (moment_of n) (outcome_at_attach old.base) t o) notes.first
      (subst (λ (b : Flash). LeftBy feed new.calls.items (moment_of new.first) (outcome_at_attach b) t o) notes.base
      (subst (λ (f : List Feed). LeftBy f new.calls.items (moment_of new.first) (outcome_at_attach new.base) t o) notes.feed left.1))) in
      ⊎_elim (λ was. inl (notes.told left.0, was)) (λ new. inr new) (left-push feed old.calls.items c (moment_of old.first) t (outcome_at_attach old.base) o old_left)

  to_new : (t : Moment) (o : Outcome) → new.full ≡ false → LeftBy feed (old.calls.items ++ c ∷ []) (moment_of old.first) (outcome_at_attach old.base) t o → Left new t o
  to_new t o told left = (
    told,
    subst (λ (f : List Feed). LeftBy f new.calls.items (moment_of new.first) (outcome_at_attach new.base) t o) (sym notes.feed)
        (subst (λ (b : Flash). LeftBy feed new.calls.items (moment_of new.first) (outcome_at_attach b) t o) (sym notes.base)
        (subst (λ (n : Counts). LeftBy feed new.calls.items (moment_of n) (outcome_at_attach old.base) t o) (sym notes.first)
        (subst (λ (l : List Call). LeftBy feed l (moment_of old.first) (outcome_at_attach old.base) t o) (sym (notes.noted told)) left))),
  )

  pub covers : (lost : Outcome → Outcome → Type 0) → ((o : Outcome) → lost before o → MayLeave feed c before o)
      → Covers (Unit {0}) (λ (m : Memory). moment_of m.counts) Now Left old new lost
  covers lost is_may = record {
    each = λ kept n now o in_it. to_new (moment_of old.counts) o now.0
        (left-cover feed old.calls.items c (moment_of old.first) (moment_of old.counts) (outcome_at_attach old.base) o
        (subst (λ (t : Moment). IsUpTo (moment_of old.counts) t) (old.kept (notes.told now.0)).moment (up_to_self (moment_of old.counts)))
        (is_may o (subst (λ (s : Outcome). lost s o) in_it.was.1 in_it.steps)));
  }

  pub elapses : (lost done : Outcome → Outcome → Type 0) → IsUpTo (moment_of old.counts) (moment_of new.counts)
      → ((o : Outcome) → MayLeave feed c before o → lost before o)
      → (new.full ≡ false → lost before (stepped feed c before))
      → (new.full ≡ false → done before (stepped feed c before))
      → Elapses (Unit {0}) (λ (m : Memory). moment_of m.counts) Now Left old new lost done
  elapses lost done later may_lose loses does = record {
    later = later;
    inside = λ t o le left. ⊎_elim (λ was. inl was)
        (λ (fresh : _). inr (record { from = before; was = (notes.told left.0, refl); steps = ⊎_elim (may_lose o) (λ is. subst (λ (o : Outcome). lost before o) (sym is) (loses left.0)) fresh }))
        (left_is t o left);
    here = λ o now. record { from = before; was = (notes.told now.0, refl); steps = subst (λ (o : Outcome). done before o) (sym (now.1 ∙ after_is now.0)) (does now.0) };
    keeps = λ kept n now t o le left. to_new t o now.0 (left-keep feed old.calls.items c (moment_of old.first) t (outcome_at_attach old.base) o left.1);
  }

  pub changes : (lost done : Words → Words → Type 0) → new.sector_bytes ≡ old.sector_bytes
      → (moment_of new.counts).receptions ≡ (moment_of old.counts).receptions → (moment_of new.counts).sendings ≡ (moment_of old.counts).sendings → IsUpTo (moment_of old.counts) (moment_of new.counts)
      → ((o : Outcome) → MayLeave feed c before o → OnWords lost before o)
      → (new.full ≡ false → OnWords lost before (stepped feed c before))
      → (new.full ≡ false → OnWords done before (stepped feed c before))
      → ChangesWords (Unit {0}) (λ (m : Memory). m.sector_bytes) (λ (m : Memory). m.full ≡ false) (λ (m : Memory). words_of m.image) HasLists (λ (m : Memory). moment_of m.counts) Now Left old new lost done
  changes lost done geometry receptions sendings later may_lose loses does =
      let time = elapses (OnWords lost) (OnWords done) later may_lose loses does in
      record {
        geometry = geometry;
        told = notes.told;
        content = λ told.
            let from : words_of old.image ≡ before.words = (old.kept (notes.told told)).words in
            let to : words_of new.image ≡ (stepped feed c before).words = (new.kept told).words ∙ ap (λ (o : Outcome). o.words) (after_is told) in
            subst (λ (w : Words). done w (words_of new.image)) (sym from) (subst (λ (w : Words). done before.words w) (sym to) (does told).words);
        lists = λ e f stood told.
            let was = stood (notes.told told) in
            (was.0 ∙ sym (ap (λ (o : Outcome). o.events) (after_is told) ∙ (does told).events), was.1 ∙ sym (ap (λ (o : Outcome). o.frames) (after_is told) ∙ (does told).frames));
        receptions = receptions;
        sendings = sendings;
        later = time.later;
        inside = time.inside;
        here = time.here;
        keeps = time.keeps;
      }

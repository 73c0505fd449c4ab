-- What a survey reads, and what it says of the words.
use Rattle.std.proofs.Common.{◌≡◌, ◌≢◌, ◌⊎◌, inl, inr, ℕ, ◌+◌, ◌-◌, ◌*◌, ◌/◌, ◌%◌, ◌<◌, ◌≤◌, Bool, true, false, Option, Some, None, List, [], ◌∷◌, ◌++◌, length, take, drop, refl, sym, ◌∙◌, ap, subst, arith, eq-eqb}
use Rattle.std.specs.Prelude.{All, IsTrue, if◌then◌else◌, ◌==◌, ◌&&◌, Result, Ok, Err, IfErr}
use Rattle.std.specs.Result.{IsErrAnd}
use Rattle.std.specs.Option.{option_and_then, is_some}
use Rattle.std.proofs.lemmas.Result.{on_ok_weaker}
use Rattle.std.proofs.lemmas.Bool.{cases_Bool, eqb-true, ne_eqb, lt-leb}
use Rattle.std.proofs.lemmas.List.Sums.{fold-append}
use Rattle.std.proofs.lemmas.List.Elements.{All-append}
use Rattle.flash_traits.specs.Words.{Words, halfwords_in, IsSectorSize, halfwords_of}
use Rattle.flash_traits.specs.declared.board.Board.{Ghosts}
use Rattle.flash_traits.specs.declared.board.Fault.{Fault}
use Rattle.flash_traits.specs.declared.board.Fault.TheVariants.{Read}
use Rattle.flash_traits.specs.declared.board.Region.{Region}
use Rattle.flash_traits.specs.declared.board.Region.TheVariants.{Guard}
use Rattle.flash_traits.specs.Losses.{Outcome}
use Rattle.flash_traits.specs.Calls.{OnlyReads}
use Rattle.flash_traits.specs.Causes.{counts_after, told_by}
use Rattle.flash_traits.proofs.Moments.{reads_then}
use Rattle.flash_traits.specs.declared.board.Mark.{Mark}
use Rattle.flash_traits.specs.declared.board.Mark.TheVariants.{Available, InUse, Full}
use Rattle.sector_log.specs.declared.log.Log.{Log}
use Rattle.sector_log.specs.declared.log.Torn.{Torn}
use Rattle.sector_log.specs.Storage.{storage_bytes}
use Rattle.sector_log.specs.Entries.{Entry, IsEntry, entry_words}
use Rattle.sector_log.specs.Sector.{IsSector, HasHead, BadHead, BadLog}
use Rattle.sector_log.specs.Bytes.{apply, applied, IsValue, programmable}
use Rattle.sector_log.specs.Log.{end_of_entries, last_of, torn_at, torn_of, IsLogOf}
use Rattle.sector_log.specs.Appends.{entry_of, IsTornLast, IsLogIn}
use Rattle.sector_log.proofs.ValueLemmas.{value_applied, one_value}
use Rattle.guard_row.specs.declared.row.GuardError.{GuardError}
use Rattle.guard_row.specs.declared.row.GuardError.TheVariants as guard_errors
use Rattle.guard_row.specs.Errors.{OnWord, OnFault}
use Rattle.guard_row.specs.Row.{IsGuardRow}
use Rattle.sector_image.specs.declared.kept.Kept.{Kept}
use Rattle.sector_image.specs.declared.kept.Shape.{Shape}
use Rattle.sector_image.specs.declared.kept.Shape.TheVariants as shape
use Rattle.sector_image.specs.declared.kept.Survey.{Survey}
use Rattle.sector_image.specs.declared.kept.SurveyError.{SurveyError}
use Rattle.sector_image.specs.declared.kept.SurveyError.TheVariants as errors
use Rattle.sector_image.specs.Images.{Bytes, both_bytes}
use Rattle.sector_image.specs.Room.{chunk_at, left_to_copy, finishing, chunk_to_finish, is_completable, has_room}
use Rattle.sector_image.specs.Stands.{home_mark, beside, only_in_use, IsBoth, Stands}
use Rattle.guard_row.specs.Home.{first_of, second_of}
use Rattle.sector_image.specs.FirstBad.{Place, foreign_place, At, AreHeads, FirstBad, HomeHead, OtherHead, HomeLog, OtherLog, NoRoom, OnlyHead, OnlyLog}
use Rattle.sector_image.specs.Fits.{IsKeptState, OneLogWords, TwoLogWords, mark_of, parity_of, torn_chunk}
use Rattle.sector_image.specs.Refusals.{OnForeign, OnSurveyFault, fault_in}
use Rattle.sector_image.specs.Steps.Calls.{ReadsOrRefuses, FindsImage}
use Rattle.sector_image.specs.Steps.Errors.{error_of_guard}
use Rattle.sector_image.specs.Surveys.{AreLogs}
use Rattle.sector_image.proofs.LawsBelow.{sector_reading}
use Rattle.sector_image.proofs.Values.{zeros_of}
use Rattle.sector_image.proofs.Pushed.{last_split, finishing_is}
use Rattle.sector_image.proofs.Standing.{room_is, reads_spilled}

-- the other's entries are applied behind home's
pub value_behind : (home other : List Entry) (whole : List ℕ) → All IsEntry home → All IsEntry other → IsValue home whole → IsValue (home ++ other) (applied whole other)
value_behind home other whole first second value =
    let zeros = zeros_of storage_bytes in
    let was : applied zeros.0 home ≡ whole = one_value home (applied zeros.0 home) whole (value_applied home zeros.0 first zeros.1 zeros.2) value in
    subst (λ (l : List ℕ). IsValue (home ++ other) l) (fold-append apply zeros.0 home other ∙ ap (λ (l : List ℕ). applied l other) was)
    (value_applied (home ++ other) zeros.0 (All-append IsEntry home other first second) zeros.1 zeros.2)

-- the torn last entry, and whether it is completable
some_or : (b : Bool) (n : ℕ) → is_some (if b then Some n else None) ≡ b
some_or true n = refl
some_or false n = refl

finishing_last : (whole : List ℕ) (es : List Entry) (e : Entry) → last_of es ≡ Some e → is_some (finishing whole es) ≡ is_completable whole e
unfolding chunk_to_finish
finishing_last whole es e last = ap (λ (o : Option Entry). is_some (option_and_then (chunk_to_finish whole) o)) last ∙ some_or (is_completable whole e) (e.header.line / 8)

completable_by : (whole : List ℕ) (e : Entry) (s l m : Bool) → (e.header.state == 1) ≡ s → (e.header.lines == 8) ≡ l → (e.header.line % 8 == 0) ≡ m
    → is_completable whole e ≡ (s && l && m && programmable e.content (halfwords_of (chunk_at whole (e.header.line / 8))))
completable_by whole e s l m state lines line = ap (λ (b : Bool). b && (e.header.lines == 8) && (e.header.line % 8 == 0) && programmable e.content (halfwords_of (chunk_at whole (e.header.line / 8)))) state
    ∙ ap (λ (b : Bool). s && b && (e.header.line % 8 == 0) && programmable e.content (halfwords_of (chunk_at whole (e.header.line / 8)))) lines
    ∙ ap (λ (b : Bool). s && l && b && programmable e.content (halfwords_of (chunk_at whole (e.header.line / 8)))) line

pub not_torn : (whole : List ℕ) (es : List Entry) → torn_of es ≡ None → is_some (finishing whole es) ≡ false
not_torn whole es none = cases (last_of es) refl
  where
    cases : (o : Option Entry) → last_of es ≡ o → is_some (finishing whole es) ≡ false
    cases None last = ap (λ (o : Option Entry). is_some (option_and_then (chunk_to_finish whole) o)) last
    cases (Some e) last = elim (cases_Bool (e.header.state == 1)) [
      | inr valid ↦ finishing_last whole es e last ∙ completable_by whole e false (e.header.lines == 8) (e.header.line % 8 == 0) valid refl refl
      | inl torn ↦
          let t : Torn = record { at = end_of_entries es - length (entry_words e); line = e.header.line; lines = e.header.lines } in
          let there : torn_of es ≡ Some t = ap (λ (o : Option Entry). option_and_then (torn_at (end_of_entries es)) o) last ∙ ap (λ (b : Bool). if b then Some t else None) torn in
          let clash : None ≡ Some t = sym none ∙ there in
          absurd (cc)
    ]

-- a torn last entry of the log
pub record TornEntry (es : List Entry) (t : Torn) : Type 0 where
  pub entry : Entry
  pub last : last_of es ≡ Some entry
  pub state : entry.header.state ≡ 1
  pub line : entry.header.line ≡ t.line
  pub lines : entry.header.lines ≡ t.lines

torn_entry : (es : List Entry) (t : Torn) → torn_of es ≡ Some t → TornEntry es t
torn_entry es t is = cases (last_of es) refl
  where
    cases : (o : Option Entry) → last_of es ≡ o → TornEntry es t
    cases None last = let clash : None ≡ Some t = sym (ap (λ (o : Option Entry). option_and_then (torn_at (end_of_entries es)) o) last) ∙ is in absurd (cc)
    cases (Some e) last =
        let u : Torn = record { at = end_of_entries es - length (entry_words e); line = e.header.line; lines = e.header.lines } in
        let here : torn_of es ≡ (if e.header.state == 1 then Some u else None) = ap (λ (o : Option Entry). option_and_then (torn_at (end_of_entries es)) o) last in
        elim (cases_Bool (e.header.state == 1)) [
          | inr valid ↦ let clash : None ≡ Some t = sym (here ∙ ap (λ (b : Bool). if b then Some u else None) valid) ∙ is in absurd (cc)
          | inl torn ↦
              let both : Some u ≡ Some t = sym (here ∙ ap (λ (b : Bool). if b then Some u else None) torn) ∙ is in
              let same : u ≡ t = cc in
              record { entry = e; last = last; state = eqb-true e.header.state 1 torn; line = ap (λ (x : Torn). x.line) same; lines = ap (λ (x : Torn). x.lines) same }
        ]

pub not_chunk : (whole : List ℕ) (es : List Entry) (t : Torn) → torn_of es ≡ Some t → t.lines ≢ 8 ⊎ t.line % 8 ≢ 0 → is_some (finishing whole es) ≡ false
not_chunk whole es t is wrong =
    let torn = torn_entry es t is in
    let e = torn.entry in
    let state = eq-eqb e.header.state 1 torn.state in
    finishing_last whole es e torn.last ∙ elim wrong [
      | inl lines ↦ completable_by whole e true false (e.header.line % 8 == 0) state (ne_eqb e.header.lines 8 (λ same. lines (sym torn.lines ∙ same))) refl
      | inr line ↦ completable_by whole e true (e.header.lines == 8) false state refl (ne_eqb (e.header.line % 8) 0 (λ same. line (ap (λ (n : ℕ). n % 8) (sym torn.line) ∙ same))) ∙ and_false (e.header.lines == 8) (programmable e.content (halfwords_of (chunk_at whole (e.header.line / 8))))
    ]
  where
    and_false : (b p : Bool) → (true && b && false && p) ≡ false
    and_false true p = refl
    and_false false p = refl

pub is_chunk : (whole : List ℕ) (w : Words) (mark : Mark) (es : List Entry) (log : Log) (t : Torn) → IsLogOf log log.region mark es → IsSector (halfwords_in w log.region) mark es → log.torn ≡ Some t → t.lines ≡ 8 → t.line % 8 ≡ 0
    → (init : List Entry) × (content : List ℕ) × IsTornLast log w mark init t.line 8 content × (is_some (finishing whole es) ≡ programmable content (halfwords_of (chunk_at whole (t.line / 8))))
is_chunk whole w mark es log t of sector is lines line =
    let torn = torn_entry es t (sym of.torn ∙ is) in
    let e = torn.entry in
    let split = last_split es e torn.last in
    let this : e ≡ entry_of 1 t.line 8 e.content =
    ap (λ (n : ℕ). entry_of n e.header.line e.header.lines e.content) torn.state ∙ ap (λ (n : ℕ). entry_of 1 n e.header.lines e.content) torn.line ∙ ap (λ (n : ℕ). entry_of 1 t.line n e.content) (torn.lines ∙ lines) in
    let whole_list : es ≡ split.0 ++ entry_of 1 t.line 8 e.content ∷ [] = split.1 ∙ ap (λ (d : Entry). split.0 ++ d ∷ []) this in (
      split.0,
      e.content,
      record { tells = subst (λ (l : List Entry). IsLogOf log log.region mark l) whole_list of; sector = subst (λ (l : List Entry). IsSector (halfwords_in w log.region) mark l) whole_list sector },
      finishing_last whole es e torn.last
          ∙ completable_by whole e true true true (eq-eqb e.header.state 1 torn.state) (eq-eqb e.header.lines 8 (torn.lines ∙ lines)) (eq-eqb (e.header.line % 8) 0 (ap (λ (n : ℕ). n % 8) torn.line ∙ line))
          ∙ ap (λ (n : ℕ). programmable e.content (halfwords_of (chunk_at whole (n / 8)))) torn.line,
    )

-- a slice of eight lines from a chunk's start on
pub lines_slice : (line : ℕ) (bytes : List ℕ) → line % 8 ≡ 0 → take (8 * line + 64 - 8 * line) (drop (8 * line) bytes) ≡ chunk_at bytes (line / 8)
lines_slice line bytes starts =
    let size : 8 * line + 64 - 8 * line ≡ 64 = omega arith in
    let from : 8 * line ≡ 64 * (line / 8) = omega arith in
    ap (λ (n : ℕ). take n (drop (8 * line) bytes)) size ∙ ap (λ (n : ℕ). take 64 (drop n bytes)) from

-- a refusal that says more
on_foreign : (e : SurveyError) (P Q : Place → Type 0) → ((place : Place) → P place → Q place) → OnForeign e P → OnForeign e Q
on_foreign (errors.Fault kind) P Q more is = tt
on_foreign (errors.Foreign region offset word) P Q more is = more (foreign_place region offset word) is

on_fault : (e : SurveyError) (P Q : Fault → Type 0) → ((kind : Fault) → P kind → Q kind) → OnSurveyFault e P → OnSurveyFault e Q
on_fault (errors.Fault kind) P Q more is = more kind is
on_fault (errors.Foreign region offset word) P Q more is = tt

pub foreign_through : {T : Type 0} (r : Result T SurveyError) (P Q : Place → Type 0) → ((place : Place) → P place → Q place) → IfErr r (λ e. OnForeign e P) → IfErr r (λ e. OnForeign e Q)
foreign_through (Ok x) P Q more is = tt
foreign_through (Err e) P Q more is = on_foreign e P Q more is

fault_through : {T : Type 0} (r : Result T SurveyError) (P Q : Fault → Type 0) → ((kind : Fault) → P kind → Q kind) → IfErr r (λ e. OnSurveyFault e P) → IfErr r (λ e. OnSurveyFault e Q)
fault_through (Ok x) P Q more is = tt
fault_through (Err e) P Q more is = on_fault e P Q more is

-- a refusal of the guard row
pub on_row : (e : GuardError) (P : ℕ → ℕ → Type 0) (Q : Place → Type 0) → ((place word : ℕ) → P place word → Q (foreign_place Guard place word)) → OnWord e P → OnForeign (error_of_guard e) Q
on_row (guard_errors.Fault kind) P Q more is = tt
on_row (guard_errors.Word offset word) P Q more is = more offset word is

pub on_row_fault : (e : GuardError) (P : Fault → Type 0) → OnFault e P → OnSurveyFault (error_of_guard e) P
on_row_fault (guard_errors.Fault kind) P is = is
on_row_fault (guard_errors.Word offset word) P is = tt

-- A refusal is handed on, maybe after another call that reads.
module _ {B : Type 0} (g : Ghosts B) (reads : (b : B) (o : Outcome) → g.now b o → g.tells b × (o.words ≡ g.words b)) where
  pub refuses_after : {T : Type 0} {a b c : B} {P Q : Place → Type 0} (r : Result T SurveyError) → OnlyReads g a b → g.faults b ≡ g.faults a → ((place : Place) → g.tells c → P place → Q place) → ReadsOrRefuses g P b r c → ReadsOrRefuses g Q a r c
  refuses_after {a = a} {b = b} {c = c} {P = P} {Q = Q} r first same more second = record {
    reads = reads_then g reads first second.reads;
    foreign = foreign_through r (λ place. g.tells c → P place) (λ place. g.tells c → Q place) (λ place bad told. more place told (bad told)) second.foreign;
    fault = second.fault;
    counts = second.counts ∙ ap (counts_after (told_by fault_in r)) same;
  }

  pub refuses_still : {T U : Type 0} {a b : B} {P Q : Place → Type 0} (r : Result U SurveyError) (e : SurveyError) → IsErrAnd r (λ f. f ≡ e) → ((place : Place) → g.tells b → P place → Q place) → ReadsOrRefuses {T = T} g P a (Err e) b → ReadsOrRefuses g Q a r b
  refuses_still {b = b} {P = P} {Q = Q} (Ok x) e is more call = absurd (is)
  refuses_still {b = b} {P = P} {Q = Q} (Err f) e is more call = record {
    reads = call.reads;
    foreign = subst (λ (d : SurveyError). OnForeign d (λ place. g.tells b → Q place)) (sym is) (on_foreign e (λ place. g.tells b → P place) (λ place. g.tells b → Q place) (λ place bad told. more place told (bad told)) call.foreign);
    fault = rw is call.fault;
    counts = rw is call.counts;
  }

  pub refuses_then : {T U : Type 0} {a b c : B} {P Q : Place → Type 0} (r : Result U SurveyError) (e : SurveyError) → IsErrAnd r (λ f. f ≡ e) → OnlyReads g a b → g.faults b ≡ g.faults a → ((place : Place) → g.tells c → P place → Q place) → ReadsOrRefuses {T = T} g P b (Err e) c
      → ReadsOrRefuses g Q a r c
  refuses_then {P = P} r e is first same more call = refuses_after {P = P} r first same more (refuses_still {P = P} r e is (λ place told bad. bad) call)

  -- the words are read again, and are the same
  pub surveys_after : {T : Type 0} {a b c : B} (r : Result T SurveyError) → OnlyReads g a b → g.faults b ≡ g.faults a → ReadsOrRefuses g (FirstBad (g.words b)) b r c → ReadsOrRefuses g (FirstBad (g.words a)) a r c
  surveys_after r first same second =
      refuses_after {P = FirstBad (g.words _)} r first same (λ place told bad. subst (λ (w : Words). FirstBad w place) (first.changes.content (second.reads.changes.told told)) bad) second

  pub finds_after : {a b c : B} {whole upper : List ℕ} (r : Result Survey SurveyError) → OnlyReads g a b → OnlyReads g b c → FindsImage g b r c whole upper → FindsImage g a r c whole upper
  finds_after {whole = whole} r first second found = record {
    fits = found.fits;
    stands = on_ok_weaker r (λ stands told. subst (λ (w : Words). Stands w whole) (first.changes.content (second.changes.told told)) (stands told)) found.stands;
  }

-- where the checks fail
pub bad_home_head : (w : Words) (count : ℕ) (r : Region) (p : Place) → r ≡ first_of count → IsGuardRow w.guard count → count % 2 ≡ 0 → At r (BadHead home_mark (halfwords_in w r)) p → FirstBad w p
bad_home_head w count r p is guard even bad = HomeHead count guard even (subst (λ (q : Region). At q (BadHead home_mark (halfwords_in w q)) p) is bad)

pub bad_other_head : (w : Words) (count : ℕ) (m : Mark) (r : Region) (p : Place) → r ≡ second_of count → IsGuardRow w.guard count → count % 2 ≡ 0 → IsTrue (home_mark m) → HasHead (halfwords_in w (first_of count)) m
    → At r (BadHead (beside m) (halfwords_in w r)) p → FirstBad w p
bad_other_head w count m r p is guard even may head bad = OtherHead count m guard even may head (subst (λ (q : Region). At q (BadHead (beside m) (halfwords_in w q)) p) is bad)

pub bad_home_log : (w : Words) (count : ℕ) (m n : Mark) (r : Region) (p : Place) → r ≡ first_of count → AreHeads w count m n → At r (BadLog (halfwords_in w r)) p → FirstBad w p
bad_home_log w count m n r p is heads bad = HomeLog count m n heads (subst (λ (q : Region). At q (BadLog (halfwords_in w q)) p) is bad)

pub bad_other_log : (w : Words) (count : ℕ) (m n : Mark) (es : List Entry) (r : Region) (p : Place) → r ≡ second_of count → AreHeads w count m n → IsSector (halfwords_in w (first_of count)) m es → At r (BadLog (halfwords_in w r)) p → FirstBad w p
bad_other_log w count m n es r p is heads home bad =
    OtherLog count m n es heads home (subst (λ (q : Region). At q (BadLog (halfwords_in w q)) p) is bad)

pub bad_only_head : (w : Words) (count : ℕ) (r : Region) (p : Place) → r ≡ first_of count → IsGuardRow w.guard count → count % 2 ≡ 1 → At r (BadHead only_in_use (halfwords_in w r)) p → FirstBad w p
bad_only_head w count r p is guard odd bad = OnlyHead count guard odd (subst (λ (q : Region). At q (BadHead only_in_use (halfwords_in w q)) p) is bad)

pub bad_only_log : (w : Words) (count : ℕ) (r : Region) (p : Place) → r ≡ first_of count → IsGuardRow w.guard count → count % 2 ≡ 1 → HasHead (halfwords_in w r) InUse → At r (BadLog (halfwords_in w r)) p → FirstBad w p
bad_only_log w count r p is guard odd head bad =
    OnlyLog count guard odd (subst (λ (q : Region). HasHead (halfwords_in w q) InUse) is head) (subst (λ (q : Region). At q (BadLog (halfwords_in w q)) p) is bad)

-- what the logs tell
reads_beside : (w : Words) (count : ℕ) (m : Mark) (home other : Log) (whole upper : List ℕ) → IsTrue (home_mark m) → IsTrue (beside m Available) → (logs : AreLogs w count m Available home other whole upper) → IsBoth w count m Available logs.home_entries []
reads_beside w count m home other whole upper may beside_may logs = record {
  guard = logs.heads.guard;
  even = logs.heads.even;
  home_may = may;
  other_may = beside_may;
  first = logs.first;
  second = subst (λ (es : List Entry). IsSector (halfwords_in w (second_of count)) Available es) (logs.second.available refl) logs.second;
  room = refl;
}

pub alone_words : (w : Words) (kept : Kept) (other : Log) (whole upper : List ℕ) → AreLogs w kept.guard InUse Available kept.home other whole upper → OneLogWords shape.Alone kept (both_bytes whole whole) w
alone_words w kept other whole upper logs = record {
  entries = logs.home_entries;
  reads = reads_beside w kept.guard InUse kept.home other whole upper refl refl logs;
  log = logs.home_log;
  whole = logs.home_value;
  upper = λ is. logs.home_value;
}

pub marked_words : (w : Words) (kept : Kept) (other : Log) (whole upper : List ℕ) → AreLogs w kept.guard Full Available kept.home other whole upper → OneLogWords shape.Marked kept (both_bytes whole upper) w
marked_words w kept other whole upper logs = record {
  entries = logs.home_entries;
  reads = reads_beside w kept.guard Full kept.home other whole upper refl refl logs;
  log = logs.home_log;
  whole = logs.home_value;
  upper = λ is. absurd (cc);
}

pub spilled_words : (w : Words) (kept : Kept) (other : Log) (before upper whole : List ℕ) (logs : AreLogs w kept.guard Full InUse kept.home other before upper) → IsValue (logs.home_entries ++ logs.other_entries) whole
    → kept.completable ≡ is_some (finishing whole logs.other_entries) → 66 * left_to_copy whole upper (torn_chunk kept.completable other) + 2 * other.end ≤ 2 * length (halfwords_in w (second_of kept.guard))
    → TwoLogWords kept other (both_bytes whole upper) w
spilled_words w kept other before upper whole logs value known room =
    let chunk : finishing whole logs.other_entries ≡ torn_chunk kept.completable other = finishing_is whole logs.other_entries other kept.completable logs.other_log.torn known in
    record {
      home = logs.home_entries;
      other = logs.other_entries;
      reads = reads_spilled w kept.guard logs.home_entries logs.other_entries whole upper logs.heads.guard logs.heads.even logs.first logs.second value logs.other_value
          (subst (λ (f : Option ℕ). 66 * left_to_copy whole upper f + 2 * end_of_entries logs.other_entries ≤ 2 * length (halfwords_in w (second_of kept.guard))) (sym chunk) (omega (arith, room, logs.other_log.end)));
      home_log = logs.home_log;
      other_log = logs.other_log;
      whole = value;
      upper = logs.other_value;
      completable = known;
    }

-- the room rule fails
pub no_room : (w : Words) (count : ℕ) (home other : Log) (completable : Bool) (before upper whole : List ℕ) (logs : AreLogs w count Full InUse home other before upper) → IsValue (logs.home_entries ++ logs.other_entries) whole
    → completable ≡ is_some (finishing whole logs.other_entries) → 2 * length (halfwords_in w (second_of count)) < 66 * left_to_copy whole upper (torn_chunk completable other) + 2 * other.end
    → FirstBad w (foreign_place (second_of count) 0 23550)
no_room w count home other completable before upper whole logs value known room =
    let heads = logs.heads in
    let chunk : finishing whole logs.other_entries ≡ torn_chunk completable other = finishing_is whole logs.other_entries other completable logs.other_log.torn known in
    let over : 2 * length (halfwords_in w (second_of count)) < 66 * left_to_copy whole upper (finishing whole logs.other_entries) + 2 * end_of_entries logs.other_entries =
    subst (λ (f : Option ℕ). 2 * length (halfwords_in w (second_of count)) < 66 * left_to_copy whole upper f + 2 * end_of_entries logs.other_entries) (sym chunk) (omega (arith, room, logs.other_log.end)) in
    let fails : has_room (length (halfwords_in w (second_of count))) logs.home_entries logs.other_entries ≡ false =
    room_is (length (halfwords_in w (second_of count))) logs.home_entries logs.other_entries whole upper value logs.other_value ∙ lt-leb _ _ over in
    NoRoom count Full InUse logs.home_entries logs.other_entries heads logs.first logs.second fails (refl, (refl, refl))

-- what holds of a state that is found, whether the words are told or not
pub found_rules : (name : Shape) (old_size size : ℕ) (kept : Kept) (images : Bytes) → IsSectorSize old_size → size ≡ old_size → kept.sector_bytes ≡ size → kept.guard ≤ 8192 → kept.guard % 2 ≡ parity_of name
    → IsLogIn (old_size / 2) kept.home × (kept.home.region ≡ first_of kept.guard) × (kept.home.mark ≡ mark_of name) → length images.whole ≡ storage_bytes → length images.upper ≡ storage_bytes → IsKeptState name size kept images
found_rules name old_size size kept images attached same bytes most parity home whole upper = record {
  attached = subst IsSectorSize (sym same) attached;
  size = bytes;
  count = most;
  parity = parity;
  region = home.1;
  mark = home.2;
  log = subst (λ (n : ℕ). IsLogIn (n / 2) kept.home) (sym same) home.0;
  whole_size = whole;
  upper_size = upper;
}

-- the other's entries are read once more, over home's bytes
pub spilled_value : (w : Words) (count : ℕ) (home other : Log) (before upper after : List ℕ) (r : Region) (es : List Entry) → r ≡ second_of count → (logs : AreLogs w count Full InUse home other before upper) → IsSector (halfwords_in w r) InUse es
    → after ≡ applied before es → IsValue (logs.home_entries ++ logs.other_entries) after
spilled_value w count home other before upper after r es is logs sector applies =
    let same : es ≡ logs.other_entries = (sector_reading.sector (halfwords_in w (second_of count)) InUse InUse es logs.other_entries (subst (λ (q : Region). IsSector (halfwords_in w q) InUse es) is sector) logs.second).1 in
    subst (λ (l : List ℕ). IsValue (logs.home_entries ++ logs.other_entries) l) (ap (λ (l : List Entry). applied before l) (sym same) ∙ sym applies)
    (value_behind logs.home_entries logs.other_entries before logs.first.each logs.second.each logs.home_value)

pub spilled_known : (w : Words) (count : ℕ) (home other : Log) (before upper whole : List ℕ) (completable : Bool) (logs : AreLogs w count Full InUse home other before upper)
    → ((mark : Mark) (entries : List Entry) → IsLogOf other other.region mark entries → IsSector (halfwords_in w other.region) mark entries → completable ≡ is_some (finishing whole entries)) → completable ≡ is_some (finishing whole logs.other_entries)
spilled_known w count home other before upper whole completable logs known =
    known InUse logs.other_entries (subst (λ (q : Region). IsLogOf other q InUse logs.other_entries) (sym logs.other_log.region) logs.other_log)
    (subst (λ (q : Region). IsSector (halfwords_in w q) InUse logs.other_entries) (sym logs.other_log.region) logs.second)

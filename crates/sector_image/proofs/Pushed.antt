-- One more entry in the other sector: the bytes, and the chunk that it may finish.
use Rattle.std.proofs.Common.{◌≡◌, inl, inr, ℕ, ◌+◌, ◌-◌, ◌*◌, ◌/◌, ◌%◌, Bool, true, Option, Some, None, List, [], ◌∷◌, ◌++◌, length, refl, sym, ◌∙◌, ap, subst, arith, eq-eqb, append_assoc}
use Rattle.std.specs.Prelude.{All, if◌then◌else◌, ◌==◌, ◌&&◌}
use Rattle.std.specs.Option.{option_and_then, option_or, option_map, is_some}
use Rattle.std.proofs.lemmas.Bool.{cases_Bool, and_from, and_parts, eqb-true}
use Rattle.std.proofs.lemmas.List.Elements.{All-append, All-push}
use Rattle.flash_traits.specs.declared.board.Region.{Region}
use Rattle.flash_traits.specs.declared.board.Mark.{Mark}
use Rattle.sector_log.specs.declared.log.Log.{Log}
use Rattle.sector_log.specs.declared.log.Torn.{Torn}
use Rattle.sector_log.specs.Entries.{Entry, IsEntry, entry_words}
use Rattle.sector_log.specs.Bytes.{apply, IsValue, value_of, programmable}
use Rattle.flash_traits.specs.Values.{put}
use Rattle.flash_traits.specs.Words.{bytes_of, halfwords_of}
use Rattle.sector_log.specs.Log.{end_of_entries, last_of, torn_at, torn_of, IsLogOf}
use Rattle.sector_log.specs.Appends.{entry_of, appended, finished}
use Rattle.sector_log.proofs.ValueLemmas.{one_value}
use Rattle.sector_image.specs.Room.{chunk_at, finishing, chunk_to_finish, is_completable}
use Rattle.sector_image.specs.Fits.{torn_chunk}
use Rattle.sector_log.proofs.Pushes.{last_push, end_push, count_push}
use Rattle.sector_image.proofs.Values.{value_push, is_value, apply_torn, apply_valid}

module _ (home base : List Entry) (whole upper : List ℕ) (all_home : All IsEntry home) (all_base : All IsEntry base) (value : IsValue (home ++ base) whole) (above : IsValue base upper) where
  pushed : (e : Entry) → IsEntry e → IsValue (home ++ (base ++ e ∷ [])) (apply whole e) × IsValue (base ++ e ∷ []) (apply upper e)
  pushed e entry =
      let both = All-append IsEntry home base all_home all_base in
      let more : All IsEntry (home ++ base ++ e ∷ []) = All-push IsEntry (home ++ base) e both entry in (
        subst (λ (es : List Entry). IsValue es (apply whole e)) (append_assoc home base (e ∷ [])) (value_push (home ++ base) e whole both more value),
        value_push base e upper all_base (All-push IsEntry base e all_base entry) above,
      )

  pub torn_values : (e : Entry) → IsEntry e → e.header.state ≡ 1 → IsValue (home ++ (base ++ e ∷ [])) whole × IsValue (base ++ e ∷ []) upper
  torn_values e entry torn = let p = pushed e entry in (
    subst (λ (l : List ℕ). IsValue (home ++ (base ++ e ∷ [])) l) (apply_torn whole e torn) p.0,
    subst (λ (l : List ℕ). IsValue (base ++ e ∷ []) l) (apply_torn upper e torn) p.1,
  )

  pub valid_values : (e : Entry) → IsEntry e → e.header.state ≡ 0 →
      IsValue (home ++ (base ++ e ∷ [])) (put (8 * e.header.line) (bytes_of e.content) whole) × IsValue (base ++ e ∷ []) (put (8 * e.header.line) (bytes_of e.content) upper)
  valid_values e entry valid = let p = pushed e entry in (
    subst (λ (l : List ℕ). IsValue (home ++ (base ++ e ∷ [])) l) (apply_valid whole e valid) p.0,
    subst (λ (l : List ℕ). IsValue (base ++ e ∷ []) l) (apply_valid upper e valid) p.1,
  )

-- a torn last entry has no part in the bytes
pub without_torn : (es : List Entry) (e : Entry) (bytes : List ℕ) → All IsEntry es → All IsEntry (es ++ e ∷ []) → e.header.state ≡ 1 → IsValue (es ++ e ∷ []) bytes → IsValue es bytes
without_torn es e bytes each all torn is =
    let p = value_push es e (value_of es) each all (is_value es) in
    let same : value_of es ≡ bytes = one_value (es ++ e ∷ []) (value_of es) bytes (subst (λ (l : List ℕ). IsValue (es ++ e ∷ []) l) (apply_torn (value_of es) e torn) p) is in
    subst (λ (l : List ℕ). IsValue es l) same (is_value es)

pub finishing_valid : (whole : List ℕ) (es : List Entry) (e : Entry) → e.header.state ≡ 0 → finishing whole (es ++ e ∷ []) ≡ None
unfolding chunk_to_finish
finishing_valid whole es e valid =
    ap (λ (o : Option Entry). option_and_then (chunk_to_finish whole) o) (last_push es e)
    ∙ ap (λ (s : ℕ). if (s == 1) && (e.header.lines == 8) && (e.header.line % 8 == 0) && programmable e.content (halfwords_of (chunk_at whole (e.header.line / 8))) then Some (e.header.line / 8) else None) valid

pub finishing_torn : (whole : List ℕ) (es : List Entry) (c : ℕ) (content : List ℕ) → programmable content (halfwords_of (chunk_at whole c)) ≡ true → finishing whole (es ++ entry_of 1 (8 * c) 8 content ∷ []) ≡ Some c
unfolding chunk_to_finish
finishing_torn whole es c content fits =
    let line : 8 * c / 8 ≡ c = omega arith in
    let starts : (8 * c % 8 == 0) ≡ true = eq-eqb (8 * c % 8) 0 (omega arith) in
    let here : programmable content (halfwords_of (chunk_at whole (8 * c / 8))) ≡ true = ap (λ (n : ℕ). programmable content (halfwords_of (chunk_at whole n))) line ∙ fits in
    ap (λ (o : Option Entry). option_and_then (chunk_to_finish whole) o) (last_push es (entry_of 1 (8 * c) 8 content))
    ∙ ap (λ (b : Bool). if b then Some (8 * c / 8) else None) (and_from (8 * c % 8 == 0) (programmable content (halfwords_of (chunk_at whole (8 * c / 8)))) starts here)
    ∙ ap (λ (n : ℕ). Some n) line

-- what the chunk to finish says of its entry
pub to_finish : (whole : List ℕ) (e : Entry) (c : ℕ) → chunk_to_finish whole e ≡ Some c
    → (e.header.state ≡ 1) × (e.header.lines ≡ 8) × (e.header.line ≡ 8 * c) × (programmable e.content (halfwords_of (chunk_at whole c)) ≡ true)
unfolding chunk_to_finish
to_finish whole e c is = elim (cases_Bool (is_completable whole e)) [
  | inr fails ↦ absurd (let none : Some c ≡ None = sym is ∙ ap (λ (b : Bool). if b then Some (e.header.line / 8) else None) fails in cc)
  | inl passes ↦
      let same : Some (e.header.line / 8) ≡ Some c = sym (ap (λ (b : Bool). if b then Some (e.header.line / 8) else None) passes) ∙ is in
      let line : e.header.line / 8 ≡ c = cc in
      let a = and_parts _ _ passes in
      let b = and_parts _ _ a.0 in
      let d = and_parts _ _ b.0 in
      let starts = eqb-true (e.header.line % 8) 0 b.1 in (
        eqb-true e.header.state 1 d.0,
        eqb-true e.header.lines 8 d.1,
        omega arith,
        sym (ap (λ (n : ℕ). programmable e.content (halfwords_of (chunk_at whole n))) line) ∙ a.1,
      )
]

empty_by_last : (es : List Entry) → last_of es ≡ None → es ≡ []
empty_by_last [] last = refl
empty_by_last (g ∷ es) last = absurd (or_some (last_of es) g last)
  where
    or_some : (o : Option Entry) (g : Entry) → option_or o (Some g) ≡ None → ⊥
    or_some None g is = cc
    or_some (Some h) g is = cc

split_more : (f : Entry) (es : List Entry) (e : Entry) (o : Option Entry) → last_of es ≡ o → option_or o (Some f) ≡ Some e
    → ((g : Entry) → last_of es ≡ Some g → (init : List Entry) × (es ≡ init ++ g ∷ [])) → (init : List Entry) × (f ∷ es ≡ init ++ e ∷ [])
split_more f es e (Some g) last is more =
    let same : Some g ≡ Some e = is in
    let rest = more e (last ∙ same) in
    (f ∷ rest.0, ap (λ (l : List Entry). f ∷ l) rest.1)
split_more f es e None last is more =
    let same : Some f ≡ Some e = is in
    let this : f ≡ e = cc in
    ([], ap (λ (l : List Entry). f ∷ l) (empty_by_last es last) ∙ ap (λ (g : Entry). g ∷ []) this)

pub last_split : (es : List Entry) (e : Entry) → last_of es ≡ Some e → (init : List Entry) × (es ≡ init ++ e ∷ [])
last_split [] e is = absurd (cc)
last_split (f ∷ es) e is = split_more f es e (last_of es) refl is (λ g last. last_split es g last)

-- the chunk to finish by the entries is that by the log
pub finishing_is : (whole : List ℕ) (es : List Entry) (log : Log) (completable : Bool) → log.torn ≡ torn_of es → completable ≡ is_some (finishing whole es) → finishing whole es ≡ torn_chunk completable log
finishing_is whole es log completable torn known = cases (last_of es) refl
  where
    cases : (o : Option Entry) → last_of es ≡ o → finishing whole es ≡ torn_chunk completable log
    cases None last =
        let none : finishing whole es ≡ None = ap (λ (o : Option Entry). option_and_then (chunk_to_finish whole) o) last in
        none ∙ sym (ap (λ (b : Bool). torn_chunk b log) (known ∙ ap is_some none))
    cases (Some e) last = inner (chunk_to_finish whole e) refl
      where
        inner : (f : Option ℕ) → chunk_to_finish whole e ≡ f → finishing whole es ≡ torn_chunk completable log
        inner None here =
            let none : finishing whole es ≡ None = ap (λ (o : Option Entry). option_and_then (chunk_to_finish whole) o) last ∙ here in
            none ∙ sym (ap (λ (b : Bool). torn_chunk b log) (known ∙ ap is_some none))
        inner (Some c) here =
            let some : finishing whole es ≡ Some c = ap (λ (o : Option Entry). option_and_then (chunk_to_finish whole) o) last ∙ here in
            let facts = to_finish whole e c here in
            let at : log.torn ≡ torn_at (end_of_entries es) e = torn ∙ ap (λ (o : Option Entry). option_and_then (torn_at (end_of_entries es)) o) last in
            let line : e.header.line / 8 ≡ c = omega (arith, facts.2) in
            some ∙ sym (ap (λ (b : Bool). torn_chunk b log) (known ∙ ap is_some some)
            ∙ ap (λ (o : Option Torn). option_map (λ (t : Torn). t.line / 8) o) at
            ∙ ap (λ (s : ℕ). option_map (λ (t : Torn). t.line / 8) (if s == 1 then Some (record { at = end_of_entries es - length (entry_words e); line = e.header.line; lines = e.header.lines }) else None)) facts.0
            ∙ ap (λ (n : ℕ). Some n) line)

-- the log of one more valid entry
pub appended_log : (log : Log) (r : Region) (m : Mark) (es : List Entry) (line lines : ℕ) (content : List ℕ) → IsLogOf log r m es → length content ≡ 4 * lines
    → IsLogOf (appended log lines) r m (es ++ entry_of 0 line lines content ∷ [])
appended_log log r m es line lines content is size =
    let e = entry_of 0 line lines content in
    record {
      region = is.region;
      mark = is.mark;
      end = omega (arith, is.end, end_push es e);
      torn = sym (ap (λ (o : Option Entry). option_and_then (torn_at (end_of_entries (es ++ e ∷ []))) o) (last_push es e));
      valid = ap (λ (n : ℕ). n + 1) is.valid ∙ sym (count_push (λ e. e.header.state == 0) es e);
      gaps = is.gaps ∙ sym (count_push (λ e. e.header.state == 1) es e ∙ omega arith);
    }

-- the log whose torn last entry is valid now
pub finished_log : (log : Log) (r : Region) (m : Mark) (es : List Entry) (line lines : ℕ) (old content : List ℕ) → IsLogOf log r m (es ++ entry_of 1 line lines old ∷ []) → length content ≡ length old
    → IsLogOf (finished log) r m (es ++ entry_of 0 line lines content ∷ [])
finished_log log r m es line lines old content is size =
    let t = entry_of 1 line lines old in
    let e = entry_of 0 line lines content in
    record {
      region = is.region;
      mark = is.mark;
      end = omega (arith, is.end, end_push es e, end_push es t);
      torn = sym (ap (λ (o : Option Entry). option_and_then (torn_at (end_of_entries (es ++ e ∷ []))) o) (last_push es e));
      valid = omega (arith, is.valid, count_push (λ e. e.header.state == 0) es e, count_push (λ e. e.header.state == 0) es t);
      gaps = omega (arith, is.gaps, count_push (λ e. e.header.state == 1) es e, count_push (λ e. e.header.state == 1) es t);
    }

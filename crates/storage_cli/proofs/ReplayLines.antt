-- What a replay that stopped has printed, by its status.
use Rattle.std.proofs.Common.{◌≡◌, ◌≢◌, ◌⊎◌, inl, inr, ℕ, List, ◌++◌, refl, sym, ◌∙◌, ap, subst, arith, append_assoc}
use Rattle.flash_traits.specs.Causes.{Rose}
use Rattle.flash_traits.specs.Words.{Words}
use Rattle.flash_traits.specs.declared.stream.Sink.{Ghosts}
use Rattle.sector_image.specs.FirstBad.{foreign_place}
use Rattle.storage_cli.specs.declared.stop.Stop.{Stop}
use Rattle.storage_cli.specs.declared.stop.Stop.TheVariants as stop
use Rattle.storage_cli.specs.Statuses.{IsReplayStatus, Prints}
use Rattle.storage_cli.specs.Replays.{PrintsPart, PrintsLast, PrintsReplayStatus, status_of_script}
use Rattle.storage_cli.specs.Serving.{NamesForeign}
use Rattle.storage_cli.specs.Steps.Stops.{status_of_stop, line_of_stop, IsFirst}
use Rattle.storage_cli.specs.Steps.Replaying.{IsEarly, StopsBefore, StopsInside}
use Rattle.storage_cli.proofs.Outcomes.{Gives, own_is, other, not_done, ends_memory, ends_foreign, ends_read, ends_worn, ends_input, ends_script, ends_attach}
use Rattle.storage_cli.proofs.ScriptStops.{ending_status, ending_line, foreign_at, input_at, never_at, early_status, inside_status}

-- the statuses of a replay
early_known : (n : ℕ) → (n ≡ 2) ⊎ (n ≡ 3) ⊎ (n ≡ 4) ⊎ (n ≡ 13) → IsReplayStatus n
early_known n (inl is) = inr (inl is)
early_known n (inr (inl is)) = inr (inr (inl is))
early_known n (inr (inr (inl is))) = inr (inr (inr (inl is)))
early_known n (inr (inr (inr is))) = inr (inr (inr (inr (inr (inr (inr (inr is)))))))

inside_known : (n : ℕ) → (n ≡ 2) ⊎ (n ≡ 3) ⊎ (n ≡ 7) ⊎ (n ≡ 9) ⊎ (n ≡ 11) → IsReplayStatus n
inside_known n (inl is) = inr (inl is)
inside_known n (inr (inl is)) = inr (inr (inl is))
inside_known n (inr (inr (inl is))) = inr (inr (inr (inr (inl is))))
inside_known n (inr (inr (inr (inl is)))) = inr (inr (inr (inr (inr (inl is)))))
inside_known n (inr (inr (inr (inr is)))) = inr (inr (inr (inr (inr (inr (inr (inl is)))))))

pub replay_done : (status : ℕ) → Gives status 0 → IsReplayStatus status
replay_done status (inl is) = inl is
replay_done status (inr is) = inr (inr (inr (inr (inr (inr (inl is))))))

-- where all was done, no line of a stop was printed
pub prints_nothing : (status : ℕ) (printed printed_last : List ℕ → Type 0) → Gives status 0 → PrintsReplayStatus status printed printed_last
prints_nothing status printed printed_last gives = record {
  read = not_done status 4 gives (λ z. omega (arith, z)) (λ z. omega (arith, z));
  attach = not_done status 13 gives (λ z. omega (arith, z)) (λ z. omega (arith, z));
  memory = not_done status 2 gives (λ z. omega (arith, z)) (λ z. omega (arith, z));
  foreign = not_done status 3 gives (λ z. omega (arith, z)) (λ z. omega (arith, z));
  worn = not_done status 7 gives (λ z. omega (arith, z)) (λ z. omega (arith, z));
  input = not_done status 9 gives (λ z. omega (arith, z)) (λ z. omega (arith, z));
  script = not_done status 11 gives (λ z. omega (arith, z)) (λ z. omega (arith, z));
}

-- the status is one of a stop that comes before the script, or that comes inside it
early_own : (status n : ℕ) (why : Stop) → Gives status (status_of_stop why) → 10 ≢ n → status ≡ n → IsEarly why → (n ≡ 2) ⊎ (n ≡ 3) ⊎ (n ≡ 4) ⊎ (n ≡ 13)
early_own status n why gives other e early =
    let own : status_of_stop why ≡ n = own_is status (status_of_stop why) n gives other e in
    subst (λ (m : ℕ). (m ≡ 2) ⊎ (m ≡ 3) ⊎ (m ≡ 4) ⊎ (m ≡ 13)) own (early_status why early)

module _ {K : Type 0} (k : Ghosts K) (old mid new : K) (status : ℕ) (why : Stop) (gives : Gives status (status_of_stop why))
    (line : status ≢ 10 → k.tells_written new → k.written new ≡ k.written mid ++ line_of_stop why) (told : k.tells_written new → k.tells_written mid)
    (grows : k.tells_written mid → (text : List ℕ) × (k.written mid ≡ k.written old ++ text)) where
  last : (l : List ℕ) (n : ℕ) → 10 ≢ n → status ≡ n → line_of_stop why ≡ l → PrintsLast k old new l
  last l n other e is = λ t.
      let g = grows (told t) in (
        g.0,
        line (λ z. other (sym z ∙ e)) t ∙ ap (λ (x : List ℕ). x ++ line_of_stop why) g.1 ∙ append_assoc (k.written old) g.0 (line_of_stop why) ∙ ap (λ (x : List ℕ). k.written old ++ (g.0 ++ x)) is,
      )

  only : (l : List ℕ) (n : ℕ) → 10 ≢ n → status ≡ n → line_of_stop why ≡ l → mid ≡ old → Prints k old new l
  only l n other e is same = λ t. line (λ z. other (sym z ∙ e)) t ∙ ap (λ (x : K). k.written x ++ line_of_stop why) same ∙ ap (λ (x : List ℕ). k.written old ++ x) is

  module _ (told_words told_all : Type 0) (budget : ℕ) (words : Words) (same : Type 0) (rest_before rest_now : List ℕ) (faults_before faults_now : ℕ) where
    abbrev pub Before : Type 0
    Before = StopsBefore told_words words (same × (mid ≡ old)) why

    abbrev pub Inside : Type 0
    Inside = StopsInside told_all budget words rest_before rest_now (k.written old) (k.written mid) faults_before faults_now why

    abbrev Part : ℕ → Type 0
    Part n = PrintsPart budget words rest_before rest_now (k.written old) (k.written new) n

    inside_own : (n : ℕ) → 10 ≢ n → status ≡ n → (inside : Inside) → status_of_script inside.script_why ≡ n
    inside_own n other e inside = sym (ending_status inside.script_why why inside.ends) ∙ own_is status (status_of_stop why) n gives other e

    pub untouched : (n : ℕ) → (n ≡ 4) ⊎ (n ≡ 13) → status ≡ n → Before ⊎ Inside → same × (mid ≡ old)
    untouched n is e (inl before) = before.untouched
    untouched n (inl is) e (inr inside) = absurd (never_at inside.script_why n (inl is) (inside_own n (λ z. omega (arith, z, is)) e inside))
    untouched n (inr is) e (inr inside) = absurd (never_at inside.script_why n (inr is) (inside_own n (λ z. omega (arith, z, is)) e inside))

    pub prints_stop : Before ⊎ Inside → PrintsReplayStatus status (Prints k old new) (PrintsLast k old new)
    prints_stop stops = record {
      read = λ e. only _ 4 (λ z. omega (arith, z)) e (ap line_of_stop (ends_read status why gives e)) (untouched 4 (inl refl) e stops).1;
      attach = λ e. only _ 13 (λ z. omega (arith, z)) e (ap line_of_stop (ends_attach status why gives e)) (untouched 13 (inr refl) e stops).1;
      memory = λ e. last _ 2 (λ z. omega (arith, z)) e (ap line_of_stop (ends_memory status why gives e));
      foreign = λ e. let found = ends_foreign status why gives e in (foreign_place found.0.region found.0.offset found.0.word, last _ 3 (λ z. omega (arith, z)) e (ap line_of_stop found.1));
      worn = λ e. last _ 7 (λ z. omega (arith, z)) e (ap line_of_stop (ends_worn status why gives e));
      input = λ e. last _ 9 (λ z. omega (arith, z)) e (ap line_of_stop (ends_input status why gives e));
      script = λ e. let found = ends_script status why gives e in (found.0, last _ 11 (λ z. omega (arith, z)) e (ap line_of_stop found.1));
    }

    pub names_first : status ≡ 3 → Before ⊎ Inside → told_all → NamesForeign told_words words (Prints k old new)
    names_first e (inl before) t =
        let found = ends_foreign status why gives e in
        record {
          place = foreign_place found.0.region found.0.offset found.0.word;
          first = λ tw. subst (λ (w : Stop). IsFirst words w) found.1 (before.first tw);
          line = only _ 3 (λ z. omega (arith, z)) e (ap line_of_stop found.1) before.untouched.1;
        }
    names_first e (inr inside) t = absurd (foreign_at inside.script_why (told_all → ⊥) inside.never_foreign (inside_own 3 (λ z. omega (arith, z)) e inside) t)

    part_of : (n : ℕ) → 10 ≢ n → status ≡ n → Inside → told_all → k.tells_written new → Part n
    part_of n other e inside t tn =
        let h = inside.has t in
        record {
          text = h.text;
          why = inside.script_why;
          status_is = sym (inside_own n other e inside);
          written = line (λ z. other (sym z ∙ e)) tn ∙ ap (λ (x : List ℕ). x ++ line_of_stop why) h.written ∙ append_assoc (k.written old) h.text (line_of_stop why)
              ∙ ap (λ (x : List ℕ). k.written old ++ (h.text ++ x)) (ending_line inside.script_why why inside.ends);
          part = h.part;
        }

    stopped_at : (n : ℕ) → (n ≡ 7) ⊎ (n ≡ 9) ⊎ (n ≡ 11) → 10 ≢ n → status ≡ n → Before ⊎ Inside → told_all → k.tells_written new → Part n
    stopped_at n is other e (inl before) t tn = absurd (never (early_own status n why gives other e before.early) is)
      where
        never : (n ≡ 2) ⊎ (n ≡ 3) ⊎ (n ≡ 4) ⊎ (n ≡ 13) → (n ≡ 7) ⊎ (n ≡ 9) ⊎ (n ≡ 11) → ⊥
        never a b = omega (arith, a, b)
    stopped_at n is other e (inr inside) t tn = part_of n other e inside t tn

    pub stopped : (status ≡ 7) ⊎ (status ≡ 9) ⊎ (status ≡ 11) → Before ⊎ Inside → told_all → k.tells_written new → Part status
    stopped (inl is) stops t tn = stopped_at status (inl is) (λ z. omega (arith, z, is)) refl stops t tn
    stopped (inr (inl is)) stops t tn = stopped_at status (inr (inl is)) (λ z. omega (arith, z, is)) refl stops t tn
    stopped (inr (inr is)) stops t tn = stopped_at status (inr (inr is)) (λ z. omega (arith, z, is)) refl stops t tn

    pub memory_or_part : status ≡ 2 → Before ⊎ Inside → told_all → k.tells_written new → (same × (k.written new ≡ k.written old ++ line_of_stop stop.Memory)) ⊎ Part 2
    memory_or_part e (inl before) t tn = inl (before.untouched.0, only _ 2 (λ z. omega (arith, z)) e (ap line_of_stop (ends_memory status why gives e)) before.untouched.1 tn)
    memory_or_part e (inr inside) t tn = inr (part_of 2 (λ z. omega (arith, z)) e inside t tn)

    pub input_rose : status ≡ 9 → Before ⊎ Inside → Rose faults_before faults_now
    input_rose e (inl before) = absurd (never 9 refl (early_own status 9 why gives (λ z. omega (arith, z)) e before.early))
      where
        never : (n : ℕ) → n ≡ 9 → (n ≡ 2) ⊎ (n ≡ 3) ⊎ (n ≡ 4) ⊎ (n ≡ 13) → ⊥
        never n a b = omega (arith, a, b)
    input_rose e (inr inside) = input_at inside.script_why _ inside.input (inside_own 9 (λ z. omega (arith, z)) e inside)

    pub replay_stopped : Before ⊎ Inside → IsReplayStatus status
    replay_stopped stops = go gives stops
      where
        go : Gives status (status_of_stop why) → Before ⊎ Inside → IsReplayStatus status
        go (inr is) stops = inr (inr (inr (inr (inr (inr (inl is))))))
        go (inl is) (inl before) = subst IsReplayStatus (sym is) (early_known (status_of_stop why) (early_status why before.early))
        go (inl is) (inr inside) =
            subst IsReplayStatus (sym (is ∙ ending_status inside.script_why why inside.ends)) (inside_known (status_of_script inside.script_why) (inside_status inside.script_why why inside.ends))

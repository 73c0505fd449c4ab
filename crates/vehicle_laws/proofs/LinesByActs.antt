-- Each number of the lines of a run ends within the lines of one act.
use Rattle.std.proofs.Common.{◌≡◌, inl, inr, ℕ, ◌-◌, ◌<◌, ◌≤◌, List, [], ◌∷◌, ◌++◌, length, take, refl, sym, ◌∙◌, ap, subst, arith, append_assoc, append-nil, length-append}
use Rattle.std.proofs.lemmas.List.{take-append-le}
use Rattle.std.proofs.lemmas.Bool.{cases_lt}
use Rattle.storage_lines.specs.declared.lines.LineWrite.{LineWrite}
use Rattle.storage_lines.proofs.PrefixLemmas.{take_over}
use Rattle.vehicle_core.specs.Acts.{Act}
use Rattle.vehicle_runs.specs.Runs.{Run, did_in, act_done, start}
use Rattle.vehicle_runs.proofs.RunLaws.{extends_all, all_acts-append}
use Rattle.vehicle_laws.specs.Uploads.{run_over}
use Rattle.vehicle_laws.specs.Laws.{EndsWithin, LinesByActs}
use Rattle.vehicle_laws.proofs.Status.{run_snoc}

ends_within : (budget : ℕ) (b : List ℕ) (before rest : List Act) (k : ℕ) → length (run_over budget b before).issued ≤ k → k < length (run_over budget b (before ++ rest)).issued → EndsWithin budget b (before ++ rest) k
ends_within budget b before [] k from upto =
    absurd (omega (from, upto, arith, ap (λ (acts : List Act). length (run_over budget b acts).issued) (append-nil before)))
ends_within budget b before (act ∷ rest) k from upto =
    let r = run_over budget b before in
    let ws = (did_in budget b r act).writes in
    let s = act_done budget b r act in
    let acts = before ++ act ∷ rest in
    let split : (before ++ act ∷ []) ++ rest ≡ acts = append_assoc before (act ∷ []) rest in
    elim (cases_lt (length s.issued) k) [
      | inl past ↦
          let now : run_over budget b (before ++ act ∷ []) ≡ s = run_snoc budget b before act in
          subst (λ (l : List Act). EndsWithin budget b l k) split (ends_within budget b (before ++ act ∷ []) rest k
          (omega (arith, past, ap (λ (x : Run). length x.issued) now))
          (omega (arith, upto, ap (λ (l : List Act). length (run_over budget b l).issued) split)))
      | inr within ↦
          let more = (extends_all budget b s rest).issued in
          let whole : (run_over budget b acts).issued ≡ (r.issued ++ ws) ++ more.rest = ap (λ (x : Run). x.issued) (all_acts-append budget b (start b) before (act ∷ rest)) ∙ sym more.whole in
          let own = k - length r.issued in
          record {
            before = before;
            act = act;
            since = rest;
            split = refl;
            own = own;
            few = omega (arith, within, from, length-append r.issued ws);
            lines = ap (λ (l : List LineWrite). take k l) whole ∙ take-append-le k (r.issued ++ ws) more.rest within ∙ take_over r.issued ws k own (omega (arith, from));
          }
    ]

pub lines_by_acts : LinesByActs
lines_by_acts budget b acts k from upto = ends_within budget b [] acts k from upto

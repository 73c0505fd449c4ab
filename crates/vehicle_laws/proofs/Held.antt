-- What an upload has written so far: after each number of lines since its opening, the old mission or a prefix of the
-- commands that came.
use Rattle.std.proofs.Common.{◌≡◌, ◌≢◌, ◌⊎◌, inl, inr, ℕ, ◌+◌, ◌-◌, ◌<◌, ◌≤◌, List, [], ◌∷◌, ◌++◌, length, take, refl, sym, ◌∙◌, ap, subst, arith, Option, Some, None, append_assoc, append-nil, length-append}
use Rattle.std.specs.Option.{option_map_or}
use Rattle.std.proofs.lemmas.List.{take_all, take-append-le, length_push}
use Rattle.std.proofs.lemmas.Bool.{cases_lt, eqb-false}
use Rattle.storage_lines.specs.declared.lines.LineWrite.{LineWrite}
use Rattle.storage_lines.specs.Lines.{after, EachPrefix}
use Rattle.storage_lines.proofs.LineLemmas.{after-append}
use Rattle.storage_lines.proofs.PrefixLemmas.{take_over}
use Rattle.param_records.specs.Changes.{IsFull}
use Rattle.param_records.specs.Steps.{records_in_storage}
use Rattle.mission_commands.specs.declared.commands.Command.{Command}
use Rattle.mission_records.specs.declared.reading.TheConstants.{CAPACITY}
use Rattle.mission_records.specs.Mission.{total_row, mission_area, mission_of, begin_writes, put_writes}
use Rattle.mission_records.specs.Steps.{IsFormatted, IsTotalInOneLine, HasVersion, StaysFormatted, PutsCommand}
use Rattle.mission_records.proofs.Puts.{begins, puts}
use Rattle.mission_service.specs.declared.requests.MissionType.TheVariants.{Mission}
use Rattle.mission_service.specs.Uploads.{Upload, Open}
use Rattle.mission_service.specs.Requests.{Request}
use Rattle.vehicle_core.specs.Acts.{Act}
use Rattle.vehicle_runs.specs.Runs.{Run, did_in, act_done, all_acts}
use Rattle.vehicle_laws.specs.Uploads.{OpensNone, UploadGoesOn, given_from, commands_from, command_in, said_in}
use Rattle.vehicle_laws.specs.Fitting.{ActFits, AllFit}
use Rattle.vehicle_laws.specs.Laws.{IsPrefixOf}
use Rattle.mission_records.proofs.Totals.{all_writes}
use Rattle.vehicle_laws.proofs.Effects.{Off, Stays, Put}
use Rattle.vehicle_laws.proofs.ActEffects.{missions_at, command_given, ActBegun, act_effect}

pub prefix_self : (xs : List Command) → IsPrefixOf xs xs
prefix_self xs = ([], append-nil xs)

pub prefix_none : (xs : List Command) → IsPrefixOf [] xs
prefix_none xs = (xs, refl)

pub prefix_more : (xs ys : List Command) → IsPrefixOf xs (xs ++ ys)
prefix_more xs ys = (ys, refl)

pub prefix_then : (xs ys zs : List Command) → IsPrefixOf xs ys → IsPrefixOf ys zs → IsPrefixOf xs zs
prefix_then xs ys zs act q = (act.0 ++ q.0, sym (append_assoc xs act.0 q.0) ∙ ap (λ (l : List Command). l ++ q.0) act.1 ∙ q.1)

-- the mission is the old one or a prefix of these commands
abbrev pub IsOldOrPrefix : List Command → List Command → List ℕ → Type 0
IsOldOrPrefix old cs now = (mission_of now ≡ old) ⊎ IsPrefixOf (mission_of now) cs

-- the lines issued since the run r leave the old mission or a prefix of these commands
pub record Held (b : List ℕ) (r s : Run) (cs : List Command) : Type 0 where
  pub more : List LineWrite
  pub issued : s.issued ≡ r.issued ++ more
  pub formatted : IsFormatted (after b s.issued)
  pub one_line : IsTotalInOneLine (after b r.issued) → IsTotalInOneLine (after b s.issued)
  pub each : IsTotalInOneLine (after b r.issued) → (k : ℕ) → length r.issued ≤ k → k ≤ length s.issued
      → IsOldOrPrefix (mission_of (after b r.issued)) cs (after b (take k s.issued))

pub held_wider : (b : List ℕ) (r s : Run) (cs ds : List Command) → IsPrefixOf cs ds → Held b r s cs → Held b r s ds
held_wider b r s cs ds w h = record {
  more = h.more;
  issued = h.issued;
  formatted = h.formatted;
  one_line = h.one_line;
  each = λ t k l g. elim (h.each t k l g) [
    | inl old ↦ inl old
    | inr prefix ↦ inr (prefix_then (mission_of (after b (take k s.issued))) cs ds prefix w)
  ];
}

pub held_at_first : (b : List ℕ) (r : Run) → IsFormatted (after b r.issued) → Held b r r []
held_at_first b r f = record {
  more = [];
  issued = sym (append-nil r.issued);
  formatted = f;
  one_line = λ t. t;
  each = λ t k l g. inl (ap (λ (ws : List LineWrite). mission_of (after b ws)) (take_all k r.issued l));
}

-- more lines are issued
pub held_more : (b : List ℕ) (r s t : Run) (cs : List Command) (ws : List LineWrite) → t.issued ≡ s.issued ++ ws → Held b r s cs → EachPrefix (StaysFormatted (after b s.issued)) (after b s.issued) ws
    → (IsTotalInOneLine (after b s.issued) → EachPrefix (IsOldOrPrefix (mission_of (after b r.issued)) cs) (after b s.issued) ws) → Held b r t cs
held_more b r s t cs ws is h stays each =
    let mid = after b s.issued in
    let all = all_writes (StaysFormatted mid) mid ws stays in
    let end : after b t.issued ≡ after mid ws = ap (λ (l : List LineWrite). after b l) is ∙ after-append b s.issued ws in
    let P : List ℕ → Type 0 = IsOldOrPrefix (mission_of (after b r.issued)) cs in
    record {
      more = h.more ++ ws;
      issued = is ∙ ap (λ (l : List LineWrite). l ++ ws) h.issued ∙ append_assoc r.issued h.more ws;
      formatted = subst IsFormatted (sym end) all.formatted;
      one_line = λ o. subst IsTotalInOneLine (sym end) (all.one_line (h.one_line o));
      each = λ o k l g. elim (cases_lt (length s.issued) k) [
        | inl past ↦
            let j = k - length s.issued in
            let e : after b (take k t.issued) ≡ after mid (take j ws) = ap (λ (x : List LineWrite). after b (take k x)) is ∙ ap (λ (x : List LineWrite). after b x) (take_over s.issued ws k j (omega arith)) ∙ after-append b s.issued (take j ws) in
            subst P (sym e) (each (h.one_line o) j (omega (arith, l, g, ap (λ (x : List LineWrite). length x) is, length-append s.issued ws)))
        | inr within ↦
            let e : after b (take k t.issued) ≡ after b (take k s.issued) = ap (λ (x : List LineWrite). after b (take k x)) is ∙ ap (λ (x : List LineWrite). after b x) (take-append-le k s.issued ws within) in
            subst P (sym e) (h.each o k l within)
      ];
    }

-- The upload that was opened at the run r is open, and these commands came in it.
pub record Ongoing (b : List ℕ) (r s : Run) (station count : ℕ) (cs : List Command) : Type 0 where
  pub held : Held b r s cs
  pub upload : Upload
  pub is : missions_at s ≡ Open upload
  pub owner : upload.owner ≡ station
  pub count_is : upload.count ≡ count
  pub expected : upload.expected ≡ length cs
  pub below : length cs < count
  pub few : count ≤ CAPACITY
  pub mission : mission_of (after b s.issued) ≡ cs
  pub versioned : HasVersion (after b s.issued)

-- what an act gives with this number, as a list
abbrev pub given_in : {X : Type 0} → (ℕ → Request → Option X) → ℕ → ℕ → Act → List X
given_in f station seq act = option_map_or (λ x. x ∷ []) (said_in (f seq) station act) []

abbrev pub more_from : ℕ → ℕ → Act → List Command
more_from station seq act = given_in command_in station seq act

-- no upload is open
abbrev pub IsClosed : Run → Type 0
IsClosed s = (u : Upload) → missions_at s ≢ Open u

-- after an opening
pub begun : (budget : ℕ) (b : List ℕ) (r : Run) (act : Act) → IsFormatted (after b r.issued) → (x : ActBegun budget b r act (did_in budget b r act).writes (missions_at (act_done budget b r act))) → Ongoing b r (act_done budget b r act) x.station x.count []
begun budget b r act f x =
    let bytes = after b r.issued in
    let s = act_done budget b r act in
    let ws = begin_writes bytes in
    let is : s.issued ≡ r.issued ++ ws = ap (λ (l : List LineWrite). r.issued ++ l) x.writes_are in
    let w = begins bytes f in
    let end : after b s.issued ≡ after bytes ws = ap (λ (l : List LineWrite). after b l) is ∙ after-append b r.issued ws in
    record {
      held = held_more b r r s [] ws is (held_at_first b r f) w.clears.stays (λ o j h. elim (w.clears.each o j h) [ inl old ↦ inl old | inr none ↦ inr ([], append-nil (mission_of (after bytes (take j ws))) ∙ none) ]);
      upload = x.upload;
      is = x.now_is;
      owner = x.owner;
      count_is = x.count_is;
      expected = x.expected;
      below = x.some;
      few = x.few;
      mission = ap mission_of end ∙ w.clears.whole;
      versioned = ap (λ (l : List ℕ). take 4 (mission_area l)) end ∙ w.versioned;
    }

-- one act more: the upload stays open, or ends
pub record Step (budget : ℕ) (b : List ℕ) (r s : Run) (station count : ℕ) (cs : List Command) (act : Act) : Type 0 where
  pub held : Held b r (act_done budget b s act) (cs ++ more_from station (length cs) act)
  pub then : IsClosed (act_done budget b s act) ⊎ Ongoing b r (act_done budget b s act) station count (cs ++ more_from station (length cs) act)

same_given : (u : Upload) (station n : ℕ) (act : Act) → u.owner ≡ station → u.expected ≡ n → command_given u.owner u.expected act ≡ command_given station n act
same_given u station n act a e = ap (λ (k : ℕ). command_given k u.expected act) a ∙ ap (λ (k : ℕ). command_given station k act) e

step_off : (budget : ℕ) (b : List ℕ) (r s : Run) (station count : ℕ) (cs : List Command) (act : Act) → Ongoing b r s station count cs → Off (after b s.issued) (did_in budget b s act).writes (missions_at (act_done budget b s act)) → Step budget b r s station count cs act
step_off budget b r s station count cs act o x = record {
  held = held_wider b r (act_done budget b s act) cs (cs ++ more_from station (length cs) act) (prefix_more cs (more_from station (length cs) act))
      (held_more b r s (act_done budget b s act) cs (did_in budget b s act).writes refl o.held x.empties.stays (λ t j h. elim (x.empties.each t j h) [
        | inl same ↦ inr ([], append-nil (mission_of (after (after b s.issued) (take j (did_in budget b s act).writes))) ∙ same ∙ o.mission)
        | inr none ↦ inr (cs, ap (λ (l : List Command). l ++ cs) none)
      ]));
  then = inl x.closed;
}

pub step_stays : (budget : ℕ) (b : List ℕ) (r s : Run) (station count : ℕ) (cs : List Command) (act : Act) (u : Upload) → Ongoing b r s station count cs → missions_at s ≡ Open u → Stays (after b s.issued) u (command_given u.owner u.expected act) (did_in budget b s act).writes (missions_at (act_done budget b s act)) → Step budget b r s station count cs act
step_stays budget b r s station count cs act u o e x =
    let same : u ≡ o.upload = let both : Open u ≡ Open o.upload = sym e ∙ o.is in cc in
    let owner : u.owner ≡ station = ap (λ (v : Upload). v.owner) same ∙ o.owner in
    let expected : u.expected ≡ length cs = ap (λ (v : Upload). v.expected) same ∙ o.expected in
    let count_is : u.count ≡ count = ap (λ (v : Upload). v.count) same ∙ o.count_is in
    let none : command_given station (length cs) act ≡ None = sym (same_given u station (length cs) act owner expected) ∙ x.none in
    let no_more : cs ++ more_from station (length cs) act ≡ cs = ap (λ (g : Option Command). cs ++ option_map_or (λ c. c ∷ []) g []) none ∙ append-nil cs in
    let bytes = after b s.issued in
    let ws = (did_in budget b s act).writes in
    let t = act_done budget b s act in
    let end : after b t.issued ≡ after bytes ws = after-append b s.issued ws in
    let held : Held b r t cs = held_more b r s t cs ws refl o.held x.keeps.stays (λ l j h. inr ([], append-nil (mission_of (after bytes (take j ws))) ∙ x.keeps.same j h ∙ o.mission)) in
    let on : Ongoing b r t station count cs = record {
      held = held;
      upload = x.upload;
      is = x.now_is;
      owner = x.owner ∙ owner;
      count_is = x.count ∙ count_is;
      expected = x.expected ∙ expected;
      below = o.below;
      few = o.few;
      mission = ap mission_of end ∙ all_writes (λ (now : List ℕ). mission_of now ≡ mission_of bytes) bytes ws x.keeps.same ∙ o.mission;
      versioned = ap (λ (l : List ℕ). take 4 (mission_area l)) end ∙ x.keeps.versioned o.versioned;
    } in
    record { held = subst (Held b r t) (sym no_more) held; then = inr (subst (Ongoing b r t station count) (sym no_more) on) }

below_more : (e n c count m : ℕ) → e ≡ n → c ≡ count → m ≡ n + 1 → n < count → (e + 1 ≡ c → ⊥) → m < count
below_more e n c count m act q r below differ = elim (cases_lt m count) [ inl less ↦ less | inr more ↦ absurd (differ (omega arith)) ]

pub step_put : (budget : ℕ) (b : List ℕ) (r s : Run) (station count : ℕ) (cs : List Command) (act : Act) (u : Upload) → Ongoing b r s station count cs → missions_at s ≡ Open u → Put (after b s.issued) u (command_given u.owner u.expected act) (did_in budget b s act).writes (missions_at (act_done budget b s act)) → Step budget b r s station count cs act
step_put budget b r s station count cs act u o e x =
    let same : u ≡ o.upload = let both : Open u ≡ Open o.upload = sym e ∙ o.is in cc in
    let owner : u.owner ≡ station = ap (λ (v : Upload). v.owner) same ∙ o.owner in
    let expected : u.expected ≡ length cs = ap (λ (v : Upload). v.expected) same ∙ o.expected in
    let count_is : u.count ≡ count = ap (λ (v : Upload). v.count) same ∙ o.count_is in
    let c = x.command in
    let gives : command_given station (length cs) act ≡ Some c = sym (same_given u station (length cs) act owner expected) ∙ x.gives in
    let ds = cs ++ c ∷ [] in
    let more : cs ++ more_from station (length cs) act ≡ ds = ap (λ (g : Option Command). cs ++ option_map_or (λ d. d ∷ []) g []) gives in
    let bytes = after b s.issued in
    let t = act_done budget b s act in
    let long : length (mission_of bytes) ≡ u.expected = ap (λ (l : List Command). length l) o.mission ∙ sym expected in
    let ws = put_writes bytes u.expected c in
    let is : t.issued ≡ s.issued ++ ws = ap (λ (l : List LineWrite). s.issued ++ l) x.writes_are in
    let w0 = puts bytes c o.held.formatted o.versioned x.storable (omega (arith, o.below, o.few, long, expected)) (λ g. x.room (subst (λ (n : ℕ). IsFull (records_in_storage bytes) total_row (n + 1)) long g)) in
    let w : PutsCommand c bytes ws = subst (λ (n : ℕ). PutsCommand c bytes (put_writes bytes n c)) long w0 in
    let end : after b t.issued ≡ after bytes ws = ap (λ (l : List LineWrite). after b l) is ∙ after-append b s.issued ws in
    let grown : mission_of bytes ++ c ∷ [] ≡ ds = ap (λ (l : List Command). l ++ c ∷ []) o.mission in
    let held : Held b r t ds = held_more b r s t ds ws is (held_wider b r s cs ds (prefix_more cs (c ∷ [])) o.held) w.stays (λ l j h. elim (w.each l j h) [
      | inl old ↦ inr (c ∷ [], ap (λ (m : List Command). m ++ c ∷ []) (old ∙ o.mission))
      | inr new ↦ inr ([], append-nil (mission_of (after bytes (take j ws))) ∙ new ∙ grown)
    ]) in
    let long_more : length ds ≡ length cs + 1 = length_push cs c in
    record {
      held = subst (Held b r t) (sym more) held;
      then = elim x.after_it [
        | inl last ↦ inl last.1
        | inr goes ↦
            let differ : u.expected + 1 ≡ u.count → ⊥ = eqb-false (u.expected + 1) u.count goes.0 in
            let on : Ongoing b r t station count ds = record {
              held = held;
              upload = goes.1.upload;
              is = goes.1.now_is;
              owner = goes.1.owner ∙ owner;
              count_is = goes.1.count ∙ count_is;
              expected = goes.1.expected ∙ omega arith;
              below = below_more u.expected (length cs) u.count count (length ds) expected count_is long_more o.below differ;
              few = o.few;
              mission = ap mission_of end ∙ w.whole ∙ grown;
              versioned = ap (λ (l : List ℕ). take 4 (mission_area l)) end ∙ w.versioned;
            } in
            inr (subst (Ongoing b r t station count) (sym more) on)
      ];
    }

-- one act more, which opens no upload
pub step : (budget : ℕ) (b : List ℕ) (r s : Run) (station count : ℕ) (cs : List Command) (act : Act) → Ongoing b r s station count cs → ActFits act → OpensNone budget Mission b s act → Step budget b r s station count cs act
step budget b r s station count cs act o fits alone = elim (act_effect budget b s act o.held.formatted fits) [
  | inl x ↦ absurd (alone x.station x.count x.opens)
  | inr y ↦ elim y.1 [
    | inl x ↦ step_off budget b r s station count cs act o x
    | inr z ↦ elim z.2 [
      | inl x ↦ step_stays budget b r s station count cs act z.0 o z.1 x
      | inr x ↦ step_put budget b r s station count cs act z.0 o z.1 x
    ]
  ]
]

given_cons : {X : Type 0} (f : ℕ → Request → Option X) (station seq : ℕ) (acts : List Act) (g : Option X) → option_map_or (λ x. x ∷ given_from f station (seq + 1) acts) g (given_from f station seq acts)
    ≡ option_map_or (λ x. x ∷ []) g [] ++ given_from f station (seq + length (option_map_or (λ x. x ∷ []) g [])) acts
given_cons f station seq acts None = let same : seq ≡ seq + 0 = omega arith in ap (λ (n : ℕ). given_from f station n acts) same
given_cons f station seq acts (Some x) = refl

-- what one act gives, and those after it
pub from_cons : {X : Type 0} (f : ℕ → Request → Option X) (station seq : ℕ) (act : Act) (acts : List Act) → given_from f station seq (act ∷ acts) ≡ given_in f station seq act ++ given_from f station (seq + length (given_in f station seq act)) acts
from_cons f station seq act acts = given_cons f station seq acts (said_in (f seq) station act)

-- after the end of an upload no act belongs to it
ends_there : (budget : ℕ) (b : List ℕ) (r s : Run) (cs : List Command) (acts : List Act) → Held b r s cs → IsClosed s → UploadGoesOn budget Mission b s acts → Held b r (all_acts budget b s acts) cs
ends_there budget b r s cs [] h closed g = h
ends_there budget b r s cs (act ∷ acts) h closed g = absurd (closed g.0.0 g.0.1)

-- the acts of an upload
pub goes_on : (budget : ℕ) (b : List ℕ) (r s : Run) (station count : ℕ) (cs : List Command) (acts : List Act) → Ongoing b r s station count cs → UploadGoesOn budget Mission b s acts → AllFit acts → Held b r (all_acts budget b s acts) (cs ++ commands_from station (length cs) acts)
goes_on budget b r s station count cs [] o g fit = subst (Held b r s) (sym (append-nil cs)) o.held
goes_on budget b r s station count cs (act ∷ acts) o g fit =
    let x = step budget b r s station count cs act o fit.0 g.1 in
    let m = more_from station (length cs) act in
    let same : (cs ++ m) ++ commands_from station (length (cs ++ m)) acts ≡ cs ++ commands_from station (length cs) (act ∷ acts) =
    append_assoc cs m (commands_from station (length (cs ++ m)) acts) ∙ ap (λ (n : ℕ). cs ++ (m ++ commands_from station n acts)) (length-append cs m) ∙ ap (λ (l : List Command). cs ++ l) (sym (from_cons command_in station (length cs) act acts)) in
    elim x.then [
      | inl closed ↦ subst (Held b r (all_acts budget b (act_done budget b s act) acts)) same (held_wider b r (all_acts budget b (act_done budget b s act) acts) (cs ++ m) ((cs ++ m) ++ commands_from station (length (cs ++ m)) acts) (prefix_more (cs ++ m) (commands_from station (length (cs ++ m)) acts)) (ends_there budget b r (act_done budget b s act) (cs ++ m) acts x.held closed g.2))
      | inr on ↦ subst (Held b r (all_acts budget b (act_done budget b s act) acts)) same (goes_on budget b r (act_done budget b s act) station count (cs ++ m) acts on g.2 fit.1)
    ]

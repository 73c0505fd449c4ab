-- How events are read, one after another.
use Rattle.std.proofs.Common.{◌≡◌, ◌⊎◌, inl, inr, ℕ, ◌<◌, List, [], ◌∷◌, ◌++◌, length, refl, sym, ◌∙◌, ap, subst, arith, append_assoc, append-nil, Option, Some, get_or, set}
use Rattle.std.specs.Prelude.{All, slice_get, slice_set}
use Rattle.std.proofs.lemmas.List.{set-set, set-get_or, get_or-set_same, length-set}
use Rattle.std.proofs.lemmas.Option.{slice_get_within, slice_get-get_or, get_or_from_slice_get}
use Rattle.std.proofs.lemmas.List.Elements.{All-head, All-tail}
use Rattle.flash_traits.specs.Losses.{Received, Datagram, Idle, End}
use Rattle.mav_frames.specs.Cut.{StreamPiece, Skipped, Whole, Cut, frames_in}
use Rattle.mav_frames.specs.Frames.{IsMessageOf, is_v2}
use Rattle.mav_messages.specs.declared.messages.Message.{Message}
use Rattle.mav_messages.specs.Messages.{FitsTypes}
use Rattle.mission_service.specs.declared.uploads.Target.{Target}
use Rattle.vehicle_core.specs.Vehicle.{Asked, Asks}
use Rattle.vehicle_core.specs.Acts.{Act, heard_as, Said}
use Rattle.vehicle_runs.specs.Reading.{no_rests, sender_in, IsSilent, AreSaid, streams, beats, IsEvent, Reads, IsHeard}
use Rattle.vehicle_runs.specs.Laws.{FramesAreRead, IsInRange, EventsAreRead, EventsAreReadOnce}
use Rattle.vehicle_runs.proofs.LawsBelow.{cut_any, cut_once, cut_more}

frames_in-append : (ps qs : List StreamPiece) → frames_in (ps ++ qs) ≡ frames_in ps ++ frames_in qs
frames_in-append [] qs = refl
frames_in-append (Skipped byte ∷ ps) qs = frames_in-append ps qs
frames_in-append (Whole f ∷ ps) qs = ap (λ (l : List (List ℕ)). f ∷ l) (frames_in-append ps qs)

said-append : (station : ℕ) (xs ys : List (List ℕ)) (ps qs : List Act) → AreSaid station xs ps → AreSaid station ys qs → AreSaid station (xs ++ ys) (ps ++ qs)
said-append station [] ys ps qs a c = subst (λ (l : List Act). AreSaid station ys (l ++ qs)) (sym a) c
said-append station (x ∷ xs) ys ps qs a c = elim a [
  | inl silent ↦ inl (silent.0, said-append station xs ys ps qs silent.1 c)
  | inr says ↦ inr (says.0, says.1 ++ qs, says.2, said-append station xs ys says.1 qs says.3 c, ap (λ (l : List Act). l ++ qs) says.4)
]

-- a station's rest in the list of all
rest_set : (rests : List (List ℕ)) (station : ℕ) (old new : List ℕ) → slice_get rests station ≡ Some old → slice_get (slice_set rests station new) station ≡ Some new
rest_set rests station old new is =
    let in_it = slice_get_within rests station old is in
    slice_get-get_or (set rests station new) station [] (omega (arith, length-set rests station new, in_it)) ∙ ap Some (get_or-set_same rests station new [] in_it)

pub rest_kept : (rests : List (List ℕ)) (station : ℕ) (old : List ℕ) → slice_get rests station ≡ Some old → slice_set rests station old ≡ rests
rest_kept rests station old is =
    ap (λ (l : List ℕ). set rests station l) (sym (get_or_from_slice_get rests station old [] is)) ∙ set-get_or rests station []

pub heard_nothing : (rests : List (List ℕ)) (station : ℕ) (rest : List ℕ) → slice_get rests station ≡ Some rest → Cut rest [] rest → IsHeard station [] rests [] rests
heard_nothing rests station rest is cut = record {
  rest = rest;
  rest_is = is;
  pieces = [];
  new_rest = rest;
  cut = subst (λ (l : List ℕ). Cut l [] rest) (sym (append-nil rest)) cut;
  are_said = refl;
  new_is = sym (rest_kept rests station rest is);
}

some_is : (x y : List ℕ) → Some x ≡ Some y → x ≡ y
some_is x y is = cc

pub heard_more : (station : ℕ) (xs ys : List ℕ) (old mid new : List (List ℕ)) (ps qs : List Act) → IsHeard station xs old ps mid → IsHeard station ys mid qs new → IsHeard station (xs ++ ys) old (ps ++ qs) new
heard_more station xs ys old mid new ps qs h k = record {
  rest = h.rest;
  rest_is = h.rest_is;
  pieces = h.pieces ++ k.pieces;
  new_rest = k.new_rest;
  cut = subst (λ (l : List ℕ). Cut l (h.pieces ++ k.pieces) k.new_rest) (append_assoc h.rest xs ys)
      (cut_more (h.rest ++ xs) ys h.new_rest k.new_rest h.pieces k.pieces h.cut (subst (λ (l : List ℕ). Cut (l ++ ys) k.pieces k.new_rest) (sym same) k.cut));
  are_said = subst (λ (l : List (List ℕ)). AreSaid station l (ps ++ qs)) (sym (frames_in-append h.pieces k.pieces)) (said-append station (frames_in h.pieces) (frames_in k.pieces) ps qs h.are_said k.are_said);
  new_is = k.new_is ∙ ap (λ (l : List (List ℕ)). slice_set l station k.new_rest) h.new_is ∙ set-set old station h.new_rest k.new_rest;
}
  where
    same : h.new_rest ≡ k.rest
    same = some_is h.new_rest k.rest (sym (rest_set old station h.rest h.new_rest h.rest_is) ∙ ap (λ (l : List (List ℕ)). slice_get l station) (sym h.new_is) ∙ k.rest_is)

pub heard_datagram : (station : ℕ) (bytes : List ℕ) (old new : List (List ℕ)) (said : List Act) → IsHeard station bytes old said new → IsEvent old (Datagram station bytes) (said ++ streams) new
heard_datagram station bytes old new said h = record {
  said = said;
  heard = h;
  acts_are = refl;
}

-- all frames are read
said_any : FramesAreRead → (station : ℕ) (frames : List (List ℕ)) → (said : List Act) × AreSaid station frames said
said_any read station [] = ([], refl)
said_any read station (bytes ∷ frames) =
    let more = said_any read station frames in
    elim (read.any bytes) [
      | inl silent ↦ (more.0, inl (silent, more.1))
      | inr says ↦ (Said station (heard_as (is_v2 bytes) says.0) ∷ more.0, inr (says.0, more.0, says.1, more.1, refl))
    ]

pub record CanHear (station : ℕ) (bytes : List ℕ) (old : List (List ℕ)) : Type 0 where
  pub said : List Act
  pub new : List (List ℕ)
  pub heard : IsHeard station bytes old said new

pub can_hear : FramesAreRead → (station : ℕ) (bytes : List ℕ) (old : List (List ℕ)) (rest : List ℕ) → slice_get old station ≡ Some rest → CanHear station bytes old
can_hear read station bytes old rest is =
    let cut = cut_any (rest ++ bytes) in
    let said = said_any read station (frames_in cut.0) in
    record {
      said = said.0;
      new = slice_set old station cut.1;
      heard = record { rest = rest; rest_is = is; pieces = cut.0; new_rest = cut.1; cut = cut.2; are_said = said.1; new_is = refl };
    }

-- where a prefix of the bytes was heard, all can be
pub can_hear_more : FramesAreRead → (station : ℕ) (first more : List ℕ) (old mid : List (List ℕ)) (said : List Act) → IsHeard station first old said mid → CanHear station more mid
can_hear_more read station first more old mid said h =
    can_hear read station more mid h.new_rest (ap (λ (l : List (List ℕ)). slice_get l station) h.new_is ∙ rest_set old station h.rest h.new_rest h.rest_is)

pub record CanRead (event : Received) (old : List (List ℕ)) : Type 0 where
  pub acts : List Act
  pub new : List (List ℕ)
  pub reads : IsEvent old event acts new
  pub size : length new ≡ length old

rest_at : (old : List (List ℕ)) (station : ℕ) → station < length old → slice_get old station ≡ Some (get_or old station [])
rest_at old station lt = slice_get-get_or old station [] lt

pub event_any : FramesAreRead → (event : Received) (old : List (List ℕ)) → IsInRange event → length old ≡ 8 → CanRead event old
event_any read (Datagram station bytes) old in_range size =
    let h = can_hear read station bytes old (get_or old station []) (rest_at old station (omega (arith, in_range, size))) in
    record {
      acts = h.said ++ streams;
      new = h.new;
      reads = heard_datagram station bytes old h.new h.said h.heard;
      size = ap length h.heard.new_is ∙ length-set old station h.heard.new_rest;
    }
event_any read Idle old in_range size = record { acts = beats ++ streams; new = old; reads = (refl, refl); size = refl }
event_any read End old in_range size = record { acts = []; new = old; reads = (refl, refl); size = refl }

any_from : FramesAreRead → (events : List Received) (old : List (List ℕ)) → All IsInRange events → length old ≡ 8 → (acts : List (List Act)) × (rests : List (List ℕ)) × Reads old events acts rests
any_from read [] old in_range size = ([], old, (refl, refl))
any_from read (e ∷ es) old in_range size =
    let one = event_any read e old (All-head IsInRange e es in_range) size in
    let more = any_from read es one.new (All-tail IsInRange e es in_range) (one.size ∙ size) in
    (one.acts ∷ more.0, more.1, (one.acts, one.new, more.0, one.reads, more.2, refl))

pub events_are_read : FramesAreRead → EventsAreRead
events_are_read read events in_range = any_from read events no_rests in_range refl

-- frames are read in one way
said_once : FramesAreRead → (station : ℕ) (frames : List (List ℕ)) (ps qs : List Act) → AreSaid station frames ps → AreSaid station frames qs → ps ≡ qs
said_once read station [] ps qs a c = a ∙ sym c
said_once read station (bytes ∷ frames) ps qs a c = elim a [
  | inl silent ↦ elim c [
    | inl other ↦ said_once read station frames ps qs silent.1 other.1
    | inr says ↦ absurd (silent.0 says.2.message says.2.fits says.2.is)
  ]
  | inr says ↦ elim c [
    | inl other ↦ absurd (other.0 says.2.message says.2.fits says.2.is)
    | inr too ↦
        let tails : says.1 ≡ too.1 = said_once read station frames says.1 too.1 says.3 too.3 in
        let heads : says.0 ≡ too.0 = read.one bytes says.0 too.0 says.2 too.2 in
        let acts : ps ≡ Said station (heard_as (is_v2 bytes) says.0) ∷ says.1 = says.4 in
        let others : qs ≡ Said station (heard_as (is_v2 bytes) too.0) ∷ too.1 = too.4 in
        cc
  ]
]

event_once : FramesAreRead → (event : Received) (old : List (List ℕ)) (ps qs : List Act) (new left : List (List ℕ)) → IsEvent old event ps new → IsEvent old event qs left → (ps ≡ qs) × (new ≡ left)
event_once read (Datagram station bytes) old ps qs new left a c =
    let same : a.heard.rest ≡ c.heard.rest = some_is a.heard.rest c.heard.rest (sym a.heard.rest_is ∙ c.heard.rest_is) in
    let cuts = cut_once (a.heard.rest ++ bytes) a.heard.pieces c.heard.pieces a.heard.new_rest c.heard.new_rest a.heard.cut (subst (λ (l : List ℕ). Cut (l ++ bytes) c.heard.pieces c.heard.new_rest) (sym same) c.heard.cut) in
    let said = said_once read station (frames_in a.heard.pieces) a.said c.said a.heard.are_said (subst (λ (l : List StreamPiece). AreSaid station (frames_in l) c.said) (sym cuts.0) c.heard.are_said) in (
      a.acts_are ∙ ap (λ (l : List Act). l ++ streams) said ∙ sym c.acts_are,
      a.heard.new_is ∙ ap (λ (l : List ℕ). slice_set old station l) cuts.1 ∙ sym c.heard.new_is,
    )
event_once read Idle old ps qs new left a c = (a.0 ∙ sym c.0, a.1 ∙ sym c.1)
event_once read End old ps qs new left a c = (a.0 ∙ sym c.0, a.1 ∙ sym c.1)

once_from : FramesAreRead → (events : List Received) (old : List (List ℕ)) (acts others : List (List Act)) (rests left : List (List ℕ)) → Reads old events acts rests → Reads old events others left → (acts ≡ others) × (rests ≡ left)
once_from read [] old acts others rests left a c = (a.0 ∙ sym c.0, a.1 ∙ sym c.1)
once_from read (e ∷ es) old acts others rests left a c =
    let one = event_once read e old a.0 c.0 a.1 c.1 a.3 c.3 in
    let more = once_from read es a.1 a.2 c.2 rests left a.4 (subst (λ (l : List (List ℕ)). Reads l es c.2 left) (sym one.1) c.4) in (
      a.5 ∙ ap (λ (l : List Act). l ∷ a.2) one.0 ∙ ap (λ (l : List (List Act)). c.0 ∷ l) more.0 ∙ sym c.5,
      more.1,
    )

pub events_are_read_once : FramesAreRead → EventsAreReadOnce
events_are_read_once read events acts others rests left a c = once_from read events no_rests acts others rests left a c

-- one event more
pub reads_push : (es : List Received) (e : Received) (old mid new : List (List ℕ)) (events : List (List Act)) (acts : List Act) → Reads old es events mid → IsEvent mid e acts new → Reads old (es ++ e ∷ []) (events ++ acts ∷ []) new
reads_push [] e old mid new events acts a one =
    (acts, new, [], subst (λ (l : List (List ℕ)). IsEvent l e acts new) a.1 one, (refl, refl), ap (λ (l : List (List Act)). l ++ acts ∷ []) a.0)
reads_push (x ∷ es) e old mid new events acts a one =
    (a.0, a.1, a.2 ++ acts ∷ [], a.3, reads_push es e a.1 mid new a.2 acts a.4 one, ap (λ (l : List (List Act)). l ++ acts ∷ []) a.5)

pub reads_long : (es : List Received) (old new : List (List ℕ)) (events : List (List Act)) → Reads old es events new → length events ≡ length es
reads_long [] old new events a = ap length a.0
reads_long (e ∷ es) old new events a = omega (arith, ap length a.5, reads_long es a.1 new a.2 a.4)

-- by the laws of messages
pub frames_are_read :
    ((bytes : List ℕ) → ((message : Message) × FitsTypes message × IsMessageOf bytes message) ⊎ IsSilent bytes)
    → ((bytes : List ℕ) (m n : Message) → FitsTypes m → FitsTypes n → IsMessageOf bytes m → IsMessageOf bytes n → m ≡ n)
    → ((sender : Target) (message : Message) → (asked : Option Asked) × Asks sender message asked)
    → ((sender : Target) (message : Message) (a b : Option Asked) → Asks sender message a → Asks sender message b → a ≡ b)
    → FramesAreRead
frames_are_read any one asks asks_one = record {
  any = λ bytes. elim (any bytes) [
    | inl m ↦ (let found = asks (sender_in bytes) m.0 in inr (found.0, record { message = m.0; is = m.2; fits = m.1; asks = found.1 }))
    | inr silent ↦ inl silent
  ];
  one = λ bytes a b p q. asks_one (sender_in bytes) p.message a b p.asks (subst (λ (m : Message). Asks (sender_in bytes) m b) (one bytes q.message p.message q.fits p.fits q.is p.is) q.asks);
}

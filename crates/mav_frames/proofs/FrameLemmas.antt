-- A frame that is written reads as what was written.
use Rattle.std.proofs.Common.{◌≡◌, inl, inr, ℕ, ◌+◌, ◌-◌, ◌^◌, ◌<◌, Bool, true, false, List, [], ◌∷◌, ◌++◌, length, drop, refl, sym, ◌∙◌, ap, subst, arith, Some, option_map}
use Rattle.std.proofs.lemmas.List.{take_at, drop_at, length-append}
use Rattle.byteorder.specs.Endian.{little_number, little_bytes}
use Rattle.byteorder.specs.Numbers.{little_number-reads_back, length-bytes_low_first}
use Rattle.mav_crc.specs.Register.{crc_of}
use Rattle.mav_messages.specs.declared.messages.Message.{Message}
use Rattle.mav_messages.specs.Fields.{Description}
use Rattle.mav_messages.specs.Descriptions.{described}
use Rattle.mav_messages.specs.Messages.{SaysMessage}
use Rattle.mav_frames.specs.declared.frames.Frame.{Frame}
use Rattle.mav_frames.specs.Cut.{IsFrame}
use Rattle.mav_frames.specs.Frames.{flags_of, id_of, payload_of, covered, crc_in, IsReadFrom, IsMessageOf, head_bytes, framed}

pub record Reads (body crc : List ℕ) (id : ℕ) (payload : List ℕ) : Type 0 where
  pub frame : IsFrame (body ++ crc)
  pub id_is : id_of (body ++ crc) ≡ id
  pub payload_is : payload_of (body ++ crc) ≡ payload
  pub flags : flags_of (body ++ crc) ≡ 0
  pub covers : covered (body ++ crc) ≡ drop 1 body
  pub crc_is : crc_in (body ++ crc) ≡ little_number 2 crc

pub reads : (v2 : Bool) (seq system component id : ℕ) (payload crc : List ℕ) → length crc ≡ 2 → id < 256 ^ 3
    → Reads (head_bytes v2 (length payload) seq system component id ++ payload) crc id payload
reads true seq system component id payload crc two small =
    let n = length-append payload crc in
    record {
      frame = record { start = inr refl; whole = omega (arith, n, two) };
      id_is = little_number-reads_back 3 id (payload ++ crc) small;
      payload_is = take_at payload crc (length payload) refl;
      flags = refl;
      covers = take_at (drop 1 (head_bytes true (length payload) seq system component id ++ payload)) crc (10 + length payload - 1) (omega arith);
      crc_is = ap (little_number 2) (drop_at (head_bytes true (length payload) seq system component id ++ payload) crc (10 + length payload) (omega arith));
    }
reads false seq system component id payload crc two small =
    let n = length-append payload crc in
    record {
      frame = record { start = inl refl; whole = omega (arith, n, two) };
      id_is = refl;
      payload_is = take_at payload crc (length payload) refl;
      flags = refl;
      covers = take_at (drop 1 (head_bytes false (length payload) seq system component id ++ payload)) crc (6 + length payload - 1) (omega arith);
      crc_is = ap (little_number 2) (drop_at (head_bytes false (length payload) seq system component id ++ payload) crc (6 + length payload) (omega arith));
    }

pub read_of : (body crc : List ℕ) (id : ℕ) (payload : List ℕ) (m : Message) (extra value : ℕ) → Reads body crc id payload
    → option_map (λ (d : Description). d.extra) (described id) ≡ Some extra
    → value ≡ crc_of (crc_of 0xFFFF (drop 1 body)) (extra ∷ []) → value < 2 ^ 16 → crc ≡ little_bytes 2 value
    → SaysMessage id payload m → IsMessageOf (body ++ crc) m
read_of body crc id payload m extra value r listed is small bytes says =
    let v : little_number 2 crc ≡ value = ap (little_number 2) bytes ∙ little_number-reads_back 2 value [] small in
    record {
      right = record {
        extra = extra;
        listed = ap (λ (n : ℕ). option_map (λ (d : Description). d.extra) (described n)) r.id_is ∙ listed;
        agrees = r.crc_is ∙ v ∙ is ∙ ap (λ (l : List ℕ). crc_of (crc_of 0xFFFF l) (extra ∷ [])) (sym r.covers);
        known = let f = r.flags in omega arith;
      };
      says = subst (λ (n : ℕ). SaysMessage n (payload_of (body ++ crc)) m) (sym r.id_is) (subst (λ (l : List ℕ). SaysMessage id l m) (sym r.payload_is) says);
    }

pub written : (v2 : Bool) (seq system component id count extra : ℕ) (m : Message) (payload head body bytes : List ℕ)
    → count ≡ length payload → head ≡ head_bytes v2 count seq system component id → body ≡ head ++ payload → bytes ≡ framed body extra
    → id < 2 ^ 24 → crc_of (crc_of 0xFFFF (drop 1 body)) (extra ∷ []) < 2 ^ 16
    → option_map (λ (d : Description). d.extra) (described id) ≡ Some extra → SaysMessage id payload m → IsFrame bytes × IsMessageOf bytes m
written v2 seq system component id count extra m payload head body bytes n h b w small fits listed says =
    let value = crc_of (crc_of 0xFFFF (drop 1 body)) (extra ∷ []) in
    let crc = little_bytes 2 value in
    let e : body ≡ head_bytes v2 (length payload) seq system component id ++ payload
    = b ∙ ap (λ (l : List ℕ). l ++ payload) (h ∙ ap (λ (c : ℕ). head_bytes v2 c seq system component id) n) in
    let two : length crc ≡ 2 = length-bytes_low_first 0 2 value in
    let r : Reads body crc id payload = subst (λ (l : List ℕ). Reads l crc id payload) (sym e) (reads v2 seq system component id payload crc two (omega arith)) in
    (subst IsFrame (sym w) r.frame, subst (λ (l : List ℕ). IsMessageOf l m) (sym w) (read_of body crc id payload m extra value r listed refl fits refl says))

-- what was read from a frame of the message says the message
pub says_at : (bytes payload : List ℕ) (f : Frame) (m : Message) → IsReadFrom bytes f → payload ≡ f.payload.items → IsMessageOf bytes m → SaysMessage f.id payload m
says_at bytes payload f m read e of =
    subst (λ (n : ℕ). SaysMessage n payload m) (sym read.id) (subst (λ (l : List ℕ). SaysMessage (id_of bytes) l m) (sym (e ∙ read.payload)) of.says)

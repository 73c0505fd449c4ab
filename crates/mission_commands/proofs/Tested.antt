-- The rules, one after another.
use Rattle.std.proofs.Common.{◌≡◌, ◌≢◌, ℕ, ◌≤◌, ◌+◌, ◌*◌, ◌/◌, ◌%◌, ◌<◌, List, [], ◌∷◌, ◌++◌, length, get_or, IsTrue, refl, ap, sym, ◌∙◌, subst, inl, inr, arith}
use Rattle.std.proofs.Common.{Bool, true, length-append, replicate}
use Rattle.mission_commands.specs.declared.table.Row.{Row}
use Rattle.mission_commands.specs.declared.table.Use.{Use}
use Rattle.mission_commands.specs.declared.table.Use.TheVariants.{Unused, Whole, Signed, Pattern}
use Rattle.mission_commands.specs.declared.table.Shape.{Shape}
use Rattle.mission_commands.specs.declared.table.Shape.TheVariants.{Located, Plain, Unlisted}
use Rattle.mission_commands.specs.declared.commands.Item.{Item}
use Rattle.mission_commands.specs.declared.commands.Command.{Command}
use Rattle.storage_lines.specs.Numbers.{bytes_of_number}
use Rattle.mission_commands.specs.Rows.{IsRow, stored_width}
use Rattle.mission_commands.specs.Table.{row_of}
use Rattle.mission_commands.specs.Commands.{Rule, Meets, MeetsAll, FailsWith, IfLocated, IsListed, has_location, is_frame, StoredAs, IsPacked, IsLocation, IsStored, IsRest, parameter_bytes, filled_to, param_rules, location_rules, item_rules}
use Rattle.storage_lines.proofs.NumberLemmas.{length-bytes_of, bytes_of-next}

pub if_located : (s : Shape) (P : Type 0) → IsTrue (has_location s) → P → IfLocated s P
if_located Located P h p = p
if_located Plain P h p = tt
if_located Unlisted P h p = tt

pub if_plain : (s : Shape) (P : Type 0) → s ≡ Plain → IfLocated s P
if_plain s P e = rw e tt

pub listed : (s : Shape) → s ≢ Unlisted → IsListed s
listed Located h = tt
listed Plain h = tt
listed Unlisted h = h refl

pub located : (s : Shape) → s ≢ Unlisted → s ≢ Plain → s ≡ Located
located Located h k = refl
located Plain h k = absurd (k refl)
located Unlisted h k = absurd (h refl)

pub MeetsAll-append : (meets : Rule → Type 0) (rs ss : List Rule) → MeetsAll meets rs → MeetsAll meets ss → MeetsAll meets (rs ++ ss)
MeetsAll-append meets [] ss h k = k
MeetsAll-append meets (r ∷ rs) ss h k = (h.0, MeetsAll-append meets rs ss h.1 k)

pub FailsWith-front : (meets : Rule → Type 0) (rs ss : List Rule) (e : ℕ) → FailsWith meets rs e → FailsWith meets (rs ++ ss) e
FailsWith-front meets [] ss e h = absurd h
FailsWith-front meets (r ∷ rs) ss e h = elim h [ inl w ↦ inl w | inr w ↦ inr (w.0, FailsWith-front meets rs ss e w.1) ]

pub FailsWith-back : (meets : Rule → Type 0) (rs ss : List Rule) (e : ℕ) → MeetsAll meets rs → FailsWith meets ss e → FailsWith meets (rs ++ ss) e
FailsWith-back meets [] ss e h k = k
FailsWith-back meets (r ∷ rs) ss e h k = inr (h.0, FailsWith-back meets rs ss e h.1 k)

pub length-StoredAs : (u : Use) (bits : ℕ) (part : List ℕ) → StoredAs u bits part → length part ≡ stored_width u
length-StoredAs Unused bits part h = rw h refl
length-StoredAs (Whole low high width) bits part h = ap length h.2 ∙ length-bytes_of width _
length-StoredAs (Signed high width) bits part h = ap length h.2 ∙ length-bytes_of width _
length-StoredAs Pattern bits part h = ap length h ∙ length-bytes_of 4 bits

-- two bytes, and the zeros that are thought to follow
zeros : bytes_of_number 10 0 ≡ replicate 10 0
unfolding bytes_of_number
zeros = refl

two_bytes : (a b : ℕ) → a < 256 → b < 256 → bytes_of_number 12 (a + 256 * b) ≡ a ∷ b ∷ replicate 10 0
two_bytes a b p q =
    let low : (a + 256 * b) % 256 ≡ a = omega arith in
    let high : ((a + 256 * b) / 256) % 256 ≡ b = omega arith in
    let none : (a + 256 * b) / 256 / 256 ≡ 0 = omega arith in
    bytes_of-next 12 11 (a + 256 * b) refl ∙ (ap (λ t. ((a + 256 * b) % 256) ∷ t) (bytes_of-next 11 10 ((a + 256 * b) / 256) refl)) ∙ (rw (low, high, none, zeros) refl)

small : (n : ℕ) → n < 65536 → (n % 256) ∷ (n / 256) ∷ replicate 10 0 ≡ bytes_of_number 12 n
small n h =
    let low : n % 256 < 256 = omega arith in
    let high : n / 256 < 256 = omega arith in
    let whole : (n % 256) + 256 * (n / 256) ≡ n = omega arith in
    sym (two_bytes (n % 256) (n / 256) low high) ∙ ap (bytes_of_number 12) whole

pub head_bytes : (xs : List ℕ) (a b : ℕ) → length xs ≤ 2 → a ≡ get_or (filled_to 12 xs) 0 0 → b ≡ get_or (filled_to 12 xs) 1 0 → a < 256 → b < 256 → bytes_of_number 12 (a + 256 * b) ≡ filled_to 12 xs
head_bytes [] a b h e f p q = two_bytes a b p q ∙ (rw (e, f) refl)
head_bytes (x ∷ []) a b h e f p q = two_bytes a b p q ∙ (rw (e, f) refl)
head_bytes (x ∷ y ∷ []) a b h e f p q = two_bytes a b p q ∙ (rw (e, f) refl)
head_bytes (x ∷ y ∷ z ∷ xs) a b h e f p q = absurd (omega (arith, h))

is_true : (b : Bool) → b ≡ true → IsTrue b
is_true b e = e

-- the answers of an item, from those of its parts
pub fails_packing : (item : Item) (row : Row) (e : ℕ) → row ≡ row_of item.command → row.shape ≢ Unlisted → is_frame row.shape item.frame ≡ true
    → FailsWith (Meets item row) param_rules e → FailsWith (Meets item (row_of item.command)) item_rules e
fails_packing item row e same known framed h =
    subst (λ r. FailsWith (Meets item r) item_rules e) same
    (inr (listed row.shape known, inr (is_true (is_frame row.shape item.frame) framed, FailsWith-front (Meets item row) param_rules location_rules e h)))

pub fails_placing : (item : Item) (row : Row) (e : ℕ) → row ≡ row_of item.command → row.shape ≢ Unlisted → is_frame row.shape item.frame ≡ true
    → MeetsAll (Meets item row) param_rules → FailsWith (Meets item row) location_rules e → FailsWith (Meets item (row_of item.command)) item_rules e
fails_placing item row e same known framed before h =
    subst (λ r. FailsWith (Meets item r) item_rules e) same
    (inr (listed row.shape known, inr (is_true (is_frame row.shape item.frame) framed, FailsWith-back (Meets item row) param_rules location_rules e before h)))

packed_small : (row : Row) (item : Item) (bytes : List ℕ) → IsRow row → row.shape ≡ Located → (p : IsPacked row item bytes) → length (p.first ++ p.second ++ p.third ++ p.fourth) ≤ 2
packed_small row item bytes sound shape p =
    let a = length-StoredAs row.param1 item.param1 p.first p.stored1 in
    let b = length-StoredAs row.param2 item.param2 p.second p.stored2 in
    let c = length-StoredAs row.param3 item.param3 p.third p.stored3 in
    let d = length-StoredAs row.param4 item.param4 p.fourth p.stored4 in
    let room : stored_width row.param1 + stored_width row.param2 + stored_width row.param3 + stored_width row.param4 ≤ 2 = rw shape at sound.room in
    omega (arith, length-append {A = ℕ})

-- p1 shows the bytes that stand before a location
pub packed_head : (row : Row) (item : Item) (bytes : List ℕ) → IsRow row → row.shape ≡ Located → IsPacked row item bytes
    → get_or bytes 0 0 < 256 → get_or bytes 1 0 < 256 → IsPacked row item (bytes_of_number 12 (get_or bytes 0 0 + 256 * get_or bytes 1 0))
packed_head row item bytes sound shape p low high =
    let e = head_bytes (p.first ++ p.second ++ p.third ++ p.fourth) (get_or bytes 0 0) (get_or bytes 1 0) (packed_small row item bytes sound shape p) (ap (λ t. get_or t 0 0) p.together) (ap (λ t. get_or t 1 0) p.together) low high in
    record { first = p.first; second = p.second; third = p.third; fourth = p.fourth; stored1 = p.stored1; stored2 = p.stored2; stored3 = p.stored3; stored4 = p.stored4; together = e }

pub placed : (item : Item) (row : Row) (bytes content : List ℕ) → IsRow row → row ≡ row_of item.command → row.shape ≢ Unlisted → row.shape ≢ Plain → is_frame row.shape item.frame ≡ true
    → MeetsAll (Meets item row) param_rules → IsPacked row item bytes → MeetsAll (Meets item row) location_rules → IsLocation row item content
    → get_or bytes 0 0 < 256 → get_or bytes 1 0 < 256
    → MeetsAll (Meets item (row_of item.command)) item_rules × IsStored item (record { id = item.command; p1 = get_or bytes 0 0 + 256 * get_or bytes 1 0; content = content })
placed item row bytes content sound same known sited framed before p after l low high =
    let shape = located row.shape known sited in
    let whole : MeetsAll (Meets item row) item_rules = (listed row.shape known, (is_true (is_frame row.shape item.frame) framed, MeetsAll-append (Meets item row) param_rules location_rules before after)) in
    let shape' : (row_of item.command).shape ≡ Located = rw (← same) shape in (
      subst (λ r. MeetsAll (Meets item r) item_rules) same whole,
      record {
        id = refl;
        p1 = omega arith;
        params = subst (λ s. IsPacked (row_of item.command) item (parameter_bytes s (record { id = item.command; p1 = get_or bytes 0 0 + 256 * get_or bytes 1 0; content = content }))) (sym shape') (subst (λ r. IsPacked r item (bytes_of_number 12 (get_or bytes 0 0 + 256 * get_or bytes 1 0))) same (packed_head row item bytes sound shape p low high));
        rest = subst (λ s. IsRest s item (record { id = item.command; p1 = get_or bytes 0 0 + 256 * get_or bytes 1 0; content = content })) (sym shape') (subst (λ r. IsLocation r item content) same l);
      },
    )

pub params_before : (s : Shape) (c : Command) → s ≢ Plain → c.p1 < 65536 → (c.p1 % 256) ∷ (c.p1 / 256) ∷ replicate 10 0 ≡ parameter_bytes s c
params_before Located c h k = small c.p1 k
params_before Plain c h k = absurd (h refl)
params_before Unlisted c h k = small c.p1 k

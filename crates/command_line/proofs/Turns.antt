-- One step of clap's walk, for each kind of word.
use Rattle.std.proofs.Common.{◌≡◌, ℕ, List, [], ◌∷◌, refl, ap, Bool, true, false, codes, Option, Some, None}
use Rattle.std.specs.Prelude.{slice_get}
use Rattle.std.specs.Str.{bytes_eq, chars}
use Rattle.std.proofs.lemmas.Slice.Eq.{bytes_eq-Decides}
use Rattle.clap.specs.Lexer.{long_of, short_of}
use Rattle.clap.specs.Walk.{Held, Row, Waiting, idle, positional, option, is_empty, pushed, settled, used, walked}
use Rattle.clap.specs.Simple.{Shape}
use Rattle.clap.specs.Kinds.{Kinds, or_else}
use Rattle.clap.specs.Faults.{flags_fault, settle_fault, turn_fault}
use Rattle.command_line.specs.Arguments.{Text, is_named}
use Rattle.command_line.proofs.Classes.{Knows, option_rule, at, holding, waits_by, image_fault, image_held}

module _ (names : List Text) (s : Shape) (k : Knows names s.rules) where
  abbrev calm : Held → Kinds
  calm h = settle_fault s.rules s.args_override_self h

  -- a word for a positional
  pub operand_turn : (b : Bool) (h : Held) (word : Text) → bytes_eq word (45 ∷ 45 ∷ []) ≡ false
      → long_of word ≡ None → short_of word ≡ None
      → turn_fault s [] (at h (waits_by b) false) word ≡ calm h
  operand_turn true h word e l t = rw (e, l, t, k.by_index) (image_fault s.rules s.args_override_self h)
  operand_turn false h word e l t = rw (e, l, t, k.by_index) (image_fault s.rules s.args_override_self h)

  pub operand_next : (b : Bool) (h : Held) (word : Text) → bytes_eq word (45 ∷ 45 ∷ []) ≡ false
      → long_of word ≡ None → short_of word ≡ None
      → walked s.rules [] (at h (waits_by b) false) word ≡ at (pushed (codes "IMAGE") word (settled s.rules h)) positional false
  unfolding walked
  operand_next true h word e l t =
      rw (e, l, t, k.by_index) (ap (λ (g : Held). at g positional false) (image_held s.rules word h))
  operand_next false h word e l t =
      rw (e, l, t, k.by_index) (ap (λ (g : Held). at g positional false) (image_held s.rules word h))

  -- a word after `--`
  pub trailing_turn : (w : Waiting) (h : Held) (word : Text) → turn_fault s [] (at h w true) word ≡ calm h
  trailing_turn w h word = rw (k.by_index) (image_fault s.rules s.args_override_self h)

  pub trailing_next : (w : Waiting) (h : Held) (word : Text)
      → walked s.rules [] (at h w true) word ≡ at (pushed (codes "IMAGE") word (settled s.rules h)) positional true
  unfolding walked
  trailing_next w h word = rw (k.by_index) (ap (λ (g : Held). at g positional true) (image_held s.rules word h))

  -- `--`
  pub end_turn : (w : Waiting) (h : Held) (word : Text) → bytes_eq word (45 ∷ 45 ∷ []) ≡ true
      → turn_fault s [] (at h w false) word ≡ []
  end_turn idle h word e = rw e refl
  end_turn positional h word e = rw e refl
  end_turn (option id) h word e = rw e refl

  pub end_next : (w : Waiting) (h : Held) (word : Text) → bytes_eq word (45 ∷ 45 ∷ []) ≡ true
      → walked s.rules [] (at h w false) word ≡ at h w true
  unfolding walked
  end_next idle h word e = rw e refl
  end_next positional h word e = rw e refl
  end_next (option id) h word e = rw e refl

  -- `--name=value`
  pub gives_turn : (w : Waiting) (h : Held) (word name value : Text) → bytes_eq word (45 ∷ 45 ∷ []) ≡ false
      → long_of word ≡ Some (name, Some value)
      → is_named names name ≡ true → turn_fault s [] (at h w false) word ≡ or_else (or_else (calm h) []) []
  gives_turn idle h word name value e l n = rw (e, l, k.by_long name n) refl
  gives_turn positional h word name value e l n = rw (e, l, k.by_long name n) refl
  gives_turn (option id) h word name value e l n = rw (e, l, k.by_long name n) refl

  pub gives_next : (w : Waiting) (h : Held) (word name value : Text) → bytes_eq word (45 ∷ 45 ∷ []) ≡ false
      → long_of word ≡ Some (name, Some value)
      → is_named names name ≡ true
      → walked s.rules [] (at h w false) word ≡ at (record h { rows = used (option_rule name) (value ∷ []) (settled s.rules h).rows; pending = None }) idle false
  unfolding walked
  gives_next idle h word name value e l n = rw (e, l, k.by_long name n) refl
  gives_next positional h word name value e l n = rw (e, l, k.by_long name n) refl
  gives_next (option id) h word name value e l n = rw (e, l, k.by_long name n) refl

  -- `--name`
  pub opens_turn : (w : Waiting) (h : Held) (word name : Text) → bytes_eq word (45 ∷ 45 ∷ []) ≡ false
      → long_of word ≡ Some (name, None)
      → is_named names name ≡ true → turn_fault s [] (at h w false) word ≡ or_else (calm h) []
  opens_turn idle h word name e l n = rw (e, l, k.by_long name n) refl
  opens_turn positional h word name e l n = rw (e, l, k.by_long name n) refl
  opens_turn (option id) h word name e l n = rw (e, l, k.by_long name n) refl

  pub opens_next : (w : Waiting) (h : Held) (word name : Text) → bytes_eq word (45 ∷ 45 ∷ []) ≡ false
      → long_of word ≡ Some (name, None)
      → is_named names name ≡ true
      → walked s.rules [] (at h w false) word ≡ at (record (settled s.rules h) { pending = Some (name, []) }) (option name) false
  unfolding walked
  opens_next idle h word name e l n = rw (e, l, k.by_long name n) refl
  opens_next positional h word name e l n = rw (e, l, k.by_long name n) refl
  opens_next (option id) h word name e l n = rw (e, l, k.by_long name n) refl

  -- a name that no option has
  pub unknown_turn : (w : Waiting) (h : Held) (word name : Text) (value : Option Text)
      → bytes_eq word (45 ∷ 45 ∷ []) ≡ false → long_of word ≡ Some (name, value)
      → is_named names name ≡ false → is_empty (turn_fault s [] (at h w false) word) ≡ false
  unknown_turn idle h word name value e l n = rw (e, l, k.by_no_long name n) refl
  unknown_turn positional h word name value e l n = rw (e, l, k.by_no_long name n) refl
  unknown_turn (option id) h word name value e l n = rw (e, l, k.by_no_long name n) refl

  -- `-abc`
  pub short_turn : (w : Waiting) (rows : List Row) (pending : Option (Text × List Text)) (word : Text) (x : ℕ) (xs : Text) (first : ℕ)
      → bytes_eq word (45 ∷ 45 ∷ []) ≡ false → long_of word ≡ None → short_of word ≡ Some (x ∷ xs)
      → slice_get (chars (x ∷ xs)) 0 ≡ Some first
      → is_empty (turn_fault s [] (at (holding rows pending) w false) word) ≡ false
  unfolding flags_fault
  short_turn idle rows pending word x xs first e l t c = rw (e, l, t, c, k.by_short first) refl
  short_turn positional rows pending word x xs first e l t c = rw (e, l, t, c, k.by_short first) refl
  short_turn (option id) rows pending word x xs first e l t c = rw (e, l, t, c, k.by_short first) refl

  -- the value of the option that waits
  pub waited_turn : (rows : List Row) (name word : Text) → bytes_eq word (45 ∷ 45 ∷ []) ≡ false
      → long_of word ≡ None → short_of word ≡ None
      → is_named names name ≡ true
      → turn_fault s [] (at (holding rows (Some (name, []))) (option name) false) word ≡ []
  waited_turn rows name word e l t n = rw (e, l, t) refl

  pub waited_next : (rows : List Row) (name word : Text) → bytes_eq word (45 ∷ 45 ∷ []) ≡ false
      → long_of word ≡ None → short_of word ≡ None
      → is_named names name ≡ true
      → walked s.rules [] (at (holding rows (Some (name, []))) (option name) false) word ≡ at (holding rows (Some (name, word ∷ []))) idle false
  unfolding walked
  waited_next rows name word e l t n = rw (e, l, t, k.by_name name n, (bytes_eq-Decides name name).1 refl) refl

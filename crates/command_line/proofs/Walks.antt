-- clap's walk over any words comes to what the pieces say.
use Rattle.std.proofs.Common.{◌≡◌, ◌∙◌, ℕ, List, [], ◌∷◌, refl, sym, ap, subst, Bool, true, false, cond, codes, Option, Some, None, fold, map, arith, suc, true≢false}
use Rattle.std.specs.Prelude.{slice_get}
use Rattle.std.specs.Str.{bytes_eq, chars}
use Rattle.std.specs.List.{All}
use Rattle.clap.specs.Lexer.{long_of}
use Rattle.clap.specs.Walk.{Held, Row, Waiting, Walk, idle, positional, option, is_empty, settled, settled_rows, used, walked}
use Rattle.clap.specs.Simple.{Shape}
use Rattle.clap.specs.Kinds.{Kinds, or_else}
use Rattle.clap.specs.Faults.{settle_fault, turn_fault, walk_fault}
use Rattle.command_line.specs.Arguments.{Argument, Text, Role, refused, operand, option_value, arguments, arguments_from, arguments_waited, with_argument, role_of, is_named, option_role}
use Rattle.command_line.proofs.Classes.{Agrees, Class, class_of, is_operand, is_end, is_long, is_short, Knows, image_rule, option_rule, at, holding, put, waits_by, with_row}
use Rattle.command_line.proofs.Turns as turn

-- a character stands at the head of what follows a `-`
abbrev pub HasFirst : Text → Type 0
HasFirst word = (x : ℕ) (xs : Text) → word ≡ 45 ∷ x ∷ xs → (c : ℕ) × (slice_get (chars (x ∷ xs)) 0 ≡ Some c)

nil_after : (a : Kinds) → a ≡ [] → or_else (or_else a []) [] ≡ []
nil_after a e = rw e refl

full_first : (a b : Kinds) → is_empty a ≡ false → is_empty (or_else a b) ≡ false
full_first [] b e = absurd (true≢false e)
full_first (x ∷ xs) b e = e

pub argument_added : (p : Argument) (r : Option (List Argument)) (fault : Kinds) (start end : List Row)
    → Agrees r fault (with_row start p) end → Agrees (with_argument p r) fault start end
argument_added p None fault start end h = h
argument_added p (Some ps) fault start end h = h

module _ (names : List Text) (s : Shape) (k : Knows names s.rules) where
  abbrev pub fault_from : Walk → List Text → Kinds
  fault_from w words =
      or_else (walk_fault s [] w words) (settle_fault s.rules s.args_override_self (fold (walked s.rules []) w words).held)

  abbrev pub rows_from : Walk → List Text → List Row
  rows_from w words = (settled s.rules (fold (walked s.rules []) w words).held).rows

  abbrev pub Follows : Option (List Argument) → Walk → List Text → List Row → Type 0
  Follows r w words start = Agrees r (fault_from w words) start (rows_from w words)

  on : (r : Option (List Argument)) (w next : Walk) (word : Text) (rest : List Text) (start : List Row)
      → turn_fault s [] w word ≡ [] → walked s.rules [] w word ≡ next
      → Follows r next rest start → Follows r w (word ∷ rest) start
  unfolding walk_fault
  on r w next word rest start none is h =
      let P : Walk → Type 0 = λ v. Agrees r (or_else (walk_fault s [] v rest) (settle_fault s.rules s.args_override_self (fold (walked s.rules []) v rest).held)) start (settled s.rules (fold (walked s.rules []) v rest).held).rows in
      rw none (subst P (sym is) h)

  off : (w : Walk) (word : Text) (rest : List Text) → is_empty (turn_fault s [] w word) ≡ false
      → is_empty (fault_from w (word ∷ rest)) ≡ false
  unfolding walk_fault
  off w word rest h =
      full_first (or_else (turn_fault s [] w word) _) _ (full_first (turn_fault s [] w word) _ h)

  abbrev IsCalm : Held → Type 0
  IsCalm h = settle_fault s.rules s.args_override_self h ≡ []

  operand_calm : (rows : List Row) (word : Text) → IsCalm (holding rows (Some (codes "IMAGE", word ∷ [])))
  operand_calm rows word = rw k.by_image refl

  operand_rows : (rows : List Row) (word : Text)
      → settled_rows s.rules (Some (codes "IMAGE", word ∷ [])) rows ≡ used image_rule (word ∷ []) rows
  operand_rows rows word = rw k.by_image refl

  option_calm : (rows : List Row) (name word : Text) → is_named names name ≡ true
      → IsCalm (holding rows (Some (name, word ∷ [])))
  option_calm rows name word n = rw (k.by_name name n) refl

  option_rows : (rows : List Row) (name word : Text) → is_named names name ≡ true
      → settled_rows s.rules (Some (name, word ∷ [])) rows ≡ used (option_rule name) (word ∷ []) rows
  option_rows rows name word n = rw (k.by_name name n) refl

  -- an option that waits holds the walk up
  option_stuck : (rows : List Row) (name : Text) → is_named names name ≡ true
      → is_empty (settle_fault s.rules s.args_override_self (holding rows (Some (name, [])))) ≡ false
  option_stuck rows name n = rw (k.by_name name n) refl

  pub trailing : (words : List Text) (rows : List Row) (pending : Option (Text × List Text)) (w : Waiting)
      → IsCalm (holding rows pending)
      → Follows (Some (map (λ t. operand t) words)) (at (holding rows pending) w true) words (settled_rows s.rules pending rows)
  unfolding walk_fault
  trailing [] rows pending w calm = (calm, refl)
  trailing (word ∷ rest) rows pending w calm =
      on (Some (map (λ t. operand t) (word ∷ rest))) _ _ word rest (settled_rows s.rules pending rows)
      (turn.trailing_turn names s k w (holding rows pending) word ∙ calm)
      (turn.trailing_next names s k w (holding rows pending) word)
      (let h = trailing rest (settled_rows s.rules pending rows) (Some (codes "IMAGE", word ∷ [])) positional (operand_calm _ word) in
      (h.0, h.1 ∙ ap (λ (r : List Row). put r (map (λ t. operand t) rest)) (operand_rows _ word)))

  stuck : (words : List Text) (rows : List Row) (name : Text) (w : Waiting) → is_named names name ≡ true
      → is_empty (fault_from (at (holding rows (Some (name, []))) w true) words) ≡ false
  unfolding walk_fault
  stuck [] rows name w n = option_stuck rows name n
  stuck (word ∷ rest) rows name w n =
      off (at (holding rows (Some (name, []))) w true) word rest
      (rw (turn.trailing_turn names s k w (holding rows (Some (name, []))) word) (option_stuck rows name n))

  abbrev pub Calm : List Text → Type 0
  Calm words =
      (rows : List Row) (pending : Option (Text × List Text)) (b : Bool) → IsCalm (holding rows pending)
      → Follows (arguments names None words) (at (holding rows pending) (waits_by b) false) words (settled_rows s.rules pending rows)

  abbrev pub Open : List Text → Type 0
  Open words = (rows : List Row) (name : Text) → is_named names name ≡ true
      → Follows (arguments names (Some name) words) (at (holding rows (Some (name, []))) (option name) false) words rows

  abbrev Result : Role → Text → List Text → Option (List Argument)
  Result x word rest = arguments_from x word rest (λ waiting. arguments names waiting rest)

  module _ (word : Text) (rest : List Text) (below : Calm rest) (open_below : Open rest) where
    calm_named : (name : Text) (value : Option Text) (b : Bool) → is_named names name ≡ b
        → bytes_eq word (45 ∷ 45 ∷ []) ≡ false → long_of word ≡ Some (name, value)
        → (rows : List Row) (pending : Option (Text × List Text)) (c : Bool) → IsCalm (holding rows pending)
        → Follows (Result (cond b (option_role name value) refused) word rest) (at (holding rows pending) (waits_by c) false) (word ∷ rest) (settled_rows s.rules pending rows)
    calm_named name value false n e l rows pending c calm =
        off _ word rest (turn.unknown_turn names s k (waits_by c) (holding rows pending) word name value e l n)
    calm_named name None true n e l rows pending c calm =
        on (arguments names (Some name) rest) _ _ word rest _
        (turn.opens_turn names s k (waits_by c) (holding rows pending) word name e l n ∙ ap (λ a. or_else a []) calm)
        (turn.opens_next names s k (waits_by c) (holding rows pending) word name e l n)
        (open_below (settled_rows s.rules pending rows) name n)
    calm_named name (Some value) true n e l rows pending c calm =
        on (with_argument (option_value name value) (arguments names None rest)) _ _ word rest _
        (turn.gives_turn names s k (waits_by c) (holding rows pending) word name value e l n ∙ nil_after _ calm)
        (turn.gives_next names s k (waits_by c) (holding rows pending) word name value e l n)
        (argument_added (option_value name value) (arguments names None rest) _ _ _ (below (used (option_rule name) (value ∷ []) (settled_rows s.rules pending rows)) None false refl))

    calm_word : Class names word → HasFirst word
        → (rows : List Row) (pending : Option (Text × List Text)) (c : Bool) → IsCalm (holding rows pending)
        → Follows (Result (role_of names word) word rest) (at (holding rows pending) (waits_by c) false) (word ∷ rest) (settled_rows s.rules pending rows)
    calm_word (is_operand e l t is) first rows pending c calm = rw is (
        on (with_argument (operand word) (arguments names None rest)) _ _ word rest
        (settled_rows s.rules pending rows) (turn.operand_turn names s k c (holding rows pending) word e l t ∙ calm)
        (turn.operand_next names s k c (holding rows pending) word e l t)
        (argument_added (operand word) (arguments names None rest) _ _ _
        (subst (λ (r : List Row). Follows (arguments names None rest) (at (holding (settled_rows s.rules pending rows) (Some (codes "IMAGE", word ∷ []))) positional false) rest r)
        (operand_rows _ word)
        (below (settled_rows s.rules pending rows) (Some (codes "IMAGE", word ∷ [])) true (operand_calm _ word)))))
    calm_word (is_end e is) first rows pending c calm = rw is (
        on (Some (map (λ t. operand t) rest)) _ _ word rest (settled_rows s.rules pending rows)
        (turn.end_turn names s k (waits_by c) (holding rows pending) word e)
        (turn.end_next names s k (waits_by c) (holding rows pending) word e)
        (trailing rest rows pending (waits_by c) calm))
    calm_word (is_long name value e l is) first rows pending c calm =
        rw is (calm_named name value (is_named names name) refl e l rows pending c calm)
    calm_word (is_short x xs e l t w is) first rows pending c calm =
        rw is (off _ word rest (turn.short_turn names s k (waits_by c) rows pending word x xs (first x xs w).0 e l t (first x xs w).1))

    open_named : (name : Text) (value : Option Text) (b : Bool) → is_named names name ≡ b
        → bytes_eq word (45 ∷ 45 ∷ []) ≡ false → long_of word ≡ Some (name, value)
        → (rows : List Row) (waits : Text) → is_named names waits ≡ true
        → is_empty (fault_from (at (holding rows (Some (waits, []))) (option waits) false) (word ∷ rest)) ≡ false
    open_named name value false n e l rows waits m =
        off _ word rest (turn.unknown_turn names s k (option waits) (holding rows (Some (waits, []))) word name value e l n)
    open_named name None true n e l rows waits m =
        off (at (holding rows (Some (waits, []))) (option waits) false) word rest
        (rw (turn.opens_turn names s k (option waits) (holding rows (Some (waits, []))) word name e l n) (full_first _ _ (option_stuck rows waits m)))
    open_named name (Some value) true n e l rows waits m =
        off (at (holding rows (Some (waits, []))) (option waits) false) word rest
        (rw (turn.gives_turn names s k (option waits) (holding rows (Some (waits, []))) word name value e l n) (full_first _ _ (full_first _ _ (option_stuck rows waits m))))

    refused_valued : (name : Text) (value : Option Text) (b : Bool) (waits : Text)
        → arguments_waited waits (cond b (option_role name value) refused) word (arguments names None rest) ≡ None
    refused_valued name value false waits = refl
    refused_valued name None true waits = refl
    refused_valued name (Some value) true waits = refl

    open_word : Class names word → HasFirst word → (rows : List Row) (name : Text) → is_named names name ≡ true
        → Follows (arguments_waited name (role_of names word) word (arguments names None rest)) (at (holding rows (Some (name, []))) (option name) false) (word ∷ rest) rows
    open_word (is_operand e l t is) first rows name n = rw is (
        on (with_argument (option_value name word) (arguments names None rest)) _ _ word rest _
        (turn.waited_turn names s k rows name word e l t n) (turn.waited_next names s k rows name word e l t n)
        (argument_added (option_value name word) (arguments names None rest) _ _ _
        (subst (λ (r : List Row). Follows (arguments names None rest) (at (holding rows (Some (name, word ∷ []))) idle false) rest r)
        (option_rows rows name word n) (below rows (Some (name, word ∷ [])) false (option_calm rows name word n)))))
    open_word (is_end e is) first rows name n = rw is (
        on None _ _ word rest rows (turn.end_turn names s k (option name) (holding rows (Some (name, []))) word e)
        (turn.end_next names s k (option name) (holding rows (Some (name, []))) word e)
        (stuck rest rows name (option name) n))
    open_word (is_long other value e l is) first rows name n =
        rw (is, refused_valued other value (is_named names other) name)
        (open_named other value (is_named names other) refl e l rows name n)
    open_word (is_short x xs e l t w is) first rows name n =
        rw is (off _ word rest (turn.short_turn names s k (option name) rows (Some (name, [])) word x xs (first x xs w).0 e l t (first x xs w).1))

  pub both : (words : List Text) → All HasFirst words → Calm words × Open words
  unfolding arguments walk_fault
  both [] first = ((λ rows pending b calm. (calm, refl)), (λ rows name n. option_stuck rows name n))
  both (word ∷ rest) first =
      let below = both rest (λ i d lt. first (suc i) d (omega arith)) in
      let here : HasFirst word = first 0 [] (omega arith) in (
        (λ rows pending b calm. calm_word word rest below.0 below.1 (class_of names word) here rows pending b calm),
        (λ rows name n. open_word word rest below.0 below.1 (class_of names word) here rows name n),
      )

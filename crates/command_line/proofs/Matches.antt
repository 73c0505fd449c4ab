-- From `clap`'s result to what the words say.
use Rattle.std.proofs.Common.{◌≡◌, ◌≢◌, ◌∙◌, ◌++◌, ◌<◌, ◌+◌, ℕ, List, [], ◌∷◌, refl, sym, ap, subst, Bool, true, false, Option, Some, None, map, take, drop, arith, length, IfSome, true≢false, get_or}
use Rattle.std.specs.Prelude.{unwrap_or, slice_get}
use Rattle.std.proofs.Common.{zero, suc, inl, inr}
use Rattle.std.specs.Str.{IsUtf8, chars}
use Rattle.std.proofs.lemmas.Str.{IsUtf8-drop, IsCharBoundary-after_ascii, chars-encodes}
use Rattle.std.proofs.Math.Utf8.{scalars, encodes}
use Rattle.clap.specs.Values.{kind_of}
use Rattle.clap.specs.declared.error.Error.{Error}
use Rattle.clap.specs.declared.error.kind.ErrorKind.TheVariants.{OutOfMemory}
use Rattle.std.specs.Str.{bytes_eq}
use Rattle.std.specs.List.{All}
use Rattle.std.specs.Borrow.{Bor}
use Rattle.std.proofs.lemmas.List.{map-append, take_more}
use Rattle.std.proofs.lemmas.Slice.Eq.{bytes_eq-Decides}
use Rattle.clap.specs.Walk.{Row, Rule, is_empty}
use Rattle.clap.specs.Simple.{with_rule}
use Rattle.clap.specs.Kinds.{HasKind, Kinds}
use Rattle.clap.specs.Words.{fault_of, found_of, matches_of, rows_of}
use Rattle.clap.proofs.WalkLemmas.{raw_values-rows}
use Rattle.clap.specs.declared.parser.matches.ArgMatches.{ArgMatches}
use Rattle.command_line.specs.Arguments.{Argument, Text, is_named, arguments}
use Rattle.command_line.specs.App.{app_of_rules, app_with, option_arg, image_arg}
use Rattle.command_line.specs.Matches.{AreTexts, ReadsWords, HoldsArguments}
use Rattle.command_line.proofs.Building.{follows, image_id}
use Rattle.command_line.proofs.Classes.{Agrees, put}
use Rattle.command_line.proofs.Values.{Named, values_put, arguments_named, operands_put, vals}
use Rattle.command_line.proofs.Walks.{HasFirst}

-- one more option
pub one_more : (xs : List (Bor Text)) (i : ℕ) (x : Bor Text) → i < length xs
    → with_rule (app_with (map (λ n. n.now) (take i xs))) (option_arg (get_or xs i x).now) ≡ app_with (map (λ n. n.now) (take (i + 1) xs))
unfolding app_with
one_more xs i x lt =
    let more : map (λ (n : Bor Text). n.now) (take (i + 1) xs) ≡ map (λ (n : Bor Text). n.now) (take i xs) ++ (get_or xs i x).now ∷ [] =
    ap (map (λ (n : Bor Text). n.now)) (take_more xs i x lt)
    ∙ map-append (λ (n : Bor Text). n.now) (take i xs) (get_or xs i x ∷ []) in
    ap (λ (rs : List Rule). app_of_rules (image_arg ∷ rs))
    (sym (map-append option_arg (map (λ (n : Bor Text). n.now) (take i xs)) ((get_or xs i x).now ∷ [])) ∙ ap (map option_arg) (sym more))

says_from : (names : List Text) (ps : List Argument) (m : ArgMatches) → is_named names image_id ≡ false
    → Named names ps → rows_of (found_of m) ≡ put [] ps → HoldsArguments names ps m
says_from names ps m apart n is = record {
  operands_are = ap (λ (r : Option (List Text)). unwrap_or r []) (raw_values-rows (found_of m) image_id)
      ∙ ap (vals image_id) is ∙ operands_put names ps [] apart n;
  values_are = λ name h. ap (λ (r : Option (List Text)). unwrap_or r []) (raw_values-rows (found_of m) name)
      ∙ ap (vals name) is ∙ values_put name ps [] (go name (bytes_eq image_id name) refl h);
}
  where
    go : (name : Text) (b : Bool) → bytes_eq image_id name ≡ b → is_named names name ≡ true
        → bytes_eq image_id name ≡ false
    go name true e h =
        absurd (true≢false (sym h ∙ ap (is_named names) (sym ((bytes_eq-Decides image_id name).0 e)) ∙ apart))
    go name false e h = e

some_says : (names : List Text) (r : Option (List Argument)) (m : ArgMatches) (fault : Kinds) (rows : List Row)
    → is_named names image_id ≡ false → IfSome r (Named names) → Agrees r fault [] rows
    → fault ≡ [] → rows_of (found_of m) ≡ rows → ReadsWords names r (Some m)
some_says names None m fault rows apart n agrees none is = absurd (true≢false (sym (ap is_empty none) ∙ agrees))
some_says names (Some ps) m fault rows apart n agrees none is = says_from names ps m apart n (is ∙ agrees.1)

none_says : (names : List Text) (r : Option (List Argument)) (fault : Kinds) (rows : List Row)
    → Agrees r fault [] rows → fault ≢ [] → ReadsWords names r None
none_says names None fault rows agrees none = tt
none_says names (Some ps) fault rows agrees none = absurd (none agrees.0)

pub reads_some : (names : List Text) (words : List Text) (m : ArgMatches) → is_named names image_id ≡ false
    → All HasFirst (drop 1 words) → fault_of (app_with names) words ≡ []
    → rows_of (found_of m) ≡ matches_of (app_with names) words
    → ReadsWords names (arguments names None (drop 1 words)) (Some m)
reads_some names words m apart first none is =
    some_says names (arguments names None (drop 1 words)) m (fault_of (app_with names) words)
    (matches_of (app_with names) words) apart
    (arguments_named names (drop 1 words) None tt) (follows names apart words first) none is

pub reads_none : (names : List Text) (words : List Text) → is_named names image_id ≡ false
    → All HasFirst (drop 1 words) → fault_of (app_with names) words ≢ []
    → ReadsWords names (arguments names None (drop 1 words)) None
reads_none names words apart first none =
    none_says names (arguments names None (drop 1 words)) (fault_of (app_with names) words)
    (matches_of (app_with names) words) (follows names apart words first) none

-- ---- the words are text

first_of_text : (x : ℕ) (xs : Text) → IsUtf8 (x ∷ xs) → (c : ℕ) × (slice_get (chars (x ∷ xs)) 0 ≡ Some c)
first_of_text x xs u = go u.0 u.1.0 u.1.1
  where
    go : (cs : List ℕ) → scalars cs ≡ true → encodes cs ≡ x ∷ xs
        → (c : ℕ) × (slice_get (chars (x ∷ xs)) 0 ≡ Some c)
    go [] s e = let no : ⊥ = cc in absurd no
    go (c ∷ cs) s e =
        (c, ap (λ (t : Text). slice_get (chars t) 0) (sym e) ∙ ap (λ (t : List ℕ). slice_get t 0) (chars-encodes (c ∷ cs) s))

has_first : (word : Text) → IsUtf8 word → HasFirst word
has_first word u x xs is =
    let all : IsUtf8 (45 ∷ x ∷ xs) = subst IsUtf8 is u in
    first_of_text x xs (IsUtf8-drop (45 ∷ x ∷ xs) 1 all (IsCharBoundary-after_ascii (45 ∷ x ∷ xs) 0 all (omega arith) (omega arith)))

pub all_first : (words : List Text) → AreTexts words → All HasFirst words
all_first [] t k d lt = absurd (omega arith)
all_first (w ∷ ws) t zero d lt = has_first w t.0
all_first (w ∷ ws) t (suc k) d lt = all_first ws t.1 k d (omega arith)

pub rest_first : (words : List Text) → AreTexts words → All HasFirst (drop 1 words)
rest_first [] t = all_first [] tt
rest_first (w ∷ ws) t = all_first ws t.1

texts_added : (ws : List Text) (w : Text) → AreTexts ws → IsUtf8 w → AreTexts (ws ++ w ∷ [])
texts_added [] w t u = (u, tt)
texts_added (x ∷ xs) w t u = (t.0, texts_added xs w t.1 u)

pub texts_more : (xs : List (Bor Text)) (i : ℕ) (x : Bor Text) → i < length xs
    → AreTexts (map (λ s. s.now) (take i xs)) → IsUtf8 (get_or xs i x).now
    → AreTexts (map (λ s. s.now) (take (i + 1) xs))
texts_more xs i x lt t u =
    let more : map (λ (n : Bor Text). n.now) (take (i + 1) xs) ≡ map (λ (n : Bor Text). n.now) (take i xs) ++ (get_or xs i x).now ∷ [] =
    ap (map (λ (n : Bor Text). n.now)) (take_more xs i x lt)
    ∙ map-append (λ (n : Bor Text). n.now) (take i xs) (get_or xs i x ∷ []) in
    subst AreTexts (sym more) (texts_added (map (λ (n : Bor Text). n.now) (take i xs)) (get_or xs i x).now t u)

pub refused_by : (fault : Kinds) (e : Error) → HasKind fault e → kind_of e ≢ OutOfMemory → fault ≢ []
refused_by [] e (inl m) other none = other m
refused_by [] e (inr k) other none = k
refused_by (k ∷ ks) e h other none = let no : ⊥ = cc in no

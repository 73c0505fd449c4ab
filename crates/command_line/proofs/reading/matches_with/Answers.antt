use Rattle.std.proofs.Common.{rules, ◌≡◌, ◌∙◌, ap, ap₂, subst, codes, map, get_or, true, ℕ, List, []}
use Rattle.std.specs.Borrow.{Bor}
use Rattle.std.proofs.lemmas.List.{take_all}
use Rattle.std.proofs.lemmas.Result.{IfOk-weaker}
use Rattle.clap.specs.Words.{App, FailsBy, app_of, fault_of, is_simple, is_simple_and_free, matches_of, new_app, rule_of, with_rule}
use Rattle.clap.specs.Simple.{app_of_fields, on_top}
use Rattle.command_line.specs.App.{app_with, option_arg, image_arg}
use Rattle.command_line.proofs.Building.{free, ready}
use Rattle.command_line.proofs.Matches.{one_more}
use Rattle.command_line.proofs.reading.matches_with.Goals as goal

abbrev bare : App → App
bare = on_top (λ s. record s { disable_help_flag = true })

pub loop-name-init : goal.loop-name-init
unfolding app_with
loop-name-init c =
    let image_is : rule_of c.action-image.result ≡ image_arg = search rules in
    let bare_is : app_of c.disable_help_flag.result ≡ bare (new_app (codes "command")) = ap app_of_fields c.disable_help_flag.ensures
    ∙ ap bare c.new-2.ensures.app in
    c.in_ok-command.ensures.shape (search rules) ∙ ap₂ with_rule bare_is image_is

abbrev nothing : Bor (List ℕ)
nothing = record { ref_ptr = (0, 0); now = [] }

pub loop-name-preserved : goal.loop-name-preserved
loop-name-preserved c =
    let option_is : rule_of c.action-option.result ≡ option_arg (get_or c.args.names.now c.loop-name.name-index nothing).now = search rules in
    c.in_ok-command-2.ensures.shape (search rules) ∙ ap₂ with_rule c.loop-name.invariant option_is
    ∙ one_more c.args.names.now c.loop-name.name-index nothing c.loop-name-test.true

pub returns-clause-kinds : goal.returns-clause-kinds
returns-clause-kinds c =
    let app_is : app_of c.loop-name.command ≡ app_with (map (λ n. n.now) c.args.names.now) = c.loop-name.invariant
    ∙ ap (λ (xs : List (Bor (List ℕ))). app_with (map (λ n. n.now) xs)) (take_all c.loop-name.name-index c.args.names.now c.loop-name-test.false) in
    let P : App → Type 0 = λ a. FailsBy (fault_of a (map (λ s. s.now) c.args.words.now)) c.try_get_matches_from.result in
    subst P app_is (c.try_get_matches_from.ensures.kinds (ap is_simple_and_free app_is ∙ free (map (λ n. n.now) c.args.names.now)))

pub returns-clause-matches : goal.returns-clause-matches
returns-clause-matches c =
    let app_is : app_of c.loop-name.command ≡ app_with (map (λ n. n.now) c.args.names.now) = c.loop-name.invariant
    ∙ ap (λ (xs : List (Bor (List ℕ))). app_with (map (λ n. n.now) xs)) (take_all c.loop-name.name-index c.args.names.now c.loop-name-test.false) in
    IfOk-weaker c.try_get_matches_from.result _ _ (λ m h. (h (ap is_simple app_is ∙ ready (map (λ n. n.now) c.args.names.now))).0 ∙ ap (λ (a : App). matches_of a (map (λ s. s.now) c.args.words.now)) app_is) c.try_get_matches_from.ensures.matches

use Rattle.std.proofs.Common.{ℕ, List, [], ◌∙◌, sym, ap, subst, rules, Some, option_map}
use Rattle.std.specs.Prelude.{slice_set}
use Rattle.std.specs.Int.{w16}
use Rattle.std.specs.Int.RustNames.{FitsSigned}
use Rattle.std.proofs.lemmas.Int.{to_z-of_z}
use Rattle.mav_messages.specs.declared.messages.Reply.{Reply}
use Rattle.param_service.specs.Requests.{Show, ShowAll, row_asked_for}
use Rattle.param_service.specs.State.{State}
use Rattle.param_service.specs.Service.{Shown}
use Rattle.param_service.specs.Replies.{AreRepliesOf}
use Rattle.param_service.proofs.Asking.{asks_read, asks_list, read_keeps}
use Rattle.param_service.proofs.answer.Goals as goal

pub returns-then-is_vehicle-clause-answered : goal.returns-then-is_vehicle-clause-answered
returns-then-is_vehicle-clause-answered c =
    let index = c.in-ParamRequestRead.param_index in
    let name = c.in-ParamRequestRead.param_id in
    let fits : FitsSigned w16 index = search rules in
    let at_index = to_z-of_z w16 index fits in
    let keeps = read_keeps c.args.current.now c.args.allowed c.args.state.now.next_rows c.args.from.station (row_asked_for index name) in
    let shown = simp at_index at (c.answer_read.ensures c.args.allowed c.args.state.now.next_rows) in (
      option_map Show (row_asked_for index name),
      asks_read c.args.message.now index _ _ name c.in-ParamRequestRead.is (sym c.is_vehicle.ensures ∙ c.if-is_vehicle.true),
      record { state = keeps.0; lines = c.requires.batch ∙ keeps.1; shown = shown },
    )

pub returns-then-is_vehicle-2-clause-answered : goal.returns-then-is_vehicle-2-clause-answered
returns-then-is_vehicle-2-clause-answered c =
    let none : List Shown = [] in (
      Some ShowAll,
      asks_list c.args.message.now _ _ c.in-ParamRequestList.is (sym c.is_vehicle-in-ParamRequestList.ensures ∙ c.if-is_vehicle-2.true),
      record {
        state = ap (λ (s : State). slice_set s.next_rows c.args.from.station 0) c.state.view_is;
        lines = c.requires.batch;
        shown = subst (λ (l : List Reply). AreRepliesOf none l) (sym c.requires.replies) tt;
      },
    )

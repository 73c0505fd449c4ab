use Rattle.std.proofs.Common.{◌≡◌, ◌∙◌, sym, ap, subst, rules}
use Rattle.block_store.specs.Store.{Store, StoreState, Spilled, home_free_in}
use Rattle.block_store.specs.Steps.Inside.{state_of}
use Rattle.block_store.specs.Refusals.{OnWorn, IsWornWith}
use Rattle.block_store.proofs.BlockStore.compact.Goals as goal

pub returns-in_err-home-in-Spilled-clause-worn_copied : goal.returns-in_err-home-in-Spilled-clause-worn_copied
returns-in_err-home-in-Spilled-clause-worn_copied g c =
    let e = c.in_err-home-in-Spilled.field-0.0 in
    let was : Spilled c.in-Spilled.spilled ≡ c.args.self.now.state = ap state_of (sym c.in-Spilled.is ∙ c.replace.ensures.value) ∙ ap (λ (s : Store). s.state) c.self.view_is in
    let told : OnWorn e (λ _. IsWornWith g.B.Board c.switch.new.board c.switch.new.images (home_free_in c.args.self.now.state)) =
    subst (λ (s : StoreState). OnWorn e (λ _. IsWornWith g.B.Board c.switch.new.board c.switch.new.images (home_free_in s))) was c.in_err-home-in-Spilled.ensures.worn_copied in
    search rules

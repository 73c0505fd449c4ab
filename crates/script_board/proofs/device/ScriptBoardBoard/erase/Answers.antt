use Rattle.std.proofs.Common.{ℕ, List, ◌<◌, ◌^◌, slice_index, ◌∙◌, ap, subst, arith, rules}
use Rattle.std.proofs.lemmas.List.{get_or-set_other}
use Rattle.flash_traits.specs.Words.{halfwords_in}
use Rattle.flash_traits.specs.declared.board.Region.{Region}
use Rattle.script_board.specs.Image.{words_of}
use Rattle.script_board.specs.Waiting.{first_leaves}
use Rattle.script_board.specs.declared.board.ScriptMark.TheVariants.{Lost}
use Rattle.script_board.proofs.Listed.{lists_same, unread_by, still_output}
use Rattle.script_board.proofs.Leaving.{leaves_may}
use Rattle.flash_traits.proofs.Counting.{by_kind}
use Rattle.script_board.proofs.device.ScriptBoardBoard.erase.Goals as goal

pub returns-in-Err-clause-changes : goal.returns-in-Err-clause-changes
returns-in-Err-clause-changes g c =
    let o = c.in-Err.ensures.others in
    let fits : (q : Region) (k : ℕ) → slice_index (halfwords_in (words_of c.args.self.now.geometry.sector_bytes c.args.self.now.image.items) q) k < 2 ^ 16 =
    subst (λ (b : List ℕ). (q : Region) (k : ℕ) → slice_index (halfwords_in (words_of c.args.self.now.geometry.sector_bytes b) q) k < 2 ^ 16) c.deref.ensures.value c.has_shape.ensures.halfwords in
    record {
      geometry = ap (λ x. x.sector_bytes) o.geometry;
      told = λ told. tt;
      content = λ told. leaves_may (first_leaves c.args.self.now.waiting.items) c.args.region _ _ c.requires.sector fits c.in-Err.ensures.left;
      lists = λ e f had. lists_same g.S.Source g.K.Sink c.args.self.now _ o.input o.out (unread_by _ _ _ _ (ap (λ b. b.items) o.buffer) o.ahead) o.taken o.given
          (λ other. still_output c.args.self.now.mark Lost (λ is. other (c.in-Err.ensures.marked ∙ is))) e f had;
      receptions = ap (λ m. slice_index m 2) o.moment ∙ get_or-set_other c.args.self.now.moment 1 2 c.saturating_add.result 0 (λ is. omega (arith, is));
      sendings = ap (λ m. slice_index m 3) o.moment ∙ get_or-set_other c.args.self.now.moment 1 3 c.saturating_add.result 0 (λ is. omega (arith, is));
      later = search rules;
      inside = λ t o le left. absurd left;
      here = λ o now. absurd now;
      keeps = λ kept n now. absurd now;
    }

pub returns-in-Err-clause-cause : goal.returns-in-Err-clause-cause
returns-in-Err-clause-cause g c = by_kind _ _ (search rules) (search rules) (search rules) (search rules) (search rules)

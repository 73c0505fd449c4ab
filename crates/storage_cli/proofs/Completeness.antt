-- Where nothing failed, what is left for a status.
use Rattle.std.proofs.Common.{◌≡◌, ◌≢◌, ◌⊎◌, inl, inr, ℕ, List, refl, ⊎_elim}
use Rattle.flash_traits.specs.declared.board.Fault.{Fault}
use Rattle.flash_traits.specs.declared.board.Fault.TheVariants.{Attach, Read, Flash, Recv, Send}
use Rattle.flash_traits.specs.Causes.{Rose}
use Rattle.flash_traits.specs.Words.{Words}
use Rattle.sector_image.specs.Stands.{Stands}
use Rattle.storage_cli.specs.declared.printing.ImageText.{ImageText}
use Rattle.storage_cli.specs.declared.printing.ImageText.TheVariants as image_text
use Rattle.storage_cli.specs.declared.status.TheConstants.{FOREIGN_WORD, INPUT_FAILED, NO_MEMORY, OUTPUT_FAILED, SCRIPT_REFUSED, TURNS_OVER, WORN}
use Rattle.storage_cli.specs.Serving.{NamesForeign}
use Rattle.storage_cli.specs.Statuses.{IsServeStatus, IsReplayStatus, IsFormatStatus, IsGenStatus, TellsFaults, NothingFailed, IsDoneUnlessMemory}
use Rattle.storage_cli.specs.Steps.Printing.{IsTextStatus}
use Rattle.storage_cli.proofs.Causes.{never_both}

-- words that stand for bytes have no foreign halfword to be named
pub none_named : (told : Type 0) (words : Words) (printed : List ℕ → Type 0) (b : List ℕ) → told → Stands words b → NamesForeign told words printed → ⊥
none_named told words printed b t stands named = never_both words named.place (b, stands) (named.first t)

module _ (status : ℕ) (before now : Fault → ℕ) (output_before output_now : ℕ) (nothing : NothingFailed before now output_before output_now) (output : status ≡ OUTPUT_FAILED → Rose output_before output_now) where
  -- memory was wanting for the words
  pub memory_complete : (status ≡ NO_MEMORY) ⊎ (status ≡ OUTPUT_FAILED) → IsDoneUnlessMemory status
  memory_complete (inl is) = inr is
  memory_complete (inr is) = absurd (nothing.output (output is))

  pub gen_complete : IsGenStatus status → status ≢ WORN → IsDoneUnlessMemory status
  gen_complete (inl is) worn = inl is
  gen_complete (inr (inl is)) worn = inr is
  gen_complete (inr (inr (inl is))) worn = absurd (worn is)
  gen_complete (inr (inr (inr is))) worn = absurd (nothing.output (output is))

  module _ (faults : TellsFaults status before now) where
    pub replay_complete : IsReplayStatus status → (status ≡ FOREIGN_WORD → ⊥) → status ≢ WORN → status ≢ INPUT_FAILED → status ≢ SCRIPT_REFUSED → IsDoneUnlessMemory status
    replay_complete (inl is) foreign worn input script = inl is
    replay_complete (inr (inl is)) foreign worn input script = inr is
    replay_complete (inr (inr (inl is))) foreign worn input script = absurd (foreign is)
    replay_complete (inr (inr (inr (inl is)))) foreign worn input script = absurd (nothing.board Read (faults.read is))
    replay_complete (inr (inr (inr (inr (inl is))))) foreign worn input script = absurd (worn is)
    replay_complete (inr (inr (inr (inr (inr (inl is)))))) foreign worn input script = absurd (input is)
    replay_complete (inr (inr (inr (inr (inr (inr (inl is))))))) foreign worn input script = absurd (nothing.output (output is))
    replay_complete (inr (inr (inr (inr (inr (inr (inr (inl is)))))))) foreign worn input script = absurd (script is)
    replay_complete (inr (inr (inr (inr (inr (inr (inr (inr is)))))))) foreign worn input script = absurd (nothing.board Attach (faults.attach is))

    pub serve_complete : IsServeStatus status → (status ≡ FOREIGN_WORD → ⊥) → status ≢ WORN → IsDoneUnlessMemory status ⊎ (status ≡ TURNS_OVER)
    serve_complete (inl is) foreign worn = inl (inl is)
    serve_complete (inr (inl is)) foreign worn = inl (inr is)
    serve_complete (inr (inr (inl is))) foreign worn = absurd (foreign is)
    serve_complete (inr (inr (inr (inl is)))) foreign worn = absurd (nothing.board Read (faults.read is))
    serve_complete (inr (inr (inr (inr (inl is))))) foreign worn = absurd (nothing.board Flash (faults.flash is))
    serve_complete (inr (inr (inr (inr (inr (inl is)))))) foreign worn = absurd (⊎_elim (nothing.board Recv) (nothing.board Send) (faults.link is))
    serve_complete (inr (inr (inr (inr (inr (inr (inl is))))))) foreign worn = absurd (worn is)
    serve_complete (inr (inr (inr (inr (inr (inr (inr (inl is)))))))) foreign worn = inr is
    serve_complete (inr (inr (inr (inr (inr (inr (inr (inr (inl is))))))))) foreign worn = absurd (nothing.output (output is))
    serve_complete (inr (inr (inr (inr (inr (inr (inr (inr (inr is))))))))) foreign worn = absurd (nothing.board Attach (faults.attach is))

    pub format_complete : IsFormatStatus status → IsDoneUnlessMemory status
    format_complete (inl is) = inl is
    format_complete (inr (inl is)) = inr is
    format_complete (inr (inr (inl is))) = absurd (nothing.board Flash (faults.flash is))
    format_complete (inr (inr (inr (inl is)))) = absurd (nothing.output (output is))
    format_complete (inr (inr (inr (inr is)))) = absurd (nothing.board Attach (faults.attach is))

    pub text_complete : (text : ImageText) → IsTextStatus text status → (text ≡ image_text.Dump → status ≡ FOREIGN_WORD → ⊥) → IsDoneUnlessMemory status
    text_complete image_text.Dump (inl is) foreign = inl is
    text_complete image_text.Dump (inr (inl is)) foreign = inr is
    text_complete image_text.Dump (inr (inr (inl is))) foreign = absurd (foreign refl is)
    text_complete image_text.Dump (inr (inr (inr (inl is)))) foreign = absurd (nothing.board Read (faults.read is))
    text_complete image_text.Dump (inr (inr (inr (inr (inl is))))) foreign = absurd (nothing.output (output is))
    text_complete image_text.Dump (inr (inr (inr (inr (inr is))))) foreign = absurd (nothing.board Attach (faults.attach is))
    text_complete image_text.Report (inl is) foreign = inl is
    text_complete image_text.Report (inr (inl is)) foreign = inr is
    text_complete image_text.Report (inr (inr (inl is))) foreign = absurd (nothing.board Read (faults.read is))
    text_complete image_text.Report (inr (inr (inr (inl is)))) foreign = absurd (nothing.output (output is))
    text_complete image_text.Report (inr (inr (inr (inr is)))) foreign = absurd (nothing.board Attach (faults.attach is))

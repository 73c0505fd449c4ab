use Rattle.std.proofs.Common.{◌≡◌, ℕ, List, [], ◌∷◌, ◌++◌, sym, ◌∙◌, ap, arith}
use Rattle.flash_traits.specs.Words.{bytes_of}
use Rattle.sector_log.specs.Entries.{Entry, words_of_entries}
use Rattle.legacy_image.specs.Made.{legacy_chunks, entry_in, entries_below}
use Rattle.legacy_image.proofs.Chunks.{entries_none, bytes_more, exported}
use Rattle.legacy_image.proofs.writing.export.Goals as goal

pub loop-chunk-init : goal.loop-chunk-init
loop-chunk-init c =
    c.in_ok-extend_from_slice.ensures.items ∙ ap (λ (l : List ℕ). l ++ (254 ∷ 91 ∷ 104 ∷ 81 ∷ [])) c.in_ok-image.ensures.items
    ∙ sym (ap (λ (l : List Entry). bytes_of (23550 ∷ 20840 ∷ words_of_entries l)) (entries_none c.args.storage.now))

pub loop-chunk-preserved : goal.loop-chunk-preserved
loop-chunk-preserved c =
    c.in_ok-push_chunk.ensures
    ∙ ap (λ (l : List ℕ). l ++ bytes_of (words_of_entries (entry_in c.args.storage.now c.loop-chunk.chunk))) c.loop-chunk.invariant
    ∙ sym (bytes_more c.loop-chunk.chunk c.args.storage.now)

pub returns : goal.returns
returns c =
    let bytes = c.args.storage.now in
    let done : c.loop-chunk.chunk ≡ legacy_chunks = omega (arith, c.loop-chunk-test.false, c.loop-chunk.auto.chunk-end) in
    let image : c.loop-chunk.image.items ≡ bytes_of (23550 ∷ 20840 ∷ words_of_entries (entries_below legacy_chunks bytes)) =
    c.loop-chunk.invariant ∙ ap (λ (n : ℕ). bytes_of (23550 ∷ 20840 ∷ words_of_entries (entries_below n bytes))) done in
    record {
      made = exported bytes c.loop-chunk.image.items c.resize.new.self.items c.extend_from_slice-2.new.self.items c.resize-2.new.self.items c.args.sector
          c.loop-chunk.image.len c.extend_from_slice-2.new.self.len c.requires.sector c.requires.storage image c.loop-chunk.image.ok.0
          c.in_ok-resize.ensures.items c.in_ok-extend_from_slice-2.ensures.items c.extend_from_slice-2.new.self.ok.0 c.in_ok-resize-2.ensures.items;
    }

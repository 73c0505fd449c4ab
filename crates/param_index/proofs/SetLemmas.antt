-- An index after the writes that set a row.
use Rattle.std.proofs.Common.{◌≡◌, ◌≢◌, inl, inr, ℕ, ◌+◌, ◌≤◌, Bool, true, List, [], ◌∷◌, ◌++◌, length, take, drop, refl, sym, ◌∙◌, ap, subst, arith, Option, Some, None}
use Rattle.std.specs.Prelude.{slice_get, IfSome, IsTrue, ◌↔◌}
use Rattle.std.specs.Str.{bytes_eq}
use Rattle.std.proofs.lemmas.Bool.{cases_Bool, cases_eq, cases_lt}
use Rattle.std.proofs.lemmas.Slice.Eq.{bytes_eq-Decides}
use Rattle.std.proofs.lemmas.List.{take_all, drop_at}
use Rattle.param_tree.specs.declared.Kind.{Kind}
use Rattle.param_tree.specs.declared.Kind.TheVariants.{I8, I16, I32, F32, Vec3}
use Rattle.param_tree.specs.declared.Var.{Var}
use Rattle.storage_lines.specs.declared.lines.LineWrite.{LineWrite}
use Rattle.storage_lines.specs.declared.areas.Area.TheVariants.{Param}
use Rattle.storage_lines.specs.Areas.{logical_of}
use Rattle.storage_lines.specs.Lines.{after}
use Rattle.storage_lines.specs.Pieces.{Piece, writes_of}
use Rattle.storage_lines.proofs.LineLemmas.{after-append}
use Rattle.param_records.specs.declared.records.Header.{Header}
use Rattle.param_records.specs.declared.records.TheConstants.{PARAM_BYTES}
use Rattle.param_records.specs.Records.{Record, size_of, magic, spelling, end_of}
use Rattle.param_records.specs.Changes.{fresh, fresh_bytes, set_pieces, IsFull, SamePlaces}
use Rattle.param_records.specs.Steps.{records_in_storage, place_of_row, HasMagic, SetsRow}
use Rattle.param_records.proofs.StoreLemmas.{stands, set_default, full_from}
use Rattle.param_records.proofs.SetLemmas.{is_some}
use Rattle.param_records.proofs.StepLemmas.{no_records}
use Rattle.param_index.specs.Places.{Places, IsIndexOf}
use Rattle.param_index.specs.Inside.{IsIndexOfRecords, HasHeader}

-- an index of bytes is one of their records, and the other way round
pub of_records : (rows : List Var) (bytes : List ℕ) (index : Places) → IsIndexOf rows bytes index → IsIndexOfRecords rows (records_in_storage bytes) index
of_records rows bytes index is = record { places = is.places; end = is.end }

pub of_bytes : (rows : List Var) (bytes : List ℕ) (records : List Record) (index : Places) → records_in_storage bytes ≡ records → IsIndexOfRecords rows records index → IsIndexOf rows bytes index
of_bytes rows bytes records index same is =
    let is' : IsIndexOfRecords rows (records_in_storage bytes) index = subst (λ (rs : List Record). IsIndexOfRecords rows rs index) (sym same) is in
    record { places = is'.places; end = is'.end }

-- where no record has moved
pub still : (rows : List Var) (old new : List ℕ) (index : Places) → SamePlaces rows old new → IsIndexOf rows old index → IsIndexOf rows new index
still rows old new index same is = record {
  places = λ i row here. is.places i row here ∙ ap (λ (o : Option ℕ). Some o) (sym (stands rows old new i row same here));
  end = is.end ∙ sym same.end;
}

-- the bytes after a batch whose last lines set a row
pub after_writes : (current : List ℕ) (old new ws : List LineWrite) → new ≡ old ++ ws → after current new ≡ after (after current old) (drop (length old) new)
after_writes current old new ws e =
    ap (λ (l : List LineWrite). after current l) e ∙ after-append current old ws
    ∙ ap (λ (l : List LineWrite). after (after current old) l) (sym (ap (λ (l : List LineWrite). drop (length old) l) e ∙ drop_at old ws (length old) refl))

-- a record is rewritten in its place
pub rewritten : (rows : List Var) (var number at : ℕ) (row : Var) (before : List ℕ) (writes : List LineWrite) (index : Places) → SetsRow rows var row number before writes → place_of_row before row ≡ Some at → IsIndexOf rows before index →
    IsIndexOf rows (after before writes) index
rewritten rows var number at row before writes index sets here is =
    let all : take (length writes) writes ≡ writes = take_all (length writes) writes (omega arith) in
    let now = after before (take (length writes) writes) in
    let moved = (sets.each (length writes) (omega arith)).moves_none at here in
    subst (λ (l : List LineWrite). IsIndexOf rows (after before l) index) all (record {
      places = λ i v at'. is.places i v at' ∙ ap (λ (o : Option ℕ). Some o) (sym (moved.places v.key v.element v.kind));
      end = is.end ∙ sym moved.end;
    })

-- nothing is written
pub nothing : (rows : List Var) (number : ℕ) (row : Var) (before : List ℕ) → place_of_row before row ≡ None → number ≡ row.default → writes_of before (set_pieces rows (records_in_storage before) row number) ≡ []
nothing rows number row before none same = ap (λ (q : List Piece). writes_of before q) (set_default rows (records_in_storage before) row number none same)

-- a storage without the magic keeps its records, none
pub unread : (rows : List Var) (var number : ℕ) (row : Var) (before : List ℕ) (writes : List LineWrite) (index : Places) → SetsRow rows var row number before writes → ¬ HasMagic before → IsIndexOf rows before index → IsIndexOf rows (after before writes) index
unread rows var number row before writes index sets other is =
    let all : take (length writes) writes ≡ writes = take_all (length writes) writes (omega arith) in
    let front : take 4 (logical_of Param (after before writes)) ≡ take 4 (logical_of Param before) =
    subst (λ (l : List LineWrite). take 4 (logical_of Param (after before l)) ≡ take 4 (logical_of Param before)) all (sets.each (length writes) (omega arith)).front in
    of_bytes rows (after before writes) (records_in_storage before) index
    (no_records (logical_of Param (after before writes)) (λ e. other (sym front ∙ e)) ∙ sym (no_records (logical_of Param before) other)) (of_records rows before index is)

fresh_size : (kind : Kind) (rows : List Var) (row : Var) (number : ℕ) → length (fresh_bytes kind rows row number) ≡ size_of kind
fresh_size I8 rows row number = refl
fresh_size I16 rows row number = refl
fresh_size I32 rows row number = refl
fresh_size F32 rows row number = refl
fresh_size Vec3 rows row number = refl

-- a record is appended
pub appended : (rows : List Var) (var number : ℕ) (row : Var) (before : List ℕ) (writes : List LineWrite) (h : Header) (old new : Places) → SetsRow rows var row number before writes → HasMagic before → place_of_row before row ≡ None → number ≢ row.default →
    h.key ≡ row.key → h.element ≡ row.element → h.kind ≡ row.kind → ((records : List Record) (r : Record) → IsIndexOfRecords rows records old → HasHeader h r → IsIndexOfRecords rows (records ++ r ∷ []) new) → IsIndexOf rows before old → IsIndexOf rows (after before writes) new
appended rows var number row before writes h old new sets magic none other key element kind add is =
    let r = fresh rows row number in
    of_bytes rows (after before writes) (records_in_storage before ++ r ∷ []) new (sets.new_record magic none other)
    (add (records_in_storage before) r (of_records rows before old is) (record { key = sym key; element = sym element; kind = sym kind; value = fresh_size row.kind rows row number ∙ ap size_of (sym kind) }))

-- what is appended fits
pub fits : (rows : List Var) (var number : ℕ) (row : Var) (before : List ℕ) (P : Type 0) → (P → ⊥) → slice_get rows var ≡ Some row → IfSome (slice_get rows var) (λ r. P ↔ IsFull (records_in_storage before) r number) → place_of_row before row ≡ None → number ≢ row.default →
    end_of (logical_of Param before) + 8 + size_of row.kind ≤ PARAM_BYTES
fits rows var number row before P never is full none other =
    let both = is_some (slice_get rows var) (λ r. P ↔ IsFull (records_in_storage before) r number) row is full in
    elim (cases_lt PARAM_BYTES (4 + length (spelling (records_in_storage before)) + 8 + size_of row.kind)) [
      | inl beyond ↦ absurd (never (both.1 (full_from (records_in_storage before) row number none other beyond)))
      | inr inside ↦ omega arith
    ]

-- no record is appended
abbrev pub IsNew : List ℕ → Var → ℕ → Type 0
IsNew before row number = HasMagic before × (place_of_row before row ≡ None) × (number ≢ row.default)

pub kept_by : (rows : List Var) (var number : ℕ) (row : Var) (before : List ℕ) (writes : List LineWrite) (index : Places) (o : Option ℕ) → place_of_row before row ≡ o → SetsRow rows var row number before writes →
    writes ≡ writes_of before (set_pieces rows (records_in_storage before) row number) → ¬ IsNew before row number → IsIndexOf rows before index → IsIndexOf rows (after before writes) index
kept_by rows var number row before writes index (Some at) here sets lines old is = rewritten rows var number at row before writes index sets here is
kept_by rows var number row before writes index None none sets lines old is = elim (cases_eq number row.default) [
  | inl same ↦ subst (λ (l : List LineWrite). IsIndexOf rows (after before l) index) (sym (lines ∙ nothing rows number row before none same)) is
  | inr other ↦ elim (cases_Bool (bytes_eq (take 4 (logical_of Param before)) magic)) [
    | inl front ↦ absurd (old ((bytes_eq-Decides (take 4 (logical_of Param before)) magic).0 front, none, other))
    | inr differ ↦ unread rows var number row before writes index sets (λ e. let holds : bytes_eq (take 4 (logical_of Param before)) magic ≡ true = (bytes_eq-Decides (take 4 (logical_of Param before)) magic).1 e in cc) is
  ]
]

-- the lines of the batch that set the row
pub last_lines : (before : List ℕ) (old new ws : List LineWrite) → new ≡ old ++ ws → drop (length old) new ≡ ws
last_lines before old new ws e = ap (λ (l : List LineWrite). drop (length old) l) e ∙ drop_at old ws (length old) refl

-- whether a record is appended, by the places that are kept
pub new_is : (rows : List Var) (var number : ℕ) (row : Var) (current before : List ℕ) (index : Places) (m r : Bool) → slice_get rows var ≡ Some row → IsIndexOf rows current index → SamePlaces rows current before → IsTrue m ↔ HasMagic before →
    IsTrue r ↔ (IsTrue m × (slice_get index.of_rows var ≡ Some None) × (number ≢ row.default)) → IsTrue r ↔ IsNew before row number
new_is rows var number row current before index m r here is same has new =
    let kept = is.places var row here in
    let stay = stands rows current before var row same here in (
      λ t.
          let x = new.0 t in
          let both : Some (place_of_row current row) ≡ Some None = sym kept ∙ x.1 in
          let none : place_of_row current row ≡ None = cc in
          (has.0 x.0, stay ∙ none, x.2),
      λ x. new.1 (has.1 x.0, kept ∙ ap (λ (o : Option ℕ). Some o) (sym stay ∙ x.1), x.2),
    )

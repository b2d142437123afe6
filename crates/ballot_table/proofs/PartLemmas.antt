-- The parts of a list, one after another.
use Rattle.std.proofs.Common.{◌≡◌, ℕ, ◌+◌, ◌<◌, ◌==◌, List, [], ◌∷◌, ◌++◌, map, length, take, drop, get_or}
use Rattle.std.proofs.Common.{Option, Some, None, Result, Ok, Err, refl, ap, sym, ◌∙◌, subst, add-one, append_assoc, append-nil}
use Rattle.std.specs.Borrow.{Bor}
use Rattle.std.specs.List.{filter_map, slice_get, slice_split}
use Rattle.std.proofs.Math.Seq.{drop-cons}
use Rattle.std.proofs.lemmas.List.{map-append, take-append-drop}
use Rattle.ballot_marks.specs.declared.says.Says.{Says}
use Rattle.ballot_table.specs.declared.table_kind.TableKind.{TableKind}
use Rattle.ballot_table.specs.Asked.{Asked}
use Rattle.ballot_table.specs.Cells.{all_of, all_or, fault_one, says_in}
use Rattle.ballot_table.specs.Faults.{sound, sound_one}
use Rattle.ballot_table.specs.Finding.{SaysMore, SaysAll}
use Rattle.ballot_table.specs.Said.{SaidList, IsSaying}
use Rattle.ballot_table.specs.Texts.{parts, trimmed}

abbrev Parsed : Type 0
Parsed = Result (Option Says) TableKind

abbrev pub pieces_of : List ℕ → List (List ℕ)
pieces_of list = slice_split (λ b. b == 59) list

abbrev fine : Option Says → Parsed
fine says = Ok says

none_faulty : (says : List (Option Says)) → filter_map fault_one (map fine says) ≡ []
none_faulty [] = refl
none_faulty (s ∷ says) = none_faulty says

all_sound : (says : List (Option Says)) → sound (map fine says) ≡ says
all_sound [] = refl
all_sound (s ∷ says) = ap (λ (l : List (Option Says)). s ∷ l) (all_sound says)

all_said : (says : List (Option Says)) → all_of (map fine says) ≡ Ok says
all_said says =
    ap (λ (kinds : List TableKind). all_or (slice_get kinds 0) (map fine says)) (none_faulty says) ∙ ap Ok (all_sound says)

first_faulty : (says : List (Option Says)) (kind : TableKind) (rest : List Parsed)
    → slice_get (filter_map fault_one (map fine says ++ Err kind ∷ rest)) 0 ≡ Some kind
first_faulty [] kind rest = refl
first_faulty (s ∷ says) kind rest = first_faulty says kind rest

one_faulty : (says : List (Option Says)) (kind : TableKind) (rest : List Parsed)
    → all_of (map fine says ++ Err kind ∷ rest) ≡ Err kind
one_faulty says kind rest =
    ap (λ (k : Option TableKind). all_or k (map fine says ++ Err kind ∷ rest)) (first_faulty says kind rest)

pub trimmed_each : (pieces : List (Bor (List ℕ)))
    → map (λ (p : Bor (List ℕ)). trimmed p.now) pieces ≡ map trimmed (map (λ (p : Bor (List ℕ)). p.now) pieces)
trimmed_each [] = refl
trimmed_each (p ∷ pieces) = ap (λ (l : List (List ℕ)). trimmed p.now ∷ l) (trimmed_each pieces)

-- Some texts say these, which are taken in.
pub record ArePushed (asked : Asked) (texts : List (List ℕ)) (old new : SaidList) : Type 0 where
  pub says : List (Option Says)
  pub all : map (says_in asked) texts ≡ map fine says
  pub said : SaysMore says old new

pub pushed_none : (asked : Asked) (said : SaidList) → ArePushed asked [] said said
pushed_none asked said = record {
  says = [];
  all = refl;
  said = λ before saying. subst (λ (l : List (Option Says)). IsSaying l said) (sym (append-nil before)) saying;
}

pub pushed_more : (asked : Asked) (texts : List (List ℕ)) (old new next : SaidList) (text : List ℕ) (says : Option Says)
    → ArePushed asked texts old new → says_in asked text ≡ Ok says
    → ((before : List (Option Says)) → IsSaying before new → IsSaying (before ++ says ∷ []) next)
    → ArePushed asked (texts ++ text ∷ []) old next
pushed_more asked texts old new next text says so_far is more = record {
  says = so_far.says ++ says ∷ [];
  all =
      map-append (says_in asked) texts (text ∷ [])
      ∙ ap (λ (r : Parsed). map (says_in asked) texts ++ r ∷ []) is
      ∙ ap (λ (l : List Parsed). l ++ fine says ∷ []) so_far.all
      ∙ sym (map-append fine so_far.says (says ∷ []));
  said = λ before saying.
      subst (λ (l : List (Option Says)). IsSaying l next) (append_assoc before so_far.says (says ∷ []))
      (more (before ++ so_far.says) (so_far.said before saying));
}

pub all_pushed : (asked : Asked) (list : List ℕ) (texts : List (List ℕ)) (old new : SaidList)
    → ArePushed asked texts old new → texts ≡ parts list
    → (fault_one (all_of (map (says_in asked) (parts list))) ≡ None)
    × SaysAll (sound_one (all_of (map (says_in asked) (parts list)))) old new
all_pushed asked list texts old new is same =
    let whole : all_of (map (says_in asked) (parts list)) ≡ Ok is.says =
    sym (ap (λ (ts : List (List ℕ)). all_of (map (says_in asked) ts)) same) ∙ ap all_of is.all ∙ all_said is.says in (
      ap fault_one whole,
      subst (λ (r : Result (List (Option Says)) TableKind). SaysAll (sound_one r) old new) (sym whole) is.said,
    )

-- a part at fault after sound ones
pub part_faulty : (asked : Asked) (list : List ℕ) (texts : List (List ℕ)) (old new : SaidList) (piece : List ℕ)
    (kind : TableKind) → ArePushed asked texts old new → texts ≡ map trimmed (take (length texts) (pieces_of list))
    → length texts < length (pieces_of list) → piece ≡ get_or (pieces_of list) (length texts) piece
    → says_in asked (trimmed piece) ≡ Err kind
    → fault_one (all_of (map (says_in asked) (parts list))) ≡ Some kind
part_faulty asked list texts old new piece kind is front inside here faulty =
    let n = length texts in
    let pieces = pieces_of list in
    let rest = map (says_in asked) (map trimmed (drop (n + 1) pieces)) in
    let cut : pieces ≡ take n pieces ++ piece ∷ drop (n + 1) pieces =
    sym (take-append-drop n pieces)
    ∙ ap (λ (l : List (List ℕ)). take n pieces ++ l)
    (drop-cons pieces n piece inside ∙ ap (λ (m : ℕ). get_or pieces n piece ∷ drop m pieces) (sym (add-one n))
    ∙ ap (λ (p : List ℕ). p ∷ drop (n + 1) pieces) (sym here)) in
    let said : map (says_in asked) (parts list) ≡ map fine is.says ++ Err kind ∷ rest =
    ap (λ (l : List (List ℕ)). map (says_in asked) (map trimmed l)) cut
    ∙ ap (map (says_in asked)) (map-append trimmed (take n pieces) (piece ∷ drop (n + 1) pieces))
    ∙ map-append (says_in asked) (map trimmed (take n pieces)) (trimmed piece ∷ map trimmed (drop (n + 1) pieces))
    ∙ ap (λ (l : List (List ℕ)). map (says_in asked) l ++ says_in asked (trimmed piece) ∷ rest) (sym front)
    ∙ ap (λ (l : List Parsed). l ++ says_in asked (trimmed piece) ∷ rest) is.all
    ∙ ap (λ (r : Parsed). map fine is.says ++ r ∷ rest) faulty in
    ap (λ (rs : List Parsed). fault_one (all_of rs)) said ∙ ap fault_one (one_faulty is.says kind rest)
